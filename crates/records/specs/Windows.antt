-- What is asked of each window.
use Rattle.std.specs.Prelude.{ℕ, ◌+◌, Bool, true, ◌&&◌, ◌||◌, List, [], ◌∷◌, is_some, Some, None, Option, nat_le, nat_lt}
use Rattle.refusal.specs.Questions.{Asked, ask}
use Rattle.machine.specs.declared.settings.Settings.{Settings}
use Rattle.records.specs.declared.window.Window.{Window}
use Rattle.records.specs.Read.{right_of}
use Rattle.records.specs.Ground.{Ground}

-- above the window before
abbrev pub above : Option Window → Window → Bool
above None w = true
above (Some b) w = nat_lt b.last w.first

-- the first address is not past the last, the record names a right, and the window is above the one before
unfoldable pub shaped : Option Window → Window → Bool
shaped before w = nat_le w.first w.last && (is_some (right_of w.right) && above before w)

-- clear of the addresses from a first to a last
abbrev pub clear_of : ℕ → ℕ → Window → Bool
clear_of first last w = nat_lt w.last first || nat_lt last w.first

-- clear of the base page and the code area
unfoldable pub unreserved : Settings → Window → Bool
unreserved s w = clear_of s.page (s.page + 255) w && clear_of s.first s.last w

abbrev pub window_asks : Ground → ℕ → ℕ → Option Window → Window → List Asked
window_asks g nth i before w =
    ask 21 i (shaped before w)
    ∷ (ask 22 i (nat_lt nth 8)
    ∷ (ask 23 i (unreserved g.settings w)
    ∷ (ask 24 i (g.may w)
    ∷ [])))
