-- What is asked of the numbers that settings are made from.
use Rattle.std.specs.Prelude.{ℕ, ◌+◌, ◌-◌, Bool, ◌&&◌, ◌||◌, List, [], ◌∷◌, nat_le, nat_lt}
use Rattle.refusal.specs.Questions.{Asked, ask}

-- the base page's 256 bytes lie inside the address range
abbrev pub page_fits : ℕ → Bool
page_fits page = nat_le page 65280

-- the code area has 1 to 8,192 bytes and is clear of the base page
abbrev pub area_fits : ℕ → ℕ → ℕ → Bool
area_fits page first last = nat_le first last && (nat_lt (last - first) 8192 && (nat_lt last page || nat_le (page + 256) first))

abbrev pub limits_fit : ℕ → ℕ → Bool
limits_fit stack returns = nat_le 1 stack && (nat_le stack 255 && (nat_le 2 returns && nat_le returns 255))

abbrev pub settings_asks : ℕ → ℕ → ℕ → ℕ → ℕ → List Asked
settings_asks page first last stack returns =
    ask 1 0 (page_fits page) ∷ (ask 2 0 (area_fits page first last) ∷ (ask 3 0 (limits_fit stack returns) ∷ []))
