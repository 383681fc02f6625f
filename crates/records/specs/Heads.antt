-- What is asked of a sheet's size and of its head.
use Rattle.std.specs.Prelude.{ℕ, ◌+◌, ◌%◌, Bool, ◌&&◌, ◌||◌, List, [], ◌∷◌, ◌==◌, nat_le, nat_lt}
use Rattle.std.proofs.Math.ListN as lists
use Rattle.std.specs.List.{list_all}
use Rattle.refusal.specs.Questions.{Asked, ask}
use Rattle.machine.specs.declared.settings.Settings.{Settings}
use Rattle.records.specs.Routine.{Routine, Digest}
use Rattle.records.specs.Ground.{Ground}

-- 2 to 256 whole records
abbrev pub whole_records : List ℕ → Bool
whole_records sheet = lists.length sheet % 18 == 0 && (nat_le 36 (lists.length sheet) && nat_le (lists.length sheet) 4608)

-- the code has 1 to 1,024 bytes, as the head says
unfoldable pub sized_as : Routine → Bool
sized_as R = R.length == lists.length R.code && (nat_le 1 R.length && nat_le R.length 1024)

-- arguments and results are at most 64, and at most the data peak
unfoldable pub few_parameters : Routine → Bool
few_parameters R =
    nat_le R.arguments 64 && (nat_le R.results 64 && (nat_le R.arguments R.peak && nat_le R.results R.peak))

unfoldable pub in_area : Settings → Routine → Bool
in_area s R = nat_le s.first R.origin && nat_le (R.origin + R.length) (s.last + 1)

abbrev pub apart : Routine → Digest → Bool
apart R D = nat_le (R.origin + R.length) D.origin || nat_le (D.origin + D.length) R.origin

unfoldable pub head_asks : Ground → List Asked
head_asks g =
    ask 11 0 (sized_as g.routine)
    ∷ (ask 12 0 (few_parameters g.routine)
    ∷ (ask 13 0 (in_area g.settings g.routine)
    ∷ (ask 14 0 (list_all (apart g.routine) g.fitted)
    ∷ (ask 15 0 (nat_lt (lists.length g.fitted) 32)
    ∷ []))))
