-- What is asked of each row by itself, and of the first.
use Rattle.std.specs.Prelude.{ℕ, Bool, ◌&&◌, List, [], ◌∷◌, is_some, Some, None, Option, ◌==◌, nat_le}
use Rattle.refusal.specs.Questions.{Asked, ask}
use Rattle.records.specs.declared.row.Row.{Row}
use Rattle.records.specs.Routine.{Routine, instruction_at, end_of}
use Rattle.records.specs.Ground.{Ground}

-- the first row stands at 0, each other at or past the end of the one before
abbrev pub placed : Routine → Option Row → Row → Bool
placed R None r = r.offset == 0
placed R (Some b) r = nat_le (end_of R b) r.offset

-- the depths are within the peaks, and there are marks of four pointers at most
unfoldable pub bounded : Routine → Row → Bool
bounded R r = nat_le r.depth R.peak && (nat_le r.returns R.returns && nat_le r.marks 15)

abbrev pub row_asks : Ground → ℕ → ℕ → Option Row → Row → List Asked
row_asks g nth i before r =
    ask 31 i (placed g.routine before r)
    ∷ (ask 32 i (is_some (instruction_at g.routine r))
    ∷ (ask 33 i (bounded g.routine r)
    ∷ []))

-- at the first row stand the arguments and nothing else: no return byte, no known pointer, and the worst is not exceeded
unfoldable pub starts_well : Routine → Row → Bool
starts_well R r =
    (r.depth == R.arguments) && (r.returns == 0 && (r.marks == 0 && nat_le r.cycles R.worst))
