-- Which rows lead to which, and what is known on top of the data stack because of it.
use Rattle.std.specs.Prelude.{ℕ, Bool, false, cond, ◌&&◌, ◌||◌, List, [], ◌∷◌, Some, None, Option, ◌==◌}
use Rattle.std.specs.List.{list_all}
use Rattle.instruction.specs.declared.decoding.Instruction.{Instruction}
use Rattle.instruction.specs.declared.control.Flow.{Flow}
use Rattle.instruction.specs.declared.control.Flow.TheVariants.{Goes, Calls, Returns}
use Rattle.instruction.specs.Flow.{flow, ends}
use Rattle.instruction.specs.Claim.{Knows, learns}
use Rattle.records.specs.declared.row.Row.{Row}
use Rattle.records.specs.Lists.{implies}
use Rattle.records.specs.Routine.{Routine, instruction_at, address_of, end_of}
use Rattle.sheet.specs.Known.{claimed, unknown}

-- does control go on to an address, from an instruction that ends at `back`: a call comes back there
abbrev pub goes_on_to : Flow → ℕ → ℕ → Bool
goes_on_to (Goes v w) back a = v == a || w == a
goes_on_to (Calls t) back a = back == a
goes_on_to Returns back a = false

abbrev pub instruction_leads : Option Instruction → ℕ → ℕ → Bool
instruction_leads None at a = false
instruction_leads (Some i) at a = goes_on_to (flow i at) (ends i at) a

-- the row r leads to the row f
abbrev pub leads : Routine → Row → Row → Bool
leads R f r = instruction_leads (instruction_at R r) (address_of R r) (address_of R f)

-- a row that leads to f is the row b
abbrev pub spares : Routine → Row → Row → Row → Bool
spares R f b r = implies (leads R f r) (r.offset == b.offset)

-- the row b ends where f starts, and no other row leads to f
abbrev pub only_from : Routine → Row → Row → Bool
only_from R f b = end_of R b == f.offset && list_all (spares R f b) R.rows

-- the word that an instruction puts on top, whatever came before it: PUSHD #w puts w there
abbrev pub word_of : Option Instruction → Option ℕ
word_of None = None
word_of (Some i) = (learns i unknown).top

-- the row before the row at f's offset
abbrev pub row_before : Option Row → List Row → Row → Option Row
row_before before [] f = None
row_before before (r ∷ rs) f = cond (r.offset == f.offset) before (row_before (Some r) rs f)

-- the word on top at f, if the row before it puts it there
abbrev pub word_from : Routine → Row → Option Row → Option ℕ
word_from R f None = None
word_from R f (Some b) = cond (only_from R f b) (word_of (instruction_at R b)) None

-- the word known on top of the data stack at a row
unfoldable pub primed : Routine → Row → Option ℕ
primed R f = word_from R f (row_before None R.rows f)

-- what is known at a row
abbrev pub knows : Routine → Row → Knows
knows R r = record { pointer = claimed r.pointers; top = primed R r }
