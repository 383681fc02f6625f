-- What is asked of each row: of the instruction that stands there, and of the rows that follow it.
use Rattle.std.specs.Prelude.{ℕ, ◌+◌, ◌-◌, Bool, true, false, cond, ◌&&◌, List, [], ◌∷◌, is_some, Some, None, Option, ◌==◌, nat_le}
use Rattle.std.specs.List.{list_all}
use Rattle.refusal.specs.Questions.{Asked, ask}
use Rattle.instruction.specs.declared.decoding.Instruction.{Instruction}
use Rattle.instruction.specs.declared.control.Flow.{Flow}
use Rattle.instruction.specs.declared.control.Flow.TheVariants.{Goes, Calls, Returns}
use Rattle.instruction.specs.Flow.{flow, ends, own_takes, own_gives}
use Rattle.instruction.specs.Claim.{claim, learns}
use Rattle.records.specs.declared.row.Row.{Row}
use Rattle.records.specs.Routine.{Routine, Digest, instruction_at, address_of}
use Rattle.sheet.specs.declared.follow.After.{After}
use Rattle.sheet.specs.Known.{allowed, narrower, seen, unknown, all_borne_out}
use Rattle.sheet.specs.Leads.{knows}

-- The rows that follow.

-- the row at an address
abbrev pub row_at : ℕ → List Row → ℕ → Option Row
row_at origin [] a = None
row_at origin (r ∷ rs) a = cond (origin + r.offset == a) (Some r) (row_at origin rs a)

abbrev pub follower : Routine → ℕ → Option Row
follower R a = row_at R.origin R.rows a

-- the row claims the depths that are left
abbrev pub same_depths : After → Option Row → Bool
same_depths a None = true
same_depths a (Some f) = f.depth == a.depth && f.returns == a.returns

-- the cycles cover the count of this way, a called routine's worst, and the row's cycles
abbrev pub covers : ℕ → After → Option Row → Bool
covers cycles a None = true
covers cycles a (Some f) = nat_le (a.count + a.worst + f.cycles) cycles

-- each pointer that the row marks is known, with that value
abbrev pub known_there : After → Option Row → Bool
known_there a None = true
known_there a (Some f) = all_borne_out f.pointers a.known

-- of all ways on, each question of all before the next
unfoldable pub ways : ℕ → ℕ → After → List (Option Row) → List Asked
ways i cycles a followers =
    ask 45 i (list_all (λ f. is_some f) followers)
    ∷ (ask 46 i (list_all (same_depths a) followers)
    ∷ (ask 47 i (list_all (covers cycles a) followers)
    ∷ (ask 48 i (list_all (known_there a) followers)
    ∷ [])))

-- What an instruction leaves.

abbrev pub afterwards : Routine → Row → Instruction → After
afterwards R r x = record {
  depth = r.depth - x.family.needs + x.family.leaves;
  returns = r.returns - own_takes x + own_gives x;
  count = x.family.cycles;
  worst = 0;
  known = seen (learns x (knows R r));
}

-- the called results stand in place of the arguments, and no pointer is known
abbrev pub after_call : After → Digest → After
after_call a D = record {
  depth = a.depth - D.arguments + D.results;
  returns = a.returns;
  count = a.count;
  worst = D.worst;
  known = seen unknown;
}

-- Calls and returns.

-- the fitted routine with an origin
abbrev pub finds : List Digest → ℕ → Option Digest
finds [] t = None
finds (D ∷ Ds) t = cond (D.origin == t) (Some D) (finds Ds t)

-- the called routine fits here: its arguments are there, its peaks on top of what stands here are within ours, its return
-- address takes 2 bytes, and its windows lie in ours
unfoldable pub fits : Routine → After → Digest → Bool
fits R a D =
    nat_le D.arguments a.depth
    && (nat_le (a.depth - D.arguments + D.peak) R.peak
    && (nat_le (a.returns + 2 + D.returns) R.returns && narrower D.windows R.windows))

unfoldable pub call_asks : Routine → ℕ → Row → After → ℕ → Option Digest → List Asked
call_asks R i r a back None = ask 42 i false ∷ []
call_asks R i r a back (Some D) =
    ask 42 i true ∷ (ask 43 i (fits R a D) ∷ ways i r.cycles (after_call a D) (follower R back ∷ []))

-- exactly the results are left, and no return byte
unfoldable pub leaves_results : After → ℕ → Bool
leaves_results a results = a.depth == results && a.returns == 0

unfoldable pub return_asks : Routine → ℕ → Row → After → List Asked
return_asks R i r a = ask 44 i (leaves_results a R.results) ∷ (ask 47 i (nat_le (a.count + a.worst) r.cycles) ∷ [])

-- The row with its instruction.

-- the depths cover what the instruction needs; the address that a return takes is not counted
unfoldable pub enough : Row → Instruction → Bool
enough r x = nat_le x.family.needs r.depth && nat_le (own_takes x) r.returns

unfoldable pub flow_asks : Routine → List Digest → ℕ → Row → After → ℕ → Flow → List Asked
flow_asks R fitted i r a back (Goes v w) = ways i r.cycles a (follower R v ∷ (follower R w ∷ []))
flow_asks R fitted i r a back (Calls t) = call_asks R i r a back (finds fitted t)
flow_asks R fitted i r a back Returns = return_asks R i r a

abbrev pub instruction_asks : Routine → List Digest → ℕ → Row → Option Instruction → List Asked
instruction_asks R fitted i r None = ask 32 i false ∷ []
instruction_asks R fitted i r (Some x) =
    ask 40 i (enough r x)
    ∷ (ask 41 i (allowed R.windows (claim x (knows R r)))
    ∷ flow_asks R fitted i r (afterwards R r x) (ends x (address_of R r)) (flow x (address_of R r)))

-- of the row r, which stands at the index i
unfoldable pub step_asks : Routine → List Digest → ℕ → Row → List Asked
step_asks R fitted i r = instruction_asks R fitted i r (instruction_at R r)
