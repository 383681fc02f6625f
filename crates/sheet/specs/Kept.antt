-- The entry that a node keeps of an accepted sheet.
use Rattle.std.specs.Prelude.{ℕ, cond, List, [], ◌∷◌, replicate, Some, None, Option, ◌==◌}
use Rattle.std.specs.List.{slice_get}
use Rattle.instruction.specs.declared.decoding.Instruction.{Instruction}
use Rattle.instruction.specs.declared.control.Flow.{Flow}
use Rattle.instruction.specs.declared.control.Flow.TheVariants.{Goes, Calls, Returns}
use Rattle.instruction.specs.Flow.{flow}
use Rattle.records.specs.declared.window.Window.{Window}
use Rattle.records.specs.declared.row.Row.{Row}
use Rattle.records.specs.declared.entry.Entry.{Entry}
use Rattle.records.specs.Routine.{Routine, instruction_at, address_of}

-- the first eight windows, each at its place
abbrev pub eight_places : List Window → List (Option Window)
eight_places ws =
    slice_get ws 0 ∷ (slice_get ws 1 ∷ (slice_get ws 2 ∷ (slice_get ws 3 ∷ (slice_get ws 4 ∷ (slice_get ws 5 ∷ (slice_get ws 6 ∷ (slice_get ws 7 ∷ [])))))))

-- the origin that a row calls
abbrev pub call_by : Flow → Option ℕ
call_by (Goes v w) = None
call_by (Calls t) = Some t
call_by Returns = None

abbrev pub call_in : Option Instruction → ℕ → Option ℕ
call_in None at = None
call_in (Some i) at = call_by (flow i at)

abbrev pub call_of : Routine → Row → Option ℕ
call_of R r = call_in (instruction_at R r) (address_of R r)

-- an origin is put at the first empty place, unless it stands there already
abbrev pub noted : List (Option ℕ) → ℕ → List (Option ℕ)
noted [] t = []
noted (None ∷ os) t = Some t ∷ os
noted (Some u ∷ os) t = cond (u == t) (Some u ∷ os) (Some u ∷ noted os t)

abbrev pub noted_call : List (Option ℕ) → Option ℕ → List (Option ℕ)
noted_call os None = os
noted_call os (Some t) = noted os t

-- the origins that rows call, in the order of the first call
abbrev pub calls_of : Routine → List (Option ℕ) → List Row → List (Option ℕ)
calls_of R os [] = os
calls_of R os (r ∷ rs) = calls_of R (noted_call os (call_of R r)) rs

unfoldable pub entry_of : Routine → Entry
entry_of R = record {
  origin = R.origin;
  length = R.length;
  arguments = R.arguments;
  results = R.results;
  peak = R.peak;
  returns = R.returns;
  worst = R.worst;
  windows = eight_places R.windows;
  called = calls_of R (replicate 32 None) R.rows;
}
