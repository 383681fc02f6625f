-- A verdict as text.
use Rattle.std.specs.Prelude.{ℕ, List, ◌++◌, Ok, Err, codes, decimal, Result}
use Rattle.refusal.specs.declared.Refusal.{Refusal}
use Rattle.refusal.specs.Questions.{spelt}
use Rattle.records.specs.declared.entry.Entry.{Entry}

-- `FIT` and the worst cycles, or the refusal
abbrev pub told : Result Entry Refusal → List ℕ
told (Ok e) = codes "FIT " ++ decimal e.worst
told (Err r) = spelt r
