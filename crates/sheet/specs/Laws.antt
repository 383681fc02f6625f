-- What holds of an accepted sheet.
use Rattle.std.specs.Prelude.{◌≡◌, ℕ, Bool, false, List, ◌∷◌, ◌++◌, Some, None, Option, ◌==◌}
use Rattle.records.specs.declared.row.Row.{Row}
use Rattle.records.specs.declared.entry.Entry.{Entry}
use Rattle.records.specs.Lists.{any_pass}
use Rattle.records.specs.Routine.{Routine}
use Rattle.sheet.specs.Leads.{primed, word_from}
use Rattle.sheet.specs.Kept.{call_of}

abbrev pub is_origin : ℕ → Option ℕ → Bool
is_origin t None = false
is_origin t (Some u) = u == t

-- the origins kept as called are exactly those that some row calls
abbrev pub KeepsCalls : Routine → Entry → Type 0
KeepsCalls R e = (t : ℕ) → any_pass (is_origin t) e.called ≡ any_pass (λ r. is_origin t (call_of R r)) R.rows

-- the word that is known on top at a row comes from the row before it in the chain, and at the first row none is known
pub record PrimedByTheRowBefore (R : Routine) : Type 0 where
  pub at_first : (f : Row) (later : List Row) → R.rows ≡ f ∷ later → primed R f ≡ None
  pub at_others : (earlier later : List Row) (b f : Row) → R.rows ≡ earlier ++ (b ∷ (f ∷ later)) → primed R f ≡ word_from R f (Some b)
