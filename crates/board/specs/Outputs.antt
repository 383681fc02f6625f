-- What a write to an output leaves of their addresses: a law that the definitions of `Ports` imply.
use Rattle.std.specs.Prelude.{◌≡◌, ℕ, Bool, true, false, not, cond, List, [], ◌∷◌, ◌+◌, ◌||◌, ◌==◌, slice_set}
use Rattle.std.specs.List.{position_or_len, list_any}
use Rattle.std.proofs.Common.{refl, sym, ap, ◌∙◌, one-add}
use Rattle.std.proofs.lemmas.Bool.{eqb-true}
use Rattle.board.specs.declared.ports.Output.{Output}
use Rattle.board.specs.Ports.{is_at}

one_more : (o : Output) (os : List Output) (x v a n : ℕ) (b : Bool) → is_at x o ≡ b → list_any (is_at a) (slice_set os n (record { at = x; latest = v })) ≡ list_any (is_at a) os
    → list_any (is_at a) (slice_set (o ∷ os) (cond (not b) (1 + n) 0) (record { at = x; latest = v })) ≡ list_any (is_at a) (o ∷ os)
one_more o os x v a n true e h = ap (λ z. (z == a) || list_any (is_at a) os) (sym (eqb-true o.at x e))
one_more o os x v a n false e h = ap (λ m. list_any (is_at a) (slice_set (o ∷ os) m (record { at = x; latest = v }))) (one-add n) ∙ ap (λ z. is_at a o || z) h

pub same_addresses : (os : List Output) (x v a : ℕ) → list_any (is_at a) (slice_set os (position_or_len (is_at x) os) (record { at = x; latest = v })) ≡ list_any (is_at a) os
same_addresses [] x v a = refl
same_addresses (o ∷ os) x v a = one_more o os x v a (position_or_len (is_at x) os) (is_at x o) refl (same_addresses os x v a)
