-- An origin that is put at the first place that is empty or holds it.
use Rattle.std.proofs.Common.{◌≡◌, ℕ, ◌<◌, ◌≤◌, Bool, true, eqb, List, [], ◌∷◌, length, set, Some, None, Option, sym, refl, ◌∙◌, subst, ⊎_elim, arith}
use Rattle.std.proofs.Math.Numerals.{one-add}
use Rattle.std.proofs.lemmas.Bool.Decides.{nat_tests}
use Rattle.std.proofs.lemmas.Bool.{ltb-true, lt-ltb, cond-true, cases_lt}
use Rattle.std.proofs.lemmas.Option.{cond_some, none-some}
use Rattle.std.specs.List.{position_or_len, position}
use Rattle.sheet.specs.Kept.{noted}

abbrev pub serves : ℕ → Option ℕ → Bool
serves t None = true
serves t (Some u) = eqb u t

pub noted_there : (os : List (Option ℕ)) (t : ℕ) → position_or_len (serves t) os < length os → set os (position_or_len (serves t) os) (Some t) ≡ noted os t
noted_there [] t h = absurd (omega arith)
noted_there (None ∷ os) t h = refl
noted_there (Some u ∷ os) t h = let rest = noted_there os t in grind (arith, nat_tests, one-add)

pub noted_full : (os : List (Option ℕ)) (t : ℕ) → length os ≤ position_or_len (serves t) os → os ≡ noted os t
noted_full [] t h = refl
noted_full (None ∷ os) t h = absurd (omega arith)
noted_full (Some u ∷ os) t h = let rest = noted_full os t in grind (arith, nat_tests)

pub noted_at : (os : List (Option ℕ)) (t i : ℕ) → position (serves t) os ≡ Some i → set os i (Some t) ≡ noted os t
noted_at os t i e =
    let first = cond_some _ _ _ e in
    subst (λ (k : ℕ). set os k (Some t) ≡ noted os t) first.1 (noted_there os t (ltb-true _ _ first.0))

pub noted_nowhere : (os : List (Option ℕ)) (t : ℕ) → position (serves t) os ≡ None → os ≡ noted os t
noted_nowhere os t e =
    ⊎_elim
    (λ (lt : position_or_len (serves t) os < length os). absurd (none-some _ (sym e ∙ cond-true _ _ _ (lt-ltb _ _ lt))))
    (noted_full os t)
    (cases_lt (position_or_len (serves t) os) (length os))
