-- What a write to one output leaves of them all.
use Rattle.std.proofs.Common.{◌≡◌, ℕ, ◌<◌, Bool, true, false, cond, eqb, List, [], ◌∷◌, length, ltb, set, None, Some, MatchOption, refl, ap, ◌∙◌, arith, length-set}
use Rattle.std.proofs.lemmas.Bool.{ltb-true}
use Rattle.std.proofs.lemmas.Grind.{common_steps}
use Rattle.std.specs.List.{position, position_or_len, list_any, find, refill}
use Rattle.std.specs.Option.{option_map}
use Rattle.arrayvec.proofs.ArrayVecLemmas.{items-with_items}
use Rattle.board.specs.declared.ports.Output.{Output}
use Rattle.board.specs.Ports.{is_at}

-- one is there where the first place is within the list
found_any : {X : Type 0} (p : X → Bool) (xs : List X) → ltb (position_or_len p xs) (length xs) ≡ list_any p xs
found_any p [] = refl
found_any p (x ∷ xs) = grind (arith, common_steps, found_any p xs)

found_by : (n l : ℕ) (t : Bool) → ltb n l ≡ t → MatchOption (cond (ltb n l) (Some n) None) (t ≡ false) (λ i. (t ≡ true) × (i ≡ n) × (i < l))
found_by n l true e = rw e (refl, refl, ltb-true n l e)
found_by n l false e = rw e refl

pub found_at : {X : Type 0} (p : X → Bool) (xs : List X) → MatchOption (position p xs) (list_any p xs ≡ false) (λ i. (list_any p xs ≡ true) × (i ≡ position_or_len p xs) × (i < length xs))
found_at p xs = found_by (position_or_len p xs) (length xs) (list_any p xs) (found_any p xs)

-- the output at the address has the byte, and every other keeps its own
kept_latest : (os : List Output) (x v a : ℕ) → list_any (is_at x) os ≡ true
    → option_map (λ o. o.latest) (find (is_at a) (set os (position_or_len (is_at x) os) (record { at = x; latest = v })))
    ≡ cond (eqb a x) (Some v) (option_map (λ o. o.latest) (find (is_at a) os))
kept_latest [] x v a h = grind arith
kept_latest (o ∷ os) x v a h = grind (arith, common_steps, kept_latest os x v a)

pub kept_written : (os is ws : List Output) (x v i a : ℕ) → is ≡ os → ws ≡ is → i ≡ position_or_len (is_at x) os → list_any (is_at x) os ≡ true
    → option_map (λ o. o.latest) (find (is_at a) (refill (length is) is (set ws i (record { at = x; latest = v }))))
    ≡ cond (eqb a x) (Some v) (option_map (λ o. o.latest) (find (is_at a) os))
kept_written os is ws x v i a s e f h =
    rw (e, s, f) (ap (λ z. option_map (λ o. o.latest) (find (is_at a) z)) (items-with_items (record { items = os }) _ (length-set os _ _)) ∙ kept_latest os x v a h)
