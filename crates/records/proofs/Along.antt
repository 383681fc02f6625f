-- One turn along a chain, and what an acceptance says of a whole chain.
use Rattle.std.proofs.Common.{◌≡◌, ℕ, zero, suc, ◌+◌, ◌-◌, ◌<◌, ◌≤◌, Bool, true, false, cond, ltb, List, [], ◌∷◌, length, Some, Option, sym, refl, ap, ◌∙◌, arith}
use Rattle.std.proofs.lemmas.Bool.{ne_eqb, cond-true}
use Rattle.std.specs.List.{AllByRecursion}
use Rattle.refusal.specs.Questions.{Asked, Verdict, accepted, refused, first_no}
use Rattle.refusal.proofs.Verdicts.{then, first_no-++}
use Rattle.records.specs.declared.chain.Link.{Link}
use Rattle.records.specs.Lists.{each}
use Rattle.records.specs.Records.{record_count, record_at, next_of, links, along}

-- verdicts that accept

pub not_refused : (n p : ℕ) → accepted ≡ refused n p → ⊥
not_refused n p e = let z : ◌≡◌ {A = ℕ} 0 1 = cc in omega arith

pub then-rest : (v w : Verdict) → accepted ≡ then v w → accepted ≡ w
then-rest accepted w e = e
then-rest (refused n p) w e = absurd (not_refused n p e)

pub then_first : (v w : Verdict) → accepted ≡ then v w → accepted ≡ v
then_first accepted w e = refl
then_first (refused n p) w e = absurd (not_refused n p e)

-- a question that was passed
pub yes_then : (b : Bool) (v : Verdict) (n p : ℕ) → accepted ≡ cond b v (refused n p) → (b ≡ true) × (accepted ≡ v)
yes_then true v n p e = (refl, e)
yes_then false v n p e = absurd (not_refused n p e)

stopped : (b : Bool) (v w : Verdict) {n p : ℕ} → refused n p ≡ cond b accepted w → cond b v w ≡ refused n p
stopped true v w e = absurd (not_refused _ _ (sym e))
stopped false v w e = sym e

-- one turn over what is asked of each

pub each_none : {P : Type 0} (f : P → List Asked) (xs : List P) → xs ≡ [] → accepted ≡ first_no (each f xs)
unfolding each
each_none f xs e = rw e

module _ {P : Type 0} (f : P → List Asked) (xs rest : List P) (x : P) where
  pub each_no : (n p : ℕ) → xs ≡ x ∷ rest → refused n p ≡ first_no (f x) → first_no (each f xs) ≡ refused n p
  unfolding each
  each_no n p e stop = rw e (first_no-++ (f x) (each f rest) ∙ rw (← stop))

  pub each_yes : xs ≡ x ∷ rest → accepted ≡ first_no (f x) → first_no (each f xs) ≡ first_no (each f rest)
  unfolding each
  each_yes e pass = rw e (first_no-++ (f x) (each f rest) ∙ rw (← pass))

-- the links of a chain

links_end : (sheet : List ℕ) (most holder : ℕ) → links sheet most holder 0 ≡ []
unfolding links
links_end sheet zero holder = refl
links_end sheet (suc most) holder = refl

pub links_none : (sheet : List ℕ) (most holder index : ℕ) → most ≡ 0 → links sheet most holder index ≡ []
unfolding links
links_none sheet zero holder index e = refl
links_none sheet (suc most) holder index e = absurd (omega arith)

links-more : (sheet : List ℕ) (most holder index : ℕ) → (index ≡ 0 → ⊥)
    → links sheet (suc most) holder index ≡ record { holder = holder; index = index } ∷ links sheet most index (next_of (record_at sheet index))
unfolding links
links-more sheet most holder index some = rw (ne_eqb index 0 some)

pub links_stop : (sheet : List ℕ) (most holder index : ℕ) → index ≡ 0 → links sheet most holder index ≡ []
links_stop sheet most holder index e = rw (e, links_end sheet most holder)

pub links_turn : (sheet : List ℕ) (most holder index after : ℕ) → (most ≡ 0 → ⊥) → (index ≡ 0 → ⊥) → after ≡ next_of (record_at sheet index)
    → links sheet most holder index ≡ record { holder = holder; index = index } ∷ links sheet (most - 1) index after
links_turn sheet most holder index after more some e =
    let f : most ≡ suc (most - 1) = omega arith in
    rw e (ap (λ (m : ℕ). links sheet m holder index) f ∙ links-more sheet (most - 1) holder index some)

pub length_links : (sheet : List ℕ) (most holder index : ℕ) → length (links sheet most holder index) ≤ most
unfolding links
length_links sheet zero holder index = omega arith
length_links sheet (suc most) holder zero = omega arith
length_links sheet (suc most) holder (suc index) =
    rw (links-more sheet most holder (suc index) (λ e. omega arith)) (omega (arith, length_links sheet most (suc index) (next_of (record_at sheet (suc index)))))

-- no link of a chain is the head's
pub links_past_head : (sheet : List ℕ) (most holder index : ℕ) → AllByRecursion (λ l. 0 < l.index) (links sheet most holder index)
unfolding links
links_past_head sheet zero holder index = tt
links_past_head sheet (suc most) holder zero = tt
links_past_head sheet (suc most) holder (suc index) =
    rw (links-more sheet most holder (suc index) (λ e. omega arith)) (omega arith, links_past_head sheet most (suc index) (next_of (record_at sheet (suc index))))

-- one turn of questions along a chain

module _ {R : Type 0} (number : ℕ) (read : List ℕ → R) (asks : ℕ → ℕ → Option R → R → List Asked) (sheet : List ℕ) where
  pub along_none : (nth : ℕ) (before : Option R) (ls : List Link) → ls ≡ [] → accepted ≡ first_no (along number read asks sheet nth before ls)
  unfolding along
  along_none nth before ls e = rw e

  along_turn : (nth : ℕ) (before : Option R) (ls rest : List Link) (l : Link) (r : R) → ls ≡ l ∷ rest → r ≡ read (record_at sheet l.index)
      → first_no (along number read asks sheet nth before ls)
      ≡ cond (ltb l.index (record_count sheet)) (then (first_no (asks nth l.index before r)) (first_no (along number read asks sheet (nth + 1) (Some r) rest))) (refused number l.holder)
  unfolding along
  along_turn nth before ls rest l r e f =
      rw (e, f) (ap (λ (v : Verdict). cond (ltb l.index (record_count sheet)) v (refused number l.holder)) (first_no-++ (asks nth l.index before (read (record_at sheet l.index))) (along number read asks sheet (nth + 1) (Some (read (record_at sheet l.index))) rest)))

  -- an index that is past the end
  pub along_bad : (nth : ℕ) (before : Option R) (ls rest : List Link) (l : Link) (n p : ℕ) → ls ≡ l ∷ rest → refused n p ≡ cond (ltb l.index (record_count sheet)) accepted (refused number l.holder)
      → first_no (along number read asks sheet nth before ls) ≡ refused n p
  along_bad nth before ls rest l n p e stop = along_turn nth before ls rest l _ e refl ∙ stopped (ltb l.index (record_count sheet)) _ _ stop

  within : (l : Link) → accepted ≡ cond (ltb l.index (record_count sheet)) accepted (refused number l.holder) → ltb l.index (record_count sheet) ≡ true
  within l e = (yes_then (ltb l.index (record_count sheet)) accepted number l.holder e).0

  pub along_no : (nth j : ℕ) (before : Option R) (ls rest : List Link) (l : Link) (r : R) (n p : ℕ) → ls ≡ l ∷ rest → j ≡ nth
      → accepted ≡ cond (ltb l.index (record_count sheet)) accepted (refused number l.holder)
      → r ≡ read (record_at sheet l.index) → refused n p ≡ first_no (asks j l.index before r) → first_no (along number read asks sheet nth before ls) ≡ refused n p
  along_no nth j before ls rest l r n p e at here f stop =
      along_turn nth before ls rest l r e f ∙ cond-true (ltb l.index (record_count sheet)) _ _ (within l here)
      ∙ ap (λ (v : Verdict). then v (first_no (along number read asks sheet (nth + 1) (Some r) rest))) (sym (stop ∙ ap (λ k. first_no (asks k l.index before r)) at))

  pub along_yes : (nth j next : ℕ) (before : Option R) (ls rest : List Link) (l : Link) (r : R) → ls ≡ l ∷ rest → j ≡ nth → next ≡ nth + 1
      → accepted ≡ cond (ltb l.index (record_count sheet)) accepted (refused number l.holder)
      → r ≡ read (record_at sheet l.index) → accepted ≡ first_no (asks j l.index before r)
      → first_no (along number read asks sheet nth before ls) ≡ first_no (along number read asks sheet next (Some r) rest)
  along_yes nth j next before ls rest l r e at on here f pass =
      along_turn nth before ls rest l r e f ∙ cond-true (ltb l.index (record_count sheet)) _ _ (within l here)
      ∙ ap (λ (v : Verdict). then v (first_no (along number read asks sheet (nth + 1) (Some r) rest))) (sym (pass ∙ ap (λ k. first_no (asks k l.index before r)) at))
      ∙ ap (λ k. first_no (along number read asks sheet k (Some r) rest)) (sym on)

  -- along a chain that was accepted, the record at hand was asked its questions, and then the rest
  pub along-passed : (nth : ℕ) (before : Option R) (ls : List Link) (l : Link) → accepted ≡ first_no (along number read asks sheet nth before (l ∷ ls))
      → accepted ≡ then (first_no (asks nth l.index before (read (record_at sheet l.index)))) (first_no (along number read asks sheet (nth + 1) (Some (read (record_at sheet l.index))) ls))
  along-passed nth before ls l pass = (yes_then (ltb l.index (record_count sheet)) _ number l.holder (pass ∙ along_turn nth before (l ∷ ls) ls l (read (record_at sheet l.index)) refl refl)).1
