-- What may be done on both sides of a boundary.
use Rattle.std.proofs.Common.{◌≡◌, ℕ, ◌-◌, ◌<◌, ◌≤◌, Bool, true, false, ◌&&◌, refl, ap, ◌∙◌, arith}
use Rattle.std.proofs.lemmas.Bool.{lt-ltb, le-ltb}
use Rattle.board.specs.Meaning.{Meaning, allowed, spans}
use Rattle.board.specs.declared.Right.{Right}
use Rattle.board.specs.declared.Right.TheVariants.{Read, Write, Both}
use Rattle.board.proofs.Every.{between_same, between_cut}
use Rattle.board.specs.declared.split.Split.{Split}
use Rattle.board.specs.Split.{below, split_meaning}

module _ {L U : Type 0} (m : Meaning L) (n : Meaning U) (s : Split L U) where
  lower_allowed : (right : Right) (a : ℕ) → below s a ≡ true → allowed m s.lower right a ≡ allowed (split_meaning m n) s right a
  lower_allowed Read a h = rw h refl
  lower_allowed Write a h = rw h refl
  lower_allowed Both a h = rw h refl

  upper_allowed : (right : Right) (a : ℕ) → below s a ≡ false → allowed n s.upper right a ≡ allowed (split_meaning m n) s right a
  upper_allowed Read a h = rw h refl
  upper_allowed Write a h = rw h refl
  upper_allowed Both a h = rw h refl

  pub lower_spans : (right : Right) (first last : ℕ) → last < s.boundary → spans m s.lower right first last ≡ spans (split_meaning m n) s right first last
  lower_spans right first last h =
      between_same (allowed m s.lower right) (allowed (split_meaning m n) s right) first last
      (λ a l k. lower_allowed right a (lt-ltb a s.boundary (omega arith)))

  pub upper_spans : (right : Right) (first last : ℕ) → s.boundary ≤ first → spans n s.upper right first last ≡ spans (split_meaning m n) s right first last
  upper_spans right first last h =
      between_same (allowed n s.upper right) (allowed (split_meaning m n) s right) first last
      (λ a l k. upper_allowed right a (le-ltb a s.boundary (omega arith)))

  pub both_span : (right : Right) (first last : ℕ) (x y : Bool) → first < s.boundary → s.boundary ≤ last
      → x ≡ spans m s.lower right first (s.boundary - 1) → y ≡ spans n s.upper right s.boundary last
      → (x && y) ≡ spans (split_meaning m n) s right first last
  both_span right first last x y l h e f =
      let p = e ∙ lower_spans right first (s.boundary - 1) (omega arith) in
      let q = f ∙ upper_spans right s.boundary last (omega arith) in
      ap (λ z. z && y) p ∙ ap (λ z. spans (split_meaning m n) s right first (s.boundary - 1) && z) q
      ∙ between_cut (allowed (split_meaning m n) s right) first last s.boundary l h
