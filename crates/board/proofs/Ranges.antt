-- A test of every number that `first..=last` gives.
use Rattle.std.proofs.Common.{◌≡◌, ℕ, zero, suc, ◌+◌, ◌-◌, ◌<◌, Bool, true, false, List, ◌∷◌, refl, sym, ap, ◌∙◌, arith}
use Rattle.std.proofs.lemmas.Grind.{common_steps}
use Rattle.std.proofs.lemmas.Iterator.{YieldsList}
use Rattle.std.proofs.lemmas.Iterator.Consumers.{YieldsList-from_shown}
use Rattle.std.specs.List.{list_all, range_with_len}
use Rattle.std.specs.declared.ops.RangeInclusive.{RangeInclusive}
use Rattle.board.specs.Meaning.{between}
use Rattle.std.specs.Range.{range_inclusive_start, range_inclusive_left, range_inclusive_len, range_inclusive_steps}

abbrev gap : ℕ → ℕ → ℕ
gap a b = b - a

abbrev follows : ℕ → ℕ → Type 0
follows a b = b ≡ a + 1

abbrev shown : RangeInclusive ℕ → List ℕ
shown s = range_with_len (range_inclusive_start s) (range_inclusive_left gap s)

-- one number, and those from the next on
one_more : (a b n m : ℕ) → m + 1 ≡ n → (0 < m → b ≡ a + 1) → range_with_len a n ≡ a ∷ range_with_len b m
one_more a b n zero e h = let s : n ≡ 1 = omega arith in rw s refl
one_more a b n (suc m) e h =
    let s : n ≡ suc (suc m) = omega arith in
    let t : b ≡ a + 1 = h (omega arith) in
    rw (s, t) refl

left : (a b : ℕ) (spent : Bool) → 0 < range_inclusive_len gap a b spent → spent ≡ false
left a b true h = absurd (omega arith)
left a b false h = refl

pub yields_all : (s : RangeInclusive ℕ) → YieldsList (range_inclusive_steps gap follows) (λ x. x) s (shown s)
yields_all =
    YieldsList-from_shown (range_inclusive_steps gap follows) (λ x. x) shown (λ s t h. grind (arith, common_steps))
    (λ s x t h. one_more s.start t.start _ _ h.1.1 (λ l. h.1.2 (left t.start t.end t.exhausted l)) ∙ ap (λ z. z ∷ shown t) (sym h.1.0))

-- `first..=last` gives those from the first to the last
pub shown_between : (p : ℕ → Bool) (s : RangeInclusive ℕ) (first last : ℕ) → s.start ≡ first → s.end ≡ last → s.exhausted ≡ false → list_all p (shown s) ≡ between p first last
unfolding between
shown_between p s first last e f g =
    let n : range_inclusive_left gap s ≡ suc last - first = rw (g, e, f) (omega arith) in
    rw (n, e) refl
