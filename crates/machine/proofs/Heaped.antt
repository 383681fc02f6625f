-- How the list of a stack's bytes follows from its cells and its depth.
use Rattle.std.proofs.Common.{◌≡◌, ℕ, zero, suc, ◌+◌, ◌<◌, ◌≤◌, ◌≢◌, List, [], ◌∷◌, ◌++◌, reverse, length, get_or, take, drop, set, sym, refl, ap, ◌∙◌, arith, get_or-set_other, take-suc, get_or-set_same, length-append}
use Rattle.std.proofs.lemmas.List.{reverse-append, take-append-le, take_all}
use Rattle.machine.specs.Bytes.{heaped}

pub length_heaped : (cells : List ℕ) (n : ℕ) → length (heaped cells n) ≡ n
unfolding heaped
length_heaped cells zero = refl
length_heaped cells (suc n) = ap suc (length_heaped cells n)

pub set_above : (cells : List ℕ) (n i v : ℕ) → n ≤ i → heaped (set cells i v) n ≡ heaped cells n
unfolding heaped
set_above cells zero i v h = refl
set_above cells (suc n) i v h =
    let ne : n ≢ i = omega arith in
    let le : n ≤ i = omega arith in
    let e = set_above cells n i v le in
    rw get_or-set_other (rw e refl)

pub pushed : (cells : List ℕ) (n m v : ℕ) → m ≡ suc n → n < length cells → heaped (set cells n v) m ≡ v ∷ heaped cells n
unfolding heaped
pushed cells n m v e h = rw e (rw get_or-set_same (rw (set_above cells n n v (omega arith)) refl))

pub popped : (cells : List ℕ) (n m : ℕ) → suc n ≡ m → heaped cells m ≡ get_or cells n 0 ∷ heaped cells n
unfolding heaped
popped cells n m e = rw (← e) refl

pub peeked : (cells : List ℕ) (n k i : ℕ) → i + suc k ≡ n → get_or cells i 0 ≡ get_or (heaped cells n) k 0
unfolding heaped
peeked cells zero k i e = absurd (omega arith)
peeked cells (suc n) zero i e = let same : i ≡ n = omega arith in ap (λ j. get_or cells j 0) same
peeked cells (suc n) (suc k) i e = peeked cells n k i (omega arith)

pub poked : (cells : List ℕ) (n k i v : ℕ) → i + suc k ≡ n → n ≤ length cells → heaped (set cells i v) n ≡ set (heaped cells n) k v
unfolding heaped
poked cells zero k i v e h = absurd (omega arith)
poked cells (suc n) zero i v e h =
    let same : n ≡ i = omega arith in
    let lt : i < length cells = omega arith in
    rw same (rw get_or-set_same (rw (set_above cells i i v (omega arith)) refl))
poked cells (suc n) (suc k) i v e h =
    let ne : n ≢ i = omega arith in
    let r = poked cells n k i v (omega arith) (omega arith) in
    rw get_or-set_other (rw r refl)

pub cut : (cells : List ℕ) (n k i : ℕ) → i + k ≡ n → heaped cells i ≡ drop k (heaped cells n)
unfolding heaped
cut cells zero zero i e = let z : i ≡ 0 = omega arith in rw z refl
cut cells zero (suc k) i e = absurd (omega arith)
cut cells (suc n) zero i e = let z : i ≡ suc n = omega arith in rw z refl
cut cells (suc n) (suc k) i e = cut cells n k i (omega arith)

pub as_reverse : (cells : List ℕ) (n : ℕ) → n ≤ length cells → reverse (take n cells) ≡ heaped cells n
unfolding heaped
as_reverse cells zero h = refl
as_reverse cells (suc n) h =
    let e : take (suc n) cells ≡ take n cells ++ (get_or cells n 0 ∷ []) = take-suc cells n 0 (omega arith) in
    ap reverse e ∙ reverse-append (take n cells) (get_or cells n 0 ∷ []) ∙ ap (λ xs. get_or cells n 0 ∷ xs) (as_reverse cells n (omega arith))

-- a list written to the first of the cells
pub laid : (ys zs given : List ℕ) (n : ℕ) → ys ≡ given → n ≡ length given → heaped (ys ++ zs) n ≡ reverse given
laid ys zs given n e q =
    let many : length ys ≡ n = ap length e ∙ sym q in
    let whole : length (ys ++ zs) ≡ length ys + length zs = length-append ys zs in
    let front = take-append-le n ys zs (omega arith) ∙ take_all n ys (omega arith) ∙ e in
    sym (as_reverse (ys ++ zs) n (omega arith)) ∙ ap reverse front
