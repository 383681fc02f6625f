-- Digits that are read one after another, and few of them, which write a small number.
use Rattle.std.proofs.Common.{ℕ, ◌+◌, ◌*◌, ◌^◌, ◌<◌, ◌≤◌, ◌≡◌, List, [], ◌∷◌, length, get_or, arith}
use Rattle.std.specs.Char.{digit_value}
use Rattle.std.specs.Str.Parse.{AllDigits, IsNumeral, digits_value, digits_value_after}
use Rattle.std.proofs.lemmas.Int.Digits.{digits_value-lt}
use Rattle.std.proofs.Math.Nat.{pow-le-pow_right, le-mul_of_pos_right}

-- what is read so far, and the digits that are left
pub record Reading (radix : ℕ) (text : List ℕ) (value : ℕ) (digits : List ℕ) : Type 0 where
  pub same : digits_value_after radix value digits ≡ digits_value radix text
  pub left : AllDigits radix text → AllDigits radix digits
  pub read : AllDigits radix digits → AllDigits radix text
  pub small : value < 4294967296

-- the number grows with each digit
grows : (radix n : ℕ) (ds : List ℕ) → 1 ≤ radix → n ≤ digits_value_after radix n ds
grows radix n [] h = omega arith
grows radix n (c ∷ cs) h =
    let k : n ≤ n * radix = le-mul_of_pos_right n h in
    let more = grows radix (n * radix + digit_value c) cs h in omega (arith, k, more)

-- with one more digit it would be too large, and so the text is
pub too_large : (radix value : ℕ) (text digits : List ℕ) → 2 ≤ radix → Reading radix text value digits → 1 ≤ length digits
    → 4294967296 ≤ value * radix + digit_value (get_or digits 0 0) → IsNumeral radix text × (digits_value radix text < 4294967296) → ⊥
too_large radix value text [] b r l h p = omega arith
too_large radix value text (c ∷ cs) b r l h p =
    let more = grows radix (value * radix + digit_value c) cs (omega arith) in
    let same : digits_value_after radix (value * radix + digit_value c) cs ≡ digits_value radix text = r.same in
    let small = p.1 in
    omega (arith, more, same, small, h)

-- no digit is left
pub all_read : (radix value : ℕ) (text digits : List ℕ) → Reading radix text value digits → length digits < 1 → 0 < length text
    → (IsNumeral radix text × (digits_value radix text < 4294967296)) × (value ≡ digits_value radix text)
all_read radix value text [] r l some = let same : value ≡ digits_value radix text = r.same in (((some, r.read tt), omega (arith, same, r.small)), same)
all_read radix value text (c ∷ cs) r l some = absurd (omega arith)

pub value_of_digits : (n : ℕ) (ds : List ℕ) → IsNumeral 16 ds → length ds ≤ n → digits_value 16 ds < 16 ^ n
value_of_digits n ds h l = let most : 16 ^ length ds ≤ 16 ^ n = pow-le-pow_right (omega arith) l in omega (arith, digits_value-lt 16 ds h.1)

pub value_of_two : (ds : List ℕ) → IsNumeral 16 ds → length ds ≤ 2 → digits_value 16 ds < 256
value_of_two = value_of_digits 2

pub value_of_four : (ds : List ℕ) → IsNumeral 16 ds → length ds ≤ 4 → digits_value 16 ds < 65536
value_of_four = value_of_digits 4
