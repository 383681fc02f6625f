use Rattle.std.proofs.Common.{rules, ◌≡◌, ◌+◌, ◌*◌, ◌<◌, ◌≤◌, get_or, arith, ⊎_elim}
use Rattle.std.specs.Char.{digit_value}
use Rattle.std.proofs.lemmas.Bool.{cases_lt}
use Rattle.text.proofs.Digits.{too_large, all_read}
use Rattle.text.proofs.numbers.number.Goals as goal

pub returns : goal.returns
returns c = all_read c.args.radix c.loop-digits.value c.args.text.now c.loop-digits.digits.now c.loop-digits.invariant c.in_default.len_below (search rules)

pub returns-in_err-value : goal.returns-in_err-value
returns-in_err-value c =
    let digit : c.in_ok-digit.digit ≡ digit_value (get_or c.loop-digits.digits.now 0 0) = search rules in
    let much : 4294967296 ≤ c.loop-digits.value * c.args.radix + c.in_ok-digit.digit =
    ⊎_elim (λ (k : c.loop-digits.value * c.args.radix + c.in_ok-digit.digit < 4294967296). absurd (search rules)) (λ k. k)
    (cases_lt (c.loop-digits.value * c.args.radix + c.in_ok-digit.digit) 4294967296) in
    rw c.from_residual-in_err-value.ensures (λ p. too_large c.args.radix c.loop-digits.value c.args.text.now c.loop-digits.digits.now c.requires.lower_bound c.loop-digits.invariant c.in-len1-up.len_at_least (omega (arith, much, digit)) p)
