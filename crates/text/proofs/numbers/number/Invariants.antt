use Rattle.std.proofs.Common.{length}
use Rattle.text.proofs.Digits.{Reading}
use Rattle.text.proofs.numbers.number.Given as goal

abbrev pub invariant-loop-digits : goal.invariant-loop-digits
invariant-loop-digits l = Reading l.radix l.text l.value l.digits

abbrev pub decreases-loop-digits : goal.decreases-loop-digits
decreases-loop-digits l = length l.digits
