use Rattle.std.proofs.Common.{◌≡◌, length}
use Rattle.std.specs.Str.Parse.{digits_value, digits_value_after}
use Rattle.fq_notation.specs.Digits.{after_digits, leading_digits}
use Rattle.fq_notation.proofs.digits.few_digits.Given as goal

-- what is left to read goes on as all of it
abbrev pub invariant-loop-rest : goal.invariant-loop-rest
invariant-loop-rest l = record {
  value : digits_value_after 10 l.number (leading_digits l.rest) ≡ digits_value 10 (leading_digits l.bytes);
  rest : after_digits l.rest ≡ after_digits l.bytes;
}

abbrev pub decreases-loop-rest : goal.decreases-loop-rest
decreases-loop-rest l = length l.rest
