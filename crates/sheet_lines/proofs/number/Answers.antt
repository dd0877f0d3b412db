-- One digit more. Assumes nothing.
use Rattle.std.proofs.Common.{refl, arith}
use Rattle.sheet_lines.specs.Fields.{number_behind}
use Rattle.sheet_lines.proofs.Fields.{number_more}
use Rattle.sheet_lines.proofs.number.Goals as goal

pub loop-digit-init : goal.loop-digit-init
unfolding number_behind
loop-digit-init c = record { said = refl; none = λ e. e; one = λ l. omega arith; two = λ l. omega arith; three = omega arith }

pub loop-digit-preserved : goal.loop-digit-preserved
loop-digit-preserved c = record {
  said = number_more _ _ c.loop-digit-test.true c.loop-digit.invariant.said c.digit_of.ensures.0;
  none = λ e. absurd (omega arith);
  one = λ l. omega arith;
  two = λ l. omega arith;
  three = omega arith;
}
