use Rattle.std.proofs.Common.{arith}
use Rattle.ca_dbr.proofs.Numbers.{digit_in, clipped_more, clipped_all, all_digits_more}
use Rattle.ca_dbr.proofs.number.clipped_number.Goals as goal

pub overflow_sub-digit : goal.overflow_sub-digit
overflow_sub-digit c = (digit_in c.args.digits.now c.loop-digit.digit-index c.requires (omega arith)).0

pub loop-digit-preserved : goal.loop-digit-preserved
loop-digit-preserved c = record {
  number = clipped_more c.args.digits.now c.loop-digit.digit-index c.loop-digit.number c.min-number.result c.requires (omega arith) c.loop-digit.invariant.number (omega arith);
  digits = all_digits_more c.args.digits.now c.loop-digit.digit-index c.requires (omega arith) c.loop-digit.invariant.digits;
}

pub returns : goal.returns
returns c = clipped_all c.args.digits.now c.loop-digit.digit-index c.loop-digit.number (omega arith) c.loop-digit.invariant.number c.loop-digit.invariant.digits
