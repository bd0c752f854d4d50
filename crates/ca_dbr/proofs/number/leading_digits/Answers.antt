use Rattle.std.proofs.Common.{arith}
use Rattle.std.specs.Char.{is_ascii_digit}
use Rattle.ca_dbr.proofs.Numbers.{prefix_at, prefix_all}
use Rattle.ca_dbr.proofs.number.leading_digits.Goals as goal

pub returns-then-not-is_ascii_digit-clause-count : goal.returns-then-not-is_ascii_digit-clause-count
returns-then-not-is_ascii_digit-clause-count c = prefix_at is_ascii_digit c.args.bytes.now c.loop-i.i (omega arith) c.loop-i.invariant cc

pub returns-clause-count : goal.returns-clause-count
returns-clause-count c = prefix_all is_ascii_digit c.args.bytes.now (λ k h. c.loop-i.invariant k (omega arith))
