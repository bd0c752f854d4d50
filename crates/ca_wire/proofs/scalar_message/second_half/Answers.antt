use Rattle.std.proofs.Common.{arith}
use Rattle.ca_text.specs.Status.{normal}
use Rattle.ca_wire.proofs.Words.{second-half}
use Rattle.ca_wire.proofs.scalar_message.second_half.Goals as goal

pub returns : goal.returns
returns c =
    second-half normal c.args.id _ (omega arith) (omega (arith, c.number.ensures)) (omega (arith, c.from.ensures, c.from-2.ensures, c.number.ensures))
