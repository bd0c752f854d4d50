use Rattle.std.proofs.Common.{arith}
use Rattle.ca_wire.proofs.Words.{first-half}
use Rattle.ca_wire.proofs.scalar_message.first_half.Goals as goal

pub returns : goal.returns
returns c =
    first-half _ c.args.data_type _ (omega (arith, c.number.ensures)) (omega arith) (omega (arith, c.from-command.ensures, c.number.ensures, c.from-data_type.ensures))
