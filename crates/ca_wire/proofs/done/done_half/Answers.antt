use Rattle.std.proofs.Common.{arith}
use Rattle.ca_wire.proofs.Words.{done-half}
use Rattle.ca_wire.proofs.done.done_half.Goals as goal

pub returns : goal.returns
returns c =
    done-half _ c.args.data_type _ (omega (arith, c.number.ensures)) (omega arith) (omega (arith, c.from.ensures, c.number.ensures, c.from-2.ensures))
