use Rattle.std.proofs.Common.{◌+◌, arith}
use Rattle.ca_script.proofs.Partings.{left-behind, parted-there, parted-whole}
use Rattle.ca_script.proofs.words.cut.Goals as goal

pub returns-in-None-clause-pieces : goal.returns-in-None-clause-pieces
returns-in-None-clause-pieces c = parted-whole c.args.separator c.args.text.now (λ k l. c.in-None.ensures k (omega arith) l)

pub returns-in-Some-clause-pieces : goal.returns-in-Some-clause-pieces
returns-in-Some-clause-pieces c =
    rw (left-behind c.args.text.now (c.in-Some.place + 1)) (parted-there c.args.separator c.args.text.now c.in-Some.place c.in-Some.ensures.0.high (λ i l. c.in-Some.ensures.0.before i (omega arith) l) c.in-Some.ensures.1)
