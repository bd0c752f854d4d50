use Rattle.std.proofs.Common.{◌/◌, ◌%◌, false}
use Rattle.std.proofs.lemmas.Bool.{eq-eqb}
use Rattle.ca_wire.specs.Messages.{on_channel}
use Rattle.ca_server_circuit.proofs.Ones.{writes-one}
use Rattle.ca_server_circuit.proofs.fast.write.write_one.Goals as goal

pub returns-clause-written : goal.returns-clause-written
returns-clause-written c done command put is =
    let w = c.write_one.ensures.written done in
    writes-one c.args.records.now c.write_one.new.self c.args.place c.args.rights put false (on_channel command c.args.wanted.now c.args.payload.now) w.e
    (eq-eqb (c.args.rights / 2 % 2) 1 c.if-rights-ne1.false) c.if-wanted-ne1.false w.takes w.typed w.long w.reads (w.begins put is)
