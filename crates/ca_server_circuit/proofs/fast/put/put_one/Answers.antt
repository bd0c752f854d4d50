use Rattle.std.proofs.Common.{◌/◌, ◌%◌, Some, true}
use Rattle.std.proofs.lemmas.Bool.{eq-eqb}
use Rattle.ca_wire.specs.Messages.{on_channel}
use Rattle.ca_server_circuit.proofs.Ones.{writes-one}
use Rattle.ca_server_circuit.proofs.fast.put.put_one.Goals as goal

pub returns-clause-put : goal.returns-clause-put
returns-clause-put c done command =
    let w = c.put_one.ensures.put done in
    writes-one c.args.records.now c.put_one.new.self c.args.place c.args.rights (Some c.args.put) true (on_channel command c.args.wanted.now c.args.payload.now) w.e
    (eq-eqb (c.args.rights / 2 % 2) 1 c.if-rights-ne1.false) c.if-wanted-ne1.false w.takes w.typed w.long w.reads w.begins
