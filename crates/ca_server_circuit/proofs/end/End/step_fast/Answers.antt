use Rattle.std.proofs.Common.{◌<◌, length, subst, sym}
use Rattle.ca_records.specs.Store.{records_of}
use Rattle.ca_text.specs.Limits.{output_limit}
use Rattle.ca_model.specs.Server.{ServerEnd}
use Rattle.ca_server_circuit.specs.Handling.{AreServed}
use Rattle.ca_server_circuit.specs.Stepping.{IsFast}
use Rattle.ca_server_circuit.proofs.end.End.step_fast.Goals as goal

pub step_scalar-requires-clause-room : goal.step_scalar-requires-clause-room
step_scalar-requires-clause-room c =
    subst (λ (x : ServerEnd). length x.link.output < output_limit) (sym (c.in-None.ensures c.args.circuit).0) c.requires.room

pub step_scalar-requires-clause-served : goal.step_scalar-requires-clause-served
step_scalar-requires-clause-served c =
    subst (λ (x : ServerEnd). AreServed (records_of c.args.records.now) x.channels) (sym (c.in-None.ensures c.args.circuit).0) c.requires.served

pub returns-in-None : goal.returns-in-None
returns-in-None c =
    subst (λ (x : ServerEnd). IsFast c.args.circuit x c.args.records.now c.step_scalar.result c.step_scalar.new.self c.step_scalar.new.records) (c.in-None.ensures c.args.circuit).0 c.step_scalar.ensures
