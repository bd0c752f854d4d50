use Rattle.std.proofs.Common.{refl, subst}
use Rattle.ca_link.specs.Calls.{HasScalar}
use Rattle.ca_text.specs.declared.command.Command.TheVariants as command
use Rattle.ca_model.specs.Server.{ServerEnd}
use Rattle.ca_server_circuit.proofs.Shorts.{steps-short}
use Rattle.ca_server_circuit.proofs.end.End.step_scalar.Goals as goal

pub returns-in-Some-write_scalar : goal.returns-in-Some-write_scalar
returns-in-Some-write_scalar c port =
    let w = c.in-Some.wanted in
    let short = subst (λ (x : ServerEnd). HasScalar command.Write x.link w) c.self.view_is c.in-Some.ensures in
    steps-short port c.args.circuit c.args.records.now c.args.self.now command.Write w c.in-Some-write_scalar.left c.write_scalar.new.records c.write_scalar.new.self c.requires.room short refl refl (c.in-Some-write_scalar.ensures c.args.circuit port)

pub returns-in-Some-put_notify_scalar : goal.returns-in-Some-put_notify_scalar
returns-in-Some-put_notify_scalar c port =
    let w = c.in-Some-first_of_eight_bytes.wanted in
    let short = subst (λ (x : ServerEnd). HasScalar command.WriteNotify x.link w) c.self.view_is c.in-Some-first_of_eight_bytes.ensures in
    steps-short port c.args.circuit c.args.records.now c.args.self.now command.WriteNotify w c.in-Some-put_notify_scalar.left c.put_notify_scalar.new.records c.put_notify_scalar.new.self c.requires.room short refl refl (c.in-Some-put_notify_scalar.ensures port)
