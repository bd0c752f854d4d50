use Rattle.std.proofs.Common.{ℕ, ap, ◌∙◌, subst}
use Rattle.ca_wire.specs.declared.requests.Wanted.{Wanted}
use Rattle.ca_server_circuit.specs.Seeking.{IsStray}
use Rattle.ca_server_circuit.specs.Stepping.{first_at}
use Rattle.ca_server_circuit.proofs.InPlace.{refused-put}
use Rattle.ca_server_circuit.proofs.Taken.{put-stray}
use Rattle.ca_server_circuit.proofs.end.End.write_notify.Goals as goal

pub returns-in_ok-refuse_put-in-Stray-clause-ok : goal.returns-in_ok-refuse_put-in-Stray-clause-ok
returns-in_ok-refuse_put-in-Stray-clause-ok c port =
    let e = c.args.self.now in
    let m = first_at e.link.input.bytes c.args.head.now in
    let w = c.named_by-wanted.result in
    let is : IsStray e m.p1 c.in-Stray.field-0 = subst (λ (n : ℕ). IsStray e n c.in-Stray.field-0) (ap (λ (x : Wanted). x.sid) c.named_by-wanted.ensures) c.in-Stray.ensures.seeks in
    put-stray port c.args.records.now c.args.circuit e _ m c.in-Stray.field-0 is c.requires.command (c.in_ok-refuse_put-in-Stray.ensures.ok ∙ refused-put e m w 410 c.named_by-wanted.ensures c.requires.command)
