use Rattle.std.proofs.Common.{ℕ, ap, subst}
use Rattle.ca_wire.specs.declared.requests.Wanted.{Wanted}
use Rattle.ca_server_circuit.specs.Seeking.{IsStray}
use Rattle.ca_server_circuit.proofs.Taken.{write-stray}
use Rattle.ca_server_circuit.specs.Stepping.{first_at}
use Rattle.ca_server_circuit.proofs.end.End.write.Goals as goal

pub returns-in_ok-refuse-in-Stray-clause-ok : goal.returns-in_ok-refuse-in-Stray-clause-ok
returns-in_ok-refuse-in-Stray-clause-ok c port h =
    let e = c.args.self.now in
    let m = first_at e.link.input.bytes c.args.head.now in
    let is : IsStray e m.p1 c.in-Stray.cid = subst (λ (n : ℕ). IsStray e n c.in-Stray.cid) (ap (λ (w : Wanted). w.sid) c.named_by-wanted.ensures) c.in-Stray.ensures.seeks in
    write-stray port c.args.records.now h e c.refuse.new.self m c.in-Stray.cid is c.requires.command c.in_ok-refuse-in-Stray.ensures.ok
