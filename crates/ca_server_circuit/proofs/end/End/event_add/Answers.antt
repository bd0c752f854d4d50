use Rattle.std.proofs.Common.{ℕ, ap, subst}
use Rattle.ca_wire.specs.declared.requests.Wanted.{Wanted}
use Rattle.ca_server_circuit.specs.Handling.{Subscribes, known}
use Rattle.ca_server_circuit.specs.Seeking.{IsServed, IsStray}
use Rattle.ca_server_circuit.proofs.Joining.{replies-does}
use Rattle.ca_server_circuit.proofs.Replying.{stray-event}
use Rattle.ca_server_circuit.specs.Stepping.{first_at}
use Rattle.ca_server_circuit.proofs.end.End.event_add.Goals as goal

pub returns-in_ok-refuse-in-Stray-clause-ok : goal.returns-in_ok-refuse-in-Stray-clause-ok
returns-in_ok-refuse-in-Stray-clause-ok c port h =
    let s = c.args.records.now in
    let e = c.args.self.now in
    let m = first_at e.link.input.bytes c.args.head.now in
    let is : IsStray e m.p1 c.in-Stray.cid = subst (λ (n : ℕ). IsStray e n c.in-Stray.cid) (ap (λ (w : Wanted). w.sid) c.named_by-wanted.ensures) c.in-Stray.ensures.seeks in
    replies-does (Subscribes (known port s e) m) s h e c.refuse.new.self m c.requires.command (stray-event port s e c.refuse.new.self m c.in-Stray.cid is c.in_ok-refuse-in-Stray.ensures.ok)

pub subscribe_on-requires-clause-served : goal.subscribe_on-requires-clause-served
subscribe_on-requires-clause-served c =
    let s = c.args.records.now in
    let e = c.args.self.now in
    subst (λ (n : ℕ). IsServed s e n c.in-Served.seat) (ap (λ (w : Wanted). w.sid) c.named_by-wanted.ensures) c.in-Served.ensures.seeks
