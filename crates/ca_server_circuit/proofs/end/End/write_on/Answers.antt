use Rattle.std.proofs.Common.{◌≡◌, ◌∙◌, ℕ, Bool, None, ap, false, refl, sym, subst}
use Rattle.ca_records.specs.declared.puts.Begun.TheVariants as begun
use Rattle.ca_records.specs.Puts.{Record}
use Rattle.ca_records.specs.Store.{Becomes, Store}
use Rattle.ca_wire.specs.declared.requests.Wanted.{Wanted}
use Rattle.ca_server_circuit.specs.declared.effect.Effect.TheVariants as told
use Rattle.ca_server_circuit.specs.declared.step.FollowUp.TheVariants as effect
use Rattle.ca_server_circuit.specs.Handling.{Does, Writes, known}
use Rattle.ca_server_circuit.specs.Putting.{IsRefused, IsTaken}
use Rattle.ca_server_circuit.proofs.InPlace.{asked-is}
use Rattle.ca_server_circuit.proofs.Replying.{right-is}
use Rattle.ca_server_circuit.proofs.Taken.{one-record, plain-write, write-applied, write-refused}
use Rattle.ca_server_circuit.specs.Stepping.{first_at}
use Rattle.ca_server_circuit.proofs.end.End.write_on.Goals as goal

pub returns-in-Applied-clause-ok : goal.returns-in-Applied-clause-ok
returns-in-Applied-clause-ok c port h =
    let s = c.args.records.now in
    let e = c.args.self.now in
    let m = first_at e.link.input.bytes c.args.head.now in
    let i = c.requires.served in
    let bits = c.rights-rights.result in
    let b = c.in-Applied.field-0 in
    let right = right-is c.args.records.now c.args.self.now _ m.p1 c.args.seat i c.rights-rights.result _ _ _ c.at.result.now _ c.self.view_is c.deref.ensures.value c.deref-2.ensures.value c.at.ensures.at c.state.ensures c.name-name.ensures c.rights-rights.ensures in
    let w = asked-is s c.begin.new.records c.args.seat.place bits None (begun.Applied b) m c.named_by-wanted.result c.payload-payload.result.now c.named_by-wanted.ensures c.payload-payload.ensures (rw c.in-Applied.is at c.in_ok-begun.ensures.ok) in
    let one : w.0 ≡ i.r = one-record s c.args.seat.place w.0 i.r w.3.at i.at in
    let taken = subst (λ (r : Record). IsTaken s r bits None m (begun.Applied b) w.1) one w.2 in
    let becomes = subst (λ (r : Record). Becomes s c.args.seat.place r w.1 c.begin.new.records) one w.3 in
    let sid = c.number.ensures ∙ ap (λ (x : Wanted). x.sid) c.named_by-wanted.ensures in
    let plain = plain-write s i.r w.1 bits m b taken in
    subst (λ (n : ℕ). Does (Writes (known port s e) m) s h e m (effect.Wrote c.args.seat.place false n) c.begin.new.records e) (sym sid)
    (subst (λ (z : Bool). Does (Writes (known port s e) m) s h e m (effect.Wrote c.args.seat.place z m.p1) c.begin.new.records e) plain
    (write-applied port s c.begin.new.records h e e m c.args.seat i bits b w.1 right c.requires.command taken becomes refl))

pub returns-in_ok-refuse-in-Refused-clause-ok : goal.returns-in_ok-refuse-in-Refused-clause-ok
returns-in_ok-refuse-in-Refused-clause-ok c port h =
    let s = c.args.records.now in
    let e = c.args.self.now in
    let m = first_at e.link.input.bytes c.args.head.now in
    let i = c.requires.served in
    let bits = c.rights-rights.result in
    let right = right-is c.args.records.now c.args.self.now _ m.p1 c.args.seat i c.rights-rights.result _ _ _ c.at.result.now _ c.self.view_is c.deref.ensures.value c.deref-2.ensures.value c.at.ensures.at c.state.ensures c.name-name.ensures c.rights-rights.ensures in
    let w = asked-is s c.begin.new.records c.args.seat.place bits None (begun.Refused c.in-Refused.status) m c.named_by-wanted.result c.payload-payload.result.now c.named_by-wanted.ensures c.payload-payload.ensures (rw c.in-Refused.is at c.in_ok-begun.ensures.ok) in
    let one : w.0 ≡ i.r = one-record s c.args.seat.place w.0 i.r w.1 i.at in
    let refused = subst (λ (r : Record). IsRefused r bits None m c.in-Refused.status.number) one w.2 in
    subst (λ (t : Store). Does (Writes (known port s e) m) s h e m (effect.Quiet (told.WriteRefused m.p1)) t c.refuse.new.self) (sym w.3)
    (write-refused port s h e c.refuse.new.self m c.args.seat i bits c.in-Refused.status.number right c.requires.command refused c.in_ok-refuse-in-Refused.ensures.ok)
