use Rattle.std.proofs.Common.{◌≡◌, ℕ, [], ◌∷◌, length, Some, ap, ◌∙◌, subst, sym}
use Rattle.ca_records.specs.declared.puts.Begun.TheVariants as begun
use Rattle.ca_records.specs.Puts.{Record}
use Rattle.ca_records.specs.Record.{RecordState}
use Rattle.ca_records.specs.Store.{Becomes}
use Rattle.ca_text.specs.declared.command.Command.TheVariants as command
use Rattle.ca_wire.specs.Messages.{on_channel, status_reply}
use Rattle.ca_wire.specs.declared.requests.Wanted.{Wanted}
use Rattle.ca_model.specs.Server.{ServerEnd}
use Rattle.ca_server_circuit.specs.declared.effect.Effect.TheVariants as told
use Rattle.ca_server_circuit.specs.declared.step.FollowUp.TheVariants as effect
use Rattle.ca_server_circuit.specs.Handling.{Does, Puts, known, replied}
use Rattle.ca_server_circuit.specs.Putting.{IsRefused, IsTaken}
use Rattle.ca_server_circuit.proofs.InPlace.{acknowledged, asked-is, put-is, refused-put, taken-back}
use Rattle.ca_server_circuit.proofs.Replying.{right-is, state-is}
use Rattle.ca_server_circuit.proofs.Taken.{one-record, put-applied, put-refused, put-waits, put_in, with-store}
use Rattle.ca_server_circuit.specs.Stepping.{first_at}
use Rattle.ca_server_circuit.proofs.end.End.put_on.Goals as goal

pub returns-in-Applied-clause-ok : goal.returns-in-Applied-clause-ok
returns-in-Applied-clause-ok c port =
    let s = c.args.records.now in
    let e = c.args.self.now in
    let head = c.args.head.now in
    let m = first_at e.link.input.bytes head in
    let payload = c.payload.ensures ∙ ap (λ (x : ServerEnd). (first_at x.link.input.bytes head).payload) c.in_ok-acknowledge.ensures.ok in
    let i = c.requires.served in
    let bits = c.rights-rights.result in
    let p = put_in c.args.circuit c.args.seat m in
    let right = right-is c.args.records.now c.args.self.now _ m.p1 c.args.seat i c.rights-rights.result _ _ _ c.at.result.now _ c.self.view_is c.deref.ensures.value c.deref-2.ensures.value c.at.ensures.at c.state-state.ensures c.name.ensures c.rights-rights.ensures in
    let slow = c.is_slow-is_slow.ensures ∙ ap (λ (x : RecordState). x.slow) (state-is s e m.p1 c.args.seat i c.at.result.now c.state-state.result.now c.at.ensures.at c.state-state.ensures) in
    let done = acknowledged e _ m c.named_by-wanted.result c.is_slow-is_slow.result i.r.state.slow c.named_by-wanted.ensures c.requires.command slow c.in_ok-acknowledge.ensures.ok in
    let put = put-is c.args.circuit c.args.seat m c.named_by-wanted.result _ c.named_by-wanted.ensures c.put_from.ensures in
    let w0 = asked-is s c.begin.new.records c.args.seat.place bits (Some c.put_from.result) (begun.Applied c.in-Applied.busies) m c.named_by-wanted.result c.payload.result.now c.named_by-wanted.ensures payload (rw c.in-Applied.is at c.in-Ok.ensures.ok) in
    let w = rw put at w0 in
    let one : w.0 ≡ i.r = one-record s c.args.seat.place w.0 i.r w.3.at i.at in
    let taken = subst (λ (r : Record). IsTaken s r bits (Some p) m (begun.Applied c.in-Applied.busies) w.1) one w.2 in
    let becomes = subst (λ (r : Record). Becomes s c.args.seat.place r w.1 c.begin.new.records) one w.3 in
    let sid = c.number.ensures ∙ ap (λ (x : Wanted). x.sid) c.named_by-wanted.ensures in
    subst (λ (n : ℕ). Does (Puts (known port s e) m) s c.args.circuit e m (effect.Wrote c.args.seat.place c.in-Applied.busies n) c.begin.new.records c.acknowledge.new.self) (sym sid)
    (put-applied port s c.begin.new.records c.args.circuit e c.acknowledge.new.self m c.args.seat i bits c.in-Applied.busies w.1 right c.requires.command taken becomes done)

pub returns-in-Waiting-clause-ok : goal.returns-in-Waiting-clause-ok
returns-in-Waiting-clause-ok c port =
    let s = c.args.records.now in
    let e = c.args.self.now in
    let head = c.args.head.now in
    let m = first_at e.link.input.bytes head in
    let payload = c.payload.ensures ∙ ap (λ (x : ServerEnd). (first_at x.link.input.bytes head).payload) c.in_ok-acknowledge.ensures.ok in
    let i = c.requires.served in
    let bits = c.rights-rights.result in
    let p = put_in c.args.circuit c.args.seat m in
    let right = right-is c.args.records.now c.args.self.now _ m.p1 c.args.seat i c.rights-rights.result _ _ _ c.at.result.now _ c.self.view_is c.deref.ensures.value c.deref-2.ensures.value c.at.ensures.at c.state-state.ensures c.name.ensures c.rights-rights.ensures in
    let slow = c.is_slow-is_slow.ensures ∙ ap (λ (x : RecordState). x.slow) (state-is s e m.p1 c.args.seat i c.at.result.now c.state-state.result.now c.at.ensures.at c.state-state.ensures) in
    let done = acknowledged e _ m c.named_by-wanted.result c.is_slow-is_slow.result i.r.state.slow c.named_by-wanted.ensures c.requires.command slow c.in_ok-acknowledge.ensures.ok in
    let put = put-is c.args.circuit c.args.seat m c.named_by-wanted.result _ c.named_by-wanted.ensures c.put_from.ensures in
    let w0 = asked-is s c.begin.new.records c.args.seat.place bits (Some c.put_from.result) begun.Waiting m c.named_by-wanted.result c.payload.result.now c.named_by-wanted.ensures payload (rw c.in-Waiting.is at c.in-Ok.ensures.ok) in
    let w = rw put at w0 in
    let one : w.0 ≡ i.r = one-record s c.args.seat.place w.0 i.r w.3.at i.at in
    let taken = subst (λ (r : Record). IsTaken s r bits (Some p) m begun.Waiting w.1) one w.2 in
    let becomes = subst (λ (r : Record). Becomes s c.args.seat.place r w.1 c.begin.new.records) one w.3 in
    put-waits port s c.begin.new.records c.args.circuit e c.acknowledge.new.self m c.args.seat i bits w.1 right c.requires.command taken becomes done

pub returns-in_ok-refuse_put-in-Refused-clause-ok : goal.returns-in_ok-refuse_put-in-Refused-clause-ok
returns-in_ok-refuse_put-in-Refused-clause-ok c port =
    let s = c.args.records.now in
    let e = c.args.self.now in
    let head = c.args.head.now in
    let m = first_at e.link.input.bytes head in
    let payload = c.payload.ensures ∙ ap (λ (x : ServerEnd). (first_at x.link.input.bytes head).payload) c.in_ok-acknowledge.ensures.ok in
    let i = c.requires.served in
    let bits = c.rights-rights.result in
    let p = put_in c.args.circuit c.args.seat m in
    let right = right-is c.args.records.now c.args.self.now _ m.p1 c.args.seat i c.rights-rights.result _ _ _ c.at.result.now _ c.self.view_is c.deref.ensures.value c.deref-2.ensures.value c.at.ensures.at c.state-state.ensures c.name.ensures c.rights-rights.ensures in
    let w = asked-is s c.begin.new.records c.args.seat.place bits (Some c.put_from.result) (begun.Refused c.in-Refused.status) m c.named_by-wanted.result c.payload.result.now c.named_by-wanted.ensures payload (rw c.in-Refused.is at c.in-Ok.ensures.ok) in
    let one : w.0 ≡ i.r = one-record s c.args.seat.place w.0 i.r w.1 i.at in
    let refused = subst (λ (r : Record). IsRefused r bits (Some p) m c.in-Refused.status.number) one w.2 in
    let all = ap length (c.out_bytes-waited.ensures ∙ ap (λ (x : ServerEnd). x.link.output) c.self.view_is) in
    let back = taken-back _ e _ _ c.truncate-in-Refused.new.self (c.self-2.view_is ∙ c.in_ok-acknowledge.ensures.ok) all c.truncate-in-Refused.ensures in
    let said = ap (λ (x : ServerEnd). replied (status_reply (on_channel command.WriteNotify c.named_by-wanted.result []) c.in-Refused.status.number ∷ []) x) back in
    let done = c.in_ok-refuse_put-in-Refused.ensures.ok ∙ said ∙ refused-put e m c.named_by-wanted.result c.in-Refused.status.number c.named_by-wanted.ensures c.requires.command in
    with-store (Puts (known port s e) m) s c.begin.new.records c.args.circuit e _ m (effect.Quiet (told.WriteRefused m.p1)) w.3
    (put-refused port s c.args.circuit e _ m c.args.seat i bits c.in-Refused.status.number p right c.requires.command refused done)
