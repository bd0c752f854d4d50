use Rattle.std.proofs.Common.{◌≡◌, ◌∙◌, Bool, List, ℕ, Some, [], ◌∷◌, ap, false, if◌then◌else◌, refl, subst, sym}
use Rattle.ca_link.specs.Link.{LinkState, with_sent}
use Rattle.ca_records.specs.declared.puts.Begun.TheVariants as begun
use Rattle.ca_records.specs.Puts.{Record}
use Rattle.ca_records.specs.Record.{RecordState}
use Rattle.ca_records.specs.Store.{Becomes}
use Rattle.ca_text.specs.declared.command.Command.TheVariants as command
use Rattle.ca_wire.specs.Fields.{Fields}
use Rattle.ca_wire.specs.Messages.{status_reply}
use Rattle.ca_wire.specs.Reading.{scalar_in}
use Rattle.ca_model.specs.Server.{ServerEnd}
use Rattle.ca_server_circuit.specs.Handling.{Puts, known, replied}
use Rattle.ca_server_circuit.specs.Putting.{IsTaken, WritesTo}
use Rattle.ca_server_circuit.specs.Seeking.{IsServed}
use Rattle.ca_server_circuit.specs.Stepping.{after_scalar}
use Rattle.ca_server_circuit.proofs.Replying.{right-is, state-is}
use Rattle.ca_server_circuit.proofs.Shorts.{answered, served-after}
use Rattle.ca_server_circuit.proofs.Taken.{one-record, put-applied, put_in, with-sid}
use Rattle.ca_server_circuit.proofs.end.End.put_notify_scalar.Goals as goal

pub returns : goal.returns
returns c port =
    let s = c.args.records.now in
    let e = c.args.self.now in
    let w = c.args.wanted.now in
    let m = scalar_in e.link.input.bytes command.WriteNotify w in
    let seat = c.in-Served.seat in
    let p = put_in c.args.circuit seat m in
    let i : IsServed s e w.sid seat = c.in-Served.ensures.seeks in
    let bits = c.rights-rights.result in
    let right = right-is s e _ w.sid seat i bits _ _ _ c.at.result.now _ c.self.view_is c.deref.ensures.value c.deref-2.ensures.value c.at.ensures.at c.state-state.ensures c.name.ensures c.rights-rights.ensures in
    let quick : false ≡ i.r.state.slow = sym c.if-is_slow.false ∙ c.is_slow.ensures ∙ ap (λ (x : RecordState). x.slow) (state-is s e w.sid seat i c.at.result.now c.state-state.result.now c.at.ensures.at c.state-state.ensures) in
    let reply = status_reply m 1 in
    let sent = c.send_done.ensures.sent c.if-not-send_done.false ∙ ap (λ (n : ℕ). let r : Fields = record reply { count = n } in with_sent (r ∷ []) c.self.inside.link) (sym c.if-wanted-ne1.false) in
    let done = answered _ e c.send_done.new.link _ (reply ∷ []) c.self.view_is sent c.drop_front.ensures ∙ ap (λ (b : Bool). let none : List Fields = [] in replied (if b then none else reply ∷ []) (after_scalar e)) quick in
    let came = c.in_bytes.ensures ∙ ap (λ (l : LinkState). l.input.bytes) sent ∙ ap (λ (x : ServerEnd). x.link.input.bytes) c.self.view_is in
    let did = subst (λ (b : List ℕ). WritesTo s seat.place bits (Some p) (scalar_in b command.WriteNotify w) (begun.Applied false) c.write_one.new.records) came (c.write_one.ensures.written c.if-not-write_one.false command.WriteNotify (Some p) refl) in
    let one : did.0 ≡ i.r = one-record s seat.place did.0 i.r did.3.at i.at in
    let taken = subst (λ (r : Record). IsTaken s r bits (Some p) m (begun.Applied false) did.1) one did.2 in
    let becomes = subst (λ (r : Record). Becomes s seat.place r did.1 c.write_one.new.records) one did.3 in
    with-sid (Puts (known port s (after_scalar e)) m) s c.write_one.new.records c.args.circuit (after_scalar e) _ m seat.place false w.sid c.number.result c.number.ensures
    (put-applied port s c.write_one.new.records c.args.circuit (after_scalar e) _ m seat (served-after s e w.sid seat i) bits false did.1 right refl taken becomes done)
