use Rattle.std.proofs.Common.{◌≡◌, ◌∙◌, Bool, List, ℕ, Some, [], ◌∷◌, ap, if◌then◌else◌, refl, subst, sym, true}
use Rattle.ca_records.specs.declared.puts.Begun.TheVariants as begun
use Rattle.ca_records.specs.declared.puts.Put.{Put}
use Rattle.ca_records.specs.Puts.{Record}
use Rattle.ca_records.specs.Record.{RecordState}
use Rattle.ca_records.specs.Store.{Becomes}
use Rattle.ca_text.specs.declared.command.Command.TheVariants as command
use Rattle.ca_wire.specs.Fields.{Fields}
use Rattle.ca_wire.specs.Messages.{status_reply}
use Rattle.ca_wire.specs.Reading.{scalar_in}
use Rattle.ca_model.specs.Server.{ServerEnd}
use Rattle.ca_server_circuit.specs.Handling.{Puts, known, replied}
use Rattle.ca_server_circuit.specs.Putting.{IsTaken, WritesTo}
use Rattle.ca_server_circuit.specs.Seeking.{IsServed}
use Rattle.ca_server_circuit.specs.Stepping.{after_scalar}
use Rattle.ca_server_circuit.proofs.Replying.{right-is, state-is}
use Rattle.ca_server_circuit.proofs.Shorts.{dropped, served-after}
use Rattle.ca_server_circuit.proofs.Taken.{one-record, put-applied, put_in, replied-none, with-sid}
use Rattle.ca_server_circuit.proofs.end.End.put_slow.Goals as goal

pub returns : goal.returns
returns c port =
    let s = c.args.records.now in
    let e = c.args.self.now in
    let w = c.args.wanted.now in
    let m = scalar_in e.link.input.bytes command.WriteNotify w in
    let seat = c.in-Served.seat in
    let p = put_in c.args.circuit seat m in
    let i : IsServed s e w.sid seat = c.in-Served.ensures.seeks in
    let bits = c.rights-rights.result in
    let right = right-is s e _ w.sid seat i bits _ _ _ c.at.result.now _ c.self.view_is c.deref.ensures.value c.deref-2.ensures.value c.at.ensures.at c.state-state.ensures c.name.ensures c.rights-rights.ensures in
    let slow : true ≡ i.r.state.slow = sym c.if-not-is_slow.false ∙ c.is_slow.ensures ∙ ap (λ (x : RecordState). x.slow) (state-is s e w.sid seat i c.at.result.now c.state-state.result.now c.at.ensures.at c.state-state.ensures) in
    let done = dropped _ e _ c.self.view_is c.drop_front.ensures ∙ sym (replied-none (after_scalar e)) ∙ ap (λ (b : Bool). let none : List Fields = [] in replied (if b then none else status_reply m 1 ∷ []) (after_scalar e)) slow in
    let came = c.in_bytes.ensures ∙ ap (λ (x : ServerEnd). x.link.input.bytes) c.self.view_is in
    let put = subst (λ (q : Put). WritesTo s seat.place bits (Some q) (scalar_in c.in_bytes.result.now command.WriteNotify w) (begun.Applied true) c.put_one.new.records) c.put_from-put.ensures (c.put_one.ensures.put c.if-not-put_one.false command.WriteNotify) in
    let did = subst (λ (b : List ℕ). WritesTo s seat.place bits (Some p) (scalar_in b command.WriteNotify w) (begun.Applied true) c.put_one.new.records) came put in
    let one : did.0 ≡ i.r = one-record s seat.place did.0 i.r did.3.at i.at in
    let taken = subst (λ (r : Record). IsTaken s r bits (Some p) m (begun.Applied true) did.1) one did.2 in
    let becomes = subst (λ (r : Record). Becomes s seat.place r did.1 c.put_one.new.records) one did.3 in
    with-sid (Puts (known port s (after_scalar e)) m) s c.put_one.new.records c.args.circuit (after_scalar e) _ m seat.place true w.sid c.number.result c.number.ensures
    (put-applied port s c.put_one.new.records c.args.circuit (after_scalar e) _ m seat (served-after s e w.sid seat i) bits true did.1 right refl taken becomes done)
