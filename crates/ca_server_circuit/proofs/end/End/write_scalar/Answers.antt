use Rattle.std.proofs.Common.{◌≡◌, ◌∙◌, List, ℕ, None, ap, false, refl, subst}
use Rattle.ca_records.specs.declared.puts.Begun.TheVariants as begun
use Rattle.ca_records.specs.Puts.{Record}
use Rattle.ca_records.specs.Store.{Becomes}
use Rattle.ca_text.specs.declared.command.Command.TheVariants as command
use Rattle.ca_wire.specs.Reading.{scalar_in}
use Rattle.ca_model.specs.Server.{ServerEnd}
use Rattle.ca_server_circuit.specs.Handling.{Writes, known}
use Rattle.ca_server_circuit.specs.Putting.{IsTaken, WritesTo}
use Rattle.ca_server_circuit.specs.Seeking.{IsServed}
use Rattle.ca_server_circuit.specs.Stepping.{after_scalar}
use Rattle.ca_server_circuit.proofs.Replying.{right-is}
use Rattle.ca_server_circuit.proofs.Shorts.{dropped, served-after}
use Rattle.ca_server_circuit.proofs.Taken.{one-record, write-applied, with-sid}
use Rattle.ca_server_circuit.proofs.end.End.write_scalar.Goals as goal

pub returns : goal.returns
returns c h port =
    let s = c.args.records.now in
    let e = c.args.self.now in
    let w = c.args.wanted.now in
    let m = scalar_in e.link.input.bytes command.Write w in
    let seat = c.in-Served.seat in
    let i : IsServed s e w.sid seat = c.in-Served.ensures.seeks in
    let bits = c.rights-rights.result in
    let right = right-is s e _ w.sid seat i bits _ _ _ c.at.result.now _ c.self.view_is c.deref.ensures.value c.deref-2.ensures.value c.at.ensures.at c.state.ensures c.name-name.ensures c.rights-rights.ensures in
    let came = c.in_bytes.ensures ∙ ap (λ (x : ServerEnd). x.link.input.bytes) c.self.view_is in
    let did = subst (λ (b : List ℕ). WritesTo s seat.place bits None (scalar_in b command.Write w) (begun.Applied false) c.write_one.new.records) came (c.write_one.ensures.written c.if-not-write_one.false command.Write None refl) in
    let one : did.0 ≡ i.r = one-record s seat.place did.0 i.r did.3.at i.at in
    let taken = subst (λ (r : Record). IsTaken s r bits None m (begun.Applied false) did.1) one did.2 in
    let becomes = subst (λ (r : Record). Becomes s seat.place r did.1 c.write_one.new.records) one did.3 in
    with-sid (Writes (known port s (after_scalar e)) m) s c.write_one.new.records h (after_scalar e) _ m seat.place false w.sid c.number.result c.number.ensures
    (write-applied port s c.write_one.new.records h (after_scalar e) _ m seat (served-after s e w.sid seat i) bits false did.1 right refl taken becomes (dropped _ e _ c.self.view_is c.drop_front.ensures))
