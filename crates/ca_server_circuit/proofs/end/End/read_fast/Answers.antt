use Rattle.std.proofs.Common.{◌≡◌, Some, refl, sym, ap, ◌∙◌, subst}
use Rattle.ca_dbr.specs.Octets.{AreBytes}
use Rattle.ca_ids.specs.Table.{Table, under}
use Rattle.ca_link.specs.Link.{LinkState, TakesFirst}
use Rattle.ca_records.specs.Store.{records_of}
use Rattle.ca_text.specs.declared.command.Command.TheVariants as command
use Rattle.ca_wire.specs.Messages.{read_request}
use Rattle.ca_model.specs.Due.{Due}
use Rattle.ca_model.specs.Server.{OpenChannel, ServerEnd}
use Rattle.ca_server_circuit.specs.declared.effect.Effect.TheVariants as told
use Rattle.ca_server_circuit.specs.declared.step.FollowUp.TheVariants as effect
use Rattle.ca_server_circuit.specs.Handling.{AllStay, AreServed, Does, known}
use Rattle.ca_server_circuit.specs.Stepping.{Takes, after_first}
use Rattle.ca_server_circuit.proofs.Dues.{lack-read}
use Rattle.ca_server_circuit.proofs.Handled.{does-reply}
use Rattle.ca_server_circuit.proofs.Steps.{same-link, taken-first}
use Rattle.ca_server_circuit.proofs.end.End.read_fast.Goals as goal

pub read-requires-clause-served : goal.read-requires-clause-served
read-requires-clause-served c =
    subst (λ (t : Table OpenChannel). AreServed (records_of c.args.records.now) t) (sym (ap (λ (x : ServerEnd). x.channels) c.self.view_is)) c.requires.served

pub returns-in-None : goal.returns-in-None
returns-in-None c circuit = (same-link _ c.args.self.now c.next_without_payload.new.self c.self.view_is c.in-None.ensures.1, refl)

pub returns-in-Ok : goal.returns-in-Ok
returns-in-Ok c circuit port =
    let s = c.args.records.now in
    let e = c.args.self.now in
    let m = read_request c.in-Some.wanted in
    let t = c.in-Some.ensures.1 in
    let takes = subst (λ (x : ServerEnd). TakesFirst x.link m t.0) c.self.view_is t.1 in
    let first = taken-first _ e c.next_without_payload.new.self t.0 c.self.view_is t.2 in
    let x : Takes e = record { room = c.requires.room; m = m; rest = t.0; takes = takes } in
    (x, subst (λ (w : ServerEnd). Does (Due (known port s w) m) s circuit w m (effect.Quiet told.Quiet) s c.read.new.self) first (does-reply port s circuit _ m c.read.new.self command.ReadNotify refl refl refl refl (c.in-Ok.ensures.ok port)))

pub returns-in-Err : goal.returns-in-Err
returns-in-Err c circuit port =
    let s = c.args.records.now in
    let e = c.args.self.now in
    let m = read_request c.in-Some.wanted in
    let t = c.in-Some.ensures.1 in
    let takes = subst (λ (x : ServerEnd). TakesFirst x.link m t.0) c.self.view_is t.1 in
    let x : Takes e = record { room = c.requires.room; m = m; rest = t.0; takes = takes } in
    let stay : AllStay e.channels c.read.new.self.channels = λ h o at. subst (λ (u : Table OpenChannel). under u h ≡ Some o) (ap (λ (w : ServerEnd). w.channels) (sym c.self.view_is) ∙ sym c.in-Err.ensures.channels) at in
    let output = c.in-Err.ensures.output ∙ ap (λ (l : LinkState). l.output) t.2 ∙ ap (λ (w : ServerEnd). w.link.output) c.self.view_is in
    let are = subst (λ (w : ServerEnd). AreBytes w.link.input.bytes) c.self.view_is (subst AreBytes c.in_bytes.ensures c.know_bytes.ensures) in
    ((x, are, lack-read m (known port s (after_first x)) refl), output, stay, refl)
