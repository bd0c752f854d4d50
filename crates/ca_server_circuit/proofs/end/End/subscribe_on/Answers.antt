use Rattle.std.proofs.Common.{◌≡◌, Bool, List, ℕ, None, Option, Some, subst}
use Rattle.ca_records.specs.Record.{RecordState}
use Rattle.ca_wire.specs.Fields.{Fields}
use Rattle.ca_model.specs.Faults.{subscription_fault}
use Rattle.ca_model.specs.Images.{image_type_of}
use Rattle.ca_server_circuit.specs.Handling.{Subscribes, known}
use Rattle.ca_server_circuit.specs.Subscribing.{HasJoined}
use Rattle.ca_server_circuit.specs.Stepping.{first_at, message_of}
use Rattle.ca_server_circuit.proofs.Joining.{fault-is, how-many, in-use, joined-event, replies-does}
use Rattle.ca_server_circuit.proofs.Replying.{refused-event, right-is, state-is}
use Rattle.ca_server_circuit.proofs.end.End.subscribe_on.Goals as goal

abbrev FaultIs : RecordState → ℕ → Bool → ℕ → Option ℕ → Fields → Type 0
FaultIs r bits used others o m = subscription_fault r bits used others m (image_type_of m.data_type) ≡ o

pub returns-in_ok-join-in-None-clause-ok : goal.returns-in_ok-join-in-None-clause-ok
returns-in_ok-join-in-None-clause-ok c port h =
    let s = c.args.records.now in
    let e = c.args.self.now in
    let m = first_at e.link.input.bytes c.args.head.now in
    let i = c.requires.served in
    let bits = c.rights-rights.result in
    let right = right-is s e _ m.p1 c.args.seat i bits _ _ _ c.at.result.now _ c.self.view_is c.deref.ensures.value c.deref-2.ensures.value c.at.ensures.at c.state-state.ensures c.name.ensures c.rights-rights.ensures in
    let state = state-is s e m.p1 c.args.seat i c.at.result.now c.state-state.result.now c.at.ensures.at c.state-state.ensures in
    let used = in-use _ e m c.key_of.result c.has-in_use.result c.self.view_is c.key_of.ensures c.has-in_use.ensures in
    let many = how-many _ e c.len-others.result c.self.view_is c.len-others.ensures in
    let fault = fault-is e m i.r.state c.state-state.result.now bits c.has-in_use.result c.len-others.result None state used many (subst (λ (b : List ℕ). FaultIs c.state-state.result.now bits c.has-in_use.result c.len-others.result None (message_of c.args.head.now.header b)) c.payload-payload.ensures c.in-None.ensures.0) in
    joined-event port s h e c.join.new.self m c.args.seat i bits right fault
    (subst (λ (r : RecordState). HasJoined r m e c.join.new.self) state c.in_ok-join-in-None.ensures.ok)

pub returns-in_ok-refuse-in-Some-clause-ok : goal.returns-in_ok-refuse-in-Some-clause-ok
returns-in_ok-refuse-in-Some-clause-ok c port h =
    let s = c.args.records.now in
    let e = c.args.self.now in
    let m = first_at e.link.input.bytes c.args.head.now in
    let i = c.requires.served in
    let bits = c.rights-rights.result in
    let right = right-is s e _ m.p1 c.args.seat i bits _ _ _ c.at.result.now _ c.self.view_is c.deref.ensures.value c.deref-2.ensures.value c.at.ensures.at c.state-state.ensures c.name.ensures c.rights-rights.ensures in
    let state = state-is s e m.p1 c.args.seat i c.at.result.now c.state-state.result.now c.at.ensures.at c.state-state.ensures in
    let used = in-use _ e m c.key_of.result c.has-in_use.result c.self.view_is c.key_of.ensures c.has-in_use.ensures in
    let many = how-many _ e c.len-others.result c.self.view_is c.len-others.ensures in
    let status = c.in-Some.status.number in
    let fault = fault-is e m i.r.state c.state-state.result.now bits c.has-in_use.result c.len-others.result (Some status) state used many (subst (λ (b : List ℕ). FaultIs c.state-state.result.now bits c.has-in_use.result c.len-others.result (Some status) (message_of c.args.head.now.header b)) c.payload-payload.ensures c.in-Some.ensures) in
    replies-does (Subscribes (known port s e) m) s h e c.refuse.new.self m c.requires.command
    (refused-event port s e c.refuse.new.self m c.args.seat i bits status right fault c.in_ok-refuse-in-Some.ensures.ok)
