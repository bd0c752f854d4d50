use Rattle.std.proofs.Common.{◌≡◌, Some, ap, refl, ◌∙◌}
use Rattle.ca_model.specs.Client as phase
use Rattle.ca_model.specs.Client.{channel_on}
use Rattle.ca_client_tables.specs.declared.channel.Phase.{Phase}
use Rattle.ca_client_tables.specs.Forms.{native_of}
use Rattle.ca_client_core.proofs.Listing.{live-found}
use Rattle.ca_client_core.proofs.Placing.{found-on-circuit, turns-found}
use Rattle.ca_client_core.proofs.client.ClientCore.hear_access_rights.Goals as goal

pub set_phase-requires-clause-turn : goal.set_phase-requires-clause-turn
set_phase-requires-clause-turn c =
    let h = c.in-Some.channel in
    let at : channel_on c.args.self.now c.args.circuit c.args.header.now.p1 ≡ Some (h, phase.Creating c.in-Creating.field-0) =
    found-on-circuit c.args.self.now c.args.circuit c.args.header.now.p1 c.channel_on.result h _ c.channel_on.ensures (c.in-Some.is ∙ ap (λ (p : Phase). Some (h, p)) c.in-Creating.is) in
    turns-found c.args.self.now c.args.circuit c.args.header.now.p1 h (phase.Creating c.in-Creating.field-0) (phase.Creating c.args.header.now.p2) at refl (λ live. live)

pub set_phase-requires-in-Live-clause-turn : goal.set_phase-requires-in-Live-clause-turn
set_phase-requires-in-Live-clause-turn c =
    let h = c.in-Some.channel in
    let at : channel_on c.args.self.now c.args.circuit c.args.header.now.p1 ≡ Some (h, phase.Live (native_of c.in-Live.native) c.in-Live.field-1) =
    found-on-circuit c.args.self.now c.args.circuit c.args.header.now.p1 c.channel_on.result h _ c.channel_on.ensures (c.in-Some.is ∙ ap (λ (p : Phase). Some (h, p)) c.in-Live.is) in
    turns-found c.args.self.now c.args.circuit c.args.header.now.p1 h (phase.Live (native_of c.in-Live.native) c.in-Live.field-1) (phase.Live (native_of c.in-Live.native) c.args.header.now.p2) at refl (λ live. live)

pub set_phase-requires-in-Live-clause-alive : goal.set_phase-requires-in-Live-clause-alive
set_phase-requires-in-Live-clause-alive c =
    let h = c.in-Some.channel in
    let at : channel_on c.args.self.now c.args.circuit c.args.header.now.p1 ≡ Some (h, phase.Live (native_of c.in-Live.native) c.in-Live.field-1) =
    found-on-circuit c.args.self.now c.args.circuit c.args.header.now.p1 c.channel_on.result h _ c.channel_on.ensures (c.in-Some.is ∙ ap (λ (p : Phase). Some (h, p)) c.in-Live.is) in
    λ e. live-found c.args.self.now c.args.circuit c.args.header.now.p1 h (phase.Live (native_of c.in-Live.native) c.in-Live.field-1) at refl
