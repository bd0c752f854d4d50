use Rattle.std.proofs.Common.{◌≡◌, ◌∙◌, Some, ap, refl}
use Rattle.ca_model.specs.Client as phase
use Rattle.ca_model.specs.Client.{channel_on}
use Rattle.ca_client_tables.specs.declared.channel.Phase.{Phase}
use Rattle.ca_client_tables.specs.Forms.{native_of}
use Rattle.ca_client_core.proofs.Placing.{found-on-circuit, turns-found}
use Rattle.ca_client_core.proofs.client.ClientCore.hear_create_channel.Goals as goal

pub go_live-requires : goal.go_live-requires
go_live-requires c =
    let x = c.args.self.now in
    let h = c.in-Some.channel in
    let at : channel_on x c.args.circuit c.args.header.now.p1 ≡ Some (h, phase.Creating c.in-Creating.rights) =
    found-on-circuit x c.args.circuit c.args.header.now.p1 c.channel_on.result h _ c.channel_on.ensures (c.in-Some.is ∙ ap (λ (p : Phase). Some (h, p)) c.in-Creating.is) in
    turns-found x c.args.circuit c.args.header.now.p1 h (phase.Creating c.in-Creating.rights) (phase.Live (native_of c.native_in.result) c.in-Creating.rights) at refl (λ was. refl)

pub clear_doomed-requires : goal.clear_doomed-requires
clear_doomed-requires c =
    let x = c.args.self.now in
    let h = c.in-Some.channel in
    let at : channel_on x c.args.circuit c.args.header.now.p1 ≡ Some (h, phase.Doomed) =
    found-on-circuit x c.args.circuit c.args.header.now.p1 c.channel_on.result h _ c.channel_on.ensures (c.in-Some.is ∙ ap (λ (p : Phase). Some (h, p)) c.in-Doomed.is) in
    turns-found x c.args.circuit c.args.header.now.p1 h phase.Doomed phase.Clearing at refl (λ was. refl)
