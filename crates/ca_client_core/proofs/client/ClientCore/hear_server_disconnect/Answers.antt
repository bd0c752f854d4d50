use Rattle.std.proofs.Common.{◌≡◌, ◌∙◌, Some, ap, refl}
use Rattle.ca_model.specs.Client as phase
use Rattle.ca_model.specs.Client.{channel_on}
use Rattle.ca_client_tables.specs.declared.channel.Phase.{Phase}
use Rattle.ca_client_tables.specs.Forms.{native_of}
use Rattle.ca_client_core.proofs.Placing.{found-on-circuit, turns-found}
use Rattle.ca_client_core.proofs.client.ClientCore.hear_server_disconnect.Goals as goal

pub leave-requires : goal.leave-requires
leave-requires c =
    let x = c.args.self.now in
    let h = c.in-Some.channel in
    let live = phase.Live (native_of c.in-Live.native) c.in-Live.field-1 in
    let at : channel_on x c.args.circuit c.args.header.now.p1 ≡ Some (h, live) =
    found-on-circuit x c.args.circuit c.args.header.now.p1 c.channel_on.result h _ c.channel_on.ensures (c.in-Some.is ∙ ap (λ (p : Phase). Some (h, p)) c.in-Live.is) in
    turns-found x c.args.circuit c.args.header.now.p1 h live phase.Leaving at refl (λ was. refl)
