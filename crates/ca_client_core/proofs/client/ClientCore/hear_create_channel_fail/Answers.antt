use Rattle.std.proofs.Common.{◌≡◌, Some, ap, refl, ◌∙◌}
use Rattle.ca_model.specs.Client as phase
use Rattle.ca_model.specs.Client.{channel_on}
use Rattle.ca_client_tables.specs.declared.channel.Phase.{Phase}
use Rattle.ca_client_core.proofs.Placing.{header_only-found, found-on-circuit}
use Rattle.ca_client_core.proofs.client.ClientCore.hear_create_channel_fail.Goals as goal

pub seek_again-requires : goal.seek_again-requires
seek_again-requires c =
    let h = c.in-Some.channel in
    let at : channel_on c.args.self.now c.args.circuit c.args.header.now.p1 ≡ Some (h, phase.Creating c.in-Creating.field-0) =
    found-on-circuit c.args.self.now c.args.circuit c.args.header.now.p1 c.channel_on.result h _ c.channel_on.ensures (c.in-Some.is ∙ ap (λ (p : Phase). Some (h, p)) c.in-Creating.is) in
    header_only-found c.args.self.now c.args.circuit c.args.header.now.p1 h (phase.Creating c.in-Creating.field-0) at refl c.know.ensures

pub remove_channel-requires : goal.remove_channel-requires
remove_channel-requires c =
    let h = c.in-Some.channel in
    let at : channel_on c.args.self.now c.args.circuit c.args.header.now.p1 ≡ Some (h, phase.Doomed) =
    found-on-circuit c.args.self.now c.args.circuit c.args.header.now.p1 c.channel_on.result h _ c.channel_on.ensures (c.in-Some.is ∙ ap (λ (p : Phase). Some (h, p)) c.in-Doomed.is) in
    header_only-found c.args.self.now c.args.circuit c.args.header.now.p1 h phase.Doomed at refl c.know.ensures
