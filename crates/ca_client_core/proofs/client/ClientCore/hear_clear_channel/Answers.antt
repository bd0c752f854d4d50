use Rattle.std.proofs.Common.{◌≡◌, Some, ap, ◌∙◌, subst, sym}
use Rattle.ca_model.specs.Client as phase
use Rattle.ca_model.specs.Client.{Client, channel_on}
use Rattle.ca_client_tables.specs.declared.channel.Phase.{Phase}
use Rattle.ca_model.specs.Placed.{HasNothingOut}
use Rattle.ca_client_core.proofs.Placing.{drained-found, found-on-circuit}
use Rattle.ca_client_core.proofs.client.ClientCore.hear_clear_channel.Goals as goal

pub seek_again-requires : goal.seek_again-requires
seek_again-requires c =
    let h = c.in-Some.channel in
    let at : channel_on c.args.self.now c.args.circuit c.args.header.now.p2 ≡ Some (h, phase.Leaving) =
    found-on-circuit c.args.self.now c.args.circuit c.args.header.now.p2 c.channel_on.result h _ c.channel_on.ensures (c.in-Some.is ∙ ap (λ (p : Phase). Some (h, p)) c.in-Leaving.is) in
    subst (λ (y : Client). HasNothingOut h y) (sym c.end_draining.ensures) (drained-found c.args.self.now c.args.circuit c.args.header.now.p2 h phase.Leaving at c.know.ensures)

pub remove_channel-requires : goal.remove_channel-requires
remove_channel-requires c =
    let h = c.in-Some.channel in
    let at : channel_on c.args.self.now c.args.circuit c.args.header.now.p2 ≡ Some (h, phase.Clearing) =
    found-on-circuit c.args.self.now c.args.circuit c.args.header.now.p2 c.channel_on.result h _ c.channel_on.ensures (c.in-Some.is ∙ ap (λ (p : Phase). Some (h, p)) c.in-Clearing.is) in
    subst (λ (y : Client). HasNothingOut h y) (sym c.end_draining-in-Clearing.ensures) (drained-found c.args.self.now c.args.circuit c.args.header.now.p2 h phase.Clearing at c.know.ensures)
