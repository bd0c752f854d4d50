use Rattle.std.proofs.Common.{subst, sym}
use Rattle.ca_model.specs.Client.{Client}
use Rattle.ca_model.specs.Placed.{HasNothingOut}
use Rattle.ca_client_core.proofs.Cleared.{header_only-freed}
use Rattle.ca_client_core.proofs.client.ClientCore.let_channel_go.Goals as goal

pub remove_channel-requires : goal.remove_channel-requires
remove_channel-requires c = subst (λ (y : Client). HasNothingOut c.args.channel y) (sym c.free_subscriptions.ensures) (header_only-freed c.args.channel c.args.channel c.args.self.now c.requires)
