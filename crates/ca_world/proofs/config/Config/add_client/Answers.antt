use Rattle.std.proofs.Common.{List, subst, sym}
use Rattle.ca_model.specs.World.{ClientSetting, IsSetting}
use Rattle.ca_world_data.proofs.Settled.{client-more}
use Rattle.ca_world.proofs.config.Config.add_client.Goals as goal

pub invariant_of-self-2 : goal.invariant_of-self-2
invariant_of-self-2 c =
    subst (λ (cs : List ClientSetting). IsSetting (record { clients = cs; servers = c.self.inside.servers.items }))
    (sym c.in_ok-push.ensures.items)
    (client-more (record { clients = c.self.inside.clients.items; servers = c.self.inside.servers.items }) c.args.client c.self.invariant c.know.ensures)
