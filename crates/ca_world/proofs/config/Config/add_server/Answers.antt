use Rattle.std.proofs.Common.{◌≡◌, ◌∙◌, false, List, ap, subst, sym}
use Rattle.ca_model.specs.World.{IsSetting, ServerSetting, Setting}
use Rattle.ca_world_data.specs.Settings.{IsServer, is_taken}
use Rattle.ca_world_data.proofs.Settled.{server-more}
use Rattle.ca_world.proofs.config.Config.add_server.Goals as goal

pub invariant_of-self-2 : goal.invariant_of-self-2
invariant_of-self-2 c =
    let old : Setting = record { clients = c.self.inside.clients.items; servers = c.self.inside.servers.items } in
    let fits : IsServer c.args.server = subst (λ (n : ServerSetting). IsServer n) c.server.view_is c.server.invariant in
    let here : is_taken c.server.inside.address c.self.inside.servers.items ≡ false =
    ap (λ (ys : List ServerSetting). is_taken c.server.inside.address ys) (sym c.deref.ensures.value) ∙ sym c.has_address.ensures ∙ c.if-has_address.false in
    let free : is_taken c.args.server.address c.self.inside.servers.items ≡ false = subst (λ (n : ServerSetting). is_taken n.address c.self.inside.servers.items ≡ false) c.server.view_is here in
    subst (λ (ys : List ServerSetting). IsSetting (record { clients = c.self.inside.clients.items; servers = ys })) (sym c.in_ok-push.ensures.items) (server-more old c.args.server c.self.invariant fits free)
