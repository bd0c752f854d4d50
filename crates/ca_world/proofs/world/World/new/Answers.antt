use Rattle.std.proofs.Common.{◌≡◌, List, [], map, ap, refl, sym, subst, ◌∙◌}
use Rattle.ca_model.specs.Ends.{Address}
use Rattle.ca_model.specs.World.{Joined, Setting, addresses, client_begun, numbered, opening}
use Rattle.ca_model.specs.World as model
use Rattle.ca_laws_parts.specs.ServerFits.{ServersFit}
use Rattle.ca_laws_parts.proofs.ServerSpeaking.{opening-servers}
use Rattle.ca_laws_runs.specs.Quiet.{ClientsQuiet}
use Rattle.ca_laws_runs.proofs.Kept.{quiet-opening}
use Rattle.ca_laws_parts.specs.Clients.{ClientsStand}
use Rattle.ca_laws_parts.proofs.RunsEvents.{stands-opening}
use Rattle.ca_world_data.specs.Indexed.{AreIndexed, client_numbers, server_numbers}
use Rattle.ca_world.specs.Whole.{CameAbout, IsReached}
use Rattle.ca_world_data.specs.Named.{AreMeant}
use Rattle.ca_world_data.specs.Restarts.{address_of}
use Rattle.ca_world_data.specs.Seen.{joined_of}
use Rattle.ca_world_data.proofs.Restarting.{addresses-begun}
use Rattle.ca_world.proofs.Meanings.{mean-opening}
use Rattle.ca_world.proofs.world.World.new.Goals as goal

pub invariant_of-result : goal.invariant_of-result
invariant_of-result c =
    let s : Setting = record { clients = c.config.inside.clients.items; servers = c.config.inside.servers.items } in
    let none : map joined_of c.new.result.items ≡ [] = ap (map joined_of) c.new.ensures.items in
    let known : c.deref-2.result.now ≡ addresses s.servers = c.deref-2.ensures.value ∙ c.in_ok-servers_at.ensures ∙ ap (map address_of) c.deref.ensures.value ∙ addresses-begun s.servers c.in_ok-servers.servers.items c.in_ok-servers.ensures.0 in
    let is : _ ≡ opening s = λ t. record {
      clients = (c.in_ok-clients.ensures.0 ∙ ap (λ (a : List Address). numbered 0 (client_begun a 0) s.clients) known) t;
      servers = c.in_ok-servers.ensures.0 t;
      circuits = none t;
      client_logs = c.in_ok-clients.ensures.1 t;
      server_logs = c.in_ok-servers.ensures.1 t;
      moment = 0;
    } in
    record {
      indexed = subst (λ (z : List Joined). AreIndexed (client_numbers c.in_ok-clients.clients.items) (server_numbers c.in_ok-servers.servers.items) z) (sym none)
          (record { clients = λ k j at on. absurd cc; servers = λ k j at on. absurd cc });
      reached = subst (λ (z : model.World). IsReached z) (sym is) (s, [], c.config.invariant, refl);
      came_about = subst (λ (z : model.World). CameAbout z) (sym is) (s, [], c.config.invariant, (λ i e at. absurd cc), refl);
      clients = subst (λ (z : model.World). ClientsStand z) (sym is) (stands-opening s);
      quiet = subst (λ (z : model.World). ClientsQuiet z) (sym is) (quiet-opening s);
      named = subst (λ (z : model.World). AreMeant z.clients) (sym is) (mean-opening s);
      fit = subst (λ (z : model.World). ServersFit z) (sym is) (opening-servers s c.config.invariant);
    }

pub returns-clause-opening : goal.returns-clause-opening
returns-clause-opening c =
    let s : Setting = record { clients = c.config.inside.clients.items; servers = c.config.inside.servers.items } in
    let none : map joined_of c.new.result.items ≡ [] = ap (map joined_of) c.new.ensures.items in
    let known : c.deref-2.result.now ≡ addresses s.servers = c.deref-2.ensures.value ∙ c.in_ok-servers_at.ensures ∙ ap (map address_of) c.deref.ensures.value ∙ addresses-begun s.servers c.in_ok-servers.servers.items c.in_ok-servers.ensures.0 in
    let is : _ ≡ opening s = λ t. record {
      clients = (c.in_ok-clients.ensures.0 ∙ ap (λ (a : List Address). numbered 0 (client_begun a 0) s.clients) known) t;
      servers = c.in_ok-servers.ensures.0 t;
      circuits = none t;
      client_logs = c.in_ok-clients.ensures.1 t;
      server_logs = c.in_ok-servers.ensures.1 t;
      moment = 0;
    } in
    is ∙ ap opening c.config.view_is
