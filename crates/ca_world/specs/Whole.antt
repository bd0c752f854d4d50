-- Working: a world as the statement has it, and what holds of it at each moment.
use Rattle.std.specs.Prelude.{List, map}
use Rattle.std.specs.List.{FoldsTo}
use Rattle.ca_model.specs.Events.{Event}
use Rattle.ca_model.specs.Runs.{AreEvents, Happens}
use Rattle.ca_model.specs.World.{IsSetting, Setting, World, opening}
use Rattle.ca_laws_parts.specs.ServerFits.{ServersFit}
use Rattle.ca_laws_runs.specs.Quiet.{ClientsQuiet}
use Rattle.ca_laws_parts.specs.Clients.{ClientsStand}
use Rattle.ca_world.specs.declared.world.World.TheInside.{Inside}
use Rattle.ca_world_data.specs.Indexed.{AreIndexed, client_numbers, server_numbers}
use Rattle.ca_world_data.specs.Named.{AreMeant}
use Rattle.ca_world_data.specs.Seen.{client_of, entry_of, joined_of, line_of, server_of}

-- the world as the statement has it
abbrev pub seen : Inside → World
seen w = record {
  clients = map client_of w.clients.items;
  servers = map server_of w.servers.items;
  circuits = map joined_of w.circuits.items;
  client_logs = map (λ log. map line_of log.items) w.client_logs.items;
  server_logs = map (λ log. map entry_of log.items) w.server_logs.items;
  moment = w.moment;
}

-- events lead to this world from a well-formed setting
abbrev pub IsReached : World → Type 0
IsReached w = (s : Setting) × (es : List Event) × IsSetting s × FoldsTo Happens (opening s) es w

-- well-formed events lead to this world from a well-formed setting
abbrev pub CameAbout : World → Type 0
CameAbout w =
    (s : Setting) × (es : List Event) × IsSetting s × AreEvents es
    × FoldsTo Happens (opening s) es w

-- What holds of a world at each moment: circuits are found by their handles; events lead to it,
-- which are well-formed; its clients stand, what they sent is as their tables are, as in every run,
-- and each handle means what is beside it; what its servers send are messages.
pub record Stands (w : Inside) : Type 0 where
  pub indexed : AreIndexed (client_numbers w.clients.items) (server_numbers w.servers.items)
      (map joined_of w.circuits.items)
  pub reached : IsReached (seen w)
  pub came_about : CameAbout (seen w)
  pub clients : ClientsStand (seen w)
  pub quiet : ClientsQuiet (seen w)
  pub named : AreMeant (map client_of w.clients.items)
  pub fit : ServersFit (seen w)
