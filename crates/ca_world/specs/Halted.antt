-- Working: a world where a run ended, as the statement has it.
use Rattle.std.specs.Prelude.{List, Option, map}
use Rattle.ca_model.specs.Events.{Event}
use Rattle.ca_model.specs.Runs.{AreEvents, Runs}
use Rattle.ca_model.specs.World.{IsSetting, Setting, World}
use Rattle.ca_world.specs.declared.stopped.Stopped.TheInside.{Inside}
use Rattle.ca_world_data.specs.Seen.{client_of, entry_of, joined_of, line_of, server_of}

-- the world as the statement has it
abbrev pub halted : Inside → World
halted w = record {
  clients = map client_of w.clients.items;
  servers = map server_of w.servers.items;
  circuits = map joined_of w.circuits.items;
  client_logs = map (λ log. map line_of log.items) w.client_logs.items;
  server_logs = map (λ log. map entry_of log.items) w.server_logs.items;
  moment = w.moment;
}

-- a run of well-formed events from a well-formed setting ended in it
abbrev pub HasStopped : World → Type 0
HasStopped w =
    (s : Setting) × (es : List Event) × (stopped : Option Event) × IsSetting s × AreEvents es
    × Runs s es stopped w
