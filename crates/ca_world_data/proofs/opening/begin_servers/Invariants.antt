use Rattle.std.proofs.Common.{◌≡◌, ◌++◌, length, map}
use Rattle.ca_model.specs.World.{log_begun, numbered, server_begun}
use Rattle.ca_world_data.specs.Opening.{entries_in}
use Rattle.ca_world_data.specs.Seen.{server_of}
use Rattle.ca_world_data.proofs.opening.begin_servers.Given as goal

-- the servers that are left make up the rest
abbrev pub invariant-loop-setting : goal.invariant-loop-setting
invariant-loop-setting l =
    record {
      servers : map server_of l.servers.items ++ numbered (length l.servers.items) (server_begun 0) l.setting-iterator.rest.items ≡ numbered 0 (server_begun 0) l.fn.settings.items;
      logs : entries_in l.logs.items ++ map log_begun l.setting-iterator.rest.items ≡ map log_begun l.fn.settings.items;
    }
