use Rattle.std.proofs.Common.{◌≡◌, ◌++◌, [], length, map}
use Rattle.ca_model.specs.World.{ClientSetting, client_begun, numbered}
use Rattle.ca_world_data.specs.Logs.{lines_in}
use Rattle.ca_world_data.specs.Seen.{client_of}
use Rattle.ca_world_data.proofs.opening.begin_clients.Given as goal

-- the clients that are left make up the rest
abbrev pub invariant-loop-setting : goal.invariant-loop-setting
invariant-loop-setting l =
    record {
      clients : map client_of l.clients.items ++ numbered (length l.clients.items) (client_begun l.servers 0) l.setting-iterator.rest.items ≡ numbered 0 (client_begun l.servers 0) l.fn.settings.items;
      logs : lines_in l.logs.items ++ map (λ (s : ClientSetting). []) l.setting-iterator.rest.items ≡ map (λ (s : ClientSetting). []) l.fn.settings.items;
    }
