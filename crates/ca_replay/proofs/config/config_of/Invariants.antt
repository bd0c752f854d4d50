use Rattle.std.proofs.Common.{◌≡◌, ◌++◌, []}
use Rattle.ca_replay.proofs.config.config_of.Given as goal

-- the clients that are left make up the rest
abbrev pub invariant-loop-client : goal.invariant-loop-client
invariant-loop-client l =
    record {
      clients : l.config.clients ++ l.client-iterator.rest.items ≡ l.fn.clients.items;
      servers : l.config.servers ≡ [];
    }

-- and so do the servers
abbrev pub invariant-loop-server : goal.invariant-loop-server
invariant-loop-server l =
    record {
      clients : l.config.clients ≡ l.fn.clients.items;
      servers : l.config.servers ++ l.server-iterator.rest.items ≡ l.fn.servers.items;
    }
