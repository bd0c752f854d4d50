-- Working: clients and servers that begin, with their logs.
use Rattle.std.specs.Prelude.{◌≡◌, ◌++◌, List, [], ◌∷◌, Vec, length, map}
use Rattle.std.specs.declared.alloc.Global.{Global}
use Rattle.ca_model.specs.Ends.{Address}
use Rattle.ca_model.specs.History as history
use Rattle.ca_model.specs.World.{ClientSetting, ServerSetting, client_begun, log_begun, numbered}
use Rattle.ca_model.specs.World.{server_begun}
use Rattle.ca_world_data.specs.declared.client.ClientSide.{ClientSide}
use Rattle.ca_world_data.specs.declared.history.LogEntry.{LogEntry}
use Rattle.ca_world_data.specs.declared.history.Line.{Line}
use Rattle.ca_world_data.specs.declared.server.ServerSide.{ServerSide}
use Rattle.ca_world_data.specs.Logs.{lines_in}
use Rattle.ca_world_data.specs.Seen.{client_of, entry_of, server_of}

-- the logs of servers as lists
abbrev pub entries_in : List (Vec LogEntry Global) → List (List history.Entry)
entries_in logs = map (λ (log : Vec LogEntry Global). map entry_of log.items) logs

-- one client more, with its log
abbrev pub HasClients : List Address → ClientSetting → List ClientSide → List (Vec Line Global)
    → List ClientSide → List (Vec Line Global) → Type 0
HasClients servers s cs logs cs' logs' =
    (map client_of cs' ≡ map client_of cs ++ client_begun servers 0 (length cs) s ∷ [])
    × (lines_in logs' ≡ lines_in logs ++ [] ∷ [])

-- one server more, with its log
abbrev pub HasServers : ServerSetting → List ServerSide → List (Vec LogEntry Global)
    → List ServerSide
    → List (Vec LogEntry Global) → Type 0
HasServers s ss logs ss' logs' =
    (map server_of ss' ≡ map server_of ss ++ server_begun 0 (length ss) s ∷ [])
    × (entries_in logs' ≡ entries_in logs ++ log_begun s ∷ [])

-- all clients, with their logs
abbrev pub BeginClients : List Address → List ClientSetting → List ClientSide
    → List (Vec Line Global) → Type 0
BeginClients servers settings cs logs =
    (map client_of cs ≡ numbered 0 (client_begun servers 0) settings)
    × (lines_in logs ≡ map (λ (s : ClientSetting). []) settings)

-- all servers, with their logs
abbrev pub BeginServers : List ServerSetting → List ServerSide → List (Vec LogEntry Global) → Type 0
BeginServers settings ss logs =
    (map server_of ss ≡ numbered 0 (server_begun 0) settings)
    × (entries_in logs ≡ map log_begun settings)
