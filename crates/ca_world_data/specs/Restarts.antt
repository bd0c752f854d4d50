-- Working: a client or a server begins a new life.
use Rattle.std.specs.Prelude.{ℕ, ◌≡◌, ◌++◌, List, [], ◌∷◌, Ok, Err, Result, Vec, length, map}
use Rattle.std.specs.declared.alloc.Global.{Global}
use Rattle.ca_text.specs.declared.refusal.Refusal.{Refusal}
use Rattle.ca_text.specs.declared.refusal.Refusal.TheVariants.{OutOfMemory}
use Rattle.ca_model.specs.Ends.{Address}
use Rattle.ca_model.specs.History as history
use Rattle.ca_model.specs.Server.{Server, new_server}
use Rattle.ca_model.specs.World.{RecordSide, ServerSetting, client_begun, log_begun, numbered}
use Rattle.ca_model.specs.World.{record_begun, server_begun}
use Rattle.ca_world_data.specs.declared.client.ClientSide.{ClientSide}
use Rattle.ca_world_data.specs.declared.history.LogEntry.{LogEntry}
use Rattle.ca_world_data.specs.declared.history.Line.{Line}
use Rattle.ca_world_data.specs.declared.joined.Joined.{Joined}
use Rattle.ca_world_data.specs.declared.server.ServerSide.{ServerSide}
use Rattle.ca_world_data.specs.Closing.{client_left, client_over, server_left, server_over}
use Rattle.ca_world_data.specs.Closing.{with_lefts}
use Rattle.ca_world_data.specs.Logs.{lines_in}
use Rattle.ca_world_data.specs.Opening.{entries_in}
use Rattle.ca_world_data.specs.Seen.{client_of, joined_of, server_of}

-- where a server is
abbrev pub address_of : ServerSide → Address
address_of y = y.setting.address

-- Client i begins a new life, which knows servers at these addresses.
abbrev pub RestartsClient : (servers : List Address) → (moment i : ℕ) → ClientSide
    → List (Vec Line Global) → List Joined → Result (Unit {0}) Refusal → ClientSide
    → List (Vec Line Global) → List Joined → Type 0
RestartsClient servers moment i x logs ks (Ok _) x' logs' ks' =
    (client_of x' ≡ client_begun servers moment (length logs) x.setting) × (x'.circuits.items ≡ [])
    × (lines_in logs' ≡ lines_in logs ++ [] ∷ [])
    × (map joined_of ks' ≡ with_lefts (client_over i) (map joined_of ks)
    (map (λ (j : Joined). client_left i x.core (joined_of j)) ks))
RestartsClient servers moment i x logs ks (Err OutOfMemory) x' logs' ks' =
    (x' ≡ x) × (lines_in logs' ≡ lines_in logs) × (ks' ≡ ks)
RestartsClient servers moment i x logs ks (Err _) x' logs' ks' = ⊥

-- this core, these records and this log begin a life of a server that is given so
abbrev pub BeginsServer : (moment : ℕ) → ServerSetting → Server → List RecordSide
    → List history.Entry → Type 0
BeginsServer moment s core records log =
    (core ≡ new_server s.address.port moment s.rules s.records)
    × (records ≡ numbered 0 record_begun s.records) × (log ≡ log_begun s)

-- Server i begins a new life.
abbrev pub RestartsServer : (moment i : ℕ) → ServerSide → List (Vec LogEntry Global) → List Joined
    → Result (Unit {0}) Refusal → ServerSide → List (Vec LogEntry Global) → List Joined → Type 0
RestartsServer moment i y logs ks (Ok _) y' logs' ks' =
    (server_of y' ≡ server_begun moment (length logs) y.setting) × (y'.circuits.items ≡ [])
    × (entries_in logs' ≡ entries_in logs ++ log_begun y.setting ∷ [])
    × (map joined_of ks' ≡ with_lefts (server_over i) (map joined_of ks)
    (map (λ (j : Joined). server_left i y.core (joined_of j)) ks))
RestartsServer moment i y logs ks (Err OutOfMemory) y' logs' ks' =
    (y' ≡ y) × (entries_in logs' ≡ entries_in logs) × (ks' ≡ ks)
RestartsServer moment i y logs ks (Err _) y' logs' ks' = ⊥
