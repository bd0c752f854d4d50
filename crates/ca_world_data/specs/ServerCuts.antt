-- Working: a server's end of a circuit is cut.
use Rattle.std.specs.Prelude.{ℕ, ◌≡◌, ◌≢◌, ◌+◌, ◌==◌, ◌≤◌, List, [], Ok, Err, Result, Vec, map}
use Rattle.std.specs.Prelude.{vec_capacity, vec_len}
use Rattle.std.specs.declared.alloc.Global.{Global}
use Rattle.ca_arena.specs.declared.handle.Handle.{Handle}
use Rattle.ca_ids.specs.Table.{under}
use Rattle.ca_text.specs.declared.refusal.Refusal.{Refusal}
use Rattle.ca_text.specs.declared.refusal.Refusal.TheVariants.{OutOfMemory}
use Rattle.ca_text.specs.Place.{At}
use Rattle.ca_model.specs.Ends as why
use Rattle.ca_model.specs.History as history
use Rattle.ca_model.specs.Server.{Server, ServerEnd}
use Rattle.ca_model.specs.ServerSteps.{HasEnd, Stepped, closed, ended, output_of}
use Rattle.ca_model.specs.ServerSteps as steps
use Rattle.ca_model.specs.ServerEvents.{server_closed, without_puts}
use Rattle.ca_model.specs.World.{grown}
use Rattle.ca_world_data.specs.declared.history.LogEntry.{LogEntry}
use Rattle.ca_world_data.specs.declared.joined.Joined.{Joined}
use Rattle.ca_world_data.specs.declared.server.ServerSide.{ServerSide}
use Rattle.ca_world_data.specs.Seen.{joined_of, record_of, server_of}
use Rattle.ca_world_data.specs.Withdrawing.{all_withdrawn}

-- there is room for n entries in the log of a life, if it has one
abbrev pub HasRoomFor : (entries life : ℕ) → List (Vec LogEntry Global) → Type 0
HasRoomFor entries life logs =
    (log : Vec LogEntry Global) → At logs life log → vec_len log + entries ≤ vec_capacity log

-- what an end left that a step reports
abbrev pub left_in : Stepped → List ℕ
left_in (steps.Closed cause left) = left
left_in did = []

-- the core has an open end under this handle
abbrev pub IsServing : Server → Handle → Type 0
IsServing y h = (e : ServerEnd) × HasEnd y h e

-- the core whose open end under this handle was cut, and that was reported
abbrev pub cut_core : Handle → Server → Server
cut_core h y = closed h (ended h why.Cut (output_of (under y.circuits h)) y)

-- The end at the server of circuit k is cut: it leaves what waited, and its puts
-- that wait are withdrawn. That takes memory only if one waits.
abbrev pub CutsServer : (k : ℕ) → ServerSide → Joined → List (List history.Entry)
    → Result (Unit {0}) Refusal → ServerSide → Joined → List (List history.Entry) → Type 0
CutsServer k y j logs (Ok _) y' j' logs' =
    (server_of y' ≡ record
    (server_of y) {
      core = cut_core j.at_server y.core;
      records = map (without_puts (λ n. n == k)) (map record_of y.records.items);
    })
    × (y'.circuits.items ≡ y.circuits.items)
    × (joined_of j' ≡ server_closed (output_of (under y.core.circuits j.at_server)) (joined_of j))
    × (logs' ≡ grown y.life (all_withdrawn k y.records.items) logs)
CutsServer k y j logs (Err OutOfMemory) y' j' logs' =
    (all_withdrawn k y.records.items ≢ []) × (y' ≡ y) × (j' ≡ j) × (logs' ≡ logs)
CutsServer k y j logs (Err _) y' j' logs' = ⊥
