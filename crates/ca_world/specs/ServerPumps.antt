-- Working: updates leave the queues of a server's end.
use Rattle.std.specs.Prelude.{ℕ, ◌≡◌, ◌≢◌, ◌==◌, ◌⊎◌, List, [], Option, Some, None, Ok, Err, Result}
use Rattle.std.specs.Prelude.{map}
use Rattle.std.specs.List.{FoldsTo}
use Rattle.ca_arena.specs.declared.handle.Handle.{Handle}
use Rattle.ca_text.specs.declared.refusal.Refusal.{Refusal}
use Rattle.ca_text.specs.declared.refusal.Refusal.TheVariants.{OutOfMemory}
use Rattle.ca_model.specs.Ends as why
use Rattle.ca_model.specs.History as history
use Rattle.ca_model.specs.Server.{Server, ServerEnd}
use Rattle.ca_model.specs.ServerSteps.{HasEnd, Leaves, Pumps, Rests, Update, closed, ended}
use Rattle.ca_model.specs.ServerSteps.{with_end}
use Rattle.ca_model.specs.ServerEvents.{server_closed, without_puts}
use Rattle.ca_model.specs.World.{grown}
use Rattle.ca_model.specs.World as model
use Rattle.ca_world_data.specs.declared.joined.Joined.{Joined}
use Rattle.ca_world_data.specs.declared.server.ServerSide.{ServerSide}
use Rattle.ca_world_data.specs.Does.{MayPump}
use Rattle.ca_world_data.specs.Seen.{joined_of, record_of, server_of}
use Rattle.ca_world_data.specs.Updates.{AreGood, TellsOne, shown_by}
use Rattle.ca_world_data.specs.Withdrawing.{all_withdrawn}

-- all updates that a pump of this end sends are messages
abbrev pub UpdatesFit : Server → Handle → Type 0
UpdatesFit y h =
    (updates : List Update) (new : Server) → Pumps y h updates new → AreGood (shown_by updates)

-- Updates left the queues of the end under the circuit's handle, and went down with their numbers.
pub record Pumped (y : Server) (j new : model.Joined) : Type 0 where
  pub e : ServerEnd
  pub has : HasEnd y j.at_server e
  pub updates : List Update
  pub after : ServerEnd
  pub leave : FoldsTo Leaves e updates after
  pub told : FoldsTo TellsOne j (shown_by updates) new

-- the core whose end under this handle ended out of memory, and that was reported
abbrev pub over_core : Handle → (left : List ℕ) → Server → Server
over_core h left y = closed h (ended h why.OutOfMemory left y)

-- The end was pumped until it rests; or it ended out of memory for the next update,
-- and left these bytes.
abbrev pub PumpsUntil : Server → model.Joined → Option (List ℕ) → Server → model.Joined → Type 0
PumpsUntil y j None y' new =
    (p : Pumped y j new) × Rests p.after × (y' ≡ with_end j.at_server p.after y)
PumpsUntil y j (Some left) y' new =
    (p : Pumped y j new) × (Rests p.after → ⊥) × (left ≡ p.after.link.output)
    × (y' ≡ over_core j.at_server left y)

-- The end at the server of circuit k is pumped. If it ended, its puts that wait are withdrawn.
abbrev pub PumpsServer : (k : ℕ) → ServerSide → Joined → List (List history.Entry)
    → Result (Unit {0}) Refusal → ServerSide → Joined → List (List history.Entry) → Type 0
PumpsServer k y j logs (Ok _) y' j' logs' =
    (y'.circuits.items ≡ y.circuits.items)
    × ((PumpsUntil y.core (joined_of j) None y'.core (joined_of j')
    × (server_of y' ≡ record (server_of y) { core = y'.core }) × (logs' ≡ logs))
    ⊎ ((left : List ℕ) × (mid : model.Joined)
    × PumpsUntil y.core (joined_of j) (Some left) y'.core mid
    × (joined_of j' ≡ server_closed left mid)
    × (server_of y' ≡ record
    (server_of y) {
      core = y'.core;
      records = map (without_puts (λ n. n == k)) (map record_of y.records.items);
    })
    × (logs' ≡ grown y.life (all_withdrawn k y.records.items) logs)))
PumpsServer k y j logs (Err OutOfMemory) y' j' logs' =
    ((all_withdrawn k y.records.items ≢ []) ⊎ MayPump y.core (joined_of j)) × (y' ≡ y)
    × (joined_of j' ≡ joined_of j) × (logs' ≡ logs)
PumpsServer k y j logs (Err _) y' j' logs' = ⊥
