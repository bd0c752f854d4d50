-- Working: a value is posted at a server.
use Rattle.std.specs.Prelude.{ℕ, ◌≡◌, ◌≢◌, ◌⊎◌, Bool, List, Ok, Err, Result, map}
use Rattle.ca_arena.specs.declared.handle.Handle.{Handle}
use Rattle.ca_records.specs.Calls.{PostFits}
use Rattle.ca_text.specs.declared.refusal.Refusal.{Refusal}
use Rattle.ca_text.specs.declared.refusal.Refusal.TheVariants.{OutOfMemory}
use Rattle.ca_model.specs.History.{Entry}
use Rattle.ca_model.specs.Server.{Server}
use Rattle.ca_model.specs.ServerCalls.{Posts}
use Rattle.ca_model.specs.Speech.{Stored}
use Rattle.ca_model.specs.ServerEvents.{numbers_posted, posted_entry}
use Rattle.ca_model.specs.World.{Joined, grown}
use Rattle.ca_world_data.specs.declared.server.ServerSide.{ServerSide}
use Rattle.ca_world_data.specs.Reporting.{Reports}
use Rattle.ca_world_data.specs.Seen.{server_of}

-- The core of server i has this post: it is in the log, its numbers wait, and ends that
-- ended by it are reported.
abbrev pub TellsPost : (i : ℕ) → (name : List ℕ) → Stored → (mask : ℕ) → ServerSide → List Joined
    → List (List Entry) → ServerSide → List Joined → List (List Entry) → Type 0
TellsPost i name v mask y ks logs y' ks' logs' =
    Reports i y (map (numbers_posted i y.core name mask) ks)
    (grown y.life (posted_entry (server_of y) name v mask) logs) y' ks' logs'

-- A value is posted at server i; the core may refuse it, and nothing changes. Only one that the
-- core takes lacks memory.
abbrev pub PostsAt : (i : ℕ) → (name : List ℕ) → Stored → (mask : ℕ) → ServerSide → List Joined
    → List (List Entry) → Result (Unit {0}) Refusal → ServerSide → List Joined → List (List Entry)
    → Type 0
PostsAt i name v mask y ks logs (Ok _) y' ks' logs' =
    (gone : Handle → Bool) × (core : Server)
    × ((Posts y.core name v mask gone (Ok tt) core
    × TellsPost i name v mask (record y { core = core }) ks logs y' ks' logs')
    ⊎ ((e : Refusal) × (e ≢ OutOfMemory) × Posts y.core name v mask gone (Err e) core × (y' ≡ y)
    × (ks' ≡ ks) × (logs' ≡ logs)))
PostsAt i name v mask y ks logs (Err OutOfMemory) y' ks' logs' =
    PostFits y.core.records name v.value × (y' ≡ y) × (ks' ≡ ks) × (logs' ≡ logs)
PostsAt i name v mask y ks logs (Err _) y' ks' logs' = ⊥
