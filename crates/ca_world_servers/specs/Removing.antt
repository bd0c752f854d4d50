-- Working: a record of a server is removed.
use Rattle.std.specs.Prelude.{ℕ, ◌≡◌, ◌⊎◌, Bool, true, List, Ok, Err, Result, Vec, filter, is_some}
use Rattle.std.specs.Prelude.{map, not}
use Rattle.std.specs.declared.alloc.Global.{Global}
use Rattle.std.specs.Str.{bytes_eq}
use Rattle.ca_arena.specs.declared.handle.Handle.{Handle}
use Rattle.ca_records.specs.Puts.{record_named}
use Rattle.ca_text.specs.declared.refusal.Refusal.{Refusal}
use Rattle.ca_text.specs.declared.refusal.Refusal.TheVariants as refusal
use Rattle.ca_text.specs.Place.{At}
use Rattle.ca_model.specs.History.{Entry}
use Rattle.ca_model.specs.Server.{Server}
use Rattle.ca_model.specs.ServerCalls.{Removes}
use Rattle.ca_model.specs.ServerEvents.{removal_entries, removed_at}
use Rattle.ca_model.specs.World.{Joined, grown}
use Rattle.ca_model.specs.World as model
use Rattle.ca_world_data.specs.declared.joined.Joined.{Joined as Opened}
use Rattle.ca_world_data.specs.declared.server.RecordSide.{RecordSide}
use Rattle.ca_world_data.specs.declared.server.ServerSide.{ServerSide}
use Rattle.ca_world_data.specs.Reporting.{AreServed, Reports}
use Rattle.ca_world_data.specs.Seen.{record_of}
use Rattle.ca_world_servers.specs.declared.losing.Leading.{Leading}
use Rattle.ca_world_servers.specs.Losing.{AreLost, AreSeated}

-- the queues of each circuit that is open at server i have the subscriptions that stand
abbrev pub AllSeated : (i : ℕ) → List Joined → Type 0
AllSeated i ks =
    (k : ℕ) (j : Joined) → At ks k j → j.server ≡ i → j.lists.server_open ≡ true → AreSeated j

-- something becomes of each circuit by the removal, and the server finds those still that are open
pub record Becomes (i : ℕ) (core : Server) (own : List ℕ) (ks : List Opened) (js : List Joined)
    (ls : List Leading) : Type 0 where
  pub f : Joined → Joined
  pub lost : AreLost i core ks ls f
  pub served : AreServed own (map f js) i

-- The core of server i has no such record now: that is in the log, and f became of the circuits;
-- ends that ended by it are reported.
pub record TellsRemoval (i : ℕ) (name : List ℕ) (told : List Entry) (f : Joined → Joined)
    (y : ServerSide) (ks : List Joined) (logs : List (List Entry)) (y' : ServerSide)
    (ks' : List Joined) (logs' : List (List Entry)) : Type 0 where
  pub rest : Vec RecordSide Global
  pub records : map record_of rest.items ≡ filter
      (λ (r : model.RecordSide). not (bytes_eq r.name name)) (map record_of y.records.items)
  pub reports : Reports i (record y { records = rest }) (map f ks)
      (grown y.life told logs) y' ks' logs'

-- A record of server i is removed; the core may refuse it, and nothing changes. Only the removal of
-- one that is served lacks memory.
abbrev pub RemovesAt : (i : ℕ) → (name : List ℕ) → ServerSide → List Joined → List (List Entry)
    → Result (Unit {0}) Refusal → ServerSide → List Joined → List (List Entry) → Type 0
RemovesAt i name y ks logs (Ok _) y' ks' logs' =
    (gone : Handle → Bool) × (left : Handle → ℕ) × (core : Server)
    × ((Removes y.core name gone left (Ok tt) core
    × TellsRemoval i name (removal_entries name (map record_of y.records.items))
    (removed_at i y.core name gone left) (record y { core = core }) ks logs y' ks' logs')
    ⊎ (Removes y.core name gone left (Err refusal.UnknownRecord) core × (y' ≡ y) × (ks' ≡ ks)
    × (logs' ≡ logs)))
RemovesAt i name y ks logs (Err refusal.OutOfMemory) y' ks' logs' =
    (is_some (record_named y.core.records name) ≡ true) × (y' ≡ y) × (ks' ≡ ks) × (logs' ≡ logs)
RemovesAt i name y ks logs (Err _) y' ks' logs' = ⊥
