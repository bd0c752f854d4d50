-- Working: an update that is shown at once.
use Rattle.std.specs.Prelude.{ℕ, ◌≡◌, true}
use Rattle.std.specs.List.{list_any}
use Rattle.ca_arena.specs.declared.handle.Handle.{Handle}
use Rattle.ca_records.specs.Record.{RecordState}
use Rattle.ca_records.specs.Store.{Store}
use Rattle.ca_model.specs.Server.{ServerCircuit, ServerEnd, with_post}
use Rattle.ca_model.specs.ServerSteps.{Leaves, Rests, Update}
use Rattle.ca_server_circuit.specs.Posting.{PostsAt}
use Rattle.ca_server_circuit.specs.Pumping.{PumpsAt}
use Rattle.ca_server_circuit.specs.Subscribing.{events_of}
use Rattle.ca_server_subscriptions.specs.Subscribed.{HasRoom, is_on}

-- A post of the value of a record, which a subscription of the end is on: one update of it went
-- into the output, and then none may.
pub record ShowsAtOnce (r : RecordState) (mask : ℕ) (old new : ServerEnd) : Type 0 where
  pub on : list_any (is_on r.name) old.subscriptions ≡ true
  pub room : HasRoom
      (events_of (with_post r.name mask (record { value = r.value; meta = r.meta }) old))
  pub update : Update
  pub leaves : Leaves
      (with_post r.name mask (record { value = r.value; meta = r.meta }) old) update new
  pub rests : Rests new

-- On a circuit there was a post to the record at a place, and then a pump.
abbrev pub ShowsAt : Handle → (place : ℕ) → (mask : ℕ) → ServerCircuit → Store → ServerCircuit
    → Type 0
ShowsAt h place mask old s new =
    (mid : ServerCircuit) × PostsAt h place mask old s mid s × PumpsAt h mid s new s
