-- Working: a record is added at a server, as what becomes of the server and of the logs.
use Rattle.std.specs.Prelude.{ℕ, ◌≡◌, ◌≢◌, ◌≤◌, ◌⊎◌, ◌+◌, ◌++◌, List, [], ◌∷◌, Ok, Err, Result}
use Rattle.std.specs.Prelude.{drop, length, map, take}
use Rattle.ca_records.specs.Calls.{MayAdd}
use Rattle.ca_records.specs.Puts.{Record}
use Rattle.ca_records.specs.Record.{RecordState}
use Rattle.ca_text.specs.declared.refusal.Refusal.{Refusal}
use Rattle.ca_text.specs.declared.refusal.Refusal.TheVariants.{OutOfMemory}
use Rattle.ca_model.specs.History.{Entry}
use Rattle.ca_model.specs.History as entry
use Rattle.ca_model.specs.Server.{Server}
use Rattle.ca_model.specs.ServerCalls.{AddsRecord}
use Rattle.ca_model.specs.World.{RecordSide, ServerSide, grown, record_begun}
use Rattle.ca_server_core.specs.ForHistories.{AreNamedApart}

-- the records of a core and those beside it have the same names, in one order
abbrev pub AreLike : List Record → List RecordSide → Type 0
AreLike cs rs = map (λ (c : Record). c.state.name) cs ≡ map (λ (r : RecordSide). r.name) rs

-- and no two have one name
pub record AreInOrder (cs : List Record) (rs : List RecordSide) : Type 0 where
  pub like : AreLike cs rs
  pub apart : AreNamedApart cs

-- Among the core's records the one of this name is after the first n of those beside it;
-- no two have one name.
pub record StandsBehind (n : ℕ) (cs : List Record) (rs : List RecordSide)
    (name : List ℕ) : Type 0 where
  pub old : List Record
  pub r : Record
  pub named : r.state.name ≡ name
  pub is : cs ≡ take n old ++ r ∷ drop n old
  pub within : n ≤ length old
  pub like : AreLike old rs
  pub apart : AreNamedApart cs

-- The record is there, with the next number; or the core refuses it, and nothing changes. Only one
-- that the core takes lacks memory.
abbrev pub AddsAt : RecordState → ServerSide → List (List Entry) → Result (Unit {0}) Refusal
    → ServerSide → List (List Entry) → Type 0
AddsAt s y logs (Ok _) y' logs' =
    (core : Server) × (behind : ℕ)
    × ((AddsRecord y.core s behind (Ok tt) core
    × (y' ≡ record y {
      core = core;
      records = take behind y.records ++ record_begun y.added s ∷ drop behind y.records;
      added = y.added + 1;
    })
    × (logs' ≡ grown y.life (entry.Added y.added s ∷ []) logs))
    ⊎ ((e : Refusal) × (e ≢ OutOfMemory) × AddsRecord y.core s behind (Err e) core × (y' ≡ y)
    × (logs' ≡ logs)))
AddsAt s y logs (Err OutOfMemory) y' logs' =
    MayAdd y.core.records s × (y' ≡ y) × (logs' ≡ logs)
AddsAt s y logs (Err _) y' logs' = ⊥
