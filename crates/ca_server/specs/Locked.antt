-- Vocabulary: what is kept under a server's lock, and what a step and a finish make of it.
use Rattle.std.specs.Prelude.{ℕ, ◌≡◌, ◌+◌, ◌<◌, ◌≤◌, ◌⊎◌, true, false, List, [], Option, Some, None}
use Rattle.std.specs.Prelude.{Result, Ok, Err, length, slice_index_or, slice_set, sum}
use Rattle.ca_arena.specs.declared.handle.Handle.{Handle}
use Rattle.ca_ids.specs.Table.{under}
use Rattle.ca_server.specs.Counts.{AreApart}
use Rattle.ca_model.specs.Ends as why
use Rattle.ca_model.specs.Server.{Server}
use Rattle.ca_model.specs.ServerCalls.{Finishes, waiting}
use Rattle.ca_model.specs.ServerSteps.{Closed, Cuts, Stepped, Steps}
use Rattle.ca_server_circuit.specs.Circuits.{is_open}
use Rattle.ca_server_core.specs.Asking.{first_waiting}
use Rattle.ca_text.specs.Limits.{applied_limit, arena_slots}
use Rattle.ca_text.specs.declared.refusal.Refusal.{Refusal}
use Rattle.ca_wire.specs.Fields.{Fields}

-- Whenever the lock is free: the count is the sum of all shares; with all credits it is how many
-- writes were applied; with the puts that wait these are at most 2^63; each index of a handle has
-- its credits; and no two records have one name.
pub record IsCounted (server : Server) (count total : ℕ) (credits : List ℕ) : Type 0 where
  pub ledger : count ≡ total
  pub split : count + sum credits ≡ server.applied
  pub most : server.applied + waiting server ≤ applied_limit
  pub wide : length credits ≡ arena_slots
  pub apart : AreApart server.records

-- the credits of a circuit: its puts that waited and were applied since its last step
abbrev pub credit_of : List ℕ → Handle → ℕ
credit_of credits h = slice_index_or credits h.index 0

-- the circuit is open, and no write more can be counted
abbrev pub IsAtMost : Server → Handle → Type 0
IsAtMost y h = (is_open (under y.circuits h) ≡ true) × (y.applied + waiting y ≡ applied_limit)

-- An open circuit at the greatest number is closed by a cut, unstepped, and nothing is counted.
-- Else the server makes its step of the circuit once; count and share grow by the writes that this
-- step applied and by the credits of the circuit, which fall to zero.
abbrev pub LockedStep : (old : Server) (count : ℕ) (credits : List ℕ) (share : ℕ) → Handle → Stepped
    → (new : Server) (count' : ℕ) (credits' : List ℕ) (share' : ℕ) → Type 0
LockedStep old count credits share h did new count' credits' share' =
    (IsAtMost old h × Cuts old h new × (did ≡ Closed why.Cut []) × (count' ≡ count)
    × (credits' ≡ credits) × (share' ≡ share))
    ⊎ (((is_open (under old.circuits h) ≡ false) ⊎ (old.applied + waiting old < applied_limit))
    × Steps old h did new
    × (count' + old.applied ≡ count + new.applied + credit_of credits h)
    × (credits' ≡ slice_set credits h.index 0)
    × (share' + count ≡ share + count'))

-- one credit more for a circuit, or none
abbrev pub credited : Option Handle → List ℕ → List ℕ
credited None credits = credits
credited (Some h) credits = slice_set credits h.index (credit_of credits h + 1)

-- The server makes its finish once; a credit is added exactly if that applied a put that waited, to
-- the circuit of the put.
abbrev pub LockedFinish : (old : Server) (credits : List ℕ) (name : List ℕ) → List (Handle × Fields)
    → Result (Unit {0}) Refusal → (new : Server) (credits' : List ℕ) → Type 0
LockedFinish old credits name sent (Ok _) new credits' =
    Finishes old name sent (Ok tt) new × (credits' ≡ credited (first_waiting old name) credits)
LockedFinish old credits name sent (Err e) new credits' =
    Finishes old name sent (Err e) new × (credits' ≡ credits)
