-- Working: the end of a circuit ends, and its puts that wait are taken out of the records.
use Rattle.std.specs.Prelude.{ℕ, ◌≡◌, ◌≤◌, true, false, List, Some}
use Rattle.ca_arena.specs.declared.handle.Handle.{Handle}
use Rattle.ca_ids.specs.Table.{Table, same_handle, under}
use Rattle.ca_records.specs.declared.puts.Put.{Put}
use Rattle.ca_records.specs.Puts.{Record, WaitingPut, withdrawn}
use Rattle.ca_records.specs.Store.{HasAt, Store, records_of}
use Rattle.ca_text.specs.Place.{At}
use Rattle.ca_model.specs.Ends.{Why}
use Rattle.ca_model.specs.Ends as why
use Rattle.ca_model.specs.Server.{OpenChannel, ServerCircuit}
use Rattle.ca_model.specs.Server as server
use Rattle.ca_server_circuit.specs.Clearing.{ArePuts}
use Rattle.ca_server_circuit.specs.declared.cause.EndCause.{EndCause}
use Rattle.ca_server_circuit.specs.Stepping.{why_is}

-- ---- the puts of a circuit

-- each record is at its place still, and as it was but for its puts
abbrev pub KeepsPlaces : Store → Store → Type 0
KeepsPlaces s t =
    (place : ℕ) (r : Record) → HasAt s place r
    → (q : Record) × HasAt t place q × (q.state ≡ r.state)

-- the puts of a circuit that wait were taken out
pub record WithdrawsAll (h : Handle) (s t : Store) : Type 0 where
  pub records : records_of t ≡ withdrawn (λ (p : Put). same_handle p.circuit h) (records_of s)
  pub rules : t.rules ≡ s.rules
  pub stamp : t.stamp ≡ s.stamp
  pub places : KeepsPlaces s t

-- each put of a circuit that waits is on an open channel of it, of this index or a later one, to
-- the record for which it waits
abbrev pub ArePutsFrom : ℕ → Handle → List Record → Table OpenChannel → Type 0
ArePutsFrom n h rs t =
    (i : ℕ) (r : Record) (k : ℕ) (w : WaitingPut) → At rs i r → At r.waiting k w
    → same_handle w.put.circuit h ≡ true
    → (c : OpenChannel) × (under t w.put.channel ≡ Some c) × (c.name ≡ r.state.name)
    × (c.retired ≡ false) × (n ≤ w.put.channel.index)

-- The puts of the channels from this index on, and before the other, were taken out.
pub record Walks (n last : ℕ) (h : Handle) (t : Table OpenChannel) (s u : Store) : Type 0 where
  pub rest : withdrawn (λ (p : Put). same_handle p.circuit h) (records_of u)
      ≡ withdrawn (λ (p : Put). same_handle p.circuit h) (records_of s)
  pub rules : u.rules ≡ s.rules
  pub stamp : u.stamp ≡ s.stamp
  pub places : KeepsPlaces s u
  pub left : ArePutsFrom n h (records_of s) t → ArePutsFrom last h (records_of u) t

-- ---- the circuit

-- each put of a circuit that waits is on an open channel of its end
abbrev pub ArePutsAt : Handle → List Record → ServerCircuit → Type 0
ArePutsAt h rs (server.Open e) = ArePuts h rs e.channels
ArePutsAt h rs (server.Ended w left) = Unit {0}

-- the end of a circuit has ended, if it was open
abbrev pub EndsAt : Handle → ServerCircuit → Store → Why → ServerCircuit → Store → Type 0
EndsAt h (server.Open e) s w new t = (new ≡ server.Ended w e.link.output) × WithdrawsAll h s t
EndsAt h (server.Ended v left) s w new t = (new ≡ server.Ended v left) × (t ≡ s)

-- why an end has ended, and what it left; one that is open is cut
abbrev pub IsLeft : ServerCircuit → EndCause → List ℕ → Type 0
IsLeft (server.Open e) cause left = (why_is cause ≡ why.Cut) × (left ≡ e.link.output)
IsLeft (server.Ended w bytes) cause left = (why_is cause ≡ w) × (left ≡ bytes)
