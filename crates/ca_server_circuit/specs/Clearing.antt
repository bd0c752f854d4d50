-- Working: the puts that wait, and those of a channel that is cleared.
use Rattle.std.specs.Prelude.{ℕ, ◌≡◌, ◌==◌, ◌&&◌, Bool, true, false, List, Some, option_map}
use Rattle.std.specs.Prelude.{unwrap_or}
use Rattle.ca_arena.specs.declared.handle.Handle.{Handle}
use Rattle.ca_ids.specs.Table.{Table, by_wire, same_handle, under, with_freed}
use Rattle.ca_ids.specs.Wire.{wire_of}
use Rattle.ca_records.specs.declared.puts.Put.{Put}
use Rattle.ca_records.specs.Puts.{Record, WaitingPut, withdrawn}
use Rattle.ca_records.specs.Store.{Store, records_of}
use Rattle.ca_text.specs.Place.{At}
use Rattle.ca_model.specs.Server.{OpenChannel}

-- each put of a circuit that waits is on an open channel of it, to the record for which it waits
abbrev pub ArePuts : Handle → List Record → Table OpenChannel → Type 0
ArePuts h rs t =
    (i : ℕ) (r : Record) (k : ℕ) (w : WaitingPut) → At rs i r → At r.waiting k w
    → same_handle w.put.circuit h ≡ true
    → (c : OpenChannel) × (under t w.put.channel ≡ Some c) × (c.name ≡ r.state.name)
    × (c.retired ≡ false)

-- the put is of this SID on a circuit
abbrev pub is_on_sid : Handle → (sid : ℕ) → Put → Bool
is_on_sid h sid p = same_handle p.circuit h && wire_of p.channel == sid

-- the puts of this SID on a circuit that wait were taken out
pub record Withdraws (h : Handle) (sid : ℕ) (s t : Store) : Type 0 where
  pub records : records_of t ≡ withdrawn (is_on_sid h sid) (records_of s)
  pub rules : t.rules ≡ s.rules
  pub stamp : t.stamp ≡ s.stamp

-- the channels without the one of this SID
abbrev pub without_sid : ℕ → Table OpenChannel → Table OpenChannel
without_sid sid t =
    unwrap_or (option_map (λ (c : Handle × OpenChannel). with_freed c.0 t) (by_wire t sid)) t
