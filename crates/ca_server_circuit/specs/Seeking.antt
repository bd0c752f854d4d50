-- Working: what a SID stands for at an end.
use Rattle.std.specs.Prelude.{ℕ, ◌≡◌, ◌⊎◌, true, false, Some, None}
use Rattle.ca_arena.specs.declared.handle.Handle.{Handle}
use Rattle.ca_ids.specs.Table.{by_wire}
use Rattle.ca_records.specs.Puts.{Record, record_named}
use Rattle.ca_records.specs.Store.{HasAt, Store, records_of}
use Rattle.ca_wire.specs.Messages.{no_cid}
use Rattle.ca_model.specs.Server.{OpenChannel, ServerEnd}
use Rattle.ca_server_circuit.specs.declared.seek.Seat.{Seat}
use Rattle.ca_server_circuit.specs.declared.seek.Sought.{Sought}
use Rattle.ca_server_circuit.specs.declared.seek.Sought.TheVariants.{Served, Stray}

-- the SID is that of this channel, and its record is at this place
pub record IsServed (s : Store) (e : ServerEnd) (sid : ℕ) (seat : Seat) : Type 0 where
  pub channel : OpenChannel
  pub held : by_wire e.channels sid ≡ Some (seat.channel, channel)
  pub there : channel.retired ≡ false
  pub cid : channel.cid ≡ seat.cid
  pub r : Record
  pub at : HasAt s seat.place r
  pub named : r.state.name ≡ channel.name
  pub found : record_named (records_of s) channel.name ≡ Some r

-- nothing is served on the SID: no channel has it, or its channel is retired
abbrev pub IsStray : ServerEnd → ℕ → ℕ → Type 0
IsStray e sid cid =
    ((by_wire e.channels sid ≡ None) × (cid ≡ no_cid))
    ⊎ ((c : Handle × OpenChannel) × (by_wire e.channels sid ≡ Some c) × (c.1.retired ≡ true)
    × (c.1.cid ≡ cid))

abbrev pub Seeks : Store → ServerEnd → ℕ → Sought → Type 0
Seeks s e sid (Served seat) = IsServed s e sid seat
Seeks s e sid (Stray cid) = IsStray e sid cid
