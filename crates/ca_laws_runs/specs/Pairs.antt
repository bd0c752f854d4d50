-- Working: the puts of a server, as its core has them and by the places at which they came.
use Rattle.std.specs.Prelude.{◌≡◌, List, Some}
use Rattle.ca_records.specs.declared.puts.Put.{Put}
use Rattle.ca_records.specs.Puts.{Record, WaitingPut}
use Rattle.ca_model.specs.Speech.{In}
use Rattle.ca_model.specs.World.{PutPlace, RecordSide}

-- A put waits in the core; and at this place came one that waits.
abbrev pub CoreWaits : List Record → Put → Type 0
CoreWaits cs b = (c : Record) × In cs c × ((x : WaitingPut) × In c.waiting x × (x.put ≡ b))

abbrev pub SideWaits : List RecordSide → PutPlace → Type 0
SideWaits rs q = (r : RecordSide) × In rs r × In r.waiting q

-- This put makes the record of a name busy, and came at this place.
pub record BusyPair (cs : List Record) (rs : List RecordSide) (q : PutPlace)
    (b : Put) : Type 0 where
  pub c : Record
  pub r : RecordSide
  pub in_cs : In cs c
  pub in_rs : In rs r
  pub name : c.state.name ≡ r.name
  pub core : c.busy ≡ Some b
  pub side : r.busy ≡ Some q
