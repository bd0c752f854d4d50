-- Working: the puts that wait on a channel which a message clears, by what the core knows of each.
use Rattle.std.specs.Prelude.{ℕ, ◌≡◌, ◌++◌, Bool, not, List, [], ◌∷◌, Option, Some, None, Vec}
use Rattle.std.specs.Prelude.{if◌then◌else◌, length, map}
use Rattle.std.specs.declared.alloc.Global.{Global}
use Rattle.ca_arena.specs.declared.handle.Handle.{Handle}
use Rattle.ca_records.specs.declared.puts.Put.{Put}
use Rattle.ca_records.specs.Puts.{Record, WaitingPut, record_named}
use Rattle.ca_text.specs.Place.{At}
use Rattle.ca_model.specs.History.{Entry, Withdrawn}
use Rattle.ca_model.specs.Server.{Server}
use Rattle.ca_model.specs.ServerEvents.{is_of_channel, places_where}
use Rattle.ca_model.specs.World.{PutPlace, RecordSide}
use Rattle.ca_world_data.specs.declared.server.PutPlace.{PutPlace as Kept}
use Rattle.ca_world_data.specs.Seen.{place_of}

-- the places of puts as the statement has them
abbrev pub places_in : Vec Kept Global → List PutPlace
places_in v = map place_of v.items

-- one place, or none
abbrev pub put_if : Bool → PutPlace → List PutPlace
put_if b p = if b then p ∷ [] else []

-- the puts that wait for a record, if it is there
abbrev pub puts_of : Option Record → List WaitingPut
puts_of (Some c) = c.waiting
puts_of None = []

-- of the puts that wait for a record those that are not of the channel of this SID on this circuit
abbrev pub kept_of : Server → Handle → (sid : ℕ) → RecordSide → List PutPlace
kept_of core h sid r =
    places_where (λ (p : Put). not (is_of_channel h sid p))
    (puts_of (record_named core.records r.name)) r.waiting

-- and those that are
abbrev pub gone_of : Server → Handle → (sid : ℕ) → RecordSide → List PutPlace
gone_of core h sid r =
    places_where (is_of_channel h sid) (puts_of (record_named core.records r.name)) r.waiting

-- as the log tells of one
abbrev pub withdrawn_at : PutPlace → Entry
withdrawn_at p = Withdrawn p.circuit p.place

-- of all records
abbrev pub all_kept : Server → Handle → (sid : ℕ) → List RecordSide → List (List PutPlace)
all_kept core h sid [] = []
all_kept core h sid (r ∷ rs) = kept_of core h sid r ∷ all_kept core h sid rs

abbrev pub all_gone : Server → Handle → (sid : ℕ) → List RecordSide → List Entry
all_gone core h sid [] = []
all_gone core h sid (r ∷ rs) = map withdrawn_at (gone_of core h sid r) ++ all_gone core h sid rs

-- the records, for each of which the puts wait that were kept of it
abbrev pub with_kept : List (List PutPlace) → List RecordSide → List RecordSide
with_kept (ps ∷ kept) (r ∷ rs) = record r { waiting = ps } ∷ with_kept kept rs
with_kept kept rs = rs

-- The records are beside the core's: the core has by the name of each the one at its place.
pub record AreBeside (cs : List Record) (rs : List RecordSide) : Type 0 where
  pub each : (i : ℕ) (c : Record) (r : RecordSide) → At cs i c → At rs i r
      → record_named cs r.name ≡ Some c
  pub long : length cs ≡ length rs
