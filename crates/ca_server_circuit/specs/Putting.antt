-- Working: what a write to the record at a place comes to.
use Rattle.std.specs.Prelude.{ℕ, List, ◌≡◌, ◌<◌, ◌≤◌, ◌⊎◌, Some, None, Ok, Option}
use Rattle.ca_dbr.specs.Elements.{Elements, count_of, elements}
use Rattle.ca_dbr.specs.Held.{kind_of}
use Rattle.ca_records.specs.Given.{given_as}
use Rattle.ca_records.specs.declared.puts.Begun.{Begun}
use Rattle.ca_records.specs.declared.puts.Begun.TheVariants.{Refused}
use Rattle.ca_records.specs.declared.puts.Put.{Put}
use Rattle.ca_records.specs.Puts.{Record}
use Rattle.ca_records.specs.Record.{RecordState}
use Rattle.ca_records.specs.Store.{Becomes, HasAt, Store}
use Rattle.ca_records.specs.Writes.{Takes, write_fault}
use Rattle.ca_text.specs.declared.command.Command.TheVariants as command
use Rattle.ca_wire.specs.Fields.{Fields}
use Rattle.ca_wire.specs.Messages.{on_channel}
use Rattle.ca_wire.specs.declared.requests.Wanted.{Wanted}
use Rattle.ca_model.specs.Due.{PutReads}
use Rattle.ca_model.specs.Faults.{early_put_fault}
use Rattle.ca_model.specs.Images.{base_type_of}
use Rattle.ca_server_circuit.specs.declared.put.Given.{Given}
use Rattle.ca_server_circuit.specs.declared.put.Given.TheVariants as given

-- A put that names this, with this payload, as the message of a WRITE: its elements and its faults
-- are those of any command.
abbrev pub asked : Wanted → List ℕ → Fields
asked w payload = on_channel command.Write w payload

-- the first fault of a put to this record under these rights, before its elements are read
abbrev pub early : RecordState → (rights : ℕ) → Fields → Option ℕ
early r rights m = early_put_fault r rights m (base_type_of m.data_type)

-- the elements of a put, of which there are some and not too many; or its first fault
-- before they are read
abbrev pub IsGiven : RecordState → (rights : ℕ) → Fields → Given → Type 0
IsGiven r rights m (given.Elements v) =
    (early r rights m ≡ None) × PutReads m (elements v) × (0 < count_of (elements v))
    × (count_of (elements v) ≤ r.count)
IsGiven r rights m (given.Fault s) = early r rights m ≡ Some s.number

-- A write without a fault of this message to this record leaves next, under the stamp of the store.
pub record IsTaken (s : Store) (r : Record) (rights : ℕ) (put : Option Put) (m : Fields)
    (begun : Begun) (next : Record) : Type 0 where
  pub e : Elements
  pub no_early : early r.state rights m ≡ None
  pub reads : PutReads m e
  pub no_late : write_fault r put e ≡ None
  pub v : Elements
  pub is : given_as e (kind_of r.state.value) ≡ Ok v
  pub takes : Takes s.stamp r put v begun next

-- A write of this message to this record was refused by this status.
abbrev pub IsRefused : Record → (rights : ℕ) → Option Put → Fields → ℕ → Type 0
IsRefused r rights put m status =
    (early r.state rights m ≡ Some status)
    ⊎ ((early r.state rights m ≡ None)
    × ((e : Elements) × PutReads m e × (write_fault r put e ≡ Some status)))

-- What a write of this message to the record at a place comes to, and leaves.
abbrev pub WritesTo : Store → (place : ℕ) → (rights : ℕ) → Option Put → Fields → Begun → Store
    → Type 0
WritesTo s place rights put m (Refused status) t =
    (r : Record) × HasAt s place r × IsRefused r rights put m status.number × (t ≡ s)
WritesTo s place rights put m begun t =
    (r : Record) × (next : Record) × IsTaken s r rights put m begun next × Becomes s place r next t
