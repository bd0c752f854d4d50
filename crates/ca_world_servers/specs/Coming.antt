-- Working: the write that a message may be, known before the step that handles it.
use Rattle.std.specs.Prelude.{◌≡◌, ◌==◌, ◌&&◌, Bool, Option, Some, None, Ok}
use Rattle.ca_arena.specs.declared.handle.Handle.{Handle}
use Rattle.ca_dbr.specs.declared.data_type.BaseType.{BaseType}
use Rattle.ca_dbr.specs.Elements.{Elements}
use Rattle.ca_dbr.specs.Held.{Kind}
use Rattle.ca_dbr.specs.Reading.{ReadsElements}
use Rattle.ca_dbr.specs.Types.{base_number}
use Rattle.ca_records.specs.Given.{given_as}
use Rattle.ca_records.specs.Record.{RecordState}
use Rattle.ca_text.specs.Command.{command_number}
use Rattle.ca_text.specs.declared.command.Command.TheVariants as command
use Rattle.ca_wire.specs.Fields.{Fields}
use Rattle.ca_model.specs.Due.{Knows, PutTaken, Serves}
use Rattle.ca_model.specs.Server.{Server, ServerEnd}
use Rattle.ca_model.specs.ServerSteps.{HasEnd, knows}
use Rattle.ca_world_servers.specs.declared.coming.Coming.{Coming}

-- the elements of the message, if it has such, are these
abbrev pub GivesElements : Fields → Option Elements → Type 0
GivesElements m found =
    (b : BaseType) (e : Elements) → base_number b ≡ m.data_type
    → ReadsElements b m.count m.payload e → found ≡ Some e

-- and in this type this value
abbrev pub GivesValue : Fields → Kind → Option Elements → Type 0
GivesValue m kind found =
    (b : BaseType) (e v : Elements) → base_number b ≡ m.data_type
    → ReadsElements b m.count m.payload e → given_as e kind ≡ Ok v → found ≡ Some v

-- whether a write of this message makes this record busy: a put with notification, of a slow one
abbrev pub busies_by : Fields → RecordState → Bool
busies_by m r = m.command == command_number command.WriteNotify && r.slow

-- What a write that the end takes writes by this message is this; if there is none, it takes none.
abbrev pub IsComing : (k : Knows) (m : Fields) (c : Serves k m.p1) → Elements → Option Coming
    → Type 0
IsComing k m c v (Some w) =
    (c.channel.name ≡ w.name.items) × (v ≡ w.held)
    × (w.busies ≡ busies_by m c.known.state)
IsComing k m c v None = ⊥

abbrev pub Foresees : Server → Handle → Fields → Option Coming → Type 0
Foresees core h m found =
    (e : ServerEnd) → HasEnd core h e → (c : Serves (knows core e) m.p1) (v : Elements)
    → PutTaken (knows core e) m c v → IsComing (knows core e) m c v found
