-- Working: what a CREATE_CHAN comes to.
use Rattle.std.specs.Prelude.{ℕ, ◌≡◌, true, false, List, [], ◌∷◌, Some}
use Rattle.ca_arena.specs.declared.handle.Handle.{Handle}
use Rattle.ca_dbr.specs.Elements.{base_of}
use Rattle.ca_dbr.specs.Types.{base_number}
use Rattle.ca_ids.specs.Table.{MayGive, with_held}
use Rattle.ca_ids.specs.Wire.{wire_of}
use Rattle.ca_records.specs.Puts.{Record, record_named}
use Rattle.ca_records.specs.Record.{RecordState}
use Rattle.ca_records.specs.Rules.{rights}
use Rattle.ca_records.specs.Store.{Store, records_of}
use Rattle.ca_text.specs.Command.{command_number}
use Rattle.ca_text.specs.declared.command.Command.TheVariants as command
use Rattle.ca_wire.specs.Fields.{Fields}
use Rattle.ca_wire.specs.Messages.{created_reply, rights_reply, text_in}
use Rattle.ca_model.specs.Due.{Action}
use Rattle.ca_model.specs.Server.{Server, ServerEnd}
use Rattle.ca_model.specs.ServerSteps.{Acts}
use Rattle.ca_server_circuit.specs.declared.step.FollowUp.{FollowUp}
use Rattle.ca_server_circuit.specs.declared.step.FollowUp.TheVariants as effect
use Rattle.ca_server_circuit.specs.Handling.{Creates, Fits, Recorded, Tells, known, replied}

-- the replies by which a channel to a record is created, under this SID
abbrev pub creation_replies : Store → ServerEnd → Fields → RecordState → (sid : ℕ) → List Fields
creation_replies s e m state sid =
    rights_reply m (rights s.rules e.peer.user e.peer.host state.name)
    ∷ created_reply m (base_number (base_of state.value)) state.count sid ∷ []

-- the end with a channel of this message under a handle
abbrev pub with_channel : Handle → Fields → ServerEnd → ServerEnd
with_channel h m e =
    record e {
      settled = true;
      channels = with_held h
          (record { cid = m.p1; name = text_in m.payload; retired = false }) e.channels;
    }

-- A channel was created for the message to the record of its name, which is at this place; and what
-- is left to do is that.
pub record IsCreation (s : Store) (e : ServerEnd) (m : Fields) (place : ℕ) (did : FollowUp)
    (new : ServerEnd) : Type 0 where
  pub r : Record
  pub named : record_named (records_of s) (text_in m.payload) ≡ Some r
  pub h : Handle
  pub may : MayGive e.channels h
  pub tells : did ≡ effect.Opened place (wire_of h)
  pub leaves : new ≡ replied (creation_replies s e m r.state (wire_of h)) (with_channel h m e)

-- what is due for a CREATE_CHAN was done
pub record Creation (port : ℕ) (s : Store) (e : ServerEnd) (m : Fields)
    (new : ServerEnd) : Type 0 where
  pub replies : List Fields
  pub action : Action
  pub due : Creates (known port s e) m replies action
  pub acted : ServerEnd
  pub acts : (y : Server) → Acts y e action acted
  pub quiet : (h : Handle) → Recorded (records_of s) s.stamp h e m action (records_of s)
  pub fits : m.command ≡ command_number command.CreateChannel → Fits (records_of s) e m action
  pub leaves : new ≡ replied replies acted

-- the same, with what it leaves the server to do
abbrev pub CreatesBy : (port : ℕ) → Store → ServerEnd → Fields → FollowUp → ServerEnd → Type 0
CreatesBy port s e m did new =
    (c : Creation port s e m new)
    × (m.command ≡ command_number command.CreateChannel → Tells m c.action did s)
