-- Working: what a read of a record comes to.
use Rattle.std.specs.Prelude.{ℕ, ◌≡◌, ◌⊎◌, true, false, Some, None, Ok, Err, Result}
use Rattle.ca_text.specs.declared.refusal.Refusal.{Refusal}
use Rattle.ca_text.specs.declared.refusal.Refusal.TheVariants as refusal
use Rattle.ca_text.specs.declared.status.Status.{Status}
use Rattle.ca_text.specs.Status.{get_fail, no_convert}
use Rattle.ca_dbr.specs.Elements.{Elements, count_of}
use Rattle.ca_dbr.specs.Held.{display_of}
use Rattle.ca_display.specs.declared.image_type.ImageType.{ImageType}
use Rattle.ca_display.specs.Image.{size_in}
use Rattle.ca_records.specs.Record.{RecordState}
use Rattle.ca_records.specs.Rules.{may_read}
use Rattle.ca_text.specs.declared.command.Command.TheVariants as command
use Rattle.ca_wire.specs.declared.scalar_message.ScalarMessage.{ScalarMessage}
use Rattle.ca_wire.specs.declared.requests.Wanted.{Wanted}
use Rattle.ca_wire.specs.Fields.{Fields}
use Rattle.ca_wire.specs.Messages.{status_reply, value_reply}
use Rattle.ca_model.specs.Faults.{read_count, read_fault, read_shown, too_many}
use Rattle.ca_model.specs.Images.{image_of, image_type_of, lacks_type}
use Rattle.ca_server_circuit.specs.declared.read.ReadSize.{ReadSize}

-- the status for a value that is not shown
abbrev pub status_for : Refusal → ℕ
status_for refusal.NoConvert = no_convert
status_for _ = get_fail

-- The reply to a read of a record under these rights: its first fault, or the
-- elements that it is shown.
abbrev pub AnswersRead : RecordState → (rights : ℕ) → Fields → Fields → Type 0
AnswersRead r rights m reply =
    ((status : ℕ) × (read_fault r rights m (image_type_of m.data_type) ≡ Some status)
    × (reply ≡ status_reply m status))
    ⊎ ((read_fault r rights m (image_type_of m.data_type) ≡ None)
    × ((t : ImageType) × (e : Elements) × (image_type_of m.data_type ≡ Some t)
    × (read_shown r m t ≡ Ok e)
    × (reply ≡ value_reply m (count_of e) (image_of r.value t e r.meta))))

-- what a record holds has an image of n elements in the type of this number, of this size
pub record HasImage (held : Elements) (number count size : ℕ) : Type 0 where
  pub t : ImageType
  pub typed : image_type_of number ≡ Some t
  pub has : lacks_type (display_of held) t ≡ false
  pub sized : size ≡ size_in t count

-- it lacks the type of this number
abbrev pub LacksImage : Elements → (number : ℕ) → Type 0
LacksImage held number =
    (t : ImageType) → image_type_of number ≡ Some t → lacks_type (display_of held) t ≡ true

-- A read asks for this much, of a type that the record has, and not for too much.
pub record IsInOrder (r : RecordState) (m : Fields) (a : ReadSize) : Type 0 where
  pub count : a.count ≡ read_count r m
  pub image : HasImage r.value m.data_type a.count a.size
  pub few : too_many r image.t a.count ≡ false

-- what a read asks for, or the first fault that its elements do not matter for
abbrev pub IsWanted : RecordState → (rights : ℕ) → Fields → Result ReadSize Status → Type 0
IsWanted r rights m (Ok a) = IsInOrder r m a × (may_read rights ≡ true)
IsWanted r rights m (Err s) = read_fault r rights m (image_type_of m.data_type) ≡ Some s.number

-- the reply shows elements, or why there are none
pub record ShowsRead (r : RecordState) (m reply : Fields) : Type 0 where
  pub t : ImageType
  pub typed : image_type_of m.data_type ≡ Some t
  pub shows :
      ((e : Elements) × (read_shown r m t ≡ Ok e)
      × (reply ≡ value_reply m (count_of e) (image_of r.value t e r.meta)))
      ⊎ ((why : Refusal) × (read_shown r m t ≡ Err why) × (reply ≡ status_reply m (status_for why)))

-- the answer to this read that shows one element by these eight bytes
abbrev pub scalar_reply : Wanted → ℕ → ScalarMessage
scalar_reply w n =
    record { command = command.ReadNotify; data_type = w.data_type; id = w.id; payload = n }
