-- Working: how large the replies to a message are at most, known before the step that handles it.
use Rattle.std.specs.Prelude.{ℕ, ◌≡◌, ◌≤◌, List, None, Ok, Some, length}
use Rattle.ca_arena.specs.declared.handle.Handle.{Handle}
use Rattle.ca_dbr.specs.Elements.{Elements}
use Rattle.ca_display.specs.declared.image_type.ImageType.{ImageType}
use Rattle.ca_records.specs.Record.{RecordState}
use Rattle.ca_wire.specs.Fields.{Fields, padded}
use Rattle.ca_model.specs.Due.{Action, Due}
use Rattle.ca_model.specs.Faults.{read_fault, read_shown}
use Rattle.ca_model.specs.Images.{image_of, image_type_of}
use Rattle.ca_model.specs.Server.{Server, ServerEnd}
use Rattle.ca_model.specs.ServerSteps.{HasEnd, knows}
use Rattle.ca_world_data.specs.Replies.{AreWithin}

-- What a READ_NOTIFY without fault is shown of this record has at most n bytes in its reply.
abbrev pub AreShownWithin : RecordState → Fields → (n : ℕ) → Type 0
AreShownWithin r m n =
    (rights : ℕ) (t : ImageType) (e : Elements) → image_type_of m.data_type ≡ Some t
    → read_fault r rights m (Some t) ≡ None → read_shown r m t ≡ Ok e
    → length (padded (image_of r.value t e r.meta)) ≤ n

-- Whatever is due for the message on this circuit, its replies are two at most, of which the first
-- has at most n bytes of payload, and the second none.
abbrev pub Answers : Server → Handle → Fields → (n : ℕ) → Type 0
Answers core h m n =
    (e : ServerEnd) (replies : List Fields) (action : Action) → HasEnd core h e
    → Due (knows core e) m replies action → AreWithin n replies
