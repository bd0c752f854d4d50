-- Vocabulary: small histories in which one part of what is legal is broken, and no other, beside
-- legal ones that differ in one place.
use Rattle.std.specs.Prelude.{ℕ, Bool, false, List, [], ◌∷◌}
use Rattle.std.specs.List.{flat_map}
use Rattle.ca_text.specs.declared.command.Command.TheVariants as command
use Rattle.ca_text.specs.Status.{bad_channel}
use Rattle.ca_wire.specs.Messages.{cancel_reply, cleared_reply, create_request, created_reply}
use Rattle.ca_wire.specs.Messages.{error_reply, event_add_request, put_request, rights_reply}
use Rattle.ca_model.specs.History.{Cancel, Request, Read, Write, Create, Subscribe, Intent, On}
use Rattle.ca_model.specs.History.{OfCircuit, Sent, Told}
use Rattle.ca_model.specs.History.{Step, Circuit, Line, Called, Opened, World}
use Rattle.ca_model.specs.History.{Nothing, ToRead, ToWatch, ToWrite, Wish}
use Rattle.ca_model_examples.specs.Worlds.{adding, circuit, clearing, created_told, creating}
use Rattle.ca_model_examples.specs.Worlds.{disconnected, long, reading, reply, step, temp_name}
use Rattle.ca_model_examples.specs.Worlds.{wanted, world}
use Rattle.ca_model_examples.specs.Unsafe.{cancelling, echo, opened, temp_there, updated, value_21}

-- the client read the creation's reply after it had sent its CREATE_CHAN
abbrev pub created_read : Step
created_read = step 1 0 0

-- These messages go out on the channel, whose creation's reply was read.
abbrev pub goes_out : List Sent → Circuit
goes_out up = circuit (creating ∷ up) (created_told ∷ []) [] (created_read ∷ [])

-- A read goes out, and the client took these steps before.
abbrev pub read_out : List Step → Circuit
read_out heard = circuit (creating ∷ reading 0 7 ∷ []) (created_told ∷ []) [] heard

-- A read goes out on a channel that nobody asked for.
abbrev pub unasked : Circuit
unasked = circuit (echo ∷ reading 0 7 ∷ []) (created_told ∷ []) [] (created_read ∷ [])

-- This message alone goes out, on a SID that no reply gave.
abbrev pub alone : Sent → Circuit
alone m = circuit (m ∷ []) [] [] []

-- a WRITE of 22
abbrev pub writing : Sent
writing =
    record {
      message = put_request command.Write (wanted 0) (0 ∷ 0 ∷ 0 ∷ 22 ∷ []);
      intent = On 0 (Request Write 0);
    }

-- Another channel is asked for with this CID.
abbrev pub asked_with : ℕ → Sent
asked_with cid = record { message = create_request cid temp_name; intent = On 1 Create }

abbrev pub both_asked : ℕ → Circuit
both_asked cid = circuit (creating ∷ asked_with cid ∷ []) [] [] []

-- Another read goes out, with this IOID, after ACCESS_RIGHTS came and no reply to the first.
abbrev pub reads_out : ℕ → Circuit
reads_out ioid =
    circuit (creating ∷ reading 0 7 ∷ reading 1 ioid ∷ [])
    (created_told ∷ reply 0 (rights_reply (create_request 1 temp_name) 1) ∷ []) []
    (created_read ∷ step 2 0 0 ∷ [])

-- Another read goes out with the IOID of the first, whose reply was read after `sent` messages.
abbrev pub reread_after : ℕ → Circuit
reread_after sent =
    circuit (creating ∷ reading 0 7 ∷ reading 1 7 ∷ []) (created_told ∷ reply 1 value_21 ∷ []) []
    (created_read ∷ step sent 0 0 ∷ [])

-- A subscription is cancelled, another goes out under its id, and the confirmation was read
-- after `sent` messages.
abbrev pub added_after : ℕ → Circuit
added_after sent =
    circuit (creating ∷ adding 0 9 ∷ cancelling ∷ adding 1 9 ∷ [])
    (created_told ∷ reply 2 (cancel_reply cancelling.message) ∷ [])
    (step 0 0 0 ∷ step 1 0 0 ∷ step 1 0 0 ∷ []) (created_read ∷ step sent 0 0 ∷ [])

-- The channel is cleared, another is asked for with its CID, and the reply to the clear was read
-- after `sent` messages.
abbrev pub asked_after : ℕ → Circuit
asked_after sent =
    circuit (creating ∷ clearing ∷ asked_with 1 ∷ [])
    (created_told ∷ reply 1 (cleared_reply clearing.message) ∷ []) []
    (created_read ∷ step sent 0 0 ∷ [])

-- A read goes out in place of the clear, with the CID as its IOID.
abbrev pub never_cleared : Circuit
never_cleared =
    circuit (creating ∷ reading 0 1 ∷ asked_with 1 ∷ [])
    (created_told ∷ reply 1 (cleared_reply clearing.message) ∷ []) []
    (created_read ∷ step 2 0 0 ∷ [])

-- Two channels are created, the other one under this SID.
abbrev pub both_created : ℕ → Circuit
both_created sid =
    circuit (creating ∷ asked_with 2 ∷ [])
    (created_told ∷ reply 1 (created_reply (create_request 2 temp_name) 5 1 sid) ∷ []) [] []

-- An update is sent, and the server took these steps.
abbrev pub update_out : List Step → Circuit
update_out handled =
    circuit (creating ∷ adding 0 9 ∷ []) (created_told ∷ updated 0 21 ∷ []) handled
    (created_read ∷ [])

-- An EVENT_ADD is refused as it is handled, and these messages follow.
abbrev pub refused : Told
refused = reply 1 (error_reply 1 bad_channel (adding 0 9).message)

abbrev pub refused_out : List Told → Circuit
refused_out more =
    circuit (creating ∷ adding 0 9 ∷ []) (created_told ∷ refused ∷ more)
    (step 0 0 0 ∷ step 1 0 0 ∷ []) (created_read ∷ [])

-- A cancel is confirmed, and the server took these steps.
abbrev pub confirm_out : List Step → Circuit
confirm_out handled =
    circuit (creating ∷ adding 0 9 ∷ cancelling ∷ [])
    (created_told ∷ reply 2 (cancel_reply cancelling.message) ∷ []) handled (created_read ∷ [])

-- These messages are sent to a client that asked for a channel.
abbrev pub told_so : List Told → Circuit
told_so down = circuit (creating ∷ []) down (step 0 1 1 ∷ []) []

-- Its end at the server closed.
abbrev pub told_closed : List Told → Circuit
told_closed down = record (told_so down) { server_open = false }

-- Subscription 1 was called, and also cancelled.
abbrev pub subscribe_called : List Line
subscribe_called = Opened 0 temp_name ∷ Called (On 0 (Subscribe 1)) (ToWatch 5 1 1) ∷ []

abbrev pub cancel_called : List Line
cancel_called =
    Opened 0 temp_name ∷ Called (On 0 (Subscribe 1)) (ToWatch 5 1 1)
    ∷ Called (On 0 (Cancel 1)) Nothing ∷ []

-- The channel becomes live when the client's log has that many lines, and these messages go out.
abbrev pub called_at : ℕ → List Sent → Circuit
called_at logged up = circuit (creating ∷ up) (created_told ∷ []) [] (step 1 logged logged ∷ [])

-- The channel is created once more, under the SID 6, and these messages go out after that.
abbrev pub asked_again : Sent
asked_again = record { message = create_request 2 temp_name; intent = On 0 Create }

abbrev pub created_again : Told
created_again = reply 2 (created_reply (create_request 2 temp_name) 5 1 6)

abbrev pub live_again : List Sent → Circuit
live_again more =
    circuit (creating ∷ adding 1 9 ∷ asked_again ∷ more) (created_told ∷ created_again ∷ []) []
    (step 1 2 2 ∷ step 3 2 2 ∷ [])

-- its EVENT_ADD on that SID
abbrev pub added_again : Sent
added_again =
    record {
      message = event_add_request (record (wanted 10) { sid = 6 }) 1;
      intent = On 0 (Subscribe 1);
    }

-- The subscription was cancelled before the channel was live again.
abbrev pub cancelled_between : Circuit
cancelled_between = record (live_again []) { heard = step 1 2 2 ∷ step 3 3 3 ∷ [] }

-- the call of a message that is meant so: a read is of one LONG, and so is a subscription, for
-- VALUE; a write is of 22, and a channel is to TEMP
abbrev pub call_of : Intent → List Line
call_of (On channel Create) = Opened channel temp_name ∷ []
call_of (On channel (Request Read number)) =
    Called (On channel (Request Read number)) (ToRead 5 1) ∷ []
call_of (On channel (Request kind number)) =
    Called (On channel (Request kind number)) (ToWrite (long 22).value) ∷ []
call_of (On channel (Subscribe number)) =
    Called (On channel (Subscribe number)) (ToWatch 5 1 1) ∷ []
call_of (On channel ask) = Called (On channel ask) Nothing ∷ []
call_of OfCircuit = []

-- What goes out was called.
abbrev pub calls : List Sent → List Line
calls up = flat_map (λ (s : Sent). call_of s.intent) up

-- A plain write of this value was called, on a channel to TEMP.
abbrev pub write_called : ℕ → List Line
write_called n =
    Opened 0 temp_name ∷ Called (On 0 (Request Write 0)) (ToWrite (long n).value) ∷ []

-- A read was called that asks for this, or a subscription.
abbrev pub read_for : Wish → List Line
read_for asks = Opened 0 temp_name ∷ Called (On 0 (Request Read 0)) asks ∷ []

abbrev pub watch_for : Wish → List Line
watch_for asks = Opened 0 temp_name ∷ Called (On 0 (Subscribe 0)) asks ∷ []

-- A CLEAR_CHANNEL goes out, and a SERVER_DISCONN was sent; the client took these steps.
abbrev pub clears_lost : List Step → Circuit
clears_lost heard =
    circuit (creating ∷ clearing ∷ []) (created_told ∷ disconnected ∷ []) [] heard

-- TEMP is there; what goes out was called, or only the channel was opened, or these were called.
abbrev pub sent_in : Circuit → World
sent_in c = world (c ∷ []) (calls c.up) temp_there

abbrev pub uncalled_in : Circuit → World
uncalled_in c = world (c ∷ []) opened temp_there

abbrev pub called_in : List Line → Circuit → World
called_in x c = world (c ∷ []) x temp_there

-- Two circuits, and on each a channel is asked for: by the CID 1, and by this one on the other,
-- whose end at the client is open or not.
abbrev pub two_circuits : ℕ → Bool → World
two_circuits cid stays =
    world (alone creating ∷ record (alone (asked_with cid)) { client_open = stays } ∷ [])
    (calls (creating ∷ asked_with cid ∷ [])) temp_there

-- An ECHO goes out on the other circuit before its channel is asked for.
abbrev pub echo_first : World
echo_first =
    world (alone creating ∷ circuit (echo ∷ asked_with 2 ∷ []) [] [] [] ∷ [])
    (calls (creating ∷ asked_with 2 ∷ [])) temp_there

-- Subscription 1 was called alone.
abbrev pub subscribed_in : Circuit → World
subscribed_in c = world (c ∷ []) subscribe_called temp_there
