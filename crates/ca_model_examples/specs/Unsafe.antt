-- Vocabulary: small histories, of which each breaks one part of what is safe and no other, beside
-- safe ones that differ in one place.
use Rattle.std.specs.Prelude.{ℕ, Bool, true, false, pos, List, [], ◌∷◌}
use Rattle.ca_text.specs.declared.command.Command.TheVariants as command
use Rattle.ca_text.specs.Status.{bad_channel, normal}
use Rattle.ca_dbr.specs.declared.value.Outcome.{Outcome}
use Rattle.ca_dbr.specs.declared.value.Outcome.TheVariants as outcome
use Rattle.ca_wire.specs.Fields.{Fields}
use Rattle.ca_dbr.specs.Elements.{longs}
use Rattle.ca_wire.specs.Messages.{header_only, cancel_reply, create_request, created_reply}
use Rattle.ca_wire.specs.Messages.{disconnect}
use Rattle.ca_wire.specs.Messages.{event_cancel_request, put_request, rights_reply, status_reply}
use Rattle.ca_wire.specs.Messages.{update, value_reply}
use Rattle.ca_model.specs.Events.{Event}
use Rattle.ca_model.specs.Events as event
use Rattle.ca_model.specs.History.{Cancel, Cause, Removal, Create, Posted, Request, Subscribe}
use Rattle.ca_model.specs.History.{Update, Updated, Read, Put, On, OfCircuit, Sent, Told, Step}
use Rattle.ca_model.specs.History.{Circuit, Entry, Added, Removed, Waits, Applied, Finished}
use Rattle.ca_model.specs.History.{Line, Opened, Called, Noticed, ToRead, ToWrite, World}
use Rattle.ca_model.specs.World.{ServerSetting, Setting}
use Rattle.ca_model_examples.specs.Worlds.{adding, alarmed, circuit, created_told, creating, long}
use Rattle.ca_model_examples.specs.Worlds.{putting, reading, reply, step, temp, temp_name, wanted}
use Rattle.ca_model_examples.specs.Worlds.{world}

-- TEMP is there, or was removed.
abbrev pub temp_there : List Entry
temp_there = Added 0 temp ∷ []

abbrev pub temp_removed : List Entry
temp_removed = Added 0 temp ∷ Removed 0 ∷ []

-- ---- names

-- A channel to TEMP was opened, and nothing was sent.
abbrev pub silent : List Line → List Entry → World
silent x y = world (circuit [] [] [] [] ∷ []) x y

abbrev pub opened : List Line
opened = Opened 0 temp_name ∷ []

-- ---- requests that are sent

-- These messages went out, and none was read.
abbrev pub unread : List Sent → List Line → World
unread up x = world (circuit up [] [] [] ∷ []) x temp_there

-- A read was called.
abbrev pub read_called : List Line
read_called = Opened 0 temp_name ∷ Called (On 0 (Request Read 0)) (ToRead 5 1) ∷ []

-- a WRITE that was meant as that read
abbrev pub misasked : Sent
misasked =
    record {
      message = put_request command.Write (wanted 7) (0 ∷ 0 ∷ 0 ∷ 22 ∷ []);
      intent = On 0 (Request Read 0);
    }

-- A read was sent, and the client's end closed; the read was told as disconnected so often.
abbrev pub disconnected : List Line → World
disconnected more =
    world (record (circuit (reading 0 7 ∷ []) [] [] []) { client_open = false } ∷ [])
    (Opened 0 temp_name ∷ Called (On 0 (Request Read 0)) (ToRead 5 1) ∷ more) temp_there

abbrev pub read_lost : Line
read_lost = Noticed (On 0 (Request Read 0)) outcome.Disconnected

-- ---- writes

-- A put of 22 was called.
abbrev pub put_called : List Line
put_called =
    Opened 0 temp_name ∷ Called (On 0 (Request Put 0)) (ToWrite (longs (pos 22 ∷ []))) ∷ []

-- The server's end closed as it handled the put.
abbrev pub closing : Circuit
closing = record (circuit (putting 0 8 22 ∷ []) [] [] []) { server_open = false }

-- or it is open, and did not handle it
abbrev pub unhandled : Circuit
unhandled = circuit (putting 0 8 22 ∷ []) [] [] []

-- the entries of the put
abbrev pub made : Entry
made = Applied 0 0 0 (long 22) false

abbrev pub made_busy : Entry
made_busy = Applied 0 0 0 (long 22) true

abbrev pub put_closing : List Entry → World
put_closing y = world (closing ∷ []) put_called y

abbrev pub added_again : List Entry
added_again = Added 0 temp ∷ Removed 0 ∷ Added 0 temp ∷ []

abbrev pub removed_again : List Entry
removed_again = Added 0 temp ∷ Removed 0 ∷ Removed 0 ∷ []

abbrev pub two_of_a_name : List Entry
two_of_a_name = Added 0 temp ∷ Added 1 temp ∷ []

abbrev pub called_again : List Line
called_again =
    Opened 0 temp_name ∷ Called (On 0 (Request Read 0)) (ToRead 5 1) ∷ Called
    (On 0 (Request Read 0)) (ToRead 5 1) ∷ []

abbrev pub made_once : List Entry
made_once = Added 0 temp ∷ made ∷ []

abbrev pub made_twice : List Entry
made_twice = Added 0 temp ∷ made ∷ made ∷ []

abbrev pub made_23 : List Entry
made_23 = Added 0 temp ∷ Applied 0 0 0 (long 23) false ∷ []

abbrev pub made_alarmed : List Entry
made_alarmed = Added 0 temp ∷ Applied 0 0 0 alarmed false ∷ []

abbrev pub made_gone : List Entry
made_gone = Added 0 temp ∷ Removed 0 ∷ made ∷ []

abbrev pub finished : Bool → List Entry → List Entry
finished busies more = Added 0 temp ∷ Applied 0 0 0 (long 22) busies ∷ Finished 0 0 ∷ more

-- ---- answers

-- an ECHO, and its reply
abbrev pub echo : Sent
echo = record { message = header_only command.Echo; intent = OfCircuit }

abbrev pub echoed : ℕ → Told
echoed place = reply place (header_only command.Echo)

abbrev pub echoes : List Sent → List Told → List Step → List Step → World
echoes up down handled heard = world (circuit up down handled heard ∷ []) [] temp_there

-- ---- a channel that is created

-- The creation was handled, and these messages followed its reply.
abbrev pub created : List Told → List Step → Circuit
created down heard = circuit (creating ∷ []) (created_told ∷ down) (step 0 1 1 ∷ []) heard

-- the same, and the client's end closed
abbrev pub created_closed : List Step → Circuit
created_closed heard = record (created [] heard) { client_open = false }

abbrev pub of_created : Circuit → List Line → List Entry → World
of_created c x y = world (c ∷ []) (Opened 0 temp_name ∷ x) y

abbrev pub live : Line
live = Noticed (On 0 Create) outcome.Done

abbrev pub lost : Line
lost = Noticed (On 0 Create) outcome.Disconnected

-- SERVER_DISCONN for it
abbrev pub gone : Told
gone = record { message = disconnect 1; place = 0; cause = Removal }

-- Two channels are asked for, and ACCESS_RIGHTS for the first have this CID.
abbrev pub rights_for : ℕ → Circuit
rights_for cid =
    circuit (creating ∷ record { message = create_request 2 temp_name; intent = On 1 Create } ∷ [])
    (reply 0 (rights_reply (create_request cid temp_name) 3) ∷ []) (step 0 1 1 ∷ []) []

-- ---- a message on the channel

-- This message is handled on the channel, in this step, and these messages follow the reply to the
-- creation.
abbrev pub used : Sent → List Told → Step → Circuit
used m down handled =
    circuit (creating ∷ m ∷ []) (created_told ∷ down) (step 0 1 1 ∷ handled ∷ []) []

-- A put is sent on the channel. The server's end is open or closed, and took these steps after that
-- of the creation.
abbrev pub put_sent : (is_open : Bool) → List Step → Circuit
put_sent is_open steps =
    record (circuit (creating ∷ putting 0 8 22 ∷ []) (created_told ∷ [])
    (step 0 1 1 ∷ steps) []) { server_open = is_open }

-- the step in which the put came to wait
abbrev pub its_step : List Step
its_step = step 1 1 2 ∷ []

-- It waits, by the server's log, in which these entries follow.
abbrev pub waits_and : List Entry → List Entry
waits_and more = Added 0 temp ∷ Waits 0 1 0 (long 22) ∷ more

abbrev pub put_waits : (is_open : Bool) → List Step → List Entry → World
put_waits is_open steps more = world (put_sent is_open steps ∷ []) put_called (waits_and more)

-- no record has it
abbrev pub other_name : List ℕ
other_name = 69 ∷ []

-- TEMP is removed, and the read is handled when the server's log has one entry or both.
abbrev pub read_at : ℕ → Fields → Circuit
read_at logged m = used (reading 0 7) (reply 1 m ∷ []) (step 1 logged logged)

abbrev pub value_21 : Fields
value_21 = value_reply (reading 0 7).message 1 (0 ∷ 0 ∷ 0 ∷ 21 ∷ [])

abbrev pub no_channel : Fields
no_channel = status_reply (reading 0 7).message bad_channel

-- A read is handled, and its channel's creation was not answered.
abbrev pub uncreated_read : Circuit
uncreated_read = circuit (creating ∷ reading 0 7 ∷ []) [] (step 0 1 1 ∷ step 0 1 1 ∷ []) []

-- A SID is given to another channel, and a read of the first is handled.
abbrev pub taken_over : Circuit
taken_over =
    circuit (creating ∷ record {
      message = create_request 2 other_name;
      intent = On 1 Create;
    } ∷ reading 0 7 ∷ [])
    (created_told ∷ reply 1 (created_reply (create_request 2 other_name) 5 1 5) ∷ []) (
    step 0 2 2 ∷ step 1 2 2 ∷ step 2 2 2 ∷ []
    ) []

abbrev pub both_opened : List Line
both_opened = Opened 0 temp_name ∷ Opened 1 other_name ∷ []

abbrev pub both_there : List Entry
both_there = Added 0 temp ∷ Added 1 (record temp { name = other_name }) ∷ []

abbrev pub sid_given_again : World
sid_given_again = world (taken_over ∷ []) both_opened both_there

-- A put is called and handled; its reply is read, and its caller is told this.
abbrev pub put_read : Fields → ℕ → Circuit
put_read m after =
    record (used (putting 0 8 22) (reply 1 m ∷ [])
    (step 1 1 after)) { heard = step 1 1 1 ∷ step 2 2 3 ∷ []; client_open = false }

abbrev pub put_told : Outcome → List Line
put_told o =
    Opened 0 temp_name ∷ Called (On 0 (Request Put 0)) (ToWrite (longs (pos 22 ∷ []))) ∷ Noticed
    (On 0 (Request Put 0)) o ∷ []

abbrev pub put_made : List Entry
put_made = Added 0 temp ∷ Applied 0 1 0 (long 22) false ∷ []

-- PUTFAIL
abbrev pub fails : Outcome
fails = outcome.Failed (record { number = 160 })

abbrev pub status_of : ℕ → Fields
status_of status = status_reply (putting 0 8 22).message status

-- ---- a subscription

-- the update of the EVENT_ADD at place 1 that carries the post of this number
abbrev pub updated : (item value : ℕ) → Told
updated item value =
    record {
      message = update 5 1 normal 9 (0 ∷ 0 ∷ 0 ∷ value ∷ []);
      place = 1;
      cause = Update item;
    }

-- An EVENT_ADD is handled; these messages follow, and these updates wait.
abbrev pub subscribed : List Told → List (ℕ × Cause) → Circuit
subscribed down queued = record (used (adding 0 9) down (step 1 1 1)) { queued = queued }

-- and the client, whose end closed then, took these steps
abbrev pub subscriber : List Told → List Step → Circuit
subscriber down heard = record (subscribed down []) { heard = heard; client_open = false }

-- an update was told
abbrev pub saw : Outcome → Line
saw o = Updated (On 0 (Subscribe 0)) o

-- TEMP was posted as 22.
abbrev pub posted : List Entry
posted = Added 0 temp ∷ Posted 0 1 (long 22) ∷ []

-- It was posted so once more.
abbrev pub posted_again : List Entry
posted_again = Added 0 temp ∷ Posted 0 1 (long 22) ∷ Posted 0 1 (long 22) ∷ []

-- TEMP was given to a server, and an event posts this to it.
abbrev pub given_temp : ServerSetting
given_temp = record { address = record { host = 1; port = 5064 }; rules = []; records = temp ∷ [] }

abbrev pub one_server : Setting
one_server = record { clients = []; servers = given_temp ∷ [] }

abbrev pub posting : ℕ → Event
posting n = event.Post 0 temp_name (longs (pos n ∷ [])) 1

-- Both updates of it are read.
abbrev pub both_updated : Circuit
both_updated =
    subscriber (updated 0 21 ∷ updated 1 22 ∷ []) (step 1 1 1 ∷ step 2 1 2 ∷ step 2 2 3 ∷ [])

-- An EVENT_ADD is cancelled, and the confirmation has this id.
abbrev pub cancelling : Sent
cancelling = record { message = event_cancel_request (wanted 9); intent = On 0 (Cancel 0) }

abbrev pub confirmed : ℕ → Told
confirmed id = reply 2 (record (cancel_reply cancelling.message) { p2 = id })

abbrev pub cancelled : ℕ → Circuit
cancelled id =
    circuit (creating ∷ adding 0 9 ∷ cancelling ∷ []) (created_told ∷ confirmed id ∷ [])
    (step 0 1 1 ∷ step 1 1 1 ∷ step 1 1 1 ∷ []) []
