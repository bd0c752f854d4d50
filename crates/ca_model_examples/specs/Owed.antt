-- Vocabulary: small histories in which what is owed is not done, or what is done is not what is
-- owed.
use Rattle.std.specs.Prelude.{ℕ, ◌≡◌, List, [], ◌∷◌, Option, Some, pos, true, false}
use Rattle.ca_text.specs.declared.command.Command.TheVariants as command
use Rattle.ca_text.specs.Status.{normal}
use Rattle.ca_dbr.specs.declared.value.Outcome.TheVariants as outcome
use Rattle.ca_dbr.specs.Elements.{longs}
use Rattle.ca_wire.specs.Fields.{Fields}
use Rattle.ca_wire.specs.Messages.{header_only, error_reply, failed_reply, put_request}
use Rattle.ca_wire.specs.Messages.{status_reply}
use Rattle.ca_wire.specs.Messages.{value_reply}
use Rattle.ca_model.specs.Speech.{Is}
use Rattle.ca_records.specs.Record.{RecordState}
use Rattle.ca_model.specs.Updates.{Shows}
use Rattle.ca_model.specs.History.{Clear, Create, Request, Subscribe, Read, Put, Write, On, Sent}
use Rattle.ca_model.specs.History.{Told, Step, Circuit, Entry, Added, Applied, Finished, Waits}
use Rattle.ca_model.specs.History.{Withdrawn, Line, Called, Noticed, Opened, World}
use Rattle.ca_model.specs.History.{Nothing, ToRead, ToWrite}
use Rattle.ca_model.specs.Headline.{Safe}
use Rattle.ca_model.specs.Known.{IsSafe}
use Rattle.ca_requests.specs.Meaning.{Means}
use Rattle.ca_model_examples.specs.Unsafe.{opened, temp_there}
use Rattle.ca_model_examples.specs.Worlds.{circuit, clearing, created_told, creating, long, ports}
use Rattle.ca_model_examples.specs.Worlds.{put_told, putting, reading, reply, rights_told, rules}
use Rattle.ca_model_examples.specs.Worlds.{step, temp, temp_name, wanted, world}

-- A channel to TEMP was opened and became live.
abbrev pub live_lines : List Line → List Line
live_lines more = Opened 0 temp_name ∷ Noticed (On 0 Create) outcome.Done ∷ more

-- the client sent this after its CREATE_CHAN, and the server this after its reply, which is read
abbrev pub live_circuit : List Sent → List Told → List Step → Circuit
live_circuit up down handled =
    circuit (creating ∷ up) (created_told ∷ down) (step 0 1 1 ∷ handled) (step 1 1 2 ∷ [])

-- ---- notices

-- A subscription was reported as ended, by the ERROR that refused a write.
abbrev pub writing : Sent
writing =
    record {
      message = put_request command.Write (wanted 0) (0 ∷ 0 ∷ 0 ∷ 22 ∷ []);
      intent = On 0 (Request Write 0);
    }

abbrev pub refused_write : Circuit
refused_write =
    record (live_circuit (writing ∷ []) (reply 1 (error_reply 1 160 writing.message) ∷ [])
    (step 1 1 1 ∷ [])) { heard = step 1 1 2 ∷ step 2 2 3 ∷ [] }

abbrev pub foreign_refusal : World
foreign_refusal =
    world (refused_write ∷ [])
    (live_lines
    (Noticed (On 0 (Subscribe 0)) (outcome.Failed (record { number = 160 })) ∷ [])) temp_there

-- A read was reported as disconnected; its circuit and its channel are there, and no SERVER_DISCONN
-- came.
abbrev pub unanswered_read : Circuit
unanswered_read = live_circuit (reading 0 7 ∷ []) [] []

abbrev pub lost_lines : List Line
lost_lines =
    live_lines
    (Called (On 0 (Request Read 0)) (ToRead 5 1) ∷ Noticed
    (On 0 (Request Read 0)) outcome.Disconnected ∷ [])

abbrev pub lost_for_nothing : World
lost_for_nothing = world (unanswered_read ∷ []) lost_lines temp_there

-- ---- replies to puts on a slow record

-- For a put with notification nothing is due at once, and NORMAL once it is finished.
abbrev pub SlowDue : ℕ → Circuit → List Entry → Fields → List Fields → Option Fields → List Entry
    → Type 0
SlowDue n c y m replies late logs =
    Is command.WriteNotify m → (replies ≡ []) × (late ≡ Some (status_reply m normal))

-- A world is unsafe if no put with notification is done at once.
abbrev pub UnsafeSlow : World → Type 0
UnsafeSlow w = Safe SlowDue Shows Means w → ⊥

-- a put of TEMP was accepted
abbrev pub put_lines : List Line
put_lines = live_lines (Called (On 0 (Request Put 0)) (ToWrite (longs (pos 22 ∷ []))) ∷ [])

-- The put was handled, and its reply sent.
abbrev pub answered : Circuit
answered = live_circuit (putting 0 8 22 ∷ []) (put_told 1 8 22 ∷ []) (step 1 1 2 ∷ [])

-- It was applied, and is not finished.
abbrev pub unfinished_entries : List Entry
unfinished_entries = Added 0 temp ∷ Applied 0 1 0 (long 22) true ∷ []

abbrev pub answered_unfinished : World
answered_unfinished = world (answered ∷ []) put_lines unfinished_entries

-- It waited, and was withdrawn.
abbrev pub withdrawn_entries : List Entry
withdrawn_entries = Added 0 temp ∷ Waits 0 1 0 (long 22) ∷ Withdrawn 0 1 ∷ []

abbrev pub answered_withdrawn : World
answered_withdrawn = world (answered ∷ []) put_lines withdrawn_entries

-- It was finished after its channel's CLEAR_CHANNEL was handled, and yet the reply came.
abbrev pub finished_entries : List Entry
finished_entries = Added 0 temp ∷ Applied 0 1 0 (long 22) true ∷ Finished 0 1 ∷ []

abbrev pub cleared : Circuit
cleared =
    live_circuit (putting 0 8 22 ∷ clearing ∷ []) (reply 2 clearing.message ∷ put_told 1 8 22 ∷ [])
    (step 1 1 2 ∷ step 1 2 2 ∷ [])

abbrev pub cleared_lines : List Line
cleared_lines =
    live_lines (
    Called (On 0 (Request Put 0)) (ToWrite (longs (pos 22 ∷ []))) ∷ Called (On 0 Clear) Nothing
    ∷ Noticed (On 0 (Request Put 0)) outcome.Disconnected ∷ []
    )

abbrev pub answered_cleared : World
answered_cleared = world (cleared ∷ []) cleared_lines finished_entries

-- It was finished, and the reply has another status; the server's end closed then.
abbrev pub otherwise : Circuit
otherwise =
    record (live_circuit (putting 0 8 22 ∷ [])
    (reply 1 (status_reply (putting 0 8 22).message 160) ∷ []) (step 1 1 2 ∷ [])) {
      server_open =
          false;
    }

abbrev pub answered_otherwise : World
answered_otherwise = world (otherwise ∷ []) put_lines finished_entries

-- It was finished, and the reply did not come.
abbrev pub unanswered : Circuit
unanswered = live_circuit (putting 0 8 22 ∷ []) [] (step 1 1 2 ∷ [])

abbrev pub unanswered_put : World
unanswered_put = world (unanswered ∷ []) put_lines finished_entries

-- ---- a write with an alarm

-- A put is logged so in its step, at once or to wait.
abbrev pub logged_put : Entry → List Entry
logged_put e = Added 0 temp ∷ e ∷ []

abbrev pub logs_put : Entry → World
logs_put e = world (answered ∷ []) put_lines (logged_put e)

-- ---- a creation that is refused for nothing

-- TEMP was asked for and refused, and nothing else happened: a record has the name, the CID is
-- free, and no SID is given.
abbrev pub creation_refused : Circuit
creation_refused =
    circuit (creating ∷ []) (reply 0 (failed_reply creating.message) ∷ []) (step 0 1 1 ∷ []) []

abbrev pub refused_creation : World
refused_creation = world (creation_refused ∷ []) (Opened 0 temp_name ∷ []) temp_there

-- A world is unsafe by what was due in it.
abbrev pub UnsafeAsDue : World → Type 0
UnsafeAsDue w = IsSafe ports rules w → ⊥

-- ---- a read while another record is there

-- SETP, which is 5, is there beside TEMP, which is 21.
abbrev pub setp : RecordState
setp = record temp { name = 83 ∷ 69 ∷ 84 ∷ 80 ∷ []; value = (long 5).value }

abbrev pub temp_and_setp : List Entry
temp_and_setp = Added 0 temp ∷ Added 1 setp ∷ []

-- A channel to TEMP was created, and a read on it is answered by this value.
abbrev pub value_told : ℕ → Told
value_told value = reply 1 (value_reply (reading 0 7).message 1 (0 ∷ 0 ∷ 0 ∷ value ∷ []))

abbrev pub temp_read : ℕ → Circuit
temp_read value =
    circuit (creating ∷ reading 0 7 ∷ []) (rights_told ∷ created_told ∷ value_told value ∷ [])
    (step 0 2 2 ∷ step 2 2 2 ∷ []) []

abbrev pub answered_by_value : ℕ → World
answered_by_value value = world (temp_read value ∷ []) opened temp_and_setp

-- ---- what is due for a message

-- An ECHO is due for each message.
abbrev pub EchoDue : ℕ → Circuit → List Entry → Fields → List Fields → Option Fields → List Entry
    → Type 0
EchoDue n c y m replies late logs = replies ≡ header_only command.Echo ∷ []

-- An entry is due.
abbrev pub EntryDue : ℕ → Circuit → List Entry → Fields → List Fields → Option Fields → List Entry
    → Type 0
EntryDue n c y m replies late logs = logs ≡ Finished 0 0 ∷ []

-- No entry is due.
abbrev pub NoneDue : ℕ → Circuit → List Entry → Fields → List Fields → Option Fields → List Entry
    → Type 0
NoneDue n c y m replies late logs = logs ≡ []

-- A CREATE_CHAN was handled, and answered by its own reply alone.
abbrev pub created_alone : List Entry → World
created_alone entries = world (live_circuit [] [] [] ∷ []) (live_lines []) entries

-- No ECHO was sent for it; nothing was logged for it; or something was, in its step.
abbrev pub UnsafeUnsent : Type 0
UnsafeUnsent = Safe EchoDue Shows Means (created_alone temp_there) → ⊥

abbrev pub UnsafeUnlogged : Type 0
UnsafeUnlogged = Safe EntryDue Shows Means (created_alone temp_there) → ⊥

abbrev pub in_long_step : World
in_long_step =
    world (record (live_circuit [] [] []) { handled = step 0 1 2 ∷ [] } ∷ []) (live_lines [])
    (Added 0 temp ∷ Finished 0 0 ∷ [])

abbrev pub UnsafeBesides : Type 0
UnsafeBesides = Safe NoneDue Shows Means in_long_step → ⊥
