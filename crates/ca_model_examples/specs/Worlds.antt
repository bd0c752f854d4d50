-- Vocabulary: what the examples are made of: TEMP, a channel to it under the SID 5 and the CID 1,
-- and its messages.
use Rattle.std.specs.Prelude.{ℕ, pos, true, false, List, [], ◌∷◌, Option}
use Rattle.ca_text.specs.declared.command.Command.TheVariants as command
use Rattle.ca_text.specs.Status.{normal}
use Rattle.ca_dbr.specs.Elements.{longs}
use Rattle.ca_records.specs.Record.{RecordState, unset}
use Rattle.ca_records.specs.Rules.{Rule}
use Rattle.ca_wire.specs.Fields.{Fields}
use Rattle.ca_wire.specs.declared.requests.Wanted.{Wanted}
use Rattle.ca_wire.specs.Messages.{clear_request, create_request, created_reply, disconnect}
use Rattle.ca_wire.specs.Messages.{event_add_request, put_request, read_request, rights_reply}
use Rattle.ca_wire.specs.Messages.{status_reply}
use Rattle.ca_model.specs.Speech.{Stored}
use Rattle.ca_model.specs.History.{Create, Clear, Request, Subscribe, Read, Put, On, Reply, Removal}
use Rattle.ca_model.specs.History.{Sent, Told, Step, Circuit, Entry, Line, World}
use Rattle.ca_model.specs.Headline.{Safe}
use Rattle.ca_requests.specs.Meaning.{Means}
use Rattle.ca_model.specs.Updates.{Shows}

-- Any replies may be due for a message, now and late, and anything may be logged for it.
abbrev pub AnyDue : ℕ → Circuit → List Entry → Fields → List Fields → Option Fields → List Entry
    → Type 0
AnyDue n c y m replies late logs = Unit {0}

-- A world is unsafe, whatever is due.
abbrev pub Unsafe : World → Type 0
Unsafe w = Safe AnyDue Shows Means w → ⊥

-- ---- a record

-- TEMP, a LONG record of one element, which is 21
abbrev pub temp_name : List ℕ
temp_name = 84 ∷ 69 ∷ 77 ∷ 80 ∷ []

abbrev pub temp : RecordState
temp = record {
  name = temp_name;
  count = 1;
  slow = false;
  value = longs (pos 21 ∷ []);
  meta = unset;
}

-- one LONG element
abbrev pub long : ℕ → Stored
long n = record { value = longs (pos n ∷ []); meta = unset }

-- 22, as an alarm of severity 3
abbrev pub alarmed : Stored
alarmed = record { value = (long 22).value; meta = record unset { severity = 3 } }

-- ---- messages of the client

abbrev pub creating : Sent
creating = record { message = create_request 1 temp_name; intent = On 0 Create }

-- one LONG, on SID 5, with this IOID or subscription id
abbrev pub wanted : ℕ → Wanted
wanted id = record { sid = 5; id = id; data_type = 5; count = 1 }

-- the read of this number, with this IOID
abbrev pub reading : (number ioid : ℕ) → Sent
reading number ioid =
    record { message = read_request (wanted ioid); intent = On 0 (Request Read number) }

-- the put of this number, with this IOID, of a byte's value
abbrev pub putting : (number ioid value : ℕ) → Sent
putting number ioid value =
    record {
      message = put_request command.WriteNotify (wanted ioid) (0 ∷ 0 ∷ 0 ∷ value ∷ []);
      intent = On 0 (Request Put number);
    }

-- the EVENT_ADD of this subscription, with this id, for VALUE
abbrev pub adding : (number id : ℕ) → Sent
adding number id =
    record { message = event_add_request (wanted id) 1; intent = On 0 (Subscribe number) }

abbrev pub clearing : Sent
clearing = record { message = clear_request 5 1; intent = On 0 Clear }

-- ---- messages of the server

-- a reply to the message at this place
abbrev pub reply : ℕ → Fields → Told
reply place m = record { message = m; place = place; cause = Reply }

abbrev pub rights_told : Told
rights_told = reply 0 (rights_reply (create_request 1 temp_name) 3)

abbrev pub created_told : Told
created_told = reply 0 (created_reply (create_request 1 temp_name) 5 1 5)

-- the put of this IOID at this place is done
abbrev pub put_told : (place ioid value : ℕ) → Told
put_told place ioid value = reply place (status_reply (putting 0 ioid value).message normal)

-- the SERVER_DISCONN of the channel
abbrev pub disconnected : Told
disconnected = record { message = disconnect 1; place = 0; cause = Removal }

-- ---- worlds

abbrev pub step : (sent logged after : ℕ) → Step
step sent logged after = record { sent = sent; logged = logged; after = after }

-- a circuit between the first lives, both ends open and nothing queued
abbrev pub circuit : List Sent → List Told → List Step → List Step → Circuit
circuit up down handled heard =
    record {
      client = 0;
      server = 0;
      up = up;
      down = down;
      handled = handled;
      heard = heard;
      queued = [];
      client_open = true;
      server_open = true;
    }

-- one life of a client and one of a server
abbrev pub world : List Circuit → List Line → List Entry → World
world circuits x y = record { circuits = circuits; clients = x ∷ []; servers = y ∷ [] }

-- each server's port, and its rules: none
abbrev pub ports : ℕ → ℕ
ports life = 5064

abbrev pub rules : ℕ → List Rule
rules life = []
