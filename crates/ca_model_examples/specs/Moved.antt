-- Vocabulary: a channel whose circuit ends, and that is found again at another server, on a circuit
-- that was there before.
use Rattle.std.specs.Prelude.{ℕ, ◌+◌, Bool, true, false, List, [], ◌∷◌}
use Rattle.ca_dbr.specs.declared.value.Outcome.{Outcome}
use Rattle.ca_dbr.specs.declared.value.Outcome.TheVariants as outcome
use Rattle.ca_records.specs.Record.{RecordState}
use Rattle.ca_model.specs.History.{Create, Subscribe, On, Circuit, Entry, Added, Line, Opened}
use Rattle.ca_model.specs.History.{Called, Noticed, ToWatch, Updated, World}
use Rattle.ca_model_examples.specs.Worlds.{adding, created_told, creating, long, rights_told, step}
use Rattle.ca_model_examples.specs.Worlds.{temp, temp_name}
use Rattle.ca_model_examples.specs.Safe.{first_update}

-- TEMP, with this value
abbrev pub valued : ℕ → RecordState
valued value = record temp { value = (long value).value }

-- Each server has TEMP, with its own value.
abbrev pub moved_entries : (value : ℕ) → List Entry
moved_entries value = Added 0 (valued value) ∷ []

-- The channel is created and subscribed on a circuit to this server, and its update shows this
-- value; it is told live in one line, and the update is told in another. The client's end stays
-- open or has ended.
abbrev pub moved : (server live read value : ℕ) → (stays : Bool) → Circuit
moved server live read value stays =
    record {
      client = 0;
      server = server;
      up = creating ∷ adding 0 9 ∷ [];
      down = rights_told ∷ created_told ∷ first_update 1 value ∷ [];
      handled = step 0 1 1 ∷ step 2 1 1 ∷ [];
      heard = step 1 live live ∷ step 1 live (live + 1) ∷ step 2 read (read + 1) ∷ [];
      queued = [];
      client_open = stays;
      server_open = true;
    }

-- The channel is live on circuit 1, and its update 7 is read; the client's end of that circuit
-- ends, and the channel is lost; it is live again on circuit 0, and its update 5 is read. The
-- outcomes are those of the two updates.
abbrev pub moved_lines : Outcome → Outcome → List Line
moved_lines o p =
    Opened 0 temp_name ∷ Noticed (On 0 Create) outcome.Done ∷ Called
    (On 0 (Subscribe 0)) (ToWatch 5 1 1) ∷ Updated (On 0 (Subscribe 0)) o
    ∷ Noticed (On 0 Create) outcome.Disconnected ∷ Noticed (On 0 Create) outcome.Done ∷ Updated
    (On 0 (Subscribe 0)) p ∷ []

-- circuit 0, to server 0: there first, and the one on which the channel is found again
abbrev pub found_again : Circuit
found_again = moved 0 5 6 5 true

-- circuit 1, to server 1: the one on which the channel was first, until it ended at the client
abbrev pub ended : Circuit
ended = moved 1 1 3 7 false

abbrev pub moved_world : Outcome → Outcome → World
moved_world o p = record {
  circuits = found_again ∷ ended ∷ [];
  clients = moved_lines o p ∷ [];
  servers = moved_entries 5 ∷ moved_entries 7 ∷ [];
}
