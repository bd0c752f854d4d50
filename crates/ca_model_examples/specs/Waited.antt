-- Vocabulary: a put that waits while its client begins again.
use Rattle.std.specs.Prelude.{[], ◌∷◌, List, pos, true, false}
use Rattle.ca_dbr.specs.declared.value.Outcome.TheVariants as outcome
use Rattle.ca_dbr.specs.Elements.{longs}
use Rattle.ca_records.specs.Record.{RecordState}
use Rattle.ca_model.specs.History.{Create, Request, Put, On, Circuit, Entry, Added, Waits, Applied}
use Rattle.ca_model.specs.History.{Finished, Line, Called, Noticed, Opened, ToWrite, World}
use Rattle.ca_model_examples.specs.Worlds.{circuit, created_told, creating, long, put_told, putting}
use Rattle.ca_model_examples.specs.Worlds.{rights_told, step, temp, temp_name}

-- TEMP as a slow record
abbrev pub slow_temp : RecordState
slow_temp = record temp { slow = true }

-- A channel to TEMP is created; a put of 22 makes TEMP busy, and a put of 23 waits. The client's
-- end has ended; the server's is open, and the reply to the first put is unread.
abbrev pub waited : Circuit
waited =
    record (circuit (creating ∷ putting 0 8 22 ∷ putting 1 9 23 ∷ []) (
    rights_told ∷ created_told ∷ put_told 1 8 22 ∷ []
    ) (step 0 1 1 ∷ step 2 1 2 ∷ step 2 2 3 ∷ [])
    (step 1 1 1 ∷ step 1 1 2 ∷ [])) { client_open = false }

-- The client's first life was told that the channel is live, and nothing of the puts.
abbrev pub waited_lines : List Line
waited_lines =
    Opened 0 temp_name ∷ Noticed (On 0 Create) outcome.Done ∷ Called (On 0 (Request Put 0))
    (ToWrite (longs (pos 22 ∷ [])))
    ∷ Called (On 0 (Request Put 1)) (ToWrite (longs (pos 23 ∷ []))) ∷ []

-- The first put is finished, and then the second is applied.
abbrev pub waited_entries : List Entry
waited_entries =
    Added 0 slow_temp ∷ Applied 0 1 0 (long 22) true ∷ Waits 0 2 0
    (long 23) ∷ Finished 0 1 ∷ Applied 0 2 0 (long 23) true ∷ []

-- The client began again: in its second life nothing happened yet.
abbrev pub waited_world : World
waited_world =
    record {
      circuits = waited ∷ [];
      clients = waited_lines ∷ [] ∷ [];
      servers = waited_entries ∷ [];
    }
