-- Vocabulary: small histories that are safe.
use Rattle.std.specs.Prelude.{ℕ, ◌+◌, List, [], ◌∷◌, pos, false}
use Rattle.ca_dbr.specs.declared.value.Outcome.{Outcome}
use Rattle.ca_dbr.specs.declared.value.Outcome.TheVariants as outcome
use Rattle.ca_dbr.specs.Elements.{longs}
use Rattle.ca_wire.specs.Fields.{Fields}
use Rattle.ca_wire.specs.Messages.{create_request, update, value_reply}
use Rattle.ca_text.specs.Status.{normal}
use Rattle.ca_model.specs.History.{Create, Request, Subscribe, Read, Put, On, Update, Told, Circuit}
use Rattle.ca_model.specs.History.{Entry, Added, Applied, Removed, Line, Called, Noticed, Opened}
use Rattle.ca_model.specs.History.{ToRead, ToWatch, ToWrite, Updated, World}
use Rattle.ca_model.specs.Updates.{Shows}
use Rattle.ca_model.specs.Headline.{Sees}
use Rattle.ca_model_examples.specs.Worlds.{AnyDue, adding, circuit, clearing, created_told}
use Rattle.ca_model_examples.specs.Worlds.{creating, disconnected, long, put_told, putting, reading}
use Rattle.ca_model_examples.specs.Worlds.{reply, rights_told, step, temp, temp_name, world}

-- A channel to TEMP is created; a put of 22 is done, and its caller knows; a read is answered with
-- 22, and an update that shows 22 is sent. Both are unread.
abbrev pub used : Circuit
used =
    circuit (creating ∷ putting 0 8 22 ∷ reading 1 7 ∷ adding 0 9 ∷ []) (
    rights_told ∷ created_told ∷ put_told 1 8 22 ∷ reply 2
    (value_reply (reading 1 7).message 1 (0 ∷ 0 ∷ 0 ∷ 22 ∷ []))
    ∷ record {
      message = update 5 1 normal 9 (0 ∷ 0 ∷ 0 ∷ 22 ∷ []);
      place = 3;
      cause = Update 0;
    } ∷ []
    ) (step 0 1 1 ∷ step 2 1 2 ∷ step 3 2 2 ∷ step 4 2 2 ∷ [])
    (step 1 1 1 ∷ step 1 1 2 ∷ step 4 5 6 ∷ [])

abbrev pub used_lines : List Line
used_lines =
    Opened 0 temp_name ∷ Noticed (On 0 Create) outcome.Done ∷ Called (On 0 (Request Put 0))
    (ToWrite (longs (pos 22 ∷ [])))
    ∷ Called (On 0 (Request Read 1)) (ToRead 5 1) ∷ Called (On 0 (Subscribe 0)) (ToWatch 5 1 1)
    ∷ Noticed (On 0 (Request Put 0)) outcome.Done ∷ []

abbrev pub used_entries : List Entry
used_entries = Added 0 temp ∷ Applied 0 1 0 (long 22) false ∷ []

abbrev pub used_world : World
used_world = world (used ∷ []) used_lines used_entries

-- ---- updates of two circuits, the later circuit's first

-- an EVENT_ADD whose update was read, and told in this line
abbrev pub told_at : Fields → ℕ → Circuit
told_at m line =
    circuit (adding 0 9 ∷ []) (record { message = m; place = 0; cause = Update 0 } ∷ [])
    (step 0 0 0 ∷ []) (step 1 line (line + 1) ∷ [])

-- The update of circuit 1 was told in line 0, that of circuit 0 in line 1.
abbrev pub crossed_lines : Outcome → Outcome → List Line
crossed_lines o p = Updated (On 0 (Subscribe 0)) o ∷ Updated (On 0 (Subscribe 0)) p ∷ []

abbrev pub crossed : Fields → Outcome → Outcome → World
crossed m o p = world (told_at m 1 ∷ told_at m 0 ∷ []) (crossed_lines o p) []

-- Any message means any outcome.
abbrev pub AnyMeans : Fields → Outcome → Type 0
AnyMeans m o = Unit {0}

abbrev pub SeesCrossed : Fields → Outcome → Outcome → Type 0
SeesCrossed m o p = Sees AnyDue Shows AnyMeans (crossed m o p) 0 (crossed_lines o p)

-- ---- an id that is given again while it may still come back

-- Two channels are asked for under one CID, and neither request was handled.
abbrev pub shared : Circuit
shared = circuit
    (creating ∷ record { message = create_request 1 temp_name; intent = On 1 Create } ∷ []) [] [] []

abbrev pub shared_lines : List Line
shared_lines = Opened 0 temp_name ∷ Opened 1 temp_name ∷ []

abbrev pub shared_id : World
shared_id = world (shared ∷ []) shared_lines (Added 0 temp ∷ [])

-- ---- a record that is removed and added again

-- the update of the EVENT_ADD at this place that carries its first post
abbrev pub first_update : (place value : ℕ) → Told
first_update place value =
    record {
      message = update 5 1 normal 9 (0 ∷ 0 ∷ 0 ∷ value ∷ []);
      place = place;
      cause = Update 0;
    }

-- A channel is live and subscribed; its record is removed, and the client clears it; the record is
-- added again, the channel is created on the same circuit under the same SID, and its subscription
-- goes out again.
abbrev pub reopened : Circuit
reopened =
    circuit (creating ∷ adding 0 9 ∷ clearing ∷ creating ∷ adding 0 9 ∷ []) (
    rights_told ∷ created_told ∷ first_update 1 21 ∷ disconnected ∷ reply 2 clearing.message
    ∷ reply 3 rights_told.message
    ∷ reply 3 created_told.message ∷ first_update 4 5 ∷ []
    ) (step 0 1 1 ∷ step 2 1 1 ∷ step 4 2 2 ∷ step 5 3 3 ∷ step 7 3 3 ∷ []) (
    step 1 1 1 ∷ step 1 1 2 ∷ step 2 3 4 ∷ step 2 4 5 ∷ step 3 5 5 ∷ step 4 5 5 ∷ step 4 5 6 ∷ []
    )

-- The outcome is that of the first update, which was read.
abbrev pub reopened_lines : Outcome → List Line
reopened_lines o =
    Opened 0 temp_name ∷ Noticed (On 0 Create) outcome.Done ∷ Called
    (On 0 (Subscribe 0)) (ToWatch 5 1 1) ∷ Updated (On 0 (Subscribe 0)) o
    ∷ Noticed (On 0 Create) outcome.Disconnected ∷ Noticed (On 0 Create) outcome.Done ∷ []

-- TEMP is 5 when it is added again.
abbrev pub reopened_entries : List Entry
reopened_entries = Added 0 temp ∷ Removed 0 ∷ Added 1 (record temp { value = (long 5).value }) ∷ []

abbrev pub reopened_world : Outcome → World
reopened_world o = world (reopened ∷ []) (reopened_lines o) reopened_entries

-- ---- a SERVER_DISCONN that is unread

-- TEMP was removed while its channel was live, and the client did not read that yet.
abbrev pub unread : Circuit
unread = circuit (creating ∷ []) (created_told ∷ disconnected ∷ []) (step 0 1 1 ∷ [])
    (step 1 1 2 ∷ [])

abbrev pub unread_lines : List Line
unread_lines = Opened 0 temp_name ∷ Noticed (On 0 Create) outcome.Done ∷ []

abbrev pub unread_entries : List Entry
unread_entries = Added 0 temp ∷ Removed 0 ∷ []
