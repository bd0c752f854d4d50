-- Vocabulary: a small server with two circuits, in a world, as plain data.
use Rattle.std.specs.Prelude.{ℕ, pos, Bool, true, false, List, [], ◌∷◌, ◌++◌, Option, Some, None}
use Rattle.std.specs.Prelude.{replicate}
use Rattle.ca_arena.specs.Arena.{Place}
use Rattle.ca_arena.specs.declared.handle.Handle.{Handle}
use Rattle.ca_beacon.specs.Clock as beacon
use Rattle.ca_dbr.specs.Elements.{longs}
use Rattle.ca_ids.specs.Table.{Table}
use Rattle.ca_link.specs.Link.{LinkState}
use Rattle.ca_queue.specs.declared.entry.SubKey.{SubKey}
use Rattle.ca_queue.specs.Queue.{Queue, no_queue}
use Rattle.ca_records.specs.declared.puts.Put.{Put}
use Rattle.ca_records.specs.Puts.{Record, WaitingPut}
use Rattle.ca_wire.specs.Messages.{version_reply}
use Rattle.ca_model.specs.History.{Cause, Circuit, Entry, Added, Step, Told, Update}
use Rattle.ca_model.specs.Server.{Open, OpenChannel, Server, ServerCircuit, ServerEnd, Subscription}
use Rattle.ca_model.specs.Speech.{Stored}
use Rattle.ca_model.specs.World.{ClientSide, Creation, Joined, PutPlace, RecordSide, ServerSetting}
use Rattle.ca_model.specs.World.{ServerSide, Standing, World, client_begun}
use Rattle.ca_model_examples.specs.ServerRows.{slow, slow_name}
use Rattle.ca_model_examples.specs.Worlds.{long, reply, step, temp, temp_name}

-- ---- handles, and tables of what was given once

-- the first two handles of a table: as a SID these are 00010000 and 00010001
abbrev pub first : Handle
first = record { index = 0; generation = 1 }

abbrev pub second : Handle
second = record { index = 1; generation = 1 }

-- what holds an id that was given once, and an id that is free again
abbrev pub given : {T : Type 0} → T → Place T
given x = record { generation = 1; value = Some x }

abbrev pub free : {T : Type 0} → Place T
free = record { generation = 1; value = None }

-- ---- the server

-- a value that a write applied, with the server's stamp
abbrev pub written : ℕ → Stored
written n =
    record {
      value = longs (pos n ∷ []);
      meta = record { status = 0; severity = 0; seconds = 8; nanos = 9 };
    }

-- subscription n on TEMP, or on SLOW
abbrev pub on_temp : (n mask : ℕ) → Subscription
on_temp n mask =
    record {
      wanted = record { sid = 65536; id = n; data_type = 5; count = 1 };
      name = temp_name;
      mask = mask;
    }

abbrev pub on_slow : (n mask : ℕ) → Subscription
on_slow n mask =
    record {
      wanted = record { sid = 65537; id = n; data_type = 5; count = 1 };
      name = slow_name;
      mask = mask;
    }

abbrev pub temp_key : ℕ → SubKey
temp_key n = record { sid = 65536; sub = n }

abbrev pub slow_key : ℕ → SubKey
slow_key n = record { sid = 65537; sub = n }

-- the eight queues, of which the first has these subscriptions and entries
abbrev pub queues : {E : Type 0} → List SubKey → List (SubKey × E) → List (Queue E)
queues keys waiting =
    record { waiting = waiting; subscriptions = keys; events_on = true } ∷ replicate 7 no_queue

-- a channel of TEMP with the CID 7, and one of SLOW with the CID 8
abbrev pub temp_open : OpenChannel
temp_open = record { cid = 7; name = temp_name; retired = false }

abbrev pub slow_open : OpenChannel
slow_open = record { cid = 8; name = slow_name; retired = false }

abbrev pub both_open : Table OpenChannel
both_open = given temp_open ∷ given slow_open ∷ []

-- bytes that came, and bytes that wait to be sent
abbrev pub link : (input output : List ℕ) → LinkState
link input output =
    record {
      input = record { bytes = input; closed = false };
      output = output;
      heard_at = 0;
      echoed = false;
    }

abbrev pub end_of : LinkState → Table OpenChannel → List Subscription → List (Queue Stored)
    → ServerEnd
end_of l channels subscriptions qs =
    record {
      link = l;
      greeted = true;
      peer = record { user = []; host = [] };
      settled = true;
      channels = channels;
      subscriptions = subscriptions;
      queues = qs;
    }

-- circuit 0 has subscription 1 on TEMP and 2 on SLOW, of which an entry waits; circuit 1 has 3 on
-- TEMP, and 4 for alarms alone
abbrev pub end_0 : LinkState → (waiting : List (SubKey × Stored)) → ServerEnd
end_0 l waiting =
    end_of l both_open (on_temp 1 1 ∷ on_slow 2 1 ∷ [])
    (queues (temp_key 1 ∷ slow_key 2 ∷ []) waiting)

abbrev pub end_1 : LinkState → (waiting : List (SubKey × Stored)) → ServerEnd
end_1 l waiting =
    end_of l both_open (on_temp 3 2 ∷ on_temp 4 4 ∷ [])
    (queues (temp_key 3 ∷ temp_key 4 ∷ []) waiting)

-- the put on SLOW of a circuit with this IOID
abbrev pub put_by : Handle → ℕ → Put
put_by h ioid = record { circuit = h; channel = second; data_type = 5; count = 1; ioid = ioid }

abbrev pub waits_by : Handle → (ioid value : ℕ) → WaitingPut
waits_by h ioid value = record { put = put_by h ioid; value = longs (pos value ∷ []) }

-- TEMP with this value, and SLOW with this one, busy and waited for by these puts
abbrev pub temp_now : Stored → Record
temp_now v =
    record { state = record temp { value = v.value; meta = v.meta }; busy = None; waiting = [] }

abbrev pub slow_now : Stored → Option Put → List WaitingPut → Record
slow_now v busy waiting =
    record {
      state = record slow { value = v.value; meta = v.meta };
      busy = busy;
      waiting = waiting;
    }

-- SLOW is busy with a put of circuit 1; then puts of circuit 0 and of circuit 1 wait
abbrev pub slow_busy : Record
slow_busy =
    slow_now (written 30) (Some (put_by second 40))
    (waits_by first 41 31 ∷ waits_by second 42 32 ∷ [])

abbrev pub core_of : List Record → Table ServerCircuit → (applied : ℕ) → Server
core_of records circuits applied =
    record {
      port = 5064;
      rules = [];
      records = records;
      stamp = record { seconds = 8; nanos = 9 };
      moment = 0;
      circuits = circuits;
      beacons = beacon.fresh 0;
      applied = applied;
    }

-- ---- the world

abbrev pub at : (circuit place : ℕ) → PutPlace
at circuit place = record { circuit = circuit; place = place }

abbrev pub temp_side : RecordSide
temp_side = record { name = temp_name; number = 0; busy = None; waiting = [] }

abbrev pub slow_side : Option PutPlace → List PutPlace → RecordSide
slow_side busy waiting = record { name = slow_name; number = 1; busy = busy; waiting = waiting }

abbrev pub setting : ServerSetting
setting =
    record { address = record { host = 1; port = 5064 }; rules = []; records = temp ∷ slow ∷ [] }

abbrev pub side_of : List RecordSide → Server → ServerSide
side_of records core =
    record { setting = setting; core = core; life = 0; records = records; added = 2 }

abbrev pub client : ClientSide
client = client_begun (setting.address ∷ []) 0 0
    (record { peer = record { user = []; host = [] }; name_servers = [] })

-- what went on before: n messages were handled, and a VERSION was answered
abbrev pub lists : Bool → Bool → List Told → List Step → Circuit
lists client_open server_open more steps = record {
  client = 0;
  server = 0;
  up = [];
  down = reply 0 version_reply ∷ more;
  handled = steps;
  heard = [];
  queued = [];
  client_open = client_open;
  server_open = server_open;
}

abbrev pub handled : ℕ → List Step
handled n = replicate n (step 1 2 2)

-- the channels of a circuit were created at the places 0 and 1
abbrev pub creations : List Creation
creations = record { sid = 65536; place = 0 } ∷ record { sid = 65537; place = 1 } ∷ []

abbrev pub standing : SubKey → (place posts : ℕ) → Standing
standing key place posts = record { key = key; place = place; posts = posts }

abbrev pub joined : Handle → Circuit → List Creation → List Standing → List (Queue (ℕ × Cause))
    → Joined
joined h c created subscribed qs = record {
  client = 0;
  server = 0;
  at_client = h;
  at_server = h;
  lists = c;
  left_up = [];
  left_down = [];
  creations = created;
  standing = subscribed;
  queues = qs;
}

-- The circuits: on the first five messages were handled, and subscription 1 began at place 2, 2 at
-- place 3; on the second six were, and 3 and 4 began at the places 2 and 3. So many posts matched
-- 1, 2 and 3, and these numbers wait.
abbrev pub joined_0 : List Told → List Step → (posts_1 posts_2 : ℕ) → List (SubKey × (ℕ × Cause))
    → Joined
joined_0 more steps posts_1 posts_2 waiting =
    joined first (lists true true more (handled 5 ++ steps)) creations
    (standing (temp_key 1) 2 posts_1 ∷ standing (slow_key 2) 3 posts_2 ∷ [])
    (queues (temp_key 1 ∷ slow_key 2 ∷ []) waiting)

abbrev pub joined_1 : List Told → List Step → (posts_3 : ℕ) → List (SubKey × (ℕ × Cause)) → Joined
joined_1 more steps posts_3 waiting =
    joined second (lists true true more (handled 6 ++ steps)) creations
    (standing (temp_key 3) 2 posts_3 ∷ standing (temp_key 4) 3 1 ∷ [])
    (queues (temp_key 3 ∷ temp_key 4 ∷ []) waiting)

abbrev pub world_of : ServerSide → List Joined → List Entry → World
world_of side circuits entries =
    record {
      clients = client ∷ [];
      servers = side ∷ [];
      circuits = circuits;
      client_logs = [] ∷ [];
      server_logs = (Added 0 temp ∷ Added 1 slow ∷ entries) ∷ [];
      moment = 0;
    }

-- ---- the world before

-- an entry of subscription 2 waits on circuit 0
abbrev pub entry_2 : SubKey × Stored
entry_2 = (slow_key 2, long 0)

abbrev pub number_2 : SubKey × (ℕ × Cause)
number_2 = (slow_key 2, (3, Update 0))

-- the server, on whose circuit 0 these bytes came and these wait to be sent
abbrev pub core_before : (input output : List ℕ) → Server
core_before input output =
    core_of (temp_now (long 21) ∷ slow_busy ∷ [])
    (given (Open (end_0 (link input output) (entry_2 ∷ []))) ∷ given
    (Open (end_1 (link [] []) [])) ∷ []) 0

-- SLOW is busy with the put at place 4 of circuit 1, and those at place 4 of circuit 0 and at place
-- 5 of circuit 1 wait
abbrev pub sides_before : List RecordSide
sides_before = temp_side ∷ slow_side (Some (at 1 4)) (at 0 4 ∷ at 1 5 ∷ []) ∷ []

abbrev pub before : (input output : List ℕ) → World
before input output =
    world_of (side_of sides_before (core_before input output))
    (joined_0 [] [] 1 1 (number_2 ∷ []) ∷ joined_1 [] [] 1 [] ∷ []) []
