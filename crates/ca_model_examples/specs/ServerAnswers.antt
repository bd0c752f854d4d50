-- Vocabulary: calls of a small server, with their answers and what they leave, and what they never
-- answer.
use Rattle.std.specs.Prelude.{ℕ, ◌≡◌, ◌≤◌, Bool, true, false, List, [], ◌∷◌, Some, None, Ok, Err}
use Rattle.std.specs.Prelude.{length, replicate}
use Rattle.ca_arena.specs.declared.handle.Handle.{Handle}
use Rattle.ca_ids.specs.Table.{Table, under}
use Rattle.ca_text.specs.declared.refusal.Refusal.TheVariants as refusal
use Rattle.ca_dbr.specs.Elements.{longs}
use Rattle.ca_queue.specs.Queue.{Queue, no_queue}
use Rattle.ca_records.specs.Puts.{Record}
use Rattle.ca_wire.specs.Fields.{Fields}
use Rattle.ca_wire.specs.Message.{spelled}
use Rattle.ca_wire.specs.Messages.{clear_request, search_reply, search_request, version_request}
use Rattle.ca_model.specs.Answer.{Answers}
use Rattle.ca_model.specs.Due.{Adds, Clears}
use Rattle.ca_model.specs.Ends.{Why}
use Rattle.ca_model.specs.Ends as why
use Rattle.ca_model.specs.Server.{Ended, Open, Server, ServerCircuit, ServerEnd, new_end}
use Rattle.ca_dgram.specs.Packing.{ArePacked}
use Rattle.ca_model.specs.ServerCalls.{AddsRecord, Beacons, Finishes, search_answer}
use Rattle.ca_model.specs.ServerSteps.{Accepts, Acts, Cuts, Gives, HasEnd, Leaves, MayEnd, Pumps}
use Rattle.ca_model.specs.ServerSteps.{Reaches, Records, Sends, StepsOpen, Steps, Update}
use Rattle.ca_model.specs.ServerSteps as stepped
use Rattle.ca_model.specs.Speech.{Stored}
use Rattle.ca_model_examples.specs.ServerRows.{eve, slow_name, wave}
use Rattle.ca_model_examples.specs.ServerWorld.{both_open, core_before, core_of, end_0, end_1}
use Rattle.ca_model_examples.specs.ServerWorld.{end_of, entry_2, first, free, given, link, on_slow}
use Rattle.ca_model_examples.specs.ServerWorld.{on_temp, put_by, queues, second, slow_busy}
use Rattle.ca_model_examples.specs.ServerWorld.{slow_key, slow_now, temp_key, temp_now, temp_open}
use Rattle.ca_model_examples.specs.ServerWorld.{waits_by, written}
use Rattle.ca_model_examples.specs.Worlds.{long, temp, temp_name}

-- ---- circuits come, and get bytes

-- a server with these circuits
abbrev pub served_by : Table ServerCircuit → Server
served_by circuits = core_of (temp_now (long 21) ∷ slow_busy ∷ []) circuits 0

abbrev pub one_circuit : ServerEnd → Server
one_circuit e = served_by (given (Open e) ∷ [])

abbrev pub quiet : ServerEnd
quiet = end_1 (link [] []) []

-- The first circuit gets index 0 in its first generation; an index that is free again its second.
-- Not an index that is held, nor one that skips another or a generation; and it is not refused
-- while there is room.
abbrev pub AcceptsFirst : Type 0
AcceptsFirst =
    Accepts (served_by []) (Ok first) (one_circuit (new_end 0))
    × Accepts (served_by (free ∷ [])) (Ok (record { index = 0; generation = 2 }))
    (served_by (record { generation = 2; value = Some (Open (new_end 0)) } ∷ []))

abbrev pub AcceptsNotSo : Type 0
AcceptsNotSo =
    ((y : Server) → Accepts (served_by []) (Ok second) y → ⊥)
    × ((y : Server) → Accepts (one_circuit quiet) (Ok (record { index = 0; generation = 2 })) y → ⊥)
    × ((y : Server) → Accepts (served_by (free ∷ [])) (Ok first) y → ⊥)
    × ((y : Server) → Accepts (served_by []) (Err refusal.ArenaFull) y → ⊥)

-- bytes come after the others, at this moment; on a circuit that is not open CircuitClosed
abbrev pub GivesBytes : Type 0
GivesBytes =
    Gives (one_circuit (end_1 (link (1 ∷ []) []) [])) first (2 ∷ 3 ∷ []) (Ok tt)
    (one_circuit (end_1 (link (1 ∷ 2 ∷ 3 ∷ []) []) []))
    × Gives (served_by (given (Ended why.Cut []) ∷ [])) first (1 ∷ []) (Err refusal.CircuitClosed)
    (served_by (given (Ended why.Cut []) ∷ []))
    × Gives (served_by (free ∷ [])) first (1 ∷ []) (Err refusal.CircuitClosed)
    (served_by (free ∷ []))
    × ((y : Server) → Gives (one_circuit quiet) first (1 ∷ []) (Err refusal.CircuitClosed) y → ⊥)

-- the first two of three bytes were handed over; four are too many
abbrev pub SendsBytes : Type 0
SendsBytes =
    Sends (one_circuit (end_1 (link [] (1 ∷ 2 ∷ 3 ∷ [])) [])) first 2
    (one_circuit (end_1 (link [] (3 ∷ [])) []))
    × ((y : Server) → Sends (one_circuit (end_1 (link [] (1 ∷ 2 ∷ 3 ∷ [])) [])) first 4 y → ⊥)

-- ---- steps

-- With 262,144 bytes that wait, the output is full, and no message is taken; with one less it is
-- not.
abbrev pub IsFullAt : Type 0
IsFullAt =
    ((y : Server) (e : ServerEnd) → 262144 ≤ length e.link.output
    → StepsOpen y first e stepped.OutputFull y
    × ((new : Server) → StepsOpen y first e stepped.Handled new → ⊥))
    × ((y : Server) (e : ServerEnd) → length e.link.output ≡ 262143 → (new : Server)
    → StepsOpen y first e stepped.OutputFull new → ⊥)

-- fifteen bytes are no message, and no bad header
abbrev pub NeedsBytes : Type 0
NeedsBytes =
    let y : Server = one_circuit (end_1 (link (replicate 15 0) []) []) in
    Steps y first stepped.NeedBytes y × ((new : Server) → Steps y first stepped.Handled new → ⊥)

-- a payload size of 12 is no multiple of 8: the end closes, and reports what waited; its puts go
-- with it
abbrev pub misaligned : List ℕ
misaligned = 0 ∷ 4 ∷ 0 ∷ 12 ∷ 0 ∷ 5 ∷ 0 ∷ 1 ∷ 0 ∷ 1 ∷ 0 ∷ 0 ∷ 0 ∷ 0 ∷ 0 ∷ 0 ∷ []

abbrev pub ClosesOnBadHeader : Type 0
ClosesOnBadHeader =
    Steps (core_of (temp_now (long 21) ∷ slow_busy ∷ [])
    (given (Open (end_0 (link misaligned (1 ∷ 2 ∷ [])) [])) ∷ []) 0) first
    (stepped.Closed why.Misaligned (1 ∷ 2 ∷ []))
    (core_of (temp_now (long 21) ∷ slow_now (written 30) (Some (put_by second 40))
    (waits_by second 42 32 ∷ []) ∷ []) (free ∷ []) 0)

-- An end that ended in another call is reported by its cause, once; of no circuit a step answers
-- Cut.
abbrev pub ReportsOnce : Type 0
ReportsOnce =
    Steps (served_by (given (Ended why.OutOfMemory (1 ∷ [])) ∷ [])) first
    (stepped.Closed why.OutOfMemory (1 ∷ []))
    (core_of (temp_now (long 21) ∷ slow_now (written 30) (Some (put_by second 40))
    (waits_by second 42 32 ∷ []) ∷ []) (free ∷ []) 0)
    × Steps (served_by (free ∷ [])) first (stepped.Closed why.Cut []) (served_by (free ∷ []))
    × ((y : Server)
    → Steps (served_by (given (Ended why.OutOfMemory []) ∷ [])) first (stepped.Closed why.Cut []) y
    → ⊥)

-- ---- what a message does

-- A cleared channel takes its waiting puts on this circuit with it, and no others; its
-- subscriptions end.
abbrev pub ClearsItsOwn : Type 0
ClearsItsOwn =
    Records (served_by []) first (end_0 (link [] []) []) (clear_request 65537 8) (Clears 65537)
    (core_of (temp_now (long 21) ∷ slow_now (written 30) (Some (put_by second 40))
    (waits_by second 42 32 ∷ []) ∷ []) [] 0)
    × Records (served_by []) first (end_0 (link [] []) []) (clear_request 65536 7) (Clears 65536)
    (served_by [])
    × Acts (served_by []) (end_0 (link [] []) (entry_2 ∷ (temp_key 1, long 0) ∷ [])) (Clears 65537)
    (end_of (link [] []) (given temp_open ∷ free ∷ []) (on_temp 1 1 ∷ [])
    (queues (temp_key 1 ∷ []) ((temp_key 1, long 0) ∷ [])))

-- A subscription goes to the first queue with room, with the value now as its first entry.
abbrev pub full_queue : Queue Stored
full_queue = record { waiting = []; subscriptions = replicate 36 (temp_key 9); events_on = true }

abbrev pub AddsToFirst : Type 0
AddsToFirst =
    Acts (served_by []) (end_of (link [] []) both_open [] (full_queue ∷ no_queue ∷ no_queue ∷ []))
    (Adds (on_temp 1 1))
    (end_of (link [] []) both_open (on_temp 1 1 ∷ [])
    (full_queue ∷ record {
      waiting = (temp_key 1, long 21) ∷ [];
      subscriptions = temp_key 1 ∷ [];
      events_on = true;
    } ∷ no_queue ∷ []))

-- A circuit ends out of memory for a post only if it is concerned.
abbrev pub EndsNoOther : Type 0
EndsNoOther =
    ((gone : Handle → Bool) → MayEnd (core_before [] []) slow_name 3 gone → gone second ≡ true → ⊥)
    × ((gone : Handle → Bool) → MayEnd (core_before [] []) temp_name 4 gone → gone first ≡ true → ⊥)

-- ---- updates

-- Nothing leaves while 262,144 bytes wait, nor from queue 1 while queue 0 has an entry, nor while
-- events are off.
abbrev pub two_queues : Bool → ServerEnd
two_queues on =
    end_of (link [] []) both_open (on_temp 1 1 ∷ on_slow 2 1 ∷ []) (
    record { waiting = (temp_key 1, long 21) ∷ []; subscriptions = temp_key 1 ∷ []; events_on = on }
    ∷ record {
      waiting = (slow_key 2, long 0) ∷ [];
      subscriptions = slow_key 2 ∷ [];
      events_on = on;
    } ∷ []
    )

abbrev pub LeavesNotSo : Type 0
LeavesNotSo =
    ((e new : ServerEnd) (u : Update) → 262144 ≤ length e.link.output → Leaves e u new → ⊥)
    × ((new : ServerEnd) (u : Update) → u.queue ≡ 1 → Leaves (two_queues true) u new → ⊥)
    × ((new : ServerEnd) (u : Update) → u.queue ≡ 0 → Leaves (two_queues false) u new → ⊥)

-- a pump does not stop while an update may leave
abbrev pub PumpsOn : Type 0
PumpsOn = Pumps (one_circuit (two_queues true)) first [] (one_circuit (two_queues true)) → ⊥

-- ---- beacons

-- The first beacon of port 5064 is due at once; the next 20 milliseconds after it, and not before;
-- a moment does not go back.
abbrev pub AnnouncesItself : Type 0
AnnouncesItself =
    let y : Server = core_of [] [] 0 in
    let sent : Server =
    record y { moment = 5; beacons = record { number = 1; wait = 40; due = 25 } } in
    Beacons y 5 (Some (0 ∷ 13 ∷ 0 ∷ 0 ∷ 0 ∷ 13 ∷ 19 ∷ 200 ∷ replicate 8 0)) sent
    × Beacons sent 24 None (record sent { moment = 24 })
    × Beacons sent 3 None sent × ((new : Server) → Beacons sent 25 None new → ⊥)
    × ((new : Server) (bytes : List ℕ) → Beacons sent 24 (Some bytes) new → ⊥)

-- ---- datagrams

-- A search for a name that is served has a reply, whatever its type; another has none; nor has a
-- VERSION.
abbrev pub AnswersSearches : Type 0
AnswersSearches =
    let y : Server = served_by [] in
    (search_answer y (search_request 3 temp_name) ≡ search_reply 5064
    (search_request 3 temp_name) ∷ [])
    × (search_answer y (record (search_request 3 eve) { data_type = 10 }) ≡ [])
    × (search_answer y (version_request 0) ≡ [])

-- No reply is no datagram; one goes after a VERSION; 43 need two datagrams, of which the first has
-- 42.
abbrev pub one_reply : Fields
one_reply = search_reply 5064 (search_request 3 temp_name)

abbrev pub PacksReplies : Type 0
PacksReplies =
    ArePacked [] [] × ArePacked (one_reply ∷ []) (spelled (version_request 0 ∷ one_reply ∷ []) ∷ [])
    × ArePacked (replicate 43 one_reply)
    (spelled (version_request 0 ∷ replicate 42 one_reply) ∷ spelled
    (version_request 0 ∷ one_reply ∷ []) ∷ [])
    × ((ds : List (List ℕ)) → ArePacked [] ds → ds ≡ [])

-- ---- finishes, whose reply is awaited or not

-- The channel of the put was cleared: no reply goes down, and the next put is applied all the same.
abbrev pub cleared_end : List ℕ → ServerEnd
cleared_end output = end_of (link [] output) (given temp_open ∷ free ∷ []) [] (queues [] [])

abbrev pub with_slow : List Record → (applied : ℕ) → ServerEnd → Server
with_slow records applied e = core_of records (free ∷ given (Open e) ∷ []) applied

abbrev pub FinishesUnawaited : Type 0
FinishesUnawaited =
    Finishes (with_slow
    (slow_now (written 30) (Some (put_by second 40)) (waits_by first 41 31 ∷ []) ∷ []) 0
    (cleared_end [])) slow_name [] (Ok tt)
    (with_slow (slow_now (written 31) (Some (put_by first 41)) [] ∷ []) 1 (cleared_end []))

-- it is not sent to a channel that was cleared
abbrev pub FinishesNotSo : Type 0
FinishesNotSo =
    (sent : Handle × Fields) (new : Server)
    → Finishes
    (with_slow (slow_now (written 30) (Some (put_by second 40)) [] ∷ []) 0
    (cleared_end [])) slow_name (sent ∷ []) (Ok tt) new → ⊥

-- where it was sent, and no put waits, the circuit does not end
abbrev pub FinishKeepsOpen : Type 0
FinishKeepsOpen =
    (sent : Handle × Fields) (new : Server) (left : List ℕ)
    → Finishes
    (with_slow (slow_now (written 30) (Some (put_by second 40)) [] ∷ []) 0 quiet) slow_name
    (sent ∷ []) (Ok tt) new
    → under new.circuits second ≡ Some (Ended why.OutOfMemory left) → ⊥

-- ---- adding a record

-- 60 bytes are a name, and 61 are none; a name with a zero is none; a served name is refused by
-- that, whatever the value
abbrev pub AddsNotSo : Type 0
AddsNotSo =
    ((new : Server) (behind : ℕ)
    → AddsRecord (served_by []) (record wave { name = replicate 61 65 }) behind (Ok tt) new → ⊥)
    × ((new : Server) (behind : ℕ)
    → AddsRecord (served_by []) (record wave { name = 65 ∷ 0 ∷ [] }) behind (Ok tt) new → ⊥)
    × ((new : Server) (behind : ℕ) → AddsRecord (served_by []) temp behind (Ok tt) new → ⊥)
    × ((new : Server) (behind : ℕ)
    → AddsRecord (served_by []) (record temp { value = longs [] }) behind (Err refusal.BadCount) new
    → ⊥)
    × ((new : Server) (behind : ℕ)
    → AddsRecord (served_by []) (record wave { count = 262145 }) behind (Ok tt) new → ⊥)

-- ---- the engine of one circuit

-- a circuit of TEMP alone on which the peer greeted, or not yet
abbrev pub of_temp : (greeted : Bool) → Server
of_temp greeted =
    core_of (temp_now (long 21) ∷ [])
    (given (Open (record (new_end 0) { greeted = greeted })) ∷ []) 0

-- A VERSION is answered by VERSION, with the minor version 13 as its count; a second one by
-- nothing.
abbrev pub AnswersVersions : Type 0
AnswersVersions =
    Answers first (of_temp false) (version_request 0 ∷ version_request 7 ∷ []) (
    0 ∷ 0 ∷ 0 ∷ 0 ∷ 0 ∷ 0 ∷ 0 ∷ 13 ∷ 0 ∷ 0 ∷ 0 ∷ 0 ∷ 0 ∷ 0 ∷ 0 ∷ 0 ∷ []
    ) (of_temp true)
