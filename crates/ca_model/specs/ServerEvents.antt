-- Statement: what a server's calls and steps leave of a world: the core's answer, and how lists and
-- logs grow (sections "Virtual Circuit", "CA Protocol Messages" and "Monitors").
use Rattle.std.specs.Prelude.{ℕ, ◌≡◌, ◌≢◌, ◌+◌, ◌==◌, ◌&&◌, ◌++◌, ◌⊎◌, Bool, true, false, not, List}
use Rattle.std.specs.Prelude.{[], ◌∷◌, Option, Some, None, Ok, Err, drop, filter, find}
use Rattle.std.specs.Prelude.{if◌then◌else◌, is_some, length, map, nat_lt, option_and_then}
use Rattle.std.specs.Prelude.{option_map, slice_get, slice_set, take, unwrap_or}
use Rattle.std.specs.List.{flat_map, fold, list_any}
use Rattle.std.specs.Str.{bytes_eq}
use Rattle.ca_arena.specs.declared.handle.Handle.{Handle}
use Rattle.ca_dbr.specs.Elements.{Elements}
use Rattle.ca_ids.specs.Table.{same_handle, under, with_all_freed}
use Rattle.ca_ids.specs.Wire.{wire_of}
use Rattle.ca_queue.specs.declared.entry.SubKey.{SubKey}
use Rattle.ca_queue.specs.Keys.{same}
use Rattle.ca_queue.specs.Circuit.{queue_posted, without_each}
use Rattle.ca_queue.specs.Queue.{Queue, added, posted, switched, with_front_taken}
use Rattle.ca_queue.specs.Waiting.{front}
use Rattle.ca_records.specs.declared.puts.Put.{Put}
use Rattle.ca_records.specs.Puts.{Record, WaitingPut, record_named}
use Rattle.ca_records.specs.Record.{RecordState, unset}
use Rattle.ca_text.specs.declared.refusal.Refusal.{Refusal}
use Rattle.ca_text.specs.declared.refusal.Refusal.TheVariants as refusal
use Rattle.ca_text.specs.Limits.{queue_subscriptions}
use Rattle.ca_text.specs.Place.{At}
use Rattle.ca_wire.specs.Fields.{Fields}
use Rattle.ca_wire.specs.Messages.{disconnect}
use Rattle.ca_model.specs.Due.{Action, Adds, Applies, Clears, Drops, Opens, Switches, Waits}
use Rattle.ca_model.specs.Ends as why
use Rattle.ca_model.specs.History.{Cause, Entry, Removal, Reply, Sent, Step, Told}
use Rattle.ca_model.specs.History as entry
use Rattle.ca_model.specs.Server.{Ended, Open, OpenChannel, Server, ServerCircuit, ServerEnd}
use Rattle.ca_model.specs.Server.{concerns, key_of}
use Rattle.ca_model.specs.ServerCalls.{AddsRecord, AnswersDatagram, Finishes, Posts, Removes}
use Rattle.ca_model.specs.ServerCalls.{channels_of}
use Rattle.ca_model.specs.ServerSteps.{Cuts, Handles, HasEnd, LacksMemory, Next, Pumps, Stepped}
use Rattle.ca_model.specs.ServerSteps.{StepsOpen, Update, closed, output_of, stored_now, write_mask}
use Rattle.ca_model.specs.ServerSteps as stepped
use Rattle.ca_model.specs.Speech.{Stored}
use Rattle.ca_model.specs.World.{Creation, Joined, PutPlace, RecordSide, ServerSide, Standing}
use Rattle.ca_model.specs.World.{World, log_begun, log_length, record_begun, server_begun}
use Rattle.ca_model.specs.World.{with_circuit, with_entries, with_server}

-- ---- ends at a server that ended

-- what an end of a circuit leaves if the core says that it ended, and did not report it yet
abbrev pub left_by : Option ServerCircuit → Option (List ℕ)
left_by (Some (Ended why left)) = Some left
left_by c = None

-- A call of server i is over, with this core: what circuit k's end leaves if it ended in this call.
abbrev pub ends_by : (i : ℕ) → Server → Joined → Option (List ℕ)
ends_by i core j =
    if j.server == i && j.lists.server_open then left_by (under core.circuits j.at_server) else None

-- the circuit, whose end at the server has ended and left these bytes: nothing waits there now
abbrev pub server_closed : List ℕ → Joined → Joined
server_closed left j =
    record j {
      lists = record j.lists { server_open = false };
      left_down = left;
      creations = [];
      standing = [];
      queues = [];
    }

-- each circuit that ends, as that
abbrev pub ending : (Joined → Option (List ℕ)) → Joined → Joined
ending ends j = unwrap_or (option_map (λ (left : List ℕ). server_closed left j) (ends j)) j

-- circuit k of these ends
abbrev pub ends_at : (Joined → Option (List ℕ)) → List Joined → ℕ → Bool
ends_at ends circuits k =
    unwrap_or (option_map (λ (j : Joined). is_some (ends j)) (slice_get circuits k)) false

-- the waiting puts that came on circuits which the test names are withdrawn
abbrev pub without_puts : (ℕ → Bool) → RecordSide → RecordSide
without_puts gone r =
    record r { waiting = filter (λ (p : PutPlace). not (gone p.circuit)) r.waiting }

-- and the log says that
abbrev pub withdrawals : (ℕ → Bool) → List RecordSide → List Entry
withdrawals gone records =
    map (λ (p : PutPlace). entry.Withdrawn p.circuit p.place)
    (flat_map (λ (r : RecordSide). filter (λ (p : PutPlace). gone p.circuit) r.waiting) records)

-- Each end that ended in a call is reported by a step of the core at once (by `Steps` its slot is
-- free then), so that it keeps nothing of it.
abbrev pub reported : Server → Server
reported core =
    record core {
      circuits = with_all_freed
          (λ (c : ServerCircuit). is_some (left_by (Some c))) core.circuits;
    }

-- A call of server i is over: its core is this, and of its circuits these end. Their
-- waiting puts are withdrawn.
abbrev pub server_after : (i : ℕ) → ServerSide → (Joined → Option (List ℕ)) → Server → World → World
server_after i y ends core w =
    let gone : ℕ → Bool = ends_at ends w.circuits in
    let side : ServerSide =
    record y { core = reported core; records = map (without_puts gone) y.records } in
    with_entries y.life (withdrawals gone y.records)
    (with_server i side (record w { circuits = map (ending ends) w.circuits }))

-- ---- posts, as numbers

-- one more post matches this subscription of the circuit: its number waits with the
-- place of the EVENT_ADD
abbrev pub with_number : Joined → SubKey → Joined
with_number j key = record j {
  standing =
      map (λ (s : Standing). if same key s.key then record s { posts = s.posts + 1 }
      else s) j.standing;
  queues =
      fold (λ (qs : List (Queue (ℕ × Cause))) (s : Standing). if same key s.key then map
      (queue_posted key (s.place, entry.Update s.posts)) qs else qs) j.queues j.standing;
}

-- the keys of the subscriptions at an end that a post concerns, in the order of their EVENT_ADDs
abbrev pub keys_concerned : (name : List ℕ) → (mask : ℕ) → Option ServerCircuit → List SubKey
keys_concerned name mask (Some (Open e)) = map key_of (filter (concerns name mask) e.subscriptions)
keys_concerned name mask c = []

-- A post to a record of server i, whose core was this: the circuits that it concerns have
-- its numbers waiting.
abbrev pub numbers_posted : (i : ℕ) → Server → (name : List ℕ) → (mask : ℕ) → Joined → Joined
numbers_posted i core name mask j =
    if j.server == i && j.lists.server_open then fold with_number j
    (keys_concerned name mask (under core.circuits j.at_server)) else j

-- ---- records, as numbers

-- the records with the one of this name changed
abbrev pub with_record : List ℕ → (RecordSide → RecordSide) → List RecordSide → List RecordSide
with_record name f records =
    map (λ (r : RecordSide). if bytes_eq r.name name then f r else r) records

-- the number of the record of this name
abbrev pub number_of : List ℕ → List RecordSide → ℕ
number_of name [] = 0
number_of name (r ∷ records) = if bytes_eq r.name name then r.number else number_of name records

-- of the places of puts, those whose put the test does not name, or names
abbrev pub places_where : (Put → Bool) → List WaitingPut → List PutPlace → List PutPlace
places_where test (p ∷ puts) (q ∷ places) =
    if test p.put then q ∷ places_where test puts places else places_where test puts places
places_where test puts places = []

-- the records side by side with the core's
abbrev pub with_core : {A : Type 0} → (Record → RecordSide → A) → List Record → List RecordSide
    → List A
with_core f (c ∷ cores) (r ∷ records) = f c r ∷ with_core f cores records
with_core f cores records = []

-- ---- a message is handled

-- the put on circuit k at this handle and SID is one of the channel of that SID
abbrev pub is_of_channel : Handle → (sid : ℕ) → Put → Bool
is_of_channel h sid p = same_handle p.circuit h && wire_of p.channel == sid

-- the waiting puts of a cleared channel leave their records
abbrev pub without_channel : Handle → (sid : ℕ) → Record → RecordSide → RecordSide
without_channel h sid c r =
    record r {
      waiting = places_where
          (λ (p : Put). not (is_of_channel h sid p)) c.waiting r.waiting;
    }

-- and the log says that
abbrev pub channel_withdrawals : Handle → (sid : ℕ) → List Record → List RecordSide → List Entry
channel_withdrawals h sid cores records =
    map (λ (p : PutPlace). entry.Withdrawn p.circuit p.place)
    (flat_map (λ (ps : List PutPlace). ps)
    (with_core
    (λ (c : Record) (r : RecordSide). places_where
    (is_of_channel h sid) c.waiting r.waiting) cores records))

-- what a message at this place does to the records by number: the core was this
abbrev pub records_after : Server → Handle → PutPlace → Action → List RecordSide → List RecordSide
records_after core h p (Applies name value true) records =
    with_record name (λ (r : RecordSide). record r { busy = Some p }) records
records_after core h p (Waits name value) records =
    with_record name (λ (r : RecordSide). record r { waiting = r.waiting ++ p ∷ [] }) records
records_after core h p (Clears sid) records = with_core (without_channel h sid) core.records records
records_after core h p action records = records

-- what it logs
abbrev pub logged_by : Server → Handle → PutPlace → Action → List RecordSide → List Entry
logged_by core h p (Applies name value busies) records =
    entry.Applied p.circuit p.place (number_of name records) (stored_now core value) busies ∷ []
logged_by core h p (Waits name value) records =
    entry.Waits p.circuit p.place (number_of name records) (stored_now core value) ∷ []
logged_by core h p (Clears sid) records = channel_withdrawals h sid core.records records
logged_by core h p action records = []

-- the first queue with room takes a new subscription, and the number 0
abbrev pub number_taken : SubKey → (ℕ × Cause) → List (Queue (ℕ × Cause)) → List (Queue (ℕ × Cause))
number_taken key item [] = []
number_taken key item (q ∷ qs) =
    if nat_lt (length q.subscriptions) queue_subscriptions then posted key item (added key q) ∷ qs
    else q ∷ number_taken key item qs

-- the circuit without the subscriptions that a test names, and their numbers
abbrev pub without_standing : (SubKey → Bool) → Joined → Joined
without_standing gone j =
    record j {
      standing = filter (λ (s : Standing). not (gone s.key)) j.standing;
      queues = without_each gone j.queues;
    }

-- what it does to the places and numbers of its circuit
abbrev pub numbers_after : (place : ℕ) → Action → Joined → Joined
numbers_after place (Adds s) j = record j {
  standing = j.standing ++ record { key = key_of s; place = place; posts = 1 } ∷ [];
  queues = number_taken (key_of s) (place, entry.Update 0) j.queues;
}
numbers_after place (Opens c) j =
    record j { creations = j.creations ++ record { sid = c.sid; place = place } ∷ [] }
numbers_after place (Drops key) j = without_standing (same key) j
numbers_after place (Clears sid) j =
    without_standing (λ (k : SubKey). k.sid == sid)
    (record j { creations = filter (λ (c : Creation). not (c.sid == sid)) j.creations })
numbers_after place (Switches on) j = record j { queues = map (switched on) j.queues }
numbers_after place action j = j

-- the numbers of a write of a message, if it is one, on all circuits
abbrev pub write_numbers : (i : ℕ) → Server → Action → Joined → Joined
write_numbers i core (Applies name value busies) j = numbers_posted i core name write_mask j
write_numbers i core action j = j

-- messages of a server, about the client's message at this place
abbrev pub about : (place : ℕ) → Cause → List Fields → List Told
about place why ms = map (λ (m : Fields). record { message = m; place = place; cause = why }) ms

-- the circuit whose message at this place was handled in this step, by these replies
abbrev pub handled_at : (place : ℕ) → Step → List Fields → Joined → Joined
handled_at place step replies j = record j {
  lists = record j.lists {
    down = j.lists.down ++ about place Reply replies;
    handled = j.lists.handled ++ step ∷ [];
  };
}

-- The message is handled: the world before its circuits that end. The server's core is still the
-- one before; its records, its log and the numbers that wait are those after.
abbrev pub acted : (k : ℕ) → Joined → ServerSide → Action → World → World
acted k j y action w =
    let place : ℕ = length j.lists.handled in
    let p : PutPlace = record { circuit = k; place = place } in
    let side : ServerSide =
    record y { records = records_after y.core j.at_server p action y.records } in
    let here : World = with_circuit k (numbers_after place action j) w in
    with_entries y.life (logged_by y.core j.at_server p action y.records)
    (with_server j.server side
    (record here { circuits = map (write_numbers j.server y.core action) here.circuits }))

-- the length of a server's log
abbrev pub logged : ServerSide → World → ℕ
logged y w = log_length y.life w.server_logs

-- circuit k is noted as having handled one message more, by these replies
abbrev pub noted : (k : ℕ) → Joined → ServerSide → List Fields → (before : World) → World → World
noted k j y replies before w =
    let step : Step =
    record { sent = length j.lists.down; logged = logged y before; after = logged y w } in
    unwrap_or
    (option_map
    (λ (c : Joined). with_circuit k (handled_at (length j.lists.handled) step replies c) w)
    (slice_get w.circuits k)) w

-- the side of a server in a world, or this one
abbrev pub side_of : ℕ → ServerSide → World → ServerSide
side_of i y w = unwrap_or (slice_get w.servers i) y

-- the world after a message whose step closed its circuit: its write was
-- applied, or nothing was done
abbrev pub unsaid : (k : ℕ) → Joined → ServerSide → Action → (written : Option (Handle → Bool))
    → World → World
unsaid k j y action None w = w
unsaid k j y action (Some gone) w = acted k j y action w

-- the circuit j ends with these bytes left, and others as the core says
abbrev pub ends_here : Joined → List ℕ → (i : ℕ) → Server → Joined → Option (List ℕ)
ends_here j left i core c =
    if same_handle c.at_server j.at_server && (c.server == i && c.lists.server_open) then Some left
    else ends_by i core c

-- ---- events

-- A step of the server's end handled a message.
pub record StepHandles (w : World) (k : ℕ) (j : Joined) (y : ServerSide)
    (new : World) : Type 0 where
  pub e : ServerEnd
  pub has : HasEnd y.core j.at_server e
  pub core : Server
  pub steps : StepsOpen y.core j.at_server e stepped.Handled core
  pub leaves :
      let next : Next y.core j.at_server e = steps.0 in
      let mid : World = acted k j y next.action w in
      new ≡ noted k j y next.replies w
      (server_after j.server (side_of j.server y mid) (ends_by j.server core) core mid)

-- A step of the server's end closed it out of memory: the write of its message is applied or not,
-- and nothing else of it is done.
pub record StepLacks (w : World) (k : ℕ) (j : Joined) (y : ServerSide) (left : List ℕ)
    (new : World) : Type 0 where
  pub e : ServerEnd
  pub has : HasEnd y.core j.at_server e
  pub left_is : left ≡ e.link.output
  pub core : Server
  pub lacks : LacksMemory y.core j.at_server e core
  pub leaves :
      let mid : World = unsaid k j y lacks.next.action lacks.written w in
      new ≡ server_after j.server (side_of j.server y mid) (ends_here j left j.server core) core mid

-- A step of the server's end of a circuit: it takes a message, or none, or closes the circuit.
abbrev pub ServerStepped : World → (k : ℕ) → Joined → ServerSide → Stepped → World → Type 0
ServerStepped w k j y stepped.Handled new = StepHandles w k j y new
ServerStepped w k j y (stepped.Closed why.OutOfMemory left) new = StepLacks w k j y left new
ServerStepped w k j y (stepped.Closed why left) new =
    (e : ServerEnd) × HasEnd y.core j.at_server e
    × StepsOpen y.core j.at_server e (stepped.Closed why left) (closed j.at_server y.core)
    × (new ≡ server_after j.server y (ends_here j left j.server y.core)
    (closed j.at_server y.core) w)
ServerStepped w k j y did new =
    (e : ServerEnd) × HasEnd y.core j.at_server e × StepsOpen y.core j.at_server e did y.core
    × (new ≡ w)

-- the event of a step of the server's end
abbrev pub HappensServerStep : World → (k : ℕ) → Joined → ServerSide → World → Type 0
HappensServerStep w k j y new = (did : Stepped) × ServerStepped w k j y did new

-- the front of a queue of numbers
abbrev pub front_number : List (Queue (ℕ × Cause)) → (queue : ℕ) → Option (ℕ × Cause)
front_number queues n =
    option_map (λ (w : SubKey × (ℕ × Cause)). w.1)
    (option_and_then (λ (q : Queue (ℕ × Cause)). front q.waiting) (slice_get queues n))

-- The updates that left the queues, each with the number that was in front beside it; and the
-- circuit without these numbers.
abbrev pub stamped : List Update → Joined → Joined
stamped [] j = j
stamped (u ∷ us) j =
    let item : ℕ × Cause = unwrap_or (front_number j.queues u.queue) (0, Reply) in
    let queues : List (Queue (ℕ × Cause)) =
    unwrap_or
    (option_map (λ (q : Queue (ℕ × Cause)). slice_set j.queues u.queue (with_front_taken q))
    (slice_get j.queues u.queue)) j.queues in
    stamped us
    (record j {
      queues = queues;
      lists = record j.lists {
        down = j.lists.down
            ++ record { message = u.message; place = item.0; cause = item.1 } ∷ [];
      };
    })

-- Updates leave the queues of a circuit.
pub record HappensPump (w : World) (k : ℕ) (j : Joined) (y : ServerSide)
    (new : World) : Type 0 where
  pub updates : List Update
  pub core : Server
  pub pumps : Pumps y.core j.at_server updates core
  pub leaves : new ≡ server_after j.server y (ends_by j.server core) core
      (with_circuit k (stamped updates j) w)

-- A server's end of a circuit is cut.
pub record HappensCutServer (w : World) (k : ℕ) (j : Joined) (y : ServerSide)
    (new : World) : Type 0 where
  pub core : Server
  pub cuts : Cuts y.core j.at_server core
  pub leaves : new ≡ server_after j.server y (ends_by j.server core) core w

-- the log has the post
abbrev pub posted_entry : ServerSide → List ℕ → Stored → (mask : ℕ) → List Entry
posted_entry y name v mask = entry.Posted (number_of name y.records) mask v ∷ []

-- A value is posted to a record; refused, nothing changes.
abbrev pub HappensPost : World → (i : ℕ) → ServerSide → (name : List ℕ) → Elements → (mask : ℕ)
    → World → Type 0
HappensPost w i y name e mask new =
    let v : Stored = record { value = e; meta = unset } in
    (gone : Handle → Bool) × (core : Server)
    × ((Posts y.core name v mask gone (Ok tt) core
    × (let mid : World = with_entries y.life (posted_entry y name v mask)
    (record w { circuits = map (numbers_posted i y.core name mask) w.circuits }) in
    new ≡ server_after i y (ends_by i core) core mid))
    ⊎ ((r : Refusal) × (r ≢ refusal.OutOfMemory) × Posts y.core name v mask gone (Err r) core
    × (new ≡ w)))

-- ---- finishes

-- the first of a list
abbrev pub first_of : {A : Type 0} → List A → Option A
first_of [] = None
first_of (x ∷ xs) = Some x

-- a record's busy put is finished: the next that waits makes it busy, or none
abbrev pub next_busy : RecordSide → RecordSide
next_busy r = record r { busy = first_of r.waiting; waiting = drop 1 r.waiting }

-- the log has the finish of a put
abbrev pub finish_entry : PutPlace → Entry
finish_entry p = entry.Finished p.circuit p.place

-- and the next put of this record, if one waits, as applied
abbrev pub next_entries : ServerSide → RecordSide → Option WaitingPut → Option PutPlace → List Entry
next_entries y r (Some v) (Some p) =
    entry.Applied p.circuit p.place r.number (stored_now y.core v.value) true ∷ []
next_entries y r v p = []

-- the reply to a finished put goes down, about the place at which that came
abbrev pub replied_at : PutPlace → List (Handle × Fields) → World → World
replied_at p sent w =
    unwrap_or
    (option_map
    (λ (j : Joined). with_circuit p.circuit
    (record j {
      lists = record j.lists {
        down = j.lists.down ++ about p.place Reply
            (map (λ (s : Handle × Fields). s.1) sent);
      };
    }) w) (slice_get w.circuits p.circuit)) w

-- the subscriptions of a record see the next put, if there is one
abbrev pub next_numbers : (i : ℕ) → Server → List ℕ → List WaitingPut → Joined → Joined
next_numbers i core name [] j = j
next_numbers i core name (p ∷ ps) j = numbers_posted i core name write_mask j

-- A record's busy put is finished, and the next is applied.
pub record Finished (w : World) (i : ℕ) (y : ServerSide) (name : List ℕ)
    (new : World) : Type 0 where
  pub sent : List (Handle × Fields)
  pub core : Server
  pub finishes : Finishes y.core name sent (Ok tt) core
  pub cr : Record
  pub named : record_named y.core.records name ≡ Some cr
  pub r : RecordSide
  pub at : (place : ℕ) × At y.records place r × (r.name ≡ name)
  pub p : PutPlace
  pub busy : r.busy ≡ Some p
  pub leaves :
      let side : ServerSide = record y { records = with_record name next_busy y.records } in
      let mid : World =
      with_entries y.life
      (finish_entry p ∷ next_entries y r (first_of cr.waiting) (first_of r.waiting))
      (with_server i side
      (record w { circuits = map (next_numbers i y.core name cr.waiting) w.circuits })) in
      new ≡ server_after i side (ends_by i core) core (replied_at p sent mid)

-- A finish: of a record that is busy; refused, nothing changes.
abbrev pub HappensFinish : World → (i : ℕ) → ServerSide → (name : List ℕ) → World → Type 0
HappensFinish w i y name new =
    Finished w i y name new ⊎ ((e : Refusal) × Finishes y.core name [] (Err e) y.core × (new ≡ w))

-- ---- records come and go

-- the place of the CREATE_CHAN of the open channel of this SID
abbrev pub created_at : (sid : ℕ) → List Creation → ℕ
created_at sid creations =
    unwrap_or
    (option_map (λ (c : Creation). c.place) (find (λ (c : Creation). c.sid == sid) creations)) 0

-- the SERVER_DISCONN of a channel went down, about its CREATE_CHAN
abbrev pub removal_told : List Creation → Handle × OpenChannel → Told
removal_told creations c =
    record {
      message = disconnect c.1.cid;
      place = created_at (wire_of c.0) creations;
      cause = Removal;
    }

-- of the channels of a record at an end those whose SERVER_DISCONN went down: all, or the beginning
-- that an end left which ended
abbrev pub disconnected_at : List ℕ → (gone : Handle → Bool) → (left : Handle → ℕ) → Handle
    → Option ServerCircuit → List (Handle × OpenChannel)
disconnected_at name gone left h (Some (Open e)) =
    if gone h then take (left h) (channels_of name e) else channels_of name e
disconnected_at name gone left h c = []

-- a circuit of server i after the removal: its SERVER_DISCONNs went down, and the subscriptions
-- of the record are over
abbrev pub removed_at : (i : ℕ) → Server → List ℕ → (gone : Handle → Bool) → (left : Handle → ℕ)
    → Joined → Joined
removed_at i core name gone left j =
    let told : List (Handle × OpenChannel) =
    disconnected_at name gone left j.at_server (under core.circuits j.at_server) in
    let over : SubKey → Bool =
    λ (k : SubKey). list_any (λ (c : Handle × OpenChannel). wire_of c.0 == k.sid) told in
    if j.server == i && j.lists.server_open then without_standing over
    (record j {
      lists = record j.lists {
        down = j.lists.down ++ map
            (removal_told j.creations) told;
      };
    }) else j

-- the log has the removal of this record, and its waiting puts as withdrawn
abbrev pub removal_entries : List ℕ → List RecordSide → List Entry
removal_entries name records =
    flat_map (λ (r : RecordSide). entry.Removed r.number ∷ map
    (λ (p : PutPlace). entry.Withdrawn p.circuit p.place) r.waiting)
    (filter (λ (r : RecordSide). bytes_eq r.name name) records)

-- A record is removed; refused, nothing changes.
abbrev pub HappensRemove : World → (i : ℕ) → ServerSide → (name : List ℕ) → World → Type 0
HappensRemove w i y name new =
    (gone : Handle → Bool) × (left : Handle → ℕ) × (core : Server)
    × ((Removes y.core name gone left (Ok tt) core
    × (let side : ServerSide = record y {
      records = filter
          (λ (r : RecordSide). not (bytes_eq r.name name)) y.records;
    } in
    let mid : World =
    with_entries y.life (removal_entries name y.records)
    (with_server i side
    (record w { circuits = map (removed_at i y.core name gone left) w.circuits })) in
    new ≡ server_after i side (ends_by i core) core mid))
    ⊎ (Removes y.core name gone left (Err refusal.UnknownRecord) core × (new ≡ w)))

-- A record is added, with a number that no record of this life had; refused, nothing changes.
abbrev pub HappensAdd : World → (i : ℕ) → ServerSide → RecordState → World → Type 0
HappensAdd w i y r new =
    (core : Server) × (behind : ℕ)
    × ((AddsRecord y.core r behind (Ok tt) core
    × (let records : List RecordSide = take behind y.records
    ++ record_begun y.added r ∷ drop behind y.records in
    let side : ServerSide = record y { core = core; records = records; added = y.added + 1 } in
    new ≡ with_entries y.life (entry.Added y.added r ∷ []) (with_server i side w)))
    ⊎ ((e : Refusal) × (e ≢ refusal.OutOfMemory) × AddsRecord y.core r behind (Err e) core
    × (new ≡ w)))

-- ---- datagrams and restarts

-- A datagram comes to a server, which answers it and is as it was.
abbrev pub HappensServerDatagram : World → ServerSide → List ℕ → World → Type 0
HappensServerDatagram w y bytes new =
    (datagrams : List (List ℕ)) × AnswersDatagram y.core bytes (Ok datagrams) × (new ≡ w)

-- what a circuit's open end at a server leaves when that begins again, untold
abbrev pub ends_untold : (i : ℕ) → Server → Joined → Option (List ℕ)
ends_untold i core j =
    if j.server == i && j.lists.server_open then Some (output_of (under core.circuits j.at_server))
    else None

-- A server begins a new life, with its records as they were given.
abbrev pub HappensServerRestart : World → (i : ℕ) → ServerSide → World → Type 0
HappensServerRestart w i y new =
    new ≡ with_server i (server_begun w.moment (length w.server_logs) y.setting) (record w {
      circuits = map (ending (ends_untold i y.core)) w.circuits;
      server_logs = w.server_logs ++ log_begun y.setting ∷ [];
    })
