-- Statement: what a client's calls and steps leave of a world: the core's answer, and how lists and
-- logs grow (sections "Overall Client Operation", "Virtual Circuit" and "Name Searching").
use Rattle.std.specs.Prelude.{ℕ, ◌≡◌, ◌≢◌, ◌<◌, ◌+◌, ◌==◌, ◌&&◌, ◌++◌, ◌⊎◌, Bool, true, false, List}
use Rattle.std.specs.Prelude.{[], ◌∷◌, Option, Some, None, Ok, Err, Result, drop, filter, find}
use Rattle.std.specs.Prelude.{if◌then◌else◌, length, map, nat_lt, option_and_then, option_map}
use Rattle.std.specs.Prelude.{replicate, slice_get, take, unwrap_or}
use Rattle.std.specs.List.{list_any}
use Rattle.ca_arena.specs.declared.handle.Handle.{Handle}
use Rattle.ca_dbr.specs.declared.value.Outcome.{Outcome}
use Rattle.ca_dbr.specs.declared.value.Outcome.TheVariants as outcome
use Rattle.ca_dbr.specs.Elements.{Elements}
use Rattle.ca_ids.specs.Table.{same_handle, under}
use Rattle.ca_queue.specs.Queue.{no_queue}
use Rattle.ca_text.specs.declared.refusal.Refusal.{Refusal}
use Rattle.ca_text.specs.declared.refusal.Refusal.TheVariants as refusal
use Rattle.ca_text.specs.Limits.{circuit_queues}
use Rattle.ca_text.specs.Place.{At}
use Rattle.ca_model.specs.Answers.{Aim, Closing, Left, Notice, Sending, Stepped, Ticked}
use Rattle.ca_model.specs.Answers as answer
use Rattle.ca_model.specs.Client.{Client, out_bytes}
use Rattle.ca_model.specs.ClientCalls.{ClientClears, ClientOpens, ClientPuts, ClientReads}
use Rattle.ca_model.specs.ClientCalls.{ClientSubscribes, ClientUnsubscribes, ClientWrites}
use Rattle.ca_model.specs.ClientCalls.{WantedCircuit, wanted}
use Rattle.ca_model.specs.ClientEnds.{ClientConnects, ClientCuts, ClientGives, ClientReceives}
use Rattle.ca_model.specs.ClientEnds.{ClientSteps, ClientTicks, handed_over}
use Rattle.ca_model.specs.Ends.{Address}
use Rattle.ca_model.specs.History.{Ask, Circuit, Intent, Line, On, OfCircuit, Sent, Step, Told}
use Rattle.ca_model.specs.History as history
use Rattle.ca_model.specs.Server.{Server}
use Rattle.ca_model.specs.ServerSteps.{Accepts, Gives, Sends, output_of}
use Rattle.ca_model.specs.World.{ClientSide, Joined, Names, ServerSide, World, addresses}
use Rattle.ca_model.specs.World.{client_begun, log_length, with_circuit, with_client, with_lines}
use Rattle.ca_model.specs.World.{with_server}

-- ---- what handles name

-- the place of the first that passes the test
abbrev pub place_of : {A : Type 0} → (A → Bool) → List A → ℕ
place_of test [] = 0
place_of test (x ∷ xs) = if test x then 0 else place_of test xs + 1

-- the number of a channel
abbrev pub channel_number : Names → Handle → ℕ
channel_number n h = place_of (same_handle h) n.channels

-- what was meant by the request or the subscription of this handle
abbrev pub meant_by : List (Handle × Intent) → Handle → Intent
meant_by named h =
    unwrap_or
    (option_map (λ (x : Handle × Intent). x.1)
    (find (λ (x : Handle × Intent). same_handle x.0 h) named)) OfCircuit

-- to cancel what was subscribed to
abbrev pub cancelled : Intent → Intent
cancelled (On channel (history.Subscribe number)) = On channel (history.Cancel number)
cancelled intent = intent

-- what is meant by a message with this aim
abbrev pub intent_of : Names → Aim → Intent
intent_of n answer.OfCircuit = OfCircuit
intent_of n (answer.Create h) = On (channel_number n h) history.Create
intent_of n (answer.Clear h) = On (channel_number n h) history.Clear
intent_of n (answer.Write h) = On (channel_number n h) (history.Request history.Write n.writes)
intent_of n (answer.Read h q) = meant_by n.requests q
intent_of n (answer.Put h q) = meant_by n.requests q
intent_of n (answer.Subscribe h s) = meant_by n.subscriptions s
intent_of n (answer.Cancel h s) = cancelled (meant_by n.subscriptions s)

-- the number of a plain write that was meant so
abbrev pub write_number : Intent → ℕ
write_number (On channel (history.Request history.Write number)) = number
write_number intent = 0

-- The line for a notice. The message that the client read was about one that was meant so: of a
-- plain write that says which it was, since the client names its channel alone.
abbrev pub line_of : (about : Intent) → Names → Notice → Line
line_of about n (answer.Live h) =
    history.Noticed (On (channel_number n h) history.Create) outcome.Done
line_of about n (answer.Lost h) =
    history.Noticed (On (channel_number n h) history.Create) outcome.Disconnected
line_of about n (answer.Completed q o) = history.Noticed (meant_by n.requests q) o
line_of about n (answer.Update s o) = history.Updated (meant_by n.subscriptions s) o
line_of about n (answer.SubscriptionEnded s status) =
    history.Noticed (meant_by n.subscriptions s) (outcome.Failed status)
line_of about n (answer.WriteRefused h status) =
    history.Noticed (On (channel_number n h) (history.Request history.Write (write_number about)))
    (outcome.Failed status)

-- the lines for notices
abbrev pub lines_of : (about : Intent) → Names → List Notice → List Line
lines_of about n notices = map (line_of about n) notices

-- ---- what a call leaves

-- of these messages of client i those that go on a circuit
abbrev pub sent_on : (i : ℕ) → Names → List Sending → Joined → List Sent
sent_on i n sent j =
    if j.client == i && j.lists.client_open then map
    (λ (s : Sending). record { message = s.message; intent = intent_of n s.aim })
    (filter (λ (s : Sending). same_handle s.circuit j.at_client) sent) else []

-- each message goes up its circuit
abbrev pub with_sent : (i : ℕ) → Names → List Sending → World → World
with_sent i n sent w =
    record w {
      circuits = map
          (λ (j : Joined). record j {
            lists = record j.lists {
              up = j.lists.up
                  ++ sent_on i n sent j;
            };
          }) w.circuits;
    }

-- what a call of client i leaves: its core, what handles name now, these lines, and these
-- messages on its circuits
pub record Outcomes : Type 0 where
  pub core : Client
  pub names : Names
  pub lines : List Line
  pub sent : List Sending

-- The client after a call. What its messages are for is told by these names.
abbrev pub client_after : (i : ℕ) → ClientSide → (spoken : Names) → Outcomes → World → World
client_after i x spoken o w =
    with_client i (record x { core = o.core; names = o.names })
    (with_lines x.life o.lines (with_sent i spoken o.sent w))

-- a call was refused
abbrev pub refused : (i : ℕ) → ClientSide → Refusal → World → World
refused i x e w = with_lines x.life (history.Refused e ∷ []) w

-- A call that gives a handle: refused by another refusal than OutOfMemory, which changes nothing
-- but the log; or done.
abbrev pub Called : {A : Type 0} → (i : ℕ) → ClientSide
    → (Result A Refusal → List Sending → Client → Type 0)
    → (A → List Sending → Client → World → World) → World → World → Type 0
Called {A} i x Does after w new =
    ((e : Refusal) × (e ≢ refusal.OutOfMemory) × Does (Err e) [] x.core × (new ≡ refused i x e w))
    ⊎ ((a : A) × (sent : List Sending) × (core : Client) × Does (Ok a) sent core
    × (new ≡ after a sent core w))

-- ---- calls

-- A channel is opened.
abbrev pub HappensOpen : World → (i : ℕ) → ClientSide → (name : List ℕ) → (priority : ℕ) → World
    → Type 0
HappensOpen w i x name priority new =
    Called i x (ClientOpens x.core (record { name = name; priority = priority; now = w.moment }))
    (λ (h : Handle) (sent : List Sending) (core : Client).
    let names : Names = record x.names { channels = x.names.channels ++ h ∷ [] } in
    client_after i x names
    (record {
      core = core;
      names = names;
      lines = history.Opened (length x.names.channels) name ∷ [];
      sent = sent;
    })) w new

-- the names with one request more, of this kind on this channel
abbrev pub with_request : Handle → (channel : ℕ) → history.Kind → Names → Names
with_request q channel kind n =
    record n {
      requests = n.requests ++
          (q, On channel (history.Request kind (length n.requests))) ∷ [];
    }

-- A read is issued on channel c, whose handle is h.
abbrev pub HappensRead : World → (i : ℕ) → ClientSide → (c : ℕ) → (h : Handle)
    → (data_type count : ℕ) → World → Type 0
HappensRead w i x c h data_type count new =
    Called i x (ClientReads x.core h (record { data_type = data_type; count = count }))
    (λ (q : Handle) (sent : List Sending) (core : Client).
    let names : Names = with_request q c history.Read x.names in
    client_after i x names
    (record {
      core = core;
      names = names;
      lines = history.Called
          (On c (history.Request history.Read (length x.names.requests)))
          (history.ToRead data_type count) ∷ [];
      sent = sent;
    })) w new

-- A put with notification is issued.
abbrev pub HappensWriteNotify : World → (i : ℕ) → ClientSide → (c : ℕ) → (h : Handle) → Elements
    → World → Type 0
HappensWriteNotify w i x c h e new =
    Called i x (ClientPuts x.core h e) (λ (q : Handle) (sent : List Sending) (core : Client).
    let names : Names = with_request q c history.Put x.names in
    client_after i x names
    (record {
      core = core;
      names = names;
      lines = history.Called (On c (history.Request history.Put (length x.names.requests)))
          (history.ToWrite e) ∷ [];
      sent = sent;
    })) w new

-- A plain write is issued.
abbrev pub HappensWrite : World → (i : ℕ) → ClientSide → (c : ℕ) → (h : Handle) → Elements → World
    → Type 0
HappensWrite w i x c h e new =
    Called i x (ClientWrites x.core h e) (λ (u : Unit {0}) (sent : List Sending) (core : Client).
    let names : Names = record x.names { writes = x.names.writes + 1 } in
    client_after i x x.names
    (record {
      core = core;
      names = names;
      lines = history.Called
          (On c (history.Request history.Write x.names.writes)) (history.ToWrite e) ∷ [];
      sent = sent;
    })) w new

-- A subscription is issued.
abbrev pub HappensSubscribe : World → (i : ℕ) → ClientSide → (c : ℕ) → (h : Handle)
    → (data_type count mask : ℕ) → World → Type 0
HappensSubscribe w i x c h data_type count mask new =
    Called i x (ClientSubscribes x.core h (record { data_type = data_type; count = count }) mask)
    (λ (s : Handle) (sent : List Sending) (core : Client).
    let meant : Intent = On c (history.Subscribe (length x.names.subscriptions)) in
    let names : Names =
    record x.names { subscriptions = x.names.subscriptions ++ (s, meant) ∷ [] } in
    client_after i x names
    (record {
      core = core;
      names = names;
      lines = history.Called meant (history.ToWatch data_type count mask) ∷ [];
      sent = sent;
    })) w new

-- A subscription, of this handle and meant so, is ended.
abbrev pub HappensUnsubscribe : World → (i : ℕ) → ClientSide → (s : Handle × Intent) → World
    → Type 0
HappensUnsubscribe w i x s new =
    Called i x (ClientUnsubscribes x.core s.0)
    (λ (u : Unit {0}) (sent : List Sending) (core : Client).
    client_after i x x.names
    (record {
      core = core;
      names = x.names;
      lines = history.Called (cancelled s.1) history.Nothing ∷ [];
      sent = sent;
    })) w new

-- A channel is cleared: the call comes first in the log, and then what it tells.
abbrev pub HappensClear : World → (i : ℕ) → ClientSide → (c : ℕ) → (h : Handle) → World → Type 0
HappensClear w i x c h new =
    Called i x (ClientClears x.core h)
    (λ (notices : List Notice) (sent : List Sending) (core : Client).
    client_after i x x.names
    (record {
      core = core;
      names = x.names;
      lines = history.Called (On c history.Clear) history.Nothing
          ∷ lines_of OfCircuit x.names notices;
      sent = sent;
    })) w new

-- ---- what became of a request

-- the line hands out what became of this request, or gives it up
abbrev pub hands_out : (number : ℕ) → Line → Bool
hands_out number (history.Collected n (Some place)) = n == number
hands_out number (history.GaveUp n place) = n == number
hands_out number line = false

-- the line at this place says that the request completed, and its outcome was neither
-- handed out nor given up
abbrev pub IsThere : List Line → (number : ℕ) → (meant : Intent) → (place : ℕ) → Type 0
IsThere log number meant place =
    ((o : Outcome) × At log place (history.Noticed meant o))
    × (list_any (hands_out number) log ≡ false)

-- the line whose outcome may be handed out, if there is one
abbrev pub HandsOut : List Line → (number : ℕ) → (meant : Intent) → Option ℕ → Type 0
HandsOut log number meant (Some place) = IsThere log number meant place
HandsOut log number meant None = (place : ℕ) → IsThere log number meant place → ⊥

-- What became of a request is collected, or it is given up: the log has that, as this line.
abbrev pub HappensHandingOut : World → ClientSide → (number : ℕ) → (meant : Intent)
    → (Option ℕ → Line) → World → Type 0
HappensHandingOut w x number meant line new =
    (place : Option ℕ) × HandsOut (unwrap_or (slice_get w.client_logs x.life) []) number meant place
    × (new ≡ with_lines x.life (line place ∷ []) w)

-- ---- circuits are made

-- server i is at this address
abbrev pub IsAt : World → Address → (i : ℕ) → ServerSide → Type 0
IsAt w a i y = At w.servers i y × (y.setting.address ≡ a)

-- The client's first wanted circuit whose address has a server, and that server.
pub record WantsFirst (w : World) (x : ClientSide) : Type 0 where
  pub place : ℕ
  pub v : WantedCircuit
  pub at : At (wanted x.core) place v
  pub i : ℕ
  pub y : ServerSide
  pub there : IsAt w v.address i y
  pub first : (l : ℕ) (u : WantedCircuit) (k : ℕ) (z : ServerSide) → l < place
      → At (wanted x.core) l u → IsAt w u.address k z → ⊥

-- a circuit on which nothing was sent
abbrev pub new_circuit : (c : ℕ) → ClientSide → (at_client : Handle) → (i : ℕ) → ServerSide
    → (at_server : Handle) → Joined
new_circuit c x at_client i y at_server = record {
  client = c;
  server = i;
  at_client = at_client;
  at_server = at_server;
  lists = record {
    client = x.life;
    server = y.life;
    up = [];
    down = [];
    handled = [];
    heard = [];
    queued = [];
    client_open = true;
    server_open = true;
  };
  left_up = [];
  left_down = [];
  creations = [];
  standing = [];
  queues = replicate circuit_queues no_queue;
}

-- the client's end has ended, and left these bytes
abbrev pub client_closed : List ℕ → Joined → Joined
client_closed left j = record j { lists = record j.lists { client_open = false }; left_up = left }

-- What the client makes of a new circuit: its set-up and creations go up; or its end has ended at
-- once, out of memory.
abbrev pub connected_as : Option Closing → Joined → Joined
connected_as None j = j
connected_as (Some k) j = client_closed k.left j

-- what a closing reports
abbrev pub closing_notices : Option Closing → List Notice
closing_notices None = []
closing_notices (Some k) = k.notices

-- The circuit that the client wants first is made. A server without room refuses it,
-- and reports nothing.
pub record HappensAccept (w : World) (c : ℕ) (x : ClientSide) (v : WantsFirst w x)
    (new : World) : Type 0 where
  pub answer : Result Handle Refusal
  pub server : Server
  pub accepts : Accepts v.y.core answer server
  pub leaves :
      ((answer ≡ Err refusal.ArenaFull) × (new ≡ w))
      ⊎ ((h : Handle) × (k : Option Closing) × (sent : List Sending) × (core : Client)
      × (answer ≡ Ok h) × ClientConnects x.core v.v.circuit k sent core
      × (let made : World = record
      (with_server v.i (record v.y { core = server }) w) {
        circuits = w.circuits ++ connected_as k
            (new_circuit c x v.v.circuit v.i v.y h) ∷ [];
      } in
      new ≡ client_after c x x.names
      (record {
        core = core;
        names = x.names;
        lines = lines_of OfCircuit x.names (closing_notices k);
        sent = sent;
      }) made))

-- ---- bytes move

-- the bytes that may still reach the server, and the client
abbrev pub waiting_up : ClientSide → Joined → List ℕ
waiting_up x j = if j.lists.client_open then out_bytes x.core j.at_client else j.left_up

abbrev pub waiting_down : ServerSide → Joined → List ℕ
waiting_down y j =
    if j.lists.server_open then output_of (under y.core.circuits j.at_server) else j.left_down

-- The first n bytes that wait leave the client's end, or what it left.
abbrev pub up_taken : (k n : ℕ) → Joined → ClientSide → World → World
up_taken k n j x w =
    if j.lists.client_open then with_client j.client
    (record x { core = handed_over j.at_client n x.core }) w else with_circuit k
    (record j { left_up = drop n j.left_up }) w

-- n bytes reach the server's end, which is open.
abbrev pub HappensUp : World → (k n : ℕ) → Joined → ClientSide → ServerSide → World → Type 0
HappensUp w k n j x y new =
    (core : Server) × Gives y.core j.at_server (take n (waiting_up x j)) (Ok tt) core
    × (new ≡ with_server j.server (record y { core = core }) (up_taken k n j x w))

-- The first n bytes that wait leave the server's end, or what it left.
abbrev pub DownTaken : World → (k n : ℕ) → Joined → ServerSide → World → Type 0
DownTaken w k n j y new =
    ((j.lists.server_open ≡ true)
    × ((core : Server) × Sends y.core j.at_server n core
    × (new ≡ with_server j.server (record y { core = core }) w)))
    ⊎ ((j.lists.server_open ≡ false)
    × (new ≡ with_circuit k (record j { left_down = drop n j.left_down }) w))

-- n bytes reach the client's end, which is open, and is told whether more wait: it may ask for a
-- pause of updates, or for their return.
abbrev pub HappensDown : World → (k n : ℕ) → Joined → ClientSide → ServerSide → World → Type 0
HappensDown w k n j x y new =
    (mid : World) × (sent : List Sending) × (core : Client) × DownTaken w k n j y mid
    × ClientGives x.core j.at_client (take n (waiting_down y j))
    (nat_lt n (length (waiting_down y j))) (Ok tt) sent core
    × (new ≡ client_after j.client x x.names
    (record { core = core; names = x.names; lines = []; sent = sent }) mid)

-- ---- the client's end steps, or ends

-- what the server's message at place i is about
abbrev pub about_at : Circuit → (i : ℕ) → Intent
about_at c i =
    unwrap_or
    (option_map (λ (s : Sent). s.intent)
    (option_and_then (λ (t : Told). slice_get c.up t.place) (slice_get c.down i))) OfCircuit

-- the circuit whose next message was read in this step
abbrev pub heard_in : Step → Joined → Joined
heard_in step j = record j { lists = record j.lists { heard = j.lists.heard ++ step ∷ [] } }

-- The client's end of circuit k has ended, and told this.
abbrev pub client_ended : (k : ℕ) → Joined → ClientSide → Closing → Client → World → World
client_ended k j x c core w =
    client_after j.client x x.names
    (record {
      core = core;
      names = x.names;
      lines = lines_of OfCircuit x.names c.notices;
      sent = [];
    }) (with_circuit k (client_closed c.left j) w)

-- what a step of the client's end leaves, by its answer
abbrev pub client_stepped : (k : ℕ) → Joined → ClientSide → Stepped → List Sending → Client → World
    → World
client_stepped k j x answer.NeedBytes sent core w = w
client_stepped k j x (answer.Closed c) sent core w = client_ended k j x c core w
client_stepped k j x (answer.Notices notices) sent core w =
    let lines : List Line = lines_of (about_at j.lists (length j.lists.heard)) x.names notices in
    let logged : ℕ = log_length x.life w.client_logs in
    let step : Step =
    record { sent = length j.lists.up; logged = logged; after = logged + length lines } in
    client_after j.client x x.names
    (record { core = core; names = x.names; lines = lines; sent = sent })
    (with_circuit k (heard_in step j) w)

-- A step of the client's end of a circuit.
abbrev pub HappensClientStep : World → (k : ℕ) → Joined → ClientSide → World → Type 0
HappensClientStep w k j x new =
    (did : Stepped) × (sent : List Sending) × (core : Client)
    × ClientSteps x.core j.at_client did sent core × (new ≡ client_stepped k j x did sent core w)

-- The client's end of a circuit is cut.
abbrev pub HappensCutClient : World → (k : ℕ) → Joined → ClientSide → World → Type 0
HappensCutClient w k j x new =
    (c : Closing) × (sent : List Sending) × (core : Client)
    × ClientCuts x.core j.at_client c sent core × (new ≡ client_ended k j x c core w)

-- ---- datagrams, restarts, moments

-- A datagram comes to a client.
abbrev pub HappensClientDatagram : World → (i : ℕ) → ClientSide → (from : Address) → List ℕ → World
    → Type 0
HappensClientDatagram w i x from bytes new =
    (sent : List Sending) × (core : Client)
    × ClientReceives x.core (record { now = w.moment; from = from; bytes = bytes })
    (Ok tt) sent core
    × (new ≡ client_after i x x.names
    (record { core = core; names = x.names; lines = []; sent = sent }) w)

-- a circuit of client i whose open end ends untold, since the client begins again
abbrev pub client_gone : (i : ℕ) → ClientSide → Joined → Joined
client_gone i x j =
    if j.client == i && j.lists.client_open then client_closed (out_bytes x.core j.at_client) j
    else j

-- A client begins a new life, with nothing but what it was given.
abbrev pub HappensClientRestart : World → (i : ℕ) → ClientSide → World → Type 0
HappensClientRestart w i x new =
    let servers : List Address = addresses (map (λ (y : ServerSide). y.setting) w.servers) in
    new ≡ with_client i (client_begun servers w.moment (length w.client_logs) x.setting) (record w {
      circuits = map (client_gone i x) w.circuits;
      client_logs = w.client_logs ++ [] ∷ [];
    })

-- what a circuit's end at the client left that fell silent, if it did
abbrev pub left_silent : List Left → Joined → Option (List ℕ)
left_silent closings j =
    option_map (λ (l : Left). l.bytes)
    (find (λ (l : Left). same_handle l.circuit j.at_client) closings)

-- a circuit of client i after a tick: its end may have ended
abbrev pub after_tick : (i : ℕ) → List Left → Joined → Joined
after_tick i closings j =
    if j.client == i && j.lists.client_open then unwrap_or
    (option_map (λ (left : List ℕ). client_closed left j) (left_silent closings j)) j else j

-- The moment is handed to client i.
abbrev pub TicksOne : (moment : ℕ) → World → (i : ℕ) → World → Type 0
TicksOne moment w i new =
    (x : ClientSide) × At w.clients i x × (t : Ticked) × (sent : List Sending) × (core : Client)
    × ClientTicks x.core moment (Ok t) sent core
    × (new ≡ (let o : Outcomes = record {
      core = core;
      names = x.names;
      lines = lines_of OfCircuit x.names t.notices;
      sent = sent;
    } in
    let after : World = client_after i x x.names o w in
    record after { circuits = map (after_tick i t.closings) after.circuits }))
