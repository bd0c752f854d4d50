-- Vocabulary: what the calls on a client's circuits answer and leave, and those for moments and
-- datagrams (sections "Virtual Circuit" and "CA Search"). Each definition by answer is the
-- contract of the call that its comment names: from old, with this answer, it sent these
-- messages and left new.
use Rattle.std.specs.Prelude.{ℕ, ◌≡◌, ◌≢◌, ◌<◌, ◌≤◌, ◌^◌, ◌==◌, ◌&&◌, ◌++◌, ◌⊎◌, Bool, true, false}
use Rattle.std.specs.Prelude.{not, List, [], ◌∷◌, Option, Some, None, Result, Ok, Err, filter}
use Rattle.std.specs.Prelude.{filter_map, flat_map, fold, if◌then◌else◌, is_none, is_some, length}
use Rattle.std.specs.Prelude.{map, nat_le, option_and_then, option_map, option_to_list, unwrap_or}
use Rattle.std.specs.FinMap as finite
use Rattle.ca_text.specs.declared.command.Command.{Command}
use Rattle.ca_text.specs.declared.command.Command.TheVariants as command
use Rattle.ca_text.specs.declared.refusal.Refusal.{Refusal}
use Rattle.ca_text.specs.declared.refusal.Refusal.TheVariants as refusal
use Rattle.ca_text.specs.Limits.{arena_slots, datagram_limit}
use Rattle.ca_arena.specs.declared.handle.Handle.{Handle}
use Rattle.ca_ids.specs.Table.{Table, held, under, with_all, with_changed}
use Rattle.ca_beacon.specs.Table.{anomaly, noted, server}
use Rattle.ca_dgram.specs.Datagram.{IsDatagram}
use Rattle.ca_dgram.specs.Search as dgram
use Rattle.ca_link.specs.declared.keep.Keep.{Keep}
use Rattle.ca_link.specs.declared.keep.Keep.TheVariants.{Close, Echo, Idle}
use Rattle.ca_link.specs.Link.{TakesFirst, kept, new_link, with_given, with_handed, with_rest}
use Rattle.ca_search.specs.Searcher as searcher
use Rattle.ca_search.specs.Searches as search
use Rattle.ca_wire.specs.Fields.{Fields}
use Rattle.ca_wire.specs.Messages.{header_only, name_request, search_request, version_request}
use Rattle.ca_wire.specs.Stream.{BadAt, NoneBegins, NotBad}
use Rattle.ca_monitor.specs.ReadRun.{after_read, no_reads, sent_by_read}
use Rattle.ca_model.specs.Ends.{Address, Cut, NamesFit, Peer, Why, same_address}
use Rattle.ca_model.specs.Ends as why
use Rattle.ca_model.specs.Speech.{Is}
use Rattle.ca_model.specs.Answers.{Closed, Closing, Datagram, Left, NeedBytes, Notice, Notices}
use Rattle.ca_model.specs.Answers.{OfCircuit, Sending, Stepped, Ticked}
use Rattle.ca_model.specs.Client.{Channel, Client, ClientCircuit, Connection, On, Phase, closing}
use Rattle.ca_model.specs.Client.{connection_at, ended, is_on_in, later, new_circuit, on_connection}
use Rattle.ca_model.specs.Client.{out_bytes, sending}
use Rattle.ca_model.specs.Client as phase
use Rattle.ca_model.specs.ClientCalls.{Does, IsUnchanged, is_over}
use Rattle.ca_model.specs.Hears.{Effect, Finds, Hears, becomes, create_sent}

-- ---- new

-- what a client begins with: how it names itself, the servers to which searches go in datagrams,
-- the name servers, and the moment
pub record ClientSetting : Type 0 where
  pub peer : Peer
  pub servers : List Address
  pub names : List Address
  pub now : ℕ

-- the addresses, each once
abbrev pub distinct : List Address → List Address
distinct [] = []
distinct (a ∷ addresses) = a ∷ filter (λ (b : Address). not (same_address b a)) (distinct addresses)

-- the circuits of name servers: each is wanted under the priority 0
abbrev pub name_circuits : List Address → Table ClientCircuit
name_circuits names =
    map (λ (a : Address). record { generation = 1; value = Some (new_circuit a 0 true) })
    (distinct names)

-- a client that did nothing yet
abbrev pub new_client : ClientSetting → Client
new_client a = record {
  peer = a.peer;
  servers = a.servers;
  moment = a.now;
  channels = [];
  requests = [];
  subscriptions = [];
  circuits = name_circuits a.names;
  order = map (λ (e : Handle × ClientCircuit). e.0) (held (name_circuits a.names));
  issued = [];
  searches = [];
  beacons = finite.empty;
}

-- `new`: with this answer. There may be as many name servers as circuits. Memory is asked for
-- their circuits alone.
abbrev pub ClientBegins : ClientSetting → Result Client Refusal → Type 0
ClientBegins a (Ok x) =
    NamesFit a.peer × (length (distinct a.names) ≤ arena_slots) × (x ≡ new_client a)
ClientBegins a (Err refusal.NameLength) = NamesFit a.peer → ⊥
ClientBegins a (Err refusal.ArenaFull) = NamesFit a.peer × (arena_slots < length (distinct a.names))
ClientBegins a (Err refusal.OutOfMemory) =
    NamesFit a.peer × (a.names ≢ []) × (length (distinct a.names) ≤ arena_slots)
ClientBegins a (Err _) = ⊥

-- ---- connected

-- a message of the circuit as a whole
abbrev pub of_circuit : Handle → Fields → Sending
of_circuit c m = record { circuit = c; message = m; aim = OfCircuit }

-- the set-up of a circuit: VERSION, CLIENT_NAME and HOST_NAME
abbrev pub set_up : Peer → Handle → ClientCircuit → List Sending
set_up p c d =
    map
    (of_circuit c)
    (version_request d.priority ∷ name_request command.ClientName p.user
    ∷ name_request command.HostName p.host ∷ [])

-- a channel that waits for its circuit to be connected
abbrev pub is_connecting : Phase → Bool
is_connecting phase.Connecting = true
is_connecting p = false

-- the CREATE_CHAN of each channel that waits for this circuit, in order of index
abbrev pub creations : Handle → Client → List Sending
creations c x =
    filter_map
    (λ (e : Handle × Channel). if is_on_in is_connecting c e.1 then Some (create_sent c e.0 e.1)
    else None) (held x.channels)

-- the channel is being created, if it waited for this circuit
abbrev pub creating : Handle → Channel → Channel
creating c here =
    if is_on_in is_connecting c here then record here { standing = On c (phase.Creating 0) }
    else here

-- the client's end of a circuit that was connected at this moment
abbrev pub new_connection : ℕ → Connection
new_connection now = record { link = new_link now; run = no_reads }

-- the client whose circuit is connected
abbrev pub begun : Handle → Client → Client
begun c x = record x {
  channels = with_all (creating c) x.channels;
  circuits =
      with_changed
      (λ (d : ClientCircuit). record d {
        connection = Some
            (new_connection x.moment);
      }) c x.circuits;
}

-- The end of this circuit ended for this cause.
abbrev pub EndsFor : Why → Client → Handle → Closing → List Sending → Client → Type 0
EndsFor cause old c k sent new = (k ≡ closing cause c old) × (sent ≡ []) × (new ≡ ended c old)

-- the answer about a circuit that is not there: it is cut, with no notices and no bytes left
abbrev pub gone : Closing
gone = record { why = Cut; notices = []; left = [] }

-- a circuit that is wanted was connected; one that is not wanted, or is connected, is not there
abbrev pub ConnectsOn : Client → Handle → Option ClientCircuit → Option Closing → List Sending
    → Client → Type 0
ConnectsOn old c None None sent new = ⊥
ConnectsOn old c None (Some k) sent new = (k ≡ gone) × IsUnchanged old sent new
ConnectsOn old c (Some d) None sent new =
    Does (set_up old.peer c d ++ creations c old) (begun c old) sent new
ConnectsOn old c (Some d) (Some k) sent new = EndsFor why.OutOfMemory old c k sent new

-- the circuit of this handle, if it is wanted and not connected
abbrev pub unconnected : Client → Handle → Option ClientCircuit
unconnected x c =
    option_and_then (λ (d : ClientCircuit). if is_none d.connection then Some d else None)
    (under x.circuits c)

-- `connected`. The set-up takes memory. If there is none the end has ended at once,
-- and no bytes are left.
abbrev pub ClientConnects : Client → Handle → Option Closing → List Sending → Client → Type 0
ClientConnects old c answer sent new = ConnectsOn old c (unconnected old c) answer sent new

-- ---- give, out_bytes, sent

-- what a read makes the client send: EVENTS_OFF or EVENTS_ON, or nothing
abbrev pub flow_sent : Handle → Bool → Connection → List Sending
flow_sent c more e =
    map (λ (k : Command). of_circuit c (header_only k)) (option_to_list (sent_by_read more e.run))

-- the client to which these bytes came, while more wait or none
abbrev pub given : Handle → List ℕ → Bool → Client → Client
given c bytes more x =
    on_connection
    (λ (e : Connection). record {
      link = with_given x.moment bytes e.link;
      run = after_read more e.run;
    }) c x

-- a read on a circuit that is connected; on another it is refused
abbrev pub GivesOn : Client → Handle → List ℕ → Bool → Option Connection → Result (Unit {0}) Refusal
    → List Sending → Client → Type 0
GivesOn old c bytes more None (Err refusal.CircuitClosed) sent new = IsUnchanged old sent new
GivesOn old c bytes more (Some e) (Ok _) sent new =
    Does (flow_sent c more e) (given c bytes more old) sent new
GivesOn old c bytes more (Some e) (Err refusal.OutOfMemory) sent new =
    ((bytes ≢ []) ⊎ (flow_sent c more e ≢ [])) × IsUnchanged old sent new
GivesOn old c bytes more there _ sent new = ⊥

-- `give`: a read of these bytes, which left more waiting or not. Bytes take memory,
-- and so does a message.
abbrev pub ClientGives : Client → Handle → List ℕ → (more : Bool) → Result (Unit {0}) Refusal
    → List Sending → Client → Type 0
ClientGives old c bytes more answer sent new =
    GivesOn old c bytes more (connection_at old c) answer sent new

-- `sent`: the first n of the bytes that waited (`out_bytes`) were handed over; on a circuit that is
-- not connected none wait
abbrev pub handed_over : Handle → ℕ → Client → Client
handed_over c n x =
    if is_some (connection_at x c) then on_connection
    (λ (e : Connection). record e { link = with_handed n e.link }) c x else x

-- ---- step

-- the client without the message that it takes: these bytes are left to be read
abbrev pub after_taking : Handle → List ℕ → Client → Client
after_taking c rest x =
    on_connection (λ (e : Connection). record e { link = with_rest rest e.link }) c x

-- The first message of the circuit is taken, and has this effect.
pub record Takes (old : Client) (c : Handle) (d : Connection) (e : Effect) : Type 0 where
  pub m : Fields
  pub rest : List ℕ
  pub first : TakesFirst d.link m rest
  pub hears : Hears (after_taking c rest old) c m e

-- It takes memory if it has a payload, sends or reports something, or makes a circuit wanted.
abbrev pub TakesMemory : Client → Fields → Effect → Type 0
TakesMemory old m e =
    (m.payload ≢ []) ⊎ ((e.sent ≢ []) ⊎ ((e.notices ≢ []) ⊎ (e.core.order ≢ old.order)))

-- Why a step may end a circuit: a bad header, or no memory for the first message.
abbrev pub MayEnd : Client → Handle → Connection → Why → Type 0
MayEnd old c d why.Misaligned = BadAt d.link.input.bytes refusal.Misaligned
MayEnd old c d why.TooLarge = BadAt d.link.input.bytes refusal.TooLarge
MayEnd old c d why.OutOfMemory = (e : Effect) × (t : Takes old c d e) × TakesMemory old t.m e
MayEnd old c d cause = ⊥

-- a step on a circuit that is connected; one that is not is not there
abbrev pub StepsOn : Client → Handle → Option Connection → Stepped → List Sending → Client → Type 0
StepsOn old c None (Closed k) sent new = (k ≡ gone) × IsUnchanged old sent new
StepsOn old c (Some d) (Notices told) sent new =
    Takes old c d (record { core = new; sent = sent; notices = told })
StepsOn old c (Some d) NeedBytes sent new =
    NoneBegins d.link.input.bytes × NotBad d.link.input.bytes × IsUnchanged old sent new
StepsOn old c (Some d) (Closed k) sent new = MayEnd old c d k.why × EndsFor k.why old c k sent new
StepsOn old c None answer sent new = ⊥

-- `step`. If it ends the circuit, the bytes that waited before it are left.
abbrev pub ClientSteps : Client → Handle → Stepped → List Sending → Client → Type 0
ClientSteps old c answer sent new = StepsOn old c (connection_at old c) answer sent new

-- ---- cut, close

-- `cut`. It does not allocate.
abbrev pub ClientCuts : Client → Handle → Closing → List Sending → Client → Type 0
ClientCuts old c k sent new = EndsFor why.Cut old c k sent new

-- `close`. It does not allocate.
abbrev pub ClientCloses : Client → Handle → Closing → List Sending → Client → Type 0
ClientCloses old c k sent new = EndsFor why.Asked old c k sent new

-- ---- tick

-- how far a tick is: the client now, and what was sent, reported and ended so far
pub record Ticking : Type 0 where
  pub core : Client
  pub sent : List Sending
  pub notices : List Notice
  pub closings : List Left

-- one more message is sent
abbrev pub with_sending : Sending → Ticking → Ticking
with_sending s t = record t { core = sending (s ∷ []) t.core; sent = t.sent ++ s ∷ [] }

-- an ECHO goes out, once in a silence ("CA_PROTO_ECHO")
abbrev pub echoes : Handle → Ticking → Ticking
echoes c t =
    let noted : Client =
    on_connection
    (λ (e : Connection). record e { link = record e.link { echoed = true } }) c t.core in
    with_sending (of_circuit c (header_only command.Echo)) (record t { core = noted })

-- the end of a circuit that was silent too long has ended
abbrev pub falls_silent : Handle → Ticking → Ticking
falls_silent c t =
    let k : Closing = closing why.Silence c t.core in
    record t {
      core = ended c t.core;
      notices = t.notices ++ k.notices;
      closings = t.closings ++ record { circuit = c; bytes = k.left } ∷ [];
    }

-- what the silence of a circuit asks for
abbrev pub ticks_as : Keep → Handle → Ticking → Ticking
ticks_as Idle c t = t
ticks_as Echo c t = echoes c t
ticks_as Close c t = falls_silent c t

-- a circuit at the client's moment; one that is not connected is not asked
abbrev pub ticks : Ticking → Handle → Ticking
ticks t c =
    unwrap_or
    (option_map (λ (e : Connection). ticks_as (kept t.core.moment e.link) c t)
    (connection_at t.core c)) t

-- The datagrams of these searches: each in the last one, unless that has no room for it. The
-- first is begun already.
abbrev pub packed : List ℕ → List search.Wanted → List (List ℕ)
packed [] [] = []
packed (b ∷ bytes) [] = (b ∷ bytes) ∷ []
packed bytes (w ∷ ws) =
    if nat_le (length (dgram.searched bytes w.cid w.name)) datagram_limit
    then packed (dgram.searched bytes w.cid w.name) ws
    else bytes ∷ packed (dgram.searched [] w.cid w.name) ws

-- these datagrams, to this server
abbrev pub to_server : List (List ℕ) → Address → List Datagram
to_server datagrams a = map (λ (bytes : List ℕ). record { to = a; bytes = bytes }) datagrams

-- a SEARCH on a name server's circuit, unless too much waits there
abbrev pub searches_on : Handle → Ticking → search.Wanted → Ticking
searches_on c t w =
    if is_over t.core c then t else with_sending (of_circuit c (search_request w.cid w.name)) t

-- these searches on a name server's circuit
abbrev pub all_searched_on : List search.Wanted → Ticking → Handle → Ticking
all_searched_on ws t c = fold (searches_on c) t ws

-- the circuit is a name server's, and connected
abbrev pub is_name_connected : Client → Handle → Bool
is_name_connected x c =
    unwrap_or
    (option_map (λ (d : ClientCircuit). d.is_name && is_some d.connection)
    (under x.circuits c)) false

-- the searches that are due at the client's moment, in the order in which their channels were added
abbrev pub due : Client → List search.Wanted
due x = search.wanted_at x.moment x.searches

-- the due searches go out on the circuits of name servers, and count as made
abbrev pub searches_made : Ticking → Ticking
searches_made t =
    let u : Ticking =
    fold (all_searched_on (due t.core)) t (filter (is_name_connected t.core) t.core.order) in
    record u {
      core = record u.core {
        searches = searcher.with_all
            (search.passed u.core.moment) u.core.searches;
      };
    }

-- the circuits at this moment, in order
abbrev pub circuits_ticked : ℕ → Client → Ticking
circuits_ticked now x =
    fold ticks
    (record {
      core = record x { moment = later now x };
      sent = [];
      notices = [];
      closings = [];
    }) x.order

-- what the tick answers: the due searches go in datagrams to each listed server too
abbrev pub ticked : Ticking → Ticked
ticked t = record {
  notices = t.notices;
  datagrams = flat_map (to_server (packed [] (due t.core))) t.core.servers;
  closings = t.closings;
}

-- `tick`: circuits first, and then searches. An ECHO, an end that has ended and
-- a search take memory.
abbrev pub ClientTicks : Client → ℕ → Result Ticked Refusal → List Sending → Client → Type 0
ClientTicks old now (Ok answer) sent new =
    let t : Ticking = circuits_ticked now old in
    (answer ≡ ticked t) × (sent ≡ (searches_made t).sent) × (new ≡ (searches_made t).core)
ClientTicks old now (Err refusal.OutOfMemory) sent new =
    let t : Ticking = circuits_ticked now old in
    ((t.sent ≢ []) ⊎ ((t.closings ≢ []) ⊎ (due t.core ≢ []))) × IsUnchanged old sent new
ClientTicks old now (Err _) sent new = ⊥

-- ---- datagram

-- the server of a beacon: at the address in it, or where the beacon came from
-- ("CA_PROTO_RSRV_IS_UP")
abbrev pub beacon_server : Address → Fields → ℕ
beacon_server from m = server (if m.p2 == 0 then from.host else m.p2) m.count

-- a beacon was heard: an anomaly makes all searches due at once
abbrev pub beacon_heard : Address → Fields → Client → Client
beacon_heard from m x = record x {
  beacons = noted x.beacons (beacon_server from m) m.p1;
  searches = if anomaly (finite.get x.beacons (beacon_server from m)) m.p1
      then searcher.with_all (search.boosted x.moment) x.searches
      else x.searches;
}

-- One message of a datagram from this address: a search reply, a beacon with a port, or
-- one that does nothing.
pub data Receives (from : Address) (x : Client) (m : Fields) (e : Effect) : Type 0 where
  Search : Is command.Search m → Finds x from m e → Receives from x m e
  Beacon : Is command.RsrvIsUp m → m.count < 2 ^ 16 → e ≡ becomes (beacon_heard from m x)
      → Receives from x m e
  Other : (Is command.Search m → ⊥) → (Is command.RsrvIsUp m → m.count < 2 ^ 16 → ⊥) → e ≡ becomes x
      → Receives from x m e

-- These messages were received one after another.
abbrev pub ReceivesAll : Address → Client → List Fields → Effect → Type 0
ReceivesAll from x [] e = e ≡ becomes x
ReceivesAll from x (m ∷ ms) e =
    (a b : Effect) × Receives from x m a × ReceivesAll from a.core ms b
    × (e ≡ record { core = b.core; sent = a.sent ++ b.sent; notices = a.notices ++ b.notices })

-- a datagram that came
pub record Arrival : Type 0 where
  pub now : ℕ
  pub from : Address
  pub bytes : List ℕ

-- `datagram`: its messages were received as far as it is good. Only a message takes memory.
abbrev pub ClientReceives : Client → Arrival → Result (Unit {0}) Refusal → List Sending → Client
    → Type 0
ClientReceives old a (Ok _) sent new =
    (ms : List Fields) × IsDatagram a.bytes ms
    × ReceivesAll a.from (record old { moment = later a.now old }) ms
    (record { core = new; sent = sent; notices = [] })
ClientReceives old a (Err refusal.OutOfMemory) sent new =
    (NoneBegins a.bytes → ⊥) × IsUnchanged old sent new
ClientReceives old a (Err _) sent new = ⊥
