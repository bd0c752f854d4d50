-- A circuit is connected: what waits on it then, and its channels.
use Rattle.std.proofs.Common.{◌≡◌, ◌∙◌, ℕ, zero, suc, Bool, true, false, inl, inr, List, [], ◌∷◌, ◌++◌, Option, Some, None, Result, Ok, Err, ap, filter, if◌then◌else◌, map, nat_eq, option_map, refl, subst, sym}
use Rattle.std.specs.Prelude.{IsErr, filter_map, is_none, option_and_then}
use Rattle.std.specs.declared.alloc.AllocError.{AllocError}
use Rattle.ca_text.proofs.Places.{some_is}
use Rattle.std.proofs.lemmas.List.Sums.{fold-append}
use Rattle.ca_arena.specs.declared.handle.Handle.{Handle}
use Rattle.ca_arena.specs.Arena.{Place, place_at, value_for}
use Rattle.ca_ids.specs.Table.{Table, held, under, with_all, with_changed}
use Rattle.ca_link.specs.Link.{LinkState, new_link, with_sent}
use Rattle.ca_monitor.specs.ReadRun.{no_reads}
use Rattle.ca_search.specs.Searches as search
use Rattle.ca_wire.specs.Fields.{Fields}
use Rattle.ca_model.specs.Answers.{OfCircuit, Sending}
use Rattle.ca_model.specs.Answers as aim
use Rattle.ca_model.specs.Client.{Channel, Client, ClientCircuit, Connection, is_on_in, sending, with_one_sent}
use Rattle.ca_model.specs.ClientEnds.{ConnectsOn, begun, creating, creations, is_connecting, new_connection, set_up, unconnected}
use Rattle.ca_model.specs.Hears.{create_sent}
use Rattle.ca_client_tables.specs.Ends.{with_messages}
use Rattle.ca_client_core.specs.Connecting.{BeginsOn}
use Rattle.ca_client_tables.specs.Connecting.{creation, creations_in, greeting}
use Rattle.ca_client_tables.specs.Sound.{HasCid, IsClient}
use Rattle.ca_client_tables.proofs.Circuits.{changed-twice}
use Rattle.ca_client_tables.proofs.Ended.{Searched}
use Rattle.ca_client_tables.proofs.Queued.{messages-twice, queue, sending-all, sent-twice}
use Rattle.ca_requests.proofs.Tables.{true_or_false}

-- what is sent for these channels
creations-are : (c : Handle) (es : List (Handle × Channel)) → filter_map (λ (e : Handle × Channel). if is_on_in is_connecting c e.1 then Some (create_sent c e.0 e.1) else None) es ≡ map (λ (e : Handle × Channel). create_sent c e.0 e.1) (filter (λ (e : Handle × Channel). is_on_in is_connecting c e.1) es)
creations-are c [] = refl
creations-are c (e ∷ es) =
    elim (true_or_false (is_on_in is_connecting c e.1)) [
      | inl waits ↦ rw (waits, creations-are c es) refl
      | inr other ↦ rw (other, creations-are c es) refl
    ]

-- ---- the whole client

pub begins : (x : Client) (c : Handle) (d : ClientCircuit) (connection : Connection) (t : Table Channel) (u : Table ClientCircuit) → under x.circuits c ≡ Some d → connection ≡ record { link = with_sent (creations_in c x.channels) (with_sent (greeting d.priority x.peer.user x.peer.host) (new_link x.moment)); run = no_reads } → t ≡ with_all (creating c) x.channels → u ≡ with_changed (λ (w : ClientCircuit). record w { connection = Some connection }) c x.circuits → ◌≡◌ {A = Client} (record x { channels = t; circuits = u }) (sending (set_up x.peer c d ++ creations c x) (begun c x))
begins x c d connection t u found link there connected =
    let first = greeting d.priority x.peer.user x.peer.host in
    let rest = creations_in c x.channels in
    let ms = first ++ rest in
    let whole : Connection = record { link = with_sent ms (new_link x.moment); run = no_reads } in
    let is : connection ≡ whole =
    link ∙ ap (λ (l : LinkState). let e : Connection = record { link = l; run = no_reads } in e) (sent-twice first rest (new_link x.moment)) in
    let begin = λ (w : ClientCircuit). record w { connection = Some (new_connection x.moment) } in
    let left : ◌≡◌ {A = Client} (record x { channels = t; circuits = u }) (with_messages c ms (begun c x)) =
    ap (λ (v : Table Channel). let y : Client = record x { channels = v; circuits = u } in y) there
    ∙ ap (λ (v : Table ClientCircuit). let y : Client = record x { channels = with_all (creating c) x.channels; circuits = v } in y)
    (connected
    ∙ ap (λ (e : Connection). with_changed (λ (w : ClientCircuit). record w { connection = Some e }) c x.circuits) is
    ∙ sym (changed-twice x.circuits begin (queue ms) c d found)) in
    let sends : creations c x ≡ map (λ (e : Handle × Channel). create_sent c e.0 e.1) (filter (λ (e : Handle × Channel). is_on_in is_connecting c e.1) (held x.channels)) =
    creations-are c (held x.channels) in
    let waiting = filter (λ (e : Handle × Channel). is_on_in is_connecting c e.1) (held x.channels) in
    let parts : sending (set_up x.peer c d ++ creations c x) (begun c x) ≡ with_messages c rest (with_messages c first (begun c x)) =
    fold-append with_one_sent (begun c x) (set_up x.peer c d) (creations c x)
    ∙ ap (λ (y : Client). sending (creations c x) y) (sending-all c (λ (m : Fields). m) (λ (m : Fields). OfCircuit) first (begun c x))
    ∙ ap (λ (ss : List Sending). sending ss (with_messages c first (begun c x))) sends
    ∙ sending-all c creation (λ (e : Handle × Channel). aim.Create e.0) waiting (with_messages c first (begun c x)) in
    left ∙ sym (messages-twice (begun c x) c first rest) ∙ sym parts

-- a circuit that is wanted and not connected is there
there-in : (o : Option ClientCircuit) (d : ClientCircuit) → option_and_then (λ (e : ClientCircuit). if is_none e.connection then Some e else None) o ≡ Some d → o ≡ Some d
there-in None d is = absurd cc
there-in (Some e) d is = by_test (is_none e.connection) is
  where
    by_test : (b : Bool) → (if b then Some e else None) ≡ Some d → ◌≡◌ {A = Option ClientCircuit} (Some e) (Some d)
    by_test true same = same
    by_test false same = absurd cc

pub begins-on : (x : Client) (c : Handle) (o : Option ClientCircuit) (priority : ℕ) (connection : Connection) (t : Table Channel) (u : Table ClientCircuit) → unconnected x c ≡ o → option_map (λ (d : ClientCircuit). d.priority) o ≡ Some priority → connection ≡ record { link = with_sent (creations_in c x.channels) (with_sent (greeting priority x.peer.user x.peer.host) (new_link x.moment)); run = no_reads } → t ≡ with_all (creating c) x.channels → u ≡ with_changed (λ (w : ClientCircuit). record w { connection = Some connection }) c x.circuits → BeginsOn x c o (Ok tt) (record x { channels = t; circuits = u })
begins-on x c None priority connection t u is of link there connected = absurd cc
begins-on x c (Some d) priority connection t u is of link there connected =
    let same : d.priority ≡ priority = some_is d.priority priority of in
    begins x c d connection t u (there-in (under x.circuits c) d is)
    (link ∙ ap (λ (p : ℕ). let e : Connection = record { link = with_sent (creations_in c x.channels) (with_sent (greeting p x.peer.user x.peer.host) (new_link x.moment)); run = no_reads } in e) (sym same))
    there connected

pub begins-not : (x : Client) (c : Handle) (o : Option ClientCircuit) (priority : ℕ) (r : Result (Unit {0}) AllocError) → option_map (λ (d : ClientCircuit). d.priority) o ≡ Some priority → IsErr r → BeginsOn x c o r x
begins-not x c None priority r of err = absurd cc
begins-not x c (Some d) priority (Ok u) of err =
    let bad : false ≡ true = err in
    absurd cc
begins-not x c (Some d) priority (Err e) of err = refl

pub connects-done : (x : Client) (c : Handle) (o : Option ClientCircuit) (u : Unit {0}) (new : Client) → BeginsOn x c o (Ok u) new → (sent : List Sending) × ConnectsOn x c o None sent new
connects-done x c None u new did = absurd did
connects-done x c (Some d) u new did = (set_up x.peer c d ++ creations c x, (refl, did))

-- ---- its channels are channels still

place-all : (f : Channel → Channel) (t : Table Channel) (i : ℕ) → place_at (with_all f t) i ≡ record (place_at t i) { value = option_map f (place_at t i).value }
place-all f [] i = refl
place-all f (p ∷ t) zero = refl
place-all f (p ∷ t) (suc i) = place-all f t i

value-all : (f : Channel → Channel) (g : ℕ) (p : Place Channel) → value_for g (record p { value = option_map f p.value }) ≡ option_map f (value_for g p)
value-all f g p = by_test (nat_eq p.generation g)
  where
    by_test : (b : Bool) → (if b then option_map f p.value else None) ≡ option_map f (if b then p.value else None)
    by_test true = refl
    by_test false = refl

has-all : (f : Channel → Channel) (t : Table Channel) (cid : ℕ) → HasCid t cid → HasCid (with_all f t) cid
has-all f t cid has = record {
  handle = has.handle;
  channel = f has.channel;
  found = ap (value_for has.handle.generation) (place-all f t has.handle.index) ∙ value-all f has.handle.generation (place_at t has.handle.index) ∙ ap (option_map f) has.found;
  slot = has.slot;
  wire = has.wire;
}

searched-all : (f : Channel → Channel) (t : Table Channel) (es : List (ℕ × search.Channel)) → Searched t es → Searched (with_all f t) es
searched-all f t [] all = tt
searched-all f t (e ∷ es) all = (has-all f t e.0 all.0, searched-all f t es all.1)

pub client-all : (f : Channel → Channel) (t u : Table Channel) (es : List (ℕ × search.Channel)) → u ≡ with_all f t → IsClient t es → IsClient u es
client-all f t u es is old =
    record { searched = subst (λ (w : Table Channel). Searched w es) (sym is) (searched-all f t es old.searched) }
