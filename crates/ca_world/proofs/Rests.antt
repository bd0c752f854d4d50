-- An end that has no whole message to take, by the bytes that wait for it.
use Rattle.std.proofs.Common.{◌≡◌, ℕ, ◌+◌, ◌<◌, ◌≤◌, ◌⊎◌, inl, inr, Bool, true, false, List, [], ◌∷◌, ◌++◌, Option, Some, None, Ok, Err, drop, get_or, length, map, take, refl, sym, ap, subst, ◌∙◌, append-nil, append_assoc, arith}
use Rattle.std.specs.Prelude.{if◌then◌else◌, is_none}
use Rattle.std.proofs.lemmas.List.{drop-map, drop_all, drop_more, length-append, length-map, length-take-le, take-append-drop}
use Rattle.ca_ids.specs.Table.{under}
use Rattle.ca_text.specs.declared.refusal.Refusal.{Refusal}
use Rattle.ca_text.specs.declared.refusal.Refusal.TheVariants.{OutOfMemory}
use Rattle.ca_text.specs.Limits.{output_limit}
use Rattle.ca_text.specs.Place.{At}
use Rattle.ca_text.proofs.Places.{At-one}
use Rattle.ca_wire.specs.Fields.{Fields}
use Rattle.ca_wire.specs.Message.{IsMessage, Spells, spelled, spelling}
use Rattle.ca_wire.specs.Stream.{BadAt, NoneBegins, NotBad}
use Rattle.ca_wire.proofs.Fronts.{no-header, none-below}
use Rattle.ca_wire.proofs.Messages.{spelling-good, spelling-spells, spells-front}
use Rattle.ca_wire.proofs.Numbers.{fronts}
use Rattle.ca_model.specs.Answers as answer
use Rattle.ca_model.specs.Client.{Client, Connection, connection_at}
use Rattle.ca_model.specs.ClientEnds.{ClientSteps}
use Rattle.ca_model.specs.ClientEnds as client
use Rattle.ca_model.specs.History.{Entry, Line}
use Rattle.ca_model.specs.History as history
use Rattle.ca_model.specs.ClientEvents.{waiting_down, waiting_up}
use Rattle.ca_model.specs.Server.{Server}
use Rattle.ca_model.specs.ServerSteps.{output_of}
use Rattle.ca_model.specs.World as model
use Rattle.ca_laws_parts.specs.Clients.{ClientsStand}
use Rattle.ca_laws_parts.specs.ServerFits.{ServersFit}
use Rattle.ca_laws_parts.specs.Streams.{AreMessages, Meets, Streams}
use Rattle.ca_laws_parts.specs.Worlds.{StreamsOn, came_to, client_end, input_of, sent_down, sent_up, server_end}
use Rattle.ca_laws_parts.proofs.BytesServers.{server-came}
use Rattle.ca_laws_parts.proofs.Clients.{came-so}
use Rattle.ca_world_data.specs.declared.history.Sent.{Sent}
use Rattle.ca_world_data.specs.declared.history.Told.{Told}
use Rattle.ca_world_data.specs.declared.joined.Joined.{Joined}
use Rattle.ca_world_data.specs.declared.server.ServerSide.{ServerSide}
use Rattle.ca_world_data.specs.ClientSteps.{StepsClient, StepsOn}
use Rattle.ca_world_data.specs.Does.{MayHear, MayTake}
use Rattle.ca_world_data.specs.Seen.{joined_of, sent_of, server_of, step_of, told_of}
use Rattle.ca_world_data.specs.ServerCuts.{IsServing}
use Rattle.ca_world_data.proofs.Worlds.{found, one-at}
use Rattle.ca_world.specs.Resting.{Comes, ComesDown, ComesUp, HearsOrRests, RestsDown, RestsUp, StepsOrRests, bytes_down, bytes_up}
use Rattle.ca_world.specs.ServerStepping.{StepsAt}
use Rattle.ca_world.specs.StepParts.{StepsServer}
use Rattle.ca_world.specs.Whole.{IsReached}
use Rattle.ca_world.proofs.Cuttings.{run-stands, serves-there}

-- ---- bytes that came, and the first message to come

module _ (m : Fields) (came tail more : List ℕ) (good : IsMessage m) (are : came ++ tail ≡ spelling m ++ more) where
  -- as many as the message has, they begin with it
  long-whole : length (spelling m) ≤ length came → (rest : List ℕ) × (came ≡ spelling m ++ rest)
  long-whole long =
      let n : ℕ = length (spelling m) in
      let parts : take n came ++ drop n came ≡ came = take-append-drop n came in
      let all : take n came ++ (drop n came ++ tail) ≡ spelling m ++ more = sym (append_assoc (take n came) (drop n came) tail) ∙ ap (λ (l : List ℕ). l ++ tail) parts ∙ are in
      let same = fronts (take n came) (spelling m) (drop n came ++ tail) more (length-take-le n came long) all in
      (drop n came, sym parts ∙ ap (λ (l : List ℕ). l ++ drop n came) same.0)

  -- fewer, none is whole
  short-none : length came < length (spelling m) → NoneBegins came
  short-none short n front back spells is =
      let all : front ++ (back ++ tail) ≡ spelling m ++ more = sym (append_assoc front back tail) ∙ ap (λ (l : List ℕ). l ++ tail) (sym is) ∙ are in
      let r = spells-front n m front (spelling m) (back ++ tail) more spells (spelling-spells m good) all in
      omega (arith, short, ap length r.1, ap length is, length-append front back)

  -- and none is bad
  none-bad : NotBad came
  none-bad e bad =
      spelling-good m more e good
      (subst (λ (l : List ℕ). BadAt l e) are
      (record { header = bad.header; head = bad.head; back = bad.back ++ tail; spells = bad.spells; are = ap (λ (l : List ℕ). l ++ tail) bad.are ∙ append_assoc bad.head bad.back tail; faults = bad.faults }))

-- if nothing is to come, nothing came
nothing-came : (came tail : List ℕ) → came ++ tail ≡ [] → NoneBegins came × NotBad came
nothing-came came tail none =
    let size : length came + length tail ≡ 0 = sym (length-append came tail) ∙ ap (λ (l : List ℕ). length l) none in
    no-header came (none-below came (omega (arith, size)))

module _ (waiting : ℕ) (came : List ℕ) (ms : List Fields) (read : ℕ) (on : Bool) (c : Comes waiting came ms read on) where
  abbrev after : List ℕ
  after = spelled (drop (read + 1) ms)

  module _ (within : read < length ms) where
    abbrev next : Fields
    next = get_or ms read (one-at ms read within).0

    next-good : IsMessage next
    next-good = c.good read next (found ms read next (one-at ms read within).0 within refl)

    begins : came ++ c.tail ≡ spelling next ++ after
    begins = c.are ∙ ap (λ (ns : List Fields). spelled ns) (drop_more ms read (one-at ms read within).0 within)

    sizes : length came + length c.tail ≡ length (spelling next) + length after
    sizes = sym (length-append came c.tail) ∙ ap (λ (l : List ℕ). length l) begins ∙ length-append (spelling next) after

  -- No more wait than the messages after the next one have: it is whole.
  pub has-come : read < length ms → waiting ≤ length after → on ≡ true → (m : Fields) × (rest : List ℕ) × ((front : List ℕ) × Spells front m × (came ≡ front ++ rest))
  has-come within few opened =
      let all : length c.tail ≡ waiting = c.all opened in
      let size = sizes within in
      let w = long-whole (next within) came c.tail after (next-good within) (begins within) (omega (arith, few, all, size)) in
      (next within, w.0, (spelling (next within), spelling-spells (next within) (next-good within), w.1))

  -- More wait, or there is no next one: none is whole, and none is bad.
  pub not-come : (length ms ≤ read) ⊎ ((read < length ms) × (length after < waiting)) → NoneBegins came × NotBad came
  not-come (inl over) = nothing-came came c.tail (c.are ∙ ap (λ (ns : List Fields). spelled ns) (drop_all read ms over))
  not-come (inr (within, late)) =
      let many : waiting ≤ length c.tail = c.many in
      let size = sizes within in (
        short-none (next within) came c.tail after (next-good within) (begins within) (omega (arith, late, many, size)),
        none-bad (next within) came c.tail after (next-good within) (begins within),
      )

-- ---- the server's end

-- the bytes of messages by their sizes
up-bytes : (ss : List Sent) → bytes_up ss ≡ length (spelled (map (λ (s : history.Sent). s.message) (map sent_of ss)))
up-bytes [] = refl
up-bytes (s ∷ ss) =
    ap (λ (n : ℕ). length (spelling s.message) + n) (up-bytes ss)
    ∙ sym (length-append (spelling s.message) (spelled (map (λ (s : history.Sent). s.message) (map sent_of ss))))

up-after : (x : Joined) (n : ℕ) → bytes_up (drop n x.lists.up.items) ≡ length (spelled (drop n (sent_up (joined_of x))))
up-after x n =
    up-bytes (drop n x.lists.up.items)
    ∙ sym (ap (λ (ns : List Fields). length (spelled ns))
    (drop-map (λ (s : history.Sent). s.message) n (map sent_of x.lists.up.items) ∙ ap (map (λ (s : history.Sent). s.message)) (drop-map sent_of n x.lists.up.items)))

up-many : (x : Joined) → length (sent_up (joined_of x)) ≡ length x.lists.up.items
up-many x = length-map (map sent_of x.lists.up.items) (λ (s : history.Sent). s.message) ∙ length-map x.lists.up.items sent_of

module _ (core : Server) (x : Joined) (waiting n : ℕ) (here : n ≡ length x.lists.handled.items) (c : ComesUp waiting core (joined_of x)) where
  place : length (map step_of x.lists.handled.items) ≡ n
  place = length-map x.lists.handled.items step_of ∙ sym here

  after-is : bytes_up (drop (n + 1) x.lists.up.items) ≡ length (spelled (drop (length (map step_of x.lists.handled.items) + 1) (sent_up (joined_of x))))
  after-is = up-after x (n + 1) ∙ sym (ap (λ (k : ℕ). length (spelled (drop (k + 1) (sent_up (joined_of x))))) place)

  -- no whole message came
  pub rests-short : length (output_of (under core.circuits x.at_server)) < output_limit → (length x.lists.up.items ≤ n) ⊎ ((n < length x.lists.up.items) × (bytes_up (drop (n + 1) x.lists.up.items) < waiting)) → RestsUp core (joined_of x)
  rests-short room late =
      let many = up-many x in
      let at = place in
      let after = after-is in
      let w = not-come waiting c.e.link.input.bytes (sent_up (joined_of x)) (length (map step_of x.lists.handled.items)) x.lists.client_open c.comes (elim late [
        | inl over ↦ inl (omega (arith, over, many, at))
        | inr few ↦ (let less = few.0 in let short = few.1 in inr (omega (arith, less, many, at), omega (arith, short, after)))
      ]) in
      record {
        e = c.e;
        has = c.has;
        full = false;
        steps = (subst (λ (o : _). length (output_of o) < output_limit) c.has room, w.0, w.1, refl);
      }

  -- one may have come
  pub takes-next : length (output_of (under core.circuits x.at_server)) < output_limit → n < length x.lists.up.items → waiting ≤ bytes_up (drop (n + 1) x.lists.up.items) → MayTake core (joined_of x)
  takes-next room less few =
      let many = up-many x in
      let at = place in
      let after = after-is in
      let sizes : length (map sent_of x.lists.up.items) ≡ length x.lists.up.items = length-map x.lists.up.items sent_of in
      record {
        e = c.e;
        has = c.has;
        room = subst (λ (o : _). length (output_of o) < output_limit) c.has room;
        sent = omega (arith, less, sizes, at);
        whole = has-come waiting c.e.link.input.bytes (sent_up (joined_of x)) (length (map step_of x.lists.handled.items)) x.lists.client_open c.comes (omega (arith, less, many, at)) (omega (arith, few, after));
      }

-- ---- the client's end

down-bytes : (ts : List Told) → bytes_down ts ≡ length (spelled (map (λ (t : history.Told). t.message) (map told_of ts)))
down-bytes [] = refl
down-bytes (t ∷ ts) =
    ap (λ (n : ℕ). length (spelling t.message) + n) (down-bytes ts)
    ∙ sym (length-append (spelling t.message) (spelled (map (λ (t : history.Told). t.message) (map told_of ts))))

down-after : (x : Joined) (n : ℕ) → bytes_down (drop n x.lists.down.items) ≡ length (spelled (drop n (sent_down (joined_of x))))
down-after x n =
    down-bytes (drop n x.lists.down.items)
    ∙ sym (ap (λ (ns : List Fields). length (spelled ns))
    (drop-map (λ (t : history.Told). t.message) n (map told_of x.lists.down.items) ∙ ap (map (λ (t : history.Told). t.message)) (drop-map told_of n x.lists.down.items)))

down-many : (x : Joined) → length (sent_down (joined_of x)) ≡ length x.lists.down.items
down-many x = length-map (map told_of x.lists.down.items) (λ (t : history.Told). t.message) ∙ length-map x.lists.down.items told_of

module _ (core : Client) (x : Joined) (waiting n : ℕ) (here : n ≡ length x.lists.heard.items) (c : ComesDown waiting core (joined_of x)) where
  heard-place : length (map step_of x.lists.heard.items) ≡ n
  heard-place = length-map x.lists.heard.items step_of ∙ sym here

  heard-after : bytes_down (drop (n + 1) x.lists.down.items) ≡ length (spelled (drop (length (map step_of x.lists.heard.items) + 1) (sent_down (joined_of x))))
  heard-after = down-after x (n + 1) ∙ sym (ap (λ (k : ℕ). length (spelled (drop (k + 1) (sent_down (joined_of x))))) heard-place)

  -- no whole message came
  pub rests-heard : (length x.lists.down.items ≤ n) ⊎ ((n < length x.lists.down.items) × (bytes_down (drop (n + 1) x.lists.down.items) < waiting)) → RestsDown core (joined_of x)
  rests-heard late =
      let many = down-many x in
      let at = heard-place in
      let after = heard-after in
      let w = not-come waiting c.d.link.input.bytes (sent_down (joined_of x)) (length (map step_of x.lists.heard.items)) x.lists.server_open c.comes (elim late [
        | inl over ↦ inl (omega (arith, over, many, at))
        | inr few ↦ (let less = few.0 in let short = few.1 in inr (omega (arith, less, many, at), omega (arith, short, after)))
      ]) in
      subst (λ (o : Option Connection). client.StepsOn core x.at_client o answer.NeedBytes [] core) (sym c.connected) (w.0, w.1, (refl, refl))

  -- one may have come
  pub hears-next : n < length x.lists.down.items → waiting ≤ bytes_down (drop (n + 1) x.lists.down.items) → MayHear core (joined_of x)
  hears-next less few =
      let many = down-many x in
      let at = heard-place in
      let after = heard-after in
      let sizes : length (map told_of x.lists.down.items) ≡ length x.lists.down.items = length-map x.lists.down.items told_of in
      record {
        d = c.d;
        connected = c.connected;
        sent = omega (arith, less, sizes, at);
        whole = has-come waiting c.d.link.input.bytes (sent_down (joined_of x)) (length (map step_of x.lists.heard.items)) x.lists.server_open c.comes (omega (arith, less, many, at)) (omega (arith, few, after));
      }

-- ---- in every run

-- what came to an open end of a client
pub run-heard : (w : model.World) (k : ℕ) (j : model.Joined) (x : model.ClientSide) (y : model.ServerSide) → IsReached w → ServersFit w → ClientsStand w → At w.circuits k j → At w.clients j.client x → At w.servers j.server y → j.lists.client_open ≡ true → ComesDown (length (waiting_down y j)) x.core j
run-heard w k j x y reached fit stands at client server on = go (connection_at x.core j.at_client) refl (stands.connected k j x at client on)
  where
    go : (o : Option Connection) → connection_at x.core j.at_client ≡ o → is_none o ≡ false → ComesDown (length (waiting_down y j)) x.core j
    go None is none = absurd cc
    go (Some d) is none =
        let s = run-stands w reached in
        let st : StreamsOn w j = s.1.streams k j at in
        let is_x : st.x ≡ x = At-one w.clients j.client st.x x st.client client in
        let is_y : st.y ≡ y = At-one w.servers j.server st.y y st.server server in
        let good : AreMessages (sent_down j) = fit.sent k j at in
        let meets : Meets (client_end x j) (server_end y j) = subst (λ (z : model.ClientSide × model.ServerSide). Meets (client_end z.0 j) (server_end z.1 j)) (λ t. (is_x t, is_y t)) st.meets in
        let streams : Streams (server_end y j) (client_end x j) = meets.back on good in
        let came : came_to (connection_at x.core j.at_client) ≡ d.link.input.bytes = came-so x.core j.at_client d is in
        let down : List ℕ = waiting_down y j in
        let long : length (down ++ streams.lost) ≡ length down + length streams.lost = length-append down streams.lost in
        record {
          d = d;
          connected = is;
          comes = record {
            tail = down ++ streams.lost;
            are = ap (λ (l : List ℕ). l ++ (down ++ streams.lost)) (sym came) ∙ streams.are;
            good = good;
            many = omega (arith, long);
            all = λ opened. ap (λ (l : List ℕ). length (down ++ l)) (streams.whole opened) ∙ ap (λ (l : List ℕ). length l) (append-nil down);
          };
        }

-- what came to an open end of a server
pub run-comes : (w : model.World) (k : ℕ) (j : model.Joined) (x : model.ClientSide) (y : model.ServerSide) → IsReached w → At w.circuits k j → At w.clients j.client x → At w.servers j.server y → j.lists.server_open ≡ true → ComesUp (length (waiting_up x j)) y.core j
run-comes w k j x y reached at client server on =
    let s = run-stands w reached in
    let serves : IsServing y.core j.at_server = serves-there w k j y reached at server on in
    let st : StreamsOn w j = s.1.streams k j at in
    let is_x : st.x ≡ x = At-one w.clients j.client st.x x st.client client in
    let is_y : st.y ≡ y = At-one w.servers j.server st.y y st.server server in
    let good : AreMessages (sent_up j) = s.1.fit.sent k j at in
    let meets : Meets (client_end x j) (server_end y j) = subst (λ (z : model.ClientSide × model.ServerSide). Meets (client_end z.0 j) (server_end z.1 j)) (λ t. (is_x t, is_y t)) st.meets in
    let streams : Streams (client_end x j) (server_end y j) = meets.there on good in
    let came : input_of (under y.core.circuits j.at_server) ≡ serves.0.link.input.bytes = server-came y j serves.0 serves.1 in
    let up : List ℕ = waiting_up x j in
    let long : length (up ++ streams.lost) ≡ length up + length streams.lost = length-append up streams.lost in
    record {
      e = serves.0;
      has = serves.1;
      comes = record {
        tail = up ++ streams.lost;
        are = ap (λ (l : List ℕ). l ++ (up ++ streams.lost)) (sym came) ∙ streams.are;
        good = good;
        many = omega (arith, long);
        all = λ opened. ap (λ (l : List ℕ). length (up ++ l)) (streams.whole opened) ∙ ap (λ (l : List ℕ). length l) (append-nil up);
      };
    }

-- ---- a step without memory

-- nothing changed for a client that lacks memory
pub lacked-on : (i k : ℕ) (x x' : model.ClientSide) (logs logs' : List (List Line)) (ks ks' : List model.Joined) (j : model.Joined) (e : Refusal) → At ks k j → StepsOn i k x logs ks (Err e) x' logs' ks' → (x' ≡ x) × (logs' ≡ logs) × (ks' ≡ ks)
lacked-on i k x x' logs logs' ks ks' j e at all = go e (all j at)
  where
    go : (e : Refusal) → StepsClient i k j x logs ks (Err e) x' logs' ks' → (x' ≡ x) × (logs' ≡ logs) × (ks' ≡ ks)
    go OutOfMemory d = d
    go _ d = absurd d

-- all is as it was: a step that took no message
pub rests-on : (i k : ℕ) (x x' : model.ClientSide) (logs logs' : List (List Line)) (ks ks' : List model.Joined) (c : model.Joined) → x' ≡ x → logs' ≡ logs → ks' ≡ ks → At ks k c → RestsDown x.core c → HearsOrRests i k x logs ks (Ok tt) x' logs' ks'
rests-on i k x x' logs logs' ks ks' c side logged circuits at r = (
  λ j there. (
      let same : c ≡ j = At-one ks k c j at there in
      let core : x'.core ≡ x.core = ap (λ (z : model.ClientSide). z.core) side in (
        answer.NeedBytes,
        [],
        subst (λ (z : model.Joined × Client). ClientSteps x.core z.0.at_client answer.NeedBytes [] z.1) (λ t. (same t, sym core t)) r,
        side ∙ sym (ap (λ (z : Client). record x { core = z }) core),
        (logged, circuits),
      )
      ),
  tt,
)

-- what a step is that lacks memory
pub lacked : (k : ℕ) (y y' : ServerSide) (ks ks' : List model.Joined) (logs logs' : List (List Entry)) (e : Refusal) → StepsServer k y ks logs (Err e) y' ks' logs' → (server_of y' ≡ server_of y) × (y'.circuits.items ≡ y.circuits.items) × (ks' ≡ ks) × (logs' ≡ logs)
lacked k y y' ks ks' logs logs' OutOfMemory d = d
lacked k y y' ks ks' logs logs' _ d = absurd d

-- all is as it was: a step that took no message
pub rests-so : (k : ℕ) (y y' : ServerSide) (ks ks' : List model.Joined) (logs logs' : List (List Entry)) (x : model.Joined) → server_of y' ≡ server_of y → y'.circuits.items ≡ y.circuits.items → ks' ≡ ks → logs' ≡ logs → At ks k x → RestsUp y.core x → StepsOrRests k y ks logs (Ok tt) y' ks' logs'
rests-so k y y' ks ks' logs logs' x side numbers circuits logged at r = (
  numbers,
  λ j there. (
      let same : x ≡ j = At-one ks k x j at there in
      subst (λ (z : model.Joined). StepsAt k z (server_of y) ks logs (server_of y') ks' logs') same
      (inr (inr (inr (record { e = r.e; has = r.has; full = r.full; steps = r.steps; side = side; circuits = circuits; logged = logged }))))
      ),
)
