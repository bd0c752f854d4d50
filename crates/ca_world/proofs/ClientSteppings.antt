-- What a step of a client's end makes of a world.
use Rattle.std.proofs.Common.{◌≡◌, ℕ, ◌+◌, ◌<◌, true, false, List, Option, Some, None, Result, Ok, Err, length, refl, sym, ap, subst, ◌∙◌, arith}
use Rattle.std.specs.Prelude.{OnErr, if◌then◌else◌, map, slice_set, Vec}
use Rattle.std.specs.declared.alloc.Global.{Global}
use Rattle.std.proofs.lemmas.List.{length-map}
use Rattle.ca_arena.specs.declared.handle.Handle.{Handle}
use Rattle.ca_text.specs.declared.refusal.Refusal.{Refusal}
use Rattle.ca_text.specs.declared.refusal.Refusal.TheVariants.{OutOfMemory}
use Rattle.ca_text.specs.Place.{At}
use Rattle.ca_text.proofs.Places.{At-map, At-one}
use Rattle.ca_model.specs.Answers.{Sending, Stepped}
use Rattle.ca_model.specs.Answers as notice
use Rattle.ca_model.specs.Client.{Client, Connection, connection_at}
use Rattle.ca_model.specs.ClientEnds.{ClientSteps}
use Rattle.ca_model.specs.ClientEnds as client
use Rattle.ca_model.specs.History.{Entry, Line, OfCircuit, Step}
use Rattle.ca_model.specs.ClientEvents.{client_closed, client_stepped, heard_in, lines_of, waiting_down}
use Rattle.ca_model.specs.Events.{ClientStep}
use Rattle.ca_model.specs.Runs.{CanBe, HasClientEnd}
use Rattle.ca_model.specs.World.{ClientSide, Joined, ServerSide, with_circuit}
use Rattle.ca_model.specs.World as model
use Rattle.ca_laws_runs.specs.OrderSteps.{HaveLives}
use Rattle.ca_laws_runs.proofs.OrderKeeps.{run-lives}
use Rattle.ca_world_data.specs.declared.client.ClientSide as real
use Rattle.ca_world_data.specs.declared.ends.Ends.{Ends}
use Rattle.ca_world_data.specs.declared.history.Line.{Line as Written}
use Rattle.ca_world_data.specs.declared.joined.Joined.{Joined as Opened}
use Rattle.ca_world_data.specs.declared.server.ServerSide as ends
use Rattle.ca_world_data.specs.ClientSteps.{LeavesStepped, StepsClient, TellsFew, step_at}
use Rattle.ca_world_data.specs.Does.{Does, MayHear}
use Rattle.ca_world_data.specs.Ends.{AreEnds, NoEnds}
use Rattle.ca_world_data.specs.Indexed.{AreIndexed}
use Rattle.ca_world_data.specs.Logs.{lines_in}
use Rattle.ca_world_data.specs.Seen.{client_of, joined_of, line_of, named_of, server_of}
use Rattle.ca_world_data.specs.Speaking.{sent_up}
use Rattle.ca_world_data.proofs.Calls.{after-quiet}
use Rattle.ca_world_data.proofs.Tellings.{step-tells}
use Rattle.ca_world_data.proofs.Indexes.{KeepsEnds, indexed-circuit, indexed-map}
use Rattle.ca_world_data.proofs.Worlds.{none-joined, one-at, same-circuit, world_of}
use Rattle.ca_world_data.proofs.Momentary.{sent-keeps}
use Rattle.ca_world.specs.declared.world.World.TheInside.{Inside}
use Rattle.ca_world.specs.Resting.{ComesDown, HearsOrRests}
use Rattle.ca_world.specs.Whole.{Stands, seen}
use Rattle.ca_world.proofs.Rests.{run-heard}
use Rattle.ca_world.proofs.Farewells.{clear-tells, end-tells}
use Rattle.ca_world.proofs.Speeches.{spoken-same, spoken_in}

-- ---- a world after it

-- nothing changed, if no message was there
quiet-core : (x : Client) (c : Handle) (o : Option Connection) (sent : List Sending) (new : Client) → client.StepsOn x c o notice.NeedBytes sent new → new ≡ x
quiet-core x c None sent new s = absurd s
quiet-core x c (Some d) sent new s = s.2.1

pub steps-does : (w : model.World) (k : ℕ) (j : Joined) (x x' : ClientSide) (y : ServerSide) (logs : List (List Line)) (ks : List Joined) (r : Result (Unit {0}) Refusal) → At w.circuits k j → At w.clients j.client x → At w.servers j.server y → j.lists.client_open ≡ true
    → StepsClient j.client k j x w.client_logs w.circuits r x' logs ks → OnErr r (MayHear x.core j) → Does w (ClientStep k) r (spoken_in j.client x' logs ks w)
steps-does w k j x x' y logs ks (Ok u) at client server on (did, sent, steps, side, leaves) may = (there, (did, sent, x'.core, steps, go did steps leaves))
  where
    there : HasClientEnd w k
    there = record { j = j; x = x; y = y; joins = record { at = at; client = client; server = server }; is_open = on }

    go : (did : Stepped) → ClientSteps x.core j.at_client did sent x'.core → LeavesStepped j.client k j x did sent w.client_logs w.circuits logs ks → spoken_in j.client x' logs ks w ≡ client_stepped k j x did sent x'.core w
    go notice.NeedBytes steps leaves =
        let same : x'.core ≡ x.core = quiet-core x.core j.at_client (connection_at x.core j.at_client) sent x'.core steps in
        spoken-same j.client x x' logs ks w client (side ∙ ap (λ (z : Client). record x { core = z }) same) leaves.0 leaves.1
    go (notice.Notices told) steps leaves = λ t. spoken_in j.client (side t) (leaves.0 t) (leaves.1 t) w
    go (notice.Closed c) steps leaves =
        (λ t. spoken_in j.client (side t) (leaves.0 t) (leaves.1 t) w)
        ∙ sym (after-quiet j.client x x.names x'.core x.names (lines_of OfCircuit x.names c.notices) (with_circuit k (client_closed c.left j) w))
steps-does w k j x x' y logs ks (Err OutOfMemory) at client server on d may =
    ((record { j = j; x = x; y = y; joins = record { at = at; client = client; server = server }; is_open = on }, may), spoken-same j.client x x' logs ks w client d.0 d.1 d.2)
steps-does w k j x x' y logs ks (Err _) at client server on d may = absurd d

-- what is so of all is so of one
may-one : (r : Result (Unit {0}) Refusal) (k : ℕ) (x : Client) (ks : List Joined) (j : Joined) → At ks k j → OnErr r ((c : Joined) → At ks k c → MayHear x c) → OnErr r (MayHear x j)
may-one (Ok u) k x ks j at may = tt
may-one (Err e) k x ks j at may = may j at

-- circuits are found still
heard-ends : (s : Step) (j : Joined) → KeepsEnds j (heard_in s j)
heard-ends s j = record { client = refl; server = refl; at_client = refl; at_server = refl; closes = λ on. on; stops = λ on. on }

closed-ends : (bytes : List ℕ) (j : Joined) → KeepsEnds j (client_closed bytes j)
closed-ends bytes j = record { client = refl; server = refl; at_client = refl; at_server = refl; closes = λ on. absurd cc; stops = λ on. on }

pub steps-keep : (i k : ℕ) (j : Joined) (x x' : ClientSide) (logs logs' : List (List Line)) (ks ks' : List Joined) (r : Result (Unit {0}) Refusal) → At ks k j → StepsClient i k j x logs ks r x' logs' ks' → (cs ss : List (List ℕ)) → AreIndexed cs ss ks → AreIndexed cs ss ks'
steps-keep i k j x x' logs logs' ks ks' (Ok u) at (did, sent, steps, side, leaves) cs ss h = go did leaves
  where
    go : (did : Stepped) → LeavesStepped i k j x did sent logs ks logs' ks' → AreIndexed cs ss ks'
    go notice.NeedBytes l = subst (λ (z : List Joined). AreIndexed cs ss z) (sym l.1) h
    go (notice.Notices told) l =
        subst (λ (z : List Joined). AreIndexed cs ss z) (sym l.1)
        (indexed-map cs ss (slice_set ks k (heard_in (step_at j _ _) j)) (indexed-circuit cs ss ks h k j (heard_in (step_at j _ _) j) at (heard-ends (step_at j _ _) j)) (sent_up i x.names sent) (sent-keeps i x.names sent))
    go (notice.Closed c) l = subst (λ (z : List Joined). AreIndexed cs ss z) (sym l.1) (indexed-circuit cs ss ks h k j (client_closed c.left j) at (closed-ends c.left j))
steps-keep i k j x x' logs logs' ks ks' (Err OutOfMemory) at d cs ss h = subst (λ (z : List Joined). AreIndexed cs ss z) (sym d.2) h
steps-keep i k j x x' logs logs' ks ks' (Err _) at d cs ss h = absurd d

-- ---- in a world that stands

module _ (cs : List real.ClientSide) (ss : List ends.ServerSide) (ks : List Opened) (cl : List (List Line)) (sl : List (List Entry)) (m : ℕ) (k : ℕ) where
  -- no circuit
  pub step-none : NoEnds (length cs) (length ss) ks k → CanBe (world_of cs ss ks cl sl m) (ClientStep k) → ⊥
  step-none none can = none-joined cs ss ks cl sl m k none can.j can.x can.y can.joins

  -- its end at the client is not open
  pub step-off : (e : Ends) (a : AreEnds (length cs) (length ss) ks k e) → e.client_open ≡ false → CanBe (world_of cs ss ks cl sl m) (ClientStep k) → ⊥
  step-off e a off can =
      let is = same-circuit cs ss ks cl sl m k a.j a.at can.j can.joins.at in
      let on : a.j.lists.client_open ≡ true = sym (ap (λ (z : Joined). z.lists.client_open) is) ∙ can.is_open in
      let ended : a.j.lists.client_open ≡ false = sym (ap (λ (z : Ends). z.client_open) a.is) ∙ off in
      cc

module _ (w : Inside) (i : ℕ) (x : real.ClientSide) (at : At w.clients.items i x) (s : Stands w) where
  -- the client's life has a log
  pub here-lives : x.life < length w.client_logs.items
  here-lives =
      let lives : HaveLives (seen w) = run-lives s.reached.0 s.reached.1 None (seen w) (seen w, s.reached.3, refl) in
      let within = lives.present i (client_of x) (At-map client_of w.clients.items i x at) in
      let logs = length-map w.client_logs.items (λ (l : Vec Written Global). map line_of l.items) in
      omega (arith, within, logs)

  -- a step reports no more than its requests and channels have names, or one thing more
  pub here-few : (k : ℕ) (ks : List Joined) → TellsFew (length x.names.requests.items + length x.names.channels.items + 1) k (client_of x) ks
  here-few k ks j there =
      let here = At-map client_of w.clients.items i x at in
      let named = length-map x.names.requests.items named_of in
      let gone = end-tells (seen w) i (client_of x) j.at_client s.reached s.quiet here in
      step-tells x.core j.at_client (length x.names.requests.items) (length x.names.channels.items)
      (λ h. (let few = clear-tells (seen w) i (client_of x) h s.reached s.quiet here in omega (arith, few, named)))
      (omega (arith, gone, named))

-- what came to the end
pub hears-there : (w : Inside) (k : ℕ) (e : Ends) (a : AreEnds (length w.clients.items) (length w.servers.items) w.circuits.items k e) (x : real.ClientSide) (y : ends.ServerSide) (c : Opened) (n : ℕ) → At w.clients.items e.client x → At w.servers.items e.server y → At w.circuits.items k c → e.client_open ≡ true → Stands w
    → n ≡ length (waiting_down (server_of y) (joined_of c)) → (j : Joined) → At (map joined_of w.circuits.items) k j → ComesDown n x.core j
hears-there w k e a x y c n client server here on s many j at =
    let ks : List Joined = map joined_of w.circuits.items in
    let same : j ≡ joined_of a.j = At-one ks k j (joined_of a.j) at (At-map joined_of w.circuits.items k a.j a.at) in
    let is : joined_of c ≡ j = At-one ks k (joined_of c) j (At-map joined_of w.circuits.items k c here) at in
    let of : j.client ≡ e.client = ap (λ (z : Joined). z.client) same ∙ sym (ap (λ (z : Ends). z.client) a.is) in
    let mine : j.server ≡ e.server = ap (λ (z : Joined). z.server) same ∙ sym (ap (λ (z : Ends). z.server) a.is) in
    let opened : j.lists.client_open ≡ true = ap (λ (z : Joined). z.lists.client_open) same ∙ sym (ap (λ (z : Ends). z.client_open) a.is) ∙ on in
    let to : At (map client_of w.clients.items) j.client (client_of x) = subst (λ (n : ℕ). At (map client_of w.clients.items) n (client_of x)) (sym of) (At-map client_of w.clients.items e.client x client) in
    let from : At (map server_of w.servers.items) j.server (server_of y) = subst (λ (n : ℕ). At (map server_of w.servers.items) n (server_of y)) (sym mine) (At-map server_of w.servers.items e.server y server) in
    subst (λ (n : ℕ). ComesDown n x.core j) (sym (many ∙ ap (λ (z : Joined). length (waiting_down (server_of y) z)) is))
    (run-heard (seen w) k j (client_of x) (server_of y) s.reached s.fit s.clients at to from opened)

-- by the ends that were found: what the step makes of the world, and that circuits are found still
pub step-there : (w : Inside) (k : ℕ) (e : Ends) (a : AreEnds (length w.clients.items) (length w.servers.items) w.circuits.items k e) (x x' : real.ClientSide) (logs : List (List Line)) (next : List Joined) (r : Result (Unit {0}) Refusal) → At w.clients.items e.client x → e.client_open ≡ true
    → HearsOrRests e.client k (client_of x) (lines_in w.client_logs.items) (map joined_of w.circuits.items) r (client_of x') logs next
    → Does (seen w) (ClientStep k) r (spoken_in e.client (client_of x') logs next (seen w)) × ((cs ss : List (List ℕ)) → AreIndexed cs ss (map joined_of w.circuits.items) → AreIndexed cs ss next)
step-there w k e a x x' logs next r client on did =
    let at : At (map joined_of w.circuits.items) k (joined_of a.j) = At-map joined_of w.circuits.items k a.j a.at in
    let one = one-at w.servers.items a.j.server a.server in
    subst
    (λ (z : Ends). At w.clients.items z.client x → z.client_open ≡ true → HearsOrRests z.client k (client_of x) (lines_in w.client_logs.items) (map joined_of w.circuits.items) r (client_of x') logs next
    → Does (seen w) (ClientStep k) r (spoken_in z.client (client_of x') logs next (seen w)) × ((cs ss : List (List ℕ)) → AreIndexed cs ss (map joined_of w.circuits.items) → AreIndexed cs ss next))
    (sym a.is)
    (λ client on did. (
      steps-does (seen w) k (joined_of a.j) (client_of x) (client_of x') (server_of one.0) logs next r at (At-map client_of w.clients.items a.j.client x client) (At-map server_of w.servers.items a.j.server one.0 one.1) on (did.0 (joined_of a.j) at) (may-one r k x.core (map joined_of w.circuits.items) (joined_of a.j) at did.1),
      steps-keep a.j.client k (joined_of a.j) (client_of x) (client_of x') (lines_in w.client_logs.items) logs (map joined_of w.circuits.items) next r at (did.0 (joined_of a.j) at),
    ))
    client
    on
    did
