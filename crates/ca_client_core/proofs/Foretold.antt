-- What a message makes a client send was told before it was taken.
use Rattle.std.proofs.Common.{◌≡◌, ◌∙◌, ℕ, zero, suc, ◌+◌, ◌==◌, Bool, true, false, inl, inr, List, [], ◌∷◌, ◌++◌, Option, Some, None, Result, Ok, Err, ap, arith, drop, get_or, length, refl, subst, sym, ◌<◌}
use Rattle.std.specs.List.{list_any}
use Rattle.std.specs.declared.alloc.AllocError.{AllocError}
use Rattle.std.specs.declared.alloc.Global.{Global}
use Rattle.std.specs.Prelude.{◌≢◌, IfOk, OnErr, Vec, find, if◌then◌else◌, is_some, map, option_and_then, option_map, option_to_list, slice_set}
use Rattle.std.proofs.Math.Numerals.{add-one}
use Rattle.std.proofs.Math.Seq.{drop-cons}
use Rattle.std.proofs.lemmas.Bool.{cases_eq, ne_eqb}
use Rattle.std.proofs.lemmas.List.{append_assoc, map-append}
use Rattle.ca_arena.specs.declared.handle.Handle.{Handle}
use Rattle.ca_arena.specs.Arena.{Place, place_at}
use Rattle.ca_arena.proofs.Places.{value_for-some}
use Rattle.ca_ids.specs.Table.{Table, held_at, held_from, under, with_changed}
use Rattle.ca_text.specs.Command.{command_number}
use Rattle.ca_text.specs.declared.command.Command.{Command}
use Rattle.ca_text.specs.declared.command.Command.TheVariants as command
use Rattle.ca_text.specs.declared.refusal.Refusal.TheVariants as refusal
use Rattle.ca_text.proofs.Places.{some_is}
use Rattle.ca_dgram.proofs.Readings.{bad-none, whole-some}
use Rattle.ca_link.specs.Link.{TakesFirst, with_rest}
use Rattle.ca_wire.specs.declared.header.Header.{Header}
use Rattle.ca_wire.specs.declared.reading.Head.{Head}
use Rattle.ca_wire.specs.declared.reading.One.{One}
use Rattle.ca_wire.specs.declared.reading.One.TheVariants as one
use Rattle.ca_wire.specs.Fields.{Fields}
use Rattle.ca_wire.specs.Message.{header_of}
use Rattle.ca_wire.specs.Reading.{IsOne, IsWhole}
use Rattle.ca_wire.specs.Stream.{NoneBegins}
use Rattle.ca_wire.proofs.Messages.{one-again}
use Rattle.ca_requests.specs.Meaning.{message_of}
use Rattle.ca_requests.specs.Requests.{Asked, Request, Stage, answered_by}
use Rattle.ca_requests.specs.Requests as request
use Rattle.ca_monitor.specs.Subscriptions.{Subscription, confirmed_by}
use Rattle.ca_model.specs.Answers.{Sending}
use Rattle.ca_model.specs.Answers as answer
use Rattle.ca_model.specs.Client.{Channel, Client, ClientCircuit, Clearing, Connecting, Connection, Creating, Doomed, Leaving, Live, Phase, channel_on, circuit_to, connection_at}
use Rattle.ca_model.specs.ClientCalls.{event_add_sent}
use Rattle.ca_model.specs.ClientEnds.{ClientSteps, StepsOn, after_taking}
use Rattle.ca_model.specs.Ends.{Address}
use Rattle.ca_model.specs.Ends as ends
use Rattle.ca_model.specs.Hears.{Answers, Completes, Effect, Fails, FindsAt, Hears, PutsOn, Updates, any_failed, clear_answered, confirmed, created, failed, failing, found_at, subscription_on, left, put_on, rights_told, searched_by, subscription_failed, understood, write_failed}
use Rattle.ca_model.specs.Hears as hears
use Rattle.ca_client_tables.specs.declared.first.First.{First}
use Rattle.ca_client_tables.specs.declared.first.First.TheVariants as first
use Rattle.ca_client_tables.specs.Closings.{why_is}
use Rattle.ca_client_tables.specs.First.{FirstAt, IsBad}
use Rattle.ca_client_tables.specs.Finding.{as_found, circuit_in, goes_there, goes_to}
use Rattle.ca_client_tables.specs.Foretelling.{creation_at, creation_on}
use Rattle.ca_client_tables.specs.declared.foretelling.Creation.{Creation}
use Rattle.ca_client_tables.proofs.Circuits.{changed-found, found-changed}
use Rattle.ca_client_core.specs.declared.for_histories.Sending.{Sending as Foretells}
use Rattle.ca_client_core.specs.ForHistories.{NoneWaits, SendsNext, SendsSome, TellsNext, sending_of}
use Rattle.ca_client_core.specs.Foretelling.{adds_sent, creation_sent, foretold}

-- ---- a circuit is found, also if a message was taken on one

-- the circuit without its first message
abbrev pub taken_on : List ℕ → ClientCircuit → ClientCircuit
taken_on rest d = record d { connection = option_map (λ (e : Connection). record e { link = with_rest rest e.link }) d.connection }

-- the one or the other
abbrev either : Option (Handle × Bool) → Option (Handle × Bool) → Option (Handle × Bool)
either None o = o
either (Some r) o = Some r

module _ (a : Address) (p : ℕ) where
  -- what is found in a list of circuits
  abbrev pub first_in : List (Handle × ClientCircuit) → Option (Handle × Bool)
  first_in es = option_map as_found (find (goes_there a p) es)

  first-of : (o : Option (Handle × ClientCircuit)) (es : List (Handle × ClientCircuit)) → first_in (option_to_list o ++ es) ≡ either (goes_to a p o) (first_in es)
  first-of None es = refl
  first-of (Some e) es = go (goes_there a p e)
    where
      go : (b : Bool) → option_map as_found (if b then Some e else find (goes_there a p) es) ≡ either (if b then Some (as_found e) else None) (first_in es)
      go true = refl
      go false = refl

  -- a place changed, and the circuit there is found as before
  found-set : (t : Table ClientCircuit) (i k : ℕ) (q : Place ClientCircuit) → ((j : ℕ) → goes_to a p (held_at j q) ≡ goes_to a p (held_at j (place_at t k))) → first_in (held_from i (slice_set t k q)) ≡ first_in (held_from i t)
  found-set [] i k q same = refl
  found-set (r ∷ t) i zero q same =
      first-of (held_at i q) (held_from (i + 1) t) ∙ ap (λ (o : Option (Handle × Bool)). either o (first_in (held_from (i + 1) t))) (same i) ∙ sym (first-of (held_at i r) (held_from (i + 1) t))
  found-set (r ∷ t) i (suc k) q same =
      first-of (held_at i r) (held_from (i + 1) (slice_set t k q)) ∙ ap (either (goes_to a p (held_at i r))) (found-set t (i + 1) k q same) ∙ sym (first-of (held_at i r) (held_from (i + 1) t))

  still-some : (rest : List ℕ) (o : Option Connection) → is_some (option_map (λ (e : Connection). record e { link = with_rest rest e.link }) o) ≡ is_some o
  still-some rest None = refl
  still-some rest (Some e) = refl

  pub found-taken : (rest : List ℕ) (c : Handle) (d : ClientCircuit) (t : Table ClientCircuit) → under t c ≡ Some d → circuit_in a p (with_changed (taken_on rest) c t) ≡ circuit_in a p t
  found-taken rest c d t there =
      let parts = value_for-some c.generation (place_at t c.index) d there in
      let q : Place ClientCircuit = record { generation = c.generation; value = Some (taken_on rest d) } in
      let was : ◌≡◌ {A = Place ClientCircuit} (place_at t c.index) (record { generation = c.generation; value = Some d }) =
      ap (λ (g : ℕ). let z : Place ClientCircuit = record { generation = g; value = (place_at t c.index).value } in z) parts.0
      ∙ ap (λ (o : Option ClientCircuit). let z : Place ClientCircuit = record { generation = c.generation; value = o } in z) parts.1 in
      ap (λ (u : Table ClientCircuit). circuit_in a p u) (changed-found t (taken_on rest) c d there)
      ∙ found-set t 0 c.index q (λ j. same j ∙ ap (λ (z : Place ClientCircuit). goes_to a p (held_at j z)) (sym was))
    where
      same : (j : ℕ) → goes_to a p (held_at j (record { generation = c.generation; value = Some (taken_on rest d) })) ≡ goes_to a p (held_at j (record { generation = c.generation; value = Some d }))
      same j =
          let h : Handle = record { index = j; generation = c.generation } in
          ap (λ (b : Bool). if goes_there a p (h, d) then (let o : Option (Handle × Bool) = Some (h, b) in o) else None) (still-some rest d.connection)

-- ---- what each message sends

module _ (x : Client) (c : Handle) (rest : List ℕ) (m : Fields) where
  -- the client without the message
  abbrev pub taken : Client
  taken = after_taking c rest x

  created-so : (o : Option (Handle × Phase)) → (created taken c m o).sent ≡ (created x c (message_of (header_of m) []) o).sent
  created-so None = refl
  created-so (Some (h, Connecting)) = refl
  created-so (Some (h, Creating r)) = refl
  created-so (Some (h, Live n r)) = refl
  created-so (Some (h, Leaving)) = refl
  created-so (Some (h, Clearing)) = refl
  created-so (Some (h, Doomed)) = refl

  left-so : (o : Option (Handle × Phase)) → (left taken c o).sent ≡ (left x c o).sent
  left-so None = refl
  left-so (Some (h, Connecting)) = refl
  left-so (Some (h, Creating r)) = refl
  left-so (Some (h, Live n r)) = refl
  left-so (Some (h, Leaving)) = refl
  left-so (Some (h, Clearing)) = refl
  left-so (Some (h, Doomed)) = refl

  put-so : (h : Handle) (here : Channel) (b : Handle) (o : Option Connection) (e : Effect) → e ≡ put_on b o h here taken → e.sent ≡ creation_sent (creation_on h here (Some (b, is_some o)))
  put-so h here b None e is = ap (λ (z : Effect). z.sent) is
  put-so h here b (Some k) e is = ap (λ (z : Effect). z.sent) is

  puts-so : (a : Address) (h : Handle) (here : Channel) (o : Option (Handle × ClientCircuit)) (e : Effect) → PutsOn taken a h here o e → e.sent ≡ creation_sent (creation_on h here (option_map as_found o))
  puts-so a h here (Some (b, d)) e is = put-so h here b d.connection e is
  puts-so a h here None e (inl (b, may, is)) = ap (λ (z : Effect). z.sent) is
  puts-so a h here None e (inr (full, is)) = ap (λ (z : Effect). z.sent) is

  finds-so : (d : ClientCircuit) → under x.circuits c ≡ Some d → (a : Address) (o : Option (Handle × Channel)) (e : Effect) → FindsAt taken a o e → e.sent ≡ creation_sent (creation_at a x.circuits o)
  finds-so d there a None e is = ap (λ (z : Effect). z.sent) is
  finds-so d there a (Some (h, here)) e is =
      puts-so a h here (circuit_to a here.priority taken) e is
      ∙ ap (λ (o : Option (Handle × Bool)). creation_sent (creation_on h here o)) (found-taken a here.priority rest c d x.circuits there)

-- ---- all others send nothing

module _ (x : Client) (c : Handle) (m : Fields) where
  rights-quiet : (o : Option (Handle × Phase)) → (rights_told x c m o).sent ≡ []
  rights-quiet None = refl
  rights-quiet (Some (h, Connecting)) = refl
  rights-quiet (Some (h, Creating r)) = refl
  rights-quiet (Some (h, Live n r)) = refl
  rights-quiet (Some (h, Leaving)) = refl
  rights-quiet (Some (h, Clearing)) = refl
  rights-quiet (Some (h, Doomed)) = refl

  failed-quiet : (o : Option (Handle × Phase)) → (failed x o).sent ≡ []
  failed-quiet None = refl
  failed-quiet (Some (h, Connecting)) = refl
  failed-quiet (Some (h, Creating r)) = refl
  failed-quiet (Some (h, Live n r)) = refl
  failed-quiet (Some (h, Leaving)) = refl
  failed-quiet (Some (h, Clearing)) = refl
  failed-quiet (Some (h, Doomed)) = refl

  cleared-quiet : (o : Option (Handle × Phase)) → (clear_answered x c o).sent ≡ []
  cleared-quiet None = refl
  cleared-quiet (Some (h, Connecting)) = refl
  cleared-quiet (Some (h, Creating r)) = refl
  cleared-quiet (Some (h, Live n r)) = refl
  cleared-quiet (Some (h, Leaving)) = refl
  cleared-quiet (Some (h, Clearing)) = refl
  cleared-quiet (Some (h, Doomed)) = refl

  completes-quiet : (q : Handle) (a : Asked) (s : Stage) (e : Effect) → Completes x m q a s e → e.sent ≡ []
  completes-quiet q a request.Open e (o, means, is) = ap (λ (z : Effect). z.sent) is
  completes-quiet q a request.Draining e is = ap (λ (z : Effect). z.sent) is

  answers-quiet : (o : Option (Handle × Request)) (e : Effect) → Answers x m o e → e.sent ≡ []
  answers-quiet None e is = ap (λ (z : Effect). z.sent) is
  answers-quiet (Some (q, r)) e is = completes-quiet q r.asked r.stage e is

  confirmed-quiet : (o : Option Handle) → (confirmed x o).sent ≡ []
  confirmed-quiet None = refl
  confirmed-quiet (Some s) = refl

  updates-quiet : (o : Option Handle) (e : Effect) → Updates x m o e → e.sent ≡ []
  updates-quiet None e is = ap (λ (z : Effect). z.sent) is
  updates-quiet (Some s) e (o, means, is) = ap (λ (z : Effect). z.sent) is

  write-quiet : (o : Option (Handle × Phase)) → (write_failed x m o).sent ≡ []
  write-quiet None = refl
  write-quiet (Some (h, Connecting)) = refl
  write-quiet (Some (h, Creating r)) = refl
  write-quiet (Some (h, Live n r)) = refl
  write-quiet (Some (h, Leaving)) = refl
  write-quiet (Some (h, Clearing)) = refl
  write-quiet (Some (h, Doomed)) = refl

  subscription-quiet : (o : Option Handle) → (subscription_failed x m o).sent ≡ []
  subscription-quiet None = refl
  subscription-quiet (Some s) = refl

  any-quiet : (o : Option (Handle × Request)) → (any_failed x m o).sent ≡ []
  any-quiet None = refl
  any-quiet (Some (q, r)) = go r.stage
    where
      go : (s : Stage) → (hears.request_failed x m q s).sent ≡ []
      go request.Open = refl
      go request.Draining = refl

  failing-quiet : (h : Header) → (failing x c m h).sent ≡ []
  failing-quiet h =
      go (h.command == command_number command.Write) (h.command == command_number command.EventAdd)
      (write_failed x m (channel_on x c m.p1)) (subscription_failed x m (subscription_on x c h.p2)) (any_failed x m (answered_by c h.command h.p2 x.requests))
      (write-quiet (channel_on x c m.p1)) (subscription-quiet (subscription_on x c h.p2)) (any-quiet (answered_by c h.command h.p2 x.requests))
    where
      go : (a b : Bool) (f g k : Effect) → f.sent ≡ [] → g.sent ≡ [] → k.sent ≡ [] → (if a then f else if b then g else k).sent ≡ []
      go true b f g k p q r = p
      go false true f g k p q r = q
      go false false f g k p q r = r

  fails-quiet : (e : Effect) → Fails x c m e → e.sent ≡ []
  fails-quiet e (inl (h, quotes, is)) = ap (λ (z : Effect). z.sent) is ∙ failing-quiet h
  fails-quiet e (inr (none, is)) = ap (λ (z : Effect). z.sent) is

-- ---- all messages

-- what is sent, by the command
abbrev by_command : ℕ → (a b d : List Sending) → List Sending
by_command n a b d = if n == 6 then a else if n == 18 then b else if n == 27 then d else []

others-quiet : (n : ℕ) (a b d : List Sending) → list_any (λ (k : Command). n == command_number k) understood ≡ false → by_command n a b d ≡ []
others-quiet n a b d other =
    elim (cases_eq n 6) [
      | inl is ↦ absurd (not-understood 6 is refl)
      | inr g ↦
          elim (cases_eq n 18) [
            | inl is ↦ absurd (not-understood 18 is refl)
            | inr h ↦
                elim (cases_eq n 27) [
                  | inl is ↦ absurd (not-understood 27 is refl)
                  | inr k ↦ rw (ne_eqb n 6 g, ne_eqb n 18 h, ne_eqb n 27 k) refl
                ]
          ]
    ]
  where
    not-understood : (l : ℕ) → n ≡ l → list_any (λ (k : Command). l == command_number k) understood ≡ true → ⊥
    not-understood l is there =
        let not : list_any (λ (k : Command). l == command_number k) understood ≡ false = subst (λ (z : ℕ). list_any (λ (k : Command). z == command_number k) understood ≡ false) is other in
        absurd cc

pub heard-sent : (x : Client) (c : Handle) (rest : List ℕ) (d : ClientCircuit) (m : Fields) (e : Effect) → under x.circuits c ≡ Some d → Hears (after_taking c rest x) c m e → e.sent ≡ foretold x c d.address (message_of (header_of m) [])
heard-sent x c rest d m e there heard = go heard
  where
    a : List Sending
    a = creation_sent (creation_at (found_at d.address m) x.circuits (searched_by m.p2 x))

    b : List Sending
    b = (created x c (message_of (header_of m) []) (channel_on x c m.p1)).sent

    k : List Sending
    k = (left x c (channel_on x c m.p1)).sent

    by : (n : ℕ) → m.command ≡ n → by_command n a b k ≡ foretold x c d.address (message_of (header_of m) [])
    by n is = sym (ap (λ (z : ℕ). by_command z a b k) is)

    quiet : (n : ℕ) → m.command ≡ n → by_command n a b k ≡ [] → e.sent ≡ [] → e.sent ≡ foretold x c d.address (message_of (header_of m) [])
    quiet n is none nothing = nothing ∙ sym none ∙ by n is

    y : Client
    y = after_taking c rest x

    go : Hears y c m e → e.sent ≡ foretold x c d.address (message_of (header_of m) [])
    go (hears.Search is w here finds) =
        let same : w ≡ taken_on rest d = some_is w (taken_on rest d) (sym here ∙ found-changed x.circuits (taken_on rest) c d there) in
        finds-so x c rest m d there (found_at d.address m) (searched_by m.p2 x) e
        (subst (λ (z : Address). FindsAt y (found_at z m) (searched_by m.p2 y) e) (ap (λ (z : ClientCircuit). z.address) same) finds)
        ∙ by 6 is
    go (hears.AccessRights is effect) = quiet 22 is refl (ap (λ (z : Effect). z.sent) effect ∙ rights-quiet y c m (channel_on y c m.p1))
    go (hears.CreateChannel is effect) = ap (λ (z : Effect). z.sent) effect ∙ created-so x c rest m (channel_on x c m.p1) ∙ by 18 is
    go (hears.CreateChannelFail is effect) = quiet 26 is refl (ap (λ (z : Effect). z.sent) effect ∙ failed-quiet y c m (channel_on y c m.p1))
    go (hears.ClearChannel is effect) = quiet 12 is refl (ap (λ (z : Effect). z.sent) effect ∙ cleared-quiet y c m (channel_on y c m.p2))
    go (hears.ServerDisconnect is effect) = ap (λ (z : Effect). z.sent) effect ∙ left-so x c rest m (channel_on x c m.p1) ∙ by 27 is
    go (hears.Reply (inl is) answers) = quiet 15 is refl (answers-quiet y c m (answered_by c m.command m.p2 y.requests) e answers)
    go (hears.Reply (inr is) answers) = quiet 19 is refl (answers-quiet y c m (answered_by c m.command m.p2 y.requests) e answers)
    go (hears.Confirmation is none effect) = quiet 1 is refl (ap (λ (z : Effect). z.sent) effect ∙ confirmed-quiet y c m (confirmed_by c m.p2 y.subscriptions))
    go (hears.Update is some updates) = quiet 1 is refl (updates-quiet y c m (subscription_on y c m.p2) e updates)
    go (hears.Error is fails) = quiet 11 is refl (fails-quiet y c m e fails)
    go (hears.Other other effect) = ap (λ (z : Effect). z.sent) effect ∙ sym (others-quiet m.command a b k other)

-- ---- a step

no-steps : (x : Client) (c : Handle) (o : Option Connection) → connection_at x c ≡ o → (o ≡ None) → SendsNext x c []
no-steps x c o at none told sent new steps = absurd (subst (λ (z : Option Connection). StepsOn x c z (answer.Notices told) sent new) (at ∙ none) steps)

pub no-circuit : (x : Client) (c : Handle) → ◌≡◌ {A = Option ClientCircuit} None (under x.circuits c) → SendsNext x c []
no-circuit x c none = no-steps x c (connection_at x c) refl (ap (λ (o : Option ClientCircuit). option_and_then (λ (d : ClientCircuit). d.connection) o) (sym none))

-- a bad header begins no message
none-begins : (bytes : List ℕ) (w : ends.Why) → IsBad bytes w → NoneBegins bytes
none-begins bytes ends.Misaligned bad = bad-none bytes refusal.Misaligned bad
none-begins bytes ends.TooLarge bad = bad-none bytes refusal.TooLarge bad
none-begins bytes _ bad = absurd bad

pub no-message : (x : Client) (c : Handle) (d : ClientCircuit) (r : First) → Some d ≡ under x.circuits c → FirstAt d.connection r → ((h : Head) → r ≡ first.Message h → ⊥) → SendsNext x c []
no-message x c d r there at other told sent new steps =
    go d.connection r at other (subst (λ (z : Option Connection). StepsOn x c z (answer.Notices told) sent new) (ap (λ (o : Option ClientCircuit). option_and_then (λ (w : ClientCircuit). w.connection) o) (sym there)) steps)
  where
    go : (o : Option Connection) (r : First) → FirstAt o r → ((h : Head) → r ≡ first.Message h → ⊥) → StepsOn x c o (answer.Notices told) sent new → sent ≡ []
    go None r h not s = absurd s
    go (Some e) first.Gone h not t = absurd h
    go (Some e) first.NeedBytes h not t = absurd (h.0 t.m t.first.0 t.rest t.first.1 t.first.2)
    go (Some e) (first.Message k) h not t = absurd (not k refl)
    go (Some e) (first.Bad w) h not t = absurd (none-begins e.link.input.bytes (why_is w) h t.m t.first.0 t.rest t.first.1 t.first.2)

-- a complete message begins the bytes, and its header is read
header-read : (e : Connection) (k : Head) (m : Fields) (rest : List ℕ) → IsWhole e.link.input.bytes k → TakesFirst e.link m rest → k.header ≡ header_of m
header-read e k m rest whole (front, spells, begins) =
    let found = one-again m front rest (one.Whole k) spells (subst (λ (b : List ℕ). IsOne b (one.Whole k)) begins whole) in
    ap (λ (z : Head). z.header) (ap (head_in k) found.1) ∙ found.2
  where
    head_in : Head → One → Head
    head_in z (one.Whole y) = y
    head_in z r = z

-- a step sends what the header of its message tells
sends-told : (x : Client) (c : Handle) (d : ClientCircuit) (from : Address) (k : Head) → Some d ≡ under x.circuits c → from ≡ d.address → FirstAt d.connection (first.Message k)
    → (told : List answer.Notice) (sent : List Sending) (new : Client) → ClientSteps x c (answer.Notices told) sent new → sent ≡ foretold x c from (message_of k.header [])
sends-told x c d from k there at h told sent new steps =
    go d.connection h (subst (λ (z : Option Connection). StepsOn x c z (answer.Notices told) sent new) (ap (λ (o : Option ClientCircuit). option_and_then (λ (w : ClientCircuit). w.connection) o) (sym there)) steps)
  where
    go : (o : Option Connection) → FirstAt o (first.Message k) → StepsOn x c o (answer.Notices told) sent new → sent ≡ foretold x c from (message_of k.header [])
    go None h s = absurd s
    go (Some e) h t =
        heard-sent x c t.rest d t.m (record { core = new; sent = sent; notices = told }) (sym there) t.hears
        ∙ ap (λ (z : Header). foretold x c d.address (message_of z [])) (sym (header-read e k t.m t.rest h.0 t.first))
        ∙ ap (λ (a : Address). foretold x c a (message_of k.header [])) (sym at)

pub sends-next : (x : Client) (c : Handle) (d : ClientCircuit) (from : Address) (k : Head) (foretells : List Foretells) → Some d ≡ under x.circuits c → from ≡ d.address → FirstAt d.connection (first.Message k) → map sending_of foretells ≡ foretold x c from (message_of k.header []) → SendsNext x c foretells
sends-next x c d from k foretells there at h are told sent new steps = sends-told x c d from k there at h told sent new steps ∙ sym are

pub sends-some : (x : Client) (c : Handle) (d : ClientCircuit) (from : Address) (k : Head) → Some d ≡ under x.circuits c → from ≡ d.address → FirstAt d.connection (first.Message k) → foretold x c from (message_of k.header []) ≢ [] → SendsSome x c
sends-some x c d from k there at h some told sent new steps none = some (sym (sends-told x c d from k there at h told sent new steps) ∙ none)

-- if a message was read, one waits
pub message-waits : (x : Client) (c : Handle) (d : ClientCircuit) (k : Head) → Some d ≡ under x.circuits c → FirstAt d.connection (first.Message k) → NoneWaits x c → ⊥
message-waits x c d k there h none = go d.connection h (ap (λ (o : Option ClientCircuit). option_and_then (λ (w : ClientCircuit). w.connection) o) (sym there))
  where
    go : (o : Option Connection) → FirstAt o (first.Message k) → connection_at x c ≡ o → ⊥
    go None h at = absurd h
    go (Some e) h at = whole-some e.link.input.bytes k h.0 (none e at)

-- what is told of the next step, or not
pub tells-more : (x : Client) (c : Handle) (total : List Sending) (r : Result (Vec Foretells Global) AllocError) → ((foretells : List Foretells) → map sending_of foretells ≡ total → SendsNext x c foretells) → (total ≢ [] → SendsSome x c) → (NoneWaits x c → ⊥)
    → IfOk r (λ v. map sending_of v.items ≡ total) → OnErr r (total ≢ []) → TellsNext x c r
tells-more x c total (Ok v) next some waits ok err = (next v.items ok, λ none. absurd (waits none))
tells-more x c total (Err e) next some waits ok err = (some err, waits)

-- ---- what takes memory is something

pub on_err : {A E : Type 0} {P : Type 0} (r : Result A E) → P → OnErr r P
on_err (Ok a) p = tt
on_err (Err e) p = p

pub creation-some : (o : Option Creation) → ◌≢◌ {A = Option Creation} o None → creation_sent o ≢ []
creation-some None some = absurd (some refl)
creation-some (Some k) some = λ none. cc

pub creation-there : (o : Option Creation) (k : Creation) → ◌≡◌ {A = Option Creation} o (Some k) → creation_sent o ≢ []
creation-there o k is = creation-some o (λ none. cc)

pub adds-some : (c : Handle) (sid : ℕ) (es : List (Handle × Subscription)) → es ≢ [] → adds_sent c sid es ≢ []
adds-some c sid [] some = absurd (some refl)
adds-some c sid (e ∷ es) some = λ none. cc

pub adds-within : (c : Handle) (sid : ℕ) (es : List (Handle × Subscription)) (i : ℕ) → i < length es → adds_sent c sid es ≢ []
adds-within c sid [] i within = absurd (omega (arith, within))
adds-within c sid (e ∷ es) i within = λ none. cc

-- ---- the EVENT_ADDs of a channel's subscriptions, one after another

pub adds-next : (c : Handle) (sid : ℕ) (es : List (Handle × Subscription)) (i : ℕ) (e d : Handle × Subscription) (adds : List Foretells) (s : Foretells) (next : List Foretells) (total : List Sending) → i < length es → e ≡ get_or es i d → sending_of s ≡ event_add_sent c sid e.0 e.1
    → next ≡ adds ++ s ∷ [] → map sending_of adds ++ adds_sent c sid (drop i es) ≡ total → map sending_of next ++ adds_sent c sid (drop (i + 1) es) ≡ total
adds-next c sid es i e d adds s next total within at is grown all =
    let rest : List Sending = adds_sent c sid (drop (i + 1) es) in
    let here : drop i es ≡ e ∷ drop (i + 1) es = drop-cons es i d within ∙ ap (λ (n : ℕ). get_or es i d ∷ drop n es) (sym (add-one i)) ∙ ap (λ (f : Handle × Subscription). f ∷ drop (i + 1) es) (sym at) in
    ap (λ (z : List Foretells). map sending_of z ++ rest) grown
    ∙ ap (λ (z : List Sending). z ++ rest) (map-append sending_of adds (s ∷ []))
    ∙ append_assoc (map sending_of adds) (sending_of s ∷ []) rest
    ∙ ap (λ (z : Sending). map sending_of adds ++ z ∷ rest) is
    ∙ ap (λ (z : List (Handle × Subscription)). map sending_of adds ++ adds_sent c sid z) (sym here)
    ∙ all
