-- The events of clients keep that what a client's log tells of is over, and is told of once.
use Rattle.std.proofs.Common.{◌≡◌, ℕ, ◌<◌, ◌+◌, inl, inr, Bool, true, false, cond, List, [], ◌∷◌, ◌++◌, length, Option, Some, None, refl, sym, ap, subst, arith}
use Rattle.std.specs.Prelude.{drop, is_none, map}
use Rattle.std.specs.List.{FoldsTo}
use Rattle.std.proofs.lemmas.Bool.{both_ways}
use Rattle.ca_text.specs.Place.{At}
use Rattle.ca_text.specs.declared.refusal.Refusal.{Refusal}
use Rattle.ca_text.proofs.Places.{At-set, At-snoc, At-within}
use Rattle.ca_arena.specs.declared.handle.Handle.{Handle}
use Rattle.ca_dbr.specs.declared.value.Outcome.{Outcome}
use Rattle.ca_dbr.specs.Elements.{Elements}
use Rattle.ca_ids.specs.Table.{under}
use Rattle.ca_requests.specs.Requests as request
use Rattle.ca_model.specs.Answers.{Closed, Closing, NeedBytes, Notice, Notices, Sending, Stepped, Ticked}
use Rattle.ca_model.specs.Client.{Client, ClientCircuit, Clearing, Connecting, Connection, Creating, Doomed, Leaving, Live, On, Searching, Standing, connection_at, ended, farewell, later, sending, standing_at}
use Rattle.ca_model.specs.ClientCalls.{cancel_sent, clearing_sent, event_add_sent, new_subscription, opened, put_sent, read_sent, unsubscribed, write_sent}
use Rattle.ca_model.specs.ClientEnds.{ConnectsOn, StepsOn, Ticking, after_taking, circuits_ticked, handed_over}
use Rattle.ca_model.specs.Hears.{Effect}
use Rattle.ca_model.specs.Ends.{Address}
use Rattle.ca_model.specs.History.{Called, Intent, Line, Nothing, Noticed, Step, ToRead, ToWatch, ToWrite, Wish}
use Rattle.ca_model.specs.History as history
use Rattle.ca_model.specs.ClientEvents.{DownTaken, HappensAccept, HappensClear, HappensClientDatagram, HappensClientRestart, HappensClientStep, HappensCutClient, HappensDown, HappensHandingOut, HappensOpen, HappensRead, HappensSubscribe, HappensUnsubscribe, HappensUp, HappensWrite, HappensWriteNotify, Outcomes, TicksOne, WantsFirst, about_at, after_tick, cancelled, client_after, client_closed, client_ended, client_stepped, connected_as, heard_in, lines_of, new_circuit, refused, closing_notices}
use Rattle.ca_model.specs.World.{ClientSetting, ClientSide, Joined, Names, ServerSide, World, addresses, client_begun, log_length, with_circuit, with_client, with_server}
use Rattle.ca_laws_parts.specs.Held.{with_request, with_subscription}
use Rattle.ca_laws_parts.specs.Clients.{ClientsStand}
use Rattle.ca_laws_parts.proofs.ClientsMore.{unconnected-is, wanted-there}
use Rattle.ca_laws_runs.specs.Quiet.{ClientsQuiet, Tidy}
use Rattle.ca_laws_runs.proofs.HeardClients.{quiet-ticks}
use Rattle.ca_laws_runs.proofs.OnceCalls.{less-unsubscribed}
use Rattle.ca_laws_runs.proofs.OnceClients.{less-handed, ticks-one-once}
use Rattle.ca_laws_runs.proofs.OnceDone.{NoNotice, Tells, called-no-notice, done-less, done-more, one-no-notice, tells-after, tells-issued, tells-none, tells-subscribed, tells-told}
use Rattle.ca_laws_runs.proofs.OnceHeard.{told-heard}
use Rattle.ca_laws_runs.proofs.OnceLess.{less-on, less-same, less-sending, less-then}
use Rattle.ca_laws_runs.proofs.OnceNoticed.{HaveLogs, Still, ToldStand, have-logs, still-logs, told-called, told-core, told-lines, told-same}
use Rattle.ca_laws_runs.proofs.OnceOver.{connected-there, told-all-received, told-before, told-cleared, told-connected, told-ended, told-given, told-handed, told-ticked}
use Rattle.ca_laws_runs.proofs.OnceTold.{AreIssued, Asks, StandsBy, Told, asks-same, asks-sending, asks-then, stands-less}
use Rattle.ca_laws_runs.proofs.OnceWorld.{OnceStand}

-- ---- calls

no-refusal-notice : (e : Refusal) → NoNotice (history.Refused e ∷ [])
no-refusal-notice e = one-no-notice (history.Refused e) (λ intent o is. differ intent o is)
  where
    differ : (intent : Intent) (o : Outcome) → history.Refused e ≡ Noticed intent o → ⊥
    differ intent o is = cc

no-opened-notice : (number : ℕ) (name : List ℕ) → NoNotice (history.Opened number name ∷ [])
no-opened-notice number name = one-no-notice (history.Opened number name) (λ intent o is. differ intent o is)
  where
    differ : (intent : Intent) (o : Outcome) → history.Opened number name ≡ Noticed intent o → ⊥
    differ intent o is = cc

pub collected-no-notice : (r : ℕ) (o : Option ℕ) → NoNotice (history.Collected r o ∷ [])
collected-no-notice r o = one-no-notice (history.Collected r o) (λ intent p is. differ intent p is)
  where
    differ : (intent : Intent) (p : Outcome) → history.Collected r o ≡ Noticed intent p → ⊥
    differ intent p is = cc

pub gave-up-no-notice : (r : ℕ) (o : Option ℕ) → NoNotice (history.GaveUp r o ∷ [])
gave-up-no-notice r o = one-no-notice (history.GaveUp r o) (λ intent p is. differ intent p is)
  where
    differ : (intent : Intent) (p : Outcome) → history.GaveUp r o ≡ Noticed intent p → ⊥
    differ intent p is = cc

called-differs : (called : Intent) (e : Wish) (intent : Intent) (o : Outcome) → Called called e ≡ Noticed intent o → ⊥
called-differs called e intent o is = cc

asks-unsubscribed : (x : Client) (g : Handle) (o : Option Standing) → Asks x (unsubscribed g o x)
asks-unsubscribed x g None = asks-same x (unsubscribed g None x) refl refl
asks-unsubscribed x g (Some Searching) = asks-same x (unsubscribed g (Some Searching) x) refl refl
asks-unsubscribed x g (Some (On c Connecting)) = asks-same x (unsubscribed g (Some (On c Connecting)) x) refl refl
asks-unsubscribed x g (Some (On c (Creating rights))) = asks-same x (unsubscribed g (Some (On c (Creating rights))) x) refl refl
asks-unsubscribed x g (Some (On c Clearing)) = asks-same x (unsubscribed g (Some (On c Clearing)) x) refl refl
asks-unsubscribed x g (Some (On c Doomed)) = asks-same x (unsubscribed g (Some (On c Doomed)) x) refl refl
asks-unsubscribed x g (Some (On c Leaving)) = asks-same x (unsubscribed g (Some (On c Leaving)) x) refl refl
asks-unsubscribed x g (Some (On c (Live native rights))) = asks-same x (unsubscribed g (Some (On c (Live native rights))) x) refl refl

told-refused : (w new : World) (i : ℕ) (x : ClientSide) (e : Refusal) → At w.clients i x → new ≡ refused i x e w → HaveLogs w → ToldStand w → ToldStand new
told-refused w new i x e at is known s = subst (λ (v : World). ToldStand v) (sym is) (told-lines w i x (history.Refused e ∷ []) at (no-refusal-notice e) known s)

-- what a client does by itself
told-own : (w : World) (i : ℕ) (x : ClientSide) (about : Intent) (notices : List Notice) (core : Client) (sent : List Sending) → At w.clients i x → Tidy x.names x.core → Told x.core notices core → HaveLogs w → ToldStand w
    → ToldStand (client_after i x x.names (record { core = core; names = x.names; lines = lines_of about x.names notices; sent = sent }) w)
told-own w i x about notices core sent at tidy told known s =
    told-called w i x x.names (record { core = core; names = x.names; lines = lines_of about x.names notices; sent = sent }) at (tells-told x.names x.core about notices core tidy (s.issued i x at) told) known s

module _ (w new : World) (i : ℕ) (x : ClientSide) (at : At w.clients i x) (stands : ClientsStand w) (q : ClientsQuiet w) (known : HaveLogs w) (s : ToldStand w) where
  pub told-open : (name : List ℕ) (priority : ℕ) → HappensOpen w i x name priority new → ToldStand new
  told-open name priority happens = elim happens [
    | inl refusal ↦ told-refused w new i x refusal.0 at refusal.3 known s
    | inr did ↦
        let names : Names = record x.names { channels = x.names.channels ++ did.0 ∷ [] } in
        let lines : List Line = history.Opened (length x.names.channels) name ∷ [] in
        let z : Client = opened (record { name = name; priority = priority; now = w.moment }) did.0 x.core in
        let asks : Asks x.core did.2 = subst (λ (v : Client). Asks x.core v) (sym did.3.2.1) (asks-same x.core z refl refl) in
        let o : Outcomes = record { core = did.2; names = names; lines = lines; sent = did.1 } in
        subst (λ (v : World). ToldStand v) (sym did.4)
        (told-called w i x names o at
        (tells-none x.names x.core lines names did.2
        (done-more x.names names x.core did.2 (λ m e named over. (named, λ open_it. over (asks.opens e.0 open_it)))
        (λ m e named over. (named, λ it. over (subst (λ (v : Client). StandsBy v e.0) did.3.2.1 it)))) (asks.issued (s.issued i x at)) (no-opened-notice (length x.names.channels) name)) known s)
  ]

  pub told-read : (c : ℕ) (h : Handle) (data_type count : ℕ) → HappensRead w i x c h data_type count new → ToldStand new
  told-read c h data_type count happens = elim happens [
    | inl refusal ↦ told-refused w new i x refusal.0 at refusal.3 known s
    | inr did ↦
        let intent : Intent = history.On c (history.Request history.Read (length x.names.requests)) in
        let names : Names = with_request did.0 intent x.names in
        let lines : List Line = Called intent (ToRead data_type count) ∷ [] in
        let reads = did.3 in
        let o : Outcomes = record { core = did.2; names = names; lines = lines; sent = did.1 } in
        subst (λ (v : World). ToldStand v) (sym did.4)
        (told-called w i x names o at (subst (λ (v : Client). Tells x.names x.core lines names v) (sym reads.4.1)
        (tells-issued x.names x.core (stands.sound i x at).named.requests (s.issued i x at) h reads.0 (request.Read data_type count) did.0 reads.3 (read_sent h reads.0 (record { data_type = data_type; count = count }) did.0 ∷ []) intent lines (called-no-notice intent (ToRead data_type count)))) known s)
  ]

  pub told-write-notify : (c : ℕ) (h : Handle) (e : Elements) → HappensWriteNotify w i x c h e new → ToldStand new
  told-write-notify c h e happens = elim happens [
    | inl refusal ↦ told-refused w new i x refusal.0 at refusal.3 known s
    | inr did ↦
        let intent : Intent = history.On c (history.Request history.Put (length x.names.requests)) in
        let names : Names = with_request did.0 intent x.names in
        let lines : List Line = Called intent (ToWrite e) ∷ [] in
        let puts = did.3 in
        let o : Outcomes = record { core = did.2; names = names; lines = lines; sent = did.1 } in
        subst (λ (v : World). ToldStand v) (sym did.4)
        (told-called w i x names o at (subst (λ (v : Client). Tells x.names x.core lines names v) (sym puts.4.1)
        (tells-issued x.names x.core (stands.sound i x at).named.requests (s.issued i x at) h puts.0 request.Put did.0 puts.3 (put_sent h puts.0 e did.0 ∷ []) intent lines (called-no-notice intent (ToWrite e)))) known s)
  ]

  pub told-write : (c : ℕ) (h : Handle) (e : Elements) → HappensWrite w i x c h e new → ToldStand new
  told-write c h e happens = elim happens [
    | inl refusal ↦ told-refused w new i x refusal.0 at refusal.3 known s
    | inr did ↦
        let names : Names = record x.names { writes = x.names.writes + 1 } in
        let intent : Intent = history.On c (history.Request history.Write x.names.writes) in
        let lines : List Line = Called intent (ToWrite e) ∷ [] in
        let sends : List Sending = write_sent h (did.3.0) e ∷ [] in
        let asks : Asks x.core did.2 = subst (λ (v : Client). Asks x.core v) (sym did.3.3.1) (asks-sending sends x.core) in
        let o : Outcomes = record { core = did.2; names = names; lines = lines; sent = did.1 } in
        subst (λ (v : World). ToldStand v) (sym did.4)
        (told-called w i x x.names o at
        (tells-none x.names x.core lines names did.2
        (done-more x.names names x.core did.2 (λ m f named over. (named, λ open_it. over (asks.opens f.0 open_it)))
        (λ m f named over. (named, λ it. over (stands-less x.core (sending sends x.core) (less-sending sends x.core) f.0 (subst (λ (v : Client). StandsBy v f.0) did.3.3.1 it)))))
        (asks.issued (s.issued i x at)) (called-no-notice intent (ToWrite e))) known s)
  ]

  pub told-subscribe : (c : ℕ) (h : Handle) (data_type count mask : ℕ) → HappensSubscribe w i x c h data_type count mask new → ToldStand new
  told-subscribe c h data_type count mask happens = elim happens [
    | inl refusal ↦ told-refused w new i x refusal.0 at refusal.3 known s
    | inr did ↦
        let intent : Intent = history.On c (history.Subscribe (length x.names.subscriptions)) in
        let names : Names = with_subscription did.0 intent x.names in
        let lines : List Line = Called intent (ToWatch data_type count mask) ∷ [] in
        let subscribes = did.3 in
        let o : Outcomes = record { core = did.2; names = names; lines = lines; sent = did.1 } in
        subst (λ (v : World). ToldStand v) (sym did.4)
        (told-called w i x names o at (subst (λ (v : Client). Tells x.names x.core lines names v) (sym subscribes.4.1)
        (tells-subscribed x.names x.core (stands.sound i x at).named.subscriptions (s.issued i x at) did.0 (new_subscription h (record { data_type = data_type; count = count }) mask) subscribes.3
        (event_add_sent (subscribes.0).circuit ((subscribes.0).native).sid did.0 (new_subscription h (record { data_type = data_type; count = count }) mask) ∷ []) intent lines (called-no-notice intent (ToWatch data_type count mask)))) known s)
  ]

  pub told-unsubscribe : (g : Handle × Intent) → HappensUnsubscribe w i x g new → ToldStand new
  told-unsubscribe g happens = elim happens [
    | inl refusal ↦ told-refused w new i x refusal.0 at refusal.3 known s
    | inr did ↦
        let lines : List Line = Called (cancelled g.1) Nothing ∷ [] in
        let ends = did.3 in
        let st : Option Standing = standing_at x.core (ends.0).channel in
        let sends : List Sending = cancel_sent g.0 ends.0 st in
        let z : Client = unsubscribed g.0 st x.core in
        let less = less-then x.core z (sending sends z) (less-unsubscribed x.names x.core g.0 ends.0 st) (less-sending sends z) in
        let asks : Asks x.core (sending sends z) = asks-then x.core z (sending sends z) (asks-unsubscribed x.core g.0 st) (asks-sending sends z) in
        let o : Outcomes = record { core = did.2; names = x.names; lines = lines; sent = did.1 } in
        subst (λ (v : World). ToldStand v) (sym did.4)
        (told-called w i x x.names o at (subst (λ (v : Client). Tells x.names x.core lines x.names v) (sym ends.3.1)
        (tells-none x.names x.core lines x.names (sending sends z) (done-less x.names x.core (sending sends z) asks.opens (stands-less x.core (sending sends z) less)) (asks.issued (s.issued i x at)) (called-no-notice (cancelled g.1) Nothing))) known s)
  ]

  pub told-clear : (c : ℕ) (h : Handle) → HappensClear w i x c h new → ToldStand new
  told-clear c h happens = elim happens [
    | inl refusal ↦ told-refused w new i x refusal.0 at refusal.3 known s
    | inr did ↦
        let intent : Intent = history.On c history.Clear in
        let lines : List Line = lines_of history.OfCircuit x.names did.0 in
        let clears = did.3 in
        let st : Standing = clears.0 in
        let sends : List Sending = clearing_sent h st in
        let told : Told x.core did.0 did.2 =
        subst (λ (v : List Notice × Client). Told x.core v.0 v.1) (λ k. (sym clears.2 k, sym clears.3.1 k)) (told-cleared x.core h (stands.sound i x at).placed.attached st clears.1) in
        let o : Outcomes = record { core = did.2; names = x.names; lines = Called intent Nothing ∷ lines; sent = did.1 } in
        subst (λ (v : World). ToldStand v) (sym did.4)
        (told-called w i x x.names o at
        (tells-after x.names x.core (Called intent Nothing) lines x.names did.2 (called-differs intent Nothing) (tells-told x.names x.core history.OfCircuit did.0 did.2 (q.tidy i x at) (s.issued i x at) told)) known s)
  ]

  pub told-handing-out : (number : ℕ) (meant : Intent) (line : Option ℕ → Line) → ((o : Option ℕ) → NoNotice (line o ∷ [])) → HappensHandingOut w x number meant line new → ToldStand new
  told-handing-out number meant line none happens = subst (λ (v : World). ToldStand v) (sym happens.2) (told-lines w i x (line happens.0 ∷ []) at (none happens.0) known s)

  pub told-datagram : (from : Address) (bytes : List ℕ) → HappensClientDatagram w i x from bytes new → ToldStand new
  told-datagram from bytes happens =
      let now : Client = record x.core { moment = later w.moment x.core } in
      let e : Effect = record { core = happens.1; sent = happens.0; notices = [] } in
      subst (λ (v : World). ToldStand v) (sym happens.3)
      (told-own w i x history.OfCircuit [] happens.1 happens.0 at (q.tidy i x at)
      (told-before x.core now happens.1 [] (asks-same x.core now refl refl) (less-same x.core now refl refl) (told-all-received from happens.2.0 now e happens.2.2)) known s)

-- ---- bytes move

module _ (w new : World) (k : ℕ) (j : Joined) (x : ClientSide) (at : At w.circuits k j) (there : At w.clients j.client x) (q : ClientsQuiet w) (known : HaveLogs w) (s : ToldStand w) where
  pub told-up : (n : ℕ) (y : ServerSide) → HappensUp w k n j x y new → ToldStand new
  told-up n y happens = subst (λ (v : World). ToldStand v) (sym happens.2) (go j.lists.client_open)
    where
      go : (b : Bool) → ToldStand (with_server j.server (record y { core = happens.0 }) (cond b (with_client j.client (record x { core = handed_over j.at_client n x.core }) w) (with_circuit k (record j { left_up = drop n j.left_up }) w)))
      go true =
          let z : ClientSide = record x { core = handed_over j.at_client n x.core } in
          told-core w (with_server j.server (record y { core = happens.0 }) (with_client j.client z w)) j.client x z there refl refl refl
          (tells-told x.names x.core history.OfCircuit [] z.core (q.tidy j.client x there) (s.issued j.client x there) (told-handed j.at_client n x.core (less-handed j.at_client n x.core))) known s
      go false = told-same w (with_server j.server (record y { core = happens.0 }) (with_circuit k (record j { left_up = drop n j.left_up }) w)) (refl, refl) s

  pub told-down : (n : ℕ) (y : ServerSide) → HappensDown w k n j x y new → ToldStand new
  told-down n y happens =
      let mid : World = happens.0 in
      let r = taken mid happens.3 in
      subst (λ (v : World). ToldStand v) (sym happens.5)
      (told-own mid j.client x history.OfCircuit [] happens.2 happens.1 (subst (λ (c : List ClientSide). At c j.client x) (sym r.0) there) (q.tidy j.client x there)
      (told-given x.core j.at_client _ _ (connection_at x.core j.at_client) happens.1 happens.2 happens.4) (still-logs w mid r known) (told-same w mid r s))
    where
      taken : (mid : World) → DownTaken w k n j y mid → Still w mid
      taken mid took = elim took [
        | inl open_it ↦ subst (λ (v : World). Still w v) (sym open_it.1.2) (refl, refl)
        | inr closed_it ↦ subst (λ (v : World). Still w v) (sym closed_it.1) (refl, refl)
      ]

  -- ---- ends

  told-end : (c : Closing) (d : ClientCircuit) → under x.core.circuits j.at_client ≡ Some d → c.notices ≡ farewell j.at_client x.core → ToldStand (client_ended k j x c (ended j.at_client x.core) w)
  told-end c d is tells =
      let mid : World = with_circuit k (client_closed c.left j) w in
      told-own mid j.client x history.OfCircuit c.notices (ended j.at_client x.core) [] there (q.tidy j.client x there)
      (subst (λ (v : List Notice). Told x.core v (ended j.at_client x.core)) (sym tells) (told-ended x.core j.at_client d is))
      (still-logs w mid (refl, refl) known) (told-same w mid (refl, refl) s)

  -- an open end is connected
  linked : ClientsStand w → j.lists.client_open ≡ true → (d : ClientCircuit) × (under x.core.circuits j.at_client ≡ Some d)
  linked stands open_it = go (connection_at x.core j.at_client) refl
    where
      go : (o : Option Connection) → connection_at x.core j.at_client ≡ o → (d : ClientCircuit) × (under x.core.circuits j.at_client ≡ Some d)
      go None is = absurd (both_ways (is_none (connection_at x.core j.at_client)) (stands.connected k j x at there open_it) (ap is_none is))
      go (Some e) is = connected-there x.core j.at_client e is

  pub told-cut-client : j.lists.client_open ≡ true → ClientsStand w → HappensCutClient w k j x new → ToldStand new
  told-cut-client open_it stands happens =
      let d = linked stands open_it in
      subst (λ (v : World). ToldStand v) (sym happens.4)
      (subst (λ (core : Client). ToldStand (client_ended k j x happens.0 core w)) (sym happens.3.2) (told-end happens.0 d.0 d.1 (ap (λ (c : Closing). c.notices) happens.3.0)))

  pub told-client-step : j.lists.client_open ≡ true → ClientsStand w → HappensClientStep w k j x new → ToldStand new
  told-client-step open_it stands happens = subst (λ (v : World). ToldStand v) (sym happens.4) (go (connection_at x.core j.at_client) refl happens.0 happens.1 happens.2 happens.3)
    where
      go : (o : Option Connection) → connection_at x.core j.at_client ≡ o → (did : Stepped) (sent : List Sending) (core : Client) → StepsOn x.core j.at_client o did sent core → ToldStand (client_stepped k j x did sent core w)
      go None is did sent core steps = absurd (both_ways (is_none (connection_at x.core j.at_client)) (stands.connected k j x at there open_it) (ap is_none is))
      go (Some d) is NeedBytes sent core steps = s
      go (Some d) is (Closed c) sent core steps =
          let f = connected-there x.core j.at_client d is in
          subst (λ (z : Client). ToldStand (client_ended k j x c z w)) (sym steps.1.2) (told-end c f.0 f.1 (ap (λ (c : Closing). c.notices) steps.1.0))
      go (Some d) is (Notices told) sent core steps =
          let about : Intent = about_at j.lists (length j.lists.heard) in
          let lines : List Line = lines_of about x.names told in
          let logged : ℕ = log_length x.life w.client_logs in
          let g : Step = record { sent = length j.lists.up; logged = logged; after = logged + length lines } in
          let mid : World = with_circuit k (heard_in g j) w in
          let y : Client = after_taking j.at_client steps.rest x.core in
          let e : Effect = record { core = core; sent = sent; notices = told } in
          told-own mid j.client x about told core sent there (q.tidy j.client x there)
          (told-before x.core y core told (asks-same x.core y refl refl) (less-on _ j.at_client x.core) (told-heard y j.at_client steps.m e steps.hears))
          (still-logs w mid (refl, refl) known) (told-same w mid (refl, refl) s)

-- ---- a client begins again

-- a client that begins asks nothing
pub issued-begun : (servers : List Address) (moment life : ℕ) (setting : ClientSetting) → AreIssued (client_begun servers moment life setting).core
issued-begun servers moment life setting = record { once = λ i l q at also. absurd (nowhere i q at); there = λ i q at. absurd (nowhere i q at) }
  where
    nowhere : (i : ℕ) (q : Handle) → (let v : List Handle = [] in At v i q) → ⊥
    nowhere i q at = cc

pub told-client-restart : (w new : World) (i : ℕ) (x : ClientSide) → At w.clients i x → HaveLogs w → ToldStand w → HappensClientRestart w i x new → ToldStand new
told-client-restart w new i x at known s happens = subst (λ (v : World). ToldStand v) (sym happens) (record {
  done = λ l y log p intent o have tells line is. elim (At-set w.clients i z l y have) [
    | inl here ↦ elim (At-snoc w.client_logs [] y.life log tells) [
      | inl old ↦ absurd (not-before y.life log old (ap (λ (v : ClientSide). v.life) here.1))
      | inr last ↦ absurd (empty p intent o (subst (λ (v : List Line). At v p (Noticed intent o)) last.1 line))
    ]
    | inr old ↦ elim (At-snoc w.client_logs [] y.life log tells) [
      | inl was ↦ s.done l y log p intent o old.0 was line is
      | inr last ↦ absurd (let t = known.there l y old.0 in not-before y.life t.0 t.1 last.0)
    ]
  ];
  once = λ l log p q intent o r have a b is. elim (At-snoc w.client_logs [] l log have) [
    | inl old ↦ s.once l log p q intent o r old a b is
    | inr last ↦ absurd (empty p intent o (subst (λ (v : List Line). At v p (Noticed intent o)) last.1 a))
  ];
  failed = λ l log p c m o have a. elim (At-snoc w.client_logs [] l log have) [
    | inl old ↦ s.failed l log p c m o old a
    | inr last ↦ absurd (empty p (history.On c (history.Request history.Write m)) o (subst (λ (v : List Line). At v p (Noticed (history.On c (history.Request history.Write m)) o)) last.1 a))
  ];
  issued = λ l y have. elim (At-set w.clients i z l y have) [
    | inl here ↦ subst (λ (v : ClientSide). AreIssued v.core) (sym here.1) (issued-begun servers w.moment (length w.client_logs) x.setting)
    | inr old ↦ s.issued l y old.0
  ];
})
  where
    servers : List Address
    servers = addresses (map (λ (y : ServerSide). y.setting) w.servers)

    z : ClientSide
    z = client_begun servers w.moment (length w.client_logs) x.setting

    not-before : (l : ℕ) (log : List Line) → At w.client_logs l log → l ≡ length w.client_logs → ⊥
    not-before l log have is = (let lt : l < length w.client_logs = At-within w.client_logs l log have in omega (arith, lt, is))

    empty : (p : ℕ) (intent : Intent) (o : Outcome) → (let log : List Line = [] in At log p (Noticed intent o)) → ⊥
    empty p intent o line = cc

-- ---- a circuit is made

pub told-accept : (w new : World) (c : ℕ) (x : ClientSide) (v : WantsFirst w x) → At w.clients c x → ClientsQuiet w → HaveLogs w → ToldStand w → HappensAccept w c x v new → ToldStand new
told-accept w new c x v at q known s happens = elim happens.leaves [
  | inl refusal ↦ subst (λ (u : World). ToldStand u) (sym refusal.1) s
  | inr did ↦
      let k : Option Closing = did.1 in
      let core : Client = did.3 in
      let on : Handle = v.v.circuit in
      let there = wanted-there x.core v.place v.v v.at in
      let made : World = record (with_server v.i (record v.y { core = happens.server }) w) { circuits = w.circuits ++ connected_as k (new_circuit c x on v.i v.y did.0) ∷ [] } in
      let told : Told x.core (closing_notices k) core = told-connected x.core on there.0 k did.2 core there.1 (subst (λ (o : Option ClientCircuit). ConnectsOn x.core on o k did.2 core) (unconnected-is x.core on there.0 there.1 there.2) did.5) in
      subst (λ (u : World). ToldStand u) (sym did.6)
      (told-own made c x history.OfCircuit (closing_notices k) core did.2 at (q.tidy c x at) told (still-logs w made (refl, refl) known) (told-same w made (refl, refl) s))
]

-- ---- a moment

told-ticks-one : (moment : ℕ) (w : World) (i : ℕ) (new : World) → ClientsQuiet w → HaveLogs w → ToldStand w → TicksOne moment w i new → ToldStand new
told-ticks-one moment w i new q known s happens =
    let x : ClientSide = happens.0 in
    let does = happens.5 in
    let t : Ticking = circuits_ticked moment x.core in
    let o : Outcomes = record { core = happens.4; names = x.names; lines = lines_of history.OfCircuit x.names (happens.2).notices; sent = happens.3 } in
    let after : World = client_after i x x.names o w in
    let told : Told x.core (happens.2).notices happens.4 = subst (λ (v : Ticked × Client). Told x.core v.0.notices v.1) (λ k. (sym does.0 k, sym does.2 k)) (told-ticked moment x.core) in
    subst (λ (v : World). ToldStand v) (sym happens.6)
    (told-same after (record after { circuits = map (after_tick i (happens.2).closings) after.circuits }) (refl, refl)
    (told-own w i x history.OfCircuit (happens.2).notices happens.4 happens.3 happens.1 (q.tidy i x happens.1) told known s))

pub told-ticks : (moment : ℕ) (clients : List ℕ) (w new : World) → ClientsQuiet w → OnceStand w → ToldStand w → FoldsTo (TicksOne moment) w clients new → ToldStand new
told-ticks moment [] w new q known s folds = subst (λ (v : World). ToldStand v) folds s
told-ticks moment (i ∷ clients) w new q known s folds =
    told-ticks moment clients folds.0 new (quiet-ticks moment (i ∷ []) w folds.0 q (folds.0, folds.1, refl)) (ticks-one-once moment w i folds.0 q known folds.1) (told-ticks-one moment w i folds.0 q (have-logs w known) s folds.1) folds.2
