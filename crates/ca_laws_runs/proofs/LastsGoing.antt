-- What each event leaves of the subscriptions that stand: each stands on, with its channel, or the
-- log of its client has its end; and each that is held was called, for what it is held for.
use Rattle.std.proofs.Common.{◌≡◌, ℕ, ◌+◌, ◌*◌, ◌/◌, ◌%◌, ◌<◌, ◌⊎◌, inl, inr, Bool, true, false, cond, List, [], ◌∷◌, ◌++◌, length, Option, Some, None, refl, sym, ap, ◌∙◌, subst, arith}
use Rattle.std.specs.Prelude.{Ok, drop, is_none, map, slice_set}
use Rattle.std.specs.List.{FoldsTo}
use Rattle.std.proofs.lemmas.Bool.{both_ways}
use Rattle.ca_text.specs.Place.{At}
use Rattle.ca_text.proofs.Places.{At-after, At-append, At-map, At-one, At-set, At-snoc}
use Rattle.ca_arena.specs.declared.handle.Handle.{Handle}
use Rattle.ca_dbr.specs.declared.value.Outcome.{Outcome}
use Rattle.ca_dbr.specs.declared.value.Outcome.TheVariants as outcome
use Rattle.ca_dbr.specs.Elements.{Elements}
use Rattle.ca_ids.specs.Table.{Table, under, with_held}
use Rattle.ca_monitor.specs.Subscriptions.{Subscription}
use Rattle.ca_wire.specs.declared.requests.Wanted.{Wanted}
use Rattle.ca_wire.specs.Fields.{Fields}
use Rattle.ca_wire.specs.Header.{number16}
use Rattle.ca_wire.specs.Messages.{event_add_request, mask_in}
use Rattle.ca_model.specs.Answers.{Closed, NeedBytes, Notices, Sending, Stepped}
use Rattle.ca_model.specs.Answers as notice
use Rattle.ca_model.specs.Client.{Client, ClientCircuit, Connection, Standing, connection_at, later, sending, standing_at}
use Rattle.ca_model.specs.ClientCalls.{ClientSubscribes, cancel_sent, cleared, clearing_sent, new_subscription, unsubscribed, wanted_by, write_sent}
use Rattle.ca_model.specs.ClientEnds.{ConnectsOn, StepsOn, after_taking, handed_over}
use Rattle.ca_model.specs.Ends.{Address}
use Rattle.ca_model.specs.Hears.{Effect}
use Rattle.ca_model.specs.History.{Called, Cancel, Clear, Intent, Line, Nothing, Noticed, On, Sent, Subscribe, ToWatch, Wish}
use Rattle.ca_model.specs.History as history
use Rattle.ca_model.specs.Legal.{AsksFor, MayAsk}
use Rattle.ca_model.specs.Placed.{WasGiven}
use Rattle.ca_model.specs.Speech.{In}
use Rattle.ca_model.proofs.Handles.{handle-or}
use Rattle.ca_model.proofs.Tables.{held-back, held-own, one-value}
use Rattle.ca_model.specs.ClientEvents.{DownTaken, HappensAccept, HappensClear, HappensClientDatagram, HappensClientRestart, HappensClientStep, HappensCutClient, HappensDown, HappensOpen, HappensRead, HappensSubscribe, HappensUnsubscribe, HappensUp, HappensWrite, HappensWriteNotify, TicksOne, WantsFirst, about_at, cancelled, channel_number, client_stepped, line_of, lines_of}
use Rattle.ca_model.specs.Events.{Event}
use Rattle.ca_model.specs.Events as event
use Rattle.ca_model.specs.Runs.{Happens, IsEvent}
use Rattle.ca_model.specs.World.{ClientSide, Joined, Names, ServerSide, World, addresses, client_begun, grown, with_circuit, with_client, with_server}
use Rattle.ca_laws_parts.specs.Held.{with_request, with_subscription}
use Rattle.ca_laws_parts.specs.Circuit.{AreGiven}
use Rattle.ca_laws_parts.specs.Clients.{ClientsStand}
use Rattle.ca_laws_parts.proofs.ClientsMore.{unconnected-is, wanted-there}
use Rattle.ca_laws_parts.proofs.RunsSending.{not-given}
use Rattle.ca_laws_parts.proofs.WritesLists.{none_at}
use Rattle.ca_laws_runs.specs.Quiet.{ClientsQuiet, Tidy}
use Rattle.ca_laws_runs.proofs.AddsSaid.{AddingBack, IsAddOf}
use Rattle.ca_laws_runs.proofs.Going.{IsFresh}
use Rattle.ca_laws_runs.proofs.Lasts.{IsKept, Lasts, LastsIn, in-after, lasts-all-received, lasts-cleared, lasts-connected, lasts-ended, lasts-given, lasts-handed, lasts-heard, lasts-itself, lasts-opened, lasts-same, lasts-sending, lasts-subscribed, lasts-then, lasts-ticked, lasts-unsubscribed}
use Rattle.ca_laws_runs.proofs.OnceCalls.{less-cleared, less-unsubscribed}
use Rattle.ca_laws_runs.proofs.OnceClients.{less-handed}
use Rattle.ca_laws_runs.proofs.OnceLess.{AsksAlike, Less, less-ended, less-same, less-sending, less-then}
use Rattle.ca_laws_runs.proofs.OnceMoved.{moved-all-received, moved-connected, moved-given, moved-heard, moved-ticked}
use Rattle.ca_laws_runs.proofs.OnceStill.{still-add, still-cut-server, still-finish, still-post, still-pump, still-remove, still-server-restart, still-server-step}
use Rattle.ca_laws_runs.proofs.OnceWorld.{OnceStand, logs-grown}
use Rattle.ca_laws_runs.proofs.Says.{subscribed-at}
use Rattle.ca_laws_runs.proofs.Spent.{Known}
use Rattle.ca_laws_runs.proofs.ToldGrows.{WorldsOn}
use Rattle.ca_laws_runs.proofs.Using.{AllNamedOnce, ClientsUse, named-meant}

-- ---- one client

-- By these lines its caller ended the subscription or its channel, or a notice told of its end.
abbrev pub IsEndedBy : List Line → (a m : ℕ) → Type 0
IsEndedBy log a m = In log (Called (On a Clear) Nothing) ⊎ (In log (Called (On a (Cancel m)) Nothing) ⊎ ((o : Outcome) × In log (Noticed (On a (Subscribe m)) o)))

-- By these lines the subscription was called, for the type, the count and the mask that it has; and
-- an EVENT_ADD has room for the mask.
abbrev pub IsCalledAs : List Line → Intent → Subscription → Type 0
IsCalledAs log intent d = In log (Called intent (ToWatch d.data_type d.count d.mask)) × (d.mask < 65536)

-- Each subscription stands on, or its end is in the log of the client's life in the new world. The
-- same are named, or one more that stands. And each that is named and held was so, for the same, or
-- was called by now.
abbrev StandOn : World → (x y : ClientSide) → Type 0
StandOn new x y = (g h : Handle) (a m : ℕ) (log : List Line) → At x.names.subscriptions m (g, On a (Subscribe m)) → At new.client_logs y.life log → IsKept x.core g h → IsKept y.core g h ⊎ IsEndedBy log a m

abbrev NamesMore : World → (x y : ClientSide) → Type 0
NamesMore new x y = (y.names.subscriptions ≡ x.names.subscriptions) ⊎ ((q h : Handle) × (intent : Intent) × (y.names.subscriptions ≡ x.names.subscriptions ++ (q, intent) ∷ []) × IsKept y.core q h)

abbrev KeepsCalled : World → (x y : ClientSide) → Type 0
KeepsCalled new x y = (m : ℕ) (e : Handle × Intent) (d : Subscription) (log : List Line) → At y.names.subscriptions m e → under y.core.subscriptions e.0 ≡ Some d → At new.client_logs y.life log
    → ((f : Subscription) × At x.names.subscriptions m e × (under x.core.subscriptions e.0 ≡ Some f) × AsksAlike f d) ⊎ IsCalledAs log e.1 d

-- So it is of each client of the world, or it begins now.
abbrev pub ClientsLast : (w new : World) → Type 0
ClientsLast w new = (i : ℕ) (y : ClientSide) → At new.clients i y → ((x : ClientSide) × At w.clients i x × (y.life ≡ x.life) × NamesMore new x y × StandOn new x y × KeepsCalled new x y) ⊎ IsFresh w y

-- From the one client to the other each subscription that is held was, for the same.
abbrev RowsBack : (x y : Client) → Type 0
RowsBack x y = (g : Handle) (d : Subscription) → under y.subscriptions g ≡ Some d → (f : Subscription) × (under x.subscriptions g ≡ Some f) × AsksAlike f d

rows-same : (x y : Client) → y.subscriptions ≡ x.subscriptions → RowsBack x y
rows-same x y is g d there = (d, subst (λ (t : Table Subscription). under t g ≡ Some d) is there, (refl, refl, refl))

rows-less : (x y : Client) → Less x y → RowsBack x y
rows-less x y less g d there = (let f = less.subscriptions g d there in (f.0, f.1, f.3))

rows-then : (x y z : Client) → RowsBack x y → RowsBack y z → RowsBack x z
rows-then x y z a b g d there =
    let v = b g d there in
    let f = a g v.0 v.1 in
    (f.0, f.1, (v.2.0 ∙ f.2.0, v.2.1 ∙ f.2.1, v.2.2 ∙ f.2.2))

keeps-rows : (new : World) (x y : ClientSide) → y.names.subscriptions ≡ x.names.subscriptions → RowsBack x.core y.core → KeepsCalled new x y
keeps-rows new x y names rows m e d log named there logged =
    let f = rows e.0 d there in
    inl (f.0, subst (λ (l : List (Handle × Intent)). At l m e) names named, f.1, f.2)

keeps-itself : (new : World) (y : ClientSide) → KeepsCalled new y y
keeps-itself new y = keeps-rows new y y refl (rows-same y.core y.core refl)

last-same : (w new : World) → new.clients ≡ w.clients → ClientsLast w new
last-same w new is i y at = inl (y, subst (λ (l : List ClientSide). At l i y) is at, refl, inl refl, λ g h a m log named there it. inl it, keeps-itself new y)

last-set : (w new : World) (i : ℕ) (x z : ClientSide) → At w.clients i x → new.clients ≡ slice_set w.clients i z → z.life ≡ x.life → NamesMore new x z
    → StandOn new x z → KeepsCalled new x z → ClientsLast w new
last-set w new i x z at is life names stand keeps l y there = elim (At-set w.clients i z l y (subst (λ (c : List ClientSide). At c l y) is there)) [
  | inl here ↦
      let now = subst (λ (v : ClientSide). (v.life ≡ x.life) × NamesMore new x v × StandOn new x v × KeepsCalled new x v) (sym here.1) (life, names, stand, keeps) in
      inl (x, subst (λ (n : ℕ). At w.clients n x) (sym here.0) at, now.0, now.1, now.2, now.3)
  | inr old ↦ inl (y, old.0, refl, inl refl, λ g h a m log named logged it. inl it, keeps-itself new y)
]

-- by its core and its names then
last-called : (w new : World) (i : ℕ) (x : ClientSide) (names : Names) (core : Client) → At w.clients i x
    → new.clients ≡ slice_set w.clients i (record x { core = core; names = names }) → names.subscriptions ≡ x.names.subscriptions → Lasts x.core core
    → RowsBack x.core core → ClientsLast w new
last-called w new i x names core at is same lasts rows =
    let z : ClientSide = record x { core = core; names = names } in
    last-set w new i x z at is refl (inl same) (λ g h a m log named there it. inl (lasts.forth g h it)) (keeps-rows new x z same rows)

-- a line that is logged now
fresh-line : (w new : World) (life : ℕ) (lines old log : List Line) (p : ℕ) (line : Line) → At w.client_logs life old
    → new.client_logs ≡ grown life lines w.client_logs → At lines p line → At new.client_logs life log → In log line
fresh-line w new life lines old log p line there is at logged = elim ((logs-grown w.client_logs life lines old there).0 life log (subst (λ (v : List (List Line)). At v life log) is logged)) [
  | inl own ↦ (length own.1.0 + p, subst (λ (v : List Line). At v (length own.1.0 + p) line) (sym own.1.2) (At-after own.1.0 lines p line at))
  | inr other ↦ absurd (other.1 refl)
]

-- a subscription is made: it is called for what it is held for
keeps-subscribed : (w new : World) (x : ClientSide) (c : ℕ) (h : Handle) (data_type count mask : ℕ) (q : Handle) (sent : List Sending) (core : Client) (old : List Line) → At w.client_logs x.life old → AreGiven x.names.subscriptions x.core.subscriptions → mask < 65536
    → ClientSubscribes x.core h (record { data_type = data_type; count = count }) mask (Ok q) sent core
    → (let intent : Intent = On c (Subscribe (length x.names.subscriptions)) in new.client_logs ≡ grown x.life (Called intent (ToWatch data_type count mask) ∷ []) w.client_logs → KeepsCalled new x (record x { core = core; names = with_subscription q intent x.names }))
keeps-subscribed w new x c h data_type count mask q sent core old logged given fits subscribes logs m e d log named there log_at =
    let row : under z.subscriptions e.0 ≡ Some d = subst (λ (v : Client). under v.subscriptions e.0 ≡ Some d) subscribes.4.1 there in
    elim (At-snoc x.names.subscriptions (q, intent) m e named) [
      | inl before ↦ elim (held-back x.core.subscriptions e.0 q made d row) [
        | inl own ↦ absurd (not-given x.core.subscriptions q subscribes.3 (subst (λ (k : Handle). WasGiven x.core.subscriptions k) own.0 (given m e before)))
        | inr was ↦ inl (d, before, was, (refl, refl, refl))
      ]
      | inr last ↦
          let own : under z.subscriptions q ≡ Some d = subst (λ (v : Handle × Intent). under z.subscriptions v.0 ≡ Some d) last.1 row in
          let same : made ≡ d = one-value z.subscriptions q made d (held-own x.core.subscriptions q made subscribes.3) own in
          let called : IsCalledAs log intent made = (fresh-line w new x.life (line ∷ []) old log 0 line logged logs refl log_at, fits) in
          inr (subst (λ (v : Intent × Subscription). IsCalledAs log v.0 v.1) (λ p. (sym (ap (λ (k : Handle × Intent). k.1) last.1) p, same p)) called)
    ]
  where
    intent : Intent
    intent = On c (Subscribe (length x.names.subscriptions))

    line : Line
    line = Called intent (ToWatch data_type count mask)

    made : Subscription
    made = new_subscription h (record { data_type = data_type; count = count }) mask

    z : Client
    z = record x.core { subscriptions = with_held q made x.core.subscriptions }

module _ (w new : World) (i : ℕ) (x : ClientSide) (at : At w.clients i x) where
  last-open : (name : List ℕ) (priority : ℕ) → HappensOpen w i x name priority new → ClientsLast w new
  last-open name priority happens = elim happens [
    | inl refusal ↦ last-same w new (ap (λ (z : World). z.clients) refusal.3)
    | inr did ↦
        last-called w new i x (record x.names { channels = x.names.channels ++ did.0 ∷ [] }) did.2 at (ap (λ (z : World). z.clients) did.4) refl
        (lasts-opened x.core (record { name = name; priority = priority; now = w.moment }) did.0 did.1 did.2 did.3) (rows-same x.core did.2 (ap (λ (v : Client). v.subscriptions) did.3.2.1))
  ]

  last-read : (c : ℕ) (h : Handle) (data_type count : ℕ) → HappensRead w i x c h data_type count new → ClientsLast w new
  last-read c h data_type count happens = elim happens [
    | inl refusal ↦ last-same w new (ap (λ (z : World). z.clients) refusal.3)
    | inr did ↦
        let reads = did.3 in
        let intent : Intent = On c (history.Request history.Read (length x.names.requests)) in
        last-called w new i x (with_request did.0 intent x.names) did.2 at (ap (λ (z : World). z.clients) did.4) refl
        (subst (λ (v : Client). Lasts x.core v) (sym reads.4.1) (lasts-same x.core _ refl refl)) (rows-same x.core did.2 (ap (λ (v : Client). v.subscriptions) reads.4.1))
  ]

  last-put : (c : ℕ) (h : Handle) (e : Elements) → HappensWriteNotify w i x c h e new → ClientsLast w new
  last-put c h e happens = elim happens [
    | inl refusal ↦ last-same w new (ap (λ (z : World). z.clients) refusal.3)
    | inr did ↦
        let puts = did.3 in
        let intent : Intent = On c (history.Request history.Put (length x.names.requests)) in
        last-called w new i x (with_request did.0 intent x.names) did.2 at (ap (λ (z : World). z.clients) did.4) refl
        (subst (λ (v : Client). Lasts x.core v) (sym puts.4.1) (lasts-same x.core _ refl refl)) (rows-same x.core did.2 (ap (λ (v : Client). v.subscriptions) puts.4.1))
  ]

  last-write : (c : ℕ) (h : Handle) (e : Elements) → HappensWrite w i x c h e new → ClientsLast w new
  last-write c h e happens = elim happens [
    | inl refusal ↦ last-same w new (ap (λ (z : World). z.clients) refusal.3)
    | inr did ↦
        last-called w new i x (record x.names { writes = x.names.writes + 1 }) did.2 at (ap (λ (z : World). z.clients) did.4) refl
        (subst (λ (v : Client). Lasts x.core v) (sym did.3.3.1) (lasts-sending (write_sent h (did.3.0) e ∷ []) x.core)) (rows-same x.core did.2 (ap (λ (v : Client). v.subscriptions) did.3.3.1))
  ]

  last-datagram : (from : Address) (bytes : List ℕ) → HappensClientDatagram w i x from bytes new → ClientsLast w new
  last-datagram from bytes happens =
      let now : Client = record x.core { moment = later w.moment x.core } in
      let e : Effect = record { core = happens.1; sent = happens.0; notices = [] } in
      last-called w new i x x.names happens.1 at (ap (λ (z : World). z.clients) happens.3) refl (lasts-then x.core now happens.1 (lasts-same x.core now refl refl) (lasts-all-received from happens.2.0 now e happens.2.2))
      (rows-less x.core happens.1 (less-then x.core now happens.1 (less-same x.core now refl refl) (moved-all-received from happens.2.0 now e happens.2.2).less))

  -- its caller subscribes, or ends a subscription or a channel
  module _ (old : List Line) (logged : At w.client_logs x.life old) (tidy : Tidy x.names x.core)
      (once : (k l : ℕ) (e f : Handle × Intent) → At x.names.subscriptions k e → At x.names.subscriptions l f → e.0 ≡ f.0 → k ≡ l) where
    last-subscribe : (c : ℕ) (h : Handle) (data_type count mask : ℕ) → AreGiven x.names.subscriptions x.core.subscriptions → mask < 65536 → HappensSubscribe w i x c h data_type count mask new → ClientsLast w new
    last-subscribe c h data_type count mask given fits happens = elim happens [
      | inl refusal ↦ last-same w new (ap (λ (z : World). z.clients) refusal.3)
      | inr did ↦
          let intent : Intent = On c (Subscribe (length x.names.subscriptions)) in
          let made = lasts-subscribed x.core h (record { data_type = data_type; count = count }) mask did.0 did.1 did.2 did.3 in
          last-set w new i x (record x { core = did.2; names = with_subscription did.0 intent x.names }) at (ap (λ (z : World). z.clients) did.4) refl
          (inr (did.0, h, intent, refl, made.1)) (λ g k a m log named there it. inl (made.0.forth g k it))
          (keeps-subscribed w new x c h data_type count mask did.0 did.1 did.2 old logged given fits did.3 (ap (λ (z : World). z.client_logs) did.4))
    ]

    last-unsubscribe : (n : ℕ) (s : Handle × Intent) → At x.names.subscriptions n s → HappensUnsubscribe w i x s new → ClientsLast w new
    last-unsubscribe n s named happens = elim happens [
      | inl refusal ↦ last-same w new (ap (λ (z : World). z.clients) refusal.3)
      | inr did ↦
          let ends = did.3 in
          let st : Option Standing = standing_at x.core (ends.0).channel in
          last-set w new i x (record x { core = did.2; names = x.names }) at (ap (λ (z : World). z.clients) did.4) refl (inl refl)
          (λ g h a m log at_g there it. elim (handle-or g s.0) [
            | inr other ↦ inl (subst (λ (v : Client). IsKept v g h) (sym ends.3.1) ((lasts-unsubscribed s.0 st (cancel_sent s.0 ends.0 st) x.core).forth g h other it))
            | inl same ↦
                let number : m ≡ n = once m n (g, On a (Subscribe m)) s at_g named same in
                let meant : On a (Subscribe m) ≡ s.1 = ap (λ (e : Handle × Intent). e.1) (At-one x.names.subscriptions n (g, On a (Subscribe m)) s (subst (λ (v : ℕ). At x.names.subscriptions v (g, On a (Subscribe m))) number at_g) named) in
                inr (inr (inl
                (fresh-line w new x.life (Called (cancelled s.1) Nothing ∷ []) old log 0 (Called (On a (Cancel m)) Nothing) logged (ap (λ (z : World). z.client_logs) did.4) (ap (λ (v : Intent). Some (Called (cancelled v) Nothing)) (sym meant)) there)))
          ])
          (keeps-rows new x (record x { core = did.2; names = x.names }) refl
          (rows-less x.core did.2
          (let sends : List Sending = cancel_sent s.0 ends.0 st in
          let z : Client = unsubscribed s.0 st x.core in
          subst (λ (v : Client). Less x.core v) (sym ends.3.1) (less-then x.core z (sending sends z) (less-unsubscribed x.names x.core s.0 ends.0 st) (less-sending sends z)))))
    ]

    last-clear : (c : ℕ) (h : Handle) → At x.names.channels c h → HappensClear w i x c h new → ClientsLast w new
    last-clear c h named happens = elim happens [
      | inl refusal ↦ last-same w new (ap (λ (z : World). z.clients) refusal.3)
      | inr did ↦
          last-set w new i x (record x { core = did.2; names = x.names }) at (ap (λ (z : World). z.clients) did.4) refl (inl refl)
          (λ g k a m log at_g there it. elim (handle-or k h) [
            | inr other ↦ inl (subst (λ (v : Client). IsKept v g k) (sym did.3.3.1) ((lasts-cleared h did.3.0 x.core).forth g k other it))
            | inl same ↦
                let meaning = named-meant x.names x.core tidy once g it.d a m at_g it.there in
                let number : c ≡ a = sym (tidy.once c h named) ∙ ap (λ (v : Handle). channel_number x.names v) (sym (it.to ∙ same)) ∙ meaning.1 in
                inr (inl
                (fresh-line w new x.life (Called (On c Clear) Nothing ∷ lines_of history.OfCircuit x.names did.0) old log 0 (Called (On a Clear) Nothing) logged (ap (λ (z : World). z.client_logs) did.4) (ap (λ (v : ℕ). Some (Called (On v Clear) Nothing)) number) there))
          ])
          (keeps-rows new x (record x { core = did.2; names = x.names }) refl
          (rows-less x.core did.2
          (let sends : List Sending = clearing_sent h did.3.0 in
          let z : Client = cleared h did.3.0 x.core in
          subst (λ (v : Client). Less x.core v) (sym did.3.3.1) (less-then x.core z (sending sends z) (less-cleared x.core h did.3.0) (less-sending sends z)))))
    ]

module _ (w new : World) (k : ℕ) (j : Joined) (x : ClientSide) (there : At w.clients j.client x) where
  last-up : (n : ℕ) (y : ServerSide) → HappensUp w k n j x y new → ClientsLast w new
  last-up n y happens = subst (λ (v : World). ClientsLast w v) (sym happens.2) (go j.lists.client_open)
    where
      go : (b : Bool)
          → ClientsLast w (with_server j.server (record y { core = happens.0 }) (cond b (with_client j.client (record x { core = handed_over j.at_client n x.core }) w) (with_circuit k (record j { left_up = drop n j.left_up }) w)))
      go true = last-called w (with_server j.server (record y { core = happens.0 }) (with_client j.client (record x { core = handed_over j.at_client n x.core }) w)) j.client x x.names (handed_over j.at_client n x.core) there refl refl (lasts-handed j.at_client n x.core) (rows-less x.core (handed_over j.at_client n x.core) (less-handed j.at_client n x.core))
      go false = last-same w (with_server j.server (record y { core = happens.0 }) (with_circuit k (record j { left_up = drop n j.left_up }) w)) refl

  last-down : (n : ℕ) (y : ServerSide) → HappensDown w k n j x y new → ClientsLast w new
  last-down n y happens =
      last-called w new j.client x x.names happens.2 there
      (ap (λ (z : World). z.clients) happens.5 ∙ ap (λ (c : List ClientSide). slice_set c j.client (record x { core = happens.2; names = x.names })) (taken happens.0 happens.3)) refl
      (lasts-given x.core j.at_client _ _ (connection_at x.core j.at_client) happens.1 happens.2 happens.4)
      (rows-less x.core happens.2 (moved-given x.core j.at_client _ _ (connection_at x.core j.at_client) happens.1 happens.2 happens.4).less)
    where
      taken : (mid : World) → DownTaken w k n j y mid → mid.clients ≡ w.clients
      taken mid took = elim took [
        | inl open_it ↦ ap (λ (z : World). z.clients) open_it.1.2
        | inr closed_it ↦ ap (λ (z : World). z.clients) closed_it.1
      ]

  last-cut-client : HappensCutClient w k j x new → ClientsLast w new
  last-cut-client happens =
      last-called w new j.client x x.names happens.2 there (ap (λ (z : World). z.clients) happens.4) refl (subst (λ (v : Client). Lasts x.core v) (sym happens.3.2) (lasts-ended j.at_client x.core))
      (rows-less x.core happens.2 (subst (λ (v : Client). Less x.core v) (sym happens.3.2) (less-ended j.at_client x.core)))

  -- a message is read
  module _ (old : List Line) (logged : At w.client_logs x.life old) (tidy : Tidy x.names x.core)
      (once : (k l : ℕ) (e f : Handle × Intent) → At x.names.subscriptions k e → At x.names.subscriptions l f → e.0 ≡ f.0 → k ≡ l) where
    last-hearing : At w.circuits k j → j.lists.client_open ≡ true → ClientsStand w → HappensClientStep w k j x new → ClientsLast w new
    last-hearing at open_it stands happens = go (connection_at x.core j.at_client) refl happens.0 happens.1 happens.2 happens.3 happens.4
      where
        go : (o : Option Connection) → connection_at x.core j.at_client ≡ o → (did : Stepped) (sent : List Sending) (core : Client)
            → StepsOn x.core j.at_client o did sent core → new ≡ client_stepped k j x did sent core w → ClientsLast w new
        go None is did sent core steps new_is = absurd (both_ways (is_none (connection_at x.core j.at_client)) (stands.connected k j x at there open_it) (ap is_none is))
        go (Some d) is NeedBytes sent core steps new_is = last-same w new (ap (λ (z : World). z.clients) new_is)
        go (Some d) is (Closed c) sent core steps new_is =
            last-called w new j.client x x.names core there (ap (λ (z : World). z.clients) new_is) refl (subst (λ (v : Client). Lasts x.core v) (sym steps.1.2) (lasts-ended j.at_client x.core))
            (rows-less x.core core (subst (λ (v : Client). Less x.core v) (sym steps.1.2) (less-ended j.at_client x.core)))
        go (Some d) is (Notices told) sent core steps new_is =
            let y : Client = after_taking j.at_client steps.rest x.core in
            let about : Intent = about_at j.lists (length j.lists.heard) in
            let did : LastsIn x.core told core = in-after x.core y core told (lasts-same x.core y refl refl) (lasts-heard y j.at_client steps.m (record { core = core; sent = sent; notices = told }) steps.hears) in
            last-set w new j.client x (record x { core = core; names = x.names }) there (ap (λ (z : World). z.clients) new_is) refl (inl refl)
            (λ g h a m log at_g now it. elim (did.forth g h it) [
              | inl still ↦ inl still
              | inr ended ↦
                  let meaning = named-meant x.names x.core tidy once g it.d a m at_g it.there in
                  let line : Line = Noticed (On a (Subscribe m)) (outcome.Failed ended.1) in
                  let told_at : At (lines_of about x.names told) ended.0 line =
                  At-map (line_of about x.names) told ended.0 (notice.SubscriptionEnded g ended.1) ended.2 ∙ ap (λ (v : Intent). Some (Noticed v (outcome.Failed ended.1))) meaning.2 in
                  inr (inr (inr (outcome.Failed ended.1, fresh-line w new x.life (lines_of about x.names told) old log ended.0 line logged (ap (λ (z : World). z.client_logs) new_is) told_at now)))
            ])
            (keeps-rows new x (record x { core = core; names = x.names }) refl
            (rows-less x.core core (less-then x.core y core (less-same x.core y refl refl) (moved-heard y j.at_client steps.m (record { core = core; sent = sent; notices = told }) steps.hears).less)))

last-accept : (w new : World) (c : ℕ) (x : ClientSide) (v : WantsFirst w x) → At w.clients c x → HappensAccept w c x v new → ClientsLast w new
last-accept w new c x v at happens = elim happens.leaves [
  | inl refusal ↦ last-same w new (ap (λ (z : World). z.clients) refusal.1)
  | inr did ↦
      let on : Handle = v.v.circuit in
      let there = wanted-there x.core v.place v.v v.at in
      last-called w new c x x.names did.3 at (ap (λ (z : World). z.clients) did.6) refl
      (lasts-connected x.core on there.0 did.1 did.2 did.3 (subst (λ (o : Option ClientCircuit). ConnectsOn x.core on o did.1 did.2 did.3) (unconnected-is x.core on there.0 there.1 there.2) did.5))
      (rows-less x.core did.3 (moved-connected x.core on there.0 did.1 did.2 did.3 (subst (λ (o : Option ClientCircuit). ConnectsOn x.core on o did.1 did.2 did.3) (unconnected-is x.core on there.0 there.1 there.2) did.5)).less)
]

last-restart : (w new : World) (i : ℕ) (x : ClientSide) → HappensClientRestart w i x new → ClientsLast w new
last-restart w new i x happens l y there = elim (At-set w.clients i z l y (subst (λ (c : List ClientSide). At c l y) (ap (λ (v : World). v.clients) happens) there)) [
  | inl here ↦ inr (servers, w.moment, x.setting, here.1)
  | inr old ↦ inl (y, old.0, refl, inl refl, λ g h a m log named logged it. inl it, keeps-itself new y)
]
  where
    servers : List Address
    servers = addresses (map (λ (y : ServerSide). y.setting) w.servers)

    z : ClientSide
    z = client_begun servers w.moment (length w.client_logs) x.setting

-- ---- a moment

-- no client begins
abbrev pub ClientsStill : (w new : World) → Type 0
ClientsStill w new = (i : ℕ) (y : ClientSide) → At new.clients i y → (x : ClientSide) × At w.clients i x × (y.life ≡ x.life) × (y.names.subscriptions ≡ x.names.subscriptions) × Lasts x.core y.core × RowsBack x.core y.core

tick-last : (moment : ℕ) (w : World) (i : ℕ) (new : World) → TicksOne moment w i new → ClientsStill w new
tick-last moment w i new (x, at, t, sent, core, does, is) l y there = elim (At-set w.clients i (record x { core = core }) l y (subst (λ (c : List ClientSide). At c l y) (ap (λ (v : World). v.clients) is) there)) [
  | inl here ↦ (
    x,
    subst (λ (n : ℕ). At w.clients n x) (sym here.0) at,
    ap (λ (v : ClientSide). v.life) here.1,
    ap (λ (v : ClientSide). v.names.subscriptions) here.1,
    subst (λ (v : Client). Lasts x.core v) (sym (ap (λ (v : ClientSide). v.core) here.1 ∙ does.2)) (lasts-ticked moment x.core),
    rows-less x.core y.core (subst (λ (v : Client). Less x.core v) (sym (ap (λ (v : ClientSide). v.core) here.1 ∙ does.2)) (moved-ticked moment x.core).less),
  )
  | inr old ↦ (y, old.0, refl, refl, lasts-itself y.core, rows-same y.core y.core refl)
]

pub ticks-last : (moment : ℕ) (is : List ℕ) (w new : World) → FoldsTo (TicksOne moment) w is new → ClientsStill w new
ticks-last moment [] w new folds i y at = (y, subst (λ (v : World). At v.clients i y) (sym folds) at, refl, refl, lasts-itself y.core, rows-same y.core y.core refl)
ticks-last moment (k ∷ is) w new folds i y at =
    let b = ticks-last moment is folds.0 new folds.2 i y at in
    let a = tick-last moment w k folds.0 folds.1 i b.0 b.1 in
    (a.0, a.1, b.2 ∙ a.2, b.3 ∙ a.3, lasts-then (a.0).core (b.0).core y.core a.4 b.4, rows-then (a.0).core (b.0).core y.core a.5 b.5)

pub last-still : (w new : World) → ClientsStill w new → ClientsLast w new
last-still w new all i y at = (let r = all i y at in inl (r.0, r.1, r.2, inl r.3, λ g h a m log named there it. inl (r.4.forth g h it), keeps-rows new r.0 y r.3 r.5))

-- ---- every event

pub event-last : (w new : World) (e : Event) → IsEvent e → ClientsStand w → ClientsQuiet w → OnceStand w → AllNamedOnce w → Happens w e new → ClientsLast w new
event-last w new (event.Open i name priority) fine c q o n happens = last-open w new i happens.0.x happens.0.at name priority happens.1
event-last w new (event.Clear i k) fine c q o n happens =
    let x : ClientSide = happens.0.x in
    let log = o.there i x happens.0.at in
    last-clear w new i x happens.0.at log.0 log.1 (q.tidy i x happens.0.at) (n i x happens.0.at) k happens.0.h happens.0.named happens.1
event-last w new (event.Read i k data_type count) fine c q o n happens = last-read w new i happens.0.x happens.0.at k happens.0.h data_type count happens.1
event-last w new (event.Write i k e) fine c q o n happens = last-write w new i happens.0.x happens.0.at k happens.0.h e happens.1
event-last w new (event.WriteNotify i k e) fine c q o n happens = last-put w new i happens.0.x happens.0.at k happens.0.h e happens.1
event-last w new (event.Subscribe i k data_type count mask) fine c q o n happens =
    let x : ClientSide = happens.0.x in
    let log = o.there i x happens.0.at in
    last-subscribe w new i x happens.0.at log.0 log.1 (q.tidy i x happens.0.at) (n i x happens.0.at) k happens.0.h data_type count mask (c.sound i x happens.0.at).named.subscriptions fine.1 happens.1
event-last w new (event.Unsubscribe i k) fine c q o n happens =
    let x : ClientSide = happens.0.x in
    let log = o.there i x happens.0.at in
    last-unsubscribe w new i x happens.0.at log.0 log.1 (q.tidy i x happens.0.at) (n i x happens.0.at) k happens.0.s happens.0.named happens.1
event-last w new (event.Collect i r) fine c q o n happens = last-same w new (ap (λ (z : World). z.clients) happens.1.2)
event-last w new (event.GiveUp i r) fine c q o n happens = last-same w new (ap (λ (z : World). z.clients) happens.1.2)
event-last w new (event.ClientDatagram i from bytes) fine c q o n happens = last-datagram w new i happens.0.x happens.0.at from bytes happens.1
event-last w new (event.ServerDatagram i from bytes) fine c q o n happens = last-same w new (ap (λ (z : World). z.clients) happens.1.2)
event-last w new (event.Accept i) fine c q o n happens = last-accept w new i happens.0.x happens.0.v happens.0.at happens.1
event-last w new (event.Up k m) fine c q o n happens = (let h = happens.0.0 in last-up w new k h.j h.x h.joins.client m h.y happens.1)
event-last w new (event.Down k m) fine c q o n happens = (let h = happens.0.0 in last-down w new k h.j h.x h.joins.client m h.y happens.1)
event-last w new (event.ServerStep k) fine c q o n happens = (let h = happens.0 in last-same w new (still-server-step w new k h.j h.y happens.1).0)
event-last w new (event.ClientStep k) fine c q o n happens =
    let h = happens.0 in
    let log = o.there h.j.client h.x h.joins.client in
    last-hearing w new k h.j h.x h.joins.client log.0 log.1 (q.tidy h.j.client h.x h.joins.client) (n h.j.client h.x h.joins.client) h.joins.at h.is_open c happens.1
event-last w new (event.Pump k) fine c q o n happens = (let h = happens.0 in last-same w new (still-pump w new k h.j h.y happens.1).0)
event-last w new (event.CutClient k) fine c q o n happens = (let h = happens.0 in last-cut-client w new k h.j h.x h.joins.client happens.1)
event-last w new (event.CutServer k) fine c q o n happens = (let h = happens.0 in last-same w new (still-cut-server w new k h.j h.y happens.1).0)
event-last w new (event.ClientRestart i) fine c q o n happens = last-restart w new i happens.0.x happens.1
event-last w new (event.ServerRestart i) fine c q o n happens = last-same w new (still-server-restart w new i happens.0.y happens.1).0
event-last w new (event.Post i name e mask) fine c q o n happens = last-same w new (still-post w new i happens.0.y name e mask happens.1).0
event-last w new (event.Finish i name) fine c q o n happens = last-same w new (still-finish w new i happens.0.y name happens.1).0
event-last w new (event.Remove i name) fine c q o n happens = last-same w new (still-remove w new i happens.0.y name happens.1).0
event-last w new (event.Add i r) fine c q o n happens = last-same w new (still-add w new i happens.0.y r happens.1).0
event-last w new (event.Tick moment) fine c q o n happens =
    last-still w new (λ i y at. ticks-last moment _ w happens.1.0 happens.1.1 i y (subst (λ (v : World). At v.clients i y) happens.1.2 at))

-- ---- what stands, and what was ended

-- Each subscription that is named is on a channel that its caller has not cleared, or its
-- client's log has its end.
abbrev pub AllStandOrEnd : World → Type 0
AllStandOrEnd w = (i a m : ℕ) (x : ClientSide) (g : Handle) (log : List Line) → At w.clients i x → At w.client_logs x.life log → At x.names.subscriptions m (g, On a (Subscribe m)) → ((h : Handle) × IsKept x.core g h) ⊎ IsEndedBy log a m

ended-more : (log more : List Line) (a m : ℕ) → IsEndedBy log a m → IsEndedBy (log ++ more) a m
ended-more log more a m (inl c) = inl (c.0, At-append log more c.0 (Called (On a Clear) Nothing) c.1)
ended-more log more a m (inr (inl c)) = inr (inl (c.0, At-append log more c.0 (Called (On a (Cancel m)) Nothing) c.1))
ended-more log more a m (inr (inr o)) = inr (inr (o.0, (o.1.0, At-append log more o.1.0 (Noticed (On a (Subscribe m)) o.0) o.1.1)))

pub stand-on : (w new : World) → OnceStand w → WorldsOn w new → ClientsLast w new → AllStandOrEnd w → AllStandOrEnd new
stand-on w new once goes lasts all i a m y g log at logged named = elim (lasts i y at) [
  | inr fresh ↦ absurd (none_at m (g, On a (Subscribe m)) (subst (λ (v : ClientSide). At v.names.subscriptions m (g, On a (Subscribe m))) fresh.3 named))
  | inl b ↦
      let x : ClientSide = b.0 in
      let old = once.there i x b.1 in
      let more = goes.logs x.life old.0 old.1 in
      let log_is : old.0 ++ more.0 ≡ log = At-one new.client_logs y.life (old.0 ++ more.0) log (subst (λ (v : ℕ). At new.client_logs v (old.0 ++ more.0)) (sym b.2) more.1) logged in
      let was : At x.names.subscriptions m (g, On a (Subscribe m)) → ((h : Handle) × IsKept y.core g h) ⊎ IsEndedBy log a m = λ named_x. elim (all i a m x g old.0 b.1 old.1 named_x) [
        | inl kept ↦ elim (b.4 g kept.0 a m log named_x logged kept.1) [
          | inl still ↦ inl (kept.0, still)
          | inr ended ↦ inr ended
        ]
        | inr ended ↦ inr (subst (λ (v : List Line). IsEndedBy v a m) log_is (ended-more old.0 more.0 a m ended))
      ] in
      elim b.3 [
        | inl same ↦ was (subst (λ (v : List (Handle × Intent)). At v m (g, On a (Subscribe m))) same named)
        | inr made ↦ elim (At-snoc x.names.subscriptions (made.0, made.2) m (g, On a (Subscribe m)) (subst (λ (v : List (Handle × Intent)). At v m (g, On a (Subscribe m))) made.3 named)) [
          | inl before ↦ was before
          | inr last ↦ inl (made.1, subst (λ (v : Handle). IsKept y.core v made.1) (ap (λ (e : Handle × Intent). e.0) (sym last.1)) made.4)
        ]
      ]
]

-- The log of the client's life has the call of each that is named and held, for what it is held for.
abbrev pub AllHeldCalled : World → Type 0
AllHeldCalled w = (i m : ℕ) (x : ClientSide) (e : Handle × Intent) (d : Subscription) (log : List Line) → At w.clients i x → At w.client_logs x.life log → At x.names.subscriptions m e → under x.core.subscriptions e.0 ≡ Some d → IsCalledAs log e.1 d

called-more : (log more : List Line) (intent : Intent) (f d : Subscription) → AsksAlike f d → IsCalledAs log intent f → IsCalledAs (log ++ more) intent d
called-more log more intent f d (typed, counted, masked) (called, fits) =
    let line : Line = Called intent (ToWatch f.data_type f.count f.mask) in
    subst (λ (v : ℕ × ℕ × ℕ). In (log ++ more) (Called intent (ToWatch v.0 v.1 v.2)) × (v.2 < 65536)) (λ p. (sym typed p, sym counted p, sym masked p))
    ((called.0, At-append log more called.0 line called.1), fits)

pub held-called-on : (w new : World) → OnceStand w → WorldsOn w new → ClientsLast w new → AllHeldCalled w → AllHeldCalled new
held-called-on w new once goes lasts all i m y e d log at logged named there = elim (lasts i y at) [
  | inr fresh ↦ absurd (none_at m e (subst (λ (v : ClientSide). At v.names.subscriptions m e) fresh.3 named))
  | inl b ↦ elim (b.5 m e d log named there logged) [
    | inr called ↦ called
    | inl was ↦
        let x : ClientSide = b.0 in
        let old = once.there i x b.1 in
        let more = goes.logs x.life old.0 old.1 in
        let log_is : old.0 ++ more.0 ≡ log = At-one new.client_logs y.life (old.0 ++ more.0) log (subst (λ (v : ℕ). At new.client_logs v (old.0 ++ more.0)) (sym b.2) more.1) logged in
        subst (λ (v : List Line). IsCalledAs v e.1 d) log_is (called-more old.0 more.0 e.1 was.0 d was.3 (all i m x e was.0 old.0 b.1 old.1 was.1 was.2))
  ]
]

-- ---- EVENT_ADDs are named, and were called

-- Each EVENT_ADD that was sent on a circuit of the client's life, open or not, is named.
abbrev pub AllAddsNamed : World → Type 0
AllAddsNamed w = (n i l a m : ℕ) (c : Joined) (x : ClientSide) (s : Sent) → At w.circuits n c → At w.clients i x → c.lists.client ≡ x.life → At c.lists.up l s → s.intent ≡ On a (Subscribe m) → (g : Handle) × At x.names.subscriptions m (g, On a (Subscribe m))

pub adds-named-on : (w new : World) → Known w → OnceStand new → ClientsQuiet new → AddingBack w new → WorldsOn w new → ClientsUse w new
    → AllAddsNamed w → AllAddsNamed new
adds-named-on w new known once quiet adding goes uses all n i l a m d y s at at_y mine at_s is = elim (adding n d l s at at_s) [
  | inl other ↦ absurd (other a m is)
  | inr (inr z) ↦
      let same : i ≡ (z.c).client = once.apart i (z.c).client y z.y at_y z.at (sym mine ∙ life z.c z.on ∙ z.life) in
      let one : z.y ≡ y = At-one new.clients i z.y y (subst (λ (v : ℕ). At new.clients v z.y) (sym same) z.at) at_y in
      subst (λ (v : ClientSide). (g : Handle) × At v.names.subscriptions m (g, On a (Subscribe m))) one
      (z.g, subscribed-at (z.y).names (z.y).core z.g a m (quiet.tidy (z.c).client z.y z.at) (sym z.meant ∙ is))
  | inr (inl old) ↦
      let c : Joined = old.0 in
      elim (uses i y at_y) [
        | inr fresh ↦
            absurd
            (let lt : c.lists.client < length w.client_logs = known.lives.joined n c old.1 in
            let e : c.lists.client ≡ length w.client_logs = sym (life c old.1) ∙ mine ∙ ap (λ (v : ClientSide). v.life) fresh.3 in
            omega (arith, lt, e))
        | inl u ↦
            let r = all n i l a m c u.0 s old.1 u.1 (sym (life c old.1) ∙ mine ∙ u.2) old.2 is in
            elim u.3.1 [
              | inl same ↦ (r.0, subst (λ (v : List (Handle × Intent)). At v m (r.0, On a (Subscribe m))) (sym same) r.1)
              | inr more ↦ (r.0, subst (λ (v : List (Handle × Intent)). At v m (r.0, On a (Subscribe m))) (sym more.3) (At-append (u.0).names.subscriptions ((more.0, more.1) ∷ []) m (r.0, On a (Subscribe m)) r.1))
            ]
      ]
]
  where
    life : (c : Joined) → At w.circuits n c → d.lists.client ≡ c.lists.client
    life c on_c =
        let o = goes.circuits n c on_c in
        let one : o.0 ≡ d = At-one new.circuits n o.0 d o.1 at in
        ap (λ (v : Joined). v.lists.client) (sym one) ∙ o.2.client

-- the mask is read as it was given
halves : (n : ℕ) → n < 65536 → (n / 256 % 256) * 256 + n % 256 ≡ n
halves n fits = omega (arith, fits)

mask-given : (a : Wanted) (mask : ℕ) → mask < 65536 → mask_in (event_add_request a mask) ≡ mask
unfolding number16
mask-given a mask fits = halves mask fits

-- By these lines the subscription was called, for what the message asks for.
abbrev pub IsAddCalled : List Line → (a m : ℕ) → Fields → Type 0
IsAddCalled x a m r = (asks : Wish) × In x (Called (On a (Subscribe m)) asks) × MayAsk (Subscribe m) asks × AsksFor r asks

add-called : (x : List Line) (a m : ℕ) (r : Fields) (g : Handle) (d : Subscription) → IsAddOf r g d → IsCalledAs x (On a (Subscribe m)) d → IsAddCalled x a m r
add-called x a m r g d (sid, is) (called, fits) = (
  ToWatch d.data_type d.count d.mask,
  called,
  tt,
  (ap (λ (v : Fields). v.data_type) is, ap (λ (v : Fields). v.count) is, ap (λ (v : Fields). mask_in v) is ∙ mask-given (wanted_by sid g d) d.mask fits),
)

-- The log of its client's life has the call of each EVENT_ADD that was sent, for what that asks for.
abbrev pub AllAddsCalled : World → Type 0
AllAddsCalled w = (n k a m : ℕ) (c : Joined) (s : Sent) (x : List Line) → At w.circuits n c → At c.lists.up k s → At w.client_logs c.lists.client x → s.intent ≡ On a (Subscribe m) → IsAddCalled x a m s.message

pub adds-called-on : (w new : World) → OnceStand w → ClientsQuiet new → AddingBack w new → WorldsOn w new → AllHeldCalled new → AllAddsCalled w → AllAddsCalled new
adds-called-on w new once quiet adding goes held all n k a m d s x at at_s logged is = elim (adding n d k s at at_s) [
  | inl other ↦ absurd (other a m is)
  | inr (inr z) ↦
      let named : At (z.y).names.subscriptions m (z.g, On a (Subscribe m)) = subscribed-at (z.y).names (z.y).core z.g a m (quiet.tidy (z.c).client z.y z.at) (sym z.meant ∙ is) in
      let there : At new.client_logs (z.y).life x = subst (λ (v : ℕ). At new.client_logs v x) (life z.c z.on ∙ z.life) logged in
      add-called x a m s.message z.g (z.stood).d z.own (held (z.c).client m z.y (z.g, On a (Subscribe m)) (z.stood).d x z.at there named (z.stood).there)
  | inr (inl old) ↦
      let c : Joined = old.0 in
      let t = once.lives n c old.1 in
      let g = goes.logs c.lists.client t.0 t.1 in
      let x_is : x ≡ t.0 ++ g.0 = At-one new.client_logs c.lists.client x (t.0 ++ g.0) (subst (λ (v : ℕ). At new.client_logs v x) (life c old.1) logged) g.1 in
      let was = all n k a m c s t.0 old.1 old.2 t.1 is in
      let line : Line = Called (On a (Subscribe m)) was.0 in
      (was.0, (was.1.0, subst (λ (v : List Line). At v was.1.0 line) (sym x_is) (At-append t.0 g.0 was.1.0 line was.1.1)), was.2, was.3)
]
  where
    life : (c : Joined) → At w.circuits n c → d.lists.client ≡ c.lists.client
    life c on_c =
        let o = goes.circuits n c on_c in
        let one : o.0 ≡ d = At-one new.circuits n o.0 d o.1 at in
        ap (λ (v : Joined). v.lists.client) (sym one) ∙ o.2.client
