-- What each event makes of the clients of a world: requests that were issued and open stay so, with
-- their channels live, or are over; one is new by a read or a put.
use Rattle.std.proofs.Common.{◌≡◌, ℕ, ◌+◌, ◌⊎◌, inl, inr, Bool, true, false, cond, List, [], ◌∷◌, ◌++◌, length, Option, Some, None, refl, sym, ap, ◌∙◌, subst}
use Rattle.std.specs.Prelude.{drop, is_none, map, slice_set}
use Rattle.std.specs.List.{FoldsTo}
use Rattle.std.proofs.lemmas.Bool.{both_ways}
use Rattle.ca_text.specs.Place.{At}
use Rattle.ca_text.proofs.Places.{At-set}
use Rattle.ca_arena.specs.declared.handle.Handle.{Handle}
use Rattle.ca_dbr.specs.Elements.{Elements}
use Rattle.ca_ids.specs.Table.{MayGive, Table, under, with_held}
use Rattle.ca_requests.specs.Calls.{new_request}
use Rattle.ca_requests.specs.Requests.{Asked, Request}
use Rattle.ca_requests.specs.Requests as request
use Rattle.ca_model.specs.Answers.{Closed, NeedBytes, Notices, Sending, Stepped}
use Rattle.ca_model.specs.Client.{Channel, Client, ClientCircuit, Connection, Live, On, Standing, connection_at, later, sending, standing_at}
use Rattle.ca_model.specs.ClientCalls.{IsLive, LiveChannel, cancel_sent, event_add_sent, new_subscription, unsubscribed, write_sent}
use Rattle.ca_model.specs.ClientEnds.{ConnectsOn, StepsOn, after_taking, handed_over}
use Rattle.ca_model.specs.Ends.{Address}
use Rattle.ca_model.specs.Hears.{Effect}
use Rattle.ca_model.specs.History.{Intent}
use Rattle.ca_model.specs.History as history
use Rattle.ca_model.proofs.Standings.{found-standing}
use Rattle.ca_model.proofs.Tables.{held-back}
use Rattle.ca_model.specs.ClientEvents.{DownTaken, HappensAccept, HappensClear, HappensClientDatagram, HappensClientRestart, HappensClientStep, HappensCutClient, HappensDown, HappensOpen, HappensRead, HappensSubscribe, HappensUnsubscribe, HappensUp, HappensWrite, HappensWriteNotify, TicksOne, WantsFirst, client_stepped}
use Rattle.ca_model.specs.Events.{Event}
use Rattle.ca_model.specs.Events as event
use Rattle.ca_model.specs.Runs.{Happens}
use Rattle.ca_model.specs.World.{ClientSetting, ClientSide, Joined, Names, ServerSide, World, addresses, client_begun, with_client, with_circuit, with_server}
use Rattle.ca_laws_parts.specs.Held.{with_request, with_subscription}
use Rattle.ca_laws_parts.specs.Clients.{ClientsStand}
use Rattle.ca_laws_parts.proofs.ClientsKeep.{none-under}
use Rattle.ca_laws_parts.proofs.ClientsMore.{unconnected-is, wanted-there}
use Rattle.ca_laws_runs.specs.Quiet.{IsAnswered}
use Rattle.ca_laws_runs.proofs.OnceStill.{still-add, still-cut-server, still-finish, still-post, still-pump, still-remove, still-server-restart, still-server-step}
use Rattle.ca_laws_runs.proofs.OpenLive.{AreOpenLive, IsLiveOn, Opens, opens-all-received, opens-cleared, opens-connected, opens-ended, opens-given, opens-handed, opens-heard, opens-itself, opens-live, opens-opened, opens-same, opens-sending, opens-then, opens-ticked, opens-unsubscribed}

-- ---- one client

-- A request was issued on a live channel: it is the last that is named.
pub record IsIssued (n : Names) (x : Client) (now : Names) (y : Client) : Type 0 where
  pub h : Handle
  pub q : Handle
  pub l : LiveChannel
  pub asked : Asked
  pub intent : Intent
  pub live : IsLive x h l
  pub may : MayGive x.requests q
  pub names : now.requests ≡ n.requests ++ (q, intent) ∷ []
  pub meant : (a : ℕ) × (kind : history.Kind) × IsAnswered kind × (intent ≡ history.On a (history.Request kind (length n.requests)))
  pub channels : y.channels ≡ x.channels
  pub requests : y.requests ≡ with_held q (new_request h l.circuit asked) x.requests

-- Nothing is open that was not, or a request was issued.
abbrev pub Goes : (n : Names) (x : Client) (now : Names) (y : Client) → Type 0
Goes n x now y = ((now.requests ≡ n.requests) × Opens x y) ⊎ IsIssued n x now y

-- The client of this life begins now.
abbrev pub IsFresh : World → ClientSide → Type 0
IsFresh w y = (servers : List Address) × (moment : ℕ) × (g : ClientSetting) × (y ≡ client_begun servers moment (length w.client_logs) g)

-- Each client of the world goes on so, or begins now.
abbrev pub ClientsGo : (w new : World) → Type 0
ClientsGo w new = (i : ℕ) (y : ClientSide) → At new.clients i y → ((x : ClientSide) × At w.clients i x × (y.life ≡ x.life) × Goes x.names x.core y.names y.core) ⊎ IsFresh w y

goes-itself : (n : Names) (x : Client) → Goes n x n x
goes-itself n x = inl (refl, opens-itself x)

-- an open request is on a live channel still
pub goes-live : (n : Names) (x : Client) (now : Names) (y : Client) → Goes n x now y → AreOpenLive x → AreOpenLive y
goes-live n x now y (inl o) live = opens-live x y o.1 live
goes-live n x now y (inr f) live = λ q r is it. elim (held-back x.requests q f.q (new_request f.h (f.l).circuit f.asked) r (subst (λ (t : Table Request). under t q ≡ Some r) f.requests is)) [
  | inr old ↦ subst (λ (t : Table Channel). IsLiveOn t r.circuit r.channel) (sym f.channels) (live q r old it)
  | inl own ↦
      let ch = found-standing x f.h (On (f.l).circuit (Live (f.l).native (f.l).rights)) f.live in
      subst (λ (v : Request × Table Channel). IsLiveOn v.1 v.0.circuit v.0.channel) (λ i. (sym own.1 i, sym f.channels i))
      (((f.l).native).sid, record { ch = ch.0; native = (f.l).native; rights = (f.l).rights; there = ch.1; stands = ch.2; is = refl })
]

-- ---- worlds

pub go-same : (w new : World) → new.clients ≡ w.clients → ClientsGo w new
go-same w new is i y at = inl (y, subst (λ (l : List ClientSide). At l i y) is at, refl, goes-itself y.names y.core)

pub go-set : (w new : World) (i : ℕ) (x z : ClientSide) → At w.clients i x → new.clients ≡ slice_set w.clients i z → z.life ≡ x.life → Goes x.names x.core z.names z.core → ClientsGo w new
go-set w new i x z at is life goes l y there = elim (At-set w.clients i z l y (subst (λ (c : List ClientSide). At c l y) is there)) [
  | inl here ↦ inl (x, subst (λ (n : ℕ). At w.clients n x) (sym here.0) at, ap (λ (v : ClientSide). v.life) here.1 ∙ life, subst (λ (v : ClientSide). Goes x.names x.core v.names v.core) (sym here.1) goes)
  | inr old ↦ inl (y, old.0, refl, goes-itself y.names y.core)
]

-- by its core and its names then
go-called : (w new : World) (i : ℕ) (x : ClientSide) (names : Names) (core : Client) → At w.clients i x → new.clients ≡ slice_set w.clients i (record x { core = core; names = names }) → Goes x.names x.core names core → ClientsGo w new
go-called w new i x names core at is goes = go-set w new i x (record x { core = core; names = names }) at is refl goes

module _ (w new : World) (i : ℕ) (x : ClientSide) (at : At w.clients i x) where
  go-open : (name : List ℕ) (priority : ℕ) → HappensOpen w i x name priority new → ClientsGo w new
  go-open name priority happens = elim happens [
    | inl refusal ↦ go-same w new (ap (λ (z : World). z.clients) refusal.3)
    | inr did ↦
        go-called w new i x (record x.names { channels = x.names.channels ++ did.0 ∷ [] }) did.2 at (ap (λ (z : World). z.clients) did.4)
        (inl (refl, opens-opened x.core (record { name = name; priority = priority; now = w.moment }) did.0 did.1 did.2 did.3))
  ]

  go-read : (c : ℕ) (h : Handle) (data_type count : ℕ) → HappensRead w i x c h data_type count new → ClientsGo w new
  go-read c h data_type count happens = elim happens [
    | inl refusal ↦ go-same w new (ap (λ (z : World). z.clients) refusal.3)
    | inr did ↦
        let reads = did.3 in
        let intent : Intent = history.On c (history.Request history.Read (length x.names.requests)) in
        go-called w new i x (with_request did.0 intent x.names) did.2 at (ap (λ (z : World). z.clients) did.4)
        (subst (λ (v : Client). Goes x.names x.core (with_request did.0 intent x.names) v) (sym reads.4.1)
        (inr (record { h = h; q = did.0; l = reads.0; asked = request.Read data_type count; intent = intent; meant = (c, history.Read, tt, refl); live = reads.1; may = reads.3; names = refl; channels = refl; requests = refl })))
  ]

  go-put : (c : ℕ) (h : Handle) (e : Elements) → HappensWriteNotify w i x c h e new → ClientsGo w new
  go-put c h e happens = elim happens [
    | inl refusal ↦ go-same w new (ap (λ (z : World). z.clients) refusal.3)
    | inr did ↦
        let puts = did.3 in
        let intent : Intent = history.On c (history.Request history.Put (length x.names.requests)) in
        go-called w new i x (with_request did.0 intent x.names) did.2 at (ap (λ (z : World). z.clients) did.4)
        (subst (λ (v : Client). Goes x.names x.core (with_request did.0 intent x.names) v) (sym puts.4.1)
        (inr (record { h = h; q = did.0; l = puts.0; asked = request.Put; intent = intent; meant = (c, history.Put, tt, refl); live = puts.1; may = puts.3; names = refl; channels = refl; requests = refl })))
  ]

  go-write : (c : ℕ) (h : Handle) (e : Elements) → HappensWrite w i x c h e new → ClientsGo w new
  go-write c h e happens = elim happens [
    | inl refusal ↦ go-same w new (ap (λ (z : World). z.clients) refusal.3)
    | inr did ↦
        go-called w new i x (record x.names { writes = x.names.writes + 1 }) did.2 at (ap (λ (z : World). z.clients) did.4)
        (inl (refl, subst (λ (v : Client). Opens x.core v) (sym did.3.3.1) (opens-sending (write_sent h (did.3.0) e ∷ []) x.core)))
  ]

  go-subscribe : (c : ℕ) (h : Handle) (data_type count mask : ℕ) → HappensSubscribe w i x c h data_type count mask new → ClientsGo w new
  go-subscribe c h data_type count mask happens = elim happens [
    | inl refusal ↦ go-same w new (ap (λ (z : World). z.clients) refusal.3)
    | inr did ↦
        let z : Client = record x.core { subscriptions = with_held did.0 (new_subscription h (record { data_type = data_type; count = count }) mask) x.core.subscriptions } in
        let s : Sending = event_add_sent (did.3.0).circuit ((did.3.0).native).sid did.0 (new_subscription h (record { data_type = data_type; count = count }) mask) in
        go-called w new i x (with_subscription did.0 (history.On c (history.Subscribe (length x.names.subscriptions))) x.names) did.2 at (ap (λ (z : World). z.clients) did.4)
        (inl (refl, subst (λ (v : Client). Opens x.core v) (sym did.3.4.1) (opens-then x.core z (sending (s ∷ []) z) (opens-same x.core z refl refl) (opens-sending (s ∷ []) z))))
  ]

  go-unsubscribe : (g : Handle × Intent) → HappensUnsubscribe w i x g new → ClientsGo w new
  go-unsubscribe g happens = elim happens [
    | inl refusal ↦ go-same w new (ap (λ (z : World). z.clients) refusal.3)
    | inr did ↦
        let ends = did.3 in
        let st : Option Standing = standing_at x.core (ends.0).channel in
        let z : Client = unsubscribed g.0 st x.core in
        go-called w new i x x.names did.2 at (ap (λ (z : World). z.clients) did.4)
        (inl (refl, subst (λ (v : Client). Opens x.core v) (sym ends.3.1) (opens-then x.core z (sending (cancel_sent g.0 ends.0 st) z) (opens-unsubscribed g.0 st x.core) (opens-sending (cancel_sent g.0 ends.0 st) z))))
  ]

  go-clear : (c : ℕ) (h : Handle) → HappensClear w i x c h new → ClientsGo w new
  go-clear c h happens = elim happens [
    | inl refusal ↦ go-same w new (ap (λ (z : World). z.clients) refusal.3)
    | inr did ↦
        go-called w new i x x.names did.2 at (ap (λ (z : World). z.clients) did.4) (inl (refl, subst (λ (v : Client). Opens x.core v) (sym did.3.3.1) (opens-cleared h did.3.0 x.core did.3.1)))
  ]

  go-datagram : (from : Address) (bytes : List ℕ) → HappensClientDatagram w i x from bytes new → ClientsGo w new
  go-datagram from bytes happens =
      let now : Client = record x.core { moment = later w.moment x.core } in
      let e : Effect = record { core = happens.1; sent = happens.0; notices = [] } in
      go-called w new i x x.names happens.1 at (ap (λ (z : World). z.clients) happens.3) (inl (refl, opens-then x.core now happens.1 (opens-same x.core now refl refl) (opens-all-received from happens.2.0 now e happens.2.2)))

module _ (w new : World) (k : ℕ) (j : Joined) (x : ClientSide) (there : At w.clients j.client x) where
  go-up : (n : ℕ) (y : ServerSide) → HappensUp w k n j x y new → ClientsGo w new
  go-up n y happens = subst (λ (v : World). ClientsGo w v) (sym happens.2) (go j.lists.client_open)
    where
      go : (b : Bool) → ClientsGo w (with_server j.server (record y { core = happens.0 }) (cond b (with_client j.client (record x { core = handed_over j.at_client n x.core }) w) (with_circuit k (record j { left_up = drop n j.left_up }) w)))
      go true = go-set w (with_server j.server (record y { core = happens.0 }) (with_client j.client (record x { core = handed_over j.at_client n x.core }) w)) j.client x (record x { core = handed_over j.at_client n x.core }) there refl refl (inl (refl, opens-handed j.at_client n x.core))
      go false = go-same w (with_server j.server (record y { core = happens.0 }) (with_circuit k (record j { left_up = drop n j.left_up }) w)) refl

  go-down : (n : ℕ) (y : ServerSide) → HappensDown w k n j x y new → ClientsGo w new
  go-down n y happens =
      go-called w new j.client x x.names happens.2 there
      (ap (λ (z : World). z.clients) happens.5 ∙ ap (λ (c : List ClientSide). slice_set c j.client (record x { core = happens.2; names = x.names })) (taken happens.0 happens.3))
      (inl (refl, opens-given x.core j.at_client _ _ (connection_at x.core j.at_client) happens.1 happens.2 happens.4))
    where
      taken : (mid : World) → DownTaken w k n j y mid → mid.clients ≡ w.clients
      taken mid took = elim took [
        | inl open_it ↦ ap (λ (z : World). z.clients) open_it.1.2
        | inr closed_it ↦ ap (λ (z : World). z.clients) closed_it.1
      ]

  go-cut-client : HappensCutClient w k j x new → ClientsGo w new
  go-cut-client happens =
      go-called w new j.client x x.names happens.2 there (ap (λ (z : World). z.clients) happens.4) (inl (refl, subst (λ (v : Client). Opens x.core v) (sym happens.3.2) (opens-ended j.at_client x.core)))

  go-client-step : j.lists.client_open ≡ true → At w.circuits k j → ClientsStand w → HappensClientStep w k j x new → ClientsGo w new
  go-client-step open_it at stands happens = subst (λ (v : World). ClientsGo w v) (sym happens.4) (go (connection_at x.core j.at_client) refl happens.0 happens.1 happens.2 happens.3)
    where
      go : (o : Option Connection) → connection_at x.core j.at_client ≡ o → (did : Stepped) (sent : List Sending) (core : Client) → StepsOn x.core j.at_client o did sent core → ClientsGo w (client_stepped k j x did sent core w)
      go None is did sent core steps = absurd (both_ways (is_none (connection_at x.core j.at_client)) (stands.connected k j x at there open_it) (ap is_none is))
      go (Some d) is NeedBytes sent core steps = go-same w w refl
      go (Some d) is (Closed c) sent core steps =
          go-called w (client_stepped k j x (Closed c) sent core w) j.client x x.names core there refl (inl (refl, subst (λ (v : Client). Opens x.core v) (sym steps.1.2) (opens-ended j.at_client x.core)))
      go (Some d) is (Notices told) sent core steps =
          let y : Client = after_taking j.at_client steps.rest x.core in
          go-called w (client_stepped k j x (Notices told) sent core w) j.client x x.names core there refl
          (inl (refl, opens-then x.core y core (opens-same x.core y refl refl) (opens-heard y j.at_client steps.m (record { core = core; sent = sent; notices = told }) steps.hears)))

go-accept : (w new : World) (c : ℕ) (x : ClientSide) (v : WantsFirst w x) → At w.clients c x → HappensAccept w c x v new → ClientsGo w new
go-accept w new c x v at happens = elim happens.leaves [
  | inl refusal ↦ go-same w new (ap (λ (z : World). z.clients) refusal.1)
  | inr did ↦
      let on : Handle = v.v.circuit in
      let there = wanted-there x.core v.place v.v v.at in
      go-called w new c x x.names did.3 at (ap (λ (z : World). z.clients) did.6)
      (inl (refl, opens-connected x.core on there.0 did.1 did.2 did.3 (subst (λ (o : Option ClientCircuit). ConnectsOn x.core on o did.1 did.2 did.3) (unconnected-is x.core on there.0 there.1 there.2) did.5)))
]

go-restart : (w new : World) (i : ℕ) (x : ClientSide) → HappensClientRestart w i x new → ClientsGo w new
go-restart w new i x happens l y there = elim (At-set w.clients i z l y (subst (λ (c : List ClientSide). At c l y) (ap (λ (v : World). v.clients) happens) there)) [
  | inl here ↦ inr (servers, w.moment, x.setting, here.1)
  | inr old ↦ inl (y, old.0, refl, goes-itself y.names y.core)
]
  where
    servers : List Address
    servers = addresses (map (λ (y : ServerSide). y.setting) w.servers)

    z : ClientSide
    z = client_begun servers w.moment (length w.client_logs) x.setting

-- ---- a moment

-- no request is issued, and no client begins
abbrev pub ClientsOpen : (w new : World) → Type 0
ClientsOpen w new = (i : ℕ) (y : ClientSide) → At new.clients i y → (x : ClientSide) × At w.clients i x × (y.life ≡ x.life) × (y.names ≡ x.names) × Opens x.core y.core

tick-open : (moment : ℕ) (w : World) (i : ℕ) (new : World) → TicksOne moment w i new → ClientsOpen w new
tick-open moment w i new (x, at, t, sent, core, does, is) l y there = elim (At-set w.clients i (record x { core = core }) l y (subst (λ (c : List ClientSide). At c l y) (ap (λ (v : World). v.clients) is) there)) [
  | inl here ↦ (
    x,
    subst (λ (n : ℕ). At w.clients n x) (sym here.0) at,
    ap (λ (v : ClientSide). v.life) here.1,
    ap (λ (v : ClientSide). v.names) here.1,
    subst (λ (v : Client). Opens x.core v) (sym (ap (λ (v : ClientSide). v.core) here.1 ∙ does.2)) (opens-ticked moment x.core),
  )
  | inr old ↦ (y, old.0, refl, refl, opens-itself y.core)
]

pub ticks-open : (moment : ℕ) (is : List ℕ) (w new : World) → FoldsTo (TicksOne moment) w is new → ClientsOpen w new
ticks-open moment [] w new folds i y at = (y, subst (λ (v : World). At v.clients i y) (sym folds) at, refl, refl, opens-itself y.core)
ticks-open moment (k ∷ is) w new folds i y at =
    let b = ticks-open moment is folds.0 new folds.2 i y at in
    let a = tick-open moment w k folds.0 folds.1 i b.0 b.1 in
    (a.0, a.1, b.2 ∙ a.2, b.3 ∙ a.3, opens-then (a.0).core (b.0).core y.core a.4 b.4)

pub go-open-all : (w new : World) → ClientsOpen w new → ClientsGo w new
go-open-all w new open_all i y at = (let a = open_all i y at in inl (a.0, a.1, a.2, inl (ap (λ (n : Names). n.requests) a.3, a.4)))

-- ---- every event

pub go-event : (w new : World) (e : Event) → ClientsStand w → Happens w e new → ClientsGo w new
go-event w new (event.Open i name priority) c happens = go-open w new i happens.0.x happens.0.at name priority happens.1
go-event w new (event.Clear i k) c happens = go-clear w new i happens.0.x happens.0.at k happens.0.h happens.1
go-event w new (event.Read i k data_type count) c happens = go-read w new i happens.0.x happens.0.at k happens.0.h data_type count happens.1
go-event w new (event.Write i k e) c happens = go-write w new i happens.0.x happens.0.at k happens.0.h e happens.1
go-event w new (event.WriteNotify i k e) c happens = go-put w new i happens.0.x happens.0.at k happens.0.h e happens.1
go-event w new (event.Subscribe i k data_type count mask) c happens = go-subscribe w new i happens.0.x happens.0.at k happens.0.h data_type count mask happens.1
go-event w new (event.Unsubscribe i n) c happens = go-unsubscribe w new i happens.0.x happens.0.at happens.0.s happens.1
go-event w new (event.Collect i r) c happens = go-same w new (ap (λ (z : World). z.clients) happens.1.2)
go-event w new (event.GiveUp i r) c happens = go-same w new (ap (λ (z : World). z.clients) happens.1.2)
go-event w new (event.ClientDatagram i from bytes) c happens = go-datagram w new i happens.0.x happens.0.at from bytes happens.1
go-event w new (event.ServerDatagram i from bytes) c happens = go-same w new (ap (λ (z : World). z.clients) happens.1.2)
go-event w new (event.Accept i) c happens = go-accept w new i happens.0.x happens.0.v happens.0.at happens.1
go-event w new (event.Up k n) c happens = (let h = happens.0.0 in go-up w new k h.j h.x h.joins.client n h.y happens.1)
go-event w new (event.Down k n) c happens = (let h = happens.0.0 in go-down w new k h.j h.x h.joins.client n h.y happens.1)
go-event w new (event.ServerStep k) c happens = (let h = happens.0 in go-same w new (still-server-step w new k h.j h.y happens.1).0)
go-event w new (event.ClientStep k) c happens = (let h = happens.0 in go-client-step w new k h.j h.x h.joins.client h.is_open h.joins.at c happens.1)
go-event w new (event.Pump k) c happens = (let h = happens.0 in go-same w new (still-pump w new k h.j h.y happens.1).0)
go-event w new (event.CutClient k) c happens = (let h = happens.0 in go-cut-client w new k h.j h.x h.joins.client happens.1)
go-event w new (event.CutServer k) c happens = (let h = happens.0 in go-same w new (still-cut-server w new k h.j h.y happens.1).0)
go-event w new (event.ClientRestart i) c happens = go-restart w new i happens.0.x happens.1
go-event w new (event.ServerRestart i) c happens = go-same w new (still-server-restart w new i happens.0.y happens.1).0
go-event w new (event.Post i name e mask) c happens = go-same w new (still-post w new i happens.0.y name e mask happens.1).0
go-event w new (event.Finish i name) c happens = go-same w new (still-finish w new i happens.0.y name happens.1).0
go-event w new (event.Remove i name) c happens = go-same w new (still-remove w new i happens.0.y name happens.1).0
go-event w new (event.Add i r) c happens = go-same w new (still-add w new i happens.0.y r happens.1).0
go-event w new (event.Tick moment) c happens =
    go-open-all w new (λ i y at. ticks-open moment _ w happens.1.0 happens.1.1 i y (subst (λ (v : World). At v.clients i y) happens.1.2 at))

-- ---- open requests are on live channels, in every run

abbrev pub AllOpenLive : World → Type 0
AllOpenLive w = (i : ℕ) (x : ClientSide) → At w.clients i x → AreOpenLive x.core

pub go-live : (w new : World) → ClientsGo w new → AllOpenLive w → AllOpenLive new
go-live w new goes all i y at = elim (goes i y at) [
  | inl old ↦ goes-live (old.0).names (old.0).core y.names y.core old.3 (all i old.0 old.1)
  | inr fresh ↦ subst (λ (v : ClientSide). AreOpenLive v.core) (sym fresh.3) (λ q r is it. absurd (none-under q r is))
]
