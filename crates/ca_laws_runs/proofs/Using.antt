-- What was called stays so, client by client, in every event: a subscription that is over stays
-- over, and a client that begins again is another.
use Rattle.std.proofs.Common.{◌≡◌, ℕ, ◌+◌, ◌<◌, ◌⊎◌, inl, inr, Bool, true, false, cond, List, [], ◌∷◌, ◌++◌, length, Option, Some, None, refl, sym, ap, ◌∙◌, subst, arith}
use Rattle.std.specs.Prelude.{drop, is_none, map, slice_set}
use Rattle.std.specs.List.{FoldsTo}
use Rattle.std.proofs.lemmas.Bool.{both_ways}
use Rattle.ca_text.specs.Place.{At}
use Rattle.ca_text.proofs.Places.{At-one, At-set, At-snoc, At-within}
use Rattle.ca_arena.specs.declared.handle.Handle.{Handle}
use Rattle.ca_dbr.specs.Elements.{Elements}
use Rattle.ca_ids.specs.Table.{MayGive, Table, under}
use Rattle.ca_monitor.specs.Subscriptions.{Subscription}
use Rattle.ca_model.specs.Placed.{WasGiven}
use Rattle.ca_laws_parts.proofs.RunsSending.{not-given}
use Rattle.ca_laws_parts.proofs.WritesLists.{none_at}
use Rattle.ca_model.specs.Answers.{Closed, NeedBytes, Notices, Sending, Stepped}
use Rattle.ca_model.specs.Client.{Client, ClientCircuit, Connection, connection_at, ended, later}
use Rattle.ca_model.specs.ClientEnds.{ConnectsOn, StepsOn, after_taking, handed_over}
use Rattle.ca_model.specs.Ends.{Address}
use Rattle.ca_model.specs.Hears.{Effect}
use Rattle.ca_model.specs.History.{Intent, Line}
use Rattle.ca_model.specs.History as history
use Rattle.ca_model.specs.ClientEvents.{DownTaken, HappensAccept, HappensClear, HappensClientDatagram, HappensClientRestart, HappensClientStep, HappensCutClient, HappensDown, HappensOpen, HappensRead, HappensSubscribe, HappensUnsubscribe, HappensUp, HappensWrite, HappensWriteNotify, TicksOne, WantsFirst, channel_number, client_stepped, lines_of, meant_by}
use Rattle.ca_model.specs.Events.{Event}
use Rattle.ca_model.specs.Events as event
use Rattle.ca_model.specs.Runs.{Happens}
use Rattle.ca_model.specs.World.{ClientSide, Joined, Names, ServerSide, World, addresses, client_begun, with_client, with_circuit, with_server}
use Rattle.ca_laws_parts.specs.Held.{with_request, with_subscription}
use Rattle.ca_laws_parts.specs.Clients.{ClientsStand}
use Rattle.ca_laws_parts.proofs.ClientsMore.{unconnected-is, wanted-there}
use Rattle.ca_laws_runs.specs.Quiet.{ClientsQuiet, HasNumber, Tidy}
use Rattle.ca_laws_runs.proofs.Going.{IsFresh}
use Rattle.ca_laws_runs.proofs.HeardClients.{quiet-ticks}
use Rattle.ca_laws_runs.proofs.OnceCalls.{IsOverBy, IsUsed, calls-clear, calls-moved, calls-open, calls-put, calls-read, calls-subscribe, calls-unsubscribe, calls-write, no-lines, notices-no-call}
use Rattle.ca_laws_runs.proofs.OnceClients.{less-handed}
use Rattle.ca_laws_runs.proofs.OnceLess.{less-ended, less-on, less-same}
use Rattle.ca_laws_runs.proofs.OnceMoved.{Moved, moved-all-received, moved-before, moved-connected, moved-given, moved-heard, moved-less, moved-ticked}
use Rattle.ca_laws_runs.proofs.Phases.{same-number}
use Rattle.ca_laws_runs.proofs.Says.{subscribed-at}
use Rattle.ca_laws_runs.proofs.OnceStill.{still-add, still-cut-server, still-finish, still-post, still-pump, still-remove, still-server-restart, still-server-step}

-- ---- one client

-- The same subscriptions are named, or one more, by a handle that had not been given.
abbrev pub NamesMore : (n : Names) (x : Client) (now : Names) → Type 0
NamesMore n x now = (now.subscriptions ≡ n.subscriptions) ⊎ ((q : Handle) × (intent : Intent) × MayGive x.subscriptions q × (now.subscriptions ≡ n.subscriptions ++ (q, intent) ∷ []))

-- What was called stays so.
abbrev pub Olds : (n : Names) (x : Client) (now : Names) (y : Client) → Type 0
Olds n x now y = ((intent : Intent) → IsUsed n x intent → IsUsed now y intent) × NamesMore n x now

-- So it is of each client of the world, or it begins now.
abbrev pub ClientsUse : (w new : World) → Type 0
ClientsUse w new = (i : ℕ) (y : ClientSide) → At new.clients i y → ((x : ClientSide) × At w.clients i x × (y.life ≡ x.life) × Olds x.names x.core y.names y.core) ⊎ IsFresh w y

use-same : (w new : World) → new.clients ≡ w.clients → ClientsUse w new
use-same w new is i y at = inl (y, subst (λ (l : List ClientSide). At l i y) is at, refl, (λ intent u. u, inl refl))

use-set : (w new : World) (i : ℕ) (x z : ClientSide) → At w.clients i x → new.clients ≡ slice_set w.clients i z → z.life ≡ x.life → Olds x.names x.core z.names z.core → ClientsUse w new
use-set w new i x z at is life olds l y there = elim (At-set w.clients i z l y (subst (λ (c : List ClientSide). At c l y) is there)) [
  | inl here ↦ inl (x, subst (λ (n : ℕ). At w.clients n x) (sym here.0) at, ap (λ (v : ClientSide). v.life) here.1 ∙ life, subst (λ (v : ClientSide). Olds x.names x.core v.names v.core) (sym here.1) olds)
  | inr old ↦ inl (y, old.0, refl, (λ intent u. u, inl refl))
]

use-called : (w new : World) (i : ℕ) (x : ClientSide) (names : Names) (core : Client) → At w.clients i x → new.clients ≡ slice_set w.clients i (record x { core = core; names = names }) → Olds x.names x.core names core → ClientsUse w new
use-called w new i x names core at is olds = use-set w new i x (record x { core = core; names = names }) at is refl olds

use-moved : (n : Names) (x : Client) (sent : List Sending) (y : Client) → Tidy n x → Moved x sent y → Olds n x n y
use-moved n x sent y t m = ((calls-moved n x sent y [] t m no-lines).olds, inl refl)

module _ (w new : World) (i : ℕ) (x : ClientSide) (at : At w.clients i x) (stands : ClientsStand w) (q : ClientsQuiet w) where
  use-open : (name : List ℕ) (priority : ℕ) → HappensOpen w i x name priority new → ClientsUse w new
  use-open name priority happens = elim happens [
    | inl refusal ↦ use-same w new (ap (λ (z : World). z.clients) refusal.3)
    | inr did ↦
        use-called w new i x (record x.names { channels = x.names.channels ++ did.0 ∷ [] }) did.2 at (ap (λ (z : World). z.clients) did.4)
        ((calls-open x.names x.core (record { name = name; priority = priority; now = w.moment }) did.0 did.1 did.2 (length x.names.channels) name did.3 (q.tidy i x at)).olds, inl refl)
  ]

  use-read : (c : ℕ) (h : Handle) (data_type count : ℕ) → HappensRead w i x c h data_type count new → ClientsUse w new
  use-read c h data_type count happens = elim happens [
    | inl refusal ↦ use-same w new (ap (λ (z : World). z.clients) refusal.3)
    | inr did ↦
        use-called w new i x (with_request did.0 (history.On c (history.Request history.Read (length x.names.requests))) x.names) did.2 at (ap (λ (z : World). z.clients) did.4)
        ((calls-read x.names x.core c h (stands.sound i x at).placed (stands.sound i x at).named.requests (record { data_type = data_type; count = count }) did.0 did.1 did.2 did.3).olds, inl refl)
  ]

  use-put : (c : ℕ) (h : Handle) (e : Elements) → HappensWriteNotify w i x c h e new → ClientsUse w new
  use-put c h e happens = elim happens [
    | inl refusal ↦ use-same w new (ap (λ (z : World). z.clients) refusal.3)
    | inr did ↦
        use-called w new i x (with_request did.0 (history.On c (history.Request history.Put (length x.names.requests))) x.names) did.2 at (ap (λ (z : World). z.clients) did.4)
        ((calls-put x.names x.core c h (stands.sound i x at).placed (stands.sound i x at).named.requests e did.0 did.1 did.2 did.3).olds, inl refl)
  ]

  use-write : (c : ℕ) (h : Handle) (e : Elements) → At x.names.channels c h → HappensWrite w i x c h e new → ClientsUse w new
  use-write c h e named happens = elim happens [
    | inl refusal ↦ use-same w new (ap (λ (z : World). z.clients) refusal.3)
    | inr did ↦
        use-called w new i x (record x.names { writes = x.names.writes + 1 }) did.2 at (ap (λ (z : World). z.clients) did.4)
        ((calls-write x.names x.core c h e did.1 did.2 (stands.sound i x at).placed (q.tidy i x at) named did.3).olds, inl refl)
  ]

  use-subscribe : (c : ℕ) (h : Handle) (data_type count mask : ℕ) → HappensSubscribe w i x c h data_type count mask new → ClientsUse w new
  use-subscribe c h data_type count mask happens = elim happens [
    | inl refusal ↦ use-same w new (ap (λ (z : World). z.clients) refusal.3)
    | inr did ↦
        use-called w new i x (with_subscription did.0 (history.On c (history.Subscribe (length x.names.subscriptions))) x.names) did.2 at (ap (λ (z : World). z.clients) did.4)
        ((calls-subscribe x.names x.core c h (record { data_type = data_type; count = count }) mask did.0 did.1 did.2 did.3 (stands.sound i x at).placed (q.tidy i x at) (stands.sound i x at).named.subscriptions).olds, inr (did.0, history.On c (history.Subscribe (length x.names.subscriptions)), did.3.3, refl))
  ]

  use-unsubscribe : (m : ℕ) (g : Handle × Intent) → At x.names.subscriptions m g → HappensUnsubscribe w i x g new → ClientsUse w new
  use-unsubscribe m g named happens = elim happens [
    | inl refusal ↦ use-same w new (ap (λ (z : World). z.clients) refusal.3)
    | inr did ↦ use-called w new i x x.names did.2 at (ap (λ (z : World). z.clients) did.4) ((calls-unsubscribe x.names x.core g m did.1 did.2 did.3 (q.tidy i x at) named).olds, inl refl)
  ]

  use-clear : (c : ℕ) (h : Handle) → At x.names.channels c h → HappensClear w i x c h new → ClientsUse w new
  use-clear c h named happens = elim happens [
    | inl refusal ↦ use-same w new (ap (λ (z : World). z.clients) refusal.3)
    | inr did ↦
        let lines : List Line = lines_of history.OfCircuit x.names did.0 in
        use-called w new i x x.names did.2 at (ap (λ (z : World). z.clients) did.4) ((calls-clear x.names x.core c h did.0 did.1 did.2 lines did.3 (q.tidy i x at) named (notices-no-call history.OfCircuit x.names did.0)).olds, inl refl)
  ]

  use-datagram : (from : Address) (bytes : List ℕ) → HappensClientDatagram w i x from bytes new → ClientsUse w new
  use-datagram from bytes happens =
      let now : Client = record x.core { moment = later w.moment x.core } in
      let e : Effect = record { core = happens.1; sent = happens.0; notices = [] } in
      use-called w new i x x.names happens.1 at (ap (λ (z : World). z.clients) happens.3)
      (use-moved x.names x.core happens.0 happens.1 (q.tidy i x at) (moved-before x.core now happens.1 happens.0 (less-same x.core now refl refl) (moved-all-received from happens.2.0 now e happens.2.2)))

module _ (w new : World) (k : ℕ) (j : Joined) (x : ClientSide) (there : At w.clients j.client x) (q : ClientsQuiet w) where
  use-up : (n : ℕ) (y : ServerSide) → HappensUp w k n j x y new → ClientsUse w new
  use-up n y happens = subst (λ (v : World). ClientsUse w v) (sym happens.2) (go j.lists.client_open)
    where
      go : (b : Bool) → ClientsUse w (with_server j.server (record y { core = happens.0 }) (cond b (with_client j.client (record x { core = handed_over j.at_client n x.core }) w) (with_circuit k (record j { left_up = drop n j.left_up }) w)))
      go true =
          let core : Client = handed_over j.at_client n x.core in
          use-set w (with_server j.server (record y { core = happens.0 }) (with_client j.client (record x { core = core }) w)) j.client x (record x { core = core }) there refl refl
          (use-moved x.names x.core [] core (q.tidy j.client x there) (moved-less x.core core (less-handed j.at_client n x.core)))
      go false = use-same w (with_server j.server (record y { core = happens.0 }) (with_circuit k (record j { left_up = drop n j.left_up }) w)) refl

  use-down : (n : ℕ) (y : ServerSide) → HappensDown w k n j x y new → ClientsUse w new
  use-down n y happens =
      use-called w new j.client x x.names happens.2 there
      (ap (λ (z : World). z.clients) happens.5 ∙ ap (λ (c : List ClientSide). slice_set c j.client (record x { core = happens.2; names = x.names })) (taken happens.0 happens.3))
      (use-moved x.names x.core happens.1 happens.2 (q.tidy j.client x there) (moved-given x.core j.at_client _ _ (connection_at x.core j.at_client) happens.1 happens.2 happens.4))
    where
      taken : (mid : World) → DownTaken w k n j y mid → mid.clients ≡ w.clients
      taken mid took = elim took [
        | inl open_it ↦ ap (λ (z : World). z.clients) open_it.1.2
        | inr closed_it ↦ ap (λ (z : World). z.clients) closed_it.1
      ]

  ended-olds : (core : Client) → core ≡ ended j.at_client x.core → Olds x.names x.core x.names core
  ended-olds core is = subst (λ (v : Client). Olds x.names x.core x.names v) (sym is) (use-moved x.names x.core [] (ended j.at_client x.core) (q.tidy j.client x there) (moved-less x.core (ended j.at_client x.core) (less-ended j.at_client x.core)))

  use-cut-client : HappensCutClient w k j x new → ClientsUse w new
  use-cut-client happens = use-called w new j.client x x.names happens.2 there (ap (λ (z : World). z.clients) happens.4) (ended-olds happens.2 happens.3.2)

  use-client-step : j.lists.client_open ≡ true → At w.circuits k j → ClientsStand w → HappensClientStep w k j x new → ClientsUse w new
  use-client-step open_it at stands happens = subst (λ (v : World). ClientsUse w v) (sym happens.4) (go (connection_at x.core j.at_client) refl happens.0 happens.1 happens.2 happens.3)
    where
      go : (o : Option Connection) → connection_at x.core j.at_client ≡ o → (did : Stepped) (sent : List Sending) (core : Client) → StepsOn x.core j.at_client o did sent core → ClientsUse w (client_stepped k j x did sent core w)
      go None is did sent core steps = absurd (both_ways (is_none (connection_at x.core j.at_client)) (stands.connected k j x at there open_it) (ap is_none is))
      go (Some d) is NeedBytes sent core steps = use-same w w refl
      go (Some d) is (Closed c) sent core steps = use-called w (client_stepped k j x (Closed c) sent core w) j.client x x.names core there refl (ended-olds core steps.1.2)
      go (Some d) is (Notices told) sent core steps =
          let y : Client = after_taking j.at_client steps.rest x.core in
          use-called w (client_stepped k j x (Notices told) sent core w) j.client x x.names core there refl
          (use-moved x.names x.core sent core (q.tidy j.client x there) (moved-before x.core y core sent (less-on _ j.at_client x.core) (moved-heard y j.at_client steps.m (record { core = core; sent = sent; notices = told }) steps.hears)))

use-accept : (w new : World) (c : ℕ) (x : ClientSide) (v : WantsFirst w x) → At w.clients c x → ClientsQuiet w → HappensAccept w c x v new → ClientsUse w new
use-accept w new c x v at q happens = elim happens.leaves [
  | inl refusal ↦ use-same w new (ap (λ (z : World). z.clients) refusal.1)
  | inr did ↦
      let on : Handle = v.v.circuit in
      let there = wanted-there x.core v.place v.v v.at in
      use-called w new c x x.names did.3 at (ap (λ (z : World). z.clients) did.6)
      (use-moved x.names x.core did.2 did.3 (q.tidy c x at) (moved-connected x.core on there.0 did.1 did.2 did.3 (subst (λ (o : Option ClientCircuit). ConnectsOn x.core on o did.1 did.2 did.3) (unconnected-is x.core on there.0 there.1 there.2) did.5)))
]

use-restart : (w new : World) (i : ℕ) (x : ClientSide) → HappensClientRestart w i x new → ClientsUse w new
use-restart w new i x happens l y there = elim (At-set w.clients i z l y (subst (λ (c : List ClientSide). At c l y) (ap (λ (v : World). v.clients) happens) there)) [
  | inl here ↦ inr (servers, w.moment, x.setting, here.1)
  | inr old ↦ inl (y, old.0, refl, (λ intent u. u, inl refl))
]
  where
    servers : List Address
    servers = addresses (map (λ (y : ServerSide). y.setting) w.servers)

    z : ClientSide
    z = client_begun servers w.moment (length w.client_logs) x.setting

-- ---- a moment

-- no client begins
abbrev pub ClientsStay : (w new : World) → Type 0
ClientsStay w new = (i : ℕ) (y : ClientSide) → At new.clients i y → (x : ClientSide) × At w.clients i x × (y.life ≡ x.life) × ((intent : Intent) → IsUsed x.names x.core intent → IsUsed y.names y.core intent) × (y.names.subscriptions ≡ x.names.subscriptions)

tick-use : (moment : ℕ) (w : World) (i : ℕ) (new : World) → ClientsQuiet w → TicksOne moment w i new → ClientsStay w new
tick-use moment w i new q (x, at, t, sent, core, does, is) l y there = elim (At-set w.clients i (record x { core = core }) l y (subst (λ (c : List ClientSide). At c l y) (ap (λ (v : World). v.clients) is) there)) [
  | inl here ↦
      let m : Moved x.core sent core = subst (λ (v : List Sending × Client). Moved x.core v.0 v.1) (λ k. (sym does.1 k, sym does.2 k)) (moved-ticked moment x.core) in (
        x,
        subst (λ (n : ℕ). At w.clients n x) (sym here.0) at,
        ap (λ (v : ClientSide). v.life) here.1,
        subst (λ (v : ClientSide). (intent : Intent) → IsUsed x.names x.core intent → IsUsed v.names v.core intent) (sym here.1) (use-moved x.names x.core sent core (q.tidy i x at) m).0,
        ap (λ (v : ClientSide). v.names.subscriptions) here.1,
      )
  | inr old ↦ (y, old.0, refl, λ intent u. u, refl)
]

pub ticks-use : (moment : ℕ) (is : List ℕ) (w new : World) → ClientsQuiet w → FoldsTo (TicksOne moment) w is new → ClientsStay w new
ticks-use moment [] w new q folds i y at = (y, subst (λ (v : World). At v.clients i y) (sym folds) at, refl, λ intent u. u, refl)
ticks-use moment (k ∷ is) w new q folds i y at =
    let b = ticks-use moment is folds.0 new (quiet-ticks moment (k ∷ []) w folds.0 q (folds.0, folds.1, refl)) folds.2 i y at in
    let a = tick-use moment w k folds.0 q folds.1 i b.0 b.1 in
    (a.0, a.1, b.2 ∙ a.2, λ intent u. b.3 intent (a.3 intent u), b.4 ∙ a.4)

pub use-stay : (w new : World) → ClientsStay w new → ClientsUse w new
use-stay w new stay i y at = (let a = stay i y at in inl (a.0, a.1, a.2, (a.3, inl a.4)))

-- ---- every event

pub use-event : (w new : World) (e : Event) → ClientsStand w → ClientsQuiet w → Happens w e new → ClientsUse w new
use-event w new (event.Open i name priority) c q happens = use-open w new i happens.0.x happens.0.at c q name priority happens.1
use-event w new (event.Clear i k) c q happens = use-clear w new i happens.0.x happens.0.at c q k happens.0.h happens.0.named happens.1
use-event w new (event.Read i k data_type count) c q happens = use-read w new i happens.0.x happens.0.at c q k happens.0.h data_type count happens.1
use-event w new (event.Write i k e) c q happens = use-write w new i happens.0.x happens.0.at c q k happens.0.h e happens.0.named happens.1
use-event w new (event.WriteNotify i k e) c q happens = use-put w new i happens.0.x happens.0.at c q k happens.0.h e happens.1
use-event w new (event.Subscribe i k data_type count mask) c q happens = use-subscribe w new i happens.0.x happens.0.at c q k happens.0.h data_type count mask happens.1
use-event w new (event.Unsubscribe i n) c q happens = use-unsubscribe w new i happens.0.x happens.0.at c q n happens.0.s happens.0.named happens.1
use-event w new (event.Collect i r) c q happens = use-same w new (ap (λ (z : World). z.clients) happens.1.2)
use-event w new (event.GiveUp i r) c q happens = use-same w new (ap (λ (z : World). z.clients) happens.1.2)
use-event w new (event.ClientDatagram i from bytes) c q happens = use-datagram w new i happens.0.x happens.0.at c q from bytes happens.1
use-event w new (event.ServerDatagram i from bytes) c q happens = use-same w new (ap (λ (z : World). z.clients) happens.1.2)
use-event w new (event.Accept i) c q happens = use-accept w new i happens.0.x happens.0.v happens.0.at q happens.1
use-event w new (event.Up k n) c q happens = (let h = happens.0.0 in use-up w new k h.j h.x h.joins.client q n h.y happens.1)
use-event w new (event.Down k n) c q happens = (let h = happens.0.0 in use-down w new k h.j h.x h.joins.client q n h.y happens.1)
use-event w new (event.ServerStep k) c q happens = (let h = happens.0 in use-same w new (still-server-step w new k h.j h.y happens.1).0)
use-event w new (event.ClientStep k) c q happens = (let h = happens.0 in use-client-step w new k h.j h.x h.joins.client q h.is_open h.joins.at c happens.1)
use-event w new (event.Pump k) c q happens = (let h = happens.0 in use-same w new (still-pump w new k h.j h.y happens.1).0)
use-event w new (event.CutClient k) c q happens = (let h = happens.0 in use-cut-client w new k h.j h.x h.joins.client q happens.1)
use-event w new (event.CutServer k) c q happens = (let h = happens.0 in use-same w new (still-cut-server w new k h.j h.y happens.1).0)
use-event w new (event.ClientRestart i) c q happens = use-restart w new i happens.0.x happens.1
use-event w new (event.ServerRestart i) c q happens = use-same w new (still-server-restart w new i happens.0.y happens.1).0
use-event w new (event.Post i name e mask) c q happens = use-same w new (still-post w new i happens.0.y name e mask happens.1).0
use-event w new (event.Finish i name) c q happens = use-same w new (still-finish w new i happens.0.y name happens.1).0
use-event w new (event.Remove i name) c q happens = use-same w new (still-remove w new i happens.0.y name happens.1).0
use-event w new (event.Add i r) c q happens = use-same w new (still-add w new i happens.0.y r happens.1).0
use-event w new (event.Tick moment) c q happens = use-stay w new (λ i y at. ticks-use moment _ w happens.1.0 q happens.1.1 i y (subst (λ (v : World). At v.clients i y) happens.1.2 at))

-- ---- subscriptions that are over

-- At the client of this life, if it runs still, the subscription of this number is over.
abbrev pub IsOverAt : World → (life number : ℕ) → Type 0
IsOverAt w life number = (i : ℕ) (x : ClientSide) → At w.clients i x → x.life ≡ life → (g : Handle × Intent) × At x.names.subscriptions number g × IsOverBy x.core g.0

pub over-on : (w new : World) → ClientsUse w new → (life number : ℕ) (log : List Line) → At w.client_logs life log → IsOverAt w life number → IsOverAt new life number
over-on w new uses life number log there over i y at mine = elim (uses i y at) [
  | inl old ↦ (let o = over i old.0 old.1 (sym old.2 ∙ mine) in old.3.0 (history.On 0 (history.Cancel number)) (o.0, o.1, o.2))
  | inr fresh ↦
      let lt : life < length w.client_logs = At-within w.client_logs life log there in
      let is : life ≡ length w.client_logs = sym mine ∙ ap (λ (v : ClientSide). v.life) fresh.3 in
      absurd (omega (arith, lt, is))
]

-- ---- names

-- No two subscriptions of a client are named by one handle.
abbrev pub AllNamedOnce : World → Type 0
AllNamedOnce w = (i : ℕ) (x : ClientSide) → At w.clients i x → (k l : ℕ) (e f : Handle × Intent) → At x.names.subscriptions k e → At x.names.subscriptions l f → e.0 ≡ f.0 → k ≡ l

more-once : (t : Table Subscription) (was : List (Handle × Intent)) (q : Handle) (intent : Intent) → MayGive t q → ((k : ℕ) (e : Handle × Intent) → At was k e → WasGiven t e.0) → ((k l : ℕ) (e f : Handle × Intent) → At was k e → At was l f → e.0 ≡ f.0 → k ≡ l)
    → (k l : ℕ) (e f : Handle × Intent) → At (was ++ (q, intent) ∷ []) k e → At (was ++ (q, intent) ∷ []) l f → e.0 ≡ f.0 → k ≡ l
more-once t was q intent may given once k l e f at_k at_l same = elim (At-snoc was (q, intent) k e at_k) [
  | inl old ↦ elim (At-snoc was (q, intent) l f at_l) [
    | inl too ↦ once k l e f old too same
    | inr last ↦ absurd (not-given t q may (subst (λ (v : Handle). WasGiven t v) (same ∙ ap (λ (z : Handle × Intent). z.0) last.1) (given k e old)))
  ]
  | inr new ↦ elim (At-snoc was (q, intent) l f at_l) [
    | inl too ↦ absurd (not-given t q may (subst (λ (v : Handle). WasGiven t v) (sym same ∙ ap (λ (z : Handle × Intent). z.0) new.1) (given l f too)))
    | inr last ↦ new.0 ∙ sym last.0
  ]
]

pub named-once-on : (w new : World) → ClientsStand w → ClientsUse w new → AllNamedOnce w → AllNamedOnce new
named-once-on w new stands uses once i y at = elim (uses i y at) [
  | inr fresh ↦ λ k l e f at_k at_l same. absurd (none_at k e (subst (λ (v : ClientSide). At v.names.subscriptions k e) fresh.3 at_k))
  | inl old ↦ elim old.3.1 [
    | inl is ↦ subst (λ (v : List (Handle × Intent)). (k l : ℕ) (e f : Handle × Intent) → At v k e → At v l f → e.0 ≡ f.0 → k ≡ l) (sym is) (once i old.0 old.1)
    | inr more ↦
        subst (λ (v : List (Handle × Intent)). (k l : ℕ) (e f : Handle × Intent) → At v k e → At v l f → e.0 ≡ f.0 → k ≡ l) (sym more.3)
        (more-once (old.0).core.subscriptions (old.0).names.subscriptions more.0 more.1 more.2 (stands.sound i old.0 old.1).named.subscriptions (once i old.0 old.1))
  ]
]

-- What is in the table, and is named by this number, is meant so.
pub named-meant : (n : Names) (x : Client) → Tidy n x → ((k l : ℕ) (e f : Handle × Intent) → At n.subscriptions k e → At n.subscriptions l f → e.0 ≡ f.0 → k ≡ l) → (g : Handle) (d : Subscription) (a number : ℕ) → At n.subscriptions number (g, history.On a (history.Subscribe number)) → under x.subscriptions g ≡ Some d
    → HasNumber n d.channel × (channel_number n d.channel ≡ a) × (meant_by n.subscriptions g ≡ history.On a (history.Subscribe number))
named-meant n x tidy once g d a number named there =
    let m = tidy.subscriptions g d there in
    let at_m : At n.subscriptions m.0 (g, history.On (channel_number n d.channel) (history.Subscribe m.0)) = subscribed-at n x g (channel_number n d.channel) m.0 tidy m.2 in
    let same : m.0 ≡ number = once m.0 number (g, history.On (channel_number n d.channel) (history.Subscribe m.0)) (g, history.On a (history.Subscribe number)) at_m named refl in
    let one : ◌≡◌ {A = Handle × Intent} (g, history.On (channel_number n d.channel) (history.Subscribe m.0)) (g, history.On a (history.Subscribe number)) = At-one n.subscriptions number (g, history.On (channel_number n d.channel) (history.Subscribe m.0)) (g, history.On a (history.Subscribe number)) (subst (λ (v : ℕ). At n.subscriptions v (g, history.On (channel_number n d.channel) (history.Subscribe m.0))) same at_m) named in
    let meant : history.On (channel_number n d.channel) (history.Subscribe m.0) ≡ history.On a (history.Subscribe number) = ap (λ (z : Handle × Intent). z.1) one in
    (m.1, same-number (channel_number n d.channel) a (history.Subscribe m.0) (history.Subscribe number) meant, m.2 ∙ meant)
