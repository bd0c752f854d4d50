-- What each event leaves of the subscriptions that are on live channels: none is new, but one with
-- an EVENT_ADD that was sent by this event.
use Rattle.std.proofs.Common.{◌≡◌, ℕ, ◌+◌, ◌≤◌, ◌⊎◌, inl, inr, Bool, true, false, cond, List, [], ◌∷◌, ◌++◌, length, Option, Some, None, refl, sym, ap, ◌∙◌, subst, arith}
use Rattle.std.specs.Prelude.{drop, filter, is_none, map, option_map, slice_get, slice_set, unwrap_or}
use Rattle.std.specs.List.{FoldsTo}
use Rattle.std.proofs.lemmas.Bool.{both_ways}
use Rattle.ca_text.specs.Place.{At}
use Rattle.ca_text.proofs.Places.{At-after, At-map, At-set, At-snoc}
use Rattle.ca_arena.specs.declared.handle.Handle.{Handle}
use Rattle.ca_dbr.specs.Elements.{Elements}
use Rattle.ca_ids.specs.Table.{same_handle, under}
use Rattle.ca_model.specs.Answers.{Closed, NeedBytes, Notices, Sending, Stepped}
use Rattle.ca_model.specs.Answers as answer
use Rattle.ca_model.specs.Client.{Client, ClientCircuit, Connection, Standing, connection_at, later, sending, standing_at}
use Rattle.ca_model.specs.ClientCalls.{cancel_sent, unsubscribed, write_sent}
use Rattle.ca_model.specs.ClientEnds.{ConnectsOn, StepsOn, after_taking, handed_over}
use Rattle.ca_model.specs.Ends.{Address}
use Rattle.ca_model.specs.Hears.{Effect}
use Rattle.ca_model.specs.History.{Intent, Line, Sent, Step}
use Rattle.ca_model.specs.History as history
use Rattle.ca_model.proofs.Handles.{same-itself}
use Rattle.ca_laws_parts.proofs.Marks.{filter-at}
use Rattle.ca_model.specs.ClientEvents.{DownTaken, HappensAccept, HappensClear, HappensClientDatagram, HappensClientRestart, HappensClientStep, HappensCutClient, HappensDown, HappensOpen, HappensRead, HappensSubscribe, HappensUnsubscribe, HappensUp, HappensWrite, HappensWriteNotify, TicksOne, WantsFirst, about_at, channel_number, client_stepped, heard_in, intent_of, lines_of, meant_by}
use Rattle.ca_model.specs.Events.{Event}
use Rattle.ca_model.specs.Events as event
use Rattle.ca_model.specs.Runs.{Happens}
use Rattle.ca_model.specs.ServerEvents.{StepHandles, handled_at}
use Rattle.ca_model.specs.World.{ClientSide, Joined, Names, ServerSide, World, addresses, client_begun, log_length, with_circuit, with_client, with_server}
use Rattle.ca_laws_parts.specs.Held.{with_request, with_subscription}
use Rattle.ca_laws_parts.specs.Circuit.{stamped}
use Rattle.ca_laws_parts.specs.Clients.{ClientsStand}
use Rattle.ca_laws_parts.proofs.ClientsKeep.{none-under}
use Rattle.ca_laws_parts.proofs.ClientsMore.{unconnected-is, wanted-there}
use Rattle.ca_laws_runs.specs.Quiet.{ClientsQuiet, Tidy}
use Rattle.ca_laws_runs.proofs.Going.{IsFresh}
use Rattle.ca_laws_runs.proofs.HeardEnds.{IsEndAfter, after-sent, sent-mine}
use Rattle.ca_laws_runs.proofs.Issued.{meant-still}
use Rattle.ca_laws_runs.proofs.OnceStill.{still-add, still-cut-server, still-finish, still-post, still-pump, still-remove, still-server-restart, still-server-step}
use Rattle.ca_laws_runs.proofs.OrderGrows.{Grown, each-event, step-grown}
use Rattle.ca_laws_runs.proofs.OrderKeeps.{IsHearing, IsMade, begun-grown, begun-mid, did-after, did-grown, did-step, hear-grown, hear-step, hearing-or, made-or}
use Rattle.ca_laws_runs.proofs.Says.{said}
use Rattle.ca_laws_runs.proofs.Stood.{Adds, IsStood, Stays, adds-heard, adds-subscribed, adds-then, stays-all-received, stays-cleared, stays-connected, stays-ended, stays-given, stays-handed, stays-itself, stays-opened, stays-same, stays-sending, stays-then, stays-ticked, stays-unsubscribed}

-- ---- one client

-- Each client of the world goes on so that none stands that did not, and subscriptions have the
-- same names; or it begins now.
abbrev pub ClientsStay : (w new : World) → Type 0
ClientsStay w new = (i : ℕ) (y : ClientSide) → At new.clients i y → ((x : ClientSide) × At w.clients i x × (y.names.subscriptions ≡ x.names.subscriptions) × Stays x.core y.core) ⊎ IsFresh w y

pub stay-same : (w new : World) → new.clients ≡ w.clients → ClientsStay w new
stay-same w new is i y at = inl (y, subst (λ (l : List ClientSide). At l i y) is at, refl, stays-itself y.core)

stay-set : (w new : World) (i : ℕ) (x z : ClientSide) → At w.clients i x → new.clients ≡ slice_set w.clients i z → z.names.subscriptions ≡ x.names.subscriptions → Stays x.core z.core → ClientsStay w new
stay-set w new i x z at is names stays l y there = elim (At-set w.clients i z l y (subst (λ (c : List ClientSide). At c l y) is there)) [
  | inl here ↦ inl (x, subst (λ (n : ℕ). At w.clients n x) (sym here.0) at, ap (λ (v : ClientSide). v.names.subscriptions) here.1 ∙ names, subst (λ (v : ClientSide). Stays x.core v.core) (sym here.1) stays)
  | inr old ↦ inl (y, old.0, refl, stays-itself y.core)
]

-- by its core and its names then
stay-called : (w new : World) (i : ℕ) (x : ClientSide) (names : Names) (core : Client) → At w.clients i x → new.clients ≡ slice_set w.clients i (record x { core = core; names = names }) → names.subscriptions ≡ x.names.subscriptions → Stays x.core core → ClientsStay w new
stay-called w new i x names core at is same stays = stay-set w new i x (record x { core = core; names = names }) at is same stays

module _ (w new : World) (i : ℕ) (x : ClientSide) (at : At w.clients i x) where
  stay-open : (name : List ℕ) (priority : ℕ) → HappensOpen w i x name priority new → ClientsStay w new
  stay-open name priority happens = elim happens [
    | inl refusal ↦ stay-same w new (ap (λ (z : World). z.clients) refusal.3)
    | inr did ↦
        stay-called w new i x (record x.names { channels = x.names.channels ++ did.0 ∷ [] }) did.2 at (ap (λ (z : World). z.clients) did.4) refl
        (stays-opened x.core (record { name = name; priority = priority; now = w.moment }) did.0 did.1 did.2 did.3)
  ]

  stay-read : (c : ℕ) (h : Handle) (data_type count : ℕ) → HappensRead w i x c h data_type count new → ClientsStay w new
  stay-read c h data_type count happens = elim happens [
    | inl refusal ↦ stay-same w new (ap (λ (z : World). z.clients) refusal.3)
    | inr did ↦
        let reads = did.3 in
        let intent : Intent = history.On c (history.Request history.Read (length x.names.requests)) in
        stay-called w new i x (with_request did.0 intent x.names) did.2 at (ap (λ (z : World). z.clients) did.4) refl
        (subst (λ (v : Client). Stays x.core v) (sym reads.4.1) (stays-same x.core _ refl refl))
  ]

  stay-put : (c : ℕ) (h : Handle) (e : Elements) → HappensWriteNotify w i x c h e new → ClientsStay w new
  stay-put c h e happens = elim happens [
    | inl refusal ↦ stay-same w new (ap (λ (z : World). z.clients) refusal.3)
    | inr did ↦
        let puts = did.3 in
        let intent : Intent = history.On c (history.Request history.Put (length x.names.requests)) in
        stay-called w new i x (with_request did.0 intent x.names) did.2 at (ap (λ (z : World). z.clients) did.4) refl
        (subst (λ (v : Client). Stays x.core v) (sym puts.4.1) (stays-same x.core _ refl refl))
  ]

  stay-write : (c : ℕ) (h : Handle) (e : Elements) → HappensWrite w i x c h e new → ClientsStay w new
  stay-write c h e happens = elim happens [
    | inl refusal ↦ stay-same w new (ap (λ (z : World). z.clients) refusal.3)
    | inr did ↦
        stay-called w new i x (record x.names { writes = x.names.writes + 1 }) did.2 at (ap (λ (z : World). z.clients) did.4) refl
        (subst (λ (v : Client). Stays x.core v) (sym did.3.3.1) (stays-sending (write_sent h (did.3.0) e ∷ []) x.core))
  ]

  stay-unsubscribe : (g : Handle × Intent) → HappensUnsubscribe w i x g new → ClientsStay w new
  stay-unsubscribe g happens = elim happens [
    | inl refusal ↦ stay-same w new (ap (λ (z : World). z.clients) refusal.3)
    | inr did ↦
        let ends = did.3 in
        let st : Option Standing = standing_at x.core (ends.0).channel in
        let z : Client = unsubscribed g.0 st x.core in
        stay-called w new i x x.names did.2 at (ap (λ (z : World). z.clients) did.4) refl
        (subst (λ (v : Client). Stays x.core v) (sym ends.3.1) (stays-then x.core z (sending (cancel_sent g.0 ends.0 st) z) (stays-unsubscribed g.0 st x.core) (stays-sending (cancel_sent g.0 ends.0 st) z)))
  ]

  stay-clear : (c : ℕ) (h : Handle) → HappensClear w i x c h new → ClientsStay w new
  stay-clear c h happens = elim happens [
    | inl refusal ↦ stay-same w new (ap (λ (z : World). z.clients) refusal.3)
    | inr did ↦
        stay-called w new i x x.names did.2 at (ap (λ (z : World). z.clients) did.4) refl (subst (λ (v : Client). Stays x.core v) (sym did.3.3.1) (stays-cleared h did.3.0 x.core))
  ]

  stay-datagram : (from : Address) (bytes : List ℕ) → HappensClientDatagram w i x from bytes new → ClientsStay w new
  stay-datagram from bytes happens =
      let now : Client = record x.core { moment = later w.moment x.core } in
      let e : Effect = record { core = happens.1; sent = happens.0; notices = [] } in
      stay-called w new i x x.names happens.1 at (ap (λ (z : World). z.clients) happens.3) refl (stays-then x.core now happens.1 (stays-same x.core now refl refl) (stays-all-received from happens.2.0 now e happens.2.2))

module _ (w new : World) (k : ℕ) (j : Joined) (x : ClientSide) (there : At w.clients j.client x) where
  stay-up : (n : ℕ) (y : ServerSide) → HappensUp w k n j x y new → ClientsStay w new
  stay-up n y happens = subst (λ (v : World). ClientsStay w v) (sym happens.2) (go j.lists.client_open)
    where
      go : (b : Bool) → ClientsStay w (with_server j.server (record y { core = happens.0 }) (cond b (with_client j.client (record x { core = handed_over j.at_client n x.core }) w) (with_circuit k (record j { left_up = drop n j.left_up }) w)))
      go true = stay-set w (with_server j.server (record y { core = happens.0 }) (with_client j.client (record x { core = handed_over j.at_client n x.core }) w)) j.client x (record x { core = handed_over j.at_client n x.core }) there refl refl (stays-handed j.at_client n x.core)
      go false = stay-same w (with_server j.server (record y { core = happens.0 }) (with_circuit k (record j { left_up = drop n j.left_up }) w)) refl

  stay-down : (n : ℕ) (y : ServerSide) → HappensDown w k n j x y new → ClientsStay w new
  stay-down n y happens =
      stay-called w new j.client x x.names happens.2 there
      (ap (λ (z : World). z.clients) happens.5 ∙ ap (λ (c : List ClientSide). slice_set c j.client (record x { core = happens.2; names = x.names })) (taken happens.0 happens.3)) refl
      (stays-given x.core j.at_client _ _ (connection_at x.core j.at_client) happens.1 happens.2 happens.4)
    where
      taken : (mid : World) → DownTaken w k n j y mid → mid.clients ≡ w.clients
      taken mid took = elim took [
        | inl open_it ↦ ap (λ (z : World). z.clients) open_it.1.2
        | inr closed_it ↦ ap (λ (z : World). z.clients) closed_it.1
      ]

  stay-cut-client : HappensCutClient w k j x new → ClientsStay w new
  stay-cut-client happens =
      stay-called w new j.client x x.names happens.2 there (ap (λ (z : World). z.clients) happens.4) refl (subst (λ (v : Client). Stays x.core v) (sym happens.3.2) (stays-ended j.at_client x.core))

stay-accept : (w new : World) (c : ℕ) (x : ClientSide) (v : WantsFirst w x) → At w.clients c x → HappensAccept w c x v new → ClientsStay w new
stay-accept w new c x v at happens = elim happens.leaves [
  | inl refusal ↦ stay-same w new (ap (λ (z : World). z.clients) refusal.1)
  | inr did ↦
      let on : Handle = v.v.circuit in
      let there = wanted-there x.core v.place v.v v.at in
      stay-called w new c x x.names did.3 at (ap (λ (z : World). z.clients) did.6) refl
      (stays-connected x.core on there.0 did.1 did.2 did.3 (subst (λ (o : Option ClientCircuit). ConnectsOn x.core on o did.1 did.2 did.3) (unconnected-is x.core on there.0 there.1 there.2) did.5))
]

stay-restart : (w new : World) (i : ℕ) (x : ClientSide) → HappensClientRestart w i x new → ClientsStay w new
stay-restart w new i x happens l y there = elim (At-set w.clients i z l y (subst (λ (c : List ClientSide). At c l y) (ap (λ (v : World). v.clients) happens) there)) [
  | inl here ↦ inr (servers, w.moment, x.setting, here.1)
  | inr old ↦ inl (y, old.0, refl, stays-itself y.core)
]
  where
    servers : List Address
    servers = addresses (map (λ (y : ServerSide). y.setting) w.servers)

    z : ClientSide
    z = client_begun servers w.moment (length w.client_logs) x.setting

-- ---- a moment

-- no client begins
abbrev pub ClientsStill : (w new : World) → Type 0
ClientsStill w new = (i : ℕ) (y : ClientSide) → At new.clients i y → (x : ClientSide) × At w.clients i x × (y.names.subscriptions ≡ x.names.subscriptions) × Stays x.core y.core

tick-still : (moment : ℕ) (w : World) (i : ℕ) (new : World) → TicksOne moment w i new → ClientsStill w new
tick-still moment w i new (x, at, t, sent, core, does, is) l y there = elim (At-set w.clients i (record x { core = core }) l y (subst (λ (c : List ClientSide). At c l y) (ap (λ (v : World). v.clients) is) there)) [
  | inl here ↦ (
    x,
    subst (λ (n : ℕ). At w.clients n x) (sym here.0) at,
    ap (λ (v : ClientSide). v.names.subscriptions) here.1,
    subst (λ (v : Client). Stays x.core v) (sym (ap (λ (v : ClientSide). v.core) here.1 ∙ does.2)) (stays-ticked moment x.core),
  )
  | inr old ↦ (y, old.0, refl, stays-itself y.core)
]

pub ticks-still : (moment : ℕ) (is : List ℕ) (w new : World) → FoldsTo (TicksOne moment) w is new → ClientsStill w new
ticks-still moment [] w new folds i y at = (y, subst (λ (v : World). At v.clients i y) (sym folds) at, refl, stays-itself y.core)
ticks-still moment (k ∷ is) w new folds i y at =
    let b = ticks-still moment is folds.0 new folds.2 i y at in
    let a = tick-still moment w k folds.0 folds.1 i b.0 b.1 in
    (a.0, a.1, b.2 ∙ a.2, stays-then (a.0).core (b.0).core y.core a.3 b.3)

pub stay-still : (w new : World) → ClientsStill w new → ClientsStay w new
stay-still w new all i y at = inl (all i y at)

-- ---- circuits

-- The circuit was there, with the same end at the same client, open if it is; or
-- nothing was read on it yet.
pub record IsEndOf (c d : Joined) : Type 0 where
  pub client : d.client ≡ c.client
  pub handle : d.at_client ≡ c.at_client
  pub opened : d.lists.client_open ≡ true → c.lists.client_open ≡ true

abbrev pub EndsBack : (w new : World) → Type 0
EndsBack w new = (n : ℕ) (d : Joined) → At new.circuits n d → ((c : Joined) × At w.circuits n c × IsEndOf c d) ⊎ (d.lists.heard ≡ [])

pub ends-grown : (w new : World) → Grown w new → EndsBack w new
ends-grown w new g n d at = (let c = g.back n d at in inl (c.0, c.1, record { client = c.2.number; handle = c.2.handle; opened = c.2.opened }))

ends-handled : (w new : World) (k : ℕ) (j : Joined) (y : ServerSide) → At w.circuits k j → StepHandles w k j y new → EndsBack w new
ends-handled w new k j y on f = subst (λ (z : World). EndsBack w z) (sym f.leaves) (go (slice_get after.circuits k) refl)
  where
    after : World
    after = did-after w new k j y on f

    step : Step
    step = did-step w new k j y on f

    go : (o : Option Joined) → slice_get after.circuits k ≡ o → EndsBack w (unwrap_or (option_map (λ (c : Joined). with_circuit k (handled_at (length j.lists.handled) step (f.steps.0).replies c) after) o) after)
    go None is = ends-grown w after (did-grown w new k j y on f)
    go (Some c) is = λ n d at. elim (At-set after.circuits k (handled_at (length j.lists.handled) step (f.steps.0).replies c) n d at) [
      | inr old ↦ ends-grown w after (did-grown w new k j y on f) n d old.0
      | inl own ↦
          let b = (did-grown w new k j y on f).back k c is in
          inl (
            b.0,
            subst (λ (m : ℕ). At w.circuits m b.0) (sym own.0) b.1,
            record {
              client = ap (λ (z : Joined). z.client) own.1 ∙ b.2.number;
              handle = ap (λ (z : Joined). z.at_client) own.1 ∙ b.2.handle;
              opened = λ o. b.2.opened (ap (λ (z : Joined). z.lists.client_open) (sym own.1) ∙ o);
            },
          )
    ]

ends-hearing : (w new : World) (k : ℕ) (j : Joined) (x : ClientSide) (on : At w.circuits k j) (at : At w.clients j.client x) (f : IsHearing w new k j x) → EndsBack w new
ends-hearing w new k j x on at f n d there =
    let c = (hear-grown w new k j x on at f).back n d there in
    elim (At-set w.circuits k (heard_in (hear-step w new k j x on at f) j) n c.0 c.1) [
      | inr old ↦ inl (c.0, old.0, record { client = c.2.number; handle = c.2.handle; opened = c.2.opened })
      | inl own ↦
          inl (
            j,
            subst (λ (m : ℕ). At w.circuits m j) (sym own.0) on,
            record {
              client = c.2.number ∙ ap (λ (z : Joined). z.client) own.1;
              handle = c.2.handle ∙ ap (λ (z : Joined). z.at_client) own.1;
              opened = λ o. ap (λ (z : Joined). z.lists.client_open) (sym own.1) ∙ c.2.opened o;
            },
          )
    ]

ends-made : (w new : World) (i : ℕ) (x : ClientSide) (f : IsMade w new i x) → EndsBack w new
ends-made w new i x f n d there =
    let c = (f.goes).back n d there in
    elim (At-snoc w.circuits f.c n c.0 (subst (λ (l : List Joined). At l n c.0) f.circuits c.1)) [
      | inl old ↦ inl (c.0, old, record { client = c.2.number; handle = c.2.handle; opened = c.2.opened })
      | inr last ↦ inr (c.2.heard ∙ ap (λ (z : Joined). z.lists.heard) last.1 ∙ f.heard)
    ]

pub ends-event : (w new : World) (e : Event) → Happens w e new → EndsBack w new
ends-event w new e happens = each-event (EndsBack w new) w new (ends-grown w new)
    (λ k f. elim (step-grown w new k f.0.j f.0.y f.1.0 f.0.joins.at f.1.1) [
      | inl handles ↦ ends-handled w new k f.0.j f.0.y f.0.joins.at handles
      | inr g ↦ ends-grown w new g
    ])
    (λ k f. elim (hearing-or w new k f.0.j f.0.x f.0.joins.at f.0.joins.client f.1) [
      | inl hearing ↦ ends-hearing w new k f.0.j f.0.x f.0.joins.at f.0.joins.client hearing
      | inr g ↦ ends-grown w new g
    ])
    (λ i f. elim (made-or w new i f) [
      | inl made ↦ ends-made w new i f.0.x made
      | inr g ↦ ends-grown w new g
    ])
    (λ i f. subst (λ (z : World). EndsBack w z) (sym f.1) (ends-grown w (begun-mid w new i f.0.x f.1) (begun-grown w new i f.0.x f.1))) e happens

-- ---- what stands so was there, or its EVENT_ADD is new

-- Its EVENT_ADD was sent on this circuit since the first of the two worlds.
abbrev pub IsNewAdd : World → (n : ℕ) → Joined → Intent → Type 0
IsNewAdd w n d meant = (c : Joined) × (l : ℕ) × (r : Sent) × At w.circuits n c × (length c.lists.up ≤ l) × At d.lists.up l r × (r.intent ≡ meant)

-- It stood so in the first, under the same name.
abbrev pub IsStoodThen : World → (n : ℕ) → Names → (g h : Handle) → Type 0
IsStoodThen w n names g h = (c : Joined) × (x : ClientSide) × At w.circuits n c × At w.clients c.client x × (c.lists.client_open ≡ true) × IsStood x.core c.at_client g h
    × (meant_by names.subscriptions g ≡ meant_by x.names.subscriptions g)

abbrev pub AddsBack : (w new : World) → Type 0
AddsBack w new = (n : ℕ) (d : Joined) (y : ClientSide) (g h : Handle) → At new.circuits n d → At new.clients d.client y → d.lists.client_open ≡ true → IsStood y.core d.at_client g h
    → IsStoodThen w n y.names g h ⊎ (IsNewAdd w n d (meant_by y.names.subscriptions g) ⊎ (d.lists.heard ≡ []))

pub adds-still : (w new : World) → ClientsStay w new → EndsBack w new → AddsBack w new
adds-still w new stays ends n d y g h at at_y opened it = elim (ends n d at) [
  | inr empty ↦ inr (inr empty)
  | inl c ↦ elim (stays d.client y at_y) [
    | inr fresh ↦ absurd (none-under g it.d (subst (λ (v : ClientSide). under v.core.subscriptions g ≡ Some it.d) fresh.3 it.there))
    | inl x ↦ inl (
      c.0,
      x.0,
      c.1,
      subst (λ (m : ℕ). At w.clients m x.0) c.2.client x.1,
      c.2.opened opened,
      x.3.back c.0.at_client g h (subst (λ (o : Handle). IsStood y.core o g h) c.2.handle it),
      ap (λ (l : List (Handle × Intent)). meant_by l g) x.2,
    )
  ]
]

-- one client changes, and sent these
adds-moved : (w new : World) (i : ℕ) (x z : ClientSide) (sent : List Sending) → At w.clients i x → new.clients ≡ slice_set w.clients i z → ((k : ℕ) (j : Joined) → At new.circuits k j → (a : Joined) × At w.circuits k a × IsEndAfter i z.names sent a j)
    → Adds x.core sent z.core → ((on g h : Handle) → IsStood x.core on g h → meant_by z.names.subscriptions g ≡ meant_by x.names.subscriptions g) → AddsBack w new
adds-moved w new i x z sent at_x same ends adds names n d y g h at at_y opened it =
    let e = ends n d at in
    let was_open : e.0.lists.client_open ≡ true = e.2.opens opened in
    elim (At-set w.clients i z d.client y (subst (λ (c : List ClientSide). At c d.client y) same at_y)) [
      | inr old ↦ inl (
        e.0,
        y,
        e.1,
        subst (λ (m : ℕ). At w.clients m y) e.2.client old.0,
        was_open,
        subst (λ (o : Handle). IsStood y.core o g h) e.2.handle it,
        refl,
      )
      | inl here ↦
          let mine : e.0.client ≡ i = sym e.2.client ∙ here.0 in
          let own : IsStood z.core e.0.at_client g h = subst (λ (v : ClientSide × Handle). IsStood v.0.core v.1 g h) (λ k. (here.1 k, e.2.handle k)) it in
          elim (adds.back e.0.at_client g h own) [
            | inl was ↦ inl (
              e.0,
              x,
              e.1,
              subst (λ (m : ℕ). At w.clients m x) (sym mine) at_x,
              was_open,
              was,
              ap (λ (v : ClientSide). meant_by v.names.subscriptions g) here.1 ∙ names e.0.at_client g h was,
            )
            | inr added ↦
                let s : Sending = added.1 in
                let passes : same_handle s.circuit e.0.at_client ≡ true = subst (λ (o : Handle). same_handle s.circuit o ≡ true) added.3 (same-itself s.circuit) in
                let f = filter-at (λ (v : Sending). same_handle v.circuit e.0.at_client) sent added.0 s added.2 passes in
                let told : At (said z.names e.0.at_client sent) f.0 (stamped z.names s) = At-map (stamped z.names) (filter (λ (v : Sending). same_handle v.circuit e.0.at_client) sent) f.0 s f.1 in
                let up : d.lists.up ≡ e.0.lists.up ++ said z.names e.0.at_client sent = e.2.up ∙ ap (λ (l : List Sent). e.0.lists.up ++ l) (sent-mine i z.names sent e.0 mine was_open) in
                inr (inl (
                  e.0,
                  length e.0.lists.up + f.0,
                  stamped z.names s,
                  e.1,
                  omega arith,
                  subst (λ (l : List Sent). At l (length e.0.lists.up + f.0) (stamped z.names s)) (sym up) (At-after e.0.lists.up (said z.names e.0.at_client sent) f.0 (stamped z.names s) told),
                  ap (λ (v : answer.Aim). intent_of z.names v) added.4 ∙ ap (λ (v : ClientSide). meant_by v.names.subscriptions g) (sym here.1),
                ))
          ]
    ]

-- a subscription is made
adds-subscribe : (w new : World) (i : ℕ) (x : ClientSide) → At w.clients i x → Tidy x.names x.core → (c : ℕ) (h : Handle) (data_type count mask : ℕ) → HappensSubscribe w i x c h data_type count mask new → EndsBack w new → AddsBack w new
adds-subscribe w new i x at tidy c h data_type count mask happens ends = elim happens [
  | inl refusal ↦ adds-still w new (stay-same w new (ap (λ (z : World). z.clients) refusal.3)) ends
  | inr did ↦
      let e : Handle × Intent = (did.0, history.On c (history.Subscribe (length x.names.subscriptions))) in
      let names : Names = with_subscription did.0 (history.On c (history.Subscribe (length x.names.subscriptions))) x.names in
      adds-moved w new i x (record x { core = did.2; names = names }) did.1 at (ap (λ (z : World). z.clients) did.4)
      (λ k j stands. after-sent i names did.1 w.circuits k j (subst (λ (v : World). At v.circuits k j) did.4 stands))
      (adds-subscribed x.core h (record { data_type = data_type; count = count }) mask did.0 did.1 did.2 did.3)
      (λ on g k it.
      let t = tidy.subscriptions g it.d it.there in
      meant-still x.names.subscriptions e g (channel_number x.names (it.d).channel) (history.Subscribe t.0) t.2 ∙ sym t.2)
]

-- a message is read
adds-hearing : (w new : World) (k : ℕ) (j : Joined) (x : ClientSide) → At w.circuits k j → At w.clients j.client x → j.lists.client_open ≡ true → ClientsStand w → HappensClientStep w k j x new → EndsBack w new → AddsBack w new
adds-hearing w new k j x at there open_it stands happens ends = go (connection_at x.core j.at_client) refl happens.0 happens.1 happens.2 happens.3 happens.4
  where
    go : (o : Option Connection) → connection_at x.core j.at_client ≡ o → (did : Stepped) (sent : List Sending) (core : Client) → StepsOn x.core j.at_client o did sent core → new ≡ client_stepped k j x did sent core w → AddsBack w new
    go None is did sent core steps new_is = absurd (both_ways (is_none (connection_at x.core j.at_client)) (stands.connected k j x at there open_it) (ap is_none is))
    go (Some d) is NeedBytes sent core steps new_is = adds-still w new (stay-same w new (ap (λ (z : World). z.clients) new_is)) ends
    go (Some d) is (Closed c) sent core steps new_is =
        adds-still w new (stay-called w new j.client x x.names core there (ap (λ (z : World). z.clients) new_is) refl (subst (λ (v : Client). Stays x.core v) (sym steps.1.2) (stays-ended j.at_client x.core))) ends
    go (Some d) is (Notices told) sent core steps new_is =
        let lines : List Line = lines_of (about_at j.lists (length j.lists.heard)) x.names told in
        let logged : ℕ = log_length x.life w.client_logs in
        let step : Step = record { sent = length j.lists.up; logged = logged; after = logged + length lines } in
        let mid : World = with_circuit k (heard_in step j) w in
        let y : Client = after_taking j.at_client steps.rest x.core in
        adds-moved w new j.client x (record x { core = core; names = x.names }) sent there (ap (λ (z : World). z.clients) new_is)
        (λ n b stood.
        let m = after-sent j.client x.names sent mid.circuits n b (subst (λ (v : World). At v.circuits n b) new_is stood) in
        elim (At-set w.circuits k (heard_in step j) n m.0 m.1) [
          | inr old ↦ (m.0, old.0, m.2)
          | inl own ↦
              let own_end : IsEndAfter j.client x.names sent (heard_in step j) b = subst (λ (v : Joined). IsEndAfter j.client x.names sent v b) own.1 m.2 in
              (j, subst (λ (l : ℕ). At w.circuits l j) (sym own.0) at, record { client = own_end.client; handle = own_end.handle; opens = own_end.opens; up = own_end.up })
        ])
        (adds-then x.core y core sent (stays-same x.core y refl refl) (adds-heard y j.at_client steps.m (record { core = core; sent = sent; notices = told }) steps.hears)) (λ on g h it. refl)

-- ---- every event

pub event-adds : (w new : World) (e : Event) → ClientsStand w → ClientsQuiet w → Happens w e new → AddsBack w new
event-adds w new e c q happens = go e happens (ends-event w new e happens)
  where
    still : ClientsStay w new → EndsBack w new → AddsBack w new
    still stays ends = adds-still w new stays ends

    go : (e : Event) → Happens w e new → EndsBack w new → AddsBack w new
    go (event.Open i name priority) happens ends = still (stay-open w new i happens.0.x happens.0.at name priority happens.1) ends
    go (event.Clear i k) happens ends = still (stay-clear w new i happens.0.x happens.0.at k happens.0.h happens.1) ends
    go (event.Read i k data_type count) happens ends = still (stay-read w new i happens.0.x happens.0.at k happens.0.h data_type count happens.1) ends
    go (event.Write i k e) happens ends = still (stay-write w new i happens.0.x happens.0.at k happens.0.h e happens.1) ends
    go (event.WriteNotify i k e) happens ends = still (stay-put w new i happens.0.x happens.0.at k happens.0.h e happens.1) ends
    go (event.Subscribe i k data_type count mask) happens ends = adds-subscribe w new i happens.0.x happens.0.at (q.tidy i happens.0.x happens.0.at) k happens.0.h data_type count mask happens.1 ends
    go (event.Unsubscribe i n) happens ends = still (stay-unsubscribe w new i happens.0.x happens.0.at happens.0.s happens.1) ends
    go (event.Collect i r) happens ends = still (stay-same w new (ap (λ (z : World). z.clients) happens.1.2)) ends
    go (event.GiveUp i r) happens ends = still (stay-same w new (ap (λ (z : World). z.clients) happens.1.2)) ends
    go (event.ClientDatagram i from bytes) happens ends = still (stay-datagram w new i happens.0.x happens.0.at from bytes happens.1) ends
    go (event.ServerDatagram i from bytes) happens ends = still (stay-same w new (ap (λ (z : World). z.clients) happens.1.2)) ends
    go (event.Accept i) happens ends = still (stay-accept w new i happens.0.x happens.0.v happens.0.at happens.1) ends
    go (event.Up k n) happens ends = (let h = happens.0.0 in still (stay-up w new k h.j h.x h.joins.client n h.y happens.1) ends)
    go (event.Down k n) happens ends = (let h = happens.0.0 in still (stay-down w new k h.j h.x h.joins.client n h.y happens.1) ends)
    go (event.ServerStep k) happens ends = (let h = happens.0 in still (stay-same w new (still-server-step w new k h.j h.y happens.1).0) ends)
    go (event.ClientStep k) happens ends = (let h = happens.0 in adds-hearing w new k h.j h.x h.joins.at h.joins.client h.is_open c happens.1 ends)
    go (event.Pump k) happens ends = (let h = happens.0 in still (stay-same w new (still-pump w new k h.j h.y happens.1).0) ends)
    go (event.CutClient k) happens ends = (let h = happens.0 in still (stay-cut-client w new k h.j h.x h.joins.client happens.1) ends)
    go (event.CutServer k) happens ends = (let h = happens.0 in still (stay-same w new (still-cut-server w new k h.j h.y happens.1).0) ends)
    go (event.ClientRestart i) happens ends = still (stay-restart w new i happens.0.x happens.1) ends
    go (event.ServerRestart i) happens ends = still (stay-same w new (still-server-restart w new i happens.0.y happens.1).0) ends
    go (event.Post i name e mask) happens ends = still (stay-same w new (still-post w new i happens.0.y name e mask happens.1).0) ends
    go (event.Finish i name) happens ends = still (stay-same w new (still-finish w new i happens.0.y name happens.1).0) ends
    go (event.Remove i name) happens ends = still (stay-same w new (still-remove w new i happens.0.y name happens.1).0) ends
    go (event.Add i r) happens ends = still (stay-same w new (still-add w new i happens.0.y r happens.1).0) ends
    go (event.Tick moment) happens ends =
        still (stay-still w new (λ i y at. ticks-still moment _ w happens.1.0 happens.1.1 i y (subst (λ (v : World). At v.clients i y) happens.1.2 at))) ends
