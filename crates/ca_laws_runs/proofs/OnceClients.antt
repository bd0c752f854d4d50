-- The events of clients keep what clients called and sent.
use Rattle.std.proofs.Common.{◌≡◌, ℕ, zero, suc, ◌<◌, ◌+◌, ◌⊎◌, inl, inr, Bool, true, false, ◌&&◌, cond, eqb, List, [], ◌∷◌, ◌++◌, length, Option, Some, None, refl, sym, ap, ◌∙◌, subst, arith}
use Rattle.std.specs.Prelude.{drop, is_none, is_some, map, option_map, unwrap_or}
use Rattle.std.specs.List.{FoldsTo}
use Rattle.std.proofs.lemmas.Bool.{and_from, both_ways, eq-eqb}
use Rattle.ca_text.specs.Place.{At}
use Rattle.ca_text.specs.declared.refusal.Refusal.{Refusal}
use Rattle.ca_text.proofs.Places.{At-append, At-last, At-mapped, At-one, At-set, At-snoc, At-within, some_is}
use Rattle.ca_arena.specs.declared.handle.Handle.{Handle}
use Rattle.ca_dbr.specs.Elements.{Elements}
use Rattle.ca_link.specs.Link.{with_handed}
use Rattle.ca_model.specs.Answers.{Closed, Closing, Left, NeedBytes, Notices, Sending, Stepped}
use Rattle.ca_model.specs.Client.{Client, ClientCircuit, Connection, connection_at, ended, on_connection, out_bytes}
use Rattle.ca_model.specs.ClientEnds.{ConnectsOn, StepsOn, after_taking, handed_over}
use Rattle.ca_model.specs.Hears.{Effect}
use Rattle.ca_model.specs.Ends.{Address}
use Rattle.ca_model.specs.History.{Called, Intent, Line, Nothing, Sent, Step, ToRead, ToWatch, ToWrite, Wish}
use Rattle.ca_model.specs.History as history
use Rattle.ca_model.specs.Client as client
use Rattle.ca_model.specs.ClientEvents.{DownTaken, HappensAccept, HappensClear, HappensClientDatagram, HappensClientRestart, HappensClientStep, HappensCutClient, HappensDown, HappensHandingOut, HappensOpen, HappensRead, HappensSubscribe, HappensUnsubscribe, HappensUp, HappensWrite, HappensWriteNotify, Outcomes, TicksOne, WantsFirst, about_at, after_tick, cancelled, client_after, client_closed, client_ended, client_gone, client_stepped, connected_as, heard_in, left_silent, lines_of, new_circuit, refused, closing_notices}
use Rattle.ca_model.specs.World.{ClientSide, Joined, Names, ServerSide, World, addresses, client_begun, log_length, with_circuit, with_client, with_server}
use Rattle.ca_laws_parts.specs.Held.{with_request, with_subscription}
use Rattle.ca_laws_parts.specs.Clients.{ClientsStand}
use Rattle.ca_laws_parts.proofs.ClientsMore.{unconnected-is, wanted-there}
use Rattle.ca_laws_runs.specs.Quiet.{ClientsQuiet, Tidy}
use Rattle.ca_laws_runs.proofs.HeardClients.{quiet-ticks}
use Rattle.ca_laws_runs.proofs.OnceLess.{Less, less-ended, less-itself, less-on, less-same}
use Rattle.ca_laws_runs.proofs.OnceMoved.{Moved, moved-all-received, moved-before, moved-connected, moved-given, moved-heard, moved-less, moved-ticked}
use Rattle.ca_laws_runs.proofs.OnceCalls.{Calls, NoCall, calls-clear, calls-moved, calls-open, calls-put, calls-read, calls-subscribe, calls-unsubscribe, calls-write, no-lines, notices-no-call, plain-no-request}
use Rattle.ca_laws_runs.proofs.OnceWorld.{IsSameEnd, OnceStand, all-map, all-same, all-set, once-called, once-core, once-lines, once-same, same-closed, same-end}

-- ---- calls

pub no-refusal : (e : Refusal) → NoCall (history.Refused e ∷ [])
no-refusal e zero intent f at = differ (some_is (history.Refused e) (Called intent f) at)
  where
    differ : history.Refused e ≡ Called intent f → ⊥
    differ is = cc
no-refusal e (suc p) intent f at = cc

once-refused : (w new : World) (i : ℕ) (x : ClientSide) (e : Refusal) → At w.clients i x → new ≡ refused i x e w → OnceStand w → OnceStand new
once-refused w new i x e at is s = subst (λ (v : World). OnceStand v) (sym is) (once-lines w i x (history.Refused e ∷ []) at (no-refusal e) s)

-- what a client does by itself
once-own : (w : World) (i : ℕ) (x : ClientSide) (o : Outcomes) → At w.clients i x → o.names ≡ x.names → Tidy x.names x.core → Moved x.core o.sent o.core → NoCall o.lines → OnceStand w → OnceStand (client_after i x x.names o w)
once-own w i x o at same t m none s =
    once-called w i x x.names o at (subst (λ (n : Names). Calls x.names x.core x.names o.sent o.lines n o.core) (sym same) (calls-moved x.names x.core o.sent o.core o.lines t m none))
    (inr (plain-no-request x.names x.core t o.sent m.plain)) s

module _ (w new : World) (i : ℕ) (x : ClientSide) (at : At w.clients i x) (stands : ClientsStand w) (q : ClientsQuiet w) (s : OnceStand w) where
  pub once-open : (name : List ℕ) (priority : ℕ) → HappensOpen w i x name priority new → OnceStand new
  once-open name priority happens = elim happens [
    | inl refusal ↦ once-refused w new i x refusal.0 at refusal.3 s
    | inr did ↦
        let names : Names = record x.names { channels = x.names.channels ++ did.0 ∷ [] } in
        let o : Outcomes = record { core = did.2; names = names; lines = history.Opened (length x.names.channels) name ∷ []; sent = did.1 } in
        subst (λ (v : World). OnceStand v) (sym did.4)
        (once-called w i x names o at (calls-open x.names x.core (record { name = name; priority = priority; now = w.moment }) did.0 did.1 did.2 (length x.names.channels) name did.3 (q.tidy i x at)) (inl stands.handles) s)
  ]

  pub once-read : (c : ℕ) (h : Handle) (data_type count : ℕ) → HappensRead w i x c h data_type count new → OnceStand new
  once-read c h data_type count happens = elim happens [
    | inl refusal ↦ once-refused w new i x refusal.0 at refusal.3 s
    | inr did ↦
        let intent : Intent = history.On c (history.Request history.Read (length x.names.requests)) in
        let names : Names = with_request did.0 intent x.names in
        let o : Outcomes = record { core = did.2; names = names; lines = Called intent (ToRead data_type count) ∷ []; sent = did.1 } in
        subst (λ (v : World). OnceStand v) (sym did.4)
        (once-called w i x names o at (calls-read x.names x.core c h (stands.sound i x at).placed (stands.sound i x at).named.requests (record { data_type = data_type; count = count }) did.0 did.1 did.2 did.3) (inl stands.handles) s)
  ]

  pub once-write-notify : (c : ℕ) (h : Handle) (e : Elements) → HappensWriteNotify w i x c h e new → OnceStand new
  once-write-notify c h e happens = elim happens [
    | inl refusal ↦ once-refused w new i x refusal.0 at refusal.3 s
    | inr did ↦
        let intent : Intent = history.On c (history.Request history.Put (length x.names.requests)) in
        let names : Names = with_request did.0 intent x.names in
        let o : Outcomes = record { core = did.2; names = names; lines = Called intent (ToWrite e) ∷ []; sent = did.1 } in
        subst (λ (v : World). OnceStand v) (sym did.4)
        (once-called w i x names o at (calls-put x.names x.core c h (stands.sound i x at).placed (stands.sound i x at).named.requests e did.0 did.1 did.2 did.3) (inl stands.handles) s)
  ]

  pub once-write : (c : ℕ) (h : Handle) (e : Elements) → At x.names.channels c h → HappensWrite w i x c h e new → OnceStand new
  once-write c h e named happens = elim happens [
    | inl refusal ↦ once-refused w new i x refusal.0 at refusal.3 s
    | inr did ↦
        let o : Outcomes = record { core = did.2; names = record x.names { writes = x.names.writes + 1 }; lines = Called (history.On c (history.Request history.Write x.names.writes)) (ToWrite e) ∷ []; sent = did.1 } in
        subst (λ (v : World). OnceStand v) (sym did.4)
        (once-called w i x x.names o at (calls-write x.names x.core c h e did.1 did.2 (stands.sound i x at).placed (q.tidy i x at) named did.3) (inl stands.handles) s)
  ]

  pub once-subscribe : (c : ℕ) (h : Handle) (data_type count mask : ℕ) → HappensSubscribe w i x c h data_type count mask new → OnceStand new
  once-subscribe c h data_type count mask happens = elim happens [
    | inl refusal ↦ once-refused w new i x refusal.0 at refusal.3 s
    | inr did ↦
        let intent : Intent = history.On c (history.Subscribe (length x.names.subscriptions)) in
        let names : Names = with_subscription did.0 intent x.names in
        let o : Outcomes = record { core = did.2; names = names; lines = Called intent (ToWatch data_type count mask) ∷ []; sent = did.1 } in
        subst (λ (v : World). OnceStand v) (sym did.4)
        (once-called w i x names o at (calls-subscribe x.names x.core c h (record { data_type = data_type; count = count }) mask did.0 did.1 did.2 did.3 (stands.sound i x at).placed (q.tidy i x at) (stands.sound i x at).named.subscriptions) (inl stands.handles) s)
  ]

  pub once-unsubscribe : (m : ℕ) (g : Handle × Intent) → At x.names.subscriptions m g → HappensUnsubscribe w i x g new → OnceStand new
  once-unsubscribe m g named happens = elim happens [
    | inl refusal ↦ once-refused w new i x refusal.0 at refusal.3 s
    | inr did ↦
        let o : Outcomes = record { core = did.2; names = x.names; lines = Called (cancelled g.1) Nothing ∷ []; sent = did.1 } in
        subst (λ (v : World). OnceStand v) (sym did.4)
        (once-called w i x x.names o at (calls-unsubscribe x.names x.core g m did.1 did.2 did.3 (q.tidy i x at) named) (inl stands.handles) s)
  ]

  pub once-clear : (c : ℕ) (h : Handle) → At x.names.channels c h → HappensClear w i x c h new → OnceStand new
  once-clear c h named happens = elim happens [
    | inl refusal ↦ once-refused w new i x refusal.0 at refusal.3 s
    | inr did ↦
        let lines : List Line = lines_of history.OfCircuit x.names did.0 in
        let o : Outcomes = record { core = did.2; names = x.names; lines = Called (history.On c history.Clear) Nothing ∷ lines; sent = did.1 } in
        subst (λ (v : World). OnceStand v) (sym did.4)
        (once-called w i x x.names o at (calls-clear x.names x.core c h did.0 did.1 did.2 lines did.3 (q.tidy i x at) named (notices-no-call history.OfCircuit x.names did.0)) (inl stands.handles) s)
  ]

  pub once-handing-out : (number : ℕ) (meant : Intent) (line : Option ℕ → Line) → ((o : Option ℕ) → NoCall (line o ∷ [])) → HappensHandingOut w x number meant line new → OnceStand new
  once-handing-out number meant line none happens = subst (λ (v : World). OnceStand v) (sym happens.2) (once-lines w i x (line happens.0 ∷ []) at (none happens.0) s)

  pub once-datagram : (from : Address) (bytes : List ℕ) → HappensClientDatagram w i x from bytes new → OnceStand new
  once-datagram from bytes happens =
      let now : Client = record x.core { moment = client.later w.moment x.core } in
      let e : Effect = record { core = happens.1; sent = happens.0; notices = [] } in
      subst (λ (v : World). OnceStand v) (sym happens.3)
      (once-own w i x (record { core = happens.1; names = x.names; lines = []; sent = happens.0 }) at refl (q.tidy i x at)
      (moved-before x.core now happens.1 happens.0 (less-same x.core now refl refl) (moved-all-received from happens.2.0 now e happens.2.2)) no-lines s)

pub collected-no-call : (r : ℕ) (o : Option ℕ) → NoCall (history.Collected r o ∷ [])
collected-no-call r o zero intent e at = differ (some_is (history.Collected r o) (Called intent e) at)
  where
    differ : history.Collected r o ≡ Called intent e → ⊥
    differ is = cc
collected-no-call r o (suc p) intent e at = cc

pub gave-up-no-call : (r : ℕ) (o : Option ℕ) → NoCall (history.GaveUp r o ∷ [])
gave-up-no-call r o zero intent e at = differ (some_is (history.GaveUp r o) (Called intent e) at)
  where
    differ : history.GaveUp r o ≡ Called intent e → ⊥
    differ is = cc
gave-up-no-call r o (suc p) intent e at = cc

-- ---- bytes move

pub less-handed : (c : Handle) (k : ℕ) (x : Client) → Less x (handed_over c k x)
less-handed c k x = go (is_some (connection_at x c))
  where
    go : (b : Bool) → Less x (cond b (on_connection (λ (e : Connection). record e { link = with_handed k e.link }) c x) x)
    go true = less-on _ c x
    go false = less-itself x

module _ (w new : World) (k : ℕ) (j : Joined) (x : ClientSide) (at : At w.circuits k j) (there : At w.clients j.client x) (q : ClientsQuiet w) (s : OnceStand w) where
  pub once-up : (n : ℕ) (y : ServerSide) → HappensUp w k n j x y new → OnceStand new
  once-up n y happens = subst (λ (v : World). OnceStand v) (sym happens.2) (go j.lists.client_open)
    where
      go : (b : Bool) → OnceStand (with_server j.server (record y { core = happens.0 }) (cond b (with_client j.client (record x { core = handed_over j.at_client n x.core }) w) (with_circuit k (record j { left_up = drop n j.left_up }) w)))
      go true =
          let z : ClientSide = record x { core = handed_over j.at_client n x.core } in
          let m : Moved x.core [] z.core = moved-less x.core z.core (less-handed j.at_client n x.core) in
          once-core w (with_server j.server (record y { core = happens.0 }) (with_client j.client z w)) j.client x z there refl refl refl refl
          (calls-moved x.names x.core [] z.core [] (q.tidy j.client x there) m no-lines) (plain-no-request x.names x.core (q.tidy j.client x there) [] m.plain) s
      go false =
          once-same w (with_server j.server (record y { core = happens.0 }) (with_circuit k (record j { left_up = drop n j.left_up }) w)) refl refl
          (all-set k j (record j { left_up = drop n j.left_up }) w.circuits at (record { client = refl; life = refl; opens = λ o. o; up = refl })) s

  pub once-down : (n : ℕ) (y : ServerSide) → HappensDown w k n j x y new → OnceStand new
  once-down n y happens =
      let mid : World = happens.0 in
      let r = taken n y mid happens.3 in
      let o : Outcomes = record { core = happens.2; names = x.names; lines = []; sent = happens.1 } in
      subst (λ (v : World). OnceStand v) (sym happens.5)
      (once-own mid j.client x o (subst (λ (c : List ClientSide). At c j.client x) (sym r.1) there) refl (q.tidy j.client x there)
      (moved-given x.core j.at_client _ _ (connection_at x.core j.at_client) happens.1 happens.2 happens.4) no-lines r.0)
    where
      taken : (n : ℕ) (y : ServerSide) (mid : World) → DownTaken w k n j y mid → OnceStand mid × (mid.clients ≡ w.clients)
      taken n y mid took = elim took [
        | inl open_it ↦
            subst (λ (v : World). OnceStand v × (v.clients ≡ w.clients)) (sym open_it.1.2)
            (once-same w (with_server j.server (record y { core = open_it.1.0 }) w) refl refl (all-same w.circuits) s, refl)
        | inr closed_it ↦
            subst (λ (v : World). OnceStand v × (v.clients ≡ w.clients)) (sym closed_it.1) (
              once-same w (with_circuit k (record j { left_down = drop n j.left_down }) w) refl refl
                  (all-set k j (record j { left_down = drop n j.left_down }) w.circuits at (record { client = refl; life = refl; opens = λ o. o; up = refl })) s,
              refl,
            )
      ]

  -- ---- ends

  once-ended : (c : Closing) → OnceStand (client_ended k j x c (ended j.at_client x.core) w)
  once-ended c =
      let mid : World = with_circuit k (client_closed c.left j) w in
      once-own mid j.client x (record { core = ended j.at_client x.core; names = x.names; lines = lines_of history.OfCircuit x.names c.notices; sent = [] }) there refl (q.tidy j.client x there)
      (moved-less x.core (ended j.at_client x.core) (less-ended j.at_client x.core)) (notices-no-call history.OfCircuit x.names c.notices)
      (once-same w mid refl refl (all-set k j (client_closed c.left j) w.circuits at (same-closed c.left j)) s)

  pub once-cut-client : HappensCutClient w k j x new → OnceStand new
  once-cut-client happens =
      subst (λ (v : World). OnceStand v) (sym happens.4) (subst (λ (core : Client). OnceStand (client_ended k j x happens.0 core w)) (sym happens.3.2) (once-ended happens.0))

  pub once-client-step : j.lists.client_open ≡ true → ClientsStand w → HappensClientStep w k j x new → OnceStand new
  once-client-step open_it stands happens = subst (λ (v : World). OnceStand v) (sym happens.4) (go (connection_at x.core j.at_client) refl happens.0 happens.1 happens.2 happens.3)
    where
      go : (o : Option Connection) → connection_at x.core j.at_client ≡ o → (did : Stepped) (sent : List Sending) (core : Client) → StepsOn x.core j.at_client o did sent core → OnceStand (client_stepped k j x did sent core w)
      go None is did sent core steps = absurd (both_ways (is_none (connection_at x.core j.at_client)) (stands.connected k j x at there open_it) (ap is_none is))
      go (Some d) is NeedBytes sent core steps = s
      go (Some d) is (Closed c) sent core steps = subst (λ (z : Client). OnceStand (client_ended k j x c z w)) (sym steps.1.2) (once-ended c)
      go (Some d) is (Notices told) sent core steps =
          let about : Intent = about_at j.lists (length j.lists.heard) in
          let lines : List Line = lines_of about x.names told in
          let logged : ℕ = log_length x.life w.client_logs in
          let g : Step = record { sent = length j.lists.up; logged = logged; after = logged + length lines } in
          let mid : World = with_circuit k (heard_in g j) w in
          let y : Client = after_taking j.at_client steps.rest x.core in
          let e : Effect = record { core = core; sent = sent; notices = told } in
          once-own mid j.client x (record { core = core; names = x.names; lines = lines; sent = sent }) there refl (q.tidy j.client x there)
          (moved-before x.core y core sent (less-on _ j.at_client x.core) (moved-heard y j.at_client steps.m e steps.hears)) (notices-no-call about x.names told)
          (once-same w mid refl refl (all-set k j (heard_in g j) w.circuits at (record { client = refl; life = refl; opens = λ o. o; up = refl })) s)

-- ---- a client begins again

pub once-client-restart : (w new : World) (i : ℕ) (x : ClientSide) → At w.clients i x → OnceStand w → HappensClientRestart w i x new → OnceStand new
once-client-restart w new i x at s happens = subst (λ (v : World). OnceStand v) (sym happens) (record {
  there = λ l y have. elim (At-set w.clients i z l y have) [
    | inl here ↦ ([], subst (λ (n : ℕ). At logs n []) (sym (ap (λ (v : ClientSide). v.life) here.1)) (At-last w.client_logs []))
    | inr old ↦ (let t = s.there l y old.0 in (t.0, At-append w.client_logs ([] ∷ []) y.life t.0 t.1))
  ];
  apart = λ l m y v have also e. elim (At-set w.clients i z l y have) [
    | inl here ↦ elim (At-set w.clients i z m v also) [
      | inl too ↦ here.0 ∙ sym too.0
      | inr old ↦ absurd (fresh m v old.0 (sym e ∙ ap (λ (v : ClientSide). v.life) here.1))
    ]
    | inr was ↦ elim (At-set w.clients i z m v also) [
      | inl too ↦ absurd (fresh l y was.0 (e ∙ ap (λ (v : ClientSide). v.life) too.1))
      | inr old ↦ s.apart l m y v was.0 old.0 e
    ]
  ];
  ends = λ k j y stands have opened.
      let m = At-mapped (client_gone i x) w.circuits k j stands in
      let end : IsSameEnd m.0 j = subst (λ (b : Joined). IsSameEnd m.0 b) (sym m.2) (ends m.0) in
      elim (At-set w.clients i z j.client y have) [
        | inl here ↦ absurd (shut m.0 j m.2 here.0 opened)
        | inr old ↦ end.life ∙ s.ends k m.0 y m.1 (subst (λ (c : ℕ). At w.clients c y) end.client old.0) (end.opens opened)
      ];
  lives = λ k j stands.
      let m = At-mapped (client_gone i x) w.circuits k j stands in
      let end : IsSameEnd m.0 j = subst (λ (b : Joined). IsSameEnd m.0 b) (sym m.2) (ends m.0) in
      let t = s.lives k m.0 m.1 in
      (t.0, subst (λ (n : ℕ). At logs n t.0) (sym end.life) (At-append w.client_logs ([] ∷ []) (m.0).lists.client t.0 t.1));
  called = λ l y log p intent e have tells line. elim (At-set w.clients i z l y have) [
    | inl here ↦ elim (At-snoc w.client_logs [] y.life log tells) [
      | inl old ↦ absurd (not-before y.life log old (ap (λ (v : ClientSide). v.life) here.1))
      | inr last ↦ absurd (empty p intent e (subst (λ (v : List Line). At v p (Called intent e)) last.1 line))
    ]
    | inr old ↦ elim (At-snoc w.client_logs [] y.life log tells) [
      | inl was ↦ s.called l y log p intent e old.0 was line
      | inr last ↦ absurd (fresh l y old.0 last.0)
    ]
  ];
  once = λ l log p q intent e f have a b. elim (At-snoc w.client_logs [] l log have) [
    | inl old ↦ s.once l log p q intent e f old a b
    | inr last ↦ absurd (empty p intent e (subst (λ (v : List Line). At v p (Called intent e)) last.1 a))
  ];
  said = λ k l p j y r stands have mine place is.
      let m = At-mapped (client_gone i x) w.circuits k j stands in
      let end : IsSameEnd m.0 j = subst (λ (b : Joined). IsSameEnd m.0 b) (sym m.2) (ends m.0) in
      let t = s.lives k m.0 m.1 in
      elim (At-set w.clients i z l y have) [
        | inl here ↦ absurd (not-before (m.0).lists.client t.0 t.1 (sym end.life ∙ mine ∙ ap (λ (v : ClientSide). v.life) here.1))
        | inr old ↦ s.said k l p m.0 y r m.1 old.0 (sym end.life ∙ mine) (subst (λ (v : List Sent). At v p r) end.up place) is
      ];
  one = λ k l p q a b r t have also mine first second same_intent is.
      let m = At-mapped (client_gone i x) w.circuits k a have in
      let n = At-mapped (client_gone i x) w.circuits l b also in
      let f : IsSameEnd m.0 a = subst (λ (v : Joined). IsSameEnd m.0 v) (sym m.2) (ends m.0) in
      let g : IsSameEnd n.0 b = subst (λ (v : Joined). IsSameEnd n.0 v) (sym n.2) (ends n.0) in
      s.one k l p q m.0 n.0 r t m.1 n.1 (sym f.life ∙ mine ∙ g.life) (subst (λ (v : List Sent). At v p r) f.up first) (subst (λ (v : List Sent). At v q t) g.up second) same_intent is;
})
  where
    servers : List Address
    servers = addresses (map (λ (y : ServerSide). y.setting) w.servers)

    z : ClientSide
    z = client_begun servers w.moment (length w.client_logs) x.setting

    logs : List (List Line)
    logs = w.client_logs ++ [] ∷ []

    -- the new life is none of those that were
    not-before : (l : ℕ) (log : List Line) → At w.client_logs l log → l ≡ length w.client_logs → ⊥
    not-before l log have is = (let lt : l < length w.client_logs = At-within w.client_logs l log have in omega (arith, lt, is))

    fresh : (l : ℕ) (y : ClientSide) → At w.clients l y → y.life ≡ length w.client_logs → ⊥
    fresh l y have is = (let t = s.there l y have in not-before y.life t.0 t.1 is)

    empty : (p : ℕ) (intent : Intent) (e : Wish) → (let log : List Line = [] in At log p (Called intent e)) → ⊥
    empty p intent e line = cc

    by : (b : Bool) (a : Joined) → IsSameEnd a (cond b (client_closed (out_bytes x.core a.at_client) a) a)
    by true a = same-closed _ a
    by false a = same-end a

    ends : (a : Joined) → IsSameEnd a (client_gone i x a)
    ends a = by (eqb a.client i && a.lists.client_open) a

    shut : (a j : Joined) → j ≡ client_gone i x a → j.client ≡ i → j.lists.client_open ≡ true → ⊥
    shut a j is mine open_it = go (eqb a.client i && a.lists.client_open) refl (ap (λ (z : Joined). z.lists.client_open) is)
      where
        mine_too : a.client ≡ i
        mine_too = sym (ends a).client ∙ sym (ap (λ (z : Joined). z.client) is) ∙ mine

        go : (b : Bool) → (eqb a.client i && a.lists.client_open) ≡ b → j.lists.client_open ≡ (cond b (client_closed (out_bytes x.core a.at_client) a) a).lists.client_open → ⊥
        go true e f = both_ways false refl (sym f ∙ open_it)
        go false e f = both_ways (eqb a.client i && a.lists.client_open) e (and_from (eqb a.client i) a.lists.client_open (eq-eqb a.client i mine_too) (sym f ∙ open_it))

-- ---- a circuit is made

-- one circuit more, on which nothing was sent
pub once-joined : (w new : World) (i : ℕ) (x : ClientSide) (n : Joined) → At w.clients i x → new.clients ≡ w.clients → new.client_logs ≡ w.client_logs → new.circuits ≡ w.circuits ++ n ∷ [] → n.client ≡ i → n.lists.client ≡ x.life → n.lists.up ≡ [] → OnceStand w → OnceStand new
once-joined w new i x n at clients logs circuits mine life none s = record {
  there = λ l y have. (let t = s.there l y (was l y have) in (t.0, subst (λ (v : List (List Line)). At v y.life t.0) (sym logs) t.1));
  apart = λ l m y v have also e. s.apart l m y v (was l y have) (was m v also) e;
  ends = λ k j y stands have opened. elim (here k j stands) [
    | inl old ↦ s.ends k j y old (was j.client y have) opened
    | inr last ↦
        let same : y ≡ x = At-one w.clients i y x (subst (λ (c : ℕ). At w.clients c y) (ap (λ (v : Joined). v.client) last.1 ∙ mine) (was j.client y have)) at in
        ap (λ (v : Joined). v.lists.client) last.1 ∙ life ∙ ap (λ (v : ClientSide). v.life) (sym same)
  ];
  lives = λ k j stands. elim (here k j stands) [
    | inl old ↦ (let t = s.lives k j old in (t.0, subst (λ (v : List (List Line)). At v j.lists.client t.0) (sym logs) t.1))
    | inr last ↦
        let t = s.there i x at in
        (t.0, subst (λ (v : List (List Line)). At v j.lists.client t.0) (sym logs) (subst (λ (c : ℕ). At w.client_logs c t.0) (sym (ap (λ (v : Joined). v.lists.client) last.1 ∙ life)) t.1))
  ];
  called = λ l y log p intent e have tells line. s.called l y log p intent e (was l y have) (old-log y.life log tells) line;
  once = λ l log p q intent e f have a b. s.once l log p q intent e f (old-log l log have) a b;
  said = λ k l p j y r stands have ours place is. elim (here k j stands) [
    | inl old ↦ s.said k l p j y r old (was l y have) ours place is
    | inr last ↦ absurd (nothing p r (subst (λ (v : List Sent). At v p r) (ap (λ (v : Joined). v.lists.up) last.1 ∙ none) place))
  ];
  one = λ k l p q a b r t have also ours first second same_intent is. elim (here k a have) [
    | inr last ↦ absurd (nothing p r (subst (λ (v : List Sent). At v p r) (ap (λ (v : Joined). v.lists.up) last.1 ∙ none) first))
    | inl old ↦ elim (here l b also) [
      | inr last ↦ absurd (nothing q t (subst (λ (v : List Sent). At v q t) (ap (λ (v : Joined). v.lists.up) last.1 ∙ none) second))
      | inl too ↦ s.one k l p q a b r t old too ours first second same_intent is
    ]
  ];
}
  where
    was : (l : ℕ) (y : ClientSide) → At new.clients l y → At w.clients l y
    was l y have = subst (λ (c : List ClientSide). At c l y) clients have

    old-log : (l : ℕ) (log : List Line) → At new.client_logs l log → At w.client_logs l log
    old-log l log have = subst (λ (c : List (List Line)). At c l log) logs have

    here : (k : ℕ) (j : Joined) → At new.circuits k j → At w.circuits k j ⊎ ((k ≡ length w.circuits) × (j ≡ n))
    here k j stands = At-snoc w.circuits n k j (subst (λ (c : List Joined). At c k j) circuits stands)

    nothing : (p : ℕ) (r : Sent) → (let l : List Sent = [] in At l p r) → ⊥
    nothing p r place = cc

same-client : (k : Option Closing) (n : Joined) → (connected_as k n).client ≡ n.client
same-client None n = refl
same-client (Some e) n = refl

same-life : (k : Option Closing) (n : Joined) → (connected_as k n).lists.client ≡ n.lists.client
same-life None n = refl
same-life (Some e) n = refl

same-up : (k : Option Closing) (n : Joined) → (connected_as k n).lists.up ≡ n.lists.up
same-up None n = refl
same-up (Some e) n = refl

pub once-accept : (w new : World) (c : ℕ) (x : ClientSide) (v : WantsFirst w x) → At w.clients c x → ClientsQuiet w → OnceStand w → HappensAccept w c x v new → OnceStand new
once-accept w new c x v at q s happens = elim happens.leaves [
  | inl refusal ↦ subst (λ (u : World). OnceStand u) (sym refusal.1) s
  | inr did ↦
      let k : Option Closing = did.1 in
      let core : Client = did.3 in
      let on : Handle = v.v.circuit in
      let there = wanted-there x.core v.place v.v v.at in
      let first : Joined = new_circuit c x on v.i v.y did.0 in
      let n : Joined = connected_as k first in
      let made : World = record (with_server v.i (record v.y { core = happens.server }) w) { circuits = w.circuits ++ n ∷ [] } in
      let m : Moved x.core did.2 core = moved-connected x.core on there.0 k did.2 core (subst (λ (o : Option ClientCircuit). ConnectsOn x.core on o k did.2 core) (unconnected-is x.core on there.0 there.1 there.2) did.5) in
      subst (λ (u : World). OnceStand u) (sym did.6)
      (once-own made c x (record { core = core; names = x.names; lines = lines_of history.OfCircuit x.names (closing_notices k); sent = did.2 }) at refl (q.tidy c x at) m (notices-no-call history.OfCircuit x.names (closing_notices k))
      (once-joined w made c x n at refl refl refl (same-client k first) (same-life k first) (same-up k first) s))
]

-- ---- a moment

module _ (i : ℕ) (closings : List Left) where
  closes : (b : Bool) (o : Option (List ℕ)) (a : Joined) → IsSameEnd a (cond b (unwrap_or (option_map (λ (left : List ℕ). client_closed left a) o) a) a)
  closes true (Some left) a = same-closed left a
  closes true None a = same-end a
  closes false o a = same-end a

  tick-ends : (a : Joined) → IsSameEnd a (after_tick i closings a)
  tick-ends a = closes (eqb a.client i && a.lists.client_open) (left_silent closings a) a

pub ticks-one-once : (moment : ℕ) (w : World) (i : ℕ) (new : World) → ClientsQuiet w → OnceStand w → TicksOne moment w i new → OnceStand new
ticks-one-once moment w i new q s happens =
    let x : ClientSide = happens.0 in
    let does = happens.5 in
    let o : Outcomes = record { core = happens.4; names = x.names; lines = lines_of history.OfCircuit x.names (happens.2).notices; sent = happens.3 } in
    let after : World = client_after i x x.names o w in
    let made : Moved x.core happens.3 happens.4 = subst (λ (v : List Sending × Client). Moved x.core v.0 v.1) (λ k. (sym does.1 k, sym does.2 k)) (moved-ticked moment x.core) in
    subst (λ (v : World). OnceStand v) (sym happens.6)
    (once-same after (record after { circuits = map (after_tick i (happens.2).closings) after.circuits }) refl refl (all-map (after_tick i (happens.2).closings) after.circuits (tick-ends i (happens.2).closings))
    (once-own w i x o happens.1 refl (q.tidy i x happens.1) made (notices-no-call history.OfCircuit x.names (happens.2).notices) s))

pub once-ticks : (moment : ℕ) (clients : List ℕ) (w new : World) → ClientsQuiet w → OnceStand w → FoldsTo (TicksOne moment) w clients new → OnceStand new
once-ticks moment [] w new q s folds = subst (λ (v : World). OnceStand v) folds s
once-ticks moment (i ∷ clients) w new q s folds =
    once-ticks moment clients folds.0 new (quiet-ticks moment (i ∷ []) w folds.0 q (folds.0, folds.1, refl)) (ticks-one-once moment w i folds.0 q s folds.1) folds.2
