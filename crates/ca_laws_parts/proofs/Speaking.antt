-- All that clients send in any event are messages, and their cores fit messages after it.
use Rattle.std.proofs.Common.{◌≡◌, ℕ, ◌+◌, ◌≤◌, inl, inr, Bool, true, false, ◌&&◌, cond, eqb, List, [], ◌∷◌, ◌++◌, length, Option, Some, None, refl, sym, ap, subst, arith}
use Rattle.std.specs.List.{FoldsTo}
use Rattle.std.specs.Prelude.{drop, filter, is_none, is_some, map, option_map, slice_set, unwrap_or}
use Rattle.std.proofs.lemmas.Bool.{both_ways}
use Rattle.ca_arena.specs.Arena.{Place}
use Rattle.ca_arena.specs.declared.handle.Handle.{Handle}
use Rattle.ca_dbr.specs.Elements.{Elements}
use Rattle.ca_ids.specs.Table.{same_handle}
use Rattle.ca_link.specs.Link.{with_handed}
use Rattle.ca_search.specs.Searcher as searcher
use Rattle.ca_search.specs.Searches as search
use Rattle.ca_text.specs.Limits.{arena_slots, priority_limit}
use Rattle.ca_text.specs.Place.{At}
use Rattle.ca_text.specs.declared.refusal.Refusal.{Refusal}
use Rattle.ca_text.proofs.Places.{At-map, At-mapped, At-parts, At-set, At-snoc, some_is}
use Rattle.ca_wire.specs.Fields.{Fields}
use Rattle.ca_wire.specs.Message.{IsMessage}
use Rattle.ca_model.specs.Answers.{Closed, Closing, Left, NeedBytes, Notices, Sending, Stepped}
use Rattle.ca_model.specs.Client.{Client, ClientCircuit, Connection, connection_at, ended, later, new_circuit, on_connection, out_bytes}
use Rattle.ca_model.specs.ClientEnds.{ClientSetting, ConnectsOn, Receives, ReceivesAll, StepsOn, after_taking, beacon_heard, distinct, handed_over, new_client}
use Rattle.ca_model.specs.ClientEnds as ends
use Rattle.ca_model.specs.Ends.{Address, NamesFit}
use Rattle.ca_model.specs.Hears.{Effect}
use Rattle.ca_model.specs.History.{Intent, Line, Sent, Step}
use Rattle.ca_model.specs.History as history
use Rattle.ca_model.specs.ClientEvents.{DownTaken, HappensAccept, HappensClear, HappensClientDatagram, HappensClientRestart, HappensClientStep, HappensCutClient, HappensDown, HappensOpen, HappensRead, HappensSubscribe, HappensUnsubscribe, HappensUp, HappensWrite, HappensWriteNotify, Outcomes, TicksOne, WantsFirst, about_at, after_tick, client_after, client_closed, client_ended, client_gone, client_stepped, connected_as, heard_in, left_silent, lines_of, refused, sent_on, closing_notices}
use Rattle.ca_model.specs.ClientEvents as event
use Rattle.ca_model.specs.World.{ClientSide, Joined, Names, ServerSide, World, addresses, client_begun, log_length, with_circuit, with_client, with_server}
use Rattle.ca_model.proofs.Hearing.{received-keeps}
use Rattle.ca_model.proofs.Tables.{place, under-at}
use Rattle.ca_model.proofs.Thinner.{Thins}
use Rattle.ca_laws_parts.specs.Held.{AreFew}
use Rattle.ca_laws_parts.specs.Circuit.{sent_to, stamped}
use Rattle.ca_laws_parts.specs.Clients.{ClientsStand}
use Rattle.ca_laws_parts.proofs.ClientsKeep.{none-under}
use Rattle.ca_laws_parts.proofs.ClientsMore.{unconnected-is, wanted-there}
use Rattle.ca_laws_parts.specs.Runs.{AllFit}
use Rattle.ca_laws_parts.specs.Speaks.{ClientFits, SearchesFit, SendsMessages, SpeaksWell}
use Rattle.ca_laws_parts.specs.Streams.{AreMessages}
use Rattle.ca_laws_parts.specs.Worlds.{sent_up}
use Rattle.ca_laws_parts.proofs.Fits.{all-fit, both-sent, ended-fits, fits-like, fits-on, none-sent}
use Rattle.ca_laws_parts.proofs.HearSpeaks.{filtered-at, finds-speaks, hears-speaks, quiet-speaks}
use Rattle.ca_laws_parts.proofs.MoreSpeaks.{connects-speaks, gives-speaks, tick-speaks}
use Rattle.ca_laws_parts.proofs.Quiet.{Quiet, quiet-as, quiet-map, quiet-set}
use Rattle.ca_laws_parts.proofs.Speaks.{clear-speaks, open-speaks, put-speaks, read-speaks, subscribe-speaks, unsubscribe-speaks, write-speaks}

-- ---- a new client

pub new-fits : (a : ClientSetting) → NamesFit a.peer → ClientFits (new_client a)
new-fits a fit = record {
  user = fit.0;
  host = fit.1;
  channels = λ h ch is. absurd (none-under h ch is);
  requests = λ h r is. absurd (none-under h r is);
  subscriptions = λ h d is. absurd (none-under h d is);
  circuits = λ h c is.
      let b = At-mapped (λ (a : Address). record { generation = 1; value = Some (new_circuit a 0 true) }) (distinct a.names) h.index (place h c) (under-at _ h c is) in
      let one : new_circuit b.0 0 true ≡ c = some_is (new_circuit b.0 0 true) c (sym (ap (λ (p : Place ClientCircuit). p.value) b.2)) in
      subst (λ (k : ClientCircuit). k.priority ≤ priority_limit) one (omega arith);
  searches = λ i c at. absurd cc;
}

-- ---- datagrams

few-thins : (x y : Client) → Thins x y → AreFew x → AreFew y
few-thins x y thins few = record {
  channels = subst (λ (n : ℕ). n ≤ arena_slots) (sym thins.channels.few) few.channels;
  requests = subst (λ (n : ℕ). n ≤ arena_slots) (sym thins.requests.few) few.requests;
  subscriptions = subst (λ (n : ℕ). n ≤ arena_slots) (sym thins.subscriptions.few) few.subscriptions;
}

beacon-fits : (from : Address) (m : Fields) (x : Client) → ClientFits x → ClientFits (beacon_heard from m x)
beacon-fits from m x f = record {
  user = f.user;
  host = f.host;
  channels = f.channels;
  requests = f.requests;
  subscriptions = f.subscriptions;
  circuits = f.circuits;
  searches = go _;
}
  where
    go : (b : Bool) → SearchesFit (cond b (searcher.with_all (search.boosted x.moment) x.searches) x.searches)
    go true = all-fit (search.boosted x.moment) x.searches (λ c. refl) f.searches
    go false = f.searches

received : (from : Address) (x : Client) → AreFew x → ClientFits x → (m : Fields) (e : Effect) → Receives from x m e → SpeaksWell e.core e.sent
received from x few f m e (ends.Search is finds) = finds-speaks x few f _ _ e finds
received from x few f m e (ends.Beacon is port does) = quiet-speaks x few f (beacon_heard from m x) e [] (beacon-fits from m x f) does
received from x few f m e (ends.Other not_search not_beacon does) = quiet-speaks x few f x e [] f does

all-received : (from : Address) (ms : List Fields) (x : Client) → AreFew x → ClientFits x → (e : Effect) → ReceivesAll from x ms e → SpeaksWell e.core e.sent
all-received from [] x few f e does = quiet-speaks x few f x e [] f does
all-received from (m ∷ ms) x few f e does =
    let a : Effect = does.0 in
    let b : Effect = does.1 in
    let first = received from x few f m a does.2 in
    let rest = all-received from ms a.core (few-thins x a.core (received-keeps from x m a does.2).thins few) first.0 b does.3 in
    subst (λ (z : Effect). SpeaksWell z.core z.sent) (sym does.4) (rest.0, both-sent a.sent b.sent first.1 rest.1)

-- ---- what an event leaves

-- no client changes, and none sends anything
pub fit-quiet : (w new : World) → Quiet w new → AllFit w → AllFit new
fit-quiet w new q f = record {
  sent = λ n d at. (let c = q.back n d at in subst (λ (l : List Sent). AreMessages (map (λ (s : Sent). s.message) l)) (sym c.2) (f.sent n c.0 c.1));
  cores = λ i x at. f.cores i x (subst (λ (l : List ClientSide). At l i x) q.clients at);
  given = λ i x at. f.given i x (subst (λ (l : List ClientSide). At l i x) q.clients at);
}

sent-messages : (i : ℕ) (n : Names) (sent : List Sending) (j : Joined) → SendsMessages sent → AreMessages (sent_up j) → AreMessages (sent_up (sent_to i n sent j))
sent-messages i n sent j good was k m at =
    let a = At-mapped (λ (s : Sent). s.message) (j.lists.up ++ sent_on i n sent j) k m at in
    elim (At-parts j.lists.up (sent_on i n sent j) k a.0 a.1) [
      | inl old ↦ was k m (subst (λ (z : Fields). At (sent_up j) k z) (sym a.2) (At-map (λ (s : Sent). s.message) j.lists.up k a.0 old))
      | inr new ↦ subst (λ (z : Fields). IsMessage z) (sym a.2) (on (eqb j.client i && j.lists.client_open) new.0 a.0 new.2)
    ]
  where
    on : (b : Bool) (l : ℕ) (s : Sent) → At (cond b (map (stamped n) (filter (λ (s : Sending). same_handle s.circuit j.at_client) sent)) []) l s → IsMessage s.message
    on true l s there =
        let b = At-mapped (stamped n) (filter (λ (s : Sending). same_handle s.circuit j.at_client) sent) l s there in
        let k = filtered-at (λ (s : Sending). same_handle s.circuit j.at_client) sent l b.0 b.1 in
        subst (λ (z : Sent). IsMessage z.message) (sym b.2) (good k.0 b.0 k.1)
    on false l s there = absurd cc

-- client i sent these, and its core fits
pub fit-called : (w : World) (i : ℕ) (x : ClientSide) (spoken : Names) (o : Outcomes) → At w.clients i x → SpeaksWell o.core o.sent → AllFit w → AllFit (client_after i x spoken o w)
fit-called w i x spoken o at speaks f = record {
  sent = λ k d there.
      let c = At-mapped (sent_to i spoken o.sent) w.circuits k d there in
      subst (λ (z : Joined). AreMessages (sent_up z)) (sym c.2) (sent-messages i spoken o.sent c.0 speaks.1 (f.sent k c.0 c.1));
  cores = λ l y there. elim (At-set w.clients i z l y there) [
    | inl here ↦ subst (λ (v : ClientSide). ClientFits v.core) (sym here.1) speaks.0
    | inr old ↦ f.cores l y old.0
  ];
  given = λ l y there. elim (At-set w.clients i z l y there) [
    | inl here ↦ subst (λ (v : ClientSide). NamesFit v.setting.peer) (sym here.1) (f.given i x at)
    | inr old ↦ f.given l y old.0
  ];
}
  where
    z : ClientSide
    z = record x { core = o.core; names = o.names }

-- client i is another now, and nothing was sent
fit-client : (w new : World) (i : ℕ) (z : ClientSide) → new.clients ≡ slice_set w.clients i z → ((n : ℕ) (d : Joined) → At new.circuits n d → AreMessages (sent_up d)) → ClientFits z.core → NamesFit z.setting.peer → AllFit w → AllFit new
fit-client w new i z clients sent core given f = record {
  sent = sent;
  cores = λ l y there. elim (At-set w.clients i z l y (subst (λ (c : List ClientSide). At c l y) clients there)) [
    | inl here ↦ subst (λ (v : ClientSide). ClientFits v.core) (sym here.1) core
    | inr old ↦ f.cores l y old.0
  ];
  given = λ l y there. elim (At-set w.clients i z l y (subst (λ (c : List ClientSide). At c l y) clients there)) [
    | inl here ↦ subst (λ (v : ClientSide). NamesFit v.setting.peer) (sym here.1) given
    | inr old ↦ f.given l y old.0
  ];
}

-- ---- calls

module _ (w new : World) (i : ℕ) (x : ClientSide) (at : At w.clients i x) (s : ClientsStand w) (f : AllFit w) where
  core-fits : ClientFits x.core
  core-fits = f.cores i x at

  few : AreFew x.core
  few = (s.sound i x at).named.few

  refused-fit : (e : Refusal) → new ≡ refused i x e w → AllFit new
  refused-fit e is = fit-quiet w new (quiet-as w new (ap (λ (v : World). v.clients) is) (ap (λ (v : World). v.circuits) is)) f

  done : (spoken : Names) (o : Outcomes) → SpeaksWell o.core o.sent → new ≡ client_after i x spoken o w → AllFit new
  done spoken o speaks is = subst (λ (v : World). AllFit v) (sym is) (fit-called w i x spoken o at speaks f)

  pub open-fit : (name : List ℕ) (priority : ℕ) → HappensOpen w i x name priority new → AllFit new
  open-fit name priority happens = elim happens [
    | inl refusal ↦ refused-fit refusal.0 refusal.3
    | inr did ↦ done _ _ (open-speaks x.core did.2 _ did.0 did.1 core-fits did.3) did.4
  ]

  pub read-fit : (c : ℕ) (h : Handle) (data_type count : ℕ) → HappensRead w i x c h data_type count new → AllFit new
  read-fit c h data_type count happens = elim happens [
    | inl refusal ↦ refused-fit refusal.0 refusal.3
    | inr did ↦ done _ _ (read-speaks x.core did.2 h _ did.0 did.1 core-fits did.3) did.4
  ]

  pub put-fit : (c : ℕ) (h : Handle) (e : Elements) → HappensWriteNotify w i x c h e new → AllFit new
  put-fit c h e happens = elim happens [
    | inl refusal ↦ refused-fit refusal.0 refusal.3
    | inr did ↦ done _ _ (put-speaks x.core did.2 h e did.0 did.1 core-fits did.3) did.4
  ]

  pub write-fit : (c : ℕ) (h : Handle) (e : Elements) → HappensWrite w i x c h e new → AllFit new
  write-fit c h e happens = elim happens [
    | inl refusal ↦ refused-fit refusal.0 refusal.3
    | inr did ↦ done _ _ (write-speaks x.core did.2 h e did.0 did.1 core-fits did.3) did.4
  ]

  pub subscribe-fit : (c : ℕ) (h : Handle) (data_type count mask : ℕ) → HappensSubscribe w i x c h data_type count mask new → AllFit new
  subscribe-fit c h data_type count mask happens = elim happens [
    | inl refusal ↦ refused-fit refusal.0 refusal.3
    | inr did ↦ done _ _ (subscribe-speaks x.core did.2 h _ mask did.0 did.1 core-fits did.3) did.4
  ]

  pub unsubscribe-fit : (g : Handle × Intent) → HappensUnsubscribe w i x g new → AllFit new
  unsubscribe-fit g happens = elim happens [
    | inl refusal ↦ refused-fit refusal.0 refusal.3
    | inr did ↦ done _ _ (unsubscribe-speaks x.core did.2 g.0 did.0 did.1 few core-fits did.3) did.4
  ]

  pub clear-fit : (c : ℕ) (h : Handle) → HappensClear w i x c h new → AllFit new
  clear-fit c h happens = elim happens [
    | inl refusal ↦ refused-fit refusal.0 refusal.3
    | inr did ↦ done _ _ (clear-speaks x.core did.2 h did.0 did.1 few core-fits did.3) did.4
  ]

  pub datagram-fit : (from : Address) (bytes : List ℕ) → HappensClientDatagram w i x from bytes new → AllFit new
  datagram-fit from bytes happens =
      let now : Client = record x.core { moment = later w.moment x.core } in
      done _ _
      (all-received from happens.2.0 now (record { channels = few.channels; requests = few.requests; subscriptions = few.subscriptions }) (fits-like x.core now refl refl refl refl refl core-fits.requests core-fits)
      (record { core = happens.1; sent = happens.0; notices = [] }) happens.2.2) happens.3

-- ---- circuits are made, and a new life

pub accept-fit : (w new : World) (c : ℕ) (x : ClientSide) (v : WantsFirst w x) → At w.clients c x → ClientsStand w → HappensAccept w c x v new → AllFit w → AllFit new
accept-fit w new c x v at s happens f = elim happens.leaves [
  | inl refusal ↦ subst (λ (u : World). AllFit u) (sym refusal.1) f
  | inr did ↦
      let wanted = wanted-there x.core v.place v.v v.at in
      let k : Option Closing = did.1 in
      let o : Outcomes = record { core = did.3; names = x.names; lines = lines_of history.OfCircuit x.names (closing_notices k); sent = did.2 } in
      let n : Joined = connected_as k (event.new_circuit c x v.v.circuit v.i v.y did.0) in
      let made : World = record (with_server v.i (record v.y { core = happens.server }) w) { circuits = w.circuits ++ n ∷ [] } in
      subst (λ (u : World). AllFit u) (sym did.6)
      (fit-called made c x x.names o at
      (connects-speaks x.core did.3 v.v.circuit wanted.0 k did.2 (s.sound c x at).named.few (f.cores c x at) wanted.1
      (subst (λ (o : Option ClientCircuit). ConnectsOn x.core v.v.circuit o k did.2 did.3) (unconnected-is x.core v.v.circuit wanted.0 wanted.1 wanted.2) did.5))
      (record {
        sent = λ l d there. elim (At-snoc w.circuits n l d there) [
          | inl old ↦ f.sent l d old
          | inr last ↦ subst (λ (z : Joined). AreMessages (sent_up z)) (sym last.1) (nothing k (event.new_circuit c x v.v.circuit v.i v.y did.0) refl)
        ];
        cores = f.cores;
        given = f.given;
      }))
]
  where
    nothing : (k : Option Closing) (n : Joined) → sent_up n ≡ [] → AreMessages (sent_up (connected_as k n))
    nothing None n is = subst (λ (l : List Fields). AreMessages l) (sym is) (λ i m at. absurd cc)
    nothing (Some q) n is = subst (λ (l : List Fields). AreMessages l) (sym is) (λ i m at. absurd cc)

pub client-restart-fit : (w new : World) (i : ℕ) (x : ClientSide) → At w.clients i x → HappensClientRestart w i x new → AllFit w → AllFit new
client-restart-fit w new i x at is f =
    let servers : List Address = addresses (map (λ (y : ServerSide). y.setting) w.servers) in
    let q = quiet-map w (record w { circuits = map (client_gone i x) w.circuits }) (client_gone i x) refl refl same in
    subst (λ (v : World). AllFit v) (sym is)
    (fit-client w _ i (client_begun servers w.moment (length w.client_logs) x.setting) refl (fit-quiet w _ q f).sent (new-fits _ (f.given i x at)) (f.given i x at) f)
  where
    same : (c : Joined) → (client_gone i x c).lists.up ≡ c.lists.up
    same c = go (eqb c.client i && c.lists.client_open)
      where
        go : (b : Bool) → (cond b (client_closed (out_bytes x.core c.at_client) c) c).lists.up ≡ c.lists.up
        go true = refl
        go false = refl

-- ---- bytes move

module _ (w new : World) (k : ℕ) (j : Joined) (x : ClientSide) (on : At w.circuits k j) (at : At w.clients j.client x) (s : ClientsStand w) (f : AllFit w) where
  fits : ClientFits x.core
  fits = f.cores j.client x at

  handed-fits : (n : ℕ) → ClientFits (handed_over j.at_client n x.core)
  handed-fits n = go (is_some (connection_at x.core j.at_client))
    where
      go : (b : Bool) → ClientFits (cond b (on_connection (λ (e : Connection). record e { link = with_handed n e.link }) j.at_client x.core) x.core)
      go true = fits-on _ j.at_client x.core fits
      go false = fits

  pub up-fit : (n : ℕ) (y : ServerSide) → HappensUp w k n j x y new → AllFit new
  up-fit n y (server, gives, is) = subst (λ (v : World). AllFit v) (sym is) (go j.lists.client_open)
    where
      go : (b : Bool) → AllFit (with_server j.server (record y { core = server }) (cond b (with_client j.client (record x { core = handed_over j.at_client n x.core }) w) (with_circuit k (record j { left_up = drop n j.left_up }) w)))
      go true = fit-client w _ j.client (record x { core = handed_over j.at_client n x.core }) refl f.sent (handed-fits n) (f.given j.client x at) f
      go false =
          let mid : World = with_circuit k (record j { left_up = drop n j.left_up }) w in
          let b = fit-quiet w mid (quiet-set w k j (record j { left_up = drop n j.left_up }) on refl) f in
          record { sent = b.sent; cores = b.cores; given = b.given }

  -- what the server's end gave
  taken : (n : ℕ) (y : ServerSide) (mid : World) → DownTaken w k n j y mid → Quiet w mid
  taken n y mid (inl open_it) = quiet-as w mid (ap (λ (v : World). v.clients) open_it.1.2) (ap (λ (v : World). v.circuits) open_it.1.2)
  taken n y mid (inr shut_it) = subst (λ (v : World). Quiet w v) (sym shut_it.1) (quiet-set w k j (record j { left_down = drop n j.left_down }) on refl)

  pub down-fit : (n : ℕ) (y : ServerSide) → HappensDown w k n j x y new → AllFit new
  down-fit n y (mid, sent, core, down, gives, is) =
      let q = taken n y mid down in
      subst (λ (v : World). AllFit v) (sym is)
      (fit-called mid j.client x x.names _ (subst (λ (l : List ClientSide). At l j.client x) (sym q.clients) at)
      (gives-speaks x.core core j.at_client _ _ (connection_at x.core j.at_client) sent fits gives) (fit-quiet w mid q f))

  -- ---- ends

  ended-fit : (c : Closing) (core : Client) → core ≡ ended j.at_client x.core → AllFit (client_ended k j x c core w)
  ended-fit c core is =
      let mid : World = with_circuit k (client_closed c.left j) w in
      fit-called mid j.client x x.names (record { core = core; names = x.names; lines = lines_of history.OfCircuit x.names c.notices; sent = [] }) at (subst (λ (z : Client). ClientFits z) (sym is) (ended-fits j.at_client x.core fits), none-sent)
      (fit-quiet w mid (quiet-set w k j (client_closed c.left j) on refl) f)

  pub cut-client-fit : HappensCutClient w k j x new → AllFit new
  cut-client-fit happens = subst (λ (v : World). AllFit v) (sym happens.4) (ended-fit happens.0 happens.2 happens.3.2)

  pub client-step-fit : j.lists.client_open ≡ true → HappensClientStep w k j x new → AllFit new
  client-step-fit opened happens = subst (λ (v : World). AllFit v) (sym happens.4) (go (connection_at x.core j.at_client) refl happens.0 happens.1 happens.2 happens.3)
    where
      go : (o : Option Connection) → connection_at x.core j.at_client ≡ o → (did : Stepped) (sent : List Sending) (core : Client) → StepsOn x.core j.at_client o did sent core → AllFit (client_stepped k j x did sent core w)
      go None is did sent core steps = absurd (both_ways (is_none (connection_at x.core j.at_client)) (s.connected k j x on at opened) (ap is_none is))
      go (Some d) is NeedBytes sent core steps = f
      go (Some d) is (Closed c) sent core steps = ended-fit c core steps.1.2
      go (Some d) is (Notices told) sent core steps =
          let lines : List Line = lines_of (about_at j.lists (length j.lists.heard)) x.names told in
          let logged : ℕ = log_length x.life w.client_logs in
          let g : Step = record { sent = length j.lists.up; logged = logged; after = logged + length lines } in
          let mid : World = with_circuit k (heard_in g j) w in
          let y : Client = after_taking j.at_client steps.rest x.core in
          let few : AreFew x.core = (s.sound j.client x at).named.few in
          fit-called mid j.client x x.names (record { core = core; names = x.names; lines = lines; sent = sent }) at
          (hears-speaks y (record { channels = few.channels; requests = few.requests; subscriptions = few.subscriptions }) (fits-on _ j.at_client x.core fits) j.at_client steps.m steps.first.1.good (record { core = core; sent = sent; notices = told }) steps.hears)
          (fit-quiet w mid (quiet-set w k j (heard_in g j) on refl) f)

-- ---- moments

tick-one-fit : (moment : ℕ) (w : World) (i : ℕ) (new : World) → TicksOne moment w i new → AllFit w → AllFit new
tick-one-fit moment w i new (x, at, t, sent, core, does, is) f =
    let o : Outcomes = record { core = core; names = x.names; lines = lines_of history.OfCircuit x.names t.notices; sent = sent } in
    let after : World = client_after i x x.names o w in
    let speaks : SpeaksWell core sent = subst (λ (p : List Sending × Client). SpeaksWell p.1 p.0) (λ e. (sym does.1 e, sym does.2 e)) (tick-speaks moment x.core (f.cores i x at)) in
    subst (λ (v : World). AllFit v) (sym is)
    (fit-quiet after _ (quiet-map after _ (after_tick i t.closings) refl refl (same t.closings)) (fit-called w i x x.names o at speaks f))
  where
    same : (closings : List Left) (c : Joined) → (after_tick i closings c).lists.up ≡ c.lists.up
    same closings c = go (eqb c.client i && c.lists.client_open) (left_silent closings c)
      where
        go : (b : Bool) (o : Option (List ℕ)) → (cond b (unwrap_or (option_map (λ (left : List ℕ). client_closed left c) o) c) c).lists.up ≡ c.lists.up
        go true (Some left) = refl
        go true None = refl
        go false o = refl

pub ticks-fit : (moment : ℕ) (clients : List ℕ) (w new : World) → FoldsTo (TicksOne moment) w clients new → AllFit w → AllFit new
ticks-fit moment [] w new same f = subst (λ (v : World). AllFit v) same f
ticks-fit moment (i ∷ clients) w new (mid, one, rest) f = ticks-fit moment clients mid new rest (tick-one-fit moment w i mid one f)
