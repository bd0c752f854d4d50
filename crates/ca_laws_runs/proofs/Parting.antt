-- What an event adds to the logs of clients, but for a message that is read: nothing that is told,
-- or that something is lost as an end of a circuit ended or a channel was cleared.
use Rattle.std.proofs.Common.{◌≡◌, ℕ, zero, suc, ◌+◌, ◌<◌, ◌⊎◌, inl, inr, Bool, true, false, ◌&&◌, cond, eqb, List, [], ◌∷◌, ◌++◌, length, Option, Some, None, refl, sym, ap, ◌∙◌, subst, arith}
use Rattle.std.specs.Prelude.{find, is_none, map, option_and_then, option_map, slice_set, take, unwrap_or}
use Rattle.std.proofs.lemmas.Bool.{and_from, both_ways, eq-eqb}
use Rattle.ca_text.specs.Place.{At}
use Rattle.ca_text.proofs.Places.{At-after, At-map, At-mapped, some_is}
use Rattle.ca_arena.specs.declared.handle.Handle.{Handle}
use Rattle.ca_dbr.specs.declared.value.Outcome.TheVariants as outcome
use Rattle.ca_ids.specs.Table.{same_handle, under}
use Rattle.ca_requests.specs.Requests.{asks_on}
use Rattle.ca_model.specs.Answers.{Closed, Closing, Left, Notice, Sending}
use Rattle.ca_model.specs.Answers as notice
use Rattle.ca_model.specs.Client.{Client, ClientCircuit, Connection, Live, connection_at, disconnections, farewell}
use Rattle.ca_model.specs.ClientEnds.{ConnectsOn, StepsOn, circuits_ticked}
use Rattle.ca_model.specs.History.{Called, Clear, Intent, Line, Nothing, OfCircuit, On, Wish}
use Rattle.ca_model.specs.Speech.{In}
use Rattle.ca_model.specs.Placed.{IsPlaced}
use Rattle.ca_model.proofs.Handles.{same-is, same-itself}
use Rattle.ca_model.proofs.Tables.{at-find}
use Rattle.ca_model.specs.ClientEvents.{HappensAccept, HappensClear, HappensCutClient, TicksOne, WantsFirst, after_tick, channel_number, client_closed, client_ended, line_of, lines_of, closing_notices}
use Rattle.ca_model.specs.Events.{Event}
use Rattle.ca_model.specs.Events as event
use Rattle.ca_model.specs.Runs.{Happens}
use Rattle.ca_model.specs.World.{ClientSide, Joined, Names, World, grown}
use Rattle.ca_laws_parts.specs.Circuit.{sent_to}
use Rattle.ca_laws_parts.specs.Clients.{ClientsStand}
use Rattle.ca_laws_parts.proofs.ClientsMore.{unconnected-is, wanted-there}
use Rattle.ca_laws_parts.proofs.WritesLists.{none_at}
use Rattle.ca_laws_parts.proofs.Midway.{set-here}
use Rattle.ca_laws_runs.specs.OrderSteps.{HaveLives}
use Rattle.ca_laws_runs.proofs.Farewell.{AreLostApart, FromFarewell, PartsIn, farewell-apart, farewell-from, lost-gone, ticked-apart, ticked-parts}
use Rattle.ca_laws_runs.proofs.Going.{AllOpenLive}
use Rattle.ca_laws_runs.proofs.OnceSent.{SentStand}
use Rattle.ca_laws_runs.proofs.OpenLive.{IsLiveOn}
use Rattle.ca_laws_runs.proofs.ToldAsked.{IsOpenIn, gone-open}
use Rattle.ca_laws_runs.proofs.ToldLines.{IsSilent, LinesFrom, lines-grown, mute-event}

-- An end at this client ended, and told this.
pub record IsCut (w new : World) (number : ℕ) (x : ClientSide) (said : Notice) : Type 0 where
  pub n : ℕ
  pub c : Joined
  pub on : At w.circuits n c × (c.client ≡ number) × (c.lists.client_open ≡ true)
  pub d : Joined
  pub now : At new.circuits n d × (d.lists.client_open ≡ false)
  pub from : FromFarewell x.core c.at_client said

-- A channel was cleared, as the log says first, and an open request on it is lost.
pub record IsAway (x : ClientSide) (said : Notice) (y : List Line) (i : ℕ) : Type 0 where
  pub h : Handle
  pub q : Handle
  pub is : said ≡ notice.Completed q outcome.Disconnected
  pub was_open : IsOpenIn (asks_on h) x.core q
  pub cleared : In (take i y) (Called (On (channel_number x.names h) Clear) Nothing)

-- Line i of this log is new, and says that something is lost so.
pub record Parted (w new : World) (l : ℕ) (y : List Line) (i : ℕ) (line : Line) : Type 0 where
  pub number : ℕ
  pub x : ClientSide
  pub at : At w.clients number x
  pub mine : l ≡ x.life
  pub log : List Line
  pub there : At w.client_logs l log
  pub lines : List Line
  pub whole : y ≡ log ++ lines
  pub place : ℕ
  pub late : (i ≡ length log + place) × At lines place line
  pub said : Notice
  pub tells : line ≡ line_of OfCircuit x.names said
  pub way : IsCut w new number x said ⊎ IsAway x said y i
  pub calls : (q : ℕ) (intent : Intent) (e : Wish) → At lines q (Called intent e) → IsAway x said y i
  pub once : (h : Handle) → said ≡ notice.Lost h → (q : ℕ) (a : Line) → q < place → At lines q a → (other : Notice) × (a ≡ line_of OfCircuit x.names other) × IsCut w new number x other × (other ≡ notice.Lost h → ⊥)

-- So it is of each line that is new and tells something.
abbrev pub PartsFrom : (w new : World) → Type 0
PartsFrom w new = (l : ℕ) (y : List Line) (i : ℕ) (line : Line) → At new.client_logs l y → At y i line → ((x : List Line) × At w.client_logs l x × At x i line) ⊎ (IsSilent line ⊎ Parted w new l y i line)

pub parts-silent : (w new : World) → LinesFrom IsSilent w new → PartsFrom w new
parts-silent w new from l y i line at there = elim (from l y i line at there) [ inl old ↦ inl old | inr silent ↦ inr (inl silent) ]

-- a notice is no call
pub not-call : (about : Intent) (n : Names) (said : Notice) (intent : Intent) (e : Wish) → Called intent e ≡ line_of about n said → ⊥
not-call about n (notice.Completed q out) intent e is = cc
not-call about n (notice.Lost h) intent e is = cc
not-call about n (notice.Live h) intent e is = cc
not-call about n (notice.Update g out) intent e is = cc
not-call about n (notice.SubscriptionEnded g s) intent e is = cc
not-call about n (notice.WriteRefused h s) intent e is = cc

parts-all : (w new : World) (number : ℕ) (x : ClientSide) (notices : List Notice) → At w.clients number x → HaveLives w → new.client_logs ≡ grown x.life (lines_of OfCircuit x.names notices) w.client_logs → ((p : ℕ) (said : Notice) → At notices p said → IsCut w new number x said) → AreLostApart notices → PartsFrom w new
parts-all w new number x notices at lives is cut apart l y i line at_y there = elim (lines-grown w.client_logs x.life (lines_of OfCircuit x.names notices) (lives.present number x at) l y i line (subst (λ (v : List (List Line)). At v l y) is at_y) there) [
  | inl old ↦ inl old
  | inr more ↦
      let m = At-mapped (line_of OfCircuit x.names) notices more.1 line more.5 in
      inr (inr (record {
        number = number;
        x = x;
        at = at;
        mine = more.2;
        log = more.0;
        there = more.3;
        lines = lines_of OfCircuit x.names notices;
        whole = more.4;
        place = more.1;
        late = (more.6, more.5);
        said = m.0;
        tells = m.2;
        way = inl (cut more.1 m.0 m.1);
        calls = λ q intent e at_q. (let v = At-mapped (line_of OfCircuit x.names) notices q (Called intent e) at_q in absurd (not-call OfCircuit x.names v.0 intent e v.2));
        once = λ h lost q a lt at_q.
            let v = At-mapped (line_of OfCircuit x.names) notices q a at_q in
            (v.0, v.2, cut q v.0 v.1, λ same. apart q more.1 h lt (subst (λ (z : Notice). At notices q z) same v.1) (subst (λ (z : Notice). At notices more.1 z) lost m.1));
      }))
]

-- an end has ended
ended-parts : (w : World) (k : ℕ) (j : Joined) (x : ClientSide) (c : Closing) (core : Client) → At w.circuits k j → At w.clients j.client x → j.lists.client_open ≡ true → HaveLives w → c.notices ≡ farewell j.at_client x.core → PartsFrom w (client_ended k j x c core w)
ended-parts w k j x c core on at opened lives tells =
    parts-all w (client_ended k j x c core w) j.client x c.notices at lives refl (λ p said there. record {
      n = k;
      c = j;
      on = (on, refl, opened);
      d = sent_to j.client x.names [] (client_closed c.left j);
      now = (At-map (sent_to j.client x.names []) (slice_set w.circuits k (client_closed c.left j)) k (client_closed c.left j) (set-here w.circuits k j (client_closed c.left j) on), refl);
      from = farewell-from j.at_client x.core p said (subst (λ (v : List Notice). At v p said) tells there);
    })
    (subst (λ (v : List Notice). AreLostApart v) (sym tells) (farewell-apart j.at_client x.core))

cut-parts : (w new : World) (k : ℕ) (j : Joined) (x : ClientSide) → At w.circuits k j → At w.clients j.client x → j.lists.client_open ≡ true → HaveLives w → HappensCutClient w k j x new → PartsFrom w new
cut-parts w new k j x on at opened lives happens = subst (λ (v : World). PartsFrom w v) (sym happens.4) (ended-parts w k j x happens.0 happens.2 on at opened lives (ap (λ (v : Closing). v.notices) happens.3.0))

pub closed-parts : (w : World) (k : ℕ) (j : Joined) (x : ClientSide) (c : Closing) (sent : List Sending) (core : Client) → At w.circuits k j → At w.clients j.client x → j.lists.client_open ≡ true → HaveLives w → ClientsStand w → StepsOn x.core j.at_client (connection_at x.core j.at_client) (Closed c) sent core → PartsFrom w (client_ended k j x c core w)
closed-parts w k j x c sent core on at opened lives stands steps = go (connection_at x.core j.at_client) refl steps
  where
    go : (o : Option Connection) → connection_at x.core j.at_client ≡ o → StepsOn x.core j.at_client o (Closed c) sent core → PartsFrom w (client_ended k j x c core w)
    go None is f = absurd (both_ways (is_none (connection_at x.core j.at_client)) (stands.connected k j x on at opened) (ap is_none is))
    go (Some d) is f = ended-parts w k j x c core on at opened lives (ap (λ (v : Closing). v.notices) f.1.0)

-- a channel is cleared
clear-parts : (w new : World) (i : ℕ) (x : ClientSide) (c : ℕ) (h : Handle) → At w.clients i x → channel_number x.names h ≡ c → HaveLives w → HappensClear w i x c h new → PartsFrom w new
clear-parts w new i x c h at number lives happens = elim happens [
  | inl refusal ↦ λ l y p line at_y there. elim (lines-grown w.client_logs x.life _ (lives.present i x at) l y p line (subst (λ (v : List (List Line)). At v l y) (ap (λ (z : World). z.client_logs) refusal.3) at_y) there) [
    | inl old ↦ inl old
    | inr more ↦ inr (inl (silent-one _ tt more.1 line more.5))
  ]
  | inr did ↦
      let call : Line = Called (On c Clear) Nothing in
      let lines : List Line = call ∷ lines_of OfCircuit x.names did.0 in
      λ l y p line at_y there. elim (lines-grown w.client_logs x.life lines (lives.present i x at) l y p line (subst (λ (v : List (List Line)). At v l y) (ap (λ (z : World). z.client_logs) did.4) at_y) there) [
        | inl old ↦ inl old
        | inr more ↦ inr (by did.0 did.3.2 l y p line more.0 more.1 more.2 more.3 more.4 more.5 more.6)
      ]
]
  where
    silent-one : (a : Line) → IsSilent a → (p : ℕ) (line : Line) → At (a ∷ []) p line → IsSilent line
    silent-one a silent zero line there = subst (λ (v : Line). IsSilent v) (some_is a line there) silent
    silent-one a silent (suc p) line there = absurd cc

    by : (notices : List Notice) → notices ≡ disconnections (asks_on h) x.core → (l : ℕ) (y : List Line) (p : ℕ) (line : Line) (log : List Line) (m : ℕ) → l ≡ x.life → At w.client_logs l log → y ≡ log ++ (Called (On c Clear) Nothing ∷ lines_of OfCircuit x.names notices) → At (Called (On c Clear) Nothing ∷ lines_of OfCircuit x.names notices) m line → p ≡ length log + m
        → IsSilent line ⊎ Parted w new l y p line
    by notices are l y p line log zero mine logged whole placed place = inl (subst (λ (v : Line). IsSilent v) (some_is (Called (On c Clear) Nothing) line placed) tt)
    by notices are l y p line log (suc m) mine logged whole placed place =
        let call : Line = Called (On c Clear) Nothing in
        let lines : List Line = call ∷ lines_of OfCircuit x.names notices in
        let q = At-mapped (line_of OfCircuit x.names) notices m line placed in
        let g = gone-open (asks_on h) x.core m q.0 (subst (λ (v : List Notice). At v m q.0) are q.1) in
        let first : At y (length log + 0) call = subst (λ (v : List Line). At v (length log + 0) call) (sym whole) (At-after log lines 0 call refl) in
        let early : length log + 0 < p = omega (arith, place) in
        let away : IsAway x q.0 y p = record {
          h = h;
          q = g.0;
          is = g.1;
          was_open = g.2;
          cleared = (length log + 0, subst (λ (v : ℕ). At (take p y) (length log + 0) (Called (On v Clear) Nothing)) (sym number) (at-taken y p (length log + 0) call early first));
        } in
        inr (record {
          number = i;
          x = x;
          at = at;
          mine = mine;
          log = log;
          there = logged;
          lines = lines;
          whole = whole;
          place = suc m;
          late = (place, placed);
          said = q.0;
          tells = q.2;
          way = inr away;
          calls = λ k intent e at_k. away;
          once = λ lost same k a lt at_k. absurd (lost-gone lost g.0 (sym same ∙ g.1));
        })
      where
        at-taken : (xs : List Line) (n k : ℕ) (a : Line) → k < n → At xs k a → At (take n xs) k a
        at-taken [] n k a lt there = absurd cc
        at-taken (b ∷ xs) zero k a lt there = absurd (omega (arith, lt))
        at-taken (b ∷ xs) (suc n) zero a lt there = there
        at-taken (b ∷ xs) (suc n) (suc k) a lt there = at-taken xs n k a (omega (arith, lt)) there

-- a circuit is made: nothing was open or live there
accept-parts : (w new : World) (i : ℕ) (x : ClientSide) (v : WantsFirst w x) → At w.clients i x → HaveLives w → ClientsStand w → AllOpenLive w → HappensAccept w i x v new → PartsFrom w new
accept-parts w new i x v at lives stands live f = elim f.leaves [
  | inl full ↦ λ l y p line at_y there. inl (y, subst (λ (z : List (List Line)). At z l y) (ap (λ (z : World). z.client_logs) full.1) at_y, there)
  | inr made ↦
      let there = wanted-there x.core v.place v.v v.at in
      parts-all w new i x (closing_notices made.1) at lives (ap (λ (z : World). z.client_logs) made.6)
      (λ p said in_it. absurd (none there.0 there.1 there.2 made.1 made.2 made.3 (subst (λ (o : Option ClientCircuit). ConnectsOn x.core v.v.circuit o made.1 made.2 made.3) (unconnected-is x.core v.v.circuit there.0 there.1 there.2) made.5) p said in_it))
      (λ p q g lt in_it at_q. none there.0 there.1 there.2 made.1 made.2 made.3 (subst (λ (o : Option ClientCircuit). ConnectsOn x.core v.v.circuit o made.1 made.2 made.3) (unconnected-is x.core v.v.circuit there.0 there.1 there.2) made.5) p (notice.Lost g) in_it)
]
  where
    placed : IsPlaced x.core
    placed = (stands.sound i x at).placed

    not-live : (d : ClientCircuit) → under x.core.circuits v.v.circuit ≡ Some d → d.connection ≡ None → (h : Handle) → IsLiveOn x.core.channels v.v.circuit h → ⊥
    not-live d there idle h l =
        both_ways false refl
        (placed.waiting h (l.1).ch v.v.circuit (Live (l.1).native (l.1).rights) (l.1).there (l.1).stands
        ∙ ap (λ (o : Option ClientCircuit). is_none (option_and_then (λ (z : ClientCircuit). z.connection) o)) there ∙ ap is_none idle)

    none : (d : ClientCircuit) → under x.core.circuits v.v.circuit ≡ Some d → d.connection ≡ None → (k : Option Closing) (sent : List Sending) (core : Client) → ConnectsOn x.core v.v.circuit (Some d) k sent core → (p : ℕ) (said : Notice) → At (closing_notices k) p said → ⊥
    none d there idle None sent core does p said in_it = none_at p said in_it
    none d there idle (Some k) sent core does p said in_it = elim (farewell-from v.v.circuit x.core p said (subst (λ (z : List Notice). At z p said) (ap (λ (z : Closing). z.notices) does.0) in_it)) [
      | inl q ↦ (let r = q.2 in let l = live i x at q.0 r.0 r.1 r.3 in not-live d there idle (r.0).channel (subst (λ (g : Handle). IsLiveOn x.core.channels g (r.0).channel) (same-is (r.0).circuit v.v.circuit r.2) l))
      | inr h ↦ not-live d there idle h.0 h.2
    ]

-- a moment is handed to a client
pub tick-parts : (moment : ℕ) (w : World) (i : ℕ) (new : World) → HaveLives w → SentStand w → TicksOne moment w i new → PartsFrom w new
tick-parts moment w i new lives sent (x, at, t, sends, core, does, is) =
    parts-all w new i x t.notices at lives (ap (λ (z : World). z.client_logs) is) (λ p said in_it. cut said (ticked-parts moment x.core p said (subst (λ (v : List Notice). At v p said) (ap (λ (v : notice.Ticked). v.notices) does.0) in_it)))
    (subst (λ (v : List Notice). AreLostApart v) (sym (ap (λ (v : notice.Ticked). v.notices) does.0)) (ticked-apart moment x.core))
  where
    cut : (said : Notice) → PartsIn x.core (circuits_ticked moment x.core).closings said → IsCut w new i x said
    cut said parts =
        let r = sent.reached i x parts.c at parts.linked in
        let a : Joined = sent_to i x.names sends r.1 in
        let d : Joined = after_tick i t.closings a in
        let there : At new.circuits r.0 d = subst (λ (v : World). At v.circuits r.0 d) (sym is) (At-map (after_tick i t.closings) (map (sent_to i x.names sends) w.circuits) r.0 a (At-map (sent_to i x.names sends) w.circuits r.0 r.1 r.2)) in
        let closing : At t.closings parts.l parts.e = subst (λ (v : List Left). At v parts.l parts.e) (ap (λ (v : notice.Ticked). v.closings) (sym does.0)) parts.at in
        let same : same_handle (parts.e).circuit (r.1).at_client ≡ true = subst (λ (h : Handle). same_handle (parts.e).circuit h ≡ true) (parts.is ∙ sym r.4) (same-itself (parts.e).circuit) in
        let found = at-find (λ (l : Left). same_handle l.circuit (r.1).at_client) t.closings parts.l parts.e closing same in
        record {
          n = r.0;
          c = r.1;
          on = (r.2, r.3, r.6);
          d = d;
          now = (there, shut a (eqb (r.1).client i && (r.1).lists.client_open) (and_from (eqb (r.1).client i) (r.1).lists.client_open (eq-eqb (r.1).client i r.3) r.6) (find (λ (l : Left). same_handle l.circuit (r.1).at_client) t.closings) found.0 found.1);
          from = subst (λ (h : Handle). FromFarewell x.core h said) (sym r.4) parts.from;
        }
      where
        shut : (a : Joined) (b : Bool) → b ≡ true → (o : Option Left) (e : Left) → o ≡ Some e → (cond b (unwrap_or (option_map (λ (left : List ℕ). client_closed left a) (option_map (λ (l : Left). l.bytes) o)) a) a).lists.client_open ≡ false
        shut a true is (Some l) e f = refl
        shut a true is None e f = absurd cc
        shut a false is o e f = absurd (both_ways false refl is)

abbrev pub IsPlain : Event → Type 0
IsPlain (event.ClientStep k) = ⊥
IsPlain (event.Tick moment) = ⊥
IsPlain e = Unit {0}

-- every event but a step of a client's end, and a moment
pub event-parts : (w new : World) (e : Event) → IsPlain e → HaveLives w → ClientsStand w → AllOpenLive w → ((i : ℕ) (x : ClientSide) (c : ℕ) (h : Handle) → At w.clients i x → At x.names.channels c h → channel_number x.names h ≡ c) → Happens w e new → PartsFrom w new
event-parts w new (event.ClientStep k) plain lives stands live numbers happens = absurd plain
event-parts w new (event.Tick moment) plain lives stands live numbers happens = absurd plain
event-parts w new (event.Clear i c) plain lives stands live numbers happens = clear-parts w new i happens.0.x c happens.0.h happens.0.at (numbers i happens.0.x c happens.0.h happens.0.at happens.0.named) lives happens.1
event-parts w new (event.CutClient k) plain lives stands live numbers happens = (let h = happens.0 in cut-parts w new k h.j h.x h.joins.at h.joins.client h.is_open lives happens.1)
event-parts w new (event.Accept i) plain lives stands live numbers happens = accept-parts w new i happens.0.x happens.0.v happens.0.at lives stands live happens.1
event-parts w new (event.Open i name priority) plain lives stands live numbers happens = parts-silent w new (mute-event w new lives (event.Open i name priority) tt happens)
event-parts w new (event.Read i c data_type count) plain lives stands live numbers happens = parts-silent w new (mute-event w new lives (event.Read i c data_type count) tt happens)
event-parts w new (event.Write i c v) plain lives stands live numbers happens = parts-silent w new (mute-event w new lives (event.Write i c v) tt happens)
event-parts w new (event.WriteNotify i c v) plain lives stands live numbers happens = parts-silent w new (mute-event w new lives (event.WriteNotify i c v) tt happens)
event-parts w new (event.Subscribe i c data_type count mask) plain lives stands live numbers happens = parts-silent w new (mute-event w new lives (event.Subscribe i c data_type count mask) tt happens)
event-parts w new (event.Unsubscribe i n) plain lives stands live numbers happens = parts-silent w new (mute-event w new lives (event.Unsubscribe i n) tt happens)
event-parts w new (event.Collect i r) plain lives stands live numbers happens = parts-silent w new (mute-event w new lives (event.Collect i r) tt happens)
event-parts w new (event.GiveUp i r) plain lives stands live numbers happens = parts-silent w new (mute-event w new lives (event.GiveUp i r) tt happens)
event-parts w new (event.ClientDatagram i from bytes) plain lives stands live numbers happens = parts-silent w new (mute-event w new lives (event.ClientDatagram i from bytes) tt happens)
event-parts w new (event.ServerDatagram i from bytes) plain lives stands live numbers happens = parts-silent w new (mute-event w new lives (event.ServerDatagram i from bytes) tt happens)
event-parts w new (event.Up k n) plain lives stands live numbers happens = parts-silent w new (mute-event w new lives (event.Up k n) tt happens)
event-parts w new (event.Down k n) plain lives stands live numbers happens = parts-silent w new (mute-event w new lives (event.Down k n) tt happens)
event-parts w new (event.ServerStep k) plain lives stands live numbers happens = parts-silent w new (mute-event w new lives (event.ServerStep k) tt happens)
event-parts w new (event.Pump k) plain lives stands live numbers happens = parts-silent w new (mute-event w new lives (event.Pump k) tt happens)
event-parts w new (event.CutServer k) plain lives stands live numbers happens = parts-silent w new (mute-event w new lives (event.CutServer k) tt happens)
event-parts w new (event.ClientRestart i) plain lives stands live numbers happens = parts-silent w new (mute-event w new lives (event.ClientRestart i) tt happens)
event-parts w new (event.ServerRestart i) plain lives stands live numbers happens = parts-silent w new (mute-event w new lives (event.ServerRestart i) tt happens)
event-parts w new (event.Post i name v mask) plain lives stands live numbers happens = parts-silent w new (mute-event w new lives (event.Post i name v mask) tt happens)
event-parts w new (event.Finish i name) plain lives stands live numbers happens = parts-silent w new (mute-event w new lives (event.Finish i name) tt happens)
event-parts w new (event.Remove i name) plain lives stands live numbers happens = parts-silent w new (mute-event w new lives (event.Remove i name) tt happens)
event-parts w new (event.Add i r) plain lives stands live numbers happens = parts-silent w new (mute-event w new lives (event.Add i r) tt happens)
