-- A client that reads a SERVER_DISCONN clears the channel: over every event and run.
use Rattle.std.proofs.Common.{◌≡◌, ℕ, suc, ◌+◌, ◌<◌, ◌≤◌, inl, inr, Bool, true, false, cond, ◌&&◌, eqb, eq-eqb, List, [], ◌∷◌, ◌++◌, length, Option, Some, None, refl, sym, ap, subst, ◌∙◌, arith}
use Rattle.std.specs.Prelude.{map, option_and_then, option_map, slice_get, slice_set, unwrap_or}
use Rattle.std.specs.List.{FoldsTo}
use Rattle.ca_arena.specs.declared.handle.Handle.{Handle}
use Rattle.ca_ids.specs.Table.{same_handle, under}
use Rattle.ca_ids.specs.Wire.{wire_of}
use Rattle.ca_model.proofs.Handles.{same-itself}
use Rattle.ca_model.proofs.Tables.{under-wire}
use Rattle.ca_model.proofs.Thinner.{three-ways}
use Rattle.ca_text.specs.declared.command.Command.TheVariants as command
use Rattle.ca_text.specs.Place.{At}
use Rattle.ca_text.proofs.Places.{At-append, At-last, At-mapped, At-one, At-or, At-set, At-snoc, At-within}
use Rattle.ca_wire.specs.Fields.{Fields}
use Rattle.ca_model.specs.Answers.{Sending}
use Rattle.ca_model.specs.Answers as answer
use Rattle.ca_model.specs.Client.{Channel, Client, Connection, Live, Phase, channel_on, connection_at, phase_on}
use Rattle.ca_model.specs.ClientCalls.{clear_sent}
use Rattle.ca_model.specs.ClientEnds.{StepsOn, after_taking}
use Rattle.ca_model.specs.Hears.{Effect, left}
use Rattle.ca_model.specs.History.{Circuit, Create, Intent, On, Removal, Reply, Sent, Step, Told}
use Rattle.ca_model.specs.History as history
use Rattle.ca_model.specs.Speech.{Is}
use Rattle.ca_model.specs.Channels.{Suits}
use Rattle.ca_model.specs.ClientEvents.{channel_number, heard_in, intent_of, sent_on}
use Rattle.ca_model.specs.Events.{Event}
use Rattle.ca_model.specs.Events as event
use Rattle.ca_model.specs.Runs.{AreEvents, Happens, Runs, StopsAt, clients_below}
use Rattle.ca_model.specs.ServerEvents.{StepHandles, about, handled_at}
use Rattle.ca_model.specs.World.{ClientSide, IsSetting, Joined, Names, ServerSide, Setting, World, opening, with_circuit}
use Rattle.ca_laws_parts.specs.Runs.{HearsSent}
use Rattle.ca_laws_parts.proofs.ServerSpeaking.{runs-hear}
use Rattle.ca_laws_parts.specs.Sids.{IsClearedWithin}
use Rattle.ca_laws_parts.specs.Circuit.{AreCids}
use Rattle.ca_laws_parts.specs.Clients.{ClientsStand}
use Rattle.ca_laws_runs.specs.Created.{AllCreated}
use Rattle.ca_laws_runs.specs.Held.{AllCircuitsHeld}
use Rattle.ca_laws_runs.specs.OrderSteps.{ClientsInOrder}
use Rattle.ca_laws_runs.specs.Sides.{AllSided, IsLiveAs}
use Rattle.ca_laws_runs.proofs.ClearsSaid.{left-of}
use Rattle.ca_laws_runs.proofs.Created.{reached-created}
use Rattle.ca_laws_runs.proofs.Joint.{are-snoc, folds-snoc, run-held, run-sided}
use Rattle.ca_laws_runs.proofs.LegalRemovals.{AllRemovedRight, RemovedAs, run-right}
use Rattle.ca_laws_runs.proofs.OrderGrows.{GoesOn, Grown, each-event, grown-self, step-grown, ticks-grown}
use Rattle.ca_laws_runs.proofs.OrderKeeps.{IsHearing, IsMade, begun-grown, begun-mid, did-after, did-grown, did-step, hear-grown, hear-step, hearing-or, hears-one, made-or, run-heard}
use Rattle.ca_laws_runs.proofs.StepWhole.{run-serves}
use Rattle.ca_laws_runs.proofs.ToldRemoval.{AllRemovals, run-removals}
use Rattle.ca_laws_parts.proofs.WritesLists.{length-more, none_at}
use Rattle.ca_laws_runs.specs.LiveRead.{AllCleared, AreCleared}
use Rattle.ca_laws_runs.proofs.Acting.{Grows}

-- ---- a circuit goes on

-- what was read was sent
abbrev HasRead : Circuit → Type 0
HasRead c = length c.heard ≤ length c.down

cleared-more : (up more : List Sent) (sid a : ℕ) → Grows up more → length up ≤ length more → IsClearedWithin up sid a (length up) → IsClearedWithin more sid a (length more)
cleared-more up more sid a grows le (l, r, after, before, at, clears) = (l, r, after, omega (arith, before, le), grows l r at, clears)

cleared-forth : (c d : Circuit) → d.heard ≡ c.heard → Grows c.up d.up → length c.up ≤ length d.up → Grows c.down d.down → HasRead c → AreCleared c → AreCleared d
cleared-forth c d heard up longer down few h q t lt at removal =
    let len : length d.heard ≡ length c.heard = ap (λ (l : List Step). length l) heard in
    let read : length c.heard ≤ length c.down = few in
    let was = back q t (omega (arith, lt, len, read)) at in
    let r = h q t (omega (arith, lt, len)) was removal in
    (r.0, r.1, r.2, down r.0 r.2 r.3, r.4, r.5, r.6, cleared-more c.up d.up r.1 r.2.place up longer r.7)
  where
    back : (q : ℕ) (t : Told) → q < length c.down → At d.down q t → At c.down q t
    back q t lt at = elim (At-or c.down q) [
      | inl found ↦ subst (λ (z : Told). At c.down q z) (At-one d.down q found.0 t (down q found.0 found.1) at) found.1
      | inr past ↦ absurd (omega (arith, lt, past))
    ]

cleared-goes : (c d : Joined) → GoesOn c d → HasRead c.lists → AreCleared c.lists → AreCleared d.lists
cleared-goes c d g few h = cleared-forth c.lists d.lists g.heard g.said g.up g.tells few h

cleared-grown : (w new : World) → Grown w new → ((n : ℕ) (c : Joined) → At w.circuits n c → HasRead c.lists) → AllCleared w → AllCleared new
cleared-grown w new g few h n d at = (let c = g.back n d at in cleared-goes c.0 d c.2 (few n c.0 c.1) (h n c.0 c.1))

-- ---- what is known of a world

pub record ReadFacts (w : World) : Type 0 where
  pub sided : AllSided w
  pub held : AllCircuitsHeld w
  pub clients : ClientsStand w
  pub hears : HearsSent w
  pub right : AllRemovedRight w
  pub created : AllCreated w
  pub removals : AllRemovals w
  pub asked : (n k : ℕ) (c : Joined) (q : Sent) → At w.circuits n c → At c.lists.up k q → Suits q.intent q.message
  pub order : ClientsInOrder w

read-facts : (s : Setting) (es : List Event) (stopped : Option Event) (w : World) → IsSetting s → AreEvents es → Runs s es stopped w → ReadFacts w
read-facts s es stopped w ok are runs = record {
  sided = run-sided s es stopped w ok are runs;
  held = run-held s es stopped w ok are runs;
  clients = (run-serves s es stopped w ok runs).stands.clients;
  hears = runs-hear s es stopped w ok are runs;
  right = run-right s es stopped w ok runs;
  created = reached-created w (s, es, stopped, ok, runs);
  removals = run-removals s es stopped w ok runs;
  asked = λ n k c q at there. (run-serves s es stopped w ok runs).stands.asked n k c q at there;
  order = run-heard s es stopped w ok are runs;
}

-- ---- a message is read

-- what is meant by a CREATE_CHAN
creates-channel : (q : Sent) → Suits q.intent q.message → Is command.CreateChannel q.message → (channel : ℕ) × (q.intent ≡ On channel Create)
creates-channel q suits asks = go q.intent refl suits
  where
    apart : (a : ℕ) → q.message.command ≡ a → (a ≡ 18 → ⊥) → ⊥
    apart a is differ = differ (sym is ∙ asks)

    go : (i : Intent) → q.intent ≡ i → Suits i q.message → (channel : ℕ) × (q.intent ≡ On channel Create)
    go (On channel Create) is suits = (channel, is)
    go (On channel history.Clear) is suits = absurd (apart 12 suits (λ e. absurd (omega (arith, e))))
    go (On channel (history.Subscribe number)) is suits = absurd (apart 1 suits (λ e. absurd (omega (arith, e))))
    go (On channel (history.Cancel number)) is suits = absurd (apart 2 suits (λ e. absurd (omega (arith, e))))
    go (On channel (history.Request history.Read number)) is suits = absurd (apart 15 suits (λ e. absurd (omega (arith, e))))
    go (On channel (history.Request history.Put number)) is suits = absurd (apart 19 suits (λ e. absurd (omega (arith, e))))
    go (On channel (history.Request history.Write number)) is suits = absurd (apart 4 suits (λ e. absurd (omega (arith, e))))
    go history.OfCircuit is suits = absurd (suits Create asks)

-- one message goes on its own circuit
sent-here : (i : ℕ) (n : Names) (z : Sending) (c : Joined) → c.client ≡ i → c.lists.client_open ≡ true → same_handle z.circuit c.at_client ≡ true → sent_on i n (z ∷ []) c ≡ record { message = z.message; intent = intent_of n z.aim } ∷ []
sent-here i n z c mine opened same = first (eqb c.client i) c.lists.client_open (same_handle z.circuit c.at_client) (eq-eqb c.client i mine) opened same
  where
    at : Sending → Sent
    at s = record { message = s.message; intent = intent_of n s.aim }

    first : (a b d : Bool) → a ≡ true → b ≡ true → d ≡ true → cond (a && b) (map at (cond d (z ∷ []) [])) [] ≡ at z ∷ []
    first true true true p q r = refl
    first true true false p q r = absurd cc
    first true false d p q r = absurd cc
    first false b d p q r = absurd cc

module _ (w new : World) (k : ℕ) (j : Joined) (x : ClientSide) (on : At w.circuits k j) (at : At w.clients j.client x) (opened : j.lists.client_open ≡ true) (f : IsHearing w new k j x) (r : ReadFacts w) where
  came : length j.lists.heard < length j.lists.down
  came = hears-one w k j x (connection_at x.core j.at_client) refl f.notices f.sent f.core on at opened r.hears f.steps

  -- what was sent goes up
  heard-up : (d : Joined) → At new.circuits k d → (d.lists.up ≡ j.lists.up ++ sent_on j.client x.names f.sent (heard_in (hear-step w new k j x on at f) j)) × (d.lists.heard ≡ j.lists.heard ++ hear-step w new k j x on at f ∷ []) × (d.lists.down ≡ j.lists.down)
  heard-up d there =
      let step : Step = hear-step w new k j x on at f in
      let more : Joined → Joined = λ (c : Joined). record c { lists = record c.lists { up = c.lists.up ++ sent_on j.client x.names f.sent c } } in
      let z = At-mapped more (slice_set w.circuits k (heard_in step j)) k d (subst (λ (v : World). At v.circuits k d) f.is there) in
      elim (At-set w.circuits k (heard_in step j) k z.0 z.1) [
        | inl own ↦
            let is : d ≡ more (heard_in step j) = z.2 ∙ ap more own.1 in
            (ap (λ (c : Joined). c.lists.up) is, ap (λ (c : Joined). c.lists.heard) is, ap (λ (c : Joined). c.lists.down) is)
        | inr old ↦ absurd (old.1 refl)
      ]

  -- what is read is a SERVER_DISCONN: its channel is cleared
  module _ (t : Told) (at_t : At j.lists.down (length j.lists.heard) t) (removal : t.cause ≡ Removal) where
    a : RemovedAs j (length j.lists.heard) t
    a = r.right k j on (length j.lists.heard) t at_t (r.removals k (length j.lists.heard) j t on at_t removal).0

    about-it : (a.u.place < length j.lists.handled) × ((s : Sent) × At j.lists.up a.u.place s × Is command.CreateChannel s.message)
    about-it = (r.created k j on).about a.i a.sid a.u a.at a.reply a.creates

    meant : (channel : ℕ) × ((about-it.1.0).intent ≡ On channel Create)
    meant = creates-channel about-it.1.0 (r.asked k a.u.place j about-it.1.0 on about-it.1.1) about-it.1.2

    cid-is : (h : Handle) (ch : Channel) → channel_number x.names h ≡ meant.0 → under x.core.channels h ≡ Some ch → t.message.p1 ≡ wire_of h
    cid-is h ch number there =
        let held = r.held k j on in
        let one_j : held.0 ≡ j = At-one w.circuits k held.0 j held.2 on in
        let one_x : held.1 ≡ x = At-one w.clients j.client held.1 x (subst (λ (c : Joined). At w.clients c.client held.1) one_j held.3) at in
        let cids : AreCids x.names j.lists = subst (λ (v : Joined × ClientSide). v.0.lists.client_open ≡ true → AreCids v.1.names v.0.lists) (λ i. (one_j i, one_x i)) held.4.cids opened in
        let g = cids a.u.place meant.0 about-it.1.0 about-it.1.1 meant.1 in
        let own : At x.names.channels meant.0 h = subst (λ (m : ℕ). At x.names.channels m h) number ((r.clients.sound j.client x at).named.numbered h ch there) in
        let same : g.0 ≡ h = At-one x.names.channels meant.0 g.0 h g.1 own in
        sym a.cid ∙ (r.created k j on).copies a.i a.sid a.u about-it.1.0 a.at a.reply a.creates about-it.1.1 ∙ g.2 ∙ ap wire_of same

    -- the channel is found
    found-as : (h : Handle) (v : IsLiveAs x.core.channels j.at_client h a.sid) → channel_number x.names h ≡ meant.0 → (rest : List ℕ) → channel_on (after_taking j.at_client rest x.core) j.at_client t.message.p1 ≡ Some (h, Live v.native v.rights)
    found-as h v number rest =
        let few = (r.clients.sound j.client x at).named.few.channels in
        ap (λ (cid : ℕ). channel_on (after_taking j.at_client rest x.core) j.at_client cid) (cid-is h v.ch number v.there)
        ∙ ap (λ (o : Option (Handle × Channel)). option_and_then (λ (e : Handle × Channel). option_map (λ (p : Phase). (e.0, p)) (phase_on j.at_client e.1.standing)) o) (under-wire x.core.channels h v.ch few v.there)
        ∙ ap (λ (z : _). option_map (λ (p : Phase). (h, p)) (phase_on j.at_client z)) v.stands
        ∙ ap (λ (b : Bool). option_map (λ (p : Phase). (h, p)) (cond b (Some (Live v.native v.rights)) None)) (same-itself j.at_client)

    -- so its CLEAR_CHANNEL is sent
    sent-is : (h : Handle) (v : IsLiveAs x.core.channels j.at_client h a.sid) → channel_number x.names h ≡ meant.0 → f.sent ≡ clear_sent j.at_client (v.native).sid h ∷ []
    sent-is h v number = go (connection_at x.core j.at_client) refl f.steps
      where
        go : (o : Option Connection) → connection_at x.core j.at_client ≡ o → StepsOn x.core j.at_client o (answer.Notices f.notices) f.sent f.core → f.sent ≡ clear_sent j.at_client (v.native).sid h ∷ []
        go None is steps = absurd steps
        go (Some d) is takes =
            let m = r.hears k j x d takes.m takes.rest on at opened is takes.first in
            let one : m.0 ≡ t = At-one j.lists.down (length j.lists.heard) m.0 t m.1 at_t in
            let message : takes.m ≡ t.message = sym m.2 ∙ ap (λ (z : Told). z.message) one in
            let lost : takes.m.command ≡ 27 = ap (λ (z : Fields). z.command) message ∙ (r.removals k (length j.lists.heard) j t on at_t removal).0 in
            let y : Client = after_taking j.at_client takes.rest x.core in
            let does = left-of y j.at_client takes.m (record { core = f.core; sent = f.sent; notices = f.notices }) lost takes.hears in
            let finds : channel_on y j.at_client takes.m.p1 ≡ Some (h, Live v.native v.rights) = ap (λ (z : Fields). channel_on y j.at_client z.p1) message ∙ found-as h v number takes.rest in
            ap (λ (e : Effect). e.sent) does ∙ ap (λ (o : Option (Handle × Phase)). (left y j.at_client o).sent) finds

    cleared-now : (d : Joined) → At new.circuits k d → IsClearedWithin d.lists.up a.sid a.u.place (length d.lists.up)
    cleared-now d there =
        let up = heard-up d there in
        elim ((r.sided.sides k j x on at opened).answered a.i a.sid meant.0 a.u about-it.1.0 a.early a.at a.reply a.creates about-it.1.1 meant.1) [
          | inl was ↦
              cleared-more j.lists.up d.lists.up a.sid a.u.place (λ p s at_s. subst (λ (l : List Sent). At l p s) (sym up.0) (At-append j.lists.up _ p s at_s))
              (let le : length j.lists.up ≤ length (j.lists.up ++ sent_on j.client x.names f.sent (heard_in (hear-step w new k j x on at f) j)) = longer j.lists.up _ in let is : length d.lists.up ≡ length (j.lists.up ++ sent_on j.client x.names f.sent (heard_in (hear-step w new k j x on at f) j)) = ap (λ (l : List Sent). length l) up.0 in omega (arith, le, is)) was
          | inr live ↦
              let v = live.2 in
              let z : Sending = clear_sent j.at_client (v.native).sid live.0 in
              let stamped : Sent = record { message = z.message; intent = intent_of x.names z.aim } in
              let is : d.lists.up ≡ j.lists.up ++ stamped ∷ [] =
              up.0 ∙ ap (λ (l : List Sending). j.lists.up ++ sent_on j.client x.names l (heard_in (hear-step w new k j x on at f) j)) (sent-is live.0 v live.1)
              ∙ ap (λ (l : List Sent). j.lists.up ++ l) (sent-here j.client x.names z (heard_in (hear-step w new k j x on at f) j) refl opened (same-itself j.at_client)) in
              let len : length d.lists.up ≡ length j.lists.up + 1 = ap (λ (l : List Sent). length l) is ∙ length-more j.lists.up stamped in
              let lt : a.u.place < length j.lists.up = At-within j.lists.up a.u.place about-it.1.0 about-it.1.1 in
              (length j.lists.up, stamped, lt, omega (arith, len), subst (λ (l : List Sent). At l (length j.lists.up) stamped) (sym is) (At-last j.lists.up stamped), (refl, v.is))
        ]
      where
        longer : {A : Type 0} (xs ys : List A) → length xs ≤ length (xs ++ ys)
        longer [] ys = omega arith
        longer (q ∷ xs) ys = (let le : length xs ≤ length (xs ++ ys) = longer xs ys in omega (arith, le))

  pub hear-cleared : ((n : ℕ) (c : Joined) → At w.circuits n c → HasRead c.lists) → AllCleared w → AllCleared new
  hear-cleared few h n d there =
      let step : Step = hear-step w new k j x on at f in
      let c = (hear-grown w new k j x on at f).back n d there in
      elim (At-set w.circuits k (heard_in step j) n c.0 c.1) [
        | inr old ↦ cleared-goes c.0 d c.2 (few n c.0 old.0) (h n c.0 old.0)
        | inl own ↦
            let at_d : At new.circuits k d = subst (λ (m : ℕ). At new.circuits m d) own.0 there in
            own-cleared d at_d
      ]
    where
      own-cleared : (d : Joined) → At new.circuits k d → AreCleared d.lists
      own-cleared d at_d q t lt at_t removal = elim (three-ways q (length j.lists.heard)) [
        | inl early ↦
            let o = h k j on q t early was removal in
            (o.0, o.1, o.2, subst (λ (l : List Told). At l o.0 o.2) (sym up.2) o.3, o.4, o.5, o.6, cleared-more j.lists.up d.lists.up o.1 o.2.place (λ p s at_s. subst (λ (l : List Sent). At l p s) (sym up.0) (At-append j.lists.up _ p s at_s)) longer o.7)
        | inr (inl now) ↦
            let at_now : At j.lists.down (length j.lists.heard) t = subst (λ (m : ℕ). At j.lists.down m t) now was in
            let o = a t at_now removal in
            (o.i, o.sid, o.u, subst (λ (l : List Told). At l o.i o.u) (sym up.2) o.at, o.reply, o.creates, o.place, cleared-now t at_now removal d at_d)
        | inr (inr late) ↦ absurd (omega (arith, lt, len, late))
      ]
        where
          up : (d.lists.up ≡ j.lists.up ++ sent_on j.client x.names f.sent (heard_in (hear-step w new k j x on at f) j)) × (d.lists.heard ≡ j.lists.heard ++ hear-step w new k j x on at f ∷ []) × (d.lists.down ≡ j.lists.down)
          up = heard-up d at_d

          was : At j.lists.down q t
          was = subst (λ (l : List Told). At l q t) up.2 at_t

          len : length d.lists.heard ≡ length j.lists.heard + 1
          len = ap (λ (l : List Step). length l) up.1 ∙ length-more j.lists.heard (hear-step w new k j x on at f)

          long : {A : Type 0} (xs ys : List A) → length xs ≤ length (xs ++ ys)
          long [] ys = omega arith
          long (z ∷ xs) ys = (let le : length xs ≤ length (xs ++ ys) = long xs ys in omega (arith, le))

          longer : length j.lists.up ≤ length d.lists.up
          longer = (let le : length j.lists.up ≤ length (j.lists.up ++ sent_on j.client x.names f.sent (heard_in (hear-step w new k j x on at f) j)) = long j.lists.up _ in let is : length d.lists.up ≡ length (j.lists.up ++ sent_on j.client x.names f.sent (heard_in (hear-step w new k j x on at f) j)) = ap (λ (l : List Sent). length l) up.0 in omega (arith, le, is))

-- ---- every event

event-cleared : (w new : World) (e : Event) → ReadFacts w → Happens w e new → AllCleared w → AllCleared new
event-cleared w new e r happens h = each-event (AllCleared new) w new (λ g. cleared-grown w new g few h)
    (λ k f. elim (step-grown w new k f.0.j f.0.y f.1.0 f.0.joins.at f.1.1) [
      | inl handles ↦ did k f.0.j f.0.y f.0.joins.at handles
      | inr g ↦ cleared-grown w new g few h
    ])
    (λ k f. elim (hearing-or w new k f.0.j f.0.x f.0.joins.at f.0.joins.client f.1) [
      | inl one ↦ hear-cleared w new k f.0.j f.0.x f.0.joins.at f.0.joins.client f.0.is_open one r few h
      | inr g ↦ cleared-grown w new g few h
    ])
    (λ i f. elim (made-or w new i f) [
      | inl made ↦ made-cleared i f.0.x made
      | inr g ↦ cleared-grown w new g few h
    ])
    (λ i f. subst (λ (z : World). AllCleared z) (sym f.1) (cleared-grown w (begun-mid w new i f.0.x f.1) (begun-grown w new i f.0.x f.1) few h)) e happens
  where
    few : (n : ℕ) (c : Joined) → At w.circuits n c → HasRead c.lists
    few n c at = (r.order n c at).one_each

    made-cleared : (i : ℕ) (x : ClientSide) → IsMade w new i x → AllCleared new
    made-cleared i x f n d there =
        let c = f.goes.back n d there in
        elim (At-snoc w.circuits f.c n c.0 (subst (λ (l : List Joined). At l n c.0) f.circuits c.1)) [
          | inl old ↦ cleared-goes c.0 d c.2 (few n c.0 old) (h n c.0 old)
          | inr last ↦ (λ q t lt at removal. absurd (none d q lt (c.2.heard ∙ ap (λ (z : Joined). z.lists.heard) last.1 ∙ f.heard)))
        ]
      where
        none : (d : Joined) (q : ℕ) → q < length d.lists.heard → d.lists.heard ≡ [] → ⊥
        none d q lt is = (let e : length d.lists.heard ≡ 0 = ap (λ (l : List Step). length l) is in omega (arith, lt, e))

    did : (k : ℕ) (j : Joined) (y : ServerSide) (on : At w.circuits k j) → StepHandles w k j y new → AllCleared new
    did k j y on f = subst (λ (z : World). AllCleared z) (sym f.leaves) (go (slice_get after.circuits k) refl)
      where
        after : World
        after = did-after w new k j y on f

        step : Step
        step = did-step w new k j y on f

        grown : Grown w after
        grown = did-grown w new k j y on f

        all : AllCleared after
        all = cleared-grown w after grown few h

        go : (o : Option Joined) → slice_get after.circuits k ≡ o → AllCleared (unwrap_or (option_map (λ (c : Joined). with_circuit k (handled_at (length j.lists.handled) step (f.steps.0).replies c) after) o) after)
        go None is = all
        go (Some c) is = λ n d there. elim (At-set after.circuits k (handled_at (length j.lists.handled) step (f.steps.0).replies c) n d there) [
          | inr old ↦ all n d old.0
          | inl own ↦
              let b = grown.back k c is in
              let read : length b.0.lists.heard ≤ length b.0.lists.down = few k b.0 b.1 in
              let heard : length c.lists.heard ≡ length b.0.lists.heard = ap (λ (l : List Step). length l) b.2.heard in
              let down : length b.0.lists.down ≤ length c.lists.down = b.2.down in
              subst (λ (z : Joined). AreCleared z.lists) (sym own.1)
              (cleared-forth c.lists (handled_at (length j.lists.handled) step (f.steps.0).replies c).lists refl (λ p s at. at) (omega arith) (λ p t at. At-append c.lists.down (about (length j.lists.handled) Reply (f.steps.0).replies) p t at)
              (omega (arith, read, heard, down)) (all k c is))
        ]

-- ---- every run

stops-grown : (mid : World) (stopped : Option Event) (w : World) → StopsAt mid stopped w → Grown mid w
stops-grown mid (Some (event.Tick moment)) w stops = elim stops [
  | inl same ↦ grown-self mid w same
  | inr ticked ↦ ticks-grown moment mid (clients_below ticked.0) w ticked.3
]
stops-grown mid stopped w stops = grown-self mid w stops

events-cleared : (s : Setting) (ok : IsSetting s) (done es : List Event) (w new : World) → AreEvents done → AreEvents es → FoldsTo Happens (opening s) done w → FoldsTo Happens w es new → AllCleared w → AllCleared new
events-cleared s ok done [] w new are all before same h = subst (λ (z : World). AllCleared z) same h
events-cleared s ok done (e ∷ es) w new are all before (mid, one, rest) h =
    let runs : Runs s done None w = (w, before, refl) in
    events-cleared s ok (done ++ e ∷ []) es mid new (are-snoc done e are (all 0 e refl)) (λ i z at. all (suc i) z at) (folds-snoc done (opening s) w mid e before one) rest
    (event-cleared w mid e (read-facts s done None w ok are runs) one h)

pub run-cleared : (s : Setting) (es : List Event) (stopped : Option Event) (w : World) → IsSetting s → AreEvents es → Runs s es stopped w → AllCleared w
run-cleared s es stopped w ok are (mid, folds, stops) =
    cleared-grown mid w (stops-grown mid stopped w stops) (λ n c at. ((read-facts s es None mid ok are (mid, folds, refl)).order n c at).one_each)
    (events-cleared s ok [] es (opening s) mid (λ i e at. absurd (none_at i e at)) are refl folds (λ n c at. absurd (none_at n c at)))
