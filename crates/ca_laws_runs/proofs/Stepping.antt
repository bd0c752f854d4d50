-- A step of a client's end, a circuit that is made, and a moment keep what clients
-- have of their circuits.
use Rattle.std.proofs.Common.{◌≡◌, ℕ, ◌+◌, ◌<◌, ◌≤◌, ◌⊎◌, inl, inr, true, false, List, [], ◌∷◌, ◌++◌, length, Option, Some, None, refl, sym, ap, ◌∙◌, subst, arith}
use Rattle.std.specs.Prelude.{is_none, slice_set}
use Rattle.std.proofs.lemmas.Bool.{both_ways}
use Rattle.ca_text.specs.declared.command.Command.TheVariants as command
use Rattle.ca_text.specs.Place.{At}
use Rattle.ca_text.proofs.Places.{At-mapped, At-one, At-set}
use Rattle.ca_arena.specs.declared.handle.Handle.{Handle}
use Rattle.ca_ids.specs.Table.{same_handle}
use Rattle.ca_link.specs.Link.{TakesFirst}
use Rattle.ca_link.specs.Link as link
use Rattle.ca_wire.specs.Fields.{Fields}
use Rattle.ca_model.specs.Answers.{Closed, NeedBytes, Notice, Notices, Sending, Stepped}
use Rattle.ca_model.specs.Client.{Client, Clearing, Connecting, Connection, Creating, Doomed, Leaving, Live, On, Phase, channel_on, connection_at, sending, with_standing}
use Rattle.ca_model.specs.ClientCalls.{clear_sent, event_add_sent}
use Rattle.ca_monitor.specs.Subscriptions.{Subscription, standing_to}
use Rattle.ca_model.specs.ClientEnds.{StepsOn, Takes, after_taking}
use Rattle.ca_model.specs.Hears.{Effect, Hears, created, event_adds, native_in}
use Rattle.ca_model.specs.History.{Circuit, Line, Reply, Step, Told}
use Rattle.ca_model.specs.Speech.{Is}
use Rattle.ca_model.proofs.Handles.{same-itself}
use Rattle.ca_model.proofs.Standings.{channel-on}
use Rattle.ca_model.proofs.Tables.{length-more}
use Rattle.ca_model.proofs.Thinner.{three-ways}
use Rattle.ca_model.specs.ClientEvents.{HappensClientStep, about_at, client_after, client_ended, client_stepped, heard_in, lines_of}
use Rattle.ca_model.specs.World.{ClientSide, Joined, World, log_length, with_circuit}
use Rattle.ca_laws_parts.specs.Flows.{with_heard}
use Rattle.ca_laws_parts.specs.Kept.{kept}
use Rattle.ca_laws_parts.specs.Circuit.{HeldOn, sent_to}
use Rattle.ca_laws_parts.specs.Clients.{ClientsStand}
use Rattle.ca_laws_runs.specs.Held.{AllCircuitsHeld}
use Rattle.ca_laws_runs.proofs.Holds.{IsTold}
use Rattle.ca_laws_runs.specs.Quiet.{ClientsQuiet, Quiet, Tidy}
use Rattle.ca_laws_runs.proofs.Lesser.{less-on, quiet-less, tidy-less}
use Rattle.ca_laws_runs.proofs.Says.{said}
use Rattle.ca_laws_runs.specs.Created.{CreatedOn}
use Rattle.ca_laws_runs.specs.Sides.{AllSided, Right, Sides}
use Rattle.ca_laws_runs.proofs.Calls.{only-sent, way-elsewhere, way-silent}
use Rattle.ca_laws_runs.proofs.Clients.{sided-ended}
use Rattle.ca_laws_runs.proofs.Ends.{AllEnds, FactsFor, IsEnd, sided-by}
use Rattle.ca_laws_runs.proofs.Grows.{Facts}
use Rattle.ca_laws_runs.proofs.Hearing.{heard-created, spoken}
use Rattle.ca_laws_runs.proofs.Live.{SameLive, channels-sending, live-as, live-itself, live-then, none-live, not-on, same-stood}
use Rattle.ca_laws_runs.proofs.Ways.{Way, by-way}

-- ---- a step of a client's end

module _ (w new : World) (k : ℕ) (j : Joined) (x : ClientSide) (at : At w.circuits k j) (there : At w.clients j.client x) (opened : j.lists.client_open ≡ true) (stands : ClientsStand w) (told : IsTold w) (quiet : ClientsQuiet w) (all : AllCircuitsHeld w)
    (created_on : CreatedOn j) (facts : FactsFor w new) (s : AllSided w) where
  abbrev on : Handle
  on = j.at_client

  held-own : HeldOn (kept w k) x.names x.core j
  held-own =
      let o = all k j at in
      let one : o.0 ≡ j = At-one w.circuits k o.0 j o.2 at in
      let who : o.1 ≡ x = At-one w.clients j.client o.1 x (subst (λ (z : Joined). At w.clients z.client o.1) one o.3) there in
      subst (λ (z : ClientSide × Joined). HeldOn (kept w k) z.0.names z.0.core z.1) (λ i. (who i, one i)) o.4

  connected-or : (o : Option Connection) → is_none o ≡ false → (d : Connection) × (o ≡ Some d)
  connected-or (Some d) is = (d, refl)
  connected-or None is = absurd (both_ways true is refl)

  -- the message that is read, and what the client makes of it
  module _ (d : Connection) (m : Fields) (rest : List ℕ) (e : Effect) (g : Step) (linked : connection_at x.core on ≡ Some d) (takes : TakesFirst d.link m rest) (hears : Hears (after_taking on rest x.core) on m e) where
    abbrev y : Client
    y = after_taking on rest x.core

    next : (t : Told) × At j.lists.down (length j.lists.heard) t × (t.message ≡ m)
    next = told.hears k j x d m rest at there opened linked takes

    tidy : Tidy x.names y
    tidy = tidy-less x.names x.core y (less-on (λ (v : Connection). record v { link = link.with_rest rest v.link }) on x.core) (quiet.tidy j.client x there)

    still : Quiet x.names y on j.lists.up
    still = quiet-less x.names x.core y on j.lists.up (less-on (λ (v : Connection). record v { link = link.with_rest rest v.link }) on x.core) (quiet.quiet k j x at there opened)

    sides-y : Sides x.names x.core on j.lists → Sides x.names y on j.lists
    sides-y h = record { lives = h.lives; answered = h.answered }

    abbrev now : Circuit
    now = with_heard g j.lists

    abbrev Read : Type 0
    Read = (z : Client) × Sides x.names z on now × Way on x.names z (said x.names on e.sent) e.core

    waits : (cid : ℕ) (h : Handle) → channel_on y on cid ≡ Some (h, Connecting) → ⊥
    waits cid h found =
        let ch = channel-on y on cid h Connecting found in
        both_ways true ((stands.sound j.client x there).placed.waiting h ch.0 on Connecting ch.1 ch.3 ∙ ap is_none linked) refl

    -- it creates no channel
    read-other : (Is command.CreateChannel m → ⊥) → Sides x.names y on j.lists → Sides x.names y on now
    read-other other h = record {
      lives = λ g2 sid l. (let b = h.lives g2 sid l in (b.0, b.1, (let lt : b.0 < length j.lists.heard = b.2 in let f : length now.heard ≡ length j.lists.heard + 1 = length-more j.lists.heard g in omega (arith, lt, f)), record { t = (b.3).t; r = (b.3).r; told = (b.3).told; asked = (b.3).asked; early = (b.3).early; since = (b.3).since }));
      answered = λ i sid a u r lt at_u why creates there_r is. elim (three-ways i (length j.lists.heard)) [
        | inl early ↦ h.answered i sid a u r early at_u why creates there_r is
        | inr (inl same) ↦
            let one : u ≡ next.0 = At-one j.lists.down (length j.lists.heard) u next.0 (subst (λ (v : ℕ). At j.lists.down v u) same at_u) next.1 in
            absurd (other (ap (λ (v : Fields). v.command) (sym (ap (λ (v : Told). v.message) one ∙ next.2)) ∙ creates.0))
        | inr (inr late) ↦ absurd (let f : length now.heard ≡ length j.lists.heard + 1 = length-more j.lists.heard g in omega (arith, late, lt, f))
      ];
    }

    read-so : Sides x.names x.core on j.lists → Right j.lists → Read
    read-so h right = elim (spoken x.names y tidy.numbered on on m e hears) [
      | inr other ↦ (y, read-other other.0 (sides-y h), other.1)
      | inl creates ↦
          let t : Told = next.0 in
          let is_creation : Is command.CreateChannel t.message = ap (λ (v : Fields). v.command) next.2 ∙ creates.0 in
          let reply : t.cause ≡ Reply = elim (told.caused.each k j at (length j.lists.heard) t next.1) [
            | inl why ↦ why
            | inr (inl lost) ↦ absurd (let f : ◌≡◌ {A = ℕ} 18 27 = sym is_creation ∙ lost in omega (arith, f))
            | inr (inr update) ↦ absurd (let f : ◌≡◌ {A = ℕ} 18 1 = sym is_creation ∙ update.0 in omega (arith, f))
          ] in
          let about = created_on.about (length j.lists.heard) t.message.p2 t next.1 reply (is_creation, refl) in
          heard-created (kept w k) x.names y on j.lists t about.1.0 m tidy still held-own.flows (held-own.cids opened)
          (let hh = held-own.holds opened in record { channels = hh.channels; requests = hh.requests; subscriptions = hh.subscriptions }) next.1 about.1.1 next.2 reply creates.0 about.1.2
          (λ i sid other u at_u why creates_u place. created_on.once i (length j.lists.heard) other t.message.p2 u t at_u next.1 why reply creates_u (is_creation, refl) place) waits (sides-y h) right g e (channel_on y on m.p1) refl creates.1
    ]

    -- and on other circuits
    away-silent : (c : Handle) (z : Client) → SameLive c y.channels z.channels → Way c x.names y (said x.names c []) z
    away-silent c z same = way-silent c x.names y z same

    created-elsewhere : (c : Handle) → (on ≡ c → ⊥) → (o : Option (Handle × Phase)) → channel_on y on m.p1 ≡ o → e ≡ created y on m o → Way c x.names y (said x.names c e.sent) e.core
    created-elsewhere c away None found is = subst (λ (v : Effect). Way c x.names y (said x.names c v.sent) v.core) (sym is) (away-silent c y (live-itself c y.channels))
    created-elsewhere c away (Some (h, Connecting)) found is = subst (λ (v : Effect). Way c x.names y (said x.names c v.sent) v.core) (sym is) (away-silent c y (live-itself c y.channels))
    created-elsewhere c away (Some (h, Live native rights)) found is = subst (λ (v : Effect). Way c x.names y (said x.names c v.sent) v.core) (sym is) (away-silent c y (live-itself c y.channels))
    created-elsewhere c away (Some (h, Leaving)) found is = subst (λ (v : Effect). Way c x.names y (said x.names c v.sent) v.core) (sym is) (away-silent c y (live-itself c y.channels))
    created-elsewhere c away (Some (h, Clearing)) found is = subst (λ (v : Effect). Way c x.names y (said x.names c v.sent) v.core) (sym is) (away-silent c y (live-itself c y.channels))
    created-elsewhere c away (Some (h, Creating rights)) found is =
        let f = channel-on y on m.p1 h (Creating rights) found in
        let z : Client = with_standing (On on (Live (native_in m) rights)) h y in
        let same : SameLive c y.channels z.channels = same-stood (On on (Live (native_in m) rights)) h y.channels c (none-live y.channels c h f.0 f.1 (λ v r q. not-on on c (Creating rights) away v r (sym f.3 ∙ q))) (not-on on c (Live (native_in m) rights) away) in
        subst (λ (v : Effect). Way c x.names y (said x.names c v.sent) v.core) (sym is)
        (way-elsewhere x.names y (sending (event_adds on m.p2 h y) z) on c (event_adds on m.p2 h y) away
        (λ i v in_it. (let q = At-mapped (λ (u : Handle × Subscription). event_add_sent on m.p2 u.0 u.1) (standing_to h y.subscriptions) i v in_it in ap (λ (u : Sending). u.circuit) q.2))
        (live-then c y.channels z.channels (sending (event_adds on m.p2 h y) z).channels same (live-as c z.channels (sending (event_adds on m.p2 h y) z).channels (channels-sending (event_adds on m.p2 h y) z))))
    created-elsewhere c away (Some (h, Doomed)) found is =
        let f = channel-on y on m.p1 h Doomed found in
        let z : Client = with_standing (On on Clearing) h y in
        let sends : List Sending = clear_sent on m.p2 h ∷ [] in
        subst (λ (v : Effect). Way c x.names y (said x.names c v.sent) v.core) (sym is)
        (way-elsewhere x.names y (sending sends z) on c sends away (λ i v in_it. ap (λ (u : Sending). u.circuit) (only-sent (clear_sent on m.p2 h) v i in_it))
        (same-stood (On on Clearing) h y.channels c (none-live y.channels c h f.0 f.1 (λ v r q. not-on on c Doomed away v r (sym f.3 ∙ q))) (not-on on c Clearing away)))

    other-way : (c : Handle) → (on ≡ c → ⊥) → Way c x.names y (said x.names c e.sent) e.core
    other-way c away = elim (spoken x.names y tidy.numbered c on m e hears) [
      | inr other ↦ other.1
      | inl creates ↦ created-elsewhere c away (channel_on y on m.p1) refl creates.1
    ]

  -- ---- what it leaves

  module _ (notices : List Notice) (sent : List Sending) (core : Client) (d : Connection) (linked : connection_at x.core on ≡ Some d) (steps : Takes x.core on d (record { core = core; sent = sent; notices = notices })) (lines : List Line) (g : Step)
      (is : new ≡ client_after j.client x x.names (record { core = core; names = x.names; lines = lines; sent = sent }) (with_circuit k (heard_in g j) w)) where
    abbrev e : Effect
    e = record { core = core; sent = sent; notices = notices }

    abbrev after : World
    after = client_after j.client x x.names (record { core = core; names = x.names; lines = lines; sent = sent }) (with_circuit k (heard_in g j) w)

    facts-after : FactsFor w after
    facts-after = subst (λ (v : World). FactsFor w v) is facts

    -- a circuit after it
    circuit-or : (l : ℕ) (v : Joined) → At after.circuits l v → ((l ≡ k) × (v ≡ sent_to j.client x.names sent (heard_in g j))) ⊎ ((l ≡ k → ⊥) × ((a : Joined) × At w.circuits l a × (v ≡ sent_to j.client x.names sent a)))
    circuit-or l v at_v =
        let q = At-mapped (sent_to j.client x.names sent) (slice_set w.circuits k (heard_in g j)) l v at_v in
        elim (At-set w.circuits k (heard_in g j) l q.0 q.1) [
          | inl here ↦ inl (here.0, q.2 ∙ ap (sent_to j.client x.names sent) here.1)
          | inr old ↦ inr (old.1, (q.0, old.0, q.2))
        ]

    ends : AllEnds j.client x.names sent w.circuits after.circuits
    ends l v at_v = elim (circuit-or l v at_v) [
      | inl here ↦ (
        j,
        subst (λ (u : ℕ). At w.circuits u j) (sym here.0) at,
        subst (λ (u : Joined). IsEnd j.client x.names sent j u) (sym here.1) (record {
          client = refl;
          handle = refl;
          opens = λ o. o;
          shuts = λ o f. absurd (both_ways j.lists.client_open f o);
          up = refl;
          down = refl;
          heard = λ other. absurd (other refl);
          more = (let e : length (j.lists.heard ++ g ∷ []) ≡ length j.lists.heard + 1 = length-more j.lists.heard g in let le : length j.lists.heard ≤ length (j.lists.heard ++ g ∷ []) = omega (arith, e) in le);
          handled = refl;
        }),
      )
      | inr old ↦ (
        old.1.0,
        old.1.1,
        subst (λ (u : Joined). IsEnd j.client x.names sent old.1.0 u) (sym old.1.2) (record {
          client = refl;
          handle = refl;
          opens = λ o. o;
          shuts = λ o f. absurd (both_ways (old.1.0).lists.client_open f o);
          up = refl;
          down = refl;
          heard = λ other. refl;
          more = (let le : length (old.1.0).lists.heard ≤ length (old.1.0).lists.heard = omega arith in le);
          handled = refl;
        }),
      )
    ]

    own-step : (l : ℕ) (v a : Joined) → At after.circuits l v → At w.circuits l a → l ≡ k → v ≡ sent_to j.client x.names sent (heard_in g j) → v.lists.client_open ≡ true → v.lists.up ≡ a.lists.up ++ said x.names a.at_client sent → Sides x.names x.core a.at_client a.lists → Right a.lists
        → Sides x.names core a.at_client v.lists × Right v.lists
    own-step l v a at_v at_a here v_is open_it up sides right =
        let a_is : a ≡ j = At-one w.circuits k a j (subst (λ (u : ℕ). At w.circuits u a) here at_a) at in
        subst (λ (u : Joined). Sides x.names core u.at_client v.lists × Right v.lists) (sym a_is)
        (near (subst (λ (u : Joined). v.lists.up ≡ u.lists.up ++ said x.names u.at_client sent) a_is up) (subst (λ (u : Joined). Sides x.names x.core u.at_client u.lists) a_is sides) (subst (λ (u : Joined). Right u.lists) a_is right)
        (subst (λ (u : Joined). Facts u.lists v.lists) a_is (facts-after l v a at_v at_a open_it)))
      where
        near : v.lists.up ≡ j.lists.up ++ said x.names on sent → Sides x.names x.core on j.lists → Right j.lists → Facts j.lists v.lists → Sides x.names core on v.lists × Right v.lists
        near up h r f =
            let c : Circuit = with_heard g j.lists in
            let read = read-so d steps.m steps.rest e g linked steps.first steps.hears h r in
            let further : (m : ℕ) → m < length j.lists.heard → m < length c.heard = λ m lt. (let more : length (j.lists.heard ++ g ∷ []) ≡ length j.lists.heard + 1 = length-more j.lists.heard g in omega (arith, lt, more)) in
            let down : v.lists.down ≡ c.down = ap (λ (u : Joined). u.lists.down) v_is in
            let heard : length v.lists.heard ≡ length c.heard = ap (λ (u : Joined). length u.lists.heard) v_is in
            let handled : length v.lists.handled ≡ length c.handled = ap (λ (u : Joined). length u.lists.handled) v_is in
            by-way c v.lists (said x.names on sent) up down heard handled x.names x.names read.0 core on
            (λ i m a2 in_it creates. record { turn = f.turn; read = f.read; about = f.about }) (λ h2 sid l2. refl) read.1
            (record { under = λ p a2 q ask at_q is_q other. (let b = r.under p a2 q ask at_q is_q other in (b.0, b.1, record { t = (b.2).t; r = (b.2).r; told = (b.2).told; asked = (b.2).asked; early = (b.2).early; since = (b.2).since })); read = λ p a2 q ask at_q is_q other. (let b = r.read p a2 q ask at_q is_q other in (b.0, b.1, further b.0 b.2, record { t = (b.3).t; r = (b.3).r; told = (b.3).told; asked = (b.3).asked; early = (b.3).early; since = (b.3).since })); between = r.between; turn = r.turn })
            read.2

    far-step : (l : ℕ) (v a : Joined) → At after.circuits l v → At w.circuits l a → (l ≡ k → ⊥) → v ≡ sent_to j.client x.names sent a → a.client ≡ j.client → v.lists.client_open ≡ true → a.lists.client_open ≡ true → v.lists.up ≡ a.lists.up ++ said x.names a.at_client sent
        → Sides x.names x.core a.at_client a.lists → Right a.lists → Sides x.names core a.at_client v.lists × Right v.lists
    far-step l v a at_v at_a other v_is mine open_it was up sides right =
        let away : on ≡ a.at_client → ⊥ = λ same. other (sym (stands.handles k l j a at at_a (sym mine) opened was (subst (λ (h : Handle). same_handle on h ≡ true) same (same-itself on)))) in
        by-way a.lists v.lists (said x.names a.at_client sent) up (ap (λ (u : Joined). u.lists.down) v_is) (ap (λ (u : Joined). length u.lists.heard) v_is) (ap (λ (u : Joined). length u.lists.handled) v_is) x.names x.names (after_taking on steps.rest x.core) core a.at_client
        (λ i m b in_it creates. facts-after l v a at_v at_a open_it) (λ h sid q. refl) (record { lives = sides.lives; answered = sides.answered }) right
        (other-way d steps.m steps.rest e g linked steps.first steps.hears a.at_client away)

    sided-read-step : AllSided new
    sided-read-step = subst (λ (v : World). AllSided v) (sym is) (sided-by w after j.client x (record x { core = core; names = x.names }) x.names sent there refl ends
        (λ l v a at_v at_a end mine open_it up sides right. elim (circuit-or l v at_v) [
          | inl here ↦ own-step l v a at_v at_a here.0 here.1 open_it up sides right
          | inr old ↦
              let one : old.1.0 ≡ a = At-one w.circuits l old.1.0 a old.1.1 at_a in
              far-step l v a at_v at_a old.0 (old.1.2 ∙ ap (sent_to j.client x.names sent) one) mine open_it (end.opens open_it) up sides right
        ]) s)

  pub sided-client-step : HappensClientStep w k j x new → AllSided new
  sided-client-step happens = go (connection_at x.core on) refl happens.0 happens.1 happens.2 happens.3 happens.4
    where
      go : (o : Option Connection) → connection_at x.core on ≡ o → (did : Stepped) (sent : List Sending) (core : Client) → StepsOn x.core on o did sent core → new ≡ client_stepped k j x did sent core w → AllSided new
      go None linked did sent core steps is = absurd (both_ways (is_none (connection_at x.core on)) (stands.connected k j x at there opened) (ap is_none linked))
      go (Some d) linked NeedBytes sent core steps is = subst (λ (v : World). AllSided v) (sym is) s
      go (Some d) linked (Closed c) sent core steps is =
          subst (λ (v : World). AllSided v) (sym is) (subst (λ (z : Client). AllSided (client_ended k j x c z w)) (sym steps.1.2) (sided-ended w new k j x at there s stands opened c))
      go (Some d) linked (Notices notices) sent core steps is =
          let lines : List Line = lines_of (about_at j.lists (length j.lists.heard)) x.names notices in
          let logged : ℕ = log_length x.life w.client_logs in
          sided-read-step notices sent core d linked steps lines (record { sent = length j.lists.up; logged = logged; after = logged + length lines }) is
