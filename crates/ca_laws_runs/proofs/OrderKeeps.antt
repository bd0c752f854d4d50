-- Over every event and every run the steps of all ends are in order.
use Rattle.std.proofs.Common.{◌≡◌, ℕ, suc, ◌+◌, ◌<◌, ◌≤◌, ◌⊎◌, inl, inr, Bool, true, false, cond, ◌&&◌, eqb, List, [], ◌∷◌, ◌++◌, length, Option, Some, None, refl, sym, ap, subst, ◌∙◌, arith}
use Rattle.std.specs.Prelude.{map, option_map, slice_get, slice_set, unwrap_or}
use Rattle.std.specs.List.{FoldsTo}
use Rattle.std.proofs.lemmas.Bool.{eq-eqb}
use Rattle.std.proofs.lemmas.List.{length-append}
use Rattle.ca_arena.specs.declared.handle.Handle.{Handle}
use Rattle.ca_text.specs.Place.{At}
use Rattle.ca_text.proofs.Places.{At-map, At-mapped, At-one, At-or, At-set, At-snoc, At-within}
use Rattle.ca_model.specs.Answers.{Closing, Notice, Sending}
use Rattle.ca_model.specs.Answers as answer
use Rattle.ca_model.specs.Client.{Client, Connection, connection_at, out_bytes}
use Rattle.ca_model.specs.ClientEnds.{StepsOn}
use Rattle.ca_model.specs.History.{Circuit, Entry, Line, OfCircuit, Reply, Step, Told}
use Rattle.ca_model.specs.Channels.{AreSteps, Joins}
use Rattle.ca_model.specs.ClientEvents.{HappensClientRestart, HappensClientStep, about_at, client_closed, client_gone, client_stepped, connected_as, heard_in, lines_of, new_circuit, closing_notices}
use Rattle.ca_model.specs.Events.{Event}
use Rattle.ca_model.specs.Events as event
use Rattle.ca_model.specs.Runs.{AreEvents, Happens, Runs, StopsAt, clients_below}
use Rattle.ca_model.specs.ServerEvents.{StepHandles, about, acted, ends_by, handled_at, server_after, side_of}
use Rattle.ca_model.specs.ServerEvents as server
use Rattle.ca_model.specs.World.{ClientSetting, ClientSide, IsSetting, Joined, ServerSide, Setting, World, circuit_of, log_length, opening, told, with_circuit}
use Rattle.ca_laws_parts.specs.Runs.{HearsSent, Stands}
use Rattle.ca_laws_parts.specs.ServerFits.{ServersFit}
use Rattle.ca_laws_parts.proofs.BytesRuns.{event-stands, hears-sent, opening-stands, runs-stand, takes-sent}
use Rattle.ca_laws_parts.proofs.ServerSpeaking.{event-servers, opening-servers}
use Rattle.ca_laws_parts.specs.Seats.{Seated, TakesSent}
use Rattle.ca_laws_parts.proofs.WritesEvents.{numbered-at}
use Rattle.ca_laws_parts.proofs.WritesLists.{length-more, none_at}
use Rattle.ca_laws_runs.specs.OrderSteps.{ClientsInOrder, HaveLives, InOrder, ServerStepsAre, ServersInOrder, StepsAre}
use Rattle.ca_laws_runs.proofs.OrderGrows.{GoesOn, Grown, Longer, each-event, ended-grown, grown-acted, grown-by, grown-here, grown-left, grown-self, grown-server, grown-then, longer-self, longer-snoc, map-count, on-closed, on-self, step-grown, ticks-grown}

-- ---- steps

pub in-order-none : (came sent log : ℕ) → InOrder [] came sent log
in-order-none came sent log = record { one_each = omega arith; within = λ k h at. absurd (none_at k h at); rise = λ i j g h lt at there. absurd (none_at i g at) }

pub in-order-longer : (steps : List Step) (came sent log more_came more_sent more_log : ℕ) → came ≤ more_came → sent ≤ more_sent → log ≤ more_log → InOrder steps came sent log → InOrder steps more_came more_sent more_log
in-order-longer steps came sent log more_came more_sent more_log c s l o = record {
  one_each = (let e : length steps ≤ came = o.one_each in omega (arith, e, c));
  within = λ k h at. (let p = o.within k h at in let a : h.sent ≤ sent = p.0 in let b : h.after ≤ log = p.2 in (omega (arith, a, s), p.1, omega (arith, b, l)));
  rise = o.rise;
}

-- one step more, with what had been sent and logged
pub in-order-more : (steps : List Step) (came sent log more_came more_sent more_log : ℕ) (g : Step) → length steps < more_came → sent ≤ g.sent → g.sent ≤ more_sent → log ≤ g.logged → g.logged ≤ g.after → g.after ≤ more_log
    → InOrder steps came sent log → InOrder (steps ++ g ∷ []) more_came more_sent more_log
in-order-more steps came sent log more_came more_sent more_log g few s0 s1 l0 l1 l2 o = record {
  one_each = (let e : length (steps ++ g ∷ []) ≡ length steps + 1 = length-more steps g in omega (arith, e, few));
  within = λ k h at. elim (At-snoc steps g k h at) [
    | inl old ↦ (let p = o.within k h old in let a : h.sent ≤ sent = p.0 in let b : h.after ≤ log = p.2 in (omega (arith, a, s0, s1), p.1, omega (arith, b, l0, l1, l2)))
    | inr last ↦ subst (λ (z : Step). (z.sent ≤ more_sent) × (z.logged ≤ z.after) × (z.after ≤ more_log)) (sym last.1) (s1, l1, l2)
  ];
  rise = λ i j f h lt at there. elim (At-snoc steps g j h there) [
    | inl old ↦ elim (At-snoc steps g i f at) [
      | inl was ↦ o.rise i j f h lt was old
      | inr last ↦ absurd (let a : i ≡ length steps = last.0 in let b : j < length steps = At-within steps j h old in omega (arith, lt, a, b))
    ]
    | inr last ↦ elim (At-snoc steps g i f at) [
      | inl was ↦
          let p = o.within i f was in
          let a : f.sent ≤ sent = p.0 in
          let b : f.after ≤ log = p.2 in
          subst (λ (z : Step). (f.sent ≤ z.sent) × (f.after ≤ z.logged)) (sym last.1) (omega (arith, a, s0), omega (arith, b, l0))
      | inr too ↦ absurd (let a : i ≡ length steps = too.0 in let b : j ≡ length steps = last.0 in omega (arith, lt, a, b))
    ]
  ];
}

-- ---- what goes on

pub lives-grown : (w new : World) → Grown w new → HaveLives w → HaveLives new
lives-grown w new g h = record {
  present = λ i x at.
      let z = g.lives i x at in
      let lt : z.0.life < length w.client_logs = h.present i z.0 z.1 in
      let same : x.life ≡ z.0.life = z.2 in
      let more : length w.client_logs ≤ length new.client_logs = g.lines.count in
      omega (arith, lt, same, more);
  joined = λ n d at.
      let c = g.back n d at in
      let lt : c.0.lists.client < length w.client_logs = h.joined n c.0 c.1 in
      let same : d.lists.client ≡ c.0.lists.client = c.2.client in
      let more : length w.client_logs ≤ length new.client_logs = g.lines.count in
      omega (arith, lt, same, more);
  same = λ n d x at there opened.
      let c = g.back n d at in
      let z = g.lives d.client x there in
      c.2.client ∙ h.same n c.0 z.0 c.1 (subst (λ (i : ℕ). At w.clients i z.0) c.2.number z.1) (c.2.opened opened) ∙ sym z.2;
}

-- the same steps, of a longer circuit and in a longer log
served-on : (w new : World) (c d : Joined) → Longer w.server_logs new.server_logs → GoesOn c d → InOrder c.lists.handled (length c.lists.up) (length c.lists.down) (log_length c.lists.server w.server_logs)
    → InOrder d.lists.handled (length d.lists.up) (length d.lists.down) (log_length d.lists.server new.server_logs)
served-on w new c d longer goes o =
    subst (λ (v : List Step × ℕ). InOrder v.0 (length d.lists.up) (length d.lists.down) (log_length v.1 new.server_logs)) (λ i. (sym goes.handled i, sym goes.server i))
    (in-order-longer c.lists.handled (length c.lists.up) (length c.lists.down) (log_length c.lists.server w.server_logs) (length d.lists.up) (length d.lists.down) (log_length c.lists.server new.server_logs) goes.up goes.down (longer.each c.lists.server) o)

heard-on : (w new : World) (c d : Joined) → Longer w.client_logs new.client_logs → GoesOn c d → InOrder c.lists.heard (length c.lists.down) (length c.lists.up) (log_length c.lists.client w.client_logs)
    → InOrder d.lists.heard (length d.lists.down) (length d.lists.up) (log_length d.lists.client new.client_logs)
heard-on w new c d longer goes o =
    subst (λ (v : List Step × ℕ). InOrder v.0 (length d.lists.down) (length d.lists.up) (log_length v.1 new.client_logs)) (λ i. (sym goes.heard i, sym goes.client i))
    (in-order-longer c.lists.heard (length c.lists.down) (length c.lists.up) (log_length c.lists.client w.client_logs) (length d.lists.down) (length d.lists.up) (log_length c.lists.client new.client_logs) goes.down goes.up (longer.each c.lists.client) o)

pub served-grown : (w new : World) → Grown w new → ServersInOrder w → ServersInOrder new
served-grown w new g h n d at = (let c = g.back n d at in served-on w new c.0 d g.entries c.2 (h n c.0 c.1))

pub heard-grown : (w new : World) → Grown w new → ClientsInOrder w → ClientsInOrder new
heard-grown w new g h n d at = (let c = g.back n d at in heard-on w new c.0 d g.lines c.2 (h n c.0 c.1))

-- one circuit is set
lives-set : (w : World) (k : ℕ) (j d : Joined) → At w.circuits k j → d.client ≡ j.client → d.lists.client ≡ j.lists.client → d.lists.client_open ≡ j.lists.client_open → HaveLives w → HaveLives (with_circuit k d w)
lives-set w k j d on number client opened h = record {
  present = h.present;
  joined = λ n c at. elim (At-set w.circuits k d n c at) [
    | inl own ↦ subst (λ (z : ℕ). z < length w.client_logs) (sym (ap (λ (z : Joined). z.lists.client) own.1 ∙ client)) (h.joined k j on)
    | inr old ↦ h.joined n c old.0
  ];
  same = λ n c x at there o. elim (At-set w.circuits k d n c at) [
    | inl own ↦
        ap (λ (z : Joined). z.lists.client) own.1 ∙ client
        ∙ h.same k j x on (subst (λ (i : ℕ). At w.clients i x) (ap (λ (z : Joined). z.client) own.1 ∙ number) there) (sym (ap (λ (z : Joined). z.lists.client_open) own.1 ∙ opened) ∙ o)
    | inr old ↦ h.same n c x old.0 there o
  ];
}

served-set : (w : World) (k : ℕ) (d : Joined) → InOrder d.lists.handled (length d.lists.up) (length d.lists.down) (log_length d.lists.server w.server_logs) → ServersInOrder w → ServersInOrder (with_circuit k d w)
served-set w k d o h n c at = elim (At-set w.circuits k d n c at) [
  | inl own ↦ subst (λ (z : Joined). InOrder z.lists.handled (length z.lists.up) (length z.lists.down) (log_length z.lists.server w.server_logs)) (sym own.1) o
  | inr old ↦ h n c old.0
]

heard-set : (w : World) (k : ℕ) (d : Joined) → InOrder d.lists.heard (length d.lists.down) (length d.lists.up) (log_length d.lists.client w.client_logs) → ClientsInOrder w → ClientsInOrder (with_circuit k d w)
heard-set w k d o h n c at = elim (At-set w.circuits k d n c at) [
  | inl own ↦ subst (λ (z : Joined). InOrder z.lists.heard (length z.lists.down) (length z.lists.up) (log_length z.lists.client w.client_logs)) (sym own.1) o
  | inr old ↦ h n c old.0
]

-- ---- a message is handled

module _ (w new : World) (k : ℕ) (j : Joined) (y : ServerSide) (on : At w.circuits k j) (f : StepHandles w k j y new) where
  abbrev did-mid : World
  did-mid = acted k j y (f.steps.0).action w

  abbrev pub did-after : World
  did-after = server_after j.server (side_of j.server y did-mid) (ends_by j.server f.core) f.core did-mid

  abbrev pub did-step : Step
  did-step = record { sent = length j.lists.down; logged = server.logged y w; after = server.logged y did-after }

  pub did-grown : Grown w did-after
  did-grown = grown-then w did-mid did-after (grown-acted w k j y (f.steps.0).action on) (grown-server did-mid j.server (side_of j.server y did-mid) (ends_by j.server f.core) f.core)

  abbrev did-noted : Option Joined → World
  did-noted o = unwrap_or (option_map (λ (c : Joined). with_circuit k (handled_at (length j.lists.handled) did-step (f.steps.0).replies c) did-after) o) did-after

  -- the circuit before it is noted
  did-goes : (c : Joined) → At did-after.circuits k c → GoesOn j c
  did-goes c at = (let b = did-grown.back k c at in subst (λ (z : Joined). GoesOn z c) (At-one w.circuits k b.0 j b.1 on) b.2)

  did-lives : HaveLives w → HaveLives new
  did-lives h = subst (λ (z : World). HaveLives z) (sym f.leaves) (go (slice_get did-after.circuits k) refl)
    where
      go : (o : Option Joined) → slice_get did-after.circuits k ≡ o → HaveLives (did-noted o)
      go None is = lives-grown w did-after did-grown h
      go (Some c) is = lives-set did-after k c (handled_at (length j.lists.handled) did-step (f.steps.0).replies c) is refl refl refl (lives-grown w did-after did-grown h)

  did-heard : ClientsInOrder w → ClientsInOrder new
  did-heard h = subst (λ (z : World). ClientsInOrder z) (sym f.leaves) (go (slice_get did-after.circuits k) refl)
    where
      all : ClientsInOrder did-after
      all = heard-grown w did-after did-grown h

      go : (o : Option Joined) → slice_get did-after.circuits k ≡ o → ClientsInOrder (did-noted o)
      go None is = all
      go (Some c) is =
          let more : List Told = about (length j.lists.handled) Reply (f.steps.0).replies in
          let e : length (c.lists.down ++ more) ≡ length c.lists.down + length more = length-append c.lists.down more in
          heard-set did-after k (handled_at (length j.lists.handled) did-step (f.steps.0).replies c)
          (in-order-longer c.lists.heard (length c.lists.down) (length c.lists.up) (log_length c.lists.client did-after.client_logs) (length (c.lists.down ++ more)) (length c.lists.up) (log_length c.lists.client did-after.client_logs)
          (omega (arith, e)) (omega arith) (omega arith) (all k c is)) all

  did-served : (joins : j.lists.server ≡ y.life) (came : length j.lists.handled < length j.lists.up) → ServersInOrder w → ServersInOrder new
  did-served joins came h = subst (λ (z : World). ServersInOrder z) (sym f.leaves) (go (slice_get did-after.circuits k) refl)
    where
      all : ServersInOrder did-after
      all = served-grown w did-after did-grown h

      go : (o : Option Joined) → slice_get did-after.circuits k ≡ o → ServersInOrder (did-noted o)
      go None is = all
      go (Some c) is =
          let goes : GoesOn j c = did-goes c is in
          let more : List Told = about (length j.lists.handled) Reply (f.steps.0).replies in
          let e : length (c.lists.down ++ more) ≡ length c.lists.down + length more = length-append c.lists.down more in
          let up : length j.lists.up ≤ length c.lists.up = goes.up in
          let down : length j.lists.down ≤ length c.lists.down = goes.down in
          let grew : log_length y.life w.server_logs ≤ log_length y.life did-after.server_logs = did-grown.entries.each y.life in
          let log_is : log_length j.lists.server w.server_logs ≡ log_length y.life w.server_logs = ap (λ (l : ℕ). log_length l w.server_logs) joins in
          let life : c.lists.server ≡ y.life = goes.server ∙ joins in
          let end_is : log_length c.lists.server did-after.server_logs ≡ log_length y.life did-after.server_logs = ap (λ (l : ℕ). log_length l did-after.server_logs) life in
          served-set did-after k (handled_at (length j.lists.handled) did-step (f.steps.0).replies c)
          (subst (λ (steps : List Step). InOrder (steps ++ did-step ∷ []) (length c.lists.up) (length (c.lists.down ++ more)) (log_length c.lists.server did-after.server_logs)) (sym goes.handled)
          (in-order-more j.lists.handled (length j.lists.up) (length j.lists.down) (log_length j.lists.server w.server_logs) (length c.lists.up) (length (c.lists.down ++ more)) (log_length c.lists.server did-after.server_logs) did-step
          (omega (arith, came, up)) (omega arith) (omega (arith, down, e)) (omega (arith, log_is)) grew (omega (arith, end_is)) (h k j on))) all

-- ---- a message is read

-- A client's end reads a message, or all goes on.
pub record IsHearing (w new : World) (k : ℕ) (j : Joined) (x : ClientSide) : Type 0 where
  pub notices : List Notice
  pub sent : List Sending
  pub core : Client
  pub steps : StepsOn x.core j.at_client (connection_at x.core j.at_client) (answer.Notices notices) sent core
  pub is : new ≡ client_stepped k j x (answer.Notices notices) sent core w

pub hearing-or : (w new : World) (k : ℕ) (j : Joined) (x : ClientSide) → At w.circuits k j → At w.clients j.client x → HappensClientStep w k j x new → IsHearing w new k j x ⊎ Grown w new
hearing-or w new k j x on at (answer.NeedBytes, sent, core, steps, is) = inr (grown-self w new is)
hearing-or w new k j x on at (answer.Closed c, sent, core, steps, is) = inr (subst (λ (z : World). Grown w z) (sym is) (ended-grown w k j x c core on at))
hearing-or w new k j x on at (answer.Notices notices, sent, core, steps, is) = inl (record { notices = notices; sent = sent; core = core; steps = steps; is = is })

-- what it reads was sent
pub hears-one : (w : World) (k : ℕ) (j : Joined) (x : ClientSide) (o : Option Connection) → connection_at x.core j.at_client ≡ o → (notices : List Notice) (sent : List Sending) (core : Client) → At w.circuits k j → At w.clients j.client x → j.lists.client_open ≡ true → HearsSent w
    → StepsOn x.core j.at_client o (answer.Notices notices) sent core → length j.lists.heard < length j.lists.down
hears-one w k j x None is notices sent core on at opened hears steps = absurd steps
hears-one w k j x (Some d) is notices sent core on at opened hears steps = (let t = hears k j x d steps.m steps.rest on at opened is steps.first in At-within j.lists.down (length j.lists.heard) t.0 t.1)

module _ (w new : World) (k : ℕ) (j : Joined) (x : ClientSide) (on : At w.circuits k j) (at : At w.clients j.client x) (f : IsHearing w new k j x) where
  abbrev pub hear-lines : List Line
  hear-lines = lines_of (about_at j.lists (length j.lists.heard)) x.names f.notices

  abbrev pub hear-step : Step
  hear-step = record { sent = length j.lists.up; logged = log_length x.life w.client_logs; after = log_length x.life w.client_logs + length hear-lines }

  abbrev pub hear-mid : World
  hear-mid = with_circuit k (heard_in hear-step j) w

  pub hear-grown : Grown hear-mid new
  hear-grown = subst (λ (z : World). Grown hear-mid z) (sym f.is) (grown-left hear-mid j.client x x.names x.names f.core hear-lines f.sent at)

  hear-lives : HaveLives w → HaveLives new
  hear-lives h = lives-grown hear-mid new hear-grown (lives-set w k j (heard_in hear-step j) on refl refl refl h)

  hear-served : ServersInOrder w → ServersInOrder new
  hear-served h = served-grown hear-mid new hear-grown (served-set w k (heard_in hear-step j) (h k j on) h)

  hear-heard : HaveLives w → j.lists.client_open ≡ true → length j.lists.heard < length j.lists.down → ClientsInOrder w → ClientsInOrder new
  hear-heard lives opened came h n d there =
      let c = hear-grown.back n d there in
      elim (At-set w.circuits k (heard_in hear-step j) n c.0 c.1) [
        | inl own ↦ here (subst (λ (z : Joined). GoesOn z d) own.1 c.2)
        | inr old ↦ heard-on hear-mid new c.0 d hear-grown.lines c.2 (h n c.0 old.0)
      ]
    where
      logs_is : new.client_logs ≡ (client_stepped k j x (answer.Notices f.notices) f.sent f.core w).client_logs
      logs_is = ap (λ (z : World). z.client_logs) f.is

      here : GoesOn (heard_in hear-step j) d → InOrder d.lists.heard (length d.lists.down) (length d.lists.up) (log_length d.lists.client new.client_logs)
      here goes =
          let same : j.lists.client ≡ x.life = lives.same k j x on at opened in
          let log_is : log_length j.lists.client w.client_logs ≡ log_length x.life w.client_logs = ap (λ (l : ℕ). log_length l w.client_logs) same in
          let whole : log_length x.life new.client_logs ≡ log_length x.life w.client_logs + length hear-lines = ap (λ (l : List (List Line)). log_length x.life l) logs_is ∙ grown-here w.client_logs x.life hear-lines (lives.present j.client x at) in
          let end_is : log_length d.lists.client new.client_logs ≡ log_length x.life new.client_logs = ap (λ (l : ℕ). log_length l new.client_logs) (goes.client ∙ same) in
          let down : length j.lists.down ≤ length d.lists.down = goes.down in
          let up : length j.lists.up ≤ length d.lists.up = goes.up in
          subst (λ (steps : List Step). InOrder steps (length d.lists.down) (length d.lists.up) (log_length d.lists.client new.client_logs)) (sym goes.heard)
          (in-order-more j.lists.heard (length j.lists.down) (length j.lists.up) (log_length j.lists.client w.client_logs) (length d.lists.down) (length d.lists.up) (log_length d.lists.client new.client_logs) hear-step
          (omega (arith, came, down)) (omega arith) up (omega (arith, log_is)) (omega arith) (omega (arith, whole, end_is)) (h k j on))

-- ---- a circuit is made

-- What an acceptance leaves: nothing new, or one circuit more, on which no end made a step, and
-- then a client goes on.
pub record IsMade (w new : World) (i : ℕ) (x : ClientSide) : Type 0 where
  pub c : Joined
  pub number : c.client ≡ i
  pub client : c.lists.client ≡ x.life
  pub handled : c.lists.handled ≡ []
  pub heard : c.lists.heard ≡ []
  pub mid : World
  pub clients : mid.clients ≡ w.clients
  pub client_logs : mid.client_logs ≡ w.client_logs
  pub server_logs : mid.server_logs ≡ w.server_logs
  pub circuits : mid.circuits ≡ w.circuits ++ c ∷ []
  pub goes : Grown mid new

pub made-or : (w new : World) (i : ℕ) (happens : Happens w (event.Accept i) new) → IsMade w new i happens.0.x ⊎ Grown w new
made-or w new i (can, f) = elim f.leaves [
  | inl full ↦ inr (grown-self w new full.1)
  | inr made ↦
      let c : Joined = connected_as made.1 (new_circuit i can.x can.v.v.circuit can.v.i can.v.y made.0) in
      let mid : World = record w { servers = slice_set w.servers can.v.i (record can.v.y { core = f.server }); circuits = w.circuits ++ c ∷ [] } in
      inl (record {
        c = c;
        number = (fresh made.1 made.0).0;
        client = (fresh made.1 made.0).1;
        handled = (fresh made.1 made.0).2;
        heard = (fresh made.1 made.0).3;
        mid = mid;
        clients = refl;
        client_logs = refl;
        server_logs = refl;
        circuits = refl;
        goes = subst (λ (z : World). Grown mid z) (sym made.6) (grown-left mid i can.x can.x.names can.x.names made.3 (lines_of OfCircuit can.x.names (closing_notices made.1)) made.2 can.at);
      })
]
  where
    fresh : (o : Option Closing) (g : Handle) → let c : Joined = connected_as o (new_circuit i can.x can.v.v.circuit can.v.i can.v.y g) in (c.client ≡ i) × (c.lists.client ≡ can.x.life) × (c.lists.handled ≡ []) × (c.lists.heard ≡ [])
    fresh None g = (refl, refl, refl, refl)
    fresh (Some k) g = (refl, refl, refl, refl)

module _ (w new : World) (i : ℕ) (x : ClientSide) (at : At w.clients i x) (f : IsMade w new i x) where
  -- a circuit of the world midway
  made-one : (n : ℕ) (d : Joined) → At (f.mid).circuits n d → At w.circuits n d ⊎ (d ≡ f.c)
  made-one n d there = elim (At-snoc w.circuits f.c n d (subst (λ (l : List Joined). At l n d) f.circuits there)) [ inl old ↦ inl old | inr last ↦ inr last.1 ]

  made-lives : HaveLives w → HaveLives new
  made-lives h = lives-grown f.mid new f.goes (record {
    present = λ l z there. subst (λ (q : List (List Line)). z.life < length q) (sym f.client_logs) (h.present l z (subst (λ (q : List ClientSide). At q l z) f.clients there));
    joined = λ n d there. subst (λ (q : List (List Line)). d.lists.client < length q) (sym f.client_logs) (elim (made-one n d there) [
      | inl old ↦ h.joined n d old
      | inr is ↦ subst (λ (l : ℕ). l < length w.client_logs) (sym (ap (λ (z : Joined). z.lists.client) is ∙ f.client)) (h.present i x at)
    ]);
    same = λ n d z there client opened. (let was : At w.clients d.client z = subst (λ (q : List ClientSide). At q d.client z) f.clients client in elim (made-one n d there) [
      | inl old ↦ h.same n d z old was opened
      | inr is ↦
          let number : d.client ≡ i = ap (λ (v : Joined). v.client) is ∙ f.number in
          ap (λ (v : Joined). v.lists.client) is ∙ f.client ∙ ap (λ (v : ClientSide). v.life) (At-one w.clients i x z at (subst (λ (m : ℕ). At w.clients m z) number was))
    ]);
  })

  made-served : ServersInOrder w → ServersInOrder new
  made-served h = served-grown f.mid new f.goes (λ n d there. elim (made-one n d there) [
    | inl old ↦ subst (λ (q : List (List Entry)). InOrder d.lists.handled (length d.lists.up) (length d.lists.down) (log_length d.lists.server q)) (sym f.server_logs) (h n d old)
    | inr is ↦ subst (λ (steps : List Step). InOrder steps (length d.lists.up) (length d.lists.down) (log_length d.lists.server (f.mid).server_logs)) (sym (ap (λ (z : Joined). z.lists.handled) is ∙ f.handled)) (in-order-none _ _ _)
  ])

  made-heard : ClientsInOrder w → ClientsInOrder new
  made-heard h = heard-grown f.mid new f.goes (λ n d there. elim (made-one n d there) [
    | inl old ↦ subst (λ (q : List (List Line)). InOrder d.lists.heard (length d.lists.down) (length d.lists.up) (log_length d.lists.client q)) (sym f.client_logs) (h n d old)
    | inr is ↦ subst (λ (steps : List Step). InOrder steps (length d.lists.down) (length d.lists.up) (log_length d.lists.client (f.mid).client_logs)) (sym (ap (λ (z : Joined). z.lists.heard) is ∙ f.heard)) (in-order-none _ _ _)
  ])

-- ---- a client begins again

module _ (w new : World) (i : ℕ) (x : ClientSide) (f : HappensClientRestart w i x new) where
  abbrev pub begun-mid : World
  begun-mid = record w { circuits = map (client_gone i x) w.circuits; client_logs = w.client_logs ++ [] ∷ [] }

  on-gone : (c : Joined) → GoesOn c (client_gone i x c)
  on-gone c = go (eqb c.client i && c.lists.client_open)
    where
      go : (b : Bool) → GoesOn c (cond b (client_closed (out_bytes x.core c.at_client) c) c)
      go true = on-closed (out_bytes x.core c.at_client) c
      go false = on-self c

  pub begun-grown : Grown w begun-mid
  begun-grown =
      grown-by w begun-mid refl (longer-snoc w.client_logs []) (longer-self w.server_logs w.server_logs refl)
      (let e : length (map (client_gone i x) w.circuits) ≡ length w.circuits = map-count (client_gone i x) w.circuits in omega (arith, e), λ n d at. (let c = At-mapped (client_gone i x) w.circuits n d at in (c.0, c.1, subst (λ (z : Joined). GoesOn c.0 z) (sym c.2) (on-gone c.0))))

  -- no end of it is open then
  gone-shut : (c : Joined) (a b : Bool) → a ≡ true → c.lists.client_open ≡ b → (cond (a && b) (client_closed (out_bytes x.core c.at_client) c) c).lists.client_open ≡ true → ⊥
  gone-shut c true true ok is o = absurd (let e : false ≡ true = o in cc)
  gone-shut c true false ok is o = absurd (let e : false ≡ true = sym is ∙ o in cc)
  gone-shut c false b ok is o = absurd (let e : false ≡ true = ok in cc)

  begun-lives : HaveLives w → HaveLives new
  begun-lives h = subst (λ (z : World). HaveLives z) (sym f) (record {
    present = λ l z there. elim (At-set w.clients i _ l z there) [
      | inl own ↦ (let life : z.life ≡ length w.client_logs = ap (λ (v : ClientSide). v.life) own.1 in let more : length (w.client_logs ++ [] ∷ []) ≡ length w.client_logs + 1 = length-more w.client_logs [] in omega (arith, life, more))
      | inr old ↦ mid.present l z old.0
    ];
    joined = mid.joined;
    same = λ n d z at there opened. elim (At-set w.clients i _ d.client z there) [
      | inl own ↦
          let c = At-mapped (client_gone i x) w.circuits n d at in
          let number : c.0.client ≡ i = sym (subst (λ (v : Joined). v.client ≡ c.0.client) (sym c.2) (on-gone c.0).number) ∙ own.0 in
          absurd (gone-shut c.0 (eqb c.0.client i) c.0.lists.client_open (ap (λ (m : ℕ). eqb m i) number ∙ eq-eqb i i refl) refl (ap (λ (v : Joined). v.lists.client_open) (sym c.2) ∙ opened))
      | inr old ↦ mid.same n d z at old.0 opened
    ];
  })
    where
      mid : HaveLives begun-mid
      mid = lives-grown w begun-mid begun-grown h

  begun-served : ServersInOrder w → ServersInOrder new
  begun-served h = subst (λ (z : World). ServersInOrder z) (sym f) (served-grown w begun-mid begun-grown h)

  begun-heard : ClientsInOrder w → ClientsInOrder new
  begun-heard h = subst (λ (z : World). ClientsInOrder z) (sym f) (heard-grown w begun-mid begun-grown h)

-- ---- every event

pub event-lives : (w new : World) (e : Event) → Happens w e new → HaveLives w → HaveLives new
event-lives w new e happens h = each-event (HaveLives new) w new (λ g. lives-grown w new g h)
    (λ k f. elim (step-grown w new k f.0.j f.0.y f.1.0 f.0.joins.at f.1.1) [
      | inl handles ↦ did-lives w new k f.0.j f.0.y f.0.joins.at handles h
      | inr g ↦ lives-grown w new g h
    ])
    (λ k f. elim (hearing-or w new k f.0.j f.0.x f.0.joins.at f.0.joins.client f.1) [
      | inl hears ↦ hear-lives w new k f.0.j f.0.x f.0.joins.at f.0.joins.client hears h
      | inr g ↦ lives-grown w new g h
    ])
    (λ i f. elim (made-or w new i f) [
      | inl made ↦ made-lives w new i f.0.x f.0.at made h
      | inr g ↦ lives-grown w new g h
    ])
    (λ i f. begun-lives w new i f.0.x f.1 h) e happens

pub event-served : (w new : World) (e : Event) → Seated w → TakesSent w → Happens w e new → ServersInOrder w → ServersInOrder new
event-served w new e seated takes happens h = each-event (ServersInOrder new) w new (λ g. served-grown w new g h)
    (λ k f. elim (step-grown w new k f.0.j f.0.y f.1.0 f.0.joins.at f.1.1) [
      | inl handles ↦
          let next = handles.steps.0 in
          let seat = seated.each k f.0.j f.0.joins.at f.0.is_open in
          let s = takes k f.0.j f.0.y handles.e next.m next.rest f.0.joins.at f.0.joins.server f.0.is_open handles.has next.takes in
          did-served w new k f.0.j f.0.y f.0.joins.at handles (seat.joins ∙ ap (λ (z : ServerSide). z.life) (At-one w.servers f.0.j.server seat.y f.0.y seat.at f.0.joins.server))
          (At-within f.0.j.lists.up (length f.0.j.lists.handled) s.0 s.1) h
      | inr g ↦ served-grown w new g h
    ])
    (λ k f. elim (hearing-or w new k f.0.j f.0.x f.0.joins.at f.0.joins.client f.1) [
      | inl hears ↦ hear-served w new k f.0.j f.0.x f.0.joins.at f.0.joins.client hears h
      | inr g ↦ served-grown w new g h
    ])
    (λ i f. elim (made-or w new i f) [
      | inl made ↦ made-served w new i f.0.x f.0.at made h
      | inr g ↦ served-grown w new g h
    ])
    (λ i f. begun-served w new i f.0.x f.1 h) e happens

pub event-heard : (w new : World) (e : Event) → HaveLives w → HearsSent w → Happens w e new → ClientsInOrder w → ClientsInOrder new
event-heard w new e lives hears happens h = each-event (ClientsInOrder new) w new (λ g. heard-grown w new g h)
    (λ k f. elim (step-grown w new k f.0.j f.0.y f.1.0 f.0.joins.at f.1.1) [
      | inl handles ↦ did-heard w new k f.0.j f.0.y f.0.joins.at handles h
      | inr g ↦ heard-grown w new g h
    ])
    (λ k f. elim (hearing-or w new k f.0.j f.0.x f.0.joins.at f.0.joins.client f.1) [
      | inl one ↦
          hear-heard w new k f.0.j f.0.x f.0.joins.at f.0.joins.client one lives f.0.is_open
          (hears-one w k f.0.j f.0.x (connection_at f.0.x.core f.0.j.at_client) refl one.notices one.sent one.core f.0.joins.at f.0.joins.client f.0.is_open hears one.steps) h
      | inr g ↦ heard-grown w new g h
    ])
    (λ i f. elim (made-or w new i f) [
      | inl made ↦ made-heard w new i f.0.x f.0.at made h
      | inr g ↦ heard-grown w new g h
    ])
    (λ i f. begun-heard w new i f.0.x f.1 h) e happens

-- ---- every run

opening-lives : (s : Setting) → HaveLives (opening s)
opening-lives s = record {
  present = λ i x at.
      let c = numbered-at _ s.clients 0 i x at in
      let life : x.life ≡ i = ap (λ (v : ClientSide). v.life) c.2 ∙ (let e : 0 + i ≡ i = omega arith in e) in
      let none : List Line = [] in
      let there : At (map (λ (z : ClientSetting). none) s.clients) i none = At-map (λ (z : ClientSetting). none) s.clients i c.0 c.1 in
      subst (λ (n : ℕ). n < length (map (λ (z : ClientSetting). none) s.clients)) (sym life) (At-within (map (λ (z : ClientSetting). none) s.clients) i none there);
  joined = λ n c at. absurd (none_at n c at);
  same = λ n c x at. absurd (none_at n c at);
}

stops-grown : (mid : World) (stopped : Option Event) (w : World) → StopsAt mid stopped w → Grown mid w
stops-grown mid (Some (event.Tick moment)) w stops = elim stops [
  | inl same ↦ grown-self mid w same
  | inr ticked ↦ ticks-grown moment mid (clients_below ticked.0) w ticked.3
]
stops-grown mid stopped w stops = grown-self mid w stops

events-lives : (es : List Event) (w new : World) → FoldsTo Happens w es new → HaveLives w → HaveLives new
events-lives [] w new same h = subst (λ (z : World). HaveLives z) same h
events-lives (e ∷ es) w new (mid, one, rest) h = events-lives es mid new rest (event-lives w mid e one h)

pub run-lives : (s : Setting) (es : List Event) (stopped : Option Event) (w : World) → Runs s es stopped w → HaveLives w
run-lives s es stopped w (mid, folds, stops) = lives-grown mid w (stops-grown mid stopped w stops) (events-lives es (opening s) mid folds (opening-lives s))

events-served : (s : Setting) (es : List Event) (w new : World) → IsSetting s → FoldsTo Happens w es new → Stands s w → ServersInOrder w → ServersInOrder new
events-served s [] w new ok same stands h = subst (λ (z : World). ServersInOrder z) same h
events-served s (e ∷ es) w new ok (mid, one, rest) stands h =
    events-served s es mid new ok rest (event-stands s w mid e ok one stands) (event-served w mid e stands.sound.seated (takes-sent w stands.streams stands.fit.sent) one h)

pub run-served : (s : Setting) (es : List Event) (stopped : Option Event) (w : World) → IsSetting s → Runs s es stopped w → ServersInOrder w
run-served s es stopped w ok (mid, folds, stops) =
    served-grown mid w (stops-grown mid stopped w stops) (events-served s es (opening s) mid ok folds (opening-stands s ok) (λ n c at. absurd (none_at n c at)))

events-heard : (s : Setting) (es : List Event) (w new : World) → IsSetting s → AreEvents es → FoldsTo Happens w es new → Stands s w → ServersFit w → HaveLives w → ClientsInOrder w → ClientsInOrder new
events-heard s [] w new ok are same stands fit lives h = subst (λ (z : World). ClientsInOrder z) same h
events-heard s (e ∷ es) w new ok are (mid, one, rest) stands fit lives h =
    events-heard s es mid new ok (λ i x at. are (suc i) x at) rest (event-stands s w mid e ok one stands) (event-servers s w mid e ok (are 0 e refl) stands one fit) (event-lives w mid e one lives)
    (event-heard w mid e lives (hears-sent w stands.streams fit.sent) one h)

pub run-heard : (s : Setting) (es : List Event) (stopped : Option Event) (w : World) → IsSetting s → AreEvents es → Runs s es stopped w → ClientsInOrder w
run-heard s es stopped w ok are (mid, folds, stops) =
    heard-grown mid w (stops-grown mid stopped w stops)
    (events-heard s es (opening s) mid ok are folds (opening-stands s ok) (opening-servers s ok) (opening-lives s) (λ n c at. absurd (none_at n c at)))

-- ---- in the words of the statement

are-steps : {A B C : Type 0} (steps : List Step) (came : List A) (sent : List B) (log : List C) → InOrder steps (length came) (length sent) (length log) → AreSteps steps came sent log
are-steps steps came sent log o = record { one_each = o.one_each; within = o.within; rise = o.rise }

-- the logs that a circuit joins
logs-of : (s : Setting) (w : World) → Stands s w → HaveLives w → (n : ℕ) (j : Joined) → At w.circuits n j → (x : List Line) × (y : List Entry) × At w.client_logs j.lists.client x × At w.server_logs j.lists.server y
logs-of s w stands lives n j at =
    let y = stands.sound.within n j at in
    elim (At-or w.client_logs j.lists.client) [
      | inl x ↦ (x.0, y.0, x.1, y.1)
      | inr past ↦ absurd (let lt : j.lists.client < length w.client_logs = lives.joined n j at in omega (arith, lt, past))
    ]

log-is : {A : Type 0} (logs : List (List A)) (l : ℕ) (x : List A) → At logs l x → log_length l logs ≡ length x
log-is {A} logs l x at = ap (λ (o : Option (List A)). length (unwrap_or o [])) at

served-words : (w : World) (j : Joined) (y : List Entry) → At w.server_logs j.lists.server y → InOrder j.lists.handled (length j.lists.up) (length j.lists.down) (log_length j.lists.server w.server_logs) → AreSteps j.lists.handled j.lists.up j.lists.down y
served-words w j y at o = are-steps j.lists.handled j.lists.up j.lists.down y (subst (λ (n : ℕ). InOrder j.lists.handled (length j.lists.up) (length j.lists.down) n) (log-is w.server_logs j.lists.server y at) o)

heard-words : (w : World) (j : Joined) (x : List Line) → At w.client_logs j.lists.client x → InOrder j.lists.heard (length j.lists.down) (length j.lists.up) (log_length j.lists.client w.client_logs) → AreSteps j.lists.heard j.lists.down j.lists.up x
heard-words w j x at o = are-steps j.lists.heard j.lists.down j.lists.up x (subst (λ (n : ℕ). InOrder j.lists.heard (length j.lists.down) (length j.lists.up) n) (log-is w.client_logs j.lists.client x at) o)

pub run-server-steps : (s : Setting) (es : List Event) (stopped : Option Event) (w : World) → IsSetting s → Runs s es stopped w → ServerStepsAre w
run-server-steps s es stopped w ok runs n d at =
    let j = At-mapped circuit_of w.circuits n d at in
    let l = logs-of s w (runs-stand s es stopped w ok runs) (run-lives s es stopped w runs) n j.0 j.1 in
    subst (λ (c : Circuit). (x : List Line) × (y : List Entry) × Joins (told w) n c x y × AreSteps c.handled c.up c.down y) (sym j.2)
    (l.0, l.1, (At-map circuit_of w.circuits n j.0 j.1, l.2, l.3), served-words w j.0 l.1 l.3 (run-served s es stopped w ok runs n j.0 j.1))

pub run-steps : (s : Setting) (es : List Event) (stopped : Option Event) (w : World) → IsSetting s → AreEvents es → Runs s es stopped w → StepsAre w
run-steps s es stopped w ok are runs n d at =
    let j = At-mapped circuit_of w.circuits n d at in
    let l = logs-of s w (runs-stand s es stopped w ok runs) (run-lives s es stopped w runs) n j.0 j.1 in
    subst (λ (c : Circuit). (x : List Line) × (y : List Entry) × Joins (told w) n c x y × (AreSteps c.handled c.up c.down y × AreSteps c.heard c.down c.up x)) (sym j.2)
    (l.0, l.1, (At-map circuit_of w.circuits n j.0 j.1, l.2, l.3), (served-words w j.0 l.1 l.3 (run-served s es stopped w ok runs n j.0 j.1), heard-words w j.0 l.0 l.2 (run-heard s es stopped w ok are runs n j.0 j.1)))
