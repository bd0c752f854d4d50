-- Each channel that a server created was created for the record that it had then under the name,
-- and before the next message was handled.
use Rattle.std.proofs.Common.{◌≡◌, ℕ, ◌+◌, ◌<◌, ◌≤◌, ◌⊎◌, inl, inr, List, [], ◌∷◌, ◌++◌, length, Option, Some, None, refl, sym, ap, subst, ◌∙◌, arith}
use Rattle.std.specs.Prelude.{option_map, slice_set, take, unwrap_or}
use Rattle.std.specs.List.{FoldsTo}
use Rattle.ca_link.specs.Link.{with_rest}
use Rattle.ca_records.specs.Record.{RecordState}
use Rattle.ca_text.specs.Place.{At}
use Rattle.ca_text.proofs.Places.{At-append, At-last, At-map, At-mapped, At-one, At-parts, At-snoc, At-within}
use Rattle.ca_wire.specs.Fields.{Fields}
use Rattle.ca_model.specs.Answers.{Closing}
use Rattle.ca_model.specs.Due.{Due, IsCreated}
use Rattle.ca_model.specs.History.{Circuit, Entry, Reply, Sent, Step, Told}
use Rattle.ca_model.specs.Server.{ServerEnd}
use Rattle.ca_model.specs.ServerSteps.{Stepped, knows}
use Rattle.ca_model.specs.Speech.{Cid, Creates, Gives, name_in}
use Rattle.ca_model.specs.Channels.{Has}
use Rattle.ca_model.specs.ClientEvents.{HappensAccept, WantsFirst, connected_as, new_circuit}
use Rattle.ca_model.specs.Events.{Event}
use Rattle.ca_model.specs.Events as event
use Rattle.ca_model.specs.Runs.{Happens, Runs, StopsAt, clients_below}
use Rattle.ca_model.specs.ServerEvents.{ServerStepped, StepHandles, about, ending, ends_by, handled_at, numbers_after, server_closed, write_numbers}
use Rattle.ca_model.specs.World.{ClientSide, IsSetting, Joined, ServerSide, Setting, World, opening, with_circuit}
use Rattle.ca_laws_parts.proofs.Handled.{numbers-like, writes-like}
use Rattle.ca_laws_parts.specs.Lives.{IsPutOf}
use Rattle.ca_laws_parts.specs.Moves.{Lives}
use Rattle.ca_laws_parts.proofs.WritesEvents.{found}
use Rattle.ca_laws_parts.proofs.Every.{ticks-frame}
use Rattle.ca_laws_parts.proofs.Frames.{Frame}
use Rattle.ca_laws_parts.proofs.HappensClient.{sent-frame}
use Rattle.ca_laws_parts.proofs.WritesLists.{length-more, none_at, take-front, take-whole}
use Rattle.ca_laws_parts.proofs.Midway.{set-here}
use Rattle.ca_laws_parts.proofs.WritesMoves.{same-or}
use Rattle.ca_laws_parts.proofs.Says.{Grew, logs-stay}
use Rattle.ca_laws_parts.proofs.Step.{known-one}
use Rattle.ca_laws_parts.proofs.InStepLasts.{world-numbered}
use Rattle.ca_laws_runs.specs.Worlds.{ServersStand}
use Rattle.ca_laws_runs.proofs.CauseKeeps.{handled-or}
use Rattle.ca_laws_runs.proofs.Created.{due-creates}
use Rattle.ca_laws_runs.proofs.Handled as done
use Rattle.ca_laws_runs.proofs.SidTells.{IsQuietEvent, KeepsOn, back-frame, event-back, step-beside, unhandled-back}
use Rattle.ca_laws_runs.proofs.StepWhole.{event-serves, opening-serves, run-serves, takes-next}
use Rattle.ca_laws_runs.proofs.Acting.{IsLonger, longer-taken}
use Rattle.ca_laws_runs.proofs.Known.{longer-le}
use Rattle.ca_laws_runs.proofs.FollowsWhole.{LogsGrow, LogsThere, leaves-grew, logs-grow, logs-there}

-- The reply at place j created a channel: the server had a record under the name in its
-- CREATE_CHAN, when it handled that, the reply has its CID, and was sent before the next message
-- was handled.
pub record IsMade (log : List Entry) (c : Circuit) (j : ℕ) (t : Told) : Type 0 where
  pub s : Sent
  pub sent : At c.up t.place s
  pub h : Step
  pub handled : At c.handled t.place h
  pub within : h.logged ≤ length log
  pub r : ℕ
  pub has : Has (take h.logged log) r (name_in s.message)
  pub gives : Gives s.message (Cid t.message.p1)
  pub next : (l : ℕ) (g : Step) → t.place < l → At c.handled l g → j < g.sent

-- So it is of each on a circuit, and on all circuits.
abbrev pub AreMade : List Entry → Circuit → Type 0
AreMade log c = (j sid : ℕ) (t : Told) → At c.down j t → t.cause ≡ Reply → Creates t.message sid → IsMade log c j t

abbrev pub AllMade : World → Type 0
AllMade w = (n : ℕ) (c : Joined) (log : List Entry) → At w.circuits n c → At w.server_logs c.lists.server log → AreMade log c.lists

-- ---- circuits go on

made-on : (log lg : List Entry) (c d : Joined) → IsLonger log lg → KeepsOn c d → AreMade log c.lists → AreMade lg d.lists
made-on log lg c d longer k all j sid t at reply creates = record {
  s = m.s;
  sent = k.up t.place m.s m.sent;
  h = m.h;
  handled = subst (λ (l : List Step). At l t.place m.h) (sym k.handled) m.handled;
  within = (let le : (m.h).logged ≤ length log = m.within in let more : length log ≤ length lg = longer-le log lg longer in omega (arith, le, more));
  r = m.r;
  has = subst (λ (l : List Entry). Has l m.r (name_in (m.s).message)) (sym (longer-taken (m.h).logged log lg longer m.within)) m.has;
  gives = m.gives;
  next = λ l g lt there. m.next l g lt (subst (λ (x : List Step). At x l g) k.handled there);
}
  where
    m : IsMade log c.lists j t
    m = all j sid t (k.creates j t at reply (inl creates.0)) reply creates

made-none : (log : List Entry) (c : Circuit) → c.down ≡ [] → AreMade log c
made-none log c none j sid t at reply creates = absurd (none_at j t (subst (λ (l : List Told). At l j t) none at))

-- each circuit joins the life that it joined, or the server told nothing there
abbrev LivesBack : (w new : World) → Type 0
LivesBack w new = (l : ℕ) (d : Joined) → At new.circuits l d → ((c : Joined) × At w.circuits l c × (d.lists.server ≡ c.lists.server)) ⊎ (d.lists.down ≡ [])

abbrev OnBack : (w new : World) → Type 0
OnBack w new = (l : ℕ) (d : Joined) → At new.circuits l d → ((c : Joined) × At w.circuits l c × KeepsOn c d) ⊎ (d.lists.down ≡ [])

-- what is known of one circuit, from the one that it was
made-from : (w new : World) (l : ℕ) (c d : Joined) → At w.circuits l c → d.lists.server ≡ c.lists.server → LogsGrow w new → LogsThere w
    → ((log : List Entry) → At w.server_logs c.lists.server log → (lg : List Entry) → IsLonger log lg → AreMade lg d.lists) → (lg : List Entry) → At new.server_logs d.lists.server lg → AreMade lg d.lists
made-from w new l c d at life logs there law lg logged =
    let log = there l c at in
    let more = logs c.lists.server log.0 log.1 in
    let is : lg ≡ log.0 ++ more.0 = At-one new.server_logs d.lists.server lg (log.0 ++ more.0) logged (subst (λ (x : ℕ). At new.server_logs x (log.0 ++ more.0)) (sym life) more.1) in
    law log.0 log.1 lg (more.0, is)

one-life : (w new : World) (l : ℕ) (c d : Joined) → LivesBack w new → At w.circuits l c → At new.circuits l d → (d.lists.server ≡ c.lists.server) ⊎ (d.lists.down ≡ [])
one-life w new l c d lives at there = elim (lives l d there) [
  | inl b ↦ inl (b.2 ∙ ap (λ (z : Joined). z.lists.server) (At-one w.circuits l b.0 c b.1 at))
  | inr none ↦ inr none
]

made-back : (w new : World) → OnBack w new → LivesBack w new → LogsGrow w new → LogsThere w → AllMade w → AllMade new
made-back w new back lives logs there all l d lg at logged = elim (back l d at) [
  | inr none ↦ made-none lg d.lists none
  | inl c ↦ elim (one-life w new l c.0 d lives c.1 at) [
    | inr none ↦ made-none lg d.lists none
    | inl life ↦ made-from w new l c.0 d c.1 life logs there (λ log own longer_log longer. made-on log longer_log c.0 d longer c.2 (all l c.0 log c.1 own)) lg logged
  ]
]

-- ---- a message is handled

module _ (w new : World) (k : ℕ) (j : Joined) (y : ServerSide) (f : StepHandles w k j y new) (on : At w.circuits k j) where
  did-at : (d : Joined) → At new.circuits k d → d ≡ handled_at (done.place w new k j y f) (done.step w new k j y f) (f.steps.0).replies (done.last w new k j y f)
  did-at d at =
      let there : At (done.after w new k j y f).circuits k (done.last w new k j y f) =
      At-map (ending (ends_by j.server f.core)) (done.mid w new k j y f).circuits k (done.moved w new k j y f)
      (At-map (write_numbers j.server y.core (f.steps.0).action) (slice_set w.circuits k (numbers_after (length j.lists.handled) (f.steps.0).action j)) k (numbers_after (length j.lists.handled) (f.steps.0).action j) (set-here w.circuits k j (numbers_after (length j.lists.handled) (f.steps.0).action j) on)) in
      let noted : Joined = handled_at (done.place w new k j y f) (done.step w new k j y f) (f.steps.0).replies (done.last w new k j y f) in
      let new_is : new ≡ with_circuit k noted (done.after w new k j y f) = f.leaves ∙ ap (λ (o : Option Joined). unwrap_or (option_map (λ (c : Joined). with_circuit k (handled_at (done.place w new k j y f) (done.step w new k j y f) (f.steps.0).replies c) (done.after w new k j y f)) o) (done.after w new k j y f)) there in
      At-one (slice_set (done.after w new k j y f).circuits k noted) k d noted (subst (λ (v : World). At v.circuits k d) new_is at) (set-here (done.after w new k j y f).circuits k (done.last w new k j y f) noted there)

  ended-lists : (ends : Joined → Option (List ℕ)) (c : Joined) → ((ending ends c).lists.up ≡ c.lists.up) × ((ending ends c).lists.down ≡ c.lists.down) × ((ending ends c).lists.handled ≡ c.lists.handled) × ((ending ends c).lists.server ≡ c.lists.server)
  ended-lists ends c = go (ends c)
    where
      go : (o : Option (List ℕ)) → let z : Joined = unwrap_or (option_map (λ (left : List ℕ). server_closed left c) o) c in (z.lists.up ≡ c.lists.up) × (z.lists.down ≡ c.lists.down) × (z.lists.handled ≡ c.lists.handled) × (z.lists.server ≡ c.lists.server)
      go None = (refl, refl, refl, refl)
      go (Some left) = (refl, refl, refl, refl)

  did-lists : (d : Joined) → At new.circuits k d
      → (d.lists.up ≡ j.lists.up) × (d.lists.down ≡ j.lists.down ++ about (length j.lists.handled) Reply (f.steps.0).replies) × (d.lists.handled ≡ j.lists.handled ++ done.step w new k j y f ∷ []) × (d.lists.server ≡ j.lists.server)
  did-lists d at =
      let is = did-at d at in
      let e = ended-lists (ends_by j.server f.core) (done.moved w new k j y f) in
      let same : (done.moved w new k j y f).lists ≡ j.lists =
      (writes-like j.server y.core (f.steps.0).action (numbers_after (length j.lists.handled) (f.steps.0).action j)).0 ∙ (numbers-like (length j.lists.handled) (f.steps.0).action j).0 in (
        ap (λ (z : Joined). z.lists.up) is ∙ e.0 ∙ ap (λ (z : Circuit). z.up) same,
        ap (λ (z : Joined). z.lists.down) is ∙ ap (λ (l : List Told). l ++ about (length j.lists.handled) Reply (f.steps.0).replies) (e.1 ∙ ap (λ (z : Circuit). z.down) same),
        ap (λ (z : Joined). z.lists.handled) is ∙ ap (λ (l : List Step). l ++ done.step w new k j y f ∷ []) (e.2 ∙ ap (λ (z : Circuit). z.handled) same),
        ap (λ (z : Joined). z.lists.server) is ∙ e.3 ∙ ap (λ (z : Circuit). z.server) same,
      )

  made-own : (log lg : List Entry) (d : Joined) → At w.server_logs y.life log → Lives w j.server y → (s : Sent) → At j.lists.up (length j.lists.handled) s → s.message ≡ (f.steps.0).m → IsLonger log lg → At new.circuits k d → AreMade log j.lists → AreMade lg d.lists
  made-own log lg d own lives s at_s message longer at all i sid t there reply creates = elim (At-parts j.lists.down (about place Reply (f.steps.0).replies) i t (subst (λ (l : List Told). At l i t) lists.1 there)) [
    | inl old ↦
        let m = all i sid t old reply creates in
        record {
          s = m.s;
          sent = subst (λ (l : List Sent). At l t.place m.s) (sym lists.0) m.sent;
          h = m.h;
          handled = subst (λ (l : List Step). At l t.place m.h) (sym lists.2) (At-append j.lists.handled (step ∷ []) t.place m.h m.handled);
          within = (let le : (m.h).logged ≤ length log = m.within in let more : length log ≤ length lg = longer-le log lg longer in omega (arith, le, more));
          r = m.r;
          has = subst (λ (l : List Entry). Has l m.r (name_in (m.s).message)) (sym (longer-taken (m.h).logged log lg longer m.within)) m.has;
          gives = m.gives;
          next = λ l g lt in_it. elim (At-snoc j.lists.handled step l g (subst (λ (x : List Step). At x l g) lists.2 in_it)) [
            | inl was ↦ m.next l g lt was
            | inr last ↦ (let e : g.sent ≡ length j.lists.down = ap (λ (x : Step). x.sent) last.1 in let below : i < length j.lists.down = At-within j.lists.down i t old in omega (arith, e, below))
          ];
        }
    | inr new_it ↦
        let r = At-mapped (λ (m : Fields). let z : Told = record { message = m; place = place; cause = Reply } in z) (f.steps.0).replies new_it.0 t new_it.2 in
        let made = due-creates (knows y.core taken) s.message (f.steps.0).replies (f.steps.0).action due new_it.0 r.0 r.1 (subst (λ (z : Told). Creates z.message sid) r.2 creates).0 in
        let is : t.place ≡ place = ap (λ (z : Told). z.place) r.2 in
        record {
          s = s;
          sent = subst (λ (v : List Sent × ℕ). At v.0 v.1 s) (λ x. (sym lists.0 x, sym is x)) at_s;
          h = step;
          handled = subst (λ (v : List Step × ℕ). At v.0 v.1 step) (λ x. (sym lists.2 x, sym is x)) (At-last j.lists.handled step);
          within = (let more : length log ≤ length lg = longer-le log lg longer in let e : step.logged ≡ length log = logged in omega (arith, e, more));
          r = (fit made.1).0;
          has = subst (λ (l : List Entry). Has l (fit made.1).0 (name_in s.message)) (sym here) (fit made.1).1;
          gives = (made.0, sym (ap (λ (z : Told). z.message.p1) r.2 ∙ made.4));
          next = λ l g lt in_it. absurd (let within : l < length (j.lists.handled ++ step ∷ []) = At-within (j.lists.handled ++ step ∷ []) l g (subst (λ (x : List Step). At x l g) lists.2 in_it) in let e : length (j.lists.handled ++ step ∷ []) ≡ place + 1 = more-steps in omega (arith, lt, within, e, is));
        }
  ]
    where
      place : ℕ
      place = length j.lists.handled

      step : Step
      step = done.step w new k j y f

      taken : ServerEnd
      taken = record f.e { link = with_rest (f.steps.0).rest f.e.link }

      lists : (d.lists.up ≡ j.lists.up) × (d.lists.down ≡ j.lists.down ++ about (length j.lists.handled) Reply (f.steps.0).replies) × (d.lists.handled ≡ j.lists.handled ++ done.step w new k j y f ∷ []) × (d.lists.server ≡ j.lists.server)
      lists = did-lists d at

      due : Due (knows y.core taken) s.message (f.steps.0).replies (f.steps.0).action
      due = subst (λ (m : Fields). Due (knows y.core taken) m (f.steps.0).replies (f.steps.0).action) (sym message) (f.steps.0).handles.due

      logged : step.logged ≡ length log
      logged = ap (λ (o : Option (List Entry)). length (unwrap_or o [])) own

      more-steps : length (j.lists.handled ++ step ∷ []) ≡ place + 1
      more-steps = length-more j.lists.handled step

      -- the log as it was when the message was handled
      here : take step.logged lg ≡ log
      here = ap (λ (n : ℕ). take n lg) logged ∙ ap (λ (l : List Entry). take (length log) l) longer.1 ∙ take-front (length log) log longer.0 (omega arith) ∙ take-whole log

      fit : IsCreated (knows y.core taken) s.message (f.steps.0).replies (f.steps.0).action → (r : ℕ) × Has log r (name_in s.message)
      fit made =
          let c = known-one y.core.records (name_in s.message) made.known made.named in
          let g = found (IsPutOf w.circuits j.server) lives.log y.core.records y.records (name_in s.message) c.0 lives.life.each c.1 in
          let log_is : lives.log ≡ log = At-one w.server_logs y.life lives.log log lives.at own in
          subst (λ (l : List Entry). (r : ℕ) × Has l r (name_in s.message)) log_is
          ((g.r).number, (g.agrees.first, g.agrees.added, sym (ap (λ (z : RecordState). z.name) g.agrees.state) ∙ g.agrees.name ∙ g.named, g.agrees.there))

-- ---- every event

grew-lives : (w new : World) → (new ≡ w) ⊎ Grew w new → LivesBack w new
grew-lives w new (inl same) l d at = inl (d, subst (λ (z : World). At z.circuits l d) same at, refl)
grew-lives w new (inr grew) l d at = elim (grew.back l d at) [
  | inl went ↦ inl (went.c, went.at, went.later.life)
  | inr none ↦ inr none
]

accept-on : (w new : World) (i : ℕ) (x : ClientSide) (v : WantsFirst w x) → HappensAccept w i x v new → OnBack w new
accept-on w new i x v f l d at = elim f.leaves [
  | inl full ↦ (let there : At w.circuits l d = subst (λ (z : World). At z.circuits l d) full.1 at in inl (d, there, record { up = λ p s q. q; told = λ p t q. q; creates = λ p t q a b. q; handled = refl; opened = λ o. (o, refl) }))
  | inr made ↦
      let c : Joined = connected_as made.1 (new_circuit i x v.v.circuit v.i v.y made.0) in
      let mid : World = record w { servers = slice_set w.servers v.i (record v.y { core = f.server }); circuits = w.circuits ++ c ∷ [] } in
      let g : Frame mid new = sent-frame mid new i x.names made.2 (ap (λ (z : World). z.servers) made.6) (ap (λ (z : World). z.server_logs) made.6) (ap (λ (z : World). z.circuits) made.6) in
      let b = back-frame mid new g l d at in
      elim (At-snoc w.circuits c l b.0 b.1) [
        | inl old ↦ inl (b.0, old, b.2)
        | inr last ↦ inr ((g.back l d at).2.down ∙ ap (λ (z : Joined). z.lists.down) (same-back l d at g b.0 b.1 ∙ last.1) ∙ nothing made.1 made.0)
      ]
]
  where
    nothing : (o : Option Closing) (g : _) → (connected_as o (new_circuit i x v.v.circuit v.i v.y g)).lists.down ≡ []
    nothing None g = refl
    nothing (Some k) g = refl

    same-back : {mid : World} (l : ℕ) (d : Joined) (at : At new.circuits l d) (g : Frame mid new) (c : Joined) → At mid.circuits l c → (g.back l d at).0 ≡ c
    same-back {mid} l d at g c there = At-one mid.circuits l (g.back l d at).0 c (g.back l d at).1 there

step-made : (s : Setting) (w new : World) (k : ℕ) → ServersStand s w → (happens : Happens w (event.ServerStep k) new) → LivesBack w new → LogsGrow w new → AllMade w → AllMade new
step-made s w new k h (at, (did, f)) lives logs all = elim (handled-or did) [
  | inl is ↦ handled (subst (λ (x : Stepped). ServerStepped w k at.j at.y x new) is f)
  | inr not ↦ made-back w new (λ l d there. inl (unhandled-back w new k at.j at.y did at.joins.at not f l d there)) lives logs (logs-there s w h.stands.sound) all
]
  where
    joins : (at.j).lists.server ≡ (at.y).life
    joins = (let seat = h.stands.sound.seated.each k at.j at.joins.at at.is_open in seat.joins ∙ ap (λ (z : ServerSide). z.life) (At-one w.servers (at.j).server seat.y at.y seat.at at.joins.server))

    handled : StepHandles w k at.j at.y new → AllMade new
    handled g l d lg there logged = elim (same-or l k) [
      | inr other ↦
          let c = step-beside w new k at.j at.y g l d other there in
          elim (one-life w new l c.0 d lives c.1 there) [
            | inr none ↦ made-none lg d.lists none
            | inl life ↦ made-from w new l c.0 d c.1 life logs (logs-there s w h.stands.sound) (λ log own longer_log longer. made-on log longer_log c.0 d longer c.2 (all l c.0 log c.1 own)) lg logged
          ]
      | inl here ↦
          let next = g.steps.0 in
          let sent = takes-next s w h k at.j at.y g.e next.m next.rest at.joins.at at.joins.server at.is_open g.has next.takes in
          let there_k : At new.circuits k d = subst (λ (m : ℕ). At new.circuits m d) here there in
          let lists = did-lists w new k at.j at.y g at.joins.at d there_k in
          made-from w new k at.j d at.joins.at lists.3 logs (logs-there s w h.stands.sound)
          (λ log own longer_log longer.
          made-own w new k at.j at.y g at.joins.at log longer_log d (subst (λ (n : ℕ). At w.server_logs n log) joins own) (h.stands.sound.writes.lives (at.j).server at.y at.joins.server) sent.0 sent.1 sent.2 longer there_k
          (all k at.j log at.joins.at own)) lg logged
    ]

pub event-made : (s : Setting) (w new : World) (e : Event) → ServersStand s w → Happens w e new → AllMade w → AllMade new
event-made s w new e h happens all = go e happens
  where
    lives : (e : Event) → Happens w e new → LivesBack w new
    lives e happens = grew-lives w new (leaves-grew s w new e (takes-next s w h) (world-numbered w h.in_step) happens.0 happens.1 h.stands.sound)

    logs : (e : Event) → Happens w e new → LogsGrow w new
    logs e happens = logs-grow s w new e (takes-next s w h) (world-numbered w h.in_step) happens h.stands.sound

    other : (e : Event) → IsQuietEvent e → Happens w e new → AllMade new
    other e quiet happens = made-back w new (λ l d at. inl (event-back w new e quiet h.in_step happens l d at)) (lives e happens) (logs e happens) (logs-there s w h.stands.sound) all

    go : (e : Event) → Happens w e new → AllMade new
    go (event.Accept i) happens = made-back w new (accept-on w new i happens.0.x happens.0.v happens.1) (lives (event.Accept i) happens) (logs (event.Accept i) happens) (logs-there s w h.stands.sound) all
    go (event.ServerStep k) happens = step-made s w new k h happens (lives (event.ServerStep k) happens) (logs (event.ServerStep k) happens) all
    go (event.Open i name priority) happens = other (event.Open i name priority) tt happens
    go (event.Clear i c) happens = other (event.Clear i c) tt happens
    go (event.Read i c data_type count) happens = other (event.Read i c data_type count) tt happens
    go (event.Write i c e) happens = other (event.Write i c e) tt happens
    go (event.WriteNotify i c e) happens = other (event.WriteNotify i c e) tt happens
    go (event.Subscribe i c data_type count mask) happens = other (event.Subscribe i c data_type count mask) tt happens
    go (event.Unsubscribe i n) happens = other (event.Unsubscribe i n) tt happens
    go (event.Collect i r) happens = other (event.Collect i r) tt happens
    go (event.GiveUp i r) happens = other (event.GiveUp i r) tt happens
    go (event.ClientDatagram i from bytes) happens = other (event.ClientDatagram i from bytes) tt happens
    go (event.ServerDatagram i from bytes) happens = other (event.ServerDatagram i from bytes) tt happens
    go (event.Up k n) happens = other (event.Up k n) tt happens
    go (event.Down k n) happens = other (event.Down k n) tt happens
    go (event.ClientStep k) happens = other (event.ClientStep k) tt happens
    go (event.Pump k) happens = other (event.Pump k) tt happens
    go (event.CutClient k) happens = other (event.CutClient k) tt happens
    go (event.CutServer k) happens = other (event.CutServer k) tt happens
    go (event.ClientRestart i) happens = other (event.ClientRestart i) tt happens
    go (event.ServerRestart i) happens = other (event.ServerRestart i) tt happens
    go (event.Post i name e mask) happens = other (event.Post i name e mask) tt happens
    go (event.Finish i name) happens = other (event.Finish i name) tt happens
    go (event.Remove i name) happens = other (event.Remove i name) tt happens
    go (event.Add i r) happens = other (event.Add i r) tt happens
    go (event.Tick moment) happens = other (event.Tick moment) tt happens

-- ---- every run

frame-made : (s : Setting) (w new : World) → ServersStand s w → Frame w new → AllMade w → AllMade new
frame-made s w new h g all =
    made-back w new (λ l d at. inl (back-frame w new g l d at)) (λ l d at. (let b = g.back l d at in inl (b.0, b.1, b.2.later.life))) (logs-stay w new g.logs) (logs-there s w h.stands.sound) all

events-made : (s : Setting) (es : List Event) (w new : World) → IsSetting s → FoldsTo Happens w es new → ServersStand s w → AllMade w → AllMade new
events-made s [] w new ok same h all = subst (λ (z : World). AllMade z) same all
events-made s (e ∷ es) w new ok (mid, one, rest) h all = events-made s es mid new ok rest (event-serves s w mid e ok one h) (event-made s w mid e h one all)

stops-made : (s : Setting) (mid : World) (stopped : Option Event) (w : World) → ServersStand s mid → StopsAt mid stopped w → AllMade mid → AllMade w
stops-made s mid (Some (event.Tick moment)) w h stops all = elim stops [
  | inl same ↦ subst (λ (z : World). AllMade z) (sym same) all
  | inr ticked ↦ frame-made s mid w h (ticks-frame moment mid (clients_below ticked.0) w ticked.3) all
]
stops-made s mid stopped w h stops all = subst (λ (z : World). AllMade z) (sym stops) all

pub run-made : (s : Setting) (es : List Event) (stopped : Option Event) (w : World) → IsSetting s → Runs s es stopped w → AllMade w
run-made s es stopped w ok (mid, folds, stops) =
    stops-made s mid stopped w (run-serves s es None mid ok (mid, folds, refl)) stops (events-made s es (opening s) mid ok folds (opening-serves s ok) (λ n c log at. absurd (none_at n c at)))
