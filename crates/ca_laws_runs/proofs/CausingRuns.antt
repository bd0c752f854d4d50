-- Each message of a server has its cause, over every event and run.
use Rattle.std.proofs.Common.{◌≡◌, ℕ, ◌≤◌, inl, inr, Bool, true, List, [], ◌∷◌, ◌++◌, length, Option, Some, None, refl, sym, ap, subst, ◌∙◌, arith}
use Rattle.std.specs.Prelude.{Ok, Err, Result, filter, not, option_map, slice_get, slice_set, unwrap_or}
use Rattle.std.specs.List.{FoldsTo}
use Rattle.std.specs.Str.{bytes_eq}
use Rattle.ca_arena.specs.declared.handle.Handle.{Handle}
use Rattle.ca_dbr.specs.Elements.{Elements}
use Rattle.ca_display.specs.declared.image_type.ImageType.{ImageType}
use Rattle.ca_link.specs.Link.{with_rest}
use Rattle.ca_records.specs.Puts.{Record, record_named}
use Rattle.ca_text.specs.declared.command.Command.TheVariants as command
use Rattle.ca_text.specs.declared.refusal.Refusal.{Refusal}
use Rattle.ca_text.specs.Place.{At}
use Rattle.ca_text.proofs.Places.{At-last, At-mapped, At-one, At-set, At-snoc}
use Rattle.ca_wire.specs.declared.requests.Wanted.{Wanted}
use Rattle.ca_wire.specs.Fields.{Fields}
use Rattle.ca_model.specs.Answers.{Closing}
use Rattle.ca_model.specs.Due.{Due}
use Rattle.ca_model.specs.History.{Cause, Circuit, Entry, On, Removal, Reply, Sent, Step, Subscribe, Told, Update}
use Rattle.ca_model.specs.History as history
use Rattle.ca_model.specs.Images.{shown_in}
use Rattle.ca_model.specs.Server.{Server, ServerEnd}
use Rattle.ca_model.specs.ServerSteps.{Stepped, knows}
use Rattle.ca_model.specs.Speech.{Creates, In, Is, Stored}
use Rattle.ca_model.specs.Updates.{Shows, ShowsTo, update_count, update_in}
use Rattle.ca_model.specs.Channels.{Has, Suits}
use Rattle.ca_model.specs.Causes.{Accepted, HasCause}
use Rattle.ca_model.specs.ClientEvents.{HappensAccept, WantsFirst, connected_as, new_circuit}
use Rattle.ca_model.specs.Events.{Event}
use Rattle.ca_model.specs.Events as event
use Rattle.ca_model.specs.Runs.{Happens, Runs, StopsAt, clients_below}
use Rattle.ca_model.specs.ServerEvents.{HappensFinish, HappensRemove, ServerStepped, StepHandles, about, acted, ends_by, handled_at, server_after, side_of}
use Rattle.ca_model.specs.ServerEvents as server
use Rattle.ca_model.specs.World.{ClientSide, IsSetting, Joined, RecordSide, ServerSide, Setting, Standing, World, circuit_of, opening, with_circuit}
use Rattle.ca_laws_runs.proofs.CauseGrows as places
use Rattle.ca_laws_runs.proofs.CauseKeeps.{handled-or, run-after}
use Rattle.ca_laws_runs.proofs.Created.{reached-created}
use Rattle.ca_laws_runs.proofs.Creations.{reached-creations}
use Rattle.ca_laws_runs.proofs.OrderKeeps.{run-server-steps}
use Rattle.ca_laws_runs.proofs.StepWhole.{run-serves, takes-next}
use Rattle.ca_laws_parts.specs.Lives.{IsPutOf}
use Rattle.ca_laws_parts.specs.Moves.{removal_told}
use Rattle.ca_laws_parts.proofs.WritesEvents.{Found, found}
use Rattle.ca_laws_parts.proofs.Every.{ticks-frame}
use Rattle.ca_laws_parts.proofs.Frames.{Frame}
use Rattle.ca_laws_parts.proofs.HappensClient.{sent-frame}
use Rattle.ca_laws_parts.proofs.InStepLasts.{world-numbered}
use Rattle.ca_laws_parts.proofs.WritesLists.{none_at}
use Rattle.ca_laws_parts.proofs.WritesMoves.{same-or}
use Rattle.ca_laws_parts.proofs.Says.{logs-stay}
use Rattle.ca_laws_runs.specs.Causing.{AllSources, IsTaken, MessagesAreCaused, SourcesOn}
use Rattle.ca_laws_runs.specs.Sent.{SentOn}
use Rattle.ca_laws_runs.proofs.Acting.{IsLonger}
use Rattle.ca_laws_runs.proofs.CausingEvents.{Nothing-new, Ready, back-sources, finish-causes, pump-causes, remove-causes, steady-of, still-causes}
use Rattle.ca_laws_runs.proofs.CausingFrame.{IsStill, News, Onward, RemoveNews, StepNews, back-frame, finish-back, pump-back, removed-back, step-back, still-back, unhandled-back}
use Rattle.ca_laws_runs.proofs.CausingKeeps.{IsCausedBy, Steady, sources-on}
use Rattle.ca_laws_runs.proofs.CausingStep.{made-here, taken-here}
use Rattle.ca_laws_runs.proofs.FollowsWhole.{LogsGrow, folds-snoc, logs-grow, logs-there, run-stand}

pub ready : (s : Setting) (es : List Event) (stopped : Option Event) (w : World) → IsSetting s → Runs s es stopped w → Ready s w
ready s es stopped w ok runs = record {
  serves = run-serves s es stopped w ok runs;
  stand = run-stand s es stopped w ok runs;
  creations = reached-creations w (s, es, stopped, ok, runs);
  created = reached-created w (s, es, stopped, ok, runs);
  after = run-after s es stopped w ok runs;
  steps = run-server-steps s es stopped w ok runs;
}

-- ---- only replies create channels

update-is : (x : Wanted) (v : Stored) (t : ImageType) (r : Result Elements Refusal) → (update_in x v t r).command ≡ 1
update-is x v t (Ok e) = refl
update-is x v t (Err r) = refl

shows-to : (x : Wanted) (v : Stored) (m : Fields) → ShowsTo x v m → m.command ≡ 1
shows-to x v m (t, typed, is) = ap (λ (z : Fields). z.command) is ∙ update-is x v t (shown_in v.value (update_count x v) t)

shows-command : (add : Fields) (v : Stored) (m : Fields) → Shows add v m → m.command ≡ 1
shows-command add v m shows = shows-to (record { sid = add.p1; id = add.p2; data_type = add.data_type; count = add.count }) v m shows

creates-reply : (log : List Entry) (c : Joined) → SourcesOn log c → SentOn log c → (i sid : ℕ) (t : Told) → At c.lists.down i t → Creates t.message sid → t.cause ≡ Reply
creates-reply log c p q i sid t at creates = go t.cause refl
  where
    go : (b : Cause) → t.cause ≡ b → t.cause ≡ Reply
    go Reply is = is
    go Removal is =
        let cause = p.removals i t at is in
        let a : t.message.command ≡ 27 = cause.9.0 in
        let b : t.message.command ≡ 18 = creates.0 in
        absurd (omega (arith, a, b))
    go (Update n) is =
        let taken = p.updates i n t at is in
        let seen = q.shown i n t at is in
        let v = seen.shows taken.r taken.acted in
        let a : t.message.command ≡ 1 = shows-command seen.s.message v.0 t.message v.2 in
        let b : t.message.command ≡ 18 = creates.0 in
        absurd (omega (arith, a, b))

-- ---- a message is handled

module _ (s : Setting) (w new : World) (k : ℕ) (j : Joined) (y : ServerSide) (on : At w.circuits k j) (at_y : At w.servers j.server y) (opened : j.lists.server_open ≡ true) (f : StepHandles w k j y new) (ready : Ready s w) (all : AllSources w) where
  abbrev did-mid : World
  did-mid = acted k j y (f.steps.0).action w

  abbrev did-after : World
  did-after = server_after j.server (side_of j.server y did-mid) (ends_by j.server f.core) f.core did-mid

  abbrev did-step : Step
  did-step = record { sent = length j.lists.down; logged = server.logged y w; after = server.logged y did-after }

  abbrev did-place : ℕ
  did-place = length j.lists.handled

  -- the step is noted
  did-there : (d : Joined) → At new.circuits k d → At d.lists.handled did-place did-step
  did-there d at = go (slice_get did-after.circuits k) refl (subst (λ (z : World). At z.circuits k d) f.leaves at)
    where
      none-some : (x : Joined) → let a : Option Joined = None in let b : Option Joined = Some x in a ≡ b → ⊥
      none-some x e = cc

      go : (o : Option Joined) → slice_get did-after.circuits k ≡ o → At (unwrap_or (option_map (λ (c : Joined). with_circuit k (handled_at did-place did-step (f.steps.0).replies c) did-after) o) did-after).circuits k d → At d.lists.handled did-place did-step
      go None is there = absurd (none-some d (sym is ∙ there))
      go (Some c) is there = elim (At-set did-after.circuits k (handled_at did-place did-step (f.steps.0).replies c) k d there) [
        | inl own ↦
            let b = places.back-after ⊥ w did-mid j.server (side_of j.server y did-mid) (ends_by j.server f.core) f.core (places.acted-back ⊥ w k j y (f.steps.0).action on) k c is in
            let same : b.0 ≡ j = At-one w.circuits k b.0 j b.1 on in
            let handled : c.lists.handled ≡ j.lists.handled = b.2.handled ∙ ap (λ (z : Joined). z.lists.handled) same in
            subst (λ (z : Joined). At z.lists.handled did-place did-step) (sym own.1)
            (subst (λ (n : ℕ). At (c.lists.handled ++ did-step ∷ []) n did-step) (ap (λ (l : List Step). length l) handled) (At-last c.lists.handled did-step))
        | inr old ↦ absurd (old.1 refl)
      ]

  abbrev did-news : ℕ → News → Type 0
  did-news = StepNews k did-place (f.steps.0).action (length j.lists.down) (server.logged y w) (f.steps.0).replies

  abbrev did-end : ServerEnd
  did-end = record f.e { link = with_rest (f.steps.0).rest f.e.link }

  told-reply : (t : Told) → In (about did-place Reply (f.steps.0).replies) t → (t.cause ≡ Reply) × (t.place ≡ did-place)
  told-reply t there =
      let x = At-mapped (λ (q : Fields). let z : Told = record { message = q; place = did-place; cause = Reply } in z) (f.steps.0).replies there.0 t there.1 in
      (ap (λ (z : Told). z.cause) x.2, ap (λ (z : Told). z.place) x.2)

  module _ (d : Joined) (log lg : List Entry) (at_d : At new.circuits k d) (logged : At w.server_logs j.lists.server log) (longer : IsLonger log lg) (goes : Onward did-news k j d) where
    seat-joins : j.lists.server ≡ y.life
    seat-joins = (let seat = ready.serves.stands.sound.seated.each k j on opened in seat.joins ∙ ap (λ (z : ServerSide). z.life) (At-one w.servers j.server seat.y y seat.at at_y))

    here : At w.server_logs y.life log
    here = subst (λ (n : ℕ). At w.server_logs n log) seat-joins logged

    length-is : server.logged y w ≡ length log
    length-is = ap (λ (o : Option (List Entry)). length (unwrap_or o [])) here

    sent : (q : Sent) × At j.lists.up did-place q × (q.message ≡ (f.steps.0).m)
    sent = takes-next s w ready.serves k j y f.e (f.steps.0).m (f.steps.0).rest on at_y opened f.has (f.steps.0).takes

    due : Due (knows y.core did-end) (sent.0).message (f.steps.0).replies (f.steps.0).action
    due = subst (λ (m : Fields). Due (knows y.core did-end) m (f.steps.0).replies (f.steps.0).action) (sym sent.2) ((f.steps.0).handles).due

    there : (name : List ℕ) (cr : Record) → record_named y.core.records name ≡ Some cr → (r : ℕ) × Has log r name
    there name cr named =
        let life = ready.serves.stands.sound.writes.lives j.server y at_y in
        let g : Found (IsPutOf w.circuits j.server) life.log y.core.records y.records name cr = found (IsPutOf w.circuits j.server) life.log y.core.records y.records name cr life.life.each named in
        let same : life.log ≡ log = At-one w.server_logs y.life life.log log life.at here in (
          g.r.number,
          subst (λ (l : List Entry). Has l g.r.number name) same
              (g.agrees.first, g.agrees.added, sym (ap (λ (z : _). z.name) g.agrees.state) ∙ g.agrees.name ∙ g.named, g.agrees.there),
        )

    steady : Steady log j.lists
    steady = steady-of s w ready k j log on logged

    p : SourcesOn log j
    p = all k j log on logged

    own : IsCausedBy did-news k log lg j.lists d.lists
    own = record {
      takes = λ m h new. (let is : h.logged ≡ server.logged y w = new.2 in omega (arith, is, length-is));
      replies = λ i place t q new at reply lt place_is at_q asks. (let r = told-reply t new.1 in absurd (let is : t.place ≡ did-place = r.1 in omega (arith, lt, place_is, is)));
      made = λ i sid t new at reply creates. made-here log lg y.records y.core did-end j d sent.0 (f.steps.0).replies (f.steps.0).action did-step sent.1 due length-is refl (did-there d at_d) goes.lists longer there i sid t (inside i t new.1 at) at creates;
      updates = λ i a t new at cause. absurd (reply-update a (sym (told-reply t new.1).0 ∙ cause));
      removals = λ i t new at from cause. absurd (reply-removal (sym (told-reply t new.1).0 ∙ cause));
      stands = λ place new.
          subst (λ (n : ℕ). IsTaken lg d.lists n) (sym new.1)
          (taken-here log lg y.records y.core did-end j d sent.0 (f.steps.0).replies (f.steps.0).action did-step sent.1 due length-is refl (did-there d at_d) goes.lists longer
          (ready.creations k j y f.e on at_y opened f.has) (ready.created k j on) (creates-reply log j p (ready.stand.sent k j log on logged)) steady p new.2.0 new.2.1
          (ready.stand.known k j y f.e log on at_y opened f.has here).1.origins
          (λ i t at here reply. elim (goes.told i t at) [ inl old ↦ inl old | inr more ↦ inr more.1.1 ]));
    }
      where
        inside : (i : ℕ) (t : Told) → In (about did-place Reply (f.steps.0).replies) t → At d.lists.down i t → In (about did-place Reply (f.steps.0).replies) t
        inside i t new at = new

        reply-update : (n : ℕ) → let a : Cause = Reply in let b : Cause = Update n in a ≡ b → ⊥
        reply-update n e = cc

        reply-removal : let a : Cause = Reply in let b : Cause = Removal in a ≡ b → ⊥
        reply-removal e = cc

  step-causes : (l : ℕ) (c d : Joined) (log lg : List Entry) → At w.circuits l c → At new.circuits l d → At w.server_logs c.lists.server log → IsLonger log lg → Onward (did-news) l c d
      → IsCausedBy (did-news) l log lg c.lists d.lists
  step-causes l c d log lg at_c at_d logged_c longer goes = elim (same-or l k) [
    | inr other ↦ record {
      takes = λ m h new. absurd (other new.0);
      replies = λ i p t q new at reply lt here sent asks. other new.0;
      made = λ i sid t new at reply creates. absurd (other new.0);
      updates = λ i a t new at cause. absurd (other new.0);
      removals = λ i t new at from cause. absurd (other new.0);
      stands = λ p new. absurd (other new.0);
    }
    | inl is ↦
        let same : c ≡ j = At-one w.circuits k c j (subst (λ (n : ℕ). At w.circuits n c) is at_c) on in
        subst (λ (v : ℕ × Joined). IsCausedBy did-news v.0 log lg v.1.lists d.lists) (λ i. (sym is i, sym same i))
        (own d log lg (subst (λ (n : ℕ). At new.circuits n d) is at_d) (subst (λ (z : Joined). At w.server_logs z.lists.server log) same logged_c) longer (subst (λ (v : ℕ × Joined). Onward did-news v.0 v.1 d) (λ i. (is i, same i)) goes))
  ]

-- ---- a circuit is made

accept-sources : (s : Setting) (w new : World) (i : ℕ) (x : ClientSide) (v : WantsFirst w x) → Ready s w → LogsGrow w new → HappensAccept w i x v new → AllSources w → AllSources new
accept-sources s w new i x v ready grow f all = elim f.leaves [
  | inl full ↦ subst (λ (z : World). AllSources z) (sym full.1) all
  | inr made ↦
      let c : Joined = connected_as made.1 (new_circuit i x v.v.circuit v.i v.y made.0) in
      let mid : World = record w { servers = slice_set w.servers v.i (record v.y { core = f.server }); circuits = w.circuits ++ c ∷ [] } in
      let g : Frame mid new = sent-frame mid new i x.names made.2 (ap (λ (z : World). z.servers) made.6) (ap (λ (z : World). z.server_logs) made.6) (ap (λ (z : World). z.circuits) made.6) in
      λ n d lg at logged.
      let b = back-frame Nothing-new mid new g n d at in
      elim (At-snoc w.circuits c n b.0 b.1) [
        | inl old ↦
            let log = logs-there s w ready.serves.stands.sound n b.0 old in
            let more = grow b.0.lists.server log.0 log.1 in
            let is : lg ≡ log.0 ++ more.0 = At-one new.server_logs b.0.lists.server lg (log.0 ++ more.0) (subst (λ (l : ℕ). At new.server_logs l lg) b.2.life logged) more.1 in
            sources-on Nothing-new n log.0 lg b.0 d (steady-of s w ready n b.0 log.0 old log.1) (more.0, is) b.2 (still-causes n log.0 lg b.0.lists d.lists) (all n b.0 log.0 old log.1)
        | inr last ↦
            let none = empty made.1 made.0 in
            let down : b.0.lists.down ≡ [] = ap (λ (z : Joined). z.lists.down) last.1 ∙ none.0 in
            let standing : b.0.standing ≡ [] = ap (λ (z : Joined). z.standing) last.1 ∙ none.1 in
            fresh lg b.0 d b.2 down standing
      ]
]
  where
    empty : (o : Option Closing) (g : _) → let z : Joined = connected_as o (new_circuit i x v.v.circuit v.i v.y g) in (z.lists.down ≡ []) × (z.standing ≡ [])
    empty None g = (refl, refl)
    empty (Some k) g = (refl, refl)

    fresh : {n : ℕ} (lg : List Entry) (c d : Joined) → Onward Nothing-new n c d → c.lists.down ≡ [] → c.standing ≡ [] → SourcesOn lg d
    fresh lg c d on down standing = record {
      made = λ j sid t at reply creates. absurd (none j t at);
      updates = λ j a t at cause. absurd (none j t at);
      removals = λ j t at cause. absurd (none j t at);
      stands = λ st at. elim (on.standing st at) [
        | inl old ↦ absurd (none_at old.1.0 old.0 (subst (λ (l : List Standing). At l old.1.0 old.0) standing old.1.1))
        | inr new ↦ absurd new
      ];
    }
      where
        none : (j : ℕ) (t : Told) → At d.lists.down j t → ⊥
        none j t at = elim (on.told j t at) [ inl old ↦ none_at j t (subst (λ (l : List Told). At l j t) down old) | inr new ↦ new.1 ]

-- ---- every event

remove-sources : (s : Setting) (w : World) (i : ℕ) (y : ServerSide) (name : List ℕ) (gone : Handle → Bool) (left : Handle → ℕ) (core : Server) → Ready s w → At w.servers i y
    → (let new : World = server_after i (record y { records = filter (λ (r : RecordSide). not (bytes_eq r.name name)) y.records }) (ends_by i core) core (removal_told w i y name gone left) in LogsGrow w new → AllSources w → AllSources new)
remove-sources s w i y name gone left core ready at logs all =
    let new : World = server_after i (record y { records = filter (λ (r : RecordSide). not (bytes_eq r.name name)) y.records }) (ends_by i core) core (removal_told w i y name gone left) in
    back-sources (RemoveNews w i y.core name gone left) s w new ready logs (removed-back w i y name gone left core)
    (λ l c d log lg at_c at_d logged there longer goes. remove-causes s w i y name gone left core ready all at l c d log lg at_c at_d logged there longer goes) all

event-sources : (s : Setting) (w new : World) (e : Event) → Ready s w → Happens w e new → AllSources w → AllSources new
event-sources s w new e ready happens all = go e happens
  where
    grow : (e : Event) → Happens w e new → LogsGrow w new
    grow e happens = logs-grow s w new e (takes-next s w ready.serves) (world-numbered w ready.serves.in_step) happens ready.serves.stands.sound

    still : (e : Event) → IsStill e → Happens w e new → AllSources new
    still e quiet happens =
        back-sources Nothing-new s w new ready (grow e happens) (still-back Nothing-new w new e quiet happens)
        (λ l c d log lg at_c at_d logged there longer goes. still-causes l log lg c.lists d.lists) all

    same : new ≡ w → AllSources new
    same is = subst (λ (z : World). AllSources z) (sym is) all

    stepped-by : (k : ℕ) (h : Happens w (event.ServerStep k) new) → AllSources new
    stepped-by k (at, (did, f)) = elim (handled-or did) [
      | inl is ↦
          let g : StepHandles w k at.j at.y new = subst (λ (x : Stepped). ServerStepped w k at.j at.y x new) is f in
          back-sources (StepNews k (length at.j.lists.handled) (g.steps.0).action (length at.j.lists.down) (server.logged at.y w) (g.steps.0).replies) s w new ready (grow (event.ServerStep k) (at, (did, f))) (step-back w new k at.j at.y at.joins.at g)
          (λ l c d log lg at_c at_d logged there longer goes. step-causes s w new k at.j at.y at.joins.at at.joins.server at.is_open g ready all l c d log lg at_c at_d logged longer goes) all
      | inr other ↦
          back-sources Nothing-new s w new ready (grow (event.ServerStep k) (at, (did, f))) (unhandled-back Nothing-new w new k at.j at.y did at.joins.at other f)
          (λ l c d log lg at_c at_d logged there longer goes. still-causes l log lg c.lists d.lists) all
    ]

    finished : (i : ℕ) (name : List ℕ) (y : ServerSide) → At w.servers i y → LogsGrow w new → HappensFinish w i y name new → AllSources new
    finished i name y at logs (inl f) =
        back-sources _ s w new ready logs (finish-back w new i y name f) (λ l c d log lg at_c at_d logged there longer goes. finish-causes s w i y name new f ready at l c d log lg at_c) all
    finished i name y at logs (inr refused) = same refused.2

    removed : (i : ℕ) (name : List ℕ) (y : ServerSide) → At w.servers i y → LogsGrow w new → HappensRemove w i y name new → AllSources new
    removed i name y at logs (gone, left, core, inl (removes, is)) =
        subst (λ (z : World). AllSources z) (sym is) (remove-sources s w i y name gone left core ready at (subst (λ (z : World). LogsGrow w z) is logs) all)
    removed i name y at logs (gone, left, core, inr (removes, is)) = same is

    go : (e : Event) → Happens w e new → AllSources new
    go (event.Accept i) h = accept-sources s w new i h.0.x h.0.v ready (grow (event.Accept i) h) h.1 all
    go (event.ServerStep k) h = stepped-by k h
    go (event.Pump k) h =
        back-sources _ s w new ready (grow (event.Pump k) h) (pump-back w new k h.0.j h.0.y h.0.joins.at h.1)
        (λ l c d log lg at_c at_d logged there longer goes. pump-causes s w new k h.0.j h.0.y h.1 ready all h.0.joins.at h.0.joins.server h.0.is_open (places.event-back s w new (event.Pump k) tt ready.serves h) l c d log lg at_c at_d logged) all
    go (event.Finish i name) h = finished i name h.0.y h.0.at (grow (event.Finish i name) h) h.1
    go (event.Remove i name) h = removed i name h.0.y h.0.at (grow (event.Remove i name) h) h.1
    go (event.Open i name priority) h = still (event.Open i name priority) tt h
    go (event.Clear i c) h = still (event.Clear i c) tt h
    go (event.Read i c data_type count) h = still (event.Read i c data_type count) tt h
    go (event.Write i c v) h = still (event.Write i c v) tt h
    go (event.WriteNotify i c v) h = still (event.WriteNotify i c v) tt h
    go (event.Subscribe i c data_type count mask) h = still (event.Subscribe i c data_type count mask) tt h
    go (event.Unsubscribe i n) h = still (event.Unsubscribe i n) tt h
    go (event.Collect i r) h = still (event.Collect i r) tt h
    go (event.GiveUp i r) h = still (event.GiveUp i r) tt h
    go (event.ClientDatagram i from bytes) h = still (event.ClientDatagram i from bytes) tt h
    go (event.ServerDatagram i from bytes) h = still (event.ServerDatagram i from bytes) tt h
    go (event.Up k n) h = still (event.Up k n) tt h
    go (event.Down k n) h = still (event.Down k n) tt h
    go (event.ClientStep k) h = still (event.ClientStep k) tt h
    go (event.CutClient k) h = still (event.CutClient k) tt h
    go (event.CutServer k) h = still (event.CutServer k) tt h
    go (event.ClientRestart i) h = still (event.ClientRestart i) tt h
    go (event.ServerRestart i) h = still (event.ServerRestart i) tt h
    go (event.Post i name v mask) h = still (event.Post i name v mask) tt h
    go (event.Add i r) h = still (event.Add i r) tt h
    go (event.Tick moment) h = still (event.Tick moment) tt h

-- ---- every run

events-sources : (s : Setting) (ok : IsSetting s) (done es : List Event) (w new : World) → FoldsTo Happens (opening s) done w → FoldsTo Happens w es new → AllSources w → AllSources new
events-sources s ok done [] w new before same all = subst (λ (z : World). AllSources z) same all
events-sources s ok done (e ∷ es) w new before (mid, one, rest) all =
    let runs : Runs s done None w = (w, before, refl) in
    events-sources s ok (done ++ e ∷ []) es mid new (folds-snoc done (opening s) w mid e before one) rest (event-sources s w mid e (ready s done None w ok runs) one all)

stops-sources : (s : Setting) (mid : World) (stopped : Option Event) (w : World) → Ready s mid → StopsAt mid stopped w → AllSources mid → AllSources w
stops-sources s mid (Some (event.Tick moment)) w h stops all = elim stops [
  | inl same ↦ subst (λ (z : World). AllSources z) (sym same) all
  | inr ticked ↦
      let g : Frame mid w = ticks-frame moment mid (clients_below ticked.0) w ticked.3 in
      back-sources Nothing-new s mid w h (logs-stay mid w g.logs) (back-frame Nothing-new mid w g) (λ l c d log lg at_c at_d logged there longer goes. still-causes l log lg c.lists d.lists) all
]
stops-sources s mid stopped w h stops all = subst (λ (z : World). AllSources z) (sym stops) all

pub run-sources : (s : Setting) (es : List Event) (stopped : Option Event) (w : World) → IsSetting s → Runs s es stopped w → AllSources w
run-sources s es stopped w ok (mid, folds, stops) =
    stops-sources s mid stopped w (ready s es None mid ok (mid, folds, refl)) stops (events-sources s ok [] es (opening s) mid refl folds (λ n c log at. absurd (none_at n c at)))

-- ---- in the words of the statement

-- what is meant by an EVENT_ADD
subscribes : (q : Sent) → Suits q.intent q.message → Is command.EventAdd q.message → (channel number : ℕ) × (q.intent ≡ On channel (Subscribe number))
subscribes q suits asks = go q.intent refl suits
  where
    apart : (a b : ℕ) → q.message.command ≡ a → q.message.command ≡ b → (a ≡ b → ⊥) → ⊥
    apart a b is other differ = differ (sym is ∙ other)

    go : (i : history.Intent) → q.intent ≡ i → Suits i q.message → (channel number : ℕ) × (q.intent ≡ On channel (Subscribe number))
    go (On channel (Subscribe number)) is suits = (channel, number, is)
    go (On channel history.Create) is suits = absurd (apart 18 1 suits asks (λ e. absurd (omega (arith, e))))
    go (On channel history.Clear) is suits = absurd (apart 12 1 suits asks (λ e. absurd (omega (arith, e))))
    go (On channel (history.Request history.Read number)) is suits = absurd (apart 15 1 suits asks (λ e. absurd (omega (arith, e))))
    go (On channel (history.Request history.Put number)) is suits = absurd (apart 19 1 suits asks (λ e. absurd (omega (arith, e))))
    go (On channel (history.Request history.Write number)) is suits = absurd (apart 4 1 suits asks (λ e. absurd (omega (arith, e))))
    go (On channel (history.Cancel number)) is suits = absurd (apart 2 1 suits asks (λ e. absurd (omega (arith, e))))
    go history.OfCircuit is suits = absurd (suits (Subscribe 0) asks)

pub accepted-of : (log : List Entry) (c : Circuit) (k : ℕ) → ((q : Sent) → At c.up k q → Suits q.intent q.message) → IsTaken log c k → (r : ℕ) × (q : Sent) × (h : Step) × Accepted c log k r q h
accepted-of log c k suits t =
    let m = subscribes t.s (suits t.s t.sent) t.asks in
    (t.r, t.s, t.h, (m.0, m.1, t.sent, m.2, t.handled, t.acted, t.unrefused))

cause-of : (log : List Entry) (c : Joined) → ((k : ℕ) (q : Sent) → At c.lists.up k q → Suits q.intent q.message) → SourcesOn log c → (j : ℕ) (t : Told) → At c.lists.down j t → HasCause c.lists log t t.cause
cause-of log c suits p j t at = go t.cause refl
  where
    go : (b : Cause) → t.cause ≡ b → HasCause c.lists log t b
    go Reply is = tt
    go Removal is = p.removals j t at is
    go (Update a) is = accepted-of log c.lists t.place (suits t.place) (p.updates j a t at is)

pub run-causes : (s : Setting) (es : List Event) (stopped : Option Event) (w : World) → IsSetting s → Runs s es stopped w → MessagesAreCaused w
run-causes s es stopped w ok runs n d at =
    let j = At-mapped circuit_of w.circuits n d at in
    let l = run-server-steps s es stopped w ok runs n d at in
    let joins = l.2 in
    let logged : At w.server_logs j.0.lists.server l.1 = subst (λ (c : Circuit). At w.server_logs c.server l.1) j.2 joins.2 in (
      l.0,
      l.1,
      joins,
      subst (λ (c : Circuit). (i : ℕ) (t : Told) → At c.down i t → HasCause c l.1 t t.cause × ((h : Step) × At c.handled t.place h × (h.sent ≤ i))) (sym j.2)
          (λ i t there. (cause-of l.1 j.0 (λ k q up. (run-serves s es stopped w ok runs).stands.asked n k j.0 q j.1 up) (run-sources s es stopped w ok runs n j.0 l.1 j.1 logged) i t there, run-after s es stopped w ok runs n j.0 j.1 i t there)),
    )
