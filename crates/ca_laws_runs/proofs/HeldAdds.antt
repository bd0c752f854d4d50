-- What a client subscribed to was held by its log as it read what it had read by then, over
-- every event and run.
use Rattle.std.proofs.Common.{◌≡◌, ℕ, zero, suc, ◌<◌, ◌≤◌, ◌⊎◌, inl, inr, List, [], ◌∷◌, ◌++◌, length, Option, Some, None, refl, sym, ap, ◌∙◌, subst, arith}
use Rattle.std.specs.Prelude.{option_map, slice_get, take, unwrap_or}
use Rattle.std.specs.List.{FoldsTo}
use Rattle.std.proofs.lemmas.List.{take-append-le}
use Rattle.ca_text.specs.Place.{At}
use Rattle.ca_text.proofs.Places.{At-mapped, At-one, At-or, At-set, At-snoc, At-within}
use Rattle.ca_dbr.specs.declared.value.Outcome.{Outcome}
use Rattle.ca_arena.specs.declared.handle.Handle.{Handle}
use Rattle.ca_model.specs.History.{Called, Cancel, Circuit, Clear, Line, Nothing, Noticed, On, Sent, Step, Subscribe}
use Rattle.ca_model.specs.Speech.{In}
use Rattle.ca_model.specs.Channels.{IsHeld, Meant}
use Rattle.ca_model.specs.ClientEvents.{heard_in}
use Rattle.ca_model.specs.Events.{Event}
use Rattle.ca_model.specs.Events as event
use Rattle.ca_model.specs.Runs.{AreEvents, Happens, Runs, StopsAt, clients_below}
use Rattle.ca_model.specs.ServerEvents.{StepHandles, handled_at}
use Rattle.ca_model.specs.World.{ClientSide, IsSetting, Joined, ServerSide, Setting, World, circuit_of, log_length, opening, with_circuit}
use Rattle.ca_laws_parts.proofs.WritesLists.{none_at}
use Rattle.ca_laws_runs.specs.LegalParts.{AddsWereHeld}
use Rattle.ca_laws_runs.specs.OrderSteps.{ClientsInOrder}
use Rattle.ca_laws_runs.specs.Sides.{IsLiveAs}
use Rattle.ca_laws_runs.proofs.AddsSaid.{AddingBack, IsAdding, event-says, ticks-says}
use Rattle.ca_laws_runs.proofs.HeldLogs.{held-so}
use Rattle.ca_laws_runs.proofs.Joint.{are-snoc, folds-snoc}
use Rattle.ca_laws_runs.proofs.LostRuns.{known-runs}
use Rattle.ca_laws_runs.proofs.OnceNoticed.{ToldStand}
use Rattle.ca_laws_runs.proofs.OnceNoticedRuns.{told-runs}
use Rattle.ca_laws_runs.proofs.OrderGrows.{Grown, each-event, step-grown, ticks-grown}
use Rattle.ca_laws_runs.proofs.OrderKeeps.{IsHearing, IsMade, begun-grown, begun-mid, did-after, did-grown, did-step, hear-grown, hear-step, hearing-or, made-or, run-heard, run-server-steps}
use Rattle.ca_laws_runs.proofs.Spent.{Known}
use Rattle.ca_laws_runs.proofs.ToldGrows.{WorldsOn, event-on, on-grown}

-- ---- steps

-- Each step of a client was there, or comes after all that was sent on its circuit.
abbrev pub StepsLate : (w new : World) → Type 0
StepsLate w new = (n : ℕ) (d : Joined) (j : ℕ) (h : Step) → At new.circuits n d → At d.lists.heard j h → ((c : Joined) × At w.circuits n c × At c.lists.heard j h) ⊎ ((c : Joined) → At w.circuits n c → length c.lists.up ≤ h.sent)

late-grown : (w new : World) → Grown w new → StepsLate w new
late-grown w new g n d j h at at_h = (let c = g.back n d at in inl (c.0, c.1, subst (λ (l : List Step). At l j h) c.2.heard at_h))

late-handled : (w new : World) (k : ℕ) (i : Joined) (y : ServerSide) → At w.circuits k i → StepHandles w k i y new → StepsLate w new
late-handled w new k i y on f = subst (λ (z : World). StepsLate w z) (sym f.leaves) (go (slice_get after.circuits k) refl)
  where
    after : World
    after = did-after w new k i y on f

    step : Step
    step = did-step w new k i y on f

    go : (o : Option Joined) → slice_get after.circuits k ≡ o → StepsLate w (unwrap_or (option_map (λ (c : Joined). with_circuit k (handled_at (length i.lists.handled) step (f.steps.0).replies c) after) o) after)
    go None is = late-grown w after (did-grown w new k i y on f)
    go (Some c) is = λ n d j h at at_h. elim (At-set after.circuits k (handled_at (length i.lists.handled) step (f.steps.0).replies c) n d at) [
      | inr old ↦ late-grown w after (did-grown w new k i y on f) n d j h old.0 at_h
      | inl own ↦
          let b = (did-grown w new k i y on f).back k c is in
          inl (b.0, subst (λ (m : ℕ). At w.circuits m b.0) (sym own.0) b.1, subst (λ (l : List Step). At l j h) (ap (λ (z : Joined). z.lists.heard) own.1 ∙ b.2.heard) at_h)
    ]

late-hearing : (w new : World) (k : ℕ) (i : Joined) (x : ClientSide) (on : At w.circuits k i) (at : At w.clients i.client x) (f : IsHearing w new k i x) → StepsLate w new
late-hearing w new k i x on at f n d j h there at_h =
    let c = (hear-grown w new k i x on at f).back n d there in
    let was : At c.0.lists.heard j h = subst (λ (l : List Step). At l j h) c.2.heard at_h in
    elim (At-set w.circuits k (heard_in (hear-step w new k i x on at f) i) n c.0 c.1) [
      | inr old ↦ inl (c.0, old.0, was)
      | inl own ↦
          let here : At w.circuits n i = subst (λ (m : ℕ). At w.circuits m i) (sym own.0) on in
          elim (At-snoc i.lists.heard (hear-step w new k i x on at f) j h (subst (λ (l : List Step). At l j h) (ap (λ (z : Joined). z.lists.heard) own.1) was)) [
            | inl old ↦ inl (i, here, old)
            | inr new_one ↦ inr (λ v at_v.
                let e : length v.lists.up ≡ length i.lists.up = ap (λ (z : Joined). length z.lists.up) (At-one w.circuits n v i at_v here) in
                let s : h.sent ≡ length i.lists.up = ap (λ (z : Step). z.sent) new_one.1 in
                omega (arith, e, s))
          ]
    ]

late-made : (w new : World) (i : ℕ) (x : ClientSide) (f : IsMade w new i x) → StepsLate w new
late-made w new i x f n d j h there at_h =
    let c = (f.goes).back n d there in
    let was : At c.0.lists.heard j h = subst (λ (l : List Step). At l j h) c.2.heard at_h in
    elim (At-snoc w.circuits f.c n c.0 (subst (λ (l : List Joined). At l n c.0) f.circuits c.1)) [
      | inl old ↦ inl (c.0, old, was)
      | inr last ↦ absurd (none_at j h (subst (λ (l : List Step). At l j h) (ap (λ (z : Joined). z.lists.heard) last.1 ∙ f.heard) was))
    ]

late-event : (w new : World) (e : Event) → Happens w e new → StepsLate w new
late-event w new e happens = each-event (StepsLate w new) w new (late-grown w new)
    (λ k f. elim (step-grown w new k f.0.j f.0.y f.1.0 f.0.joins.at f.1.1) [
      | inl handles ↦ late-handled w new k f.0.j f.0.y f.0.joins.at handles
      | inr g ↦ late-grown w new g
    ])
    (λ k f. elim (hearing-or w new k f.0.j f.0.x f.0.joins.at f.0.joins.client f.1) [
      | inl hearing ↦ late-hearing w new k f.0.j f.0.x f.0.joins.at f.0.joins.client hearing
      | inr g ↦ late-grown w new g
    ])
    (λ i f. elim (made-or w new i f) [
      | inl made ↦ late-made w new i f.0.x made
      | inr g ↦ late-grown w new g
    ])
    (λ i f. subst (λ (z : World). StepsLate w z) (sym f.1) (late-grown w (begun-mid w new i f.0.x f.1) (begun-grown w new i f.0.x f.1))) e happens

-- ---- what a log holds

-- By these lines the caller ended neither the subscription nor its channel, and no
-- notice told of its end.
pub record KeptBy (y : List Line) (a m : ℕ) : Type 0 where
  pub cleared : In y (Called (On a Clear) Nothing) → ⊥
  pub cancelled : In y (Called (On a (Cancel m)) Nothing) → ⊥
  pub told : (o : Outcome) → In y (Noticed (On a (Subscribe m)) o) → ⊥

take-in : (k : ℕ) (xs : List Line) (i : ℕ) (l : Line) → At (take k xs) i l → At xs i l
take-in zero xs i l at = absurd cc
take-in (suc k) [] i l at = absurd cc
take-in (suc k) (y ∷ xs) zero l at = at
take-in (suc k) (y ∷ xs) (suc i) l at = take-in k xs i l at

kept-take : (k : ℕ) (x : List Line) (a m : ℕ) → KeptBy x a m → KeptBy (take k x) a m
kept-take k x a m kept = record {
  cleared = λ i. kept.cleared (i.0, take-in k x i.0 (Called (On a Clear) Nothing) i.1);
  cancelled = λ i. kept.cancelled (i.0, take-in k x i.0 (Called (On a (Cancel m)) Nothing) i.1);
  told = λ o i. kept.told o (i.0, take-in k x i.0 (Noticed (On a (Subscribe m)) o) i.1);
}

add-parts : (a b m l : ℕ) → On a (Subscribe m) ≡ On b (Subscribe l) → (a ≡ b) × (m ≡ l)
add-parts a b m l e = (cc, cc)

abbrev pub AllAddsHeld : World → Type 0
AllAddsHeld w = (n : ℕ) (c : Joined) (x : List Line) (l a m j : ℕ) (s : Sent) (h : Step) → At w.circuits n c → At w.client_logs c.lists.client x → At c.lists.up l s → s.intent ≡ On a (Subscribe m) → At c.lists.heard j h → h.sent ≤ l
    → KeptBy (take h.logged x) a m

-- what is subscribed to now
kept-now : (w new : World) → Known new → ToldStand new → (n l : ℕ) (s : Sent) (z : IsAdding w new n l s) (x : List Line) → At new.client_logs (z.y).life x → (a m : ℕ) → s.intent ≡ On a (Subscribe m) → KeptBy x a m
kept-now w new now told n l s z x at_log a m is =
    let live : IsLiveAs ((z.y).core).channels (z.c).at_client ((z.stood).d).channel (z.stood).live.0 = subst (λ (h : Handle). IsLiveAs ((z.y).core).channels (z.c).at_client h (z.stood).live.0) (sym (z.stood).to) (z.stood).live.1 in
    let b = held-so new now.quiet now.once told (z.c).client (z.stood).live.0 z.y x z.g (z.c).at_client (z.stood).d z.at at_log (z.stood).there (z.stood).stands live in
    let parts = add-parts b.0 a b.1 m (sym b.2 ∙ sym z.meant ∙ is) in
    subst (λ (v : ℕ × ℕ). KeptBy x v.0 v.1) (λ i. (parts.0 i, parts.1 i)) (record { cleared = b.3.0; cancelled = b.3.1; told = b.4 })

pub held-on : (w new : World) → Known w → Known new → ToldStand new → ClientsInOrder w → AddingBack w new → StepsLate w new → WorldsOn w new → AllAddsHeld w → AllAddsHeld new
held-on w new known now told order adding late on all n d x l a m j s h at at_log at_s is at_h le = elim (adding n d l s at at_s) [
  | inl other ↦ absurd (other a m is)
  | inr (inr z) ↦ kept-take h.logged x a m (kept-now w new now told n l s z x (subst (λ (v : ℕ). At new.client_logs v x) (life z.c z.on ∙ z.life) at_log) a m is)
  | inr (inl old) ↦
      let c : Joined = old.0 in
      let in_up : l < length c.lists.up = At-within c.lists.up l s old.2 in
      elim (late n d j h at at_h) [
        | inr after ↦ absurd (let least : length c.lists.up ≤ h.sent = after c old.1 in omega (arith, least, le, in_up))
        | inl step ↦
            let same : step.0 ≡ c = At-one w.circuits n step.0 c step.1 old.1 in
            let was_h : At c.lists.heard j h = subst (λ (v : Joined). At v.lists.heard j h) same step.2 in
            elim (At-or w.client_logs c.lists.client) [
              | inr past ↦ absurd (let there : c.lists.client < length w.client_logs = known.lives.joined n c old.1 in omega (arith, there, past))
              | inl log ↦
                  let more = on.logs c.lists.client log.0 log.1 in
                  let x_is : x ≡ log.0 ++ more.0 = At-one new.client_logs c.lists.client x (log.0 ++ more.0) (subst (λ (v : ℕ). At new.client_logs v x) (life c old.1) at_log) more.1 in
                  let w_in = (order n c old.1).within j h was_h in
                  let first : h.logged ≤ h.after = w_in.1 in
                  let upto : h.after ≤ log_length c.lists.client w.client_logs = w_in.2 in
                  let size : log_length c.lists.client w.client_logs ≡ length log.0 = ap (λ (o : Option (List Line)). length (unwrap_or o [])) log.1 in
                  let front : take h.logged x ≡ take h.logged log.0 = ap (λ (v : List Line). take h.logged v) x_is ∙ take-append-le h.logged log.0 more.0 (omega (arith, first, upto, size)) in
                  subst (λ (v : List Line). KeptBy v a m) (sym front) (all n c log.0 l a m j s h old.1 log.1 old.2 is was_h le)
            ]
      ]
]
  where
    life : (c : Joined) → At w.circuits n c → d.lists.client ≡ c.lists.client
    life c on_c =
        let o = on.circuits n c on_c in
        let one : o.0 ≡ d = At-one new.circuits n o.0 d o.1 at in
        ap (λ (v : Joined). v.lists.client) (sym one) ∙ o.2.client

after-held : (s : Setting) (es rest : List Event) (w new : World) → IsSetting s → AreEvents es → AreEvents rest → FoldsTo Happens (opening s) es w → FoldsTo Happens w rest new → AllAddsHeld w → AllAddsHeld new
after-held s es [] w new ok are more folds same all = subst (λ (v : World). AllAddsHeld v) same all
after-held s es (e ∷ rest) w new ok are more folds (mid, one, others) all =
    let longer : AreEvents (es ++ e ∷ []) = are-snoc es e are (more 0 e refl) in
    let runs : Runs s es None w = (w, folds, refl) in
    let then_so : FoldsTo Happens (opening s) (es ++ e ∷ []) mid = folds-snoc es (opening s) w mid e folds one in
    let known : Known w = known-runs s es None w ok are runs in
    let now : Known mid = known-runs s (es ++ e ∷ []) None mid ok longer (mid, then_so, refl) in
    after-held s (es ++ e ∷ []) rest mid new ok longer (λ i f at. more (suc i) f at) then_so others
    (held-on w mid known now (told-runs s (es ++ e ∷ []) None mid (mid, then_so, refl)) (run-heard s es None w ok are runs) (event-says w mid e known.stands known.quiet now.quiet known.once one) (late-event w mid e one) (event-on w mid e one) all)

pub run-all-held : (s : Setting) (es : List Event) (stopped : Option Event) (w : World) → IsSetting s → AreEvents es → Runs s es stopped w → AllAddsHeld w
run-all-held s es stopped w ok are (mid, folds, stops) = stop stopped (known-runs s es stopped w ok are (mid, folds, stops)) (told-runs s es stopped w (mid, folds, stops)) stops
  where
    all : AllAddsHeld mid
    all = after-held s [] es (opening s) mid ok (λ i e at. absurd (none_at i e at)) are refl folds (λ n c x l a m j q h at. absurd (none_at n c at))

    stop : (stopped : Option Event) → Known w → ToldStand w → StopsAt mid stopped w → AllAddsHeld w
    stop (Some (event.Tick moment)) now told stops = elim stops [
      | inl same ↦ subst (λ (v : World). AllAddsHeld v) (sym same) all
      | inr ticked ↦
          let grown = ticks-grown moment mid (clients_below ticked.0) w ticked.3 in
          held-on mid w (known-runs s es None mid ok are (mid, folds, refl)) now told (run-heard s es None mid ok are (mid, folds, refl)) (ticks-says moment (clients_below ticked.0) mid w ticked.3) (late-grown mid w grown) (on-grown mid w grown) all
    ]
    stop stopped now told stops = subst (λ (v : World). AllAddsHeld v) (sym stops) all

-- ---- what the statement says

pub run-adds-held : (s : Setting) (es : List Event) (stopped : Option Event) (w : World) → IsSetting s → AreEvents es → Runs s es stopped w → AddsWereHeld w
run-adds-held s es stopped w ok fine runs n d at =
    let j = At-mapped circuit_of w.circuits n d at in
    let l = run-server-steps s es stopped w ok runs n d at in
    let log : At w.client_logs (j.0.lists).client l.0 = subst (λ (v : Circuit). At w.client_logs v.client l.0) j.2 l.2.1 in (
      l.0,
      l.1,
      l.2,
      subst (λ (v : Circuit). (k a m i : ℕ) (h : Step) → Meant v k (On a (Subscribe m)) → At v.heard i h → h.sent ≤ k → IsHeld (take h.logged l.0) (On a (Subscribe m)) × ((o : Outcome) → In (take h.logged l.0) (Noticed (On a (Subscribe m)) o) → ⊥)) (sym j.2)
          (λ k a m i h meant at_h le.
          let kept = run-all-held s es stopped w ok fine runs n j.0 l.0 k a m i meant.0 h j.1 log meant.1 meant.2 at_h le in
          ((kept.cleared, kept.cancelled), kept.told)),
    )
