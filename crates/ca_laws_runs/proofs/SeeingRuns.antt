-- After every run a subscriber saw the updates of each EVENT_ADD in order, with none left out.
use Rattle.std.proofs.Common.{◌≡◌, ℕ, suc, ◌<◌, ◌≤◌, ◌⊎◌, inl, inr, true, List, [], ◌∷◌, ◌++◌, length, Option, Some, None, refl, sym, ap, ◌∙◌, subst, arith}
use Rattle.std.specs.List.{FoldsTo}
use Rattle.ca_text.specs.Place.{At}
use Rattle.ca_text.proofs.Places.{At-map, At-mapped, At-one, At-or, At-set, At-snoc, At-within}
use Rattle.ca_model.specs.Answers.{Notice}
use Rattle.ca_model.specs.History.{Circuit, Line, Sent, Step, Told, Updated}
use Rattle.ca_model.specs.Speech.{Creates}
use Rattle.ca_model.specs.Channels.{AreSteps}
use Rattle.ca_model.specs.ClientEvents.{heard_in}
use Rattle.ca_model.specs.Events.{Event}
use Rattle.ca_model.specs.Events as event
use Rattle.ca_model.specs.Runs.{AreEvents, Happens, Runs, StopsAt, clients_below}
use Rattle.ca_model.specs.World.{ClientSide, IsSetting, Joined, Setting, World, addresses, circuit_of, client_begun, opening}
use Rattle.ca_laws_parts.specs.Runs.{HearsSent}
use Rattle.ca_laws_parts.specs.ServerFits.{AllCaused}
use Rattle.ca_laws_parts.proofs.Causes.{runs-caused}
use Rattle.ca_laws_parts.proofs.ServerSpeaking.{runs-hear}
use Rattle.ca_laws_parts.proofs.WritesLists.{none_at}
use Rattle.ca_laws_runs.specs.HeldAnswering.{AllAnswer}
use Rattle.ca_laws_runs.specs.Created.{AllCreated}
use Rattle.ca_laws_runs.specs.Tells.{NoticesTell, TellsOwn}
use Rattle.ca_laws_runs.specs.ToldLines.{SubscribersSee}
use Rattle.ca_laws_runs.proofs.Again.{AllAgain, IsAgain, again-now, again-old}
use Rattle.ca_laws_runs.proofs.Created.{reached-created}
use Rattle.ca_laws_runs.proofs.Joint.{are-snoc, folds-snoc, run-tells}
use Rattle.ca_laws_runs.proofs.LostRuns.{known-runs}
use Rattle.ca_laws_runs.proofs.OnceRuns.{numbered-place}
use Rattle.ca_laws_runs.proofs.OrderGrows.{GoesOn, each-event, step-grown, ticks-grown}
use Rattle.ca_laws_runs.proofs.OrderKeeps.{IsHearing, begun-grown, begun-mid, hear-grown, hear-step, hearing-or, made-or, run-steps}
use Rattle.ca_laws_runs.proofs.Replied.{reached-answer}
use Rattle.ca_laws_runs.proofs.Seeing.{AllOrdered, AllSeen, AllWithin, IsSeen, ordered-any, ordered-old, seen-now, seen-old}
use Rattle.ca_laws_runs.proofs.Spent.{Known}
use Rattle.ca_laws_runs.proofs.ToldCreated.{AllToldLive, ReadsNone, none-grown, none-handled, none-made, run-told-live}
use Rattle.ca_laws_runs.proofs.ToldGrows.{WorldsOn, event-on, on-grown}
use Rattle.ca_laws_runs.proofs.ToldRemoval.{AllRemovals, run-removals}
use Rattle.ca_laws_runs.proofs.ToldRuns.{run-updates-own}
use Rattle.ca_laws_runs.proofs.ToldSteps.{next}
use Rattle.ca_laws_runs.proofs.Using.{AllNamedOnce, ClientsUse, named-once-on, ticks-use, use-event, use-stay}

pub record SeenStand (w : World) : Type 0 where
  pub names : AllNamedOnce w
  pub again : AllAgain w
  pub seen : AllSeen w
  pub ordered : AllOrdered w

-- ---- nothing is read

module _ (w new : World) (known : Known w) (goes : WorldsOn w new) (uses : ClientsUse w new) (within : AllWithin w) (z : SeenStand w) where
  stand-quiet : ReadsNone w new → SeenStand new
  stand-quiet reads = record {
    names = named-once-on w new known.stands uses z.names;
    again = λ n d i a sid k number t h s q at_d at_t at_h reply creates at_s meant at_q asks lt. elim (reads n d at_d) [
      | inl old ↦ again-old w new known goes uses z.again n old.0 d i a sid k number t h s q old.1 at_d at_t (subst (λ (l : List Step). At l i h) old.2 at_h) reply creates at_s meant at_q asks lt
      | inr none ↦ absurd (none_at i h (subst (λ (l : List Step). At l i h) none at_h))
    ];
    seen = λ n d i a number b t h s at_d at_t at_h cause at_s meant. elim (reads n d at_d) [
      | inl old ↦ seen-old w new known goes uses z.seen n old.0 d i a number b t h s old.1 at_d at_t (subst (λ (l : List Step). At l i h) old.2 at_h) cause at_s meant
      | inr none ↦ absurd (none_at i h (subst (λ (l : List Step). At l i h) none at_h))
    ];
    ordered = λ n d i l b intent t u h s x o at_d at_h at_u at_x line lt at_s meant less at_t place cause. elim (reads n d at_d) [
      | inl old ↦ ordered-old w new known goes uses within z.ordered n old.0 d i l b intent t u h s x o old.1 at_d (subst (λ (l : List Step). At l i h) old.2 at_h) at_u at_x line lt at_s meant less at_t place cause
      | inr none ↦ absurd (none_at i h (subst (λ (l : List Step). At l i h) none at_h))
    ];
  }

-- ---- a message is read

module _ (w new : World) (k : ℕ) (j : Joined) (x : ClientSide) (on : At w.circuits k j) (at : At w.clients j.client x) (opened : j.lists.client_open ≡ true) (f : IsHearing w new k j x)
    (hears : HearsSent w) (caused : AllCaused w) (answers : AllAnswer w) (removals : AllRemovals w) (tells : NoticesTell w k) (known : Known w) (goes : WorldsOn w new) (uses : ClientsUse w new) (created : AllCreated w) (within : AllWithin w) (told_new : AllToldLive new) (z : SeenStand w) where
  abbrev step : Step
  step = hear-step w new k j x on at f

  -- The step was there; or it is made now.
  heard-or : (n : ℕ) (d : Joined) (i : ℕ) (h : Step) → At new.circuits n d → At d.lists.heard i h → ((c : Joined) × At w.circuits n c × At c.lists.heard i h) ⊎ (At new.circuits k d × (i ≡ length j.lists.heard) × (h ≡ step) × GoesOn (heard_in step j) d)
  heard-or n d i h at_d at_h =
      let back = (hear-grown w new k j x on at f).back n d at_d in
      elim (At-set w.circuits k (heard_in step j) n back.0 back.1) [
        | inr old ↦ inl (back.0, old.0, subst (λ (l : List Step). At l i h) back.2.heard at_h)
        | inl here ↦ elim (At-snoc j.lists.heard step i h (subst (λ (l : List Step). At l i h) (back.2.heard ∙ ap (λ (v : Joined). v.lists.heard) here.1) at_h)) [
          | inl before ↦ inl (j, subst (λ (v : ℕ). At w.circuits v j) (sym here.0) on, before)
          | inr last ↦ inr (subst (λ (v : ℕ). At new.circuits v d) here.0 at_d, last.0, last.1, subst (λ (v : Joined). GoesOn v d) here.1 back.2)
        ]
      ]

  own : (i : ℕ) (o : Notice) → At f.notices i o → TellsOwn x.names (next w new k j x on at opened f hears caused answers removals tells known.held known.once known.quiet known.lives).m (next w new k j x on at opened f hears caused answers removals tells known.held known.once known.quiet known.lives).s o
  own i o at_o =
      let n = next w new k j x on at opened f hears caused answers removals tells known.held known.once known.quiet known.lives in
      tells j x n.d n.m n.rest n.t n.s (record { core = f.core; sent = f.sent; notices = f.notices }) on at n.linked n.first n.told n.up n.hear i o at_o

  module _ (d : Joined) (at_d : At new.circuits k d) (goes_on : GoesOn (heard_in step j) d) where
    -- the message that is read
    told-is : (t : Told) → At d.lists.down (length j.lists.heard) t → (next w new k j x on at opened f hears caused answers removals tells known.held known.once known.quiet known.lives).t ≡ t
    told-is t at_t = (let n = next w new k j x on at opened f hears caused answers removals tells known.held known.once known.quiet known.lives in At-one d.lists.down (length j.lists.heard) n.t t (goes_on.tells (length j.lists.heard) n.t n.told) at_t)

    said-is : (t : Told) (s : Sent) → (next w new k j x on at opened f hears caused answers removals tells known.held known.once known.quiet known.lives).t ≡ t → At d.lists.up t.place s → (next w new k j x on at opened f hears caused answers removals tells known.held known.once known.quiet known.lives).s ≡ s
    said-is t s same at_s = (let n = next w new k j x on at opened f hears caused answers removals tells known.held known.once known.quiet known.lives in At-one d.lists.up t.place n.s s (subst (λ (v : Told). At d.lists.up v.place n.s) same (goes_on.said (n.t).place n.s n.up)) at_s)

  stand-hearing : SeenStand new
  stand-hearing = record {
    names = named-once-on w new known.stands uses z.names;
    again = λ n d i a sid l number t h s q at_d at_t at_h reply creates at_s meant at_q asks lt. elim (heard-or n d i h at_d at_h) [
      | inl old ↦ again-old w new known goes uses z.again n old.0 d i a sid l number t h s q old.1 at_d at_t old.2 reply creates at_s meant at_q asks lt
      | inr fresh ↦
          let m = next w new k j x on at opened f hears caused answers removals tells known.held known.once known.quiet known.lives in
          let t_is : m.t ≡ t = told-is d fresh.0 fresh.3 t (subst (λ (v : ℕ). At d.lists.down v t) fresh.1 at_t) in
          let s_is : m.s ≡ s = said-is d fresh.0 fresh.3 t s t_is at_s in
          let inside : (m.t).place < length j.lists.up = At-within j.lists.up (m.t).place m.s m.up in
          let place : (m.t).place ≡ t.place = ap (λ (v : Told). v.place) t_is in
          let at_l : At j.lists.up l q = elim (At-or j.lists.up l) [
            | inl there ↦ subst (λ (v : Sent). At j.lists.up l v) (At-one d.lists.up l there.0 q (fresh.3.said l there.0 there.1) at_q) there.1
            | inr past ↦ absurd (omega (arith, past, lt, place, inside))
          ] in
          subst (λ (v : Told). IsAgain new d a number v.place) t_is
          (again-now w new k j x on at opened f known goes uses z.names m.m m.rest m.t m.s m.told m.up m.is m.hear d fresh.0 fresh.3 a sid l number q (ap (λ (v : Told). v.cause) t_is ∙ reply) (subst (λ (v : Told). Creates v.message sid) (sym t_is) creates) (ap (λ (v : Sent). v.intent) s_is ∙ meant) at_l asks told_new)
    ];
    seen = λ n d i a number b t h s at_d at_t at_h cause at_s meant. elim (heard-or n d i h at_d at_h) [
      | inl old ↦ seen-old w new known goes uses z.seen n old.0 d i a number b t h s old.1 at_d at_t old.2 cause at_s meant
      | inr fresh ↦
          let m = next w new k j x on at opened f hears caused answers removals tells known.held known.once known.quiet known.lives in
          let t_is : m.t ≡ t = told-is d fresh.0 fresh.3 t (subst (λ (v : ℕ). At d.lists.down v t) fresh.1 at_t) in
          let s_is : m.s ≡ s = said-is d fresh.0 fresh.3 t s t_is at_s in
          subst (λ (v : Told × (Step × Sent)). IsSeen new d a number v.0 v.1.0 v.1.1) (λ y. (t_is y, (sym fresh.2 y, s_is y)))
          (seen-now w new k j x on at opened f known goes uses z.names created caused m.m m.rest m.t m.s m.told m.up m.is m.hear own d fresh.0 fresh.3 a number b (ap (λ (v : Sent). v.intent) s_is ∙ meant) (ap (λ (v : Told). v.cause) t_is ∙ cause))
    ];
    ordered = λ n d i l b intent t u h s y o at_d at_h at_u at_y line lt at_s meant less at_t place cause. elim (heard-or n d i h at_d at_h) [
      | inl old ↦ ordered-old w new known goes uses within z.ordered n old.0 d i l b intent t u h s y o old.1 at_d old.2 at_u at_y line lt at_s meant less at_t place cause
      | inr fresh ↦
          let m = next w new k j x on at opened f hears caused answers removals tells known.held known.once known.quiet known.lives in
          let u_is : m.t ≡ u = told-is d fresh.0 fresh.3 u (subst (λ (v : ℕ). At d.lists.down v u) fresh.1 at_u) in
          let s_is : m.s ≡ s = said-is d fresh.0 fresh.3 u s u_is at_s in
          let where_it : i ≡ length j.lists.heard = fresh.1 in
          let whole : length j.lists.heard < length j.lists.down = At-within j.lists.down (length j.lists.heard) m.t m.told in
          let at_l : At j.lists.down l t = elim (At-or j.lists.down l) [
            | inl there ↦ subst (λ (v : Told). At j.lists.down l v) (At-one d.lists.down l there.0 t (fresh.3.tells l there.0 there.1) at_t) there.1
            | inr past ↦ absurd (omega (arith, past, less, where_it, whole))
          ] in
          ordered-any w new k j x on at opened f known goes uses z.names created caused m.m m.rest m.t m.s m.told m.up m.is m.hear own d fresh.0 fresh.3 z.again z.seen b l intent t y o at_y (subst (λ (v : Step). At y v.logged (Updated intent o)) fresh.2 line) (ap (λ (v : Sent). v.intent) s_is ∙ meant)
          (omega (arith, less, where_it)) at_l (place ∙ ap (λ (v : Told). v.place) (sym u_is)) cause
    ];
  }

-- ---- events and runs

within-all : (s : Setting) (es : List Event) (stopped : Option Event) (w : World) → IsSetting s → AreEvents es → Runs s es stopped w → AllWithin w
within-all s es stopped w ok are runs n c x on at =
    let r = run-steps s es stopped w ok are runs n (circuit_of c) (At-map circuit_of w.circuits n c on) in
    subst (λ (v : List Line). AreSteps c.lists.heard c.lists.down c.lists.up v) (At-one w.client_logs c.lists.client r.0 x r.2.1 at) r.3.1

module _ (s : Setting) (es : List Event) (w new : World) (ok : IsSetting s) (are : AreEvents es) (folds : FoldsTo Happens (opening s) es w) (e : Event) (more : AreEvents (es ++ e ∷ [])) (happens : Happens w e new) (z : SeenStand w) where
  runs : Runs s es None w
  runs = (w, folds, refl)

  known : Known w
  known = known-runs s es None w ok are runs

  goes : WorldsOn w new
  goes = event-on w new e happens

  uses : ClientsUse w new
  uses = use-event w new e known.stands known.quiet happens

  within : AllWithin w
  within = within-all s es None w ok are runs

  told_new : AllToldLive new
  told_new = run-told-live s (es ++ e ∷ []) None new ok more (new, folds-snoc es (opening s) w new e folds happens, refl)

  step-stand : (k : ℕ) (f : Happens w (event.ClientStep k) new) → IsHearing w new k f.0.j f.0.x → SeenStand new
  step-stand k f hearing =
      stand-hearing w new k f.0.j f.0.x f.0.joins.at f.0.joins.client f.0.is_open hearing
      (runs-hear s es None w ok are runs) (runs-caused s es None w ok are runs) (reached-answer w (s, es, None, ok, runs)) (run-removals s es None w ok runs) (run-tells s es None w new k ok are runs f)
      known goes uses (reached-created w (s, es, None, ok, runs)) within told_new z

  quiet : ReadsNone w new → SeenStand new
  quiet reads = stand-quiet w new known goes uses within z reads

  pub event-seen : SeenStand new
  event-seen = each-event (SeenStand new) w new (λ g. quiet (none-grown w new g))
      (λ k f. elim (step-grown w new k f.0.j f.0.y f.1.0 f.0.joins.at f.1.1) [
        | inl handles ↦ quiet (none-handled w new k f.0.j f.0.y f.0.joins.at handles)
        | inr g ↦ quiet (none-grown w new g)
      ])
      (λ k f. elim (hearing-or w new k f.0.j f.0.x f.0.joins.at f.0.joins.client f.1) [
        | inl hearing ↦ step-stand k f hearing
        | inr g ↦ quiet (none-grown w new g)
      ])
      (λ i f. elim (made-or w new i f) [
        | inl made ↦ quiet (none-made w new i f.0.x f.0.at made)
        | inr g ↦ quiet (none-grown w new g)
      ])
      (λ i f. quiet (subst (λ (v : World). ReadsNone w v) (sym f.1) (none-grown w (begun-mid w new i f.0.x f.1) (begun-grown w new i f.0.x f.1)))) e happens

after-seen : (s : Setting) (es rest : List Event) (w new : World) → IsSetting s → AreEvents es → AreEvents rest → FoldsTo Happens (opening s) es w → FoldsTo Happens w rest new → SeenStand w → SeenStand new
after-seen s es [] w new ok are more folds same z = subst (λ (v : World). SeenStand v) same z
after-seen s es (e ∷ rest) w new ok are more folds (mid, one, others) z =
    let longer : AreEvents (es ++ e ∷ []) = are-snoc es e are (more 0 e refl) in
    after-seen s (es ++ e ∷ []) rest mid new ok longer (λ i f at. more (suc i) f at) (folds-snoc es (opening s) w mid e folds one) others
    (event-seen s es w mid ok are folds e longer one z)

opening-seen : (s : Setting) → SeenStand (opening s)
opening-seen s = record {
  names = λ i x at k l e f at_k at_l same.
      let r = numbered-place 0 (client_begun (addresses s.servers) 0) s.clients i x at in
      absurd (none_at k e (subst (λ (v : ClientSide). At v.names.subscriptions k e) r.2 at_k));
  again = λ n c i a sid k number t h s q at. absurd (none_at n c at);
  seen = λ n c i a number b t h s at. absurd (none_at n c at);
  ordered = λ n c i l b intent t u h s x o at. absurd (none_at n c at);
}

pub run-seen : (s : Setting) (es : List Event) (stopped : Option Event) (w : World) → IsSetting s → AreEvents es → Runs s es stopped w → SeenStand w
run-seen s es stopped w ok are (mid, folds, stops) = stop stopped stops
  where
    all : SeenStand mid
    all = after-seen s [] es (opening s) mid ok (λ i e at. absurd (none_at i e at)) are refl folds (opening-seen s)

    stop : (stopped : Option Event) → StopsAt mid stopped w → SeenStand w
    stop (Some (event.Tick moment)) stops = elim stops [
      | inl same ↦ subst (λ (v : World). SeenStand v) (sym same) all
      | inr ticked ↦
          let known : Known mid = known-runs s es None mid ok are (mid, folds, refl) in
          let g = ticks-grown moment mid (clients_below ticked.0) w ticked.3 in
          stand-quiet mid w known (on-grown mid w g) (use-stay mid w (ticks-use moment (clients_below ticked.0) mid w known.quiet ticked.3)) (within-all s es None mid ok are (mid, folds, refl)) all (none-grown mid w g)
    ]
    stop stopped stops = subst (λ (v : World). SeenStand v) (sym stops) all

-- ---- what the statement says

pub run-sees : (s : Setting) (es : List Event) (stopped : Option Event) (w : World) → IsSetting s → AreEvents es → Runs s es stopped w → SubscribersSee w
run-sees s es stopped w ok are runs life x at = record {
  own = λ i intent o there. run-updates-own s es stopped w ok are runs life x at i intent o there;
  in_order = λ i intent o by l a t there lt at_t place cause.
      let c = At-mapped circuit_of w.circuits by.n by.c by.on.0 in
      let stand = run-seen s es stopped w ok are runs in
      let log : At w.client_logs (c.0).lists.client x = subst (λ (v : ℕ). At w.client_logs v x) (sym by.on.1 ∙ ap (λ (v : Circuit). v.client) c.2) at in
      let at_h : At (c.0).lists.heard by.j by.h = subst (λ (v : Circuit). At v.heard by.j by.h) c.2 by.read.1 in
      let at_u : At (c.0).lists.down by.j by.t = subst (λ (v : Circuit). At v.down by.j by.t) c.2 by.read.0 in
      let at_l : At (c.0).lists.down l t = subst (λ (v : Circuit). At v.down l t) c.2 at_t in
      let up : At (c.0).lists.up by.t.place by.own.0 = subst (λ (v : Circuit). At v.up by.t.place by.own.0) c.2 by.own.1 in
      let logged : by.h.logged ≡ i = by.read.2 in
      let after_it : i < by.h.after = by.read.3 in
      let r = stand.ordered by.n c.0 by.j l a intent t by.t by.h by.own.0 x o c.1 at_h at_u log (subst (λ (v : ℕ). At x v (Updated intent o)) (sym logged) there) (omega (arith, logged, after_it)) up by.own.2 lt at_l place cause in
      let rise : (r.0).after ≤ by.h.logged = ((within-all s es stopped w ok are runs by.n c.0 x c.1 log).rise l by.j r.0 by.h lt r.2 at_h).1 in
      let before_it : (r.0).logged < (r.0).after = r.4 in
      let other = (run-updates-own s es stopped w ok are runs life x at (r.0).logged intent r.1 r.3).0 in (
        (r.0).logged,
        r.1,
        record {
          n = by.n;
          c = by.c;
          on = by.on;
          j = l;
          t = t;
          h = r.0;
          read = (at_t, subst (λ (v : Circuit). At v.heard l r.0) (sym c.2) r.2, refl, r.4);
          own = (by.own.0, subst (λ (v : ℕ). At by.c.up v by.own.0) (sym place) by.own.1, by.own.2);
          held = other.held;
          means = r.5;
        },
        r.3,
        omega (arith, rise, before_it, logged),
        refl,
        refl,
      );
}
