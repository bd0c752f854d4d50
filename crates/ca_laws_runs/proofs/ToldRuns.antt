-- After every run each update in a client's log was told when a message was read, and so was each
-- notice of a channel or a subscription that does not tell Disconnected.
use Rattle.std.proofs.Common.{◌∙◌, ◌≡◌, ℕ, suc, ◌⊎◌, inl, inr, List, [], ◌∷◌, ◌++◌, Option, Some, None, refl, sym, ap, subst}
use Rattle.std.specs.List.{FoldsTo}
use Rattle.ca_dbr.specs.declared.value.Outcome.{Outcome}
use Rattle.ca_dbr.specs.declared.value.Outcome.TheVariants as outcome
use Rattle.ca_text.specs.Place.{At}
use Rattle.ca_text.proofs.Places.{At-mapped}
use Rattle.ca_model.specs.Answers.{Sending, Notice}
use Rattle.ca_model.specs.Answers as answer
use Rattle.ca_model.specs.Client.{Client, connection_at}
use Rattle.ca_model.specs.ClientEnds.{StepsOn}
use Rattle.ca_model.specs.History.{Cause, Intent, Line, OfCircuit, Updated, Noticed, On, Create}
use Rattle.ca_model.specs.ClientEvents.{client_stepped, lines_of, line_of, meant_by, channel_number}
use Rattle.ca_model.specs.Events.{Event}
use Rattle.ca_model.specs.Events as event
use Rattle.ca_model.specs.Runs.{AreEvents, Happens, Runs, StopsAt, clients_below}
use Rattle.ca_model.specs.World.{ClientSetting, IsSetting, Setting, World, opening, Names}
use Rattle.ca_laws_parts.proofs.Causes.{runs-caused}
use Rattle.ca_laws_parts.proofs.ServerSpeaking.{runs-hear}
use Rattle.ca_laws_parts.proofs.WritesLists.{none_at}
use Rattle.ca_laws_runs.specs.OrderSteps.{HaveLives}
use Rattle.ca_laws_runs.specs.ToldLines.{UpdatesAreOwn, LastingAreTold}
use Rattle.ca_laws_runs.proofs.Joint.{are-snoc, folds-snoc, run-held, run-tells}
use Rattle.ca_laws_runs.proofs.Kept.{quiet-runs}
use Rattle.ca_laws_runs.proofs.OnceRuns.{once-runs}
use Rattle.ca_laws_runs.proofs.OrderGrows.{ticks-grown}
use Rattle.ca_laws_runs.proofs.OrderKeeps.{IsHearing, run-lives}
use Rattle.ca_laws_runs.proofs.Replied.{reached-answer}
use Rattle.ca_laws_runs.proofs.ToldGrows.{event-on, on-grown}
use Rattle.ca_laws_runs.proofs.ToldLines.{LinesFrom, lines-all, lines-same, IsSilent}
use Rattle.ca_laws_runs.proofs.ToldQuiet.{Covers, IsHearing as IsHearingEvent, NotUpdated, closed-notices, covers-not, lines-bye, other-lines, ticks-lines, IsGoodbye}
use Rattle.ca_laws_runs.proofs.ToldRemoval.{run-removals}
use Rattle.ca_laws_runs.proofs.ToldSteps.{IsAnUpdate, hearing-news, IsReply, TellsLasting, lasting-news, noticed-outcome}
use Rattle.ca_laws_runs.proofs.ToldUpdates.{AllRead, IsRead, all-read-on, to-reads}

-- a step of a client's end, or another event
hearing-or : (e : Event) → ((k : ℕ) × (e ≡ event.ClientStep k)) ⊎ (IsHearingEvent e → ⊥)
hearing-or (event.ClientStep k) = inl (k, refl)
hearing-or e = inr (λ h. h)

-- What is new in logs: told when a message was read.
abbrev pub NewsOf : (P : Cause → Type 0) (named : Line → Intent → Outcome → Type 0) (w new : World) → Type 0
NewsOf P named w new = (life : ℕ) (y : List Line) (i : ℕ) (line : Line) (intent : Intent) (o : Outcome) → At new.client_logs life y → At y i line → named line intent o
    → ((x : List Line) × At w.client_logs life x × At x i line) ⊎ IsRead P new life y i intent o

-- So it is of what a client tells as it reads a message.
abbrev pub HearsNews : (P : Cause → Type 0) (named : Line → Intent → Outcome → Type 0) → Type 0
HearsNews P named = (s : Setting) (es : List Event) (w new : World) (k : ℕ) → IsSetting s → AreEvents es → Runs s es None w → (happens : Happens w (event.ClientStep k) new) → IsHearing w new k happens.0.j happens.0.x → NewsOf P named w new

module _ (P : Cause → Type 0) (named : Line → Intent → Outcome → Type 0) (Q : Line → Type 0) (covers : Covers Q) (unnamed : (line : Line) (intent : Intent) (o : Outcome) → Q line → named line intent o → ⊥) (hears : HearsNews P named) where
  abbrev News : (w new : World) → Type 0
  News w new = NewsOf P named w new

  -- what reports nothing of this kind
  no-news : (w new : World) → LinesFrom Q w new → News w new
  no-news w new from life y i line intent o at there is = elim (from life y i line at there) [ inl old ↦ inl old | inr none ↦ absurd (unnamed line intent o none is) ]

  module _ (s : Setting) (es : List Event) (w new : World) (ok : IsSetting s) (are : AreEvents es) (runs : Runs s es None w) where
    lives : HaveLives w
    lives = run-lives s es None w runs

    step-news : (k : ℕ) → Happens w (event.ClientStep k) new → News w new
    step-news k happens = go happens.1.0 happens.1.1 happens.1.2 happens.1.3 happens.1.4
      where
        go : (did : answer.Stepped) (sent : List Sending) (core : Client) → StepsOn happens.0.x.core happens.0.j.at_client (connection_at happens.0.x.core happens.0.j.at_client) did sent core → new ≡ client_stepped k happens.0.j happens.0.x did sent core w → News w new
        go answer.NeedBytes sent core steps is = no-news w new (lines-same Q w new (ap (λ (z : World). z.client_logs) is))
        go (answer.Closed c) sent core steps is =
            no-news w new (lines-all Q w new happens.0.x.life (lines_of OfCircuit happens.0.x.names c.notices) (lives.present happens.0.j.client happens.0.x happens.0.joins.client) (ap (λ (z : World). z.client_logs) is)
            (lines-bye Q covers OfCircuit happens.0.x.names c.notices (closed-notices happens.0.x.core happens.0.j.at_client (connection_at happens.0.x.core happens.0.j.at_client) c sent core steps)))
        go (answer.Notices notices) sent core steps is =
            hears s es w new k ok are runs happens (record { notices = notices; sent = sent; core = core; steps = steps; is = is })

    event-news : (e : Event) → Happens w e new → News w new
    event-news e happens = elim (hearing-or e) [
      | inl step ↦ step-news step.0 (subst (λ (x : Event). Happens w x new) step.1 happens)
      | inr other ↦ no-news w new (other-lines Q covers w new e other lives happens)
    ]

    pub event-updates : (e : Event) → Happens w e new → AllRead P named w → AllRead P named new
    event-updates e happens all = all-read-on P named w new (event-on w new e happens) (event-news e happens) all

  after-updates : (s : Setting) (es rest : List Event) (w new : World) → IsSetting s → AreEvents es → AreEvents rest → FoldsTo Happens (opening s) es w → FoldsTo Happens w rest new → AllRead P named w → AllRead P named new
  after-updates s es [] w new ok are more folds same all = subst (λ (v : World). AllRead P named v) same all
  after-updates s es (e ∷ rest) w new ok are more folds (mid, one, others) all =
      after-updates s (es ++ e ∷ []) rest mid new ok (are-snoc es e are (more 0 e refl)) (λ i f at. more (suc i) f at) (folds-snoc es (opening s) w mid e folds one) others
      (event-updates s es w mid ok are (w, folds, refl) e one all)

  opening-updates : (s : Setting) → AllRead P named (opening s)
  opening-updates s life x i line intent o at there is =
      let none : List Line = [] in
      let m = At-mapped (λ (c : ClientSetting). none) s.clients life x at in
      absurd (none_at i line (subst (λ (l : List Line). At l i line) m.2 there))

  pub run-updates : (s : Setting) (es : List Event) (stopped : Option Event) (w : World) → IsSetting s → AreEvents es → Runs s es stopped w → AllRead P named w
  run-updates s es stopped w ok are (mid, folds, stops) = stop stopped stops
    where
      all : AllRead P named mid
      all = after-updates s [] es (opening s) mid ok (λ i e at. absurd (none_at i e at)) are refl folds (opening-updates s)

      stop : (stopped : Option Event) → StopsAt mid stopped w → AllRead P named w
      stop (Some (event.Tick moment)) stops = elim stops [
        | inl same ↦ subst (λ (v : World). AllRead P named v) (sym same) all
        | inr ticked ↦ all-read-on P named mid w (on-grown mid w (ticks-grown moment mid (clients_below ticked.0) w ticked.3)) (no-news mid w (ticks-lines Q covers moment mid (clients_below ticked.0) w (run-lives s es None mid (mid, folds, refl)) ticked.3)) all
      ]
      stop stopped stops = subst (λ (v : World). AllRead P named v) (sym stops) all

-- ---- updates

-- the line says this update
abbrev Tells : Line → Intent → Outcome → Type 0
Tells line intent o = line ≡ Updated intent o

hears-updates : HearsNews IsAnUpdate Tells
hears-updates s es w new k ok are runs happens f =
    hearing-news w new k happens.0.j happens.0.x happens.0.joins.at happens.0.joins.client happens.0.is_open f
    (runs-hear s es None w ok are runs) (runs-caused s es None w ok are runs) (reached-answer w (s, es, None, ok, runs)) (run-removals s es None w ok runs) (run-tells s es None w new k ok are runs happens)
    (run-held s es None w ok are runs) (once-runs s es None w runs) (quiet-runs s es None w runs) (run-lives s es None w runs)

pub run-updates-own : (s : Setting) (es : List Event) (stopped : Option Event) (w : World) → IsSetting s → AreEvents es → Runs s es stopped w → UpdatesAreOwn w
run-updates-own s es stopped w ok are runs life x at i intent o there =
    let r = to-reads IsAnUpdate w life x i intent o (run-updates IsAnUpdate Tells NotUpdated covers-not (λ line a b none is. none a b is) hears-updates s es stopped w ok are runs life x i (Updated intent o) intent o at there refl) in
    (r.0, r.1.0, r.1.1)

-- ---- notices of channels and subscriptions

abbrev NotLasting : Line → Type 0
NotLasting line = (intent : Intent) (o : Outcome) → TellsLasting line intent o → ⊥

silent-none : (line : Line) → IsSilent line → NotLasting line
silent-none line silent intent o is = subst (λ (l : Line). IsSilent l) is.0 silent

goodbye-none : (about : Intent) (n : Names) (o : Notice) → IsGoodbye o → NotLasting (line_of about n o)
goodbye-none about n (answer.Completed q out) bye intent o is = is.2 (sym (noticed-outcome (meant_by n.requests q) intent out o is.0) ∙ bye)
goodbye-none about n (answer.Lost h) bye intent o is = is.2 (sym (noticed-outcome (On (channel_number n h) Create) intent outcome.Disconnected o is.0))
goodbye-none about n (answer.Live h) bye intent o is = absurd bye
goodbye-none about n (answer.Update g q) bye intent o is = absurd bye
goodbye-none about n (answer.SubscriptionEnded g s) bye intent o is = absurd bye
goodbye-none about n (answer.WriteRefused h s) bye intent o is = absurd bye

hears-lasting : HearsNews IsReply TellsLasting
hears-lasting s es w new k ok are runs happens f =
    lasting-news w new k happens.0.j happens.0.x happens.0.joins.at happens.0.joins.client happens.0.is_open f
    (runs-hear s es None w ok are runs) (runs-caused s es None w ok are runs) (reached-answer w (s, es, None, ok, runs)) (run-removals s es None w ok runs) (run-tells s es None w new k ok are runs happens)
    (run-held s es None w ok are runs) (once-runs s es None w runs) (quiet-runs s es None w runs) (run-lives s es None w runs)

pub run-lasting : (s : Setting) (es : List Event) (stopped : Option Event) (w : World) → IsSetting s → AreEvents es → Runs s es stopped w → LastingAreTold w
run-lasting s es stopped w ok are runs life x at i intent o there lasts here =
    to-reads IsReply w life x i intent o
    (run-updates IsReply TellsLasting NotLasting (record { silent = silent-none; goodbye = goodbye-none }) (λ line a b none is. none a b is) hears-lasting s es stopped w ok are runs life x i (Noticed intent o) intent o at there (refl, lasts, here))
