-- Each EVENT_CANCEL was called, and each CLEAR_CHANNEL was, or answers a SERVER_DISCONN: over every
-- event and run.
use Rattle.std.proofs.Common.{◌≡◌, ℕ, suc, ◌+◌, ◌⊎◌, inl, inr, List, [], ◌∷◌, ◌++◌, length, Option, None, Some, refl, sym, ap, ◌∙◌, subst}
use Rattle.std.specs.List.{FoldsTo}
use Rattle.ca_text.specs.Place.{At}
use Rattle.ca_text.proofs.Places.{At-after, At-append, At-last, At-one}
use Rattle.ca_wire.specs.Fields.{Fields}
use Rattle.ca_model.specs.History.{Called, Cancel, Clear, Intent, Line, Nothing, On, Sent, Step, Subscribe}
use Rattle.ca_model.specs.Sends.{IsDisconnect}
use Rattle.ca_model.specs.Speech.{In}
use Rattle.ca_model.specs.Legal.{AnswersDisconnect}
use Rattle.ca_model.specs.ClientEvents.{cancelled}
use Rattle.ca_model.specs.Events.{Event}
use Rattle.ca_model.specs.Events as event
use Rattle.ca_model.specs.Runs.{AreEvents, Happens, Runs, StopsAt, clients_below}
use Rattle.ca_model.specs.World.{IsSetting, Joined, Setting, World, grown, opening}
use Rattle.ca_laws_parts.specs.Runs.{HearsSent}
use Rattle.ca_laws_parts.proofs.RunsEvents.{stands-runs}
use Rattle.ca_laws_parts.proofs.ServerSpeaking.{runs-hear}
use Rattle.ca_laws_parts.proofs.WritesLists.{none_at}
use Rattle.ca_laws_runs.specs.Quiet.{ClientsQuiet}
use Rattle.ca_laws_runs.proofs.ActsNamedRuns.{names-happens, run-names, ticks-clear}
use Rattle.ca_laws_runs.proofs.AddsAnew.{run-renewed-stand}
use Rattle.ca_laws_runs.proofs.CancelsSaid.{CancelsBack, IsCancelling, event-says, ticks-says}
use Rattle.ca_laws_runs.proofs.ClearsSaid.{ClearsBack, TakesLeaving}
use Rattle.ca_laws_runs.proofs.Joint.{are-snoc, folds-snoc}
use Rattle.ca_laws_runs.proofs.Kept.{quiet-runs}
use Rattle.ca_laws_runs.proofs.OnceRuns.{once-runs}
use Rattle.ca_laws_runs.proofs.OnceWorld.{OnceStand, logs-grown}
use Rattle.ca_laws_runs.proofs.OrderGrows.{ticks-grown}
use Rattle.ca_laws_runs.proofs.ToldGrows.{Onward, WorldsOn, event-on, on-grown}
use Rattle.ca_laws_runs.proofs.Using.{AllNamedOnce, named-meant}

-- By this log a cancel was called; and a clear was, or it answers a SERVER_DISCONN.
pub record IsEndCalled (c : Joined) (x : List Line) (k : ℕ) (s : Sent) : Type 0 where
  pub cancels : (a number : ℕ) → s.intent ≡ On a (Cancel number) → In x (Called (On a (Cancel number)) Nothing)
  pub clears : (a : ℕ) → s.intent ≡ On a Clear → In x (Called (On a Clear) Nothing) ⊎ AnswersDisconnect c.lists k s.message.p2

-- So it is of each message that a client sent.
abbrev pub AllEndsCalled : World → Type 0
AllEndsCalled w = (n k : ℕ) (c : Joined) (s : Sent) (x : List Line) → At w.circuits n c → At c.lists.up k s → At w.client_logs c.lists.client x → IsEndCalled c x k s

in-more : (x more : List Line) (l : Line) → In x l → In (x ++ more) l
in-more x more l there = (there.0, At-append x more there.0 l there.1)

-- what a call logs is in the log
in-log : (logs : List (List Line)) (life : ℕ) (line : Line) (old log : List Line) → At logs life old → At (grown life (line ∷ []) logs) life log → In log line
in-log logs life line old log was now = elim ((logs-grown logs life (line ∷ []) old was).0 life log now) [
  | inr other ↦ absurd (other.1 refl)
  | inl grew ↦ (length grew.1.0 + 0, subst (λ (l : List Line). At l (length grew.1.0 + 0) line) (sym grew.1.2) (At-after grew.1.0 (line ∷ []) 0 line refl))
]

-- ---- an event

module _ (w new : World) (once : OnceStand w) (quiet : ClientsQuiet w) (named : AllNamedOnce w) (hears : HearsSent w) (cancels : CancelsBack w new) (clears : ClearsBack (TakesLeaving w) w new) (on : WorldsOn w new) (all : AllEndsCalled w) where
  -- the circuit as it is now
  onward : (n : ℕ) (c d : Joined) → At w.circuits n c → At new.circuits n d → Onward c d
  onward n c d at_c at_d = (let o = on.circuits n c at_c in subst (λ (v : Joined). Onward c v) (At-one new.circuits n o.0 d o.1 at_d) o.2)

  -- what was called by the log that was is by the log that is
  was-called : (life : ℕ) (old log : List Line) (l : Line) → At w.client_logs life old → At new.client_logs life log → In old l → In log l
  was-called life old log l was now there =
      let g = on.logs life old was in
      subst (λ (v : List Line). In v l) (sym (At-one new.client_logs life log (old ++ g.0) now g.1)) (in-more old g.0 l there)

  module _ (n k : ℕ) (d : Joined) (s : Sent) (x : List Line) (at_d : At new.circuits n d) (at_s : At d.lists.up k s) (at_x : At new.client_logs d.lists.client x) where
    -- a message that was there
    module _ (c : Joined) (at_c : At w.circuits n c) (was : At c.lists.up k s) where
      o : Onward c d
      o = onward n c d at_c at_d

      old : (log : List Line) × At w.client_logs c.lists.client log
      old = once.lives n c at_c

      before : IsEndCalled c old.0 k s
      before = all n k c s old.0 at_c was old.1

      kept : (l : Line) → In old.0 l → In x l
      kept l = was-called c.lists.client old.0 x l old.1 (subst (λ (m : ℕ). At new.client_logs m x) o.client at_x)

      answers-on : (cid : ℕ) → AnswersDisconnect c.lists k cid → AnswersDisconnect d.lists k cid
      answers-on cid (j, t, h, at_t, at_h, place, lost) = (j, t, h, o.down j t at_t, o.heard j h at_h, place, lost)

    cancel-now : (a number : ℕ) → s.intent ≡ On a (Cancel number) → IsCancelling w new n k s → In x (Called (On a (Cancel number)) Nothing)
    cancel-now a number is z =
        let t = quiet.tidy z.c.client z.x z.at in
        let sub = t.subscribed z.number (z.g, z.intent) z.named in
        let row : At z.x.names.subscriptions z.number (z.g, On sub.0 (Subscribe z.number)) = subst (λ (i : Intent). At z.x.names.subscriptions z.number (z.g, i)) sub.1 z.named in
        let m = named-meant z.x.names z.x.core t (named z.c.client z.x z.at) z.g z.stood.d sub.0 z.number row z.stood.there in
        let meant : cancelled z.intent ≡ On a (Cancel number) = ap cancelled (sub.1 ∙ sym m.2) ∙ sym z.meant ∙ is in
        let life : d.lists.client ≡ z.x.life = (onward n z.c d z.on at_d).client ∙ once.ends n z.c z.x z.on z.at z.opened in
        let log = once.there z.c.client z.x z.at in
        let now : At (grown z.x.life (Called (cancelled z.intent) Nothing ∷ []) w.client_logs) z.x.life x =
        subst (λ (v : List (List Line) × ℕ). At v.0 v.1 x) (λ i. (z.logs i, life i)) at_x in
        subst (λ (i : Intent). In x (Called i Nothing)) meant (in-log w.client_logs z.x.life (Called (cancelled z.intent) Nothing) log.0 x log.1 now)

    answers-now : (cid : ℕ) → TakesLeaving w n d k cid → AnswersDisconnect d.lists k cid
    answers-now cid z =
        let t = hears n z.c z.x z.held z.m z.rest z.on z.at z.opened z.connected z.first in (
          length z.c.lists.heard,
          t.0,
          z.step,
          (onward n z.c d z.on at_d).down (length z.c.lists.heard) t.0 t.1,
          subst (λ (l : List Step). At l (length z.c.lists.heard) z.step) (sym z.heard) (At-last z.c.lists.heard z.step),
          z.sent,
          subst (λ (m : Fields). IsDisconnect cid m) (sym t.2) z.leaves,
        )

    end-called : IsEndCalled d x k s
    end-called = record {
      cancels = λ a number is. elim (cancels n d k s at_d at_s) [
        | inl other ↦ absurd (other a number is)
        | inr (inl was) ↦ kept was.0 was.1 was.2 _ ((before was.0 was.1 was.2).cancels a number is)
        | inr (inr z) ↦ cancel-now a number is z
      ];
      clears = λ a is. elim (clears n d k s a at_d at_s is) [
        | inl was ↦ elim ((before was.0 was.1 was.2).clears a is) [
          | inl called ↦ inl (kept was.0 was.1 was.2 _ called)
          | inr answers ↦ inr (answers-on was.0 was.1 was.2 s.message.p2 answers)
        ]
        | inr (inl (inl was)) ↦ inl (was-called d.lists.client was.0 x _ was.1 at_x was.2)
        | inr (inl (inr now)) ↦ inl (subst (λ (l : List Line). In l (Called (On a Clear) Nothing)) (At-one new.client_logs d.lists.client now.0 x now.1 at_x) now.2)
        | inr (inr z) ↦ inr (answers-now s.message.p2 z)
      ];
    }

  pub ends-on : AllEndsCalled new
  ends-on n k d s x at_d at_s at_x = end-called n k d s x at_d at_s at_x

-- ---- every run

after-ends : (s : Setting) (es rest : List Event) (w new : World) → IsSetting s → AreEvents es → AreEvents rest → FoldsTo Happens (opening s) es w → FoldsTo Happens w rest new → AllEndsCalled w → AllEndsCalled new
after-ends s es [] w new ok are more folds same all = subst (λ (v : World). AllEndsCalled v) same all
after-ends s es (e ∷ rest) w new ok are more folds (mid, one, others) all =
    let longer : AreEvents (es ++ e ∷ []) = are-snoc es e are (more 0 e refl) in
    let runs : Runs s es None w = (w, folds, refl) in
    let then_so : FoldsTo Happens (opening s) (es ++ e ∷ []) mid = folds-snoc es (opening s) w mid e folds one in
    let once : OnceStand w = once-runs s es None w runs in
    let quiet : ClientsQuiet w = quiet-runs s es None w runs in
    let now : ClientsQuiet mid = quiet-runs s (es ++ e ∷ []) None mid (mid, then_so, refl) in
    let stands = stands-runs s es None w runs in
    after-ends s (es ++ e ∷ []) rest mid new ok longer (λ i f at. more (suc i) f at) then_so others
    (ends-on w mid once quiet (run-renewed-stand s es None w ok are runs).names (runs-hear s es None w ok are runs) (event-says w mid e stands quiet now one) (names-happens w mid e stands quiet now once (run-names s es None w runs) one).1 (event-on w mid e one) all)

pub run-ends-called : (s : Setting) (es : List Event) (stopped : Option Event) (w : World) → IsSetting s → AreEvents es → Runs s es stopped w → AllEndsCalled w
run-ends-called s es stopped w ok are (mid, folds, stops) = stop stopped stops
  where
    all : AllEndsCalled mid
    all = after-ends s [] es (opening s) mid ok (λ i e at. absurd (none_at i e at)) are refl folds (λ n k c q x at. absurd (none_at n c at))

    stop : (stopped : Option Event) → StopsAt mid stopped w → AllEndsCalled w
    stop (Some (event.Tick moment)) stops = elim stops [
      | inl same ↦ subst (λ (v : World). AllEndsCalled v) (sym same) all
      | inr ticked ↦
          let runs : Runs s es None mid = (mid, folds, refl) in
          ends-on mid w (once-runs s es None mid runs) (quiet-runs s es None mid runs) (run-renewed-stand s es None mid ok are runs).names (runs-hear s es None mid ok are runs) (ticks-says moment (clients_below ticked.0) mid w ticked.3)
          (ticks-clear moment (clients_below ticked.0) mid w ticked.3) (on-grown mid w (ticks-grown moment mid (clients_below ticked.0) w ticked.3)) all
    ]
    stop stopped stops = subst (λ (v : World). AllEndsCalled v) (sym stops) all
