-- After every run each notice says what the reply to its own message means, or that this is lost;
-- and no request is open that was sent before its channel was created again.
use Rattle.std.proofs.Common.{◌≡◌, ℕ, suc, ◌⊎◌, inl, inr, List, [], ◌∷◌, ◌++◌, Option, Some, None, refl, sym, ap, subst}
use Rattle.std.specs.List.{FoldsTo}
use Rattle.ca_text.specs.Place.{At}
use Rattle.ca_text.proofs.Places.{At-mapped}
use Rattle.ca_dbr.specs.declared.value.Outcome.{Outcome}
use Rattle.ca_dbr.specs.declared.value.Outcome.TheVariants as outcome
use Rattle.ca_model.specs.Answers.{Sending}
use Rattle.ca_model.specs.Answers as answer
use Rattle.ca_model.specs.Client.{Client, connection_at}
use Rattle.ca_model.specs.ClientEnds.{StepsOn}
use Rattle.ca_model.specs.History.{Line, Noticed}
use Rattle.ca_model.specs.ClientEvents.{TicksOne, client_stepped}
use Rattle.ca_model.specs.Events.{Event}
use Rattle.ca_model.specs.Events as event
use Rattle.ca_model.specs.Runs.{AreEvents, Happens, Runs, StopsAt, clients_below}
use Rattle.ca_model.specs.World.{ClientSetting, IsSetting, Setting, World, opening}
use Rattle.ca_laws_parts.proofs.Causes.{runs-caused}
use Rattle.ca_laws_parts.proofs.BytesRuns.{runs-stand}
use Rattle.ca_laws_parts.proofs.ServerSpeaking.{runs-hear}
use Rattle.ca_laws_parts.proofs.ClientsMore.{stands-ticks}
use Rattle.ca_laws_parts.proofs.RunsEvents.{stands-runs}
use Rattle.ca_laws_parts.specs.Seats.{Sound}
use Rattle.ca_laws_parts.proofs.WritesLists.{none_at}
use Rattle.ca_laws_runs.specs.ToldParts.{NoticesAreTold}
use Rattle.ca_laws_runs.proofs.Going.{go-event, go-live, go-open-all, ticks-open}
use Rattle.ca_laws_runs.proofs.HeardClients.{quiet-ticks}
use Rattle.ca_laws_runs.proofs.Joint.{are-snoc, folds-snoc, run-held, run-sided, run-tells}
use Rattle.ca_laws_runs.proofs.Kept.{quiet-runs}
use Rattle.ca_laws_runs.proofs.LegalRemovals.{run-right}
use Rattle.ca_laws_runs.proofs.Lost.{AllLost, lost-heard, lost-parts, to-lost}
use Rattle.ca_laws_runs.proofs.Making.{sided-ticks}
use Rattle.ca_laws_runs.proofs.OnceClients.{once-ticks}
use Rattle.ca_laws_runs.proofs.OnceRuns.{once-runs}
use Rattle.ca_laws_runs.proofs.OnceSentClients.{sent-ticks}
use Rattle.ca_laws_runs.proofs.OnceSentRuns.{sent-runs}
use Rattle.ca_laws_runs.proofs.OpenRuns.{open-runs}
use Rattle.ca_laws_runs.proofs.OrderGrows.{ticks-grown}
use Rattle.ca_laws_runs.proofs.OrderKeeps.{lives-grown, run-lives}
use Rattle.ca_laws_runs.proofs.Parting.{IsPlain, PartsFrom, closed-parts, event-parts, parts-silent, tick-parts}
use Rattle.ca_laws_runs.proofs.Replied.{reached-answer}
use Rattle.ca_laws_runs.proofs.Spent.{AllSpent, Known, reads-event, spent-on}
use Rattle.ca_laws_runs.proofs.ToldGrows.{WorldsOn, event-on, on-grown}
use Rattle.ca_laws_runs.proofs.ToldLines.{IsSilent, lines-same}
use Rattle.ca_laws_runs.proofs.ToldRemoval.{run-removals}
use Rattle.ca_laws_runs.proofs.ToldNotices.{notices-read}
use Rattle.ca_laws_runs.proofs.ToldSteps.{IsReply}
use Rattle.ca_laws_runs.proofs.ToldUpdates.{to-reads}
use Rattle.ca_laws_runs.proofs.HeldWhole.{ticks-held}

-- ---- what is known of each world to which a run leads

pub known-runs : (s : Setting) (es : List Event) (stopped : Option Event) (w : World) → IsSetting s → AreEvents es → Runs s es stopped w → Known w
known-runs s es stopped w ok are runs = record {
  stands = stands-runs s es stopped w runs;
  quiet = quiet-runs s es stopped w runs;
  once = once-runs s es stopped w runs;
  sent = sent-runs s es stopped w runs;
  live = open-runs s es stopped w runs;
  held = run-held s es stopped w ok are runs;
  sided = run-sided s es stopped w ok are runs;
  lives = run-lives s es stopped w runs;
}

-- so it is while a moment is handed to clients
pub known-ticks : (s : Setting) (moment : ℕ) (clients : List ℕ) (w new : World) → Sound s w → FoldsTo (TicksOne moment) w clients new → Known w → Known new
known-ticks s moment clients w new sound ticks k = record {
  stands = stands-ticks moment clients w new k.stands ticks;
  quiet = quiet-ticks moment clients w new k.quiet ticks;
  once = once-ticks moment clients w new k.quiet k.once ticks;
  sent = sent-ticks moment clients w new k.quiet k.once k.sent ticks;
  live = go-live w new (go-open-all w new (ticks-open moment clients w new ticks)) k.live;
  held = ticks-held s moment clients w new sound ticks k.held;
  sided = sided-ticks moment clients w new k.sided ticks;
  lives = lives-grown w new (ticks-grown moment w clients new ticks) k.lives;
}

pub ticks-snoc : (moment : ℕ) (done : List ℕ) (w mid new : World) (i : ℕ) → FoldsTo (TicksOne moment) w done mid → TicksOne moment mid i new → FoldsTo (TicksOne moment) w (done ++ i ∷ []) new
ticks-snoc moment [] w mid new i same one = (new, subst (λ (v : World). TicksOne moment v i new) (sym same) one, refl)
ticks-snoc moment (k ∷ done) w mid new i (next, first, rest) one = (next, first, ticks-snoc moment done next mid new i rest one)

lost-ticks : (s : Setting) (moment : ℕ) (base : World) → Sound s base → Known base → (done is : List ℕ) (w new : World) → FoldsTo (TicksOne moment) base done w → FoldsTo (TicksOne moment) w is new → AllLost w → AllLost new
lost-ticks s moment base sound known done [] w new ticked same all = subst (λ (v : World). AllLost v) same all
lost-ticks s moment base sound known done (i ∷ is) w new ticked (mid, one, rest) all =
    let k : Known w = known-ticks s moment done base w sound ticked known in
    lost-ticks s moment base sound known (done ++ i ∷ []) is mid new (ticks-snoc moment done base w mid i ticked one) rest
    (lost-parts w mid k (on-grown w mid (ticks-grown moment w (i ∷ []) mid (mid, one, refl))) (tick-parts moment w i mid k.lives k.sent one) all)

-- ---- events and runs

pub plain-or : (e : Event) → IsPlain e ⊎ (((k : ℕ) × (e ≡ event.ClientStep k)) ⊎ ((moment : ℕ) × (e ≡ event.Tick moment)))
plain-or (event.ClientStep k) = inr (inl (k, refl))
plain-or (event.Tick moment) = inr (inr (moment, refl))
plain-or (event.Open i name priority) = inl tt
plain-or (event.Clear i c) = inl tt
plain-or (event.Read i c data_type count) = inl tt
plain-or (event.Write i c v) = inl tt
plain-or (event.WriteNotify i c v) = inl tt
plain-or (event.Subscribe i c data_type count mask) = inl tt
plain-or (event.Unsubscribe i n) = inl tt
plain-or (event.Collect i r) = inl tt
plain-or (event.GiveUp i r) = inl tt
plain-or (event.ClientDatagram i from bytes) = inl tt
plain-or (event.ServerDatagram i from bytes) = inl tt
plain-or (event.Accept i) = inl tt
plain-or (event.Up k n) = inl tt
plain-or (event.Down k n) = inl tt
plain-or (event.ServerStep k) = inl tt
plain-or (event.Pump k) = inl tt
plain-or (event.CutClient k) = inl tt
plain-or (event.CutServer k) = inl tt
plain-or (event.ClientRestart i) = inl tt
plain-or (event.ServerRestart i) = inl tt
plain-or (event.Post i name v mask) = inl tt
plain-or (event.Finish i name) = inl tt
plain-or (event.Remove i name) = inl tt
plain-or (event.Add i r) = inl tt

-- What is lost, and what is over.
pub record LostStand (w : World) : Type 0 where
  pub spent : AllSpent w
  pub lost : AllLost w

module _ (s : Setting) (es : List Event) (w new : World) (ok : IsSetting s) (are : AreEvents es) (runs : Runs s es None w) where
  known : Known w
  known = known-runs s es None w ok are runs

  sound : Sound s w
  sound = (runs-stand s es None w ok runs).sound

  step-lost : (k : ℕ) → Happens w (event.ClientStep k) new → LostStand w → AllLost new
  step-lost k happens l = go happens.1.0 happens.1.1 happens.1.2 happens.1.3 happens.1.4
    where
      on : WorldsOn w new
      on = event-on w new (event.ClientStep k) happens

      parts : PartsFrom w new → AllLost new
      parts p = lost-parts w new known on p l.lost

      go : (did : answer.Stepped) (sent : List Sending) (core : Client) → StepsOn happens.0.x.core happens.0.j.at_client (connection_at happens.0.x.core happens.0.j.at_client) did sent core → new ≡ client_stepped k happens.0.j happens.0.x did sent core w → AllLost new
      go answer.NeedBytes sent core steps is = parts (parts-silent w new (lines-same IsSilent w new (ap (λ (z : World). z.client_logs) is)))
      go (answer.Closed c) sent core steps is =
          parts (subst (λ (v : World). PartsFrom w v) (sym is)
          (closed-parts w k happens.0.j happens.0.x c sent core happens.0.joins.at happens.0.joins.client happens.0.is_open known.lives known.stands steps))
      go (answer.Notices notices) sent core steps is =
          lost-heard w new k happens.0.j happens.0.x happens.0.joins.at happens.0.joins.client happens.0.is_open (record { notices = notices; sent = sent; core = core; steps = steps; is = is })
          (runs-hear s es None w ok are runs) (runs-caused s es None w ok are runs) (reached-answer w (s, es, None, ok, runs)) (run-removals s es None w ok runs) (run-tells s es None w new k ok are runs happens)
          known l.spent (run-right s es None w ok runs) on l.lost

  event-lost : (e : Event) → Happens w e new → LostStand w → AllLost new
  event-lost e happens l = elim (plain-or e) [
    | inl plain ↦
        lost-parts w new known (event-on w new e happens)
        (event-parts w new e plain known.lives known.stands known.live (λ i x c h at named. (known.quiet.tidy i x at).once c h named) happens) l.lost
    | inr (inl step) ↦ step-lost step.0 (subst (λ (x : Event). Happens w x new) step.1 happens) l
    | inr (inr tick) ↦
        let t : Happens w (event.Tick tick.0) new = subst (λ (x : Event). Happens w x new) tick.1 happens in
        subst (λ (v : World). AllLost v) (sym t.1.2) (ticked tick.0 t.1.0 (lost-ticks s tick.0 w sound known [] _ w t.1.0 refl t.1.1 l.lost))
  ]
    where
      ticked : (moment : ℕ) (mid : World) → AllLost mid → AllLost (record mid { moment = moment })
      ticked moment mid all life x i intent at there =
          let r = all life x i intent at there in
          record { n = r.n; k = r.k; a = r.a; ask = r.ask; c = r.c; on = r.on; is = r.is; s = r.s; meant = r.meant; why = r.why }

  pub event-stand : (e : Event) → AreEvents (es ++ e ∷ []) → Happens w e new → LostStand w → LostStand new
  event-stand e more happens l = record {
    spent = spent-on w new known (known-runs s (es ++ e ∷ []) None new ok more (new, folds-snoc es (opening s) w new e (runs-folds runs) happens, refl)) (go-event w new e known.stands happens) (event-on w new e happens) (reads-event w new e (runs-hear s es None w ok are runs) happens) l.spent;
    lost = event-lost e happens l;
  }
    where
      runs-folds : Runs s es None w → FoldsTo Happens (opening s) es w
      runs-folds (mid, folds, same) = subst (λ (v : World). FoldsTo Happens (opening s) es v) (sym same) folds

pub after-lost : (s : Setting) (es rest : List Event) (w new : World) → IsSetting s → AreEvents es → AreEvents rest → FoldsTo Happens (opening s) es w → FoldsTo Happens w rest new → LostStand w → LostStand new
after-lost s es [] w new ok are more folds same all = subst (λ (v : World). LostStand v) same all
after-lost s es (e ∷ rest) w new ok are more folds (mid, one, others) all =
    let longer : AreEvents (es ++ e ∷ []) = are-snoc es e are (more 0 e refl) in
    after-lost s (es ++ e ∷ []) rest mid new ok longer (λ i f at. more (suc i) f at) (folds-snoc es (opening s) w mid e folds one) others
    (event-stand s es w mid ok are (w, folds, refl) e longer one all)

pub opening-lost : (s : Setting) → LostStand (opening s)
opening-lost s = record {
  spent = λ n c x p k a m kind r t q at at_x mine lt at_r at_s is_r is_s meant open_it. none_at n c at;
  lost = λ life x i intent at there.
      let none : List Line = [] in
      let m = At-mapped (λ (c : ClientSetting). none) s.clients life x at in
      absurd (none_at i (Noticed intent outcome.Disconnected) (subst (λ (l : List Line). At l i (Noticed intent outcome.Disconnected)) m.2 there));
}

pub run-lost-stand : (s : Setting) (es : List Event) (stopped : Option Event) (w : World) → IsSetting s → AreEvents es → Runs s es stopped w → AllLost w
run-lost-stand s es stopped w ok are (mid, folds, stops) = stop stopped stops
  where
    all : LostStand mid
    all = after-lost s [] es (opening s) mid ok (λ i e at. absurd (none_at i e at)) are refl folds (opening-lost s)

    stop : (stopped : Option Event) → StopsAt mid stopped w → AllLost w
    stop (Some (event.Tick moment)) stops = elim stops [
      | inl same ↦ subst (λ (v : World). AllLost v) (sym same) all.lost
      | inr ticked ↦ lost-ticks s moment mid (runs-stand s es None mid ok (mid, folds, refl)).sound (known-runs s es None mid ok are (mid, folds, refl)) [] (clients_below ticked.0) mid w refl ticked.3 all.lost
    ]
    stop stopped stops = subst (λ (v : World). AllLost v) (sym stops) all.lost

-- ---- what the statement says

gone-or : (o : Outcome) → (o ≡ outcome.Disconnected) ⊎ (o ≡ outcome.Disconnected → ⊥)
gone-or outcome.Disconnected = inl refl
gone-or outcome.Done = inr (λ e. cc)
gone-or (outcome.Value v m) = inr (λ e. cc)
gone-or (outcome.Displayed v m d) = inr (λ e. cc)
gone-or (outcome.Failed st) = inr (λ e. cc)
gone-or (outcome.Unreadable r) = inr (λ e. cc)

pub run-notices : (s : Setting) (es : List Event) (stopped : Option Event) (w : World) → IsSetting s → AreEvents es → Runs s es stopped w → NoticesAreTold w
run-notices s es stopped w ok are runs life x at i intent o there = elim (gone-or o) [
  | inl gone ↦
      let l = run-lost-stand s es stopped w ok are runs life x i intent at (subst (λ (v : Outcome). At x i (Noticed intent v)) gone there) in
      inr (gone, to-lost w life x i intent l)
  | inr here ↦ inl (to-reads IsReply w life x i intent o (notices-read s es stopped w ok are runs life x i intent o at there here))
]
