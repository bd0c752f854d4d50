-- What is held of all circuits, what clients have of them, and what they said there: over every
-- event and every run.
use Rattle.std.proofs.Common.{◌≡◌, ℕ, suc, ◌≤◌, inl, inr, List, [], ◌∷◌, ◌++◌, length, Option, Some, None, refl, sym, subst}
use Rattle.std.specs.List.{FoldsTo}
use Rattle.std.specs.Prelude.{take}
use Rattle.ca_text.specs.Place.{At}
use Rattle.ca_text.proofs.Places.{At-one, At-snoc}
use Rattle.ca_model.specs.Client.{Client}
use Rattle.ca_model.specs.History.{Sent, Told}
use Rattle.ca_model.specs.Speech.{Id, Speaks}
use Rattle.ca_model.specs.Channels.{Suits}
use Rattle.ca_model.specs.Causes.{TakesOwn}
use Rattle.ca_model.specs.Events.{Event}
use Rattle.ca_model.specs.Events as event
use Rattle.ca_model.specs.Runs.{AreEvents, Happens, IsEvent, Runs, StopsAt, clients_below}
use Rattle.ca_model.specs.World.{IsSetting, Joined, Names, Setting, World, opening}
use Rattle.ca_laws_parts.specs.Runs.{IsReached}
use Rattle.ca_laws_parts.proofs.Causes.{runs-caused}
use Rattle.ca_laws_parts.proofs.ServerSpeaking.{runs-hear}
use Rattle.ca_laws_parts.specs.Kept.{kept}
use Rattle.ca_laws_parts.specs.Circuit.{HeldOn}
use Rattle.ca_laws_runs.specs.Held.{AllCircuitsHeld, IsKnownStep}
use Rattle.ca_laws_runs.specs.Worlds.{ServersStand}
use Rattle.ca_laws_runs.proofs.Holds.{IsTold}
use Rattle.ca_laws_runs.proofs.Replied.{reached-answer}
use Rattle.ca_laws_runs.proofs.StepWhole.{run-serves}
use Rattle.ca_laws_parts.proofs.WritesLists.{At-take, none_at}
use Rattle.ca_laws_runs.specs.About.{AllOwn, IsOwnStep, ReadsAbout}
use Rattle.ca_laws_runs.specs.Quiet.{ClientsQuiet}
use Rattle.ca_laws_runs.specs.Tells.{NoticesTell}
use Rattle.ca_laws_runs.proofs.Kept.{quiet-runs}
use Rattle.ca_laws_runs.proofs.HeldWhole.{after-own, after-reads, after-tells, run-own}
use Rattle.ca_laws_runs.specs.Under.{AllSayRight}
use Rattle.ca_laws_runs.proofs.Created.{reached-created}
use Rattle.ca_laws_runs.proofs.Over.{reached-known}
use Rattle.ca_laws_runs.proofs.SidTells.{event-back}
use Rattle.ca_laws_runs.specs.Sides.{AllSided}
use Rattle.ca_laws_runs.proofs.Clients.{sided-clear, sided-client-restart, sided-cut-client, sided-datagram, sided-down, sided-lists, sided-open, sided-read, sided-subscribe, sided-unsubscribe, sided-up, sided-write, sided-write-notify}
use Rattle.ca_laws_runs.proofs.Ends.{facts-held, from-itself}
use Rattle.ca_laws_runs.proofs.Making.{sided-accept, sided-ticks}
use Rattle.ca_laws_runs.proofs.Served.{back-told, sided-server, step-told}
use Rattle.ca_laws_runs.proofs.Servers.{from-add, from-cut-server, from-finish, from-post, from-pump, from-remove, from-server-restart, from-server-step}
use Rattle.ca_laws_runs.proofs.Stepping.{sided-client-step}

-- ---- what clients say

pub says-of : (w : World) → ClientsQuiet w → AllSided w → AllSayRight w
says-of w quiet s n c at = (let r = s.right n c at in record { under = r.under; between = r.between; subs = quiet.ids n c at })

-- ---- an event

module _ (s : Setting) (es : List Event) (w new : World) (ok : IsSetting s) (are : AreEvents es) (runs : Runs s es None w) (held : AllCircuitsHeld w) (sided : AllSided w) where
  reached : IsReached w
  reached = (s, es, None, ok, runs)

  serves : ServersStand s w
  serves = run-serves s es None w ok runs

  quiet : ClientsQuiet w
  quiet = quiet-runs s es None w runs

  told : IsTold w
  told = record { hears = runs-hear s es None w ok are runs; caused = runs-caused s es None w ok are runs; answer = reached-answer w reached }

  pub own-step : (e : Event) → Happens w e new → IsOwnStep w e new
  own-step (event.ServerStep k) happens = reached-known w new k reached (says-of w quiet sided) happens
  own-step (event.ClientStep k) happens = tt
  own-step (event.Open i name priority) happens = tt
  own-step (event.Clear i c) happens = tt
  own-step (event.Read i c data_type count) happens = tt
  own-step (event.Write i c v) happens = tt
  own-step (event.WriteNotify i c v) happens = tt
  own-step (event.Subscribe i c data_type count mask) happens = tt
  own-step (event.Unsubscribe i n) happens = tt
  own-step (event.Collect i r) happens = tt
  own-step (event.GiveUp i r) happens = tt
  own-step (event.ClientDatagram i from bytes) happens = tt
  own-step (event.ServerDatagram i from bytes) happens = tt
  own-step (event.Accept i) happens = tt
  own-step (event.Up k n) happens = tt
  own-step (event.Down k n) happens = tt
  own-step (event.Pump k) happens = tt
  own-step (event.CutClient k) happens = tt
  own-step (event.CutServer k) happens = tt
  own-step (event.ClientRestart i) happens = tt
  own-step (event.ServerRestart i) happens = tt
  own-step (event.Post i name v mask) happens = tt
  own-step (event.Finish i name) happens = tt
  own-step (event.Remove i name) happens = tt
  own-step (event.Add i r) happens = tt
  own-step (event.Tick moment) happens = tt

  pub held-event : (e : Event) → Happens w e new → AllCircuitsHeld new
  held-event e happens = after-own s es None w new e ok are runs happens (own-step e happens) held

  within : (l : ℕ) (c : Joined) → At w.circuits l c → length c.lists.heard ≤ length c.lists.down
  within l c at =
      let o = held l c at in
      let one : o.0 ≡ c = At-one w.circuits l o.0 c o.2 at in
      (subst (λ (v : Joined). HeldOn (kept w l) o.1.names o.1.core v) one o.4).flows.within

  pub sided-event : (e : Event) → Happens w e new → AllSided new
  sided-event (event.Open i name priority) happens =
      sided-open w new i happens.0.x happens.0.at (quiet.tidy i happens.0.x happens.0.at) serves.stands.clients (facts-held w new held (held-event (event.Open i name priority) happens)) sided name priority happens.1
  sided-event (event.Clear i c) happens =
      sided-clear w new i happens.0.x happens.0.at (quiet.tidy i happens.0.x happens.0.at) serves.stands.clients (facts-held w new held (held-event (event.Clear i c) happens)) sided c happens.0.h happens.1
  sided-event (event.Read i c data_type count) happens =
      sided-read w new i happens.0.x happens.0.at (quiet.tidy i happens.0.x happens.0.at) serves.stands.clients (facts-held w new held (held-event (event.Read i c data_type count) happens)) sided c happens.0.h data_type count happens.0.named happens.1
  sided-event (event.Write i c v) happens =
      sided-write w new i happens.0.x happens.0.at (quiet.tidy i happens.0.x happens.0.at) serves.stands.clients (facts-held w new held (held-event (event.Write i c v) happens)) sided c happens.0.h v happens.1
  sided-event (event.WriteNotify i c v) happens =
      sided-write-notify w new i happens.0.x happens.0.at (quiet.tidy i happens.0.x happens.0.at) serves.stands.clients (facts-held w new held (held-event (event.WriteNotify i c v) happens)) sided c happens.0.h v happens.0.named happens.1
  sided-event (event.Subscribe i c data_type count mask) happens =
      sided-subscribe w new i happens.0.x happens.0.at (quiet.tidy i happens.0.x happens.0.at) serves.stands.clients (facts-held w new held (held-event (event.Subscribe i c data_type count mask) happens)) sided c happens.0.h data_type count mask happens.0.named happens.1
  sided-event (event.Unsubscribe i n) happens =
      sided-unsubscribe w new i happens.0.x happens.0.at (quiet.tidy i happens.0.x happens.0.at) serves.stands.clients (facts-held w new held (held-event (event.Unsubscribe i n) happens)) sided happens.0.s happens.1
  sided-event (event.ClientDatagram i from bytes) happens =
      sided-datagram w new i happens.0.x happens.0.at (quiet.tidy i happens.0.x happens.0.at) serves.stands.clients (facts-held w new held (held-event (event.ClientDatagram i from bytes) happens)) sided from bytes happens.1
  sided-event (event.Collect i r) happens = subst (λ (v : World). AllSided v) (sym happens.1.2) (sided-lists w _ refl (λ k j at. (j, at, refl, refl, refl)) sided)
  sided-event (event.GiveUp i r) happens = subst (λ (v : World). AllSided v) (sym happens.1.2) (sided-lists w _ refl (λ k j at. (j, at, refl, refl, refl)) sided)
  sided-event (event.ServerDatagram i from bytes) happens = subst (λ (v : World). AllSided v) (sym happens.1.2) sided
  sided-event (event.Accept i) happens = sided-accept w new i happens.0.x happens.0.v happens.0.at serves.stands.clients (held-event (event.Accept i) happens) sided happens.1
  sided-event (event.Up k n) happens = (let h = happens.0.0 in sided-up w new k h.j h.x h.joins.at h.joins.client sided n h.y happens.1)
  sided-event (event.Down k n) happens = (let h = happens.0.0 in sided-down w new k h.j h.x h.joins.at h.joins.client sided n h.y happens.1)
  sided-event (event.ClientStep k) happens =
      let h = happens.0 in
      sided-client-step w new k h.j h.x h.joins.at h.joins.client h.is_open serves.stands.clients told quiet held (reached-created w reached k h.j h.joins.at) (facts-held w new held (held-event (event.ClientStep k) happens)) sided happens.1
  sided-event (event.CutClient k) happens = (let h = happens.0 in sided-cut-client w new k h.j h.x h.joins.at h.joins.client sided serves.stands.clients h.is_open happens.1)
  sided-event (event.ClientRestart i) happens = sided-client-restart w new i happens.0.x happens.0.at sided happens.1
  sided-event (event.ServerStep k) happens = (let h = happens.0 in sided-server w new (from-server-step w w new k h.j h.y h.joins.at (from-itself w) happens.1) (step-told w new k happens) within sided)
  sided-event (event.Pump k) happens = (let h = happens.0 in sided-server w new (from-pump w w new k h.j h.y h.joins.at (from-itself w) happens.1) (back-told w new (event-back w new (event.Pump k) tt serves.in_step happens)) within sided)
  sided-event (event.CutServer k) happens =
      let h = happens.0 in
      sided-server w new (from-cut-server w w new k h.j h.y h.joins.at (from-itself w) happens.1) (back-told w new (event-back w new (event.CutServer k) tt serves.in_step happens)) within sided
  sided-event (event.ServerRestart i) happens =
      sided-server w new (from-server-restart w w new i happens.0.y (from-itself w) happens.1) (back-told w new (event-back w new (event.ServerRestart i) tt serves.in_step happens)) within sided
  sided-event (event.Post i name v mask) happens =
      sided-server w new (from-post w w new i happens.0.y (from-itself w) name v mask happens.1) (back-told w new (event-back w new (event.Post i name v mask) tt serves.in_step happens)) within sided
  sided-event (event.Finish i name) happens =
      sided-server w new (from-finish w w new i happens.0.y (from-itself w) name happens.1) (back-told w new (event-back w new (event.Finish i name) tt serves.in_step happens)) within sided
  sided-event (event.Remove i name) happens =
      sided-server w new (from-remove w w new i happens.0.y (from-itself w) name happens.1) (back-told w new (event-back w new (event.Remove i name) tt serves.in_step happens)) within sided
  sided-event (event.Add i r) happens = sided-server w new (from-add w w new i happens.0.y (from-itself w) r happens.1) (back-told w new (event-back w new (event.Add i r) tt serves.in_step happens)) within sided
  sided-event (event.Tick moment) happens =
      subst (λ (v : World). AllSided v) (sym happens.1.2)
      (sided-lists happens.1.0 (record happens.1.0 { moment = moment }) refl (λ k j at. (j, at, refl, refl, refl)) (sided-ticks moment (clients_below (length w.clients)) w happens.1.0 sided happens.1.1))

-- ---- events in a row

pub folds-snoc : (es : List Event) (w mid new : World) (e : Event) → FoldsTo Happens w es mid → Happens mid e new → FoldsTo Happens w (es ++ e ∷ []) new
folds-snoc [] w mid new e same happens = (new, subst (λ (v : World). Happens v e new) (sym same) happens, refl)
folds-snoc (f ∷ es) w mid new e (next, one, rest) happens = (next, one, folds-snoc es next mid new e rest happens)

pub are-snoc : (es : List Event) (e : Event) → AreEvents es → IsEvent e → AreEvents (es ++ e ∷ [])
are-snoc es e are is i f at = elim (At-snoc es e i f at) [
  | inl old ↦ are i f old
  | inr last ↦ subst (λ (v : Event). IsEvent v) (sym last.1) is
]

both-after : (s : Setting) (es rest : List Event) (w new : World) → IsSetting s → AreEvents es → AreEvents rest → FoldsTo Happens (opening s) es w → FoldsTo Happens w rest new → AllCircuitsHeld w × AllSided w → AllCircuitsHeld new × AllSided new
both-after s es [] w new ok are more folds same both = subst (λ (v : World). AllCircuitsHeld v × AllSided v) same both
both-after s es (e ∷ rest) w new ok are more folds (mid, one, others) both =
    both-after s (es ++ e ∷ []) rest mid new ok (are-snoc es e are (more 0 e refl)) (λ i f at. more (suc i) f at) (folds-snoc es (opening s) w mid e folds one) others
    (held-event s es w mid ok are (w, folds, refl) both.0 both.1 e one, sided-event s es w mid ok are (w, folds, refl) both.0 both.1 e one)

opening-sided : (s : Setting) → AllSided (opening s)
opening-sided s = record { sides = λ k j x at. absurd (none_at k j at); right = λ k j at. absurd (none_at k j at) }

pub both-folds : (s : Setting) (es : List Event) (w : World) → IsSetting s → AreEvents es → FoldsTo Happens (opening s) es w → AllCircuitsHeld w × AllSided w
both-folds s es w ok are folds = both-after s [] es (opening s) w ok (λ i e at. absurd (none_at i e at)) are refl folds (λ l j at. absurd (none_at l j at), opening-sided s)

-- ---- runs

own-all : (s : Setting) (es : List Event) → IsSetting s → AreEvents es → AllOwn (opening s) es
own-all s es ok are n e mid new folds at happens =
    let fine : AreEvents (take n es) = λ i f at_f. are i f (At-take n es i f at_f) in
    let both = both-folds s (take n es) mid ok fine folds in
    own-step s (take n es) mid new ok fine (mid, folds, refl) both.0 both.1 e happens

pub run-held : (s : Setting) (es : List Event) (stopped : Option Event) (w : World) → IsSetting s → AreEvents es → Runs s es stopped w → AllCircuitsHeld w
run-held s es stopped w ok are runs = run-own s es stopped w ok are runs (own-all s es ok are)

stops-sided : (mid : World) (stopped : Option Event) (w : World) → StopsAt mid stopped w → AllSided mid → AllSided w
stops-sided mid (Some (event.Tick moment)) w stops sided = elim stops [
  | inl same ↦ subst (λ (v : World). AllSided v) (sym same) sided
  | inr ticked ↦ sided-ticks moment (clients_below ticked.0) mid w sided ticked.3
]
stops-sided mid stopped w stops sided = subst (λ (v : World). AllSided v) (sym stops) sided

pub run-sided : (s : Setting) (es : List Event) (stopped : Option Event) (w : World) → IsSetting s → AreEvents es → Runs s es stopped w → AllSided w
run-sided s es stopped w ok are runs = stops-sided runs.0 stopped w runs.2 (both-folds s es runs.0 ok are runs.1).1

pub run-says : (s : Setting) (es : List Event) (stopped : Option Event) (w : World) → IsSetting s → AreEvents es → Runs s es stopped w → AllSayRight w
run-says s es stopped w ok are runs = says-of w (quiet-runs s es stopped w runs) (run-sided s es stopped w ok are runs)

-- ---- what follows

pub run-known : (s : Setting) (es : List Event) (stopped : Option Event) (w new : World) (k : ℕ) → IsSetting s → AreEvents es → Runs s es stopped w → Happens w (event.ServerStep k) new → IsKnownStep w (event.ServerStep k) new
run-known s es stopped w new k ok are runs happens = reached-known w new k (s, es, stopped, ok, runs) (run-says s es stopped w ok are runs) happens

pub run-reads : (s : Setting) (es : List Event) (stopped : Option Event) (w new : World) (k : ℕ) → IsSetting s → AreEvents es → Runs s es stopped w → Happens w (event.ClientStep k) new → ReadsAbout w k
run-reads s es stopped w new k ok are runs happens = after-reads s es stopped w new k ok are runs happens (run-held s es stopped w ok are runs)

pub run-tells : (s : Setting) (es : List Event) (stopped : Option Event) (w new : World) (k : ℕ) → IsSetting s → AreEvents es → Runs s es stopped w → Happens w (event.ClientStep k) new → NoticesTell w k
run-tells s es stopped w new k ok are runs happens = after-tells s es stopped w new k ok are runs happens (run-held s es stopped w ok are runs)

pub own-flows : (s : Setting) (es : List Event) (stopped : Option Event) (w : World) → IsSetting s → AreEvents es → Runs s es stopped w → (l : ℕ) (c : Joined) → At w.circuits l c → (n : Names) × (x : Client) × HeldOn (kept w l) n x c
own-flows s es stopped w ok are runs l c at =
    let o = run-held s es stopped w ok are runs l c at in
    let one : o.0 ≡ c = At-one w.circuits l o.0 c o.2 at in
    (o.1.names, o.1.core, subst (λ (v : Joined). HeldOn (kept w l) o.1.names o.1.core v) one o.4)

pub run-asked : (s : Setting) (es : List Event) (stopped : Option Event) (w : World) → IsSetting s → AreEvents es → Runs s es stopped w → (l k : ℕ) (c : Joined) (q : Sent) → At w.circuits l c → At c.lists.up k q → Suits q.intent q.message
run-asked s es stopped w ok are runs l k c q at there = (own-flows s es stopped w ok are runs l c at).2.flows.asked k q there

pub run-takes : (s : Setting) (es : List Event) (stopped : Option Event) (w : World) → IsSetting s → AreEvents es → Runs s es stopped w → (l j : ℕ) (c : Joined) (t : Told) (id : Id) → At w.circuits l c → At c.lists.down j t → Speaks t.message id → TakesOwn c.lists j t.place id
run-takes s es stopped w ok are runs l j c t id at there speaks = (own-flows s es stopped w ok are runs l c at).2.flows.own j t id there speaks
