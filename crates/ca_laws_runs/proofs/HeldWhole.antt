-- What is held of all circuits stays so over every event and run, as far as it is known of the
-- messages that servers take.
use Rattle.std.proofs.Common.{◌≡◌, ℕ, suc, inl, inr, true, List, [], ◌∷◌, Option, Some, refl, sym, subst, ◌∙◌}
use Rattle.std.specs.List.{FoldsTo}
use Rattle.ca_text.specs.Place.{At}
use Rattle.ca_text.proofs.Places.{At-one}
use Rattle.ca_model.specs.Speech.{In}
use Rattle.ca_model.specs.ClientEvents.{TicksOne}
use Rattle.ca_model.specs.Events.{Event}
use Rattle.ca_model.specs.Events as event
use Rattle.ca_model.specs.Runs.{AreEvents, Happens, Runs, StopsAt, clients_below}
use Rattle.ca_model.specs.World.{Creation, IsSetting, Joined, RecordSide, ServerSide, Setting, Standing, World, opening}
use Rattle.ca_laws_parts.specs.ServerFits.{AllCaused, ServersFit}
use Rattle.ca_laws_parts.proofs.Causes.{event-caused, opening-caused, runs-caused}
use Rattle.ca_laws_parts.proofs.BytesRuns.{hears-sent}
use Rattle.ca_laws_parts.proofs.ServerSpeaking.{event-servers, opening-servers, runs-hear}
use Rattle.ca_laws_parts.specs.Kept.{kept, sid_at}
use Rattle.ca_laws_parts.proofs.Laters.{fewer-at}
use Rattle.ca_laws_parts.proofs.Puts.{PutIn}
use Rattle.ca_laws_parts.proofs.Thins.{channel-of, kept-there, of-channel, put-facts, records-there, sid-is, there-kept}
use Rattle.ca_laws_parts.proofs.RunsTicks.{keeps-ticks}
use Rattle.ca_laws_parts.specs.Seats.{Sound}
use Rattle.ca_laws_parts.proofs.Every.{ticks-frame}
use Rattle.ca_laws_parts.proofs.Frames.{Frame, frame-keeps}
use Rattle.ca_laws_parts.proofs.WritesLists.{none_at}
use Rattle.ca_laws_runs.specs.HeldAnswering.{AllAnswer}
use Rattle.ca_laws_runs.specs.Held.{AllCircuitsHeld}
use Rattle.ca_laws_runs.specs.Worlds.{ServersStand}
use Rattle.ca_laws_runs.proofs.Replied.{event-answer, opening-answer, reached-answer}
use Rattle.ca_laws_runs.proofs.StepWhole.{event-serves, events-serve, opening-serves, run-serves}
use Rattle.ca_laws_runs.proofs.Holds.{IsTold, event-held}
use Rattle.ca_laws_runs.specs.About.{AllOwn, IsOwnStep, ReadsAbout}
use Rattle.ca_laws_runs.specs.Quiet.{ClientsQuiet}
use Rattle.ca_laws_runs.proofs.Kept.{quiet-happens, quiet-opening, quiet-runs}
use Rattle.ca_laws_runs.proofs.Steps.{client-step-held, notices-tell, reads-about}
use Rattle.ca_laws_runs.specs.Tells.{NoticesTell}

-- ---- an event

module _ (s : Setting) (w new : World) (ok : IsSetting s) (h : ServersStand s w) (told : IsTold w) (quiet : ClientsQuiet w) (all : AllCircuitsHeld w) where
  pub own-event : (e : Event) → Happens w e new → IsOwnStep w e new → AllCircuitsHeld new
  own-event (event.ClientStep k) happens own = client-step-held s w new ok h k happens all told quiet
  own-event (event.ServerStep k) happens own = event-held s w new ok h (event.ServerStep k) happens own told all
  own-event (event.Open i name priority) happens own = event-held s w new ok h (event.Open i name priority) happens tt told all
  own-event (event.Clear i c) happens own = event-held s w new ok h (event.Clear i c) happens tt told all
  own-event (event.Read i c data_type count) happens own = event-held s w new ok h (event.Read i c data_type count) happens tt told all
  own-event (event.Write i c v) happens own = event-held s w new ok h (event.Write i c v) happens tt told all
  own-event (event.WriteNotify i c v) happens own = event-held s w new ok h (event.WriteNotify i c v) happens tt told all
  own-event (event.Subscribe i c data_type count mask) happens own = event-held s w new ok h (event.Subscribe i c data_type count mask) happens tt told all
  own-event (event.Unsubscribe i n) happens own = event-held s w new ok h (event.Unsubscribe i n) happens tt told all
  own-event (event.Collect i r) happens own = event-held s w new ok h (event.Collect i r) happens tt told all
  own-event (event.GiveUp i r) happens own = event-held s w new ok h (event.GiveUp i r) happens tt told all
  own-event (event.ClientDatagram i from bytes) happens own = event-held s w new ok h (event.ClientDatagram i from bytes) happens tt told all
  own-event (event.ServerDatagram i from bytes) happens own = event-held s w new ok h (event.ServerDatagram i from bytes) happens tt told all
  own-event (event.Accept i) happens own = event-held s w new ok h (event.Accept i) happens tt told all
  own-event (event.Up k n) happens own = event-held s w new ok h (event.Up k n) happens tt told all
  own-event (event.Down k n) happens own = event-held s w new ok h (event.Down k n) happens tt told all
  own-event (event.Pump k) happens own = event-held s w new ok h (event.Pump k) happens tt told all
  own-event (event.CutClient k) happens own = event-held s w new ok h (event.CutClient k) happens tt told all
  own-event (event.CutServer k) happens own = event-held s w new ok h (event.CutServer k) happens tt told all
  own-event (event.ClientRestart i) happens own = event-held s w new ok h (event.ClientRestart i) happens tt told all
  own-event (event.ServerRestart i) happens own = event-held s w new ok h (event.ServerRestart i) happens tt told all
  own-event (event.Post i name v mask) happens own = event-held s w new ok h (event.Post i name v mask) happens tt told all
  own-event (event.Finish i name) happens own = event-held s w new ok h (event.Finish i name) happens tt told all
  own-event (event.Remove i name) happens own = event-held s w new ok h (event.Remove i name) happens tt told all
  own-event (event.Add i r) happens own = event-held s w new ok h (event.Add i r) happens tt told all
  own-event (event.Tick moment) happens own = event-held s w new ok h (event.Tick moment) happens tt told all

-- ---- a run

events-own : (s : Setting) (es : List Event) (w new : World) → IsSetting s → FoldsTo Happens w es new → AllOwn w es → AreEvents es → ServersStand s w → ServersFit w → AllCaused w → AllAnswer w → ClientsQuiet w → AllCircuitsHeld w → AllCircuitsHeld new
events-own s [] w new ok same own are h fit caused answer quiet all = subst (λ (z : World). AllCircuitsHeld z) same all
events-own s (e ∷ es) w new ok (mid, one, rest) own are h fit caused answer quiet all =
    events-own s es mid new ok rest (λ n f x y folds at happens. own (suc n) f x y (mid, one, folds) at happens) (λ i x at. are (suc i) x at) (event-serves s w mid e ok one h) (event-servers s w mid e ok (are 0 e refl) h.stands one fit) (event-caused w mid e fit one caused) (event-answer s w mid e h one answer)
    (quiet-happens w mid e h.stands.clients quiet one)
    (own-event s w mid ok h (record { hears = hears-sent w h.stands.streams fit.sent; caused = caused; answer = answer }) quiet all e one (own 0 e w mid refl refl one))

-- ---- a tick that was not handed to all clients

-- what is kept after events that touch no server was kept before
frame-kept : (s : Setting) (w new : World) → Sound s w → Sound s new → Frame w new → (l p : ℕ) → In (kept new l) p → In (kept w l) p
frame-kept s w new sound sound_new f l p there =
    let k = kept-there new l p there in
    let b = f.back l k.0 k.1 in
    let opened : b.0.lists.server_open ≡ true = sym b.2.is_open ∙ k.2 in
    let seat = sound_new.seated.each l k.0 k.1 k.2 in
    let at_y : At w.servers b.0.server seat.y = subst (λ (m : ℕ). At w.servers m seat.y) b.2.later.server (subst (λ (ys : List ServerSide). At ys k.0.server seat.y) f.servers seat.at) in
    there-kept w l p b.0 b.1 opened (elim k.3 [
      | inl (q, put, circuit, channel, is) ↦
          let mine : PutIn seat.y.records q = subst (λ (rs : List RecordSide). PutIn rs q) (records-there new k.0 seat.y seat.at) put in
          let facts = put-facts s w b.0.server seat.y q sound at_y mine in
          let one : facts.c ≡ b.0 = At-one w.circuits l facts.c b.0 (subst (λ (m : ℕ). At w.circuits m facts.c) circuit facts.on) b.1 in
          let sent : At b.0.lists.up q.place facts.s = subst (λ (z : Joined). At z.lists.up q.place facts.s) one facts.sent in
          let x = channel-of k.0 q.place channel in
          let sids : sid_at k.0.lists q.place ≡ sid_at b.0.lists q.place = sid-is k.0.lists q.place facts.s (b.2.later.up q.place facts.s sent) ∙ sym (sid-is b.0.lists q.place facts.s sent) in
          inl (
            q,
            subst (λ (rs : List RecordSide). PutIn rs q) (sym (records-there w b.0 seat.y at_y)) mine,
            circuit,
            of-channel b.0 q.place x.0 (subst (λ (xs : List Creation). In xs x.0) b.2.creations x.1) (x.2 ∙ sids) x.3,
            is,
          )
      | inr (inl (st, in_it, is)) ↦ inr (inl (st, subst (λ (xs : List Standing). In xs st) b.2.standing in_it, is))
      | inr (inr (x, in_it, is)) ↦ inr (inr (x, subst (λ (xs : List Creation). In xs x) b.2.creations in_it, is))
    ])

pub ticks-held : (s : Setting) (moment : ℕ) (clients : List ℕ) (w new : World) → Sound s w → FoldsTo (TicksOne moment) w clients new → AllCircuitsHeld w → AllCircuitsHeld new
ticks-held s moment clients w new sound ticks all l d at =
    let f : Frame w new = ticks-frame moment w clients new ticks in
    let b = f.back l d at in
    fewer-at (kept w l) (kept new l) new l (frame-kept s w new sound (frame-keeps s w new f sound) f l) (keeps-ticks (kept w l) moment l clients w new ticks (all l b.0 b.1))

stops-held : (s : Setting) (mid : World) (stopped : Option Event) (w : World) → Sound s mid → StopsAt mid stopped w → AllCircuitsHeld mid → AllCircuitsHeld w
stops-held s mid (Some (event.Tick moment)) w sound stops all = elim stops [
  | inl same ↦ subst (λ (z : World). AllCircuitsHeld z) (sym same) all
  | inr ticked ↦ ticks-held s moment (clients_below ticked.0) mid w sound ticked.3 all
]
stops-held s mid stopped w sound stops all = subst (λ (z : World). AllCircuitsHeld z) (sym stops) all

pub run-own : (s : Setting) (es : List Event) (stopped : Option Event) (w : World) → IsSetting s → AreEvents es → Runs s es stopped w → AllOwn (opening s) es → AllCircuitsHeld w
run-own s es stopped w ok are runs own =
    stops-held s runs.0 stopped w (events-serve s es (opening s) runs.0 ok runs.1 (opening-serves s ok)).stands.sound runs.2
    (events-own s es (opening s) runs.0 ok runs.1 own are (opening-serves s ok) (opening-servers s ok) (opening-caused s) (opening-answer s) (quiet-opening s) (λ l j at. absurd (none_at l j at)))

-- what a run told
told-of : (s : Setting) (es : List Event) (stopped : Option Event) (w : World) → IsSetting s → AreEvents es → Runs s es stopped w → IsTold w
told-of s es stopped w ok are runs = record { hears = runs-hear s es stopped w ok are runs; caused = runs-caused s es stopped w ok are runs; answer = reached-answer w (s, es, stopped, ok, runs) }

pub after-own : (s : Setting) (es : List Event) (stopped : Option Event) (w new : World) (e : Event) → IsSetting s → AreEvents es → Runs s es stopped w → Happens w e new → IsOwnStep w e new → AllCircuitsHeld w → AllCircuitsHeld new
after-own s es stopped w new e ok are runs happens own all =
    own-event s w new ok (run-serves s es stopped w ok runs) (told-of s es stopped w ok are runs) (quiet-runs s es stopped w runs) all e happens own

pub after-reads : (s : Setting) (es : List Event) (stopped : Option Event) (w new : World) (k : ℕ) → IsSetting s → AreEvents es → Runs s es stopped w → Happens w (event.ClientStep k) new → AllCircuitsHeld w → ReadsAbout w k
after-reads s es stopped w new k ok are runs happens all =
    reads-about s w new ok (run-serves s es stopped w ok runs) k happens all (told-of s es stopped w ok are runs) (quiet-runs s es stopped w runs)

pub after-tells : (s : Setting) (es : List Event) (stopped : Option Event) (w new : World) (k : ℕ) → IsSetting s → AreEvents es → Runs s es stopped w → Happens w (event.ClientStep k) new → AllCircuitsHeld w → NoticesTell w k
after-tells s es stopped w new k ok are runs happens all =
    notices-tell s w new ok (run-serves s es stopped w ok runs) k happens all (told-of s es stopped w ok are runs) (quiet-runs s es stopped w runs)
