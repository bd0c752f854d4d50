-- What holds of servers and circuits, over every event and run; and what is held of circuits.
use Rattle.std.proofs.Common.{◌≡◌, ℕ, inl, inr, true, List, [], ◌∷◌, length, Option, Some, refl, sym, ap, subst, ◌∙◌}
use Rattle.std.specs.List.{FoldsTo}
use Rattle.ca_arena.specs.declared.handle.Handle.{Handle}
use Rattle.ca_link.specs.Link.{with_rest}
use Rattle.ca_text.specs.declared.command.Command.TheVariants as command
use Rattle.ca_text.specs.Place.{At}
use Rattle.ca_text.proofs.Places.{At-one, At-within}
use Rattle.ca_wire.specs.Fields.{Fields}
use Rattle.ca_model.specs.ServerSteps.{HasEnd, Stepped, knows}
use Rattle.ca_model.specs.ServerSteps as stepped
use Rattle.ca_model.specs.Speech.{In, Is}
use Rattle.ca_model.specs.Events.{Event}
use Rattle.ca_model.specs.Events as event
use Rattle.ca_model.specs.Runs.{Happens, Runs, StopsAt, clients_below}
use Rattle.ca_model.specs.ServerEvents.{ServerStepped, StepHandles}
use Rattle.ca_model.specs.World.{IsSetting, Joined, ServerSide, Setting, World, opening}
use Rattle.ca_laws_parts.specs.Runs.{IsReached}
use Rattle.ca_laws_parts.proofs.BytesRuns.{event-stands, opening-stands, runs-stand, runs-take, takes-sent}
use Rattle.ca_laws_parts.specs.Flows.{IsCidOf}
use Rattle.ca_laws_parts.specs.Replies.{IsCidAt}
use Rattle.ca_laws_parts.specs.Awaited.{KeepsAwaited}
use Rattle.ca_laws_parts.specs.Kept.{kept}
use Rattle.ca_laws_parts.proofs.KeptFinishes.{finish-keeps-held}
use Rattle.ca_laws_parts.proofs.Laters.{calm-keeps, fewer-at}
use Rattle.ca_laws_parts.proofs.Removals.{remove-keeps-held}
use Rattle.ca_laws_parts.proofs.KeptRuns.{channels-event, channels-run, messages-event, messages-run, numbers-event, numbers-run, opening-channels, opening-messages, opening-numbers, pump-keeps-held, step-others, step-were}
use Rattle.ca_laws_parts.proofs.Thins.{kept-from, kept-there}
use Rattle.ca_laws_parts.specs.Calm.{IsCalm}
use Rattle.ca_laws_parts.specs.Circuit.{HeldAt}
use Rattle.ca_laws_parts.proofs.RunsServerSteps.{keeps-unhandled, own-handled}
use Rattle.ca_laws_parts.specs.Seats.{TakesSent}
use Rattle.ca_laws_parts.proofs.Every.{event-sound, ticks-frame}
use Rattle.ca_laws_parts.proofs.Frames.{Frame}
use Rattle.ca_laws_parts.proofs.WritesLists.{none_at}
use Rattle.ca_laws_parts.proofs.SaysRuns.{event-in-step, opening-in-step, run-in-step}
use Rattle.ca_laws_runs.specs.Puts.{AllPuts}
use Rattle.ca_laws_runs.specs.Worlds.{IsOther, IsOwnNext, ServersStand}
use Rattle.ca_laws_runs.proofs.Awaited.{keeps-awaited}
use Rattle.ca_laws_runs.proofs.Given.{puts-stay, stays-same}
use Rattle.ca_laws_runs.proofs.Own.{own-gone}
use Rattle.ca_laws_runs.proofs.Stand.{closes, event-puts}

-- ---- every event, and every run

pub takes-next : (s : Setting) (w : World) → ServersStand s w → TakesSent w
takes-next s w h = takes-sent w h.stands.streams h.stands.fit.sent

pub opening-serves : (s : Setting) → IsSetting s → ServersStand s (opening s)
opening-serves s ok = record {
  stands = opening-stands s ok;
  in_step = opening-in-step s;
  messages = opening-messages s;
  numbers = opening-numbers s;
  channels = opening-channels s;
  puts = λ n c y e at. absurd (none_at n c at);
}

pub event-serves : (s : Setting) (w new : World) (e : Event) → IsSetting s → Happens w e new → ServersStand s w → ServersStand s new
event-serves s w new e ok happens h =
    let takes : TakesSent w = takes-next s w h in
    record {
      stands = event-stands s w new e ok happens h.stands;
      in_step = event-in-step s w new e takes happens h.stands.sound h.in_step;
      messages = messages-event s w new e ok takes happens h.stands.sound h.messages;
      numbers = numbers-event s w new e ok takes happens h.stands.sound h.numbers;
      channels = channels-event s w new e takes happens h.stands.sound h.channels;
      puts = event-puts s w new e ok takes h.stands.sound h.messages h.channels h.puts happens;
    }

pub events-serve : (s : Setting) (es : List Event) (w new : World) → IsSetting s → FoldsTo Happens w es new → ServersStand s w → ServersStand s new
events-serve s [] w new ok same h = subst (λ (z : World). ServersStand s z) same h
events-serve s (e ∷ es) w new ok (mid, one, rest) h = events-serve s es mid new ok rest (event-serves s w mid e ok one h)

-- events that touch no server
frame-puts : (w new : World) → Frame w new → AllPuts w → AllPuts new
frame-puts w new f all n d y e at there opened has =
    let c = f.back n d at in
    puts-stay y n e e c.0 d (stays-same y n e e c.0 d refl c.2.later.handle c.2.later.up c.2.creations)
    (all n c.0 y e c.1 (subst (λ (m : ℕ). At w.servers m y) c.2.later.server (subst (λ (l : List ServerSide). At l d.server y) f.servers there)) (sym c.2.is_open ∙ opened)
    (subst (λ (h : Handle). HasEnd y.core h e) c.2.later.handle has))

stops-puts : (mid : World) (stopped : Option Event) (w : World) → StopsAt mid stopped w → AllPuts mid → AllPuts w
stops-puts mid (Some (event.Tick moment)) w stops all = elim stops [
  | inl same ↦ subst (λ (z : World). AllPuts z) (sym same) all
  | inr ticked ↦ frame-puts mid w (ticks-frame moment mid (clients_below ticked.0) w ticked.3) all
]
stops-puts mid stopped w stops all = subst (λ (z : World). AllPuts z) (sym stops) all

pub run-serves : (s : Setting) (es : List Event) (stopped : Option Event) (w : World) → IsSetting s → Runs s es stopped w → ServersStand s w
run-serves s es stopped w ok runs =
    let takes = runs-take s es ok in
    record {
      stands = runs-stand s es stopped w ok runs;
      in_step = run-in-step s es stopped w ok runs takes;
      messages = messages-run s es stopped w ok runs takes;
      numbers = numbers-run s es stopped w ok runs takes;
      channels = channels-run s es stopped w ok runs takes;
      puts = stops-puts runs.0 stopped w runs.2 (events-serve s es (opening s) runs.0 ok runs.1 (opening-serves s ok)).puts;
    }

-- ---- worlds to which runs lead

pub reached-serves : (w : World) → IsReached w → (s : Setting) × IsSetting s × ServersStand s w
reached-serves w (s, es, stopped, ok, runs) = (s, ok, run-serves s es stopped w ok runs)

pub reached-awaited : (w : World) → IsReached w → KeepsAwaited w
reached-awaited w reached = (let r = reached-serves w reached in keeps-awaited r.0 w r.2.stands.sound r.2.stands.handles r.2.puts)

-- ---- what is held of a circuit that is there

module _ (s : Setting) (w new : World) (l : ℕ) (ok : IsSetting s) (h : ServersStand s w) where
  finish-held : (i : ℕ) (name : List ℕ) → Happens w (event.Finish i name) new → HeldAt (kept w l) w l → HeldAt (kept new l) new l
  finish-held i name happens held =
      finish-keeps-held s w new i l name ok (takes-next s w h) h.stands.sound h.messages (keeps-awaited s w h.stands.sound h.stands.handles h.puts) happens held

  -- a step of a server's end that handles none, on its own circuit too
  pub unhandled-held : (k : ℕ) (did : Stepped) (happens : Happens w (event.ServerStep k) new) → (did ≡ stepped.Handled → ⊥) → ServerStepped w k happens.0.j happens.0.y did new → HeldAt (kept w l) w l → HeldAt (kept new l) new l
  unhandled-held k did happens not f held = fewer-at (kept w l) (kept new l) new l (less did not f) (keeps-unhandled (kept w l) w new k l happens.0.j happens.0.y did happens.0.joins.at not f held)
    where
      same : (p : ℕ) → new ≡ w → In (kept new l) p → In (kept w l) p
      same p is at = subst (λ (z : World). In (kept z l) p) is at

      less : (did : Stepped) → (did ≡ stepped.Handled → ⊥) → ServerStepped w k happens.0.j happens.0.y did new → (p : ℕ) → In (kept new l) p → In (kept w l) p
      less stepped.Handled not f p at = absurd (not refl)
      less stepped.NeedBytes not f p at = same p f.3 at
      less stepped.OutputFull not f p at = same p f.3 at
      less (stepped.Closed cause left) not f p at = elim (kept-from s w new (event.ServerStep k) l p ok (takes-next s w h) h.stands.sound happens (At-within w.circuits l held.0 held.2) at) [
        | inl old ↦ old
        | inr own ↦
            let c = closes w new k happens.0.j happens.0.y cause left happens.0.joins.at f in
            let t = kept-there new l p at in
            let one : t.0 ≡ c.0 = At-one new.circuits k t.0 c.0 (subst (λ (m : ℕ). At new.circuits m t.0) own.0 t.1) c.1 in
            absurd (c.2 (ap (λ (z : Joined). z.lists.server_open) (sym one) ∙ t.2))
      ]

  -- and one that handles one, on its own circuit
  pub own-held : (k : ℕ) (j : Joined) (y : ServerSide) (happens : Happens w (event.ServerStep k) new) (f : StepHandles w k j y new) → At w.circuits k j → At w.servers j.server y → j.lists.server_open ≡ true → IsOwnNext w new k j y f
      → HeldAt (kept w k) w k → HeldAt (kept new k) new k
  own-held k j y happens f on at opened known held =
      let next = f.steps.0 in
      let sent = takes-next s w h k j y f.e next.m next.rest on at opened f.has next.takes in
      own-handled (kept w k) w new k j y f on (kept new k)
      (record {
        s = sent.0;
        at = sent.1;
        is = sent.2;
        fits = next.takes.1.good.header;
        writes = subst (λ (m : Fields). Is command.Write m → (cid : ℕ) → IsCidAt (knows y.core (record f.e { link = with_rest next.rest f.e.link })) m.p1 cid → IsCidOf j.lists.up (length j.lists.handled) sent.0.intent cid) sent.2 (known.writes sent.0 sent.1);
        were = λ p there. step-were s w new k p j ok (takes-next s w h) h.stands.sound happens on there;
        gone = λ r one there. own-gone s w new k j y f on at opened h.stands.sound (event-sound s w new (event.ServerStep k) ok (takes-next s w h) happens h.stands.sound) h.messages r one there;
        over = λ p r at_r lt ends there. known.over sent.0 r p sent.1 at_r lt ends there;
      })
      held

  pub others-held : (k : ℕ) (j : Joined) (y : ServerSide) → Happens w (event.ServerStep k) new → StepHandles w k j y new → At w.circuits k j → (l ≡ k → ⊥) → HeldAt (kept w l) w l → HeldAt (kept new l) new l
  others-held k j y happens f on other held = step-others s w new k l j y ok (takes-next s w h) h.stands.sound happens on f other held

  calm-held : (e : Event) → IsCalm e → Happens w e new → HeldAt (kept w l) w l → HeldAt (kept new l) new l
  calm-held e calm happens held = calm-keeps s w new l e ok (takes-next s w h) h.stands.sound h.stands.clients calm happens held

  pub other-held : (e : Event) → IsOther e → Happens w e new → HeldAt (kept w l) w l → HeldAt (kept new l) new l
  other-held (event.ClientStep k) other happens held = absurd other
  other-held (event.ServerStep k) other happens held = absurd other
  other-held (event.Pump k) other happens held = pump-keeps-held s w new k l ok (takes-next s w h) h.stands.sound h.in_step h.messages h.numbers happens held
  other-held (event.Finish i name) other happens held = finish-held i name happens held
  other-held (event.Remove i name) other happens held = remove-keeps-held s w new i l name ok (takes-next s w h) h.stands.sound h.messages h.channels happens held
  other-held (event.Open i name priority) other happens held = calm-held (event.Open i name priority) tt happens held
  other-held (event.Clear i c) other happens held = calm-held (event.Clear i c) tt happens held
  other-held (event.Read i c data_type count) other happens held = calm-held (event.Read i c data_type count) tt happens held
  other-held (event.Write i c e) other happens held = calm-held (event.Write i c e) tt happens held
  other-held (event.WriteNotify i c e) other happens held = calm-held (event.WriteNotify i c e) tt happens held
  other-held (event.Subscribe i c data_type count mask) other happens held = calm-held (event.Subscribe i c data_type count mask) tt happens held
  other-held (event.Unsubscribe i n) other happens held = calm-held (event.Unsubscribe i n) tt happens held
  other-held (event.Collect i r) other happens held = calm-held (event.Collect i r) tt happens held
  other-held (event.GiveUp i r) other happens held = calm-held (event.GiveUp i r) tt happens held
  other-held (event.ClientDatagram i from bytes) other happens held = calm-held (event.ClientDatagram i from bytes) tt happens held
  other-held (event.ServerDatagram i from bytes) other happens held = calm-held (event.ServerDatagram i from bytes) tt happens held
  other-held (event.Accept i) other happens held = calm-held (event.Accept i) tt happens held
  other-held (event.Up k n) other happens held = calm-held (event.Up k n) tt happens held
  other-held (event.Down k n) other happens held = calm-held (event.Down k n) tt happens held
  other-held (event.CutClient k) other happens held = calm-held (event.CutClient k) tt happens held
  other-held (event.CutServer k) other happens held = calm-held (event.CutServer k) tt happens held
  other-held (event.ClientRestart i) other happens held = calm-held (event.ClientRestart i) tt happens held
  other-held (event.ServerRestart i) other happens held = calm-held (event.ServerRestart i) tt happens held
  other-held (event.Post i name e mask) other happens held = calm-held (event.Post i name e mask) tt happens held
  other-held (event.Add i r) other happens held = calm-held (event.Add i r) tt happens held
  other-held (event.Tick moment) other happens held = calm-held (event.Tick moment) tt happens held

-- ---- the same of worlds to which runs lead

pub reached-others : (w new : World) (l : ℕ) (e : Event) → IsReached w → IsOther e → Happens w e new → HeldAt (kept w l) w l → HeldAt (kept new l) new l
reached-others w new l e reached other happens held = (let r = reached-serves w reached in other-held r.0 w new l r.1 r.2 e other happens held)

pub reached-unhandled : (w new : World) (k l : ℕ) (did : Stepped) (happens : Happens w (event.ServerStep k) new) → IsReached w → (did ≡ stepped.Handled → ⊥) → ServerStepped w k happens.0.j happens.0.y did new → HeldAt (kept w l) w l → HeldAt (kept new l) new l
reached-unhandled w new k l did happens reached not f held = (let r = reached-serves w reached in unhandled-held r.0 w new l r.1 r.2 k did happens not f held)

pub reached-beside : (w new : World) (k l : ℕ) (j : Joined) (y : ServerSide) → IsReached w → Happens w (event.ServerStep k) new → StepHandles w k j y new → At w.circuits k j → (l ≡ k → ⊥) → HeldAt (kept w l) w l → HeldAt (kept new l) new l
reached-beside w new k l j y reached happens f on other held = (let r = reached-serves w reached in others-held r.0 w new l r.1 r.2 k j y happens f on other held)

pub reached-own : (w new : World) (k : ℕ) (j : Joined) (y : ServerSide) (f : StepHandles w k j y new) → IsReached w → Happens w (event.ServerStep k) new → At w.circuits k j → At w.servers j.server y → j.lists.server_open ≡ true → IsOwnNext w new k j y f → HeldAt (kept w k) w k → HeldAt (kept new k) new k
reached-own w new k j y f reached happens on at opened known held = (let r = reached-serves w reached in own-held r.0 w new k r.1 r.2 k j y happens f on at opened known held)

pub reached-gone : (w new : World) (k : ℕ) (j : Joined) (y : ServerSide) (f : StepHandles w k j y new) (m : Fields) → IsReached w → Happens w (event.ServerStep k) new → At w.circuits k j → At w.servers j.server y → j.lists.server_open ≡ true → (f.steps.0).replies ≡ m ∷ [] → In (kept new k) (length j.lists.handled) → ⊥
reached-gone w new k j y f m reached happens on at opened one there =
    let r = reached-serves w reached in
    let takes : TakesSent w = takes-next r.0 w r.2 in
    own-gone r.0 w new k j y f on at opened r.2.stands.sound (event-sound r.0 w new (event.ServerStep k) r.1 takes happens r.2.stands.sound) r.2.messages m one there
