-- What is held of all circuits, over every event and run of which the next messages are known.
use Rattle.std.proofs.Common.{◌≡◌, ℕ, suc, ◌<◌, ◌≤◌, inl, inr, true, List, [], ◌∷◌, length, Option, Some, refl, sym, ap, subst, ◌∙◌, arith}
use Rattle.std.specs.List.{FoldsTo}
use Rattle.std.specs.Prelude.{is_none}
use Rattle.ca_arena.specs.declared.handle.Handle.{Handle}
use Rattle.ca_model.proofs.Standings.{channel-on}
use Rattle.ca_laws_parts.specs.Held.{is_asked}
use Rattle.ca_text.specs.Place.{At}
use Rattle.ca_text.proofs.Places.{At-one, At-or, At-within}
use Rattle.ca_link.specs.Link.{TakesFirst}
use Rattle.ca_wire.specs.Fields.{Fields}
use Rattle.ca_model.specs.Client.{Connection, Phase, channel_on, connection_at}
use Rattle.ca_model.specs.ClientEnds.{after_taking}
use Rattle.ca_model.specs.ServerSteps.{Stepped}
use Rattle.ca_model.specs.ServerSteps as stepped
use Rattle.ca_model.specs.History.{Ask, Intent, Reply, Sent, Told}
use Rattle.ca_model.specs.History as history
use Rattle.ca_model.specs.Speech.{Cid, Id, In, Speaks}
use Rattle.ca_model.specs.Causes.{TakesOwn}
use Rattle.ca_model.specs.Channels.{Suits}
use Rattle.ca_model.specs.ClientEvents.{TicksOne, channel_number}
use Rattle.ca_model.specs.Events.{Event}
use Rattle.ca_model.specs.Events as event
use Rattle.ca_model.specs.Runs.{AreEvents, Happens, HasClientEnd, Runs, StopsAt, clients_below}
use Rattle.ca_model.specs.ServerEvents.{ServerStepped}
use Rattle.ca_model.specs.World.{ClientSide, Creation, IsSetting, Joined, RecordSide, ServerSide, Setting, Standing, World, opening}
use Rattle.ca_laws_parts.specs.Runs.{HearsSent}
use Rattle.ca_laws_parts.specs.ServerFits.{AllCaused, ServersFit}
use Rattle.ca_laws_parts.proofs.Causes.{event-caused, opening-caused, runs-caused}
use Rattle.ca_laws_parts.proofs.BytesRuns.{hears-sent}
use Rattle.ca_laws_parts.proofs.ServerSpeaking.{event-servers, opening-servers, runs-hear}
use Rattle.ca_laws_parts.specs.Kept.{kept, sid_at}
use Rattle.ca_laws_parts.proofs.Laters.{fewer-at, held-then}
use Rattle.ca_laws_parts.proofs.Puts.{PutIn}
use Rattle.ca_laws_parts.proofs.Thins.{channel-of, kept-there, of-channel, put-facts, records-there, sid-is, there-kept}
use Rattle.ca_laws_parts.specs.Circuit.{HeldAt, HeldOn, IsKnown}
use Rattle.ca_laws_parts.proofs.Known.{keeps-known-step}
use Rattle.ca_laws_parts.proofs.NewCircuits.{keeps-accepted}
use Rattle.ca_laws_parts.proofs.RunsTicks.{keeps-ticks}
use Rattle.ca_laws_parts.specs.Says.{AllAsked}
use Rattle.ca_laws_parts.specs.Seats.{Sound}
use Rattle.ca_laws_parts.proofs.Every.{ticks-frame}
use Rattle.ca_laws_parts.proofs.Frames.{Frame, frame-keeps}
use Rattle.ca_laws_parts.proofs.WritesLists.{none_at}
use Rattle.ca_laws_parts.proofs.WritesMoves.{At-below, same-or}
use Rattle.ca_laws_runs.specs.HeldAnswering.{AllAnswer}
use Rattle.ca_laws_runs.specs.Held.{AllCircuitsHeld, AllKnown, IsKnownStep}
use Rattle.ca_laws_runs.specs.Worlds.{ServersStand}
use Rattle.ca_laws_runs.proofs.Circuits.{IsAccept, accept-were, leaves-were}
use Rattle.ca_laws_runs.proofs.Found.{asked-if, cancel-is, clear-is, create-is, found-intent}
use Rattle.ca_laws_runs.proofs.Replied.{event-answer, opening-answer, reached-answer}
use Rattle.ca_laws_runs.proofs.StepWhole.{event-serves, events-serve, opening-serves, other-held, others-held, own-held, run-serves, takes-next, unhandled-held}

-- ---- an event

-- A client takes next what was sent there next; what is no reply is an update or a SERVER_DISCONN;
-- and replies answer their kind.
pub record IsTold (w : World) : Type 0 where
  pub hears : HearsSent w
  pub caused : AllCaused w
  pub answer : AllAnswer w

module _ (s : Setting) (w new : World) (ok : IsSetting s) (h : ServersStand s w) where
  -- a step of a server's end
  step-held : (k l : ℕ) (happens : Happens w (event.ServerStep k) new) → IsKnownStep w (event.ServerStep k) new → HeldAt (kept w l) w l → HeldAt (kept new l) new l
  step-held k l happens known held = go happens.1.0 happens.1.1
    where
      go : (did : Stepped) → ServerStepped w k happens.0.j happens.0.y did new → HeldAt (kept new l) new l
      go stepped.Handled f = elim (same-or l k) [
        | inr other ↦ others-held s w new l ok h k happens.0.j happens.0.y happens f happens.0.joins.at other held
        | inl is ↦
            subst (λ (m : ℕ). HeldAt (kept new m) new m) (sym is)
            (own-held s w new l ok h k happens.0.j happens.0.y happens f happens.0.joins.at happens.0.joins.server happens.0.is_open (known happens.0.j happens.0.y f happens.0.joins.at happens.0.joins.server)
            (subst (λ (m : ℕ). HeldAt (kept w m) w m) is held))
      ]
      go stepped.NeedBytes f = unhandled-held s w new l ok h k stepped.NeedBytes happens (λ e. cc) f held
      go stepped.OutputFull f = unhandled-held s w new l ok h k stepped.OutputFull happens (λ e. cc) f held
      go (stepped.Closed cause left) f = unhandled-held s w new l ok h k (stepped.Closed cause left) happens (λ e. cc) f held

  -- a step of a client's end: the message that it takes is about one that it sent
  module _ (k : ℕ) (happens : Happens w (event.ClientStep k) new) (known : IsKnownStep w (event.ClientStep k) new) (all : AllCircuitsHeld w) (told : IsTold w) where
    abbrev a : HasClientEnd w k
    a = happens.0

    unlike : (n a b : ℕ) → n ≡ a → n ≡ b → (a ≡ b → ⊥) → ⊥
    unlike n a b f g other = other (sym f ∙ g)

    reply-of : (m : Fields) (t : Told) → At a.j.lists.down (length a.j.lists.heard) t → t.message ≡ m → (m.command ≡ 27 → ⊥) → (m.command ≡ 1 → m.payload ≡ []) → t.cause ≡ Reply
    reply-of m t at message gone empty = elim (told.caused.each k a.j a.joins.at (length a.j.lists.heard) t at) [
      | inl reply ↦ reply
      | inr (inl lost) ↦ absurd (gone (ap (λ (z : Fields). z.command) (sym message) ∙ lost))
      | inr (inr update) ↦ absurd (update.1 (ap (λ (z : Fields). z.payload) message ∙ empty (ap (λ (z : Fields). z.command) (sym message) ∙ update.0)))
    ]

    -- what is held of the circuit
    on-own : HeldOn (kept w k) a.x.names a.x.core a.j
    on-own =
        let on = all k a.j a.joins.at in
        let one : on.0 ≡ a.j = At-one w.circuits k on.0 a.j on.2 a.joins.at in
        let who : on.1 ≡ a.x = At-one w.clients a.j.client on.1 a.x (subst (λ (z : Joined). At w.clients z.client on.1) one on.3) a.joins.client in
        subst (λ (z : ClientSide × Joined). HeldOn (kept w k) z.0.names z.0.core z.1) (λ i. (who i, one i)) on.4

    -- a channel on a circuit that is connected was asked for
    asked : (d : Connection) (cid : ℕ) (h2 : Handle) (p : Phase) → connection_at a.x.core a.j.at_client ≡ Some d → channel_on a.x.core a.j.at_client cid ≡ Some (h2, p) → is_asked p ≡ true
    asked d cid h2 p is found =
        let ch = channel-on a.x.core a.j.at_client cid h2 p found in
        asked-if p ((h.stands.clients.sound a.j.client a.x a.joins.client).placed.waiting h2 ch.0 a.j.at_client p ch.1 ch.3 ∙ ap is_none is)

    on-it : (d : Connection) (t : Told) (s2 : Sent) (cid : ℕ) (h2 : Handle) (p : Phase) → connection_at a.x.core a.j.at_client ≡ Some d → At a.j.lists.down (length a.j.lists.heard) t → At a.j.lists.up t.place s2 → Speaks t.message (Cid cid)
        → channel_on a.x.core a.j.at_client cid ≡ Some (h2, p) → (ask : Ask) × (s2.intent ≡ history.On (channel_number a.x.names h2) ask)
    on-it d t s2 cid h2 p is at sent speaks found =
        found-intent (kept w k) a.x.names a.x.core a.j.at_client a.j.lists t s2 cid h2 p (on-own.holds a.is_open).channels on-own.flows at sent speaks found (asked d cid h2 p is found)

    failing : (d : Connection) (m : Fields) (t : Told) (s2 : Sent) (h2 : Handle) (p : Phase) → connection_at a.x.core a.j.at_client ≡ Some d → At a.j.lists.down (length a.j.lists.heard) t → t.message ≡ m → At a.j.lists.up t.place s2 → m.command ≡ 26 → t.cause ≡ Reply
        → channel_on a.x.core a.j.at_client m.p1 ≡ Some (h2, p) → s2.intent ≡ history.On (channel_number a.x.names h2) history.Create
    failing d m t s2 h2 p is at message sent fails reply found =
        let speaks : Speaks t.message (Cid m.p1) = subst (λ (z : Fields). Speaks z (Cid m.p1)) (sym message) (inl (inl (inr (inl fails), refl))) in
        let r = on-it d t s2 m.p1 h2 p is at sent speaks found in
        let ans = told.answer k (length a.j.lists.heard) a.j t a.joins.at at reply in
        let one : ans.0 ≡ s2 = At-one a.j.lists.up t.place ans.0 s2 ans.1 sent in
        let asks : s2.message.command ≡ 18 = subst (λ (z : Sent). z.message.command ≡ 18) one (ans.2.failed (ap (λ (z : Fields). z.command) message ∙ fails)) in
        r.1 ∙ ap (λ (z : Ask). history.On (channel_number a.x.names h2) z) (create-is r.0 s2.message (subst (λ (z : Intent). Suits z s2.message) r.1 (on-own.flows.asked t.place s2 sent)) asks)

    clearing : (d : Connection) (m : Fields) (t : Told) (s2 : Sent) (h2 : Handle) (p : Phase) → connection_at a.x.core a.j.at_client ≡ Some d → At a.j.lists.down (length a.j.lists.heard) t → t.message ≡ m → At a.j.lists.up t.place s2 → m.command ≡ 12 → t.cause ≡ Reply
        → channel_on a.x.core a.j.at_client m.p2 ≡ Some (h2, p) → s2.intent ≡ history.On (channel_number a.x.names h2) history.Clear
    clearing d m t s2 h2 p is at message sent clears reply found =
        let speaks : Speaks t.message (Cid m.p2) = subst (λ (z : Fields). Speaks z (Cid m.p2)) (sym message) (inl (inr (clears, refl))) in
        let r = on-it d t s2 m.p2 h2 p is at sent speaks found in
        let ans = told.answer k (length a.j.lists.heard) a.j t a.joins.at at reply in
        let one : ans.0 ≡ s2 = At-one a.j.lists.up t.place ans.0 s2 ans.1 sent in
        let asks : s2.message.command ≡ 12 = subst (λ (z : Sent). z.message.command ≡ 12) one (ans.2.cleared (ap (λ (z : Fields). z.command) message ∙ clears)) in
        r.1 ∙ ap (λ (z : Ask). history.On (channel_number a.x.names h2) z) (clear-is r.0 s2.message (subst (λ (z : Intent). Suits z s2.message) r.1 (on-own.flows.asked t.place s2 sent)) asks)

    confirming : (m : Fields) (t : Told) (s2 : Sent) → At a.j.lists.down (length a.j.lists.heard) t → t.message ≡ m → At a.j.lists.up t.place s2 → m.command ≡ 1 → t.cause ≡ Reply → (channel number : ℕ) × (s2.intent ≡ history.On channel (history.Cancel number))
    confirming m t s2 at message sent adds reply =
        let ans = told.answer k (length a.j.lists.heard) a.j t a.joins.at at reply in
        let one : ans.0 ≡ s2 = At-one a.j.lists.up t.place ans.0 s2 ans.1 sent in
        cancel-is s2.intent s2.message (on-own.flows.asked t.place s2 sent) (subst (λ (z : Sent). z.message.command ≡ 2) one (ans.2.confirms (ap (λ (z : Fields). z.command) message ∙ adds)))

    heard : (d : Connection) (m : Fields) (rest : List ℕ) → connection_at a.x.core a.j.at_client ≡ Some d → TakesFirst d.link m rest → IsKnown a.x.names (after_taking a.j.at_client rest a.x.core) a.j.at_client a.j.lists m
    heard d m rest is takes =
        let t = told.hears k a.j a.x d m rest a.joins.at a.joins.client a.is_open is takes in
        let on = all k a.j a.joins.at in
        let one : on.0 ≡ a.j = At-one w.circuits k on.0 a.j on.2 a.joins.at in
        let lt : t.0.place < length a.j.lists.up = subst (λ (z : Joined). t.0.place < length z.lists.up) one (on.4.flows.about (length a.j.lists.heard) t.0 (subst (λ (z : Joined). At z.lists.down (length a.j.lists.heard) t.0) (sym one) t.1)) in
        let s = At-below a.j.lists.up t.0.place lt in
        let f = known a.j a.x d m rest t.0 s.0 a.joins.at a.joins.client is takes t.1 s.1 in
        record {
          t = t.0;
          at = t.1;
          is = t.2;
          s = s.0;
          there = s.1;
          reply = λ rights gone empty. reply-of m t.0 t.1 t.2 gone empty;
          own = f.own;
          failed = λ h2 p fails found. (
            failing d m t.0 s.0 h2 p is t.1 t.2 s.1 fails (reply-of m t.0 t.1 t.2 (λ e. unlike m.command 26 27 fails e (λ z. cc)) (λ e. absurd (unlike m.command 26 1 fails e (λ z. cc)))) found,
            f.failed h2 p fails found,
          );
          cleared = λ h2 p clears found. (
            clearing d m t.0 s.0 h2 p is t.1 t.2 s.1 clears (reply-of m t.0 t.1 t.2 (λ e. unlike m.command 12 27 clears e (λ z. cc)) (λ e. absurd (unlike m.command 12 1 clears e (λ z. cc)))) found,
            f.cleared h2 p clears found,
          );
          confirms = λ q adds empty found.
              let r = confirming m t.0 s.0 t.1 t.2 s.1 adds (reply-of m t.0 t.1 t.2 (λ e. unlike m.command 1 27 adds e (λ z. cc)) (λ e. empty)) in
              (r.0, r.1, r.2, f.confirms q r.0 r.1 adds empty found r.2);
          refuses = f.refuses;
        }

    client-held : (l : ℕ) → HeldAt (kept w l) w l → HeldAt (kept new l) new l
    client-held l held =
        held-then s w new (event.ClientStep k) l ok (takes-next s w h) h.stands.sound happens (At-within w.circuits l held.0 held.2) (λ p own. own)
        (keeps-known-step (kept w l) w new k l a.j a.x a.joins.at a.joins.client a.is_open h.stands.clients heard happens.1 held)

  there-held : (e : Event) (l : ℕ) → Happens w e new → IsKnownStep w e new → AllCircuitsHeld w → IsTold w → HeldAt (kept w l) w l → HeldAt (kept new l) new l
  there-held (event.ServerStep k) l happens known all told held = step-held k l happens known held
  there-held (event.ClientStep k) l happens known all told held = client-held k happens known all told l held
  there-held (event.Open i name priority) l happens known all told held = other-held s w new l ok h (event.Open i name priority) tt happens held
  there-held (event.Clear i c) l happens known all told held = other-held s w new l ok h (event.Clear i c) tt happens held
  there-held (event.Read i c data_type count) l happens known all told held = other-held s w new l ok h (event.Read i c data_type count) tt happens held
  there-held (event.Write i c e) l happens known all told held = other-held s w new l ok h (event.Write i c e) tt happens held
  there-held (event.WriteNotify i c e) l happens known all told held = other-held s w new l ok h (event.WriteNotify i c e) tt happens held
  there-held (event.Subscribe i c data_type count mask) l happens known all told held = other-held s w new l ok h (event.Subscribe i c data_type count mask) tt happens held
  there-held (event.Unsubscribe i n) l happens known all told held = other-held s w new l ok h (event.Unsubscribe i n) tt happens held
  there-held (event.Collect i r) l happens known all told held = other-held s w new l ok h (event.Collect i r) tt happens held
  there-held (event.GiveUp i r) l happens known all told held = other-held s w new l ok h (event.GiveUp i r) tt happens held
  there-held (event.ClientDatagram i from bytes) l happens known all told held = other-held s w new l ok h (event.ClientDatagram i from bytes) tt happens held
  there-held (event.ServerDatagram i from bytes) l happens known all told held = other-held s w new l ok h (event.ServerDatagram i from bytes) tt happens held
  there-held (event.Up k n) l happens known all told held = other-held s w new l ok h (event.Up k n) tt happens held
  there-held (event.Down k n) l happens known all told held = other-held s w new l ok h (event.Down k n) tt happens held
  there-held (event.Pump k) l happens known all told held = other-held s w new l ok h (event.Pump k) tt happens held
  there-held (event.CutClient k) l happens known all told held = other-held s w new l ok h (event.CutClient k) tt happens held
  there-held (event.CutServer k) l happens known all told held = other-held s w new l ok h (event.CutServer k) tt happens held
  there-held (event.ClientRestart i) l happens known all told held = other-held s w new l ok h (event.ClientRestart i) tt happens held
  there-held (event.ServerRestart i) l happens known all told held = other-held s w new l ok h (event.ServerRestart i) tt happens held
  there-held (event.Post i name e mask) l happens known all told held = other-held s w new l ok h (event.Post i name e mask) tt happens held
  there-held (event.Finish i name) l happens known all told held = other-held s w new l ok h (event.Finish i name) tt happens held
  there-held (event.Remove i name) l happens known all told held = other-held s w new l ok h (event.Remove i name) tt happens held
  there-held (event.Add i r) l happens known all told held = other-held s w new l ok h (event.Add i r) tt happens held
  there-held (event.Tick moment) l happens known all told held = other-held s w new l ok h (event.Tick moment) tt happens held
  there-held (event.Accept i) l happens known all told held = other-held s w new l ok h (event.Accept i) tt happens held

  -- no circuit is new, but by an acceptance
  not-new : (e : Event) (l : ℕ) (d : Joined) → (IsAccept e → ⊥) → Happens w e new → At new.circuits l d → length w.circuits ≤ l → HeldAt (kept new l) new l
  not-new e l d not happens at past = absurd (let lt : l < length w.circuits = leaves-were w new e not happens.0 happens.1 l d at in omega (arith, lt, past))

  new-held : (e : Event) (l : ℕ) (d : Joined) → Happens w e new → At new.circuits l d → length w.circuits ≤ l → HeldAt (kept new l) new l
  new-held (event.Accept i) l d happens at past = elim (accept-were w new i happens.0.x happens.0.v happens.1 l d at) [
    | inl lt ↦ absurd (omega (arith, lt, past))
    | inr is ↦
        let more : length w.circuits < length new.circuits = (let lt : l < length new.circuits = At-within new.circuits l d at in omega (arith, lt, is)) in
        subst (λ (m : ℕ). HeldAt (kept new l) new m) (sym is) (keeps-accepted (kept new l) w new i happens.0.x happens.0.v happens.0.at h.stands.clients happens.1 more)
  ]
  new-held (event.Open i name priority) l d happens at past = not-new (event.Open i name priority) l d (λ a. a) happens at past
  new-held (event.Clear i c) l d happens at past = not-new (event.Clear i c) l d (λ a. a) happens at past
  new-held (event.Read i c data_type count) l d happens at past = not-new (event.Read i c data_type count) l d (λ a. a) happens at past
  new-held (event.Write i c e) l d happens at past = not-new (event.Write i c e) l d (λ a. a) happens at past
  new-held (event.WriteNotify i c e) l d happens at past = not-new (event.WriteNotify i c e) l d (λ a. a) happens at past
  new-held (event.Subscribe i c data_type count mask) l d happens at past = not-new (event.Subscribe i c data_type count mask) l d (λ a. a) happens at past
  new-held (event.Unsubscribe i n) l d happens at past = not-new (event.Unsubscribe i n) l d (λ a. a) happens at past
  new-held (event.Collect i r) l d happens at past = not-new (event.Collect i r) l d (λ a. a) happens at past
  new-held (event.GiveUp i r) l d happens at past = not-new (event.GiveUp i r) l d (λ a. a) happens at past
  new-held (event.ClientDatagram i from bytes) l d happens at past = not-new (event.ClientDatagram i from bytes) l d (λ a. a) happens at past
  new-held (event.ServerDatagram i from bytes) l d happens at past = not-new (event.ServerDatagram i from bytes) l d (λ a. a) happens at past
  new-held (event.Up k n) l d happens at past = not-new (event.Up k n) l d (λ a. a) happens at past
  new-held (event.Down k n) l d happens at past = not-new (event.Down k n) l d (λ a. a) happens at past
  new-held (event.Pump k) l d happens at past = not-new (event.Pump k) l d (λ a. a) happens at past
  new-held (event.CutClient k) l d happens at past = not-new (event.CutClient k) l d (λ a. a) happens at past
  new-held (event.CutServer k) l d happens at past = not-new (event.CutServer k) l d (λ a. a) happens at past
  new-held (event.ClientRestart i) l d happens at past = not-new (event.ClientRestart i) l d (λ a. a) happens at past
  new-held (event.ServerRestart i) l d happens at past = not-new (event.ServerRestart i) l d (λ a. a) happens at past
  new-held (event.Post i name e mask) l d happens at past = not-new (event.Post i name e mask) l d (λ a. a) happens at past
  new-held (event.Finish i name) l d happens at past = not-new (event.Finish i name) l d (λ a. a) happens at past
  new-held (event.Remove i name) l d happens at past = not-new (event.Remove i name) l d (λ a. a) happens at past
  new-held (event.Add i r) l d happens at past = not-new (event.Add i r) l d (λ a. a) happens at past
  new-held (event.Tick moment) l d happens at past = not-new (event.Tick moment) l d (λ a. a) happens at past
  new-held (event.ClientStep k) l d happens at past = not-new (event.ClientStep k) l d (λ a. a) happens at past
  new-held (event.ServerStep k) l d happens at past = not-new (event.ServerStep k) l d (λ a. a) happens at past

  pub event-held : (e : Event) → Happens w e new → IsKnownStep w e new → IsTold w → AllCircuitsHeld w → AllCircuitsHeld new
  event-held e happens known told all l d at = elim (At-or w.circuits l) [
    | inl old ↦ there-held e l happens known all told (all l old.0 old.1)
    | inr past ↦ new-held e l d happens at past
  ]

-- ---- a run

pub opening-held : (s : Setting) → AllCircuitsHeld (opening s)
opening-held s l j at = absurd (none_at l j at)

pub events-held : (s : Setting) (es : List Event) (w new : World) → IsSetting s → FoldsTo Happens w es new → AllKnown w es → AreEvents es → ServersStand s w → ServersFit w → AllCaused w → AllAnswer w → AllCircuitsHeld w → AllCircuitsHeld new
events-held s [] w new ok same known are h fit caused answer all = subst (λ (z : World). AllCircuitsHeld z) same all
events-held s (e ∷ es) w new ok (mid, one, rest) known are h fit caused answer all =
    events-held s es mid new ok rest (λ n f x y folds at happens. known (suc n) f x y (mid, one, folds) at happens) (λ i x at. are (suc i) x at) (event-serves s w mid e ok one h) (event-servers s w mid e ok (are 0 e refl) h.stands one fit) (event-caused w mid e fit one caused) (event-answer s w mid e h one answer)
    (event-held s w mid ok h e one (known 0 e w mid refl refl one) (record { hears = hears-sent w h.stands.streams fit.sent; caused = caused; answer = answer }) all)

-- ---- a tick that was not handed to all clients

-- what is kept after events that touch no server was kept before
frame-kept : (s : Setting) (w new : World) → Sound s w → Sound s new → Frame w new → (l p : ℕ) → In (kept new l) p → In (kept w l) p
frame-kept s w new sound sound_new f l p there =
    let k = kept-there new l p there in
    let b = f.back l k.0 k.1 in
    let opened : b.0.lists.server_open ≡ true = sym b.2.is_open ∙ k.2 in
    let seat = sound_new.seated.each l k.0 k.1 k.2 in
    let at_y : At w.servers b.0.server seat.y = subst (λ (m : ℕ). At w.servers m seat.y) b.2.later.server (subst (λ (ys : List ServerSide). At ys k.0.server seat.y) f.servers seat.at) in
    there-kept w l p b.0 b.1 opened (elim k.3 [
      | inl (q, put, circuit, channel, is) ↦
          let mine : PutIn seat.y.records q = subst (λ (rs : List RecordSide). PutIn rs q) (records-there new k.0 seat.y seat.at) put in
          let facts = put-facts s w b.0.server seat.y q sound at_y mine in
          let one : facts.c ≡ b.0 = At-one w.circuits l facts.c b.0 (subst (λ (m : ℕ). At w.circuits m facts.c) circuit facts.on) b.1 in
          let sent : At b.0.lists.up q.place facts.s = subst (λ (z : Joined). At z.lists.up q.place facts.s) one facts.sent in
          let x = channel-of k.0 q.place channel in
          let sids : sid_at k.0.lists q.place ≡ sid_at b.0.lists q.place = sid-is k.0.lists q.place facts.s (b.2.later.up q.place facts.s sent) ∙ sym (sid-is b.0.lists q.place facts.s sent) in
          inl (
            q,
            subst (λ (rs : List RecordSide). PutIn rs q) (sym (records-there w b.0 seat.y at_y)) mine,
            circuit,
            of-channel b.0 q.place x.0 (subst (λ (xs : List Creation). In xs x.0) b.2.creations x.1) (x.2 ∙ sids) x.3,
            is,
          )
      | inr (inl (st, in_it, is)) ↦ inr (inl (st, subst (λ (xs : List Standing). In xs st) b.2.standing in_it, is))
      | inr (inr (x, in_it, is)) ↦ inr (inr (x, subst (λ (xs : List Creation). In xs x) b.2.creations in_it, is))
    ])

ticks-held : (s : Setting) (moment : ℕ) (clients : List ℕ) (w new : World) → Sound s w → FoldsTo (TicksOne moment) w clients new → AllCircuitsHeld w → AllCircuitsHeld new
ticks-held s moment clients w new sound ticks all l d at =
    let f : Frame w new = ticks-frame moment w clients new ticks in
    let b = f.back l d at in
    fewer-at (kept w l) (kept new l) new l (frame-kept s w new sound (frame-keeps s w new f sound) f l) (keeps-ticks (kept w l) moment l clients w new ticks (all l b.0 b.1))

stops-held : (s : Setting) (mid : World) (stopped : Option Event) (w : World) → Sound s mid → StopsAt mid stopped w → AllCircuitsHeld mid → AllCircuitsHeld w
stops-held s mid (Some (event.Tick moment)) w sound stops all = elim stops [
  | inl same ↦ subst (λ (z : World). AllCircuitsHeld z) (sym same) all
  | inr ticked ↦ ticks-held s moment (clients_below ticked.0) mid w sound ticked.3 all
]
stops-held s mid stopped w sound stops all = subst (λ (z : World). AllCircuitsHeld z) (sym stops) all

pub run-held : (s : Setting) (es : List Event) (stopped : Option Event) (w : World) → IsSetting s → AreEvents es → Runs s es stopped w → AllKnown (opening s) es → AllCircuitsHeld w
run-held s es stopped w ok are runs known =
    stops-held s runs.0 stopped w (events-serve s es (opening s) runs.0 ok runs.1 (opening-serves s ok)).stands.sound runs.2
    (events-held s es (opening s) runs.0 ok runs.1 known are (opening-serves s ok) (opening-servers s ok) (opening-caused s) (opening-answer s) (opening-held s))

pub after-run : (s : Setting) (es : List Event) (stopped : Option Event) (w new : World) (e : Event) → IsSetting s → AreEvents es → Runs s es stopped w → Happens w e new → IsKnownStep w e new → AllCircuitsHeld w → AllCircuitsHeld new
after-run s es stopped w new e ok are runs happens known all =
    event-held s w new ok (run-serves s es stopped w ok runs) e happens known
    (record { hears = runs-hear s es stopped w ok are runs; caused = runs-caused s es stopped w ok are runs; answer = reached-answer w (s, es, stopped, ok, runs) }) all

-- ---- what that says of messages

pub held-asked : (w : World) → AllCircuitsHeld w → AllAsked w
held-asked w all n k c s on at =
    let h = all n c on in
    let one : h.0 ≡ c = At-one w.circuits n h.0 c h.2 on in
    h.4.flows.asked k s (subst (λ (z : Joined). At z.lists.up k s) (sym one) at)

pub held-own : (w : World) → AllCircuitsHeld w → (n i : ℕ) (c : Joined) (t : Told) (id : Id) → At w.circuits n c → At c.lists.down i t → Speaks t.message id → TakesOwn c.lists i t.place id
held-own w all n i c t id on at speaks =
    let h = all n c on in
    let one : h.0 ≡ c = At-one w.circuits n h.0 c h.2 on in
    subst (λ (z : Joined). TakesOwn z.lists i t.place id) one (h.4.flows.own i t id (subst (λ (z : Joined). At z.lists.down i t) (sym one) at) speaks)
