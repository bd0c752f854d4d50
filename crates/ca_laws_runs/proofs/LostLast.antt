-- A channel that is told lost was not told lost since it was told live, over every event and run.
use Rattle.std.proofs.Common.{◌≡◌, ℕ, suc, ◌+◌, ◌<◌, ◌≤◌, ◌⊎◌, inl, inr, false, true, List, [], ◌∷◌, ◌++◌, length, Option, Some, None, refl, sym, ap, ◌∙◌, subst, arith}
use Rattle.std.specs.List.{FoldsTo}
use Rattle.std.proofs.lemmas.Bool.{both_ways}
use Rattle.ca_text.specs.Place.{At}
use Rattle.ca_text.specs.declared.command.Command.TheVariants as command
use Rattle.ca_text.proofs.Places.{At-map, At-mapped, At-one, At-or, At-parts, At-within}
use Rattle.ca_arena.specs.declared.handle.Handle.{Handle}
use Rattle.ca_dbr.specs.declared.value.Outcome.TheVariants as outcome
use Rattle.ca_requests.specs.Requests.{asks_on}
use Rattle.ca_wire.specs.Fields.{Fields}
use Rattle.ca_model.specs.Answers.{Notice, Sending}
use Rattle.ca_model.specs.Answers as answer
use Rattle.ca_model.specs.Client.{Client, Live, connection_at}
use Rattle.ca_model.specs.ClientEnds.{StepsOn, after_taking}
use Rattle.ca_model.specs.Hears.{Effect}
use Rattle.ca_model.specs.History.{Circuit}
use Rattle.ca_model.specs.World.{told}
use Rattle.ca_model.specs.History.{Create, Intent, Line, Noticed, OfCircuit, On, Removal, Reply, Sent, Step, Told}
use Rattle.ca_model.specs.ClientEvents.{TicksOne, about_at, channel_number, client_stepped, line_of, meant_by}
use Rattle.ca_model.specs.Events.{Event}
use Rattle.ca_model.specs.Events as event
use Rattle.ca_model.specs.Runs.{AreEvents, Happens, Runs, StopsAt, clients_below}
use Rattle.ca_model.specs.World.{ClientSide, IsSetting, Joined, Setting, World, circuit_of, log_length, opening}
use Rattle.ca_laws_parts.specs.Runs.{HearsSent}
use Rattle.ca_laws_parts.specs.ServerFits.{AllCaused}
use Rattle.ca_laws_parts.proofs.Causes.{runs-caused}
use Rattle.ca_laws_parts.proofs.BytesRuns.{runs-stand}
use Rattle.ca_laws_parts.proofs.ServerSpeaking.{runs-hear}
use Rattle.ca_laws_parts.specs.Kept.{kept}
use Rattle.ca_laws_parts.specs.Circuit.{HeldOn}
use Rattle.ca_laws_parts.specs.Seats.{Sound}
use Rattle.ca_laws_parts.proofs.WritesLists.{none_at}
use Rattle.ca_laws_runs.specs.HeldAnswering.{AllAnswer}
use Rattle.ca_laws_runs.specs.Sides.{IsLiveAs}
use Rattle.ca_laws_runs.specs.Tells.{NoticesTell}
use Rattle.ca_laws_runs.specs.ToldLines.{IsToLast}
use Rattle.ca_laws_runs.specs.ToldParts.{NoneIsLostSince}
use Rattle.ca_laws_runs.proofs.Farewell.{FromFarewell}
use Rattle.ca_laws_runs.proofs.Joint.{are-snoc, folds-snoc, run-tells}
use Rattle.ca_laws_runs.proofs.LegalRemovals.{AllRemovedRight, run-right}
use Rattle.ca_laws_runs.proofs.Lost.{left-about}
use Rattle.ca_laws_runs.proofs.LostRuns.{after-lost, known-runs, known-ticks, opening-lost, plain-or, ticks-snoc}
use Rattle.ca_laws_runs.proofs.OrderGrows.{ticks-grown}
use Rattle.ca_laws_runs.proofs.OrderKeeps.{IsHearing, hear-lines, hear-step}
use Rattle.ca_laws_runs.proofs.Parting.{IsAway, IsCut, Parted, PartsFrom, closed-parts, event-parts, parts-silent, tick-parts}
use Rattle.ca_laws_runs.proofs.Replied.{reached-answer}
use Rattle.ca_laws_runs.proofs.Spent.{AllSpent, Known}
use Rattle.ca_laws_runs.proofs.ToldAsked.{gone-open, tells-asked}
use Rattle.ca_laws_runs.proofs.ToldGrows.{Onward, WorldsOn, event-on, on-grown}
use Rattle.ca_laws_runs.proofs.ToldLines.{lines-grown, lines-same}
use Rattle.ca_laws_runs.proofs.ToldLines.{IsSilent}
use Rattle.ca_laws_runs.proofs.ToldRemoval.{AllRemovals, run-removals}
use Rattle.ca_laws_runs.proofs.ToldSteps.{next, no-request, noticed-intent, noticed-outcome}
use Rattle.std.proofs.Common.{Bool, eqb}
use Rattle.std.specs.Prelude.{slice_set, unwrap_or}
use Rattle.ca_model.proofs.Standings.{channel-on}
use Rattle.std.specs.List.{list_any}
use Rattle.ca_text.proofs.Places.{At-after, At-set, At-snoc}
use Rattle.ca_text.specs.Command.{command_number}
use Rattle.ca_text.specs.declared.command.Command.{Command}
use Rattle.ca_ids.specs.Table.{same_handle}
use Rattle.ca_model.specs.Client.{Phase, channel_on, disconnections}
use Rattle.ca_model.specs.ClientCalls.{clear_sent}
use Rattle.ca_model.specs.Hears.{Hears, left, understood}
use Rattle.ca_model.specs.Hears as heard
use Rattle.ca_model.specs.Speech.{Creates, Is}
use Rattle.ca_model.proofs.Handles.{same-itself}
use Rattle.ca_model.specs.ClientEvents.{heard_in, sent_on}
use Rattle.ca_laws_parts.specs.Sids.{IsClearedWithin}
use Rattle.ca_laws_parts.specs.Circuit.{sent_to, stamped}
use Rattle.ca_laws_parts.proofs.Midway.{set-here}
use Rattle.ca_laws_runs.proofs.Live.{one-sid}
use Rattle.ca_laws_runs.proofs.OnceSent.{there-sent}
use Rattle.ca_laws_runs.proofs.OrderGrows.{each-event, step-grown}
use Rattle.ca_laws_runs.proofs.OrderKeeps.{begun-grown, begun-mid, hear-grown, hearing-or, made-or}
use Rattle.ca_laws_runs.proofs.Says.{one-handle}
use Rattle.ca_laws_runs.proofs.ToldCreated.{ReadsNone, none-grown, none-handled, none-made}

-- ---- a channel that was created and not cleared since was not told lost

-- On an open circuit, since the reply was told that created a channel under a SID that was not
-- cleared since, no loss of that channel was told.
abbrev pub AllLast : World → Type 0
AllLast w = (n : ℕ) (c : Joined) (log : List Line) (i a sid m : ℕ) (t : Told) (h : Step) (s : Sent) → At w.circuits n c → At w.client_logs c.lists.client log → c.lists.client_open ≡ true → At c.lists.down i t → At c.lists.heard i h → t.cause ≡ Reply → Creates t.message sid
    → At c.lists.up t.place s → s.intent ≡ On a Create → (IsClearedWithin c.lists.up sid t.place (length c.lists.up) → ⊥) → h.logged < m → At log m (Noticed (On a Create) outcome.Disconnected) → ⊥

pub create-number : (a b : ℕ) → On a Create ≡ On b Create → a ≡ b
create-number a b e = cc

open-back : (b : Bool) → (b ≡ false → ⊥) → b ≡ true
open-back true never = refl
open-back false never = absurd (never refl)

module _ (w new : World) (known : Known w) (goes : WorldsOn w new) (all : AllLast w) where
  last-old : (n : ℕ) (c d : Joined) (log : List Line) (i a sid m : ℕ) (t : Told) (h : Step) (s : Sent) → At w.circuits n c → At new.circuits n d → d.lists.client_open ≡ true → At d.lists.down i t → At c.lists.heard i h → t.cause ≡ Reply → Creates t.message sid
      → At d.lists.up t.place s → s.intent ≡ On a Create → (IsClearedWithin d.lists.up sid t.place (length d.lists.up) → ⊥) → h.logged < m → At log m (Noticed (On a Create) outcome.Disconnected)
      → ((x : ClientSide) (g : Handle) → At w.clients c.client x → c.lists.client ≡ x.life → c.lists.client_open ≡ true → t.place < length c.lists.up → IsLiveAs x.core.channels c.at_client g sid → channel_number x.names g ≡ a → (y : List Line) × At w.client_logs c.lists.client y × At y m (Noticed (On a Create) outcome.Disconnected)) → ⊥
  last-old n c d log i a sid m t h s on at_d opened at_t at_h reply creates at_s meant unc lt line fresh =
      let r = goes.circuits n c on in
      let o : Onward c d = subst (λ (v : Joined). Onward c v) (At-one new.circuits n r.0 d r.1 at_d) r.2 in
      let was_open : c.lists.client_open ≡ true = open-back c.lists.client_open (λ shut. both_ways d.lists.client_open (o.shut shut) opened) in
      let held = known.held n c on in
      let joined : held.0 ≡ c = At-one w.circuits n held.0 c held.2 on in
      let mine : HeldOn (kept w n) held.1.names held.1.core c = subst (λ (v : Joined). HeldOn (kept w n) held.1.names held.1.core v) joined held.4 in
      let x : ClientSide = held.1 in
      let at : At w.clients c.client x = subst (λ (v : Joined). At w.clients v.client held.1) joined held.3 in
      let within : length c.lists.heard ≤ length c.lists.down = mine.flows.within in
      let early : i < length c.lists.heard = At-within c.lists.heard i h at_h in
      let told_c : At c.lists.down i t = elim (At-or c.lists.down i) [
        | inl old ↦ subst (λ (v : Told). At c.lists.down i v) (At-one d.lists.down i old.0 t (o.down i old.0 old.1) at_t) old.1
        | inr past ↦ absurd (omega (arith, past, early, within))
      ] in
      let said_c : At c.lists.up t.place s = elim (At-or c.lists.up t.place) [
        | inl old ↦ subst (λ (v : Sent). At c.lists.up t.place v) (At-one d.lists.up t.place old.0 s (o.up t.place old.0 old.1) at_s) old.1
        | inr past ↦ absurd (let lt_up : t.place < length c.lists.up = mine.flows.about i t told_c in omega (arith, past, lt_up))
      ] in
      let unc_c : IsClearedWithin c.lists.up sid t.place (length c.lists.up) → ⊥ = λ v. unc (v.0, v.1, v.2, At-within d.lists.up v.0 v.1 (o.up v.0 v.1 v.4), o.up v.0 v.1 v.4, v.5) in
      elim ((known.sided.sides n c x on at was_open).answered i sid a t s early told_c reply creates said_c meant) [
        | inl cleared ↦ unc_c cleared
        | inr live ↦ (let y = fresh x live.0 at (known.lives.same n c x on at was_open) was_open (mine.flows.about i t told_c) live.2 live.1 in all n c y.0 i a sid m t h s on y.1 was_open told_c at_h reply creates said_c meant unc_c lt y.2)
      ]

  -- two channels of one number, live at one client, are on one circuit
  one-circuit : (n k : ℕ) (c j : Joined) (x : ClientSide) (g h : Handle) (sid other a : ℕ) → At w.circuits n c → At w.circuits k j → At w.clients c.client x → c.client ≡ j.client → c.lists.client_open ≡ true → j.lists.client_open ≡ true
      → IsLiveAs x.core.channels c.at_client g sid → IsLiveAs x.core.channels j.at_client h other → channel_number x.names g ≡ a → channel_number x.names h ≡ a → (n ≡ k) × ((g ≡ h) × (sid ≡ other))
  one-circuit n k c j x g h sid other a on on_j at same opened opened_j live live_j number number_j =
      let tidy = known.quiet.tidy c.client x at in
      let one : g ≡ h = one-handle x.names g h (tidy.numbered g live.ch live.there) (tidy.numbered h live_j.ch live_j.there) (number ∙ sym number_j) in
      let both = one-sid x.core.channels c.at_client j.at_client h sid other (subst (λ (v : Handle). IsLiveAs x.core.channels c.at_client v sid) one live) live_j in
      (known.stands.handles n k c j on on_j same opened opened_j (subst (λ (v : Handle). same_handle c.at_client v ≡ true) both.0 (same-itself c.at_client)), (one, both.1))

  last-parts : PartsFrom w new → ReadsNone w new → AllLast new
  last-parts parts reads n d log i a sid m t h s at_d logged opened at_t at_h reply creates at_s meant unc lt line = elim (reads n d at_d) [
    | inr none ↦ none_at i h (subst (λ (l : List Step). At l i h) none at_h)
    | inl old ↦ last-old n old.0 d log i a sid m t h s old.1 at_d opened at_t (subst (λ (l : List Step). At l i h) old.2 at_h) reply creates at_s meant unc lt line (by old.0 old.1)
  ]
    where
      by : (c : Joined) → At w.circuits n c → (x : ClientSide) (g : Handle) → At w.clients c.client x → c.lists.client ≡ x.life → c.lists.client_open ≡ true → t.place < length c.lists.up → IsLiveAs x.core.channels c.at_client g sid → channel_number x.names g ≡ a → (y : List Line) × At w.client_logs c.lists.client y × At y m (Noticed (On a Create) outcome.Disconnected)
      by c on x g at life was_open sent live number =
          let r = goes.circuits n c on in
          let same : d.lists.client ≡ c.lists.client = ap (λ (v : Joined). v.lists.client) (sym (At-one new.circuits n r.0 d r.1 at_d)) ∙ r.2.client in
          elim (parts c.lists.client log m (Noticed (On a Create) outcome.Disconnected) (subst (λ (v : ℕ). At new.client_logs v log) same logged) line) [
            | inl old ↦ old
            | inr (inl silent) ↦ absurd silent
            | inr (inr p) ↦ absurd (parted p)
          ]
        where
          parted : Parted w new c.lists.client log m (Noticed (On a Create) outcome.Disconnected) → ⊥
          parted p = way p.way
            where
              client : c.client ≡ p.number
              client = known.once.apart c.client p.number x p.x at p.at (sym life ∙ p.mine)

              same_x : x ≡ p.x
              same_x = At-one w.clients p.number x p.x (subst (λ (v : ℕ). At w.clients v x) client at) p.at

              says : (said : Notice) → p.said ≡ said → line_of OfCircuit p.x.names said ≡ Noticed (On a Create) outcome.Disconnected
              says said is = ap (λ (v : Notice). line_of OfCircuit p.x.names v) (sym is) ∙ sym p.tells

              no-create : (q : Handle) → p.said ≡ answer.Completed q outcome.Disconnected → ⊥
              no-create q is =
                  let meant_q : meant_by p.x.names.requests q ≡ On a Create = noticed-intent (meant_by p.x.names.requests q) (On a Create) outcome.Disconnected outcome.Disconnected (says (answer.Completed q outcome.Disconnected) is) in
                  no-request p.x.names.requests q (λ k e named. (let v = (known.quiet.tidy p.number p.x p.at).asked k e named in (v.0, v.1, v.2))) (subst (λ (v : Intent). IsToLast v) (sym meant_q) tt)

              from : (cut : IsCut w new p.number p.x p.said) → FromFarewell p.x.core cut.c.at_client p.said → ⊥
              from cut (inl f) = no-create f.0 f.1
              from cut (inr f) =
                  let its : channel_number p.x.names f.0 ≡ a = create-number (channel_number p.x.names f.0) a (noticed-intent (On (channel_number p.x.names f.0) Create) (On a Create) outcome.Disconnected outcome.Disconnected (says (answer.Lost f.0) f.1)) in
                  let one = one-circuit n cut.n c cut.c p.x g f.0 sid f.2.0 a on cut.on.0 (subst (λ (v : ℕ). At w.clients v p.x) (sym client) p.at) (client ∙ sym cut.on.1) was_open cut.on.2 (subst (λ (v : ClientSide). IsLiveAs v.core.channels c.at_client g sid) same_x live) f.2.1 (ap (λ (v : ClientSide). channel_number v.names g) (sym same_x) ∙ number) its in
                  let same_d : d ≡ cut.d = At-one new.circuits cut.n d cut.d (subst (λ (v : ℕ). At new.circuits v d) one.0 at_d) cut.now.0 in
                  both_ways d.lists.client_open (ap (λ (v : Joined). v.lists.client_open) same_d ∙ cut.now.1) opened

              way : IsCut w new p.number p.x p.said ⊎ IsAway p.x p.said log m → ⊥
              way (inr away) = no-create away.q away.is
              way (inl cut) = from cut cut.from

-- ---- a message is read

unlike : (m : Fields) (a : ℕ) → eqb a 27 ≡ false → m.command ≡ a → m.command ≡ 27 → ⊥
unlike m a none is gone = both_ways (eqb a 27) none (ap (λ (v : ℕ). eqb v 27) (sym is ∙ gone))

others : (m : Fields) → list_any (λ (k : Command). eqb m.command (command_number k)) understood ≡ false → m.command ≡ 27 → ⊥
others m none gone = both_ways (list_any (λ (k : Command). eqb m.command (command_number k)) understood) none (ap (λ (v : ℕ). list_any (λ (k : Command). eqb v (command_number k)) understood) gone)

-- what a SERVER_DISCONN does
left-so : (x : Client) (c : Handle) (m : Fields) (e : Effect) → Hears x c m e → Is command.ServerDisconnect m → e ≡ left x c (channel_on x c m.p1)
left-so x c m e (heard.ServerDisconnect is does) z = does
left-so x c m e (heard.CreateChannel is does) z = absurd (unlike m 18 refl is z)
left-so x c m e (heard.Search is d there finds) z = absurd (unlike m 6 refl is z)
left-so x c m e (heard.AccessRights is does) z = absurd (unlike m 22 refl is z)
left-so x c m e (heard.CreateChannelFail is does) z = absurd (unlike m 26 refl is z)
left-so x c m e (heard.ClearChannel is does) z = absurd (unlike m 12 refl is z)
left-so x c m e (heard.Reply is does) z = absurd (elim is [ inl reads ↦ unlike m 15 refl reads z | inr puts ↦ unlike m 19 refl puts z ])
left-so x c m e (heard.Confirmation is empty does) z = absurd (unlike m 1 refl is z)
left-so x c m e (heard.Update is some does) z = absurd (unlike m 1 refl is z)
left-so x c m e (heard.Error is does) z = absurd (unlike m 11 refl is z)
left-so x c m e (heard.Other is does) z = absurd (others m is z)

module _ (w new : World) (k : ℕ) (j : Joined) (x : ClientSide) (on : At w.circuits k j) (at : At w.clients j.client x) (opened : j.lists.client_open ≡ true) (f : IsHearing w new k j x)
    (hears : HearsSent w) (caused : AllCaused w) (answers : AllAnswer w) (removals : AllRemovals w) (tells : NoticesTell w k) (known : Known w) (spent : AllSpent w) (right : AllRemovedRight w) (goes : WorldsOn w new) (all : AllLast w) where
  abbrev step : Step
  step = hear-step w new k j x on at f

  abbrev lines : List Line
  lines = hear-lines w new k j x on at f

  -- A loss was told: the SERVER_DISCONN of the channel was read, and the channel is cleared.
  abbrev LostNow : ℕ → Type 0
  LostNow a = (h : Handle) × (other : ℕ) × (channel_number x.names h ≡ a) × IsLiveAs x.core.channels j.at_client h other × (f.sent ≡ clear_sent j.at_client other h ∷ []) × ((u : Told) → At j.lists.down (length j.lists.heard) u → u.cause ≡ Removal) × (z : Client) × (f.notices ≡ disconnections (asks_on h) z ++ answer.Lost h ∷ [])

  lost-now : (a p : ℕ) (said : Notice) → At f.notices p said → line_of (about_at j.lists (length j.lists.heard)) x.names said ≡ Noticed (On a Create) outcome.Disconnected → LostNow a
  lost-now a p (answer.Update g out) at_p is = absurd cc
  lost-now a p (answer.Live h) at_p is = absurd (let e : outcome.Done ≡ outcome.Disconnected = noticed-outcome _ (On a Create) outcome.Done outcome.Disconnected is in cc)
  lost-now a p (answer.SubscriptionEnded g s) at_p is = absurd (let e : outcome.Failed s ≡ outcome.Disconnected = noticed-outcome _ (On a Create) (outcome.Failed s) outcome.Disconnected is in cc)
  lost-now a p (answer.WriteRefused h s) at_p is = absurd (let e : outcome.Failed s ≡ outcome.Disconnected = noticed-outcome _ (On a Create) (outcome.Failed s) outcome.Disconnected is in cc)
  lost-now a p (answer.Completed q out) at_p is =
      let meant : meant_by x.names.requests q ≡ On a Create = noticed-intent (meant_by x.names.requests q) (On a Create) out outcome.Disconnected is in
      absurd (no-request x.names.requests q (λ m e named. (let r = (known.quiet.tidy j.client x at).asked m e named in (r.0, r.1, r.2))) (subst (λ (v : Intent). IsToLast v) (sym meant) tt))
  lost-now a p (answer.Lost h) at_p is =
      let n = next w new k j x on at opened f hears caused answers removals tells known.held known.once known.quiet known.lives in
      let e : Effect = record { core = f.core; sent = f.sent; notices = f.notices } in
      let z : Client = after_taking j.at_client n.rest x.core in
      let u = tells-asked z j.at_client n.m e n.hear p (answer.Lost h) at_p in
      let l = left-about w new k j x on at opened f hears caused answers removals tells known spent right h u in
      let ch = channel-on x.core j.at_client n.m.p1 h (Live u.1.0 u.1.1) u.1.2 in
      let does : e ≡ left z j.at_client (Some (h, Live u.1.0 u.1.1)) = left-so z j.at_client n.m e n.hear u.0 ∙ ap (λ (o : Option (Handle × Phase)). left z j.at_client o) u.1.2 in (
        h,
        (u.1.0).sid,
        create-number (channel_number x.names h) a (noticed-intent (On (channel_number x.names h) Create) (On a Create) outcome.Disconnected outcome.Disconnected is),
        record { ch = ch.0; native = u.1.0; rights = u.1.1; there = ch.1; stands = ch.3; is = refl },
        ap (λ (v : Effect). v.sent) does,
        λ v there. ap (λ (q : Told). q.cause) (At-one j.lists.down (length j.lists.heard) v n.t there n.told) ∙ l.0,
        z,
        ap (λ (v : Effect). v.notices) does,
      )

  -- It was told last.
  pub lost-last : (a p : ℕ) (said : Notice) → At f.notices p said → line_of (about_at j.lists (length j.lists.heard)) x.names said ≡ Noticed (On a Create) outcome.Disconnected → (q : ℕ) (v : Notice) → At f.notices q v → q ≤ p
  lost-last a p said at_p is q v at_q =
      let l = lost-now a p said at_p is in
      let gone : List Notice = disconnections (asks_on l.0) l.6 in
      elim (At-parts gone (answer.Lost l.0 ∷ []) p said (subst (λ (ns : List Notice). At ns p said) l.7 at_p)) [
        | inl first ↦ absurd (let g = gone-open (asks_on l.0) l.6 p said first in no-create g.0 (ap (λ (z : Notice). line_of (about_at j.lists (length j.lists.heard)) x.names z) (sym g.1) ∙ is))
        | inr more ↦
            let placed : p ≡ length gone + more.0 = more.1 in
            elim (At-parts gone (answer.Lost l.0 ∷ []) q v (subst (λ (ns : List Notice). At ns q v) l.7 at_q)) [
              | inl early ↦ (let lt : q < length gone = At-within gone q v early in omega (arith, lt, placed))
              | inr late ↦ (let lt : late.0 < 1 = At-within (answer.Lost l.0 ∷ []) late.0 v late.2 in let q_is : q ≡ length gone + late.0 = late.1 in omega (arith, lt, placed, q_is))
            ]
      ]
    where
      no-create : (g : Handle) → line_of (about_at j.lists (length j.lists.heard)) x.names (answer.Completed g outcome.Disconnected) ≡ Noticed (On a Create) outcome.Disconnected → ⊥
      no-create g same =
          let meant : meant_by x.names.requests g ≡ On a Create = noticed-intent (meant_by x.names.requests g) (On a Create) outcome.Disconnected outcome.Disconnected same in
          no-request x.names.requests g (λ m e named. (let r = (known.quiet.tidy j.client x at).asked m e named in (r.0, r.1, r.2))) (subst (λ (z : Intent). IsToLast z) (sym meant) tt)

  -- a line is new, and tells this; or it was there
  new-or : (life : ℕ) (log : List Line) (a m : ℕ) → At new.client_logs life log → At log m (Noticed (On a Create) outcome.Disconnected) → ((y : List Line) × At w.client_logs life y × At y m (Noticed (On a Create) outcome.Disconnected)) ⊎ ((life ≡ x.life) × LostNow a)
  new-or life log a m logged line = elim (lines-grown w.client_logs x.life lines (known.lives.present j.client x at) life log m (Noticed (On a Create) outcome.Disconnected) (subst (λ (v : List (List Line)). At v life log) (ap (λ (v : World). v.client_logs) f.is) logged) line) [
    | inl old ↦ inl old
    | inr more ↦ (let v = At-mapped (line_of (about_at j.lists (length j.lists.heard)) x.names) f.notices more.1 (Noticed (On a Create) outcome.Disconnected) more.5 in inr (more.2, lost-now a more.1 v.0 v.1 (sym v.2)))
  ]

  last-hearing : AllLast new
  last-hearing n d log i a sid m t h s at_d logged opened_d at_t at_h reply creates at_s meant unc lt line =
      let back = (hear-grown w new k j x on at f).back n d at_d in
      elim (At-set w.circuits k (heard_in step j) n back.0 back.1) [
        | inr old ↦ last-old w new known goes all n back.0 d log i a sid m t h s old.0 at_d opened_d at_t (subst (λ (l : List Step). At l i h) back.2.heard at_h) reply creates at_s meant unc lt line (by back.0 old.0)
        | inl here ↦
            elim (At-snoc j.lists.heard step i h (subst (λ (l : List Step). At l i h) (back.2.heard ∙ ap (λ (z : Joined). z.lists.heard) here.1) at_h)) [
              | inl before ↦
                  (let on_n : At w.circuits n j = subst (λ (v : ℕ). At w.circuits v j) (sym here.0) on in
                  last-old w new known goes all n j d log i a sid m t h s on_n at_d opened_d at_t before reply creates at_s meant unc lt line (by j on_n))
              | inr last ↦ now (back.2.client ∙ ap (λ (z : Joined). z.lists.client) here.1) last.0 last.1 (λ u there. back.2.tells (length j.lists.heard) u (subst (λ (z : Joined). At z.lists.down (length j.lists.heard) u) (sym here.1) there))
            ]
      ]
    where
      now : d.lists.client ≡ j.lists.client → i ≡ length j.lists.heard → h ≡ step → ((u : Told) → At j.lists.down (length j.lists.heard) u → At d.lists.down (length j.lists.heard) u) → ⊥
      now client place is onward =
          let life : d.lists.client ≡ x.life = client ∙ known.lives.same k j x on at opened in
          elim (new-or d.lists.client log a m logged line) [
            | inl old ↦
                let at_y : At w.client_logs x.life old.0 = subst (λ (v : ℕ). At w.client_logs v old.0) life old.1 in
                let whole : log_length x.life w.client_logs ≡ length old.0 = ap (λ (o : Option (List Line)). length (unwrap_or o [])) at_y in
                let begun : h.logged ≡ log_length x.life w.client_logs = ap (λ (v : Step). v.logged) is in
                let within : m < length old.0 = At-within old.0 m (Noticed (On a Create) outcome.Disconnected) old.2 in
                omega (arith, lt, whole, begun, within)
            | inr fresh ↦ elim (At-or j.lists.down (length j.lists.heard)) [
              | inl u ↦
                  let one : u.0 ≡ t = At-one d.lists.down (length j.lists.heard) u.0 t (onward u.0 u.1) (subst (λ (v : ℕ). At d.lists.down v t) place at_t) in
                  not-reply (sym (fresh.1.5 u.0 u.1) ∙ ap (λ (v : Told). v.cause) one ∙ reply)
              | inr past ↦ absurd (let came = (next w new k j x on at opened f hears caused answers removals tells known.held known.once known.quiet known.lives).told in let within : length j.lists.heard < length j.lists.down = At-within j.lists.down (length j.lists.heard) _ came in omega (arith, past, within))
            ]
          ]
        where
          not-reply : Removal ≡ Reply → ⊥
          not-reply e = cc

      by : (c : Joined) → At w.circuits n c → (y : ClientSide) (g : Handle) → At w.clients c.client y → c.lists.client ≡ y.life → c.lists.client_open ≡ true → t.place < length c.lists.up → IsLiveAs y.core.channels c.at_client g sid → channel_number y.names g ≡ a → (l : List Line) × At w.client_logs c.lists.client l × At l m (Noticed (On a Create) outcome.Disconnected)
      by c on_c y g at_y life was_open sent live number =
          let r = goes.circuits n c on_c in
          let same : d.lists.client ≡ c.lists.client = ap (λ (v : Joined). v.lists.client) (sym (At-one new.circuits n r.0 d r.1 at_d)) ∙ r.2.client in
          elim (new-or c.lists.client log a m (subst (λ (v : ℕ). At new.client_logs v log) same logged) line) [
            | inl old ↦ old
            | inr fresh ↦ absurd (cleared fresh.0 fresh.1)
          ]
        where
          cleared : c.lists.client ≡ x.life → LostNow a → ⊥
          cleared mine l =
              let client : c.client ≡ j.client = known.once.apart c.client j.client y x at_y at (sym life ∙ mine) in
              let same_x : y ≡ x = At-one w.clients j.client y x (subst (λ (v : ℕ). At w.clients v y) client at_y) at in
              let one = one-circuit w new known goes all n k c j x g l.0 sid l.1 a on_c on (subst (λ (v : ℕ). At w.clients v x) (sym client) at) client was_open opened (subst (λ (v : ClientSide). IsLiveAs v.core.channels c.at_client g sid) same_x live) l.3 (ap (λ (v : ClientSide). channel_number v.names g) (sym same_x) ∙ number) l.2 in
              let c_is : c ≡ j = At-one w.circuits k c j (subst (λ (v : ℕ). At w.circuits v c) one.0 on_c) on in
              let mid : Joined = heard_in step j in
              let e : Joined = sent_to j.client x.names f.sent mid in
              let at_e : At new.circuits k e = subst (λ (v : World). At v.circuits k e) (sym f.is) (At-map (sent_to j.client x.names f.sent) (slice_set w.circuits k mid) k mid (set-here w.circuits k j mid on)) in
              let d_is : e ≡ d = At-one new.circuits k e d at_e (subst (λ (v : ℕ). At new.circuits v d) one.0 at_d) in
              let said : Sent = stamped x.names (clear_sent j.at_client l.1 l.0) in
              let first : At (sent_on j.client x.names f.sent mid) 0 said = subst (λ (v : List Sending). At (sent_on j.client x.names v mid) 0 said) (sym l.4) (there-sent j.client x.names (clear_sent j.at_client l.1 l.0) mid refl opened refl) in
              let placed : At d.lists.up (length j.lists.up + 0) said = subst (λ (v : Joined). At v.lists.up (length j.lists.up + 0) said) d_is (At-after j.lists.up (sent_on j.client x.names f.sent mid) 0 said first) in
              let early : t.place < length j.lists.up = subst (λ (v : Joined). t.place < length v.lists.up) c_is sent in
              unc (length j.lists.up + 0, said, omega (arith, early), At-within d.lists.up (length j.lists.up + 0) said placed, placed, (refl, sym one.1.1))

-- ---- moments, events and runs

pub last-ticks : (s : Setting) (moment : ℕ) (base : World) → Sound s base → Known base → (done is : List ℕ) (w new : World) → FoldsTo (TicksOne moment) base done w → FoldsTo (TicksOne moment) w is new → AllLast w → AllLast new
last-ticks s moment base sound known done [] w new ticked same all = subst (λ (v : World). AllLast v) same all
last-ticks s moment base sound known done (i ∷ is) w new ticked (mid, one, rest) all =
    let k : Known w = known-ticks s moment done base w sound ticked known in
    let g = ticks-grown moment w (i ∷ []) mid (mid, one, refl) in
    last-ticks s moment base sound known (done ++ i ∷ []) is mid new (ticks-snoc moment done base w mid i ticked one) rest
    (last-parts w mid k (on-grown w mid g) all (tick-parts moment w i mid k.lives k.sent one) (none-grown w mid g))

module _ (s : Setting) (es : List Event) (w new : World) (ok : IsSetting s) (are : AreEvents es) (runs : Runs s es None w) (all : AllLast w) where
  known : Known w
  known = known-runs s es None w ok are runs

  spent : AllSpent w
  spent = from runs
    where
      from : Runs s es None w → AllSpent w
      from (mid, folds, same) = (after-lost s [] es (opening s) w ok (λ i e at. absurd (none_at i e at)) are refl (subst (λ (v : World). FoldsTo Happens (opening s) es v) (sym same) folds) (opening-lost s)).spent

  step-hearing : (k : ℕ) (f : Happens w (event.ClientStep k) new) → IsHearing w new k f.0.j f.0.x → AllLast new
  step-hearing k f hearing =
      last-hearing w new k f.0.j f.0.x f.0.joins.at f.0.joins.client f.0.is_open hearing
      (runs-hear s es None w ok are runs) (runs-caused s es None w ok are runs) (reached-answer w (s, es, None, ok, runs)) (run-removals s es None w ok runs) (run-tells s es None w new k ok are runs f)
      known spent (run-right s es None w ok runs) (event-on w new (event.ClientStep k) f) all

  reads-or : (e : Event) → Happens w e new → ReadsNone w new ⊎ AllLast new
  reads-or e happens = each-event (ReadsNone w new ⊎ AllLast new) w new (λ g. inl (none-grown w new g))
      (λ k f. elim (step-grown w new k f.0.j f.0.y f.1.0 f.0.joins.at f.1.1) [
        | inl handles ↦ inl (none-handled w new k f.0.j f.0.y f.0.joins.at handles)
        | inr g ↦ inl (none-grown w new g)
      ])
      (λ k f. elim (hearing-or w new k f.0.j f.0.x f.0.joins.at f.0.joins.client f.1) [
        | inl hearing ↦ inr (step-hearing k f hearing)
        | inr g ↦ inl (none-grown w new g)
      ])
      (λ i f. elim (made-or w new i f) [
        | inl made ↦ inl (none-made w new i f.0.x f.0.at made)
        | inr g ↦ inl (none-grown w new g)
      ])
      (λ i f. inl (subst (λ (z : World). ReadsNone w z) (sym f.1) (none-grown w (begun-mid w new i f.0.x f.1) (begun-grown w new i f.0.x f.1)))) e happens

  parts-last : (e : Event) → Happens w e new → PartsFrom w new → AllLast new
  parts-last e happens parts = elim (reads-or e happens) [
    | inl reads ↦ last-parts w new known (event-on w new e happens) all parts reads
    | inr done ↦ done
  ]

  step-last : (k : ℕ) → Happens w (event.ClientStep k) new → AllLast new
  step-last k happens = go happens.1.0 happens.1.1 happens.1.2 happens.1.3 happens.1.4
    where
      go : (did : answer.Stepped) (sent : List Sending) (core : Client) → StepsOn happens.0.x.core happens.0.j.at_client (connection_at happens.0.x.core happens.0.j.at_client) did sent core → new ≡ client_stepped k happens.0.j happens.0.x did sent core w → AllLast new
      go answer.NeedBytes sent core steps is = parts-last (event.ClientStep k) happens (parts-silent w new (lines-same IsSilent w new (ap (λ (z : World). z.client_logs) is)))
      go (answer.Closed c) sent core steps is =
          parts-last (event.ClientStep k) happens (subst (λ (v : World). PartsFrom w v) (sym is)
          (closed-parts w k happens.0.j happens.0.x c sent core happens.0.joins.at happens.0.joins.client happens.0.is_open known.lives known.stands steps))
      go (answer.Notices notices) sent core steps is = step-hearing k happens (record { notices = notices; sent = sent; core = core; steps = steps; is = is })

  event-last : (e : Event) → Happens w e new → AllLast new
  event-last e happens = elim (plain-or e) [
    | inl plain ↦ parts-last e happens (event-parts w new e plain known.lives known.stands known.live (λ i x c h at named. (known.quiet.tidy i x at).once c h named) happens)
    | inr (inl step) ↦ step-last step.0 (subst (λ (x : Event). Happens w x new) step.1 happens)
    | inr (inr tick) ↦
        let t : Happens w (event.Tick tick.0) new = subst (λ (x : Event). Happens w x new) tick.1 happens in
        subst (λ (v : World). AllLast v) (sym t.1.2) (ticked tick.0 t.1.0 (last-ticks s tick.0 w (runs-stand s es None w ok runs).sound known [] _ w t.1.0 refl t.1.1 all))
  ]
    where
      ticked : (moment : ℕ) (mid : World) → AllLast mid → AllLast (record mid { moment = moment })
      ticked moment mid old = old

after-last : (s : Setting) (es rest : List Event) (w new : World) → IsSetting s → AreEvents es → AreEvents rest → FoldsTo Happens (opening s) es w → FoldsTo Happens w rest new → AllLast w → AllLast new
after-last s es [] w new ok are more folds same all = subst (λ (v : World). AllLast v) same all
after-last s es (e ∷ rest) w new ok are more folds (mid, one, others) all =
    after-last s (es ++ e ∷ []) rest mid new ok (are-snoc es e are (more 0 e refl)) (λ i f at. more (suc i) f at) (folds-snoc es (opening s) w mid e folds one) others
    (event-last s es w mid ok are (w, folds, refl) all e one)

pub run-last : (s : Setting) (es : List Event) (stopped : Option Event) (w : World) → IsSetting s → AreEvents es → Runs s es stopped w → AllLast w
run-last s es stopped w ok are (mid, folds, stops) = stop stopped stops
  where
    all : AllLast mid
    all = after-last s [] es (opening s) mid ok (λ i e at. absurd (none_at i e at)) are refl folds (λ n c log i a sid m t h s at. absurd (none_at n c at))

    stop : (stopped : Option Event) → StopsAt mid stopped w → AllLast w
    stop (Some (event.Tick moment)) stops = elim stops [
      | inl same ↦ subst (λ (v : World). AllLast v) (sym same) all
      | inr ticked ↦ last-ticks s moment mid (runs-stand s es None mid ok (mid, folds, refl)).sound (known-runs s es None mid ok are (mid, folds, refl)) [] (clients_below ticked.0) mid w refl ticked.3 all
    ]
    stop stopped stops = subst (λ (v : World). AllLast v) (sym stops) all

-- in the words of the statement
pub run-none-lost : (s : Setting) (es : List Event) (stopped : Option Event) (w : World) → IsSetting s → AreEvents es → Runs s es stopped w → NoneIsLostSince (told w)
run-none-lost s es stopped w ok are runs n c x i a sid m t h r at logged opened at_t at_h reply creates at_r meant unc lt line =
    let j = At-mapped circuit_of w.circuits n c at in
    run-last s es stopped w ok are runs n j.0 x i a sid m t h r j.1 (subst (λ (v : Circuit). At w.client_logs v.client x) j.2 logged) (ap (λ (v : Circuit). v.client_open) (sym j.2) ∙ opened) (subst (λ (v : Circuit). At v.down i t) j.2 at_t) (subst (λ (v : Circuit). At v.heard i h) j.2 at_h)
    reply creates (subst (λ (v : Circuit). At v.up t.place r) j.2 at_r) meant (λ cleared. unc (subst (λ (v : Circuit). IsClearedWithin v.up sid t.place (length v.up)) (sym j.2) cleared)) lt line
