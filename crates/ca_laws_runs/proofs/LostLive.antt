-- A channel that is told to be lost was told to be live before on its circuit, over
-- every event and run.
use Rattle.std.proofs.Common.{◌≡◌, ℕ, suc, ◌+◌, ◌<◌, ◌≤◌, ◌⊎◌, inl, inr, false, true, List, [], ◌∷◌, ◌++◌, length, Option, Some, None, refl, sym, ap, ◌∙◌, subst, arith}
use Rattle.std.specs.List.{FoldsTo}
use Rattle.std.specs.Prelude.{take}
use Rattle.std.proofs.lemmas.Bool.{both_ways}
use Rattle.ca_text.specs.Place.{At}
use Rattle.ca_text.proofs.Places.{At-append, At-back, At-last, At-map, At-mapped, At-one, At-or, At-parts, At-within}
use Rattle.ca_arena.specs.declared.handle.Handle.{Handle}
use Rattle.ca_dbr.specs.declared.value.Outcome.TheVariants as outcome
use Rattle.ca_ids.specs.Table.{under}
use Rattle.ca_requests.specs.Meaning.{Means}
use Rattle.ca_wire.specs.Fields.{Fields}
use Rattle.ca_model.specs.Answers.{Notice, Sending}
use Rattle.ca_model.specs.Answers as answer
use Rattle.ca_model.specs.Client.{Client, Live, connection_at}
use Rattle.ca_model.specs.ClientEnds.{StepsOn, after_taking}
use Rattle.ca_model.specs.History.{Ask, Called, Clear, Create, Intent, Line, Nothing, Noticed, OfCircuit, On, Removal, Reply, Sent, Step, Told}
use Rattle.ca_model.specs.Speech.{Cid, In, Speaks}
use Rattle.ca_model.proofs.Thinner.{three-ways}
use Rattle.ca_model.specs.ClientEvents.{TicksOne, about_at, channel_number, client_stepped, line_of, meant_by}
use Rattle.ca_model.specs.Events.{Event}
use Rattle.ca_model.specs.Events as event
use Rattle.ca_model.specs.Runs.{AreEvents, Happens, Runs, StopsAt, clients_below}
use Rattle.ca_model.specs.World.{ClientSetting, ClientSide, IsSetting, Joined, Setting, World, circuit_of, log_length, opening}
use Rattle.ca_laws_parts.specs.Runs.{HearsSent}
use Rattle.ca_laws_parts.specs.ServerFits.{AllCaused}
use Rattle.ca_laws_parts.proofs.Causes.{runs-caused}
use Rattle.ca_laws_parts.proofs.BytesRuns.{runs-stand}
use Rattle.ca_laws_parts.proofs.ServerSpeaking.{runs-hear}
use Rattle.ca_laws_parts.specs.Kept.{kept}
use Rattle.ca_laws_parts.specs.Circuit.{HeldOn}
use Rattle.ca_laws_parts.specs.Seats.{Sound}
use Rattle.ca_laws_parts.proofs.WritesLists.{At-take, none_at, take-front}
use Rattle.ca_laws_parts.specs.Sids.{IsClearedWithin}
use Rattle.ca_laws_parts.proofs.Every.{ticks-frame}
use Rattle.ca_laws_runs.specs.HeldAnswering.{AllAnswer}
use Rattle.ca_laws_runs.specs.Created.{AllCreated}
use Rattle.ca_laws_runs.specs.Sides.{IsLiveAs}
use Rattle.ca_laws_runs.specs.Tells.{NoticesTell}
use Rattle.ca_laws_runs.specs.ToldLines.{IsToLast}
use Rattle.ca_laws_runs.specs.ToldParts.{LostWereLive}
use Rattle.ca_laws_runs.specs.Under.{IsUse}
use Rattle.ca_laws_runs.proofs.Created.{back-created, reached-created}
use Rattle.ca_laws_runs.proofs.Farewell.{FromFarewell}
use Rattle.ca_laws_runs.proofs.Heard.{created-before}
use Rattle.ca_laws_runs.proofs.Holds.{held-asked}
use Rattle.ca_laws_runs.proofs.Joint.{are-snoc, folds-snoc, run-tells}
use Rattle.ca_laws_runs.proofs.LegalRemovals.{AllRemovedRight, run-right}
use Rattle.ca_laws_runs.proofs.Lost.{left-about}
use Rattle.ca_laws_runs.proofs.LostLast.{AllLast, create-number, last-ticks, lost-last, run-last}
use Rattle.ca_laws_runs.proofs.LostRuns.{after-lost, known-runs, known-ticks, opening-lost, plain-or, ticks-snoc}
use Rattle.ca_laws_runs.proofs.OnceLess.{is_gone}
use Rattle.ca_laws_runs.proofs.OrderGrows.{ticks-grown}
use Rattle.ca_laws_runs.proofs.OrderKeeps.{IsHearing, hear-lines, hear-step}
use Rattle.ca_laws_runs.proofs.Parting.{IsAway, IsCut, Parted, PartsFrom, closed-parts, event-parts, not-call, parts-silent, tick-parts}
use Rattle.ca_laws_runs.proofs.Replied.{reached-answer}
use Rattle.ca_laws_runs.proofs.Says.{one-handle}
use Rattle.ca_laws_runs.proofs.SidTells.{back-frame}
use Rattle.ca_laws_runs.proofs.Spent.{AllSpent, Known}
use Rattle.ca_laws_runs.proofs.ToldAsked.{tells-asked}
use Rattle.ca_laws_runs.proofs.ToldCreated.{AllToldLive, create-used, run-told-live, so-grown, told-on}
use Rattle.ca_laws_runs.proofs.ToldGrows.{Onward, WorldsOn, event-on, on-grown}
use Rattle.ca_laws_runs.proofs.ToldLines.{lines-grown, lines-same}
use Rattle.ca_laws_runs.proofs.ToldLines.{IsSilent}
use Rattle.ca_laws_runs.proofs.ToldRemoval.{AllRemovals, run-removals}
use Rattle.ca_laws_runs.proofs.ToldRuns.{run-lasting}
use Rattle.ca_laws_runs.proofs.Under.{uncleared}
use Rattle.ca_laws_runs.proofs.ToldSteps.{after, log-is, next, no-request, noticed-intent, noticed-outcome}

-- ---- a channel that is live was told so

-- The reply that created the channel on this circuit was read, and told in this log; since then the
-- channel was only used, and not told lost.
record WasTold (c : Joined) (log : List Line) (a : ℕ) : Type 0 where
  j : ℕ
  t : Told
  h : Step
  s : Sent
  read : At c.lists.down j t × At c.lists.heard j h × (h.logged < h.after)
  own : At c.lists.up t.place s × (s.intent ≡ On a Create)
  cause : t.cause ≡ Reply
  means : Means t.message outcome.Done
  line : At log h.logged (Noticed (On a Create) outcome.Done)
  since : (q : ℕ) (r : Sent) (ask : Ask) → t.place < q → At c.lists.up q r → r.intent ≡ On a ask → IsUse ask
  none : (m : ℕ) → h.logged < m → At log m (Noticed (On a Create) outcome.Disconnected) → ⊥

clear-used : (ask : Ask) → ask ≡ Clear → IsUse ask → ⊥
clear-used ask is uses = subst (λ (z : Ask). IsUse z) is uses

was-told : (w : World) → Known w → AllToldLive w → AllCreated w → AllLast w → (n : ℕ) (c : Joined) (x : ClientSide) (log : List Line) (h : Handle) (sid : ℕ) → At w.circuits n c → At w.clients c.client x → c.lists.client_open ≡ true → At w.client_logs x.life log → IsLiveAs x.core.channels c.at_client h sid
    → WasTold c log (channel_number x.names h)
was-told w known told created last n c x log h sid on at opened logged live =
    let a : ℕ = channel_number x.names h in
    let b = (known.sided.sides n c x on at opened).lives h sid live in
    let m = b.3 in
    elim (At-or c.lists.heard b.0) [
      | inr past ↦ absurd (let lt : b.0 < length c.lists.heard = b.2 in omega (arith, lt, past))
      | inl step ↦
          let up : At c.lists.up m.t.place m.r = subst (λ (v : ℕ). At c.lists.up v m.r) (sym m.told.1) m.asked.0 in
          elim (told n c on b.0 a sid m.t step.0 m.r m.told.0 step.1 m.told.2 m.told.3 up m.asked.1) [
            | inr cleared ↦
                absurd (clear-used Clear refl (m.since cleared.0 cleared.1 Clear (subst (λ (v : ℕ). v < cleared.0) m.told.1 cleared.2) (At-within c.lists.up cleared.0 cleared.1 cleared.3) cleared.3 cleared.4))
            | inl said ↦
                let life : c.lists.client ≡ x.life = known.lives.same n c x on at opened in
                let one : said.0 ≡ log = At-one w.client_logs x.life said.0 log (subst (λ (v : ℕ). At w.client_logs v said.0) life said.1) logged in
                record {
                  j = b.0;
                  t = m.t;
                  h = step.0;
                  s = m.r;
                  read = (m.told.0, step.1, said.3);
                  own = (up, m.asked.1);
                  cause = m.told.2;
                  means = inr (inr (inl (m.told.3.0, tt)));
                  line = subst (λ (v : List Line). At v step.0.logged (Noticed (On a Create) outcome.Done)) one said.2;
                  since = λ q r ask lt there is. m.since q r ask (subst (λ (v : ℕ). v < q) m.told.1 lt) (At-within c.lists.up q r there) there is;
                  none = λ q lt line.
                      last n c log b.0 a sid q m.t step.0 m.r on (subst (λ (v : ℕ). At w.client_logs v log) (sym life) logged) opened m.told.0 step.1 m.told.2 m.told.3 up m.asked.1
                      (λ cleared.
                      uncleared c (created n c on) (known.sided.right n c on).under (λ k s at_s. held-asked w known.held n k c s on at_s) a b.0 b.1 sid (length c.lists.up) m
                      (subst (λ (v : ℕ). IsClearedWithin c.lists.up sid v (length c.lists.up)) m.told.1 cleared))
                      lt line;
                }
          ]
    ]

-- ---- what is told to be lost was told to be live

record IsLostLive (w : World) (life : ℕ) (x : List Line) (i a : ℕ) : Type 0 where
  n : ℕ
  c : Joined
  on : At w.circuits n c × (c.lists.client ≡ life)
  j : ℕ
  t : Told
  h : Step
  s : Sent
  read : At c.lists.down j t × At c.lists.heard j h × (h.logged < h.after)
  own : At c.lists.up t.place s × (s.intent ≡ On a Create)
  means : Means t.message outcome.Done
  line : At x h.logged (Noticed (On a Create) outcome.Done) × (h.logged < i)
  since : (m : ℕ) → h.logged < m → m < i → At x m (Noticed (On a Create) outcome.Disconnected) → ⊥
  held : In (take i x) (Called (On a Clear) Nothing) → ⊥
  why : (c.lists.client_open ≡ false) ⊎ ((q : ℕ) × (u : Told) × (g : Step) × At c.lists.down q u × At c.lists.heard q g × (u.cause ≡ Removal) × (u.place ≡ t.place) × (g.logged ≤ i) × (i < g.after))

-- it stays so
live-on : (w new : World) → WorldsOn w new → (life : ℕ) (x more : List Line) (i a : ℕ) → i < length x → IsLostLive w life x i a → IsLostLive new life (x ++ more) i a
live-on w new on life x more i a within l =
    let c = on.circuits l.n l.c l.on.0 in
    record {
      n = l.n;
      c = c.0;
      on = (c.1, c.2.client ∙ l.on.1);
      j = l.j;
      t = l.t;
      h = l.h;
      s = l.s;
      read = (c.2.down l.j l.t l.read.0, c.2.heard l.j l.h l.read.1, l.read.2);
      own = (c.2.up l.t.place l.s l.own.0, l.own.1);
      means = l.means;
      line = (At-append x more l.h.logged (Noticed (On a Create) outcome.Done) l.line.0, l.line.1);
      since = λ m lt lm line. l.since m lt lm (At-back x more m (Noticed (On a Create) outcome.Disconnected) line (omega (arith, within, lm)));
      held = subst (λ (v : List Line). In v (Called (On a Clear) Nothing) → ⊥) (sym (take-front i x more (omega (arith, within)))) l.held;
      why = elim l.why [
        | inl shut ↦ inl (c.2.shut shut)
        | inr left ↦ inr (left.0, left.1, left.2, c.2.down left.0 left.1 left.3, c.2.heard left.0 left.2 left.4, left.5, left.6, left.7, left.8)
      ];
    }

abbrev AllLostLive : World → Type 0
AllLostLive w = (life : ℕ) (x : List Line) (i a : ℕ) → At w.client_logs life x → At x i (Noticed (On a Create) outcome.Disconnected) → IsLostLive w life x i a

-- The caller had not cleared a channel that is live.
not-cleared : (w : World) → Known w → (i : ℕ) (x : ClientSide) (log : List Line) (h on : Handle) (sid : ℕ) → At w.clients i x → At w.client_logs x.life log → IsLiveAs x.core.channels on h sid → In log (Called (On (channel_number x.names h) Clear) Nothing) → ⊥
not-cleared w known i x log h on sid at logged live clear =
    let a : ℕ = channel_number x.names h in
    let u = known.once.called i x log clear.0 (On a Clear) Nothing at logged clear.1 in
    let same : u.0 ≡ h = At-one x.names.channels a u.0 h u.1 ((known.quiet.tidy i x at).numbered h live.ch live.there) in
    let gone : is_gone live.ch.standing ≡ true = u.2 live.ch (subst (λ (k : Handle). under x.core.channels k ≡ Some live.ch) (sym same) live.there) in
    both_ways (is_gone live.ch.standing) (ap is_gone live.stands) gone

-- nor does what is told now
held-by : (log more : List Line) (i a : ℕ) → (In log (Called (On a Clear) Nothing) → ⊥) → ((q : ℕ) → At more q (Called (On a Clear) Nothing) → ⊥) → In (take i (log ++ more)) (Called (On a Clear) Nothing) → ⊥
held-by log more i a before fresh c = elim (At-parts log more c.0 (Called (On a Clear) Nothing) (At-take i (log ++ more) c.0 (Called (On a Clear) Nothing) c.1)) [
  | inl old ↦ before (c.0, old)
  | inr late ↦ fresh late.0 late.2
]

-- a circuit goes on, on which a channel was told to be live
lost-from : (new : World) (n : ℕ) (c d : Joined) (log more : List Line) (i life a : ℕ) → At new.circuits n d → Onward c d → c.lists.client ≡ life → length log ≤ i → (In (take i (log ++ more)) (Called (On a Clear) Nothing) → ⊥) → (l : WasTold c log a)
    → ((d.lists.client_open ≡ false) ⊎ ((q : ℕ) × (u : Told) × (g : Step) × At d.lists.down q u × At d.lists.heard q g × (u.cause ≡ Removal) × (u.place ≡ l.t.place) × (g.logged ≤ i) × (i < g.after)))
    → ((m q : ℕ) → m ≡ length log + q → m < i → At more q (Noticed (On a Create) outcome.Disconnected) → ⊥) → IsLostLive new life (log ++ more) i a
lost-from new n c d log more i life a at_d goes mine late held l why fresh =
    let early : l.h.logged < length log = At-within log l.h.logged (Noticed (On a Create) outcome.Done) l.line in
    record {
      n = n;
      c = d;
      on = (at_d, goes.client ∙ mine);
      j = l.j;
      t = l.t;
      h = l.h;
      s = l.s;
      read = (goes.down l.j l.t l.read.0, goes.heard l.j l.h l.read.1, l.read.2);
      own = (goes.up l.t.place l.s l.own.0, l.own.1);
      means = l.means;
      line = (At-append log more l.h.logged (Noticed (On a Create) outcome.Done) l.line, omega (arith, early, late));
      since = λ m lt lm line. elim (At-parts log more m (Noticed (On a Create) outcome.Disconnected) line) [ inl old ↦ l.none m lt old | inr new_one ↦ fresh m new_one.0 new_one.1 lm new_one.2 ];
      held = held;
      why = why;
    }

module _ (w new : World) (known : Known w) (told : AllToldLive w) (created : AllCreated w) (last : AllLast w) (on : WorldsOn w new) where
  was-live : AllLostLive w → (life : ℕ) (y : List Line) (i a : ℕ) → At new.client_logs life y → ((x : List Line) × At w.client_logs life x × At x i (Noticed (On a Create) outcome.Disconnected)) → IsLostLive new life y i a
  was-live all life y i a at old =
      let more = on.logs life old.0 old.1 in
      let whole : old.0 ++ more.0 ≡ y = At-one new.client_logs life (old.0 ++ more.0) y more.1 at in
      subst (λ (l : List Line). IsLostLive new life l i a) whole (live-on w new on life old.0 more.0 i a (At-within old.0 i (Noticed (On a Create) outcome.Disconnected) old.2) (all life old.0 i a old.1 old.2))

  parted-live : (life : ℕ) (y : List Line) (i a : ℕ) → Parted w new life y i (Noticed (On a Create) outcome.Disconnected) → IsLostLive new life y i a
  parted-live life y i a p = by p.way
    where
      says : (said : Notice) → p.said ≡ said → line_of OfCircuit p.x.names said ≡ Noticed (On a Create) outcome.Disconnected
      says said is = ap (λ (v : Notice). line_of OfCircuit p.x.names v) (sym is) ∙ sym p.tells

      no-line : (q : Handle) → line_of OfCircuit p.x.names (answer.Completed q outcome.Disconnected) ≡ Noticed (On a Create) outcome.Disconnected → ⊥
      no-line q is =
          let meant : meant_by p.x.names.requests q ≡ On a Create = noticed-intent (meant_by p.x.names.requests q) (On a Create) outcome.Disconnected outcome.Disconnected is in
          no-request p.x.names.requests q (λ m e named. (let r = (known.quiet.tidy p.number p.x p.at).asked m e named in (r.0, r.1, r.2))) (subst (λ (v : Intent). IsToLast v) (sym meant) tt)

      no-create : (q : Handle) → p.said ≡ answer.Completed q outcome.Disconnected → ⊥
      no-create q is = no-line q (says (answer.Completed q outcome.Disconnected) is)

      -- what was told before in the same event is another's
      another : (f h : Handle) (sid : ℕ) → p.said ≡ answer.Lost f → IsLiveAs p.x.core.channels h f sid → channel_number p.x.names f ≡ a → (q : ℕ) → q < p.place → At p.lines q (Noticed (On a Create) outcome.Disconnected) → ⊥
      another f h sid is live number q lt at_q =
          let o = p.once f is q (Noticed (On a Create) outcome.Disconnected) lt at_q in
          let line : (said : Notice) → o.0 ≡ said → line_of OfCircuit p.x.names said ≡ Noticed (On a Create) outcome.Disconnected = λ said same. ap (λ (v : Notice). line_of OfCircuit p.x.names v) (sym same) ∙ sym o.1 in
          elim o.2.from [
            | inl g ↦ no-line g.0 (line (answer.Completed g.0 outcome.Disconnected) g.1)
            | inr g ↦
                let tidy = known.quiet.tidy p.number p.x p.at in
                let its : channel_number p.x.names g.0 ≡ a = create-number (channel_number p.x.names g.0) a (noticed-intent (On (channel_number p.x.names g.0) Create) (On a Create) outcome.Disconnected outcome.Disconnected (line (answer.Lost g.0) g.1)) in
                let one : g.0 ≡ f = one-handle p.x.names g.0 f (tidy.numbered g.0 (g.2.1).ch (g.2.1).there) (tidy.numbered f live.ch live.there) (its ∙ sym number) in
                o.3 (g.1 ∙ ap (λ (k : Handle). answer.Lost k) one)
          ]

      by : IsCut w new p.number p.x p.said ⊎ IsAway p.x p.said y i → IsLostLive new life y i a
      by (inr away) = absurd (no-create away.q away.is)
      by (inl cut) = from cut.from
        where
          at_x : At w.clients cut.c.client p.x
          at_x = subst (λ (z : ℕ). At w.clients z p.x) (sym cut.on.1) p.at

          shut : (d : Joined) → At new.circuits cut.n d → d.lists.client_open ≡ false
          shut d at_d = ap (λ (z : Joined). z.lists.client_open) (At-one new.circuits cut.n d cut.d at_d cut.now.0) ∙ cut.now.1

          from : FromFarewell p.x.core cut.c.at_client p.said → IsLostLive new life y i a
          from (inl f) = absurd (no-create f.0 f.1)
          from (inr f) =
              let number : channel_number p.x.names f.0 ≡ a = create-number (channel_number p.x.names f.0) a (noticed-intent (On (channel_number p.x.names f.0) Create) (On a Create) outcome.Disconnected outcome.Disconnected (says (answer.Lost f.0) f.1)) in
              let o = on.circuits cut.n cut.c cut.on.0 in
              let logged : At w.client_logs p.x.life p.log = subst (λ (l : ℕ). At w.client_logs l p.log) p.mine p.there in
              let l : WasTold cut.c p.log a = subst (λ (z : ℕ). WasTold cut.c p.log z) number (was-told w known told created last cut.n cut.c p.x p.log f.0 f.2.0 cut.on.0 at_x cut.on.2 logged f.2.1) in
              let place : i ≡ length p.log + p.place = p.late.0 in
              subst (λ (z : List Line). IsLostLive new life z i a) (sym p.whole)
              (lost-from new cut.n cut.c o.0 p.log p.lines i life a o.1 o.2 (known.lives.same cut.n cut.c p.x cut.on.0 at_x cut.on.2 ∙ sym p.mine) (omega (arith, place))
              (held-by p.log p.lines i a (subst (λ (z : ℕ). In p.log (Called (On z Clear) Nothing) → ⊥) number (not-cleared w known p.number p.x p.log f.0 cut.c.at_client f.2.0 p.at logged f.2.1)) (λ q at_q. (let away = p.calls q (On a Clear) Nothing at_q in no-create away.q away.is)))
              l (inl (shut o.0 o.1))
              (λ m q m_is lt at_q. another f.0 cut.c.at_client f.2.0 f.1 f.2.1 number q (omega (arith, place, m_is, lt)) at_q))

  live-parts : PartsFrom w new → AllLostLive w → AllLostLive new
  live-parts parts all life y i a at there = elim (parts life y i (Noticed (On a Create) outcome.Disconnected) at there) [
    | inl old ↦ was-live all life y i a at old
    | inr (inl silent) ↦ absurd silent
    | inr (inr parted) ↦ parted-live life y i a parted
  ]

-- ---- a message is read

module _ (w new : World) (k : ℕ) (j : Joined) (x : ClientSide) (on : At w.circuits k j) (at : At w.clients j.client x) (opened : j.lists.client_open ≡ true) (f : IsHearing w new k j x)
    (hears : HearsSent w) (caused : AllCaused w) (answers : AllAnswer w) (removals : AllRemovals w) (tells : NoticesTell w k) (known : Known w) (spent : AllSpent w) (right : AllRemovedRight w) (told : AllToldLive w) (created : AllCreated w) (last : AllLast w) (goes_on : WorldsOn w new) where
  mine : HeldOn (kept w k) x.names x.core j
  mine =
      let held = known.held k j on in
      let joined : held.0 ≡ j = At-one w.circuits k held.0 j held.2 on in
      let holder : held.1 ≡ x = At-one w.clients j.client held.1 x (subst (λ (z : Joined). At w.clients z.client held.1) joined held.3) at in
      subst (λ (v : Joined × ClientSide). HeldOn (kept w k) v.1.names v.1.core v.0) (λ i. (joined i, holder i)) held.4

  heard-live : (life : ℕ) (log y : List Line) (i p : ℕ) (line : Line) (a : ℕ) (said : Notice) → life ≡ x.life → At w.client_logs life log → y ≡ log ++ hear-lines w new k j x on at f → At (hear-lines w new k j x on at f) p line → i ≡ length log + p → At f.notices p said
      → line_of (about_at j.lists (length j.lists.heard)) x.names said ≡ Noticed (On a Create) outcome.Disconnected → IsLostLive new life y i a
  heard-live life log y i p line a (answer.Update g out) is_mine there whole placed place at_p is = absurd cc
  heard-live life log y i p line a (answer.Live h) is_mine there whole placed place at_p is = absurd (let e : outcome.Done ≡ outcome.Disconnected = noticed-outcome _ (On a Create) outcome.Done outcome.Disconnected is in cc)
  heard-live life log y i p line a (answer.SubscriptionEnded g s) is_mine there whole placed place at_p is = absurd (let e : outcome.Failed s ≡ outcome.Disconnected = noticed-outcome _ (On a Create) (outcome.Failed s) outcome.Disconnected is in cc)
  heard-live life log y i p line a (answer.WriteRefused h s) is_mine there whole placed place at_p is = absurd (let e : outcome.Failed s ≡ outcome.Disconnected = noticed-outcome _ (On a Create) (outcome.Failed s) outcome.Disconnected is in cc)
  heard-live life log y i p line a (answer.Completed q out) is_mine there whole placed place at_p is =
      let meant : meant_by x.names.requests q ≡ On a Create = noticed-intent (meant_by x.names.requests q) (On a Create) out outcome.Disconnected is in
      absurd (no-request x.names.requests q (λ m e named. (let r = (known.quiet.tidy j.client x at).asked m e named in (r.0, r.1, r.2))) (subst (λ (v : Intent). IsToLast v) (sym meant) tt))
  heard-live life log y i p line a (answer.Lost h) is_mine there whole placed place at_p is =
      let n = next w new k j x on at opened f hears caused answers removals tells known.held known.once known.quiet known.lives in
      let u = tells-asked (after_taking j.at_client n.rest x.core) j.at_client n.m (record { core = f.core; sent = f.sent; notices = f.notices }) n.hear p (answer.Lost h) at_p in
      let l = left-about w new k j x on at opened f hears caused answers removals tells known spent right h u in
      let number : channel_number x.names h ≡ a = create-number (channel_number x.names h) a (noticed-intent (On (channel_number x.names h) Create) (On a Create) outcome.Disconnected outcome.Disconnected is) in
      let at_log : At w.client_logs x.life log = subst (λ (v : ℕ). At w.client_logs v log) is_mine there in
      let was : WasTold j log (channel_number x.names h) = was-told w known told created last k j x log h l.2.0 on at opened at_log l.2.1 in
      let speaks : Speaks n.t.message (Cid n.m.p1) = inl (inl (inr (inr (inr (ap (λ (v : Fields). v.command) n.is ∙ u.0))), ap (λ (v : Fields). v.p1) n.is)) in
      let late : was.t.place ≤ n.t.place = created-before (kept w k) x.names x.core j.at_client j.lists n.t n.s (known.quiet.tidy j.client x at) (known.quiet.quiet k j x on at opened) mine.flows (mine.cids opened) (mine.holds opened) n.told n.up n.m.p1 h (Live u.1.0 u.1.1) was.t.place u.1.2 speaks (was.s, was.own.0, was.own.1) in
      let same : n.t.place ≡ was.t.place = elim (three-ways was.t.place n.t.place) [
        | inl before ↦ absurd (create-used Create refl (was.since n.t.place n.s Create before n.up l.1))
        | inr (inl one) ↦ sym one
        | inr (inr after_it) ↦ absurd (omega (arith, after_it, late))
      ] in
      let now = after w new k j x on at opened f hears caused answers removals tells known.held known.once known.quiet known.lives in
      let step : Step = hear-step w new k j x on at f in
      let logged : log_length x.life w.client_logs ≡ length log = log-is w new k j x on at opened f hears caused answers removals tells known.held known.once known.quiet known.lives life log is_mine there in
      let some : p < length (hear-lines w new k j x on at f) = At-within (hear-lines w new k j x on at f) p line placed in
      let goes : Onward j now.0 = record {
        client = now.2.client;
        up = now.2.said;
        down = now.2.tells;
        heard = λ q g at_q. subst (λ (v : List Step). At v q g) (sym now.2.heard) (At-append j.lists.heard (step ∷ []) q g at_q);
        shut = λ e. absurd (both_ways j.lists.client_open e opened);
      } in
      subst (λ (v : ℕ × List Line). IsLostLive new life v.1 i v.0) (λ z. (number z, sym whole z))
      (lost-from new k j now.0 log (hear-lines w new k j x on at f) i life (channel_number x.names h) now.1 goes (known.lives.same k j x on at opened ∙ sym is_mine) (omega (arith, place))
      (held-by log (hear-lines w new k j x on at f) i (channel_number x.names h) (not-cleared w known j.client x log h j.at_client l.2.0 at at_log l.2.1)
      (λ q at_q. (let v = At-mapped (line_of (about_at j.lists (length j.lists.heard)) x.names) f.notices q (Called (On (channel_number x.names h) Clear) Nothing) at_q in not-call (about_at j.lists (length j.lists.heard)) x.names v.0 (On (channel_number x.names h) Clear) Nothing v.2)))
      was (inr (
        length j.lists.heard,
        n.t,
        step,
        now.2.tells (length j.lists.heard) n.t n.told,
        subst (λ (v : List Step). At v (length j.lists.heard) step) (sym now.2.heard) (At-last j.lists.heard step),
        l.0,
        same,
        omega (arith, logged, place),
        omega (arith, logged, place, some),
      ))
      (λ m q m_is lt at_q.
      let v = At-mapped (line_of (about_at j.lists (length j.lists.heard)) x.names) f.notices q (Noticed (On (channel_number x.names h) Create) outcome.Disconnected) at_q in
      let late_q : p ≤ q = lost-last w new k j x on at opened f hears caused answers removals tells known spent right goes_on last (channel_number x.names h) q v.0 v.1 (sym v.2) p (answer.Lost h) at_p in
      omega (arith, m_is, place, lt, late_q)))

  live-heard : AllLostLive w → AllLostLive new
  live-heard all life y i a at_y there =
      let lines : List Line = hear-lines w new k j x on at f in
      elim (lines-grown w.client_logs x.life lines (known.lives.present j.client x at) life y i (Noticed (On a Create) outcome.Disconnected) (subst (λ (v : List (List Line)). At v life y) (ap (λ (v : World). v.client_logs) f.is) at_y) there) [
        | inl old ↦ was-live w new known told created last goes_on all life y i a at_y old
        | inr more ↦
            let m = At-mapped (line_of (about_at j.lists (length j.lists.heard)) x.names) f.notices more.1 (Noticed (On a Create) outcome.Disconnected) more.5 in
            heard-live life more.0 y i more.1 (Noticed (On a Create) outcome.Disconnected) a m.0 more.2 more.3 more.4 more.5 more.6 m.1 (sym m.2)
      ]

-- ---- moments, events and runs

live-ticks : (s : Setting) (moment : ℕ) (base : World) → Sound s base → Known base → AllCreated base → AllLast base → (done is : List ℕ) (w new : World) → FoldsTo (TicksOne moment) base done w → FoldsTo (TicksOne moment) w is new → AllToldLive w → AllLostLive w → AllLostLive new
live-ticks s moment base sound known created last done [] w new ticked same told all = subst (λ (v : World). AllLostLive v) same all
live-ticks s moment base sound known created last done (i ∷ is) w new ticked (mid, one, rest) told all =
    let k : Known w = known-ticks s moment done base w sound ticked known in
    let g = ticks-grown moment w (i ∷ []) mid (mid, one, refl) in
    let on : WorldsOn w mid = on-grown w mid g in
    live-ticks s moment base sound known created last (done ++ i ∷ []) is mid new (ticks-snoc moment done base w mid i ticked one) rest (told-on w mid k.held on (so-grown w mid g) told)
    (live-parts w mid k told (back-created base w (back-frame base w (ticks-frame moment base done w ticked)) created) (last-ticks s moment base sound known [] done base w refl ticked last) on (tick-parts moment w i mid k.lives k.sent one) all)

module _ (s : Setting) (es : List Event) (w new : World) (ok : IsSetting s) (are : AreEvents es) (runs : Runs s es None w) where
  known : Known w
  known = known-runs s es None w ok are runs

  told : AllToldLive w
  told = run-told-live s es None w ok are runs

  created : AllCreated w
  created = reached-created w (s, es, None, ok, runs)

  last : AllLast w
  last = run-last s es None w ok are runs

  spent : AllSpent w
  spent = from runs
    where
      from : Runs s es None w → AllSpent w
      from (mid, folds, same) = (after-lost s [] es (opening s) w ok (λ i e at. absurd (none_at i e at)) are refl (subst (λ (v : World). FoldsTo Happens (opening s) es v) (sym same) folds) (opening-lost s)).spent

  step-live : (k : ℕ) → Happens w (event.ClientStep k) new → AllLostLive w → AllLostLive new
  step-live k happens all = go happens.1.0 happens.1.1 happens.1.2 happens.1.3 happens.1.4
    where
      on : WorldsOn w new
      on = event-on w new (event.ClientStep k) happens

      go : (did : answer.Stepped) (sent : List Sending) (core : Client) → StepsOn happens.0.x.core happens.0.j.at_client (connection_at happens.0.x.core happens.0.j.at_client) did sent core → new ≡ client_stepped k happens.0.j happens.0.x did sent core w → AllLostLive new
      go answer.NeedBytes sent core steps is = live-parts w new known told created last on (parts-silent w new (lines-same IsSilent w new (ap (λ (z : World). z.client_logs) is))) all
      go (answer.Closed c) sent core steps is =
          live-parts w new known told created last on (subst (λ (v : World). PartsFrom w v) (sym is)
          (closed-parts w k happens.0.j happens.0.x c sent core happens.0.joins.at happens.0.joins.client happens.0.is_open known.lives known.stands steps)) all
      go (answer.Notices notices) sent core steps is =
          live-heard w new k happens.0.j happens.0.x happens.0.joins.at happens.0.joins.client happens.0.is_open (record { notices = notices; sent = sent; core = core; steps = steps; is = is })
          (runs-hear s es None w ok are runs) (runs-caused s es None w ok are runs) (reached-answer w (s, es, None, ok, runs)) (run-removals s es None w ok runs) (run-tells s es None w new k ok are runs happens)
          known spent (run-right s es None w ok runs) told created last on all

  event-live : (e : Event) → Happens w e new → AllLostLive w → AllLostLive new
  event-live e happens all = elim (plain-or e) [
    | inl plain ↦
        live-parts w new known told created last (event-on w new e happens)
        (event-parts w new e plain known.lives known.stands known.live (λ i x c h at named. (known.quiet.tidy i x at).once c h named) happens) all
    | inr (inl step) ↦ step-live step.0 (subst (λ (x : Event). Happens w x new) step.1 happens) all
    | inr (inr tick) ↦
        let t : Happens w (event.Tick tick.0) new = subst (λ (x : Event). Happens w x new) tick.1 happens in
        subst (λ (v : World). AllLostLive v) (sym t.1.2) (ticked tick.0 t.1.0 (live-ticks s tick.0 w (runs-stand s es None w ok runs).sound known created last [] _ w t.1.0 refl t.1.1 told all))
  ]
    where
      ticked : (moment : ℕ) (mid : World) → AllLostLive mid → AllLostLive (record mid { moment = moment })
      ticked moment mid old life x i a at there =
          let r = old life x i a at there in
          record { n = r.n; c = r.c; on = r.on; j = r.j; t = r.t; h = r.h; s = r.s; read = r.read; own = r.own; means = r.means; line = r.line; since = r.since; held = r.held; why = r.why }

after-live : (s : Setting) (es rest : List Event) (w new : World) → IsSetting s → AreEvents es → AreEvents rest → FoldsTo Happens (opening s) es w → FoldsTo Happens w rest new → AllLostLive w → AllLostLive new
after-live s es [] w new ok are more folds same all = subst (λ (v : World). AllLostLive v) same all
after-live s es (e ∷ rest) w new ok are more folds (mid, one, others) all =
    after-live s (es ++ e ∷ []) rest mid new ok (are-snoc es e are (more 0 e refl)) (λ i f at. more (suc i) f at) (folds-snoc es (opening s) w mid e folds one) others
    (event-live s es w mid ok are (w, folds, refl) e one all)

opening-live : (s : Setting) → AllLostLive (opening s)
opening-live s life x i a at there =
    let none : List Line = [] in
    let m = At-mapped (λ (c : ClientSetting). none) s.clients life x at in
    absurd (none_at i (Noticed (On a Create) outcome.Disconnected) (subst (λ (l : List Line). At l i (Noticed (On a Create) outcome.Disconnected)) m.2 there))

run-lost-live : (s : Setting) (es : List Event) (stopped : Option Event) (w : World) → IsSetting s → AreEvents es → Runs s es stopped w → AllLostLive w
run-lost-live s es stopped w ok are (mid, folds, stops) = stop stopped stops
  where
    all : AllLostLive mid
    all = after-live s [] es (opening s) mid ok (λ i e at. absurd (none_at i e at)) are refl folds (opening-live s)

    stop : (stopped : Option Event) → StopsAt mid stopped w → AllLostLive w
    stop (Some (event.Tick moment)) stops = elim stops [
      | inl same ↦ subst (λ (v : World). AllLostLive v) (sym same) all
      | inr ticked ↦
          live-ticks s moment mid (runs-stand s es None mid ok (mid, folds, refl)).sound (known-runs s es None mid ok are (mid, folds, refl)) (reached-created mid (s, es, None, ok, (mid, folds, refl))) (run-last s es None mid ok are (mid, folds, refl)) [] (clients_below ticked.0) mid w refl ticked.3 (run-told-live s es None mid ok are (mid, folds, refl)) all
    ]
    stop stopped stops = subst (λ (v : World). AllLostLive v) (sym stops) all

-- ---- what the statement says

pub run-lost-were-live : (s : Setting) (es : List Event) (stopped : Option Event) (w : World) → IsSetting s → AreEvents es → Runs s es stopped w → LostWereLive w
run-lost-were-live s es stopped w ok are runs life x at i a there =
    let l = run-lost-live s es stopped w ok are runs life x i a at there in
    let other = (run-lasting s es stopped w ok are runs life x at l.h.logged (On a Create) outcome.Done l.line.0 tt (λ e. cc)).0 in
    record {
      l = l.h.logged;
      by = record {
        n = l.n;
        c = circuit_of l.c;
        on = (At-map circuit_of w.circuits l.n l.c l.on.0, l.on.1);
        j = l.j;
        t = l.t;
        h = l.h;
        read = (l.read.0, l.read.1, refl, l.read.2);
        own = (l.s, l.own.0, l.own.1);
        held = other.held;
        means = l.means;
      };
      live = (l.line.0, l.line.1, l.held);
      since = l.since;
      why = l.why;
    }
