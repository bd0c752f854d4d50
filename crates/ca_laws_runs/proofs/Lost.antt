-- What is told to be lost is lost: its circuit has ended at the client, its channel was cleared
-- before, or the SERVER_DISCONN for its channel was read.
use Rattle.std.proofs.Common.{◌≡◌, ℕ, ◌+◌, ◌<◌, ◌≤◌, ◌⊎◌, inl, inr, false, true, List, ◌++◌, length, Some, refl, sym, ap, ◌∙◌, subst, arith}
use Rattle.std.specs.Prelude.{take}
use Rattle.ca_text.specs.Place.{At}
use Rattle.ca_text.specs.declared.command.Command.TheVariants as command
use Rattle.ca_text.proofs.Places.{At-last, At-map, At-mapped, At-one, At-within}
use Rattle.ca_arena.specs.declared.handle.Handle.{Handle}
use Rattle.ca_dbr.specs.declared.value.Outcome.{Outcome}
use Rattle.ca_dbr.specs.declared.value.Outcome.TheVariants as outcome
use Rattle.ca_ids.specs.Table.{same_handle, under}
use Rattle.ca_requests.specs.Meaning.{Means}
use Rattle.ca_requests.specs.Requests.{Request, asks_on, was_sent_on}
use Rattle.ca_wire.specs.Fields.{Fields}
use Rattle.ca_model.specs.Answers.{Notice}
use Rattle.ca_model.specs.Answers as notice
use Rattle.ca_model.specs.Client.{Live}
use Rattle.ca_model.specs.ClientEnds.{after_taking}
use Rattle.ca_model.specs.Hears.{Effect}
use Rattle.ca_model.specs.History.{Ask, Called, Clear, Create, Intent, Line, Nothing, Noticed, OfCircuit, On, Removal, Sent, Step, Told}
use Rattle.ca_model.specs.History as history
use Rattle.ca_model.specs.Speech.{Cid, In, Is, Speaks}
use Rattle.ca_model.specs.Channels.{IsLost, Suits}
use Rattle.ca_model.proofs.Handles.{same-is, same-itself}
use Rattle.ca_model.proofs.Standings.{channel-on}
use Rattle.ca_model.proofs.Thinner.{three-ways}
use Rattle.ca_model.specs.ClientEvents.{about_at, channel_number, line_of, meant_by}
use Rattle.ca_model.specs.World.{ClientSide, Joined, World, circuit_of, log_length, told}
use Rattle.ca_laws_parts.specs.Runs.{HearsSent}
use Rattle.ca_laws_parts.specs.ServerFits.{AllCaused}
use Rattle.ca_laws_parts.specs.Kept.{kept}
use Rattle.ca_laws_parts.specs.Circuit.{HeldOn}
use Rattle.ca_laws_parts.proofs.WritesLists.{take-front}
use Rattle.ca_laws_runs.specs.HeldAnswering.{AllAnswer}
use Rattle.ca_laws_runs.specs.Sides.{IsLiveAs}
use Rattle.ca_laws_runs.specs.Tells.{IsOnChannel, NoticesTell}
use Rattle.ca_laws_runs.proofs.Farewell.{FromFarewell}
use Rattle.ca_laws_runs.proofs.Found.{create-is, found-intent}
use Rattle.ca_laws_runs.proofs.LegalRemovals.{AllRemovedRight}
use Rattle.ca_laws_runs.proofs.Live.{one-sid}
use Rattle.ca_laws_runs.proofs.OpenLive.{IsLiveOn}
use Rattle.ca_laws_runs.proofs.OrderKeeps.{IsHearing, hear-lines, hear-step}
use Rattle.ca_laws_runs.proofs.Parting.{IsAway, IsCut, Parted, PartsFrom}
use Rattle.ca_laws_runs.proofs.Spent.{AllSpent, Known, open-circuit, request-sent}
use Rattle.ca_laws_runs.proofs.ToldAsked.{IsLeft, IsOpenIn, tells-asked}
use Rattle.ca_laws_runs.proofs.ToldGrows.{WorldsOn}
use Rattle.ca_laws_runs.proofs.ToldLines.{lines-grown}
use Rattle.ca_laws_runs.proofs.ToldRemoval.{AllRemovals}
use Rattle.ca_laws_runs.proofs.ToldSteps.{after, log-is, next, noticed-intent, noticed-outcome}

-- In the step that told line i, the SERVER_DISCONN was read for the creation of the channel after
-- which the message at place k was sent.
abbrev pub IsLeftIn : Joined → (k a i : ℕ) → Type 0
IsLeftIn c k a i = (j : ℕ) × (t : Told) × (h : Step) × At c.lists.down j t × At c.lists.heard j h × (t.cause ≡ Removal) × ((r : Sent) × At c.lists.up t.place r × (r.intent ≡ On a Create))
    × (t.place ≤ k) × (k < h.sent) × (h.logged ≤ i) × (i < h.after)

-- What was meant so is lost in line i of this log.
pub record IsLostIn (w : World) (life : ℕ) (x : List Line) (i : ℕ) (intent : Intent) : Type 0 where
  pub n : ℕ
  pub k : ℕ
  pub a : ℕ
  pub ask : Ask
  pub c : Joined
  pub on : At w.circuits n c × (c.lists.client ≡ life)
  pub is : intent ≡ On a ask
  pub s : Sent
  pub meant : At c.lists.up k s × (s.intent ≡ intent)
  pub why : (c.lists.client_open ≡ false) ⊎ (In (take i x) (Called (On a Clear) Nothing) ⊎ IsLeftIn c k a i)

-- it stays so
pub lost-on : (w new : World) → WorldsOn w new → (life : ℕ) (x more : List Line) (i : ℕ) (intent : Intent) → i < length x → IsLostIn w life x i intent → IsLostIn new life (x ++ more) i intent
lost-on w new on life x more i intent within l =
    let c = on.circuits l.n l.c l.on.0 in
    record {
      n = l.n;
      k = l.k;
      a = l.a;
      ask = l.ask;
      c = c.0;
      on = (c.1, c.2.client ∙ l.on.1);
      is = l.is;
      s = l.s;
      meant = (c.2.up l.k l.s l.meant.0, l.meant.1);
      why = elim l.why [
        | inl shut ↦ inl (c.2.shut shut)
        | inr (inl cleared) ↦ inr (inl (subst (λ (v : List Line). In v (Called (On l.a Clear) Nothing)) (sym (take-front i x more (omega (arith, within)))) cleared))
        | inr (inr left) ↦ inr (inr (left.0, left.1, left.2, c.2.down left.0 left.1 left.3, c.2.heard left.0 left.2 left.4, left.5, (left.6.0, c.2.up (left.1).place left.6.0 left.6.1, left.6.2), left.7, left.8, left.9, left.10))
      ];
    }

-- in the words of the statement
pub to-lost : (w : World) (life : ℕ) (x : List Line) (i : ℕ) (intent : Intent) → IsLostIn w life x i intent → IsLost (told w) life x i intent
to-lost w life x i intent l = (l.n, l.k, l.a, l.ask, circuit_of l.c, At-map circuit_of w.circuits l.n l.c l.on.0, l.on.1, l.is, (l.s, l.meant.0, l.meant.1), l.why)

abbrev pub AllLost : World → Type 0
AllLost w = (life : ℕ) (x : List Line) (i : ℕ) (intent : Intent) → At w.client_logs life x → At x i (Noticed intent outcome.Disconnected) → IsLostIn w life x i intent

-- ---- an end ended, or a channel was cleared

module _ (w new : World) (known : Known w) (on : WorldsOn w new) where
  -- of a line that was there
  was-lost : AllLost w → (life : ℕ) (y : List Line) (i : ℕ) (intent : Intent) → At new.client_logs life y → ((x : List Line) × At w.client_logs life x × At x i (Noticed intent outcome.Disconnected)) → IsLostIn new life y i intent
  was-lost all life y i intent at old =
      let more = on.logs life old.0 old.1 in
      let whole : old.0 ++ more.0 ≡ y = At-one new.client_logs life (old.0 ++ more.0) y more.1 at in
      subst (λ (l : List Line). IsLostIn new life l i intent) whole (lost-on w new on life old.0 more.0 i intent (At-within old.0 i (Noticed intent outcome.Disconnected) old.2) (all life old.0 i intent old.1 old.2))

  -- what was meant by a request
  lost-request : (life : ℕ) (y : List Line) (i n : ℕ) (c : Joined) (x : ClientSide) (q : Handle) (r : Request) (intent : Intent) → At w.circuits n c → At w.clients c.client x → c.lists.client_open ≡ true → life ≡ x.life → under x.core.requests q ≡ Some r → was_sent_on c.at_client r ≡ true
      → meant_by x.names.requests q ≡ intent → ((d : Joined) → At new.circuits n d → (d.lists.client_open ≡ false) ⊎ In (take i y) (Called (On (channel_number x.names r.channel) Clear) Nothing)) → IsLostIn new life y i intent
  lost-request life y i n c x q r intent at at_x opened mine there here meant why =
      let said = request-sent w known n c x q r at at_x opened there here in
      let t = (known.quiet.tidy c.client x at_x).requests q r there in
      let o = on.circuits n c at in
      record {
        n = n;
        k = said.0;
        a = channel_number x.names r.channel;
        ask = history.Request t.0 t.1;
        c = o.0;
        on = (o.1, o.2.client ∙ known.lives.same n c x at at_x opened ∙ sym mine);
        is = sym meant ∙ t.3;
        s = said.1;
        meant = (o.2.up said.0 said.1 said.2, said.3 ∙ meant);
        why = elim (why o.0 o.1) [ inl shut ↦ inl shut | inr cleared ↦ inr (inl cleared) ];
      }

  parted-lost : (life : ℕ) (y : List Line) (i : ℕ) (intent : Intent) → Parted w new life y i (Noticed intent outcome.Disconnected) → IsLostIn new life y i intent
  parted-lost life y i intent p = by p.way
    where
      says : (said : Notice) → p.said ≡ said → line_of OfCircuit p.x.names said ≡ Noticed intent outcome.Disconnected
      says said is = ap (λ (v : Notice). line_of OfCircuit p.x.names v) (sym is) ∙ sym p.tells

      by : IsCut w new p.number p.x p.said ⊎ IsAway p.x p.said y i → IsLostIn new life y i intent
      by (inr away) =
          let r = away.was_open in
          let o = open-circuit w known p.number p.x away.q r.0 p.at r.1 r.3 in
          let at_x : At w.clients (o.1).client p.x = subst (λ (z : ℕ). At w.clients z p.x) (sym o.3) p.at in
          let meant : meant_by p.x.names.requests away.q ≡ intent = noticed-intent (meant_by p.x.names.requests away.q) intent outcome.Disconnected outcome.Disconnected (says (notice.Completed away.q outcome.Disconnected) away.is) in
          let channel : (r.0).channel ≡ away.h = same-is (r.0).channel away.h r.2 in
          lost-request life y i o.0 o.1 p.x away.q r.0 intent o.2 at_x o.6 p.mine r.1 (subst (λ (h : Handle). same_handle (r.0).circuit h ≡ true) (sym o.4) (same-itself (r.0).circuit)) meant
          (λ d at_d. inr (subst (λ (h : Handle). In (take i y) (Called (On (channel_number p.x.names h) Clear) Nothing)) (sym channel) away.cleared))
      by (inl cut) = from cut.from
        where
          at_x : At w.clients cut.c.client p.x
          at_x = subst (λ (z : ℕ). At w.clients z p.x) (sym cut.on.1) p.at

          shut : (d : Joined) → At new.circuits cut.n d → d.lists.client_open ≡ false
          shut d at_d = ap (λ (z : Joined). z.lists.client_open) (At-one new.circuits cut.n d cut.d at_d cut.now.0) ∙ cut.now.1

          from : FromFarewell p.x.core cut.c.at_client p.said → IsLostIn new life y i intent
          from (inl f) =
              let r = f.2 in
              let meant : meant_by p.x.names.requests f.0 ≡ intent = noticed-intent (meant_by p.x.names.requests f.0) intent outcome.Disconnected outcome.Disconnected (says (notice.Completed f.0 outcome.Disconnected) f.1) in
              lost-request life y i cut.n cut.c p.x f.0 r.0 intent cut.on.0 at_x cut.on.2 p.mine r.1 r.2 meant (λ d at_d. inl (shut d at_d))
          from (inr f) =
              let l = f.2.1 in
              let a : ℕ = channel_number p.x.names f.0 in
              let meant : On a Create ≡ intent = noticed-intent (On a Create) intent outcome.Disconnected outcome.Disconnected (says (notice.Lost f.0) f.1) in
              let phase = (known.quiet.quiet cut.n cut.c p.x cut.on.0 at_x cut.on.2).channels f.0 l.ch l.there (Live l.native l.rights) l.stands in
              let o = on.circuits cut.n cut.c cut.on.0 in
              record {
                n = cut.n;
                k = phase.0;
                a = a;
                ask = Create;
                c = o.0;
                on = (o.1, o.2.client ∙ known.lives.same cut.n cut.c p.x cut.on.0 at_x cut.on.2 ∙ sym p.mine);
                is = sym meant;
                s = phase.1.0;
                meant = (o.2.up phase.0 phase.1.0 phase.1.1, phase.1.2 ∙ meant);
                why = inl (shut o.0 o.1);
              }

  pub lost-parts : PartsFrom w new → AllLost w → AllLost new
  lost-parts parts all life y i intent at there = elim (parts life y i (Noticed intent outcome.Disconnected) at there) [
    | inl old ↦ was-lost all life y i intent at old
    | inr (inl silent) ↦ absurd silent
    | inr (inr parted) ↦ parted-lost life y i intent parted
  ]

-- ---- a message is read

no-means : (m : Fields) → Means m outcome.Disconnected → ⊥
no-means m (inl image) = image.1
no-means m (inr (inl puts)) = puts.1
no-means m (inr (inr (inl creates))) = creates.1
no-means m (inr (inr (inr errs))) = errs.1

create-intent : (intent : Intent) (number : ℕ) (m : Fields) → Suits intent m → m.command ≡ 18 → IsOnChannel number intent → intent ≡ On number Create
create-intent intent number m suits is on =
    let asks : Suits (On number on.0) m = subst (λ (v : Intent). Suits v m) on.1 suits in
    on.1 ∙ ap (λ (ask : Ask). On number ask) (create-is on.0 m asks is)

request-number : (a b : ℕ) (p q : Ask) → On a p ≡ On b q → a ≡ b
request-number a b p q e = cc

module _ (w new : World) (k : ℕ) (j : Joined) (x : ClientSide) (on : At w.circuits k j) (at : At w.clients j.client x) (opened : j.lists.client_open ≡ true) (f : IsHearing w new k j x)
    (hears : HearsSent w) (caused : AllCaused w) (answer : AllAnswer w) (removals : AllRemovals w) (tells : NoticesTell w k) (known : Known w) (spent : AllSpent w) (right : AllRemovedRight w) where
  -- the message that is read is about the CREATE_CHAN of the channel
  pub left-about : (h : Handle) → IsLeft (after_taking j.at_client (next w new k j x on at opened f hears caused answer removals tells known.held known.once known.quiet known.lives).rest x.core) j.at_client (next w new k j x on at opened f hears caused answer removals tells known.held known.once known.quiet known.lives).m h
      → ((next w new k j x on at opened f hears caused answer removals tells known.held known.once known.quiet known.lives).t.cause ≡ Removal) × ((next w new k j x on at opened f hears caused answer removals tells known.held known.once known.quiet known.lives).s.intent ≡ On (channel_number x.names h) Create) × IsLiveOn x.core.channels j.at_client h
  left-about h left =
      let n = next w new k j x on at opened f hears caused answer removals tells known.held known.once known.quiet known.lives in
      let gone : Is command.ServerDisconnect n.t.message = ap (λ (v : Fields). v.command) n.is ∙ left.0 in
      let removal : n.t.cause ≡ Removal = (right k j on (length j.lists.heard) n.t n.told gone).removal in
      let about = (removals k (length j.lists.heard) j n.t on n.told removal).1 in
      let same : about.0 ≡ n.s = At-one j.lists.up n.t.place about.0 n.s about.1 n.up in
      let creates : n.s.message.command ≡ 18 = subst (λ (v : Sent). v.message.command ≡ 18) same about.2 in
      let held = known.held k j on in
      let joined : held.0 ≡ j = At-one w.circuits k held.0 j held.2 on in
      let holder : held.1 ≡ x = At-one w.clients j.client held.1 x (subst (λ (z : Joined). At w.clients z.client held.1) joined held.3) at in
      let mine : HeldOn (kept w k) x.names x.core j = subst (λ (v : Joined × ClientSide). HeldOn (kept w k) v.1.names v.1.core v.0) (λ i. (joined i, holder i)) held.4 in
      let speaks : Speaks n.t.message (Cid n.m.p1) = inl (inl (inr (inr (inr gone)), ap (λ (v : Fields). v.p1) n.is)) in
      let spoken = found-intent (kept w k) x.names x.core j.at_client j.lists n.t n.s n.m.p1 h (Live left.1.0 left.1.1) (mine.holds opened).channels mine.flows n.told n.up speaks left.1.2 refl in
      let ch = channel-on x.core j.at_client n.m.p1 h (Live left.1.0 left.1.1) left.1.2 in (
        removal,
        create-intent n.s.intent (channel_number x.names h) n.s.message n.suits creates spoken,
        ((left.1.0).sid, record { ch = ch.0; native = left.1.0; rights = left.1.1; there = ch.1; stands = ch.3; is = refl }),
      )

  heard-lost : (life : ℕ) (log y : List Line) (i p : ℕ) (line : Line) (intent : Intent) (said : Notice) → life ≡ x.life → At w.client_logs life log → y ≡ log ++ hear-lines w new k j x on at f → At (hear-lines w new k j x on at f) p line → i ≡ length log + p → At f.notices p said
      → line_of (about_at j.lists (length j.lists.heard)) x.names said ≡ Noticed intent outcome.Disconnected → IsLostIn new life y i intent
  heard-lost life log y i p line intent (notice.Update g out) mine there whole placed place at_p is = absurd cc
  heard-lost life log y i p line intent (notice.Live h) mine there whole placed place at_p is = absurd (let e : outcome.Done ≡ outcome.Disconnected = noticed-outcome _ intent outcome.Done outcome.Disconnected is in cc)
  heard-lost life log y i p line intent (notice.SubscriptionEnded g s) mine there whole placed place at_p is = absurd (let e : outcome.Failed s ≡ outcome.Disconnected = noticed-outcome _ intent (outcome.Failed s) outcome.Disconnected is in cc)
  heard-lost life log y i p line intent (notice.WriteRefused h s) mine there whole placed place at_p is = absurd (let e : outcome.Failed s ≡ outcome.Disconnected = noticed-outcome _ intent (outcome.Failed s) outcome.Disconnected is in cc)
  heard-lost life log y i p line intent (notice.Lost h) mine there whole placed place at_p is =
      let n = next w new k j x on at opened f hears caused answer removals tells known.held known.once known.quiet known.lives in
      let e : Effect = record { core = f.core; sent = f.sent; notices = f.notices } in
      let u = tells-asked (after_taking j.at_client n.rest x.core) j.at_client n.m e n.hear p (notice.Lost h) at_p in
      let l = left-about h u in
      let a : ℕ = channel_number x.names h in
      let meant : On a Create ≡ intent = noticed-intent (On a Create) intent outcome.Disconnected outcome.Disconnected is in
      let now = after w new k j x on at opened f hears caused answer removals tells known.held known.once known.quiet known.lives in
      let step : Step = hear-step w new k j x on at f in
      let logged : log_length x.life w.client_logs ≡ length log = log-is w new k j x on at opened f hears caused answer removals tells known.held known.once known.quiet known.lives life log mine there in
      let some : p < length (hear-lines w new k j x on at f) = At-within (hear-lines w new k j x on at f) p line placed in
      record {
        n = k;
        k = n.t.place;
        a = a;
        ask = Create;
        c = now.0;
        on = (now.1, now.2.client ∙ known.lives.same k j x on at opened ∙ sym mine);
        is = sym meant;
        s = n.s;
        meant = (now.2.said n.t.place n.s n.up, l.1 ∙ meant);
        why = inr (inr (
          length j.lists.heard,
          n.t,
          step,
          now.2.tells (length j.lists.heard) n.t n.told,
          subst (λ (v : List Step). At v (length j.lists.heard) step) (sym now.2.heard) (At-last j.lists.heard step),
          l.0,
          (n.s, now.2.said n.t.place n.s n.up, l.1),
          omega arith,
          At-within j.lists.up n.t.place n.s n.up,
          omega (arith, logged, place),
          omega (arith, logged, place, some),
        ));
      }
  heard-lost life log y i p line intent (notice.Completed q out) mine there whole placed place at_p is =
      let n = next w new k j x on at opened f hears caused answer removals tells known.held known.once known.quiet known.lives in
      let e : Effect = record { core = f.core; sent = f.sent; notices = f.notices } in
      let u = tells-asked (after_taking j.at_client n.rest x.core) j.at_client n.m e n.hear p (notice.Completed q out) at_p in
      let own = tells j x n.d n.m n.rest n.t n.s e on at n.linked n.first n.told n.up n.hear p (notice.Completed q out) at_p in
      let meant : meant_by x.names.requests q ≡ intent = noticed-intent (meant_by x.names.requests q) intent out outcome.Disconnected is in
      let result : out ≡ outcome.Disconnected = noticed-outcome (meant_by x.names.requests q) intent out outcome.Disconnected is in
      elim u [
        | inl answered ↦ elim own [
          | inl told_own ↦ absurd (no-means n.m (subst (λ (v : Outcome). Means n.m v) result told_own.1))
          | inr gone ↦ absurd (elim answered.1 [
            | inl reads ↦ (let c : ◌≡◌ {A = ℕ} 15 27 = sym reads ∙ gone.1 in omega (arith, c))
            | inr more ↦ elim more [
              | inl puts ↦ (let c : ◌≡◌ {A = ℕ} 19 27 = sym puts ∙ gone.1 in omega (arith, c))
              | inr errs ↦ (let c : ◌≡◌ {A = ℕ} 11 27 = sym errs ∙ gone.1 in omega (arith, c))
            ]
          ])
        ]
        | inr parted ↦ parted_so parted.1.0 parted.1.1 parted.1.2 meant
      ]
    where
      parted_so : (h : Handle) → IsLeft (after_taking j.at_client (next w new k j x on at opened f hears caused answer removals tells known.held known.once known.quiet known.lives).rest x.core) j.at_client (next w new k j x on at opened f hears caused answer removals tells known.held known.once known.quiet known.lives).m h
          → IsOpenIn (asks_on h) (after_taking j.at_client (next w new k j x on at opened f hears caused answer removals tells known.held known.once known.quiet known.lives).rest x.core) q → meant_by x.names.requests q ≡ intent → IsLostIn new life y i intent
      parted_so h left was meant =
          let n = next w new k j x on at opened f hears caused answer removals tells known.held known.once known.quiet known.lives in
          let l = left-about h left in
          let r : Request = was.0 in
          let row : under x.core.requests q ≡ Some r = was.1 in
          let channel : r.channel ≡ h = same-is r.channel h was.2 in
          let live = known.live j.client x at q r row was.3 in
          let circuit : r.circuit ≡ j.at_client = (one-sid x.core.channels r.circuit j.at_client h live.0 l.2.0 (subst (λ (g : Handle). IsLiveAs x.core.channels r.circuit g live.0) channel live.1) l.2.1).0 in
          let here : was_sent_on j.at_client r ≡ true = subst (λ (g : Handle). same_handle r.circuit g ≡ true) circuit (same-itself r.circuit) in
          let said = request-sent w known k j x q r on at opened row here in
          let t = (known.quiet.tidy j.client x at).requests q r row in
          let a : ℕ = channel_number x.names h in
          let asks : meant_by x.names.requests q ≡ On a (history.Request t.0 t.1) = t.3 ∙ ap (λ (g : Handle). On (channel_number x.names g) (history.Request t.0 t.1)) channel in
          let late : n.t.place ≤ said.0 = elim (three-ways said.0 n.t.place) [
            | inl before ↦ absurd (spent k j x said.0 n.t.place a t.1 t.0 said.1 n.s q on at (known.lives.same k j x on at opened) before said.2 n.up (said.3 ∙ asks) l.1 (sym said.3) (r, row, was.3))
            | inr (inl same) ↦ (let c : said.0 ≡ n.t.place = same in omega (arith, c))
            | inr (inr lt) ↦ (let c : n.t.place < said.0 = lt in omega (arith, c))
          ] in
          let now = after w new k j x on at opened f hears caused answer removals tells known.held known.once known.quiet known.lives in
          let step : Step = hear-step w new k j x on at f in
          let logged : log_length x.life w.client_logs ≡ length log = log-is w new k j x on at opened f hears caused answer removals tells known.held known.once known.quiet known.lives life log mine there in
          let some : p < length (hear-lines w new k j x on at f) = At-within (hear-lines w new k j x on at f) p line placed in
          record {
            n = k;
            k = said.0;
            a = a;
            ask = history.Request t.0 t.1;
            c = now.0;
            on = (now.1, now.2.client ∙ known.lives.same k j x on at opened ∙ sym mine);
            is = sym meant ∙ asks;
            s = said.1;
            meant = (now.2.said said.0 said.1 said.2, said.3 ∙ meant);
            why = inr (inr (
              length j.lists.heard,
              n.t,
              step,
              now.2.tells (length j.lists.heard) n.t n.told,
              subst (λ (v : List Step). At v (length j.lists.heard) step) (sym now.2.heard) (At-last j.lists.heard step),
              l.0,
              (n.s, now.2.said n.t.place n.s n.up, l.1),
              late,
              At-within j.lists.up said.0 said.1 said.2,
              omega (arith, logged, place),
              omega (arith, logged, place, some),
            ));
          }

  pub lost-heard : WorldsOn w new → AllLost w → AllLost new
  lost-heard goes all life y i intent at_y there =
      let lines : List Line = hear-lines w new k j x on at f in
      elim (lines-grown w.client_logs x.life lines (known.lives.present j.client x at) life y i (Noticed intent outcome.Disconnected) (subst (λ (v : List (List Line)). At v life y) (ap (λ (v : World). v.client_logs) f.is) at_y) there) [
        | inl old ↦ was-lost w new known goes all life y i intent at_y old
        | inr more ↦
            let m = At-mapped (line_of (about_at j.lists (length j.lists.heard)) x.names) f.notices more.1 (Noticed intent outcome.Disconnected) more.5 in
            heard-lost life more.0 y i more.1 (Noticed intent outcome.Disconnected) intent m.0 more.2 more.3 more.4 more.5 more.6 m.1 (sym m.2)
      ]
