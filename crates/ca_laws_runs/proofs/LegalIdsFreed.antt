-- What was read frees an id, in the words of the statement: of each message that gave it.
use Rattle.std.proofs.Common.{◌≡◌, ℕ, ◌<◌, ◌≤◌, ◌⊎◌, inl, inr, true, false, length, Some, refl, sym, ap, ◌∙◌, subst, arith}
use Rattle.std.proofs.lemmas.Bool.{both_ways}
use Rattle.ca_text.specs.declared.command.Command.TheVariants as command
use Rattle.ca_text.specs.Place.{At}
use Rattle.ca_text.proofs.Places.{At-map, At-mapped, At-one, At-or, At-within, some_is}
use Rattle.ca_arena.specs.declared.handle.Handle.{Handle}
use Rattle.ca_ids.specs.Table.{under}
use Rattle.ca_ids.specs.Wire.{wire_of}
use Rattle.ca_monitor.specs.Subscriptions.{Stage, Subscription, is_cancelled_in, stands_in}
use Rattle.ca_monitor.specs.Subscriptions as monitor
use Rattle.ca_requests.specs.Meaning.{QuotesHeader}
use Rattle.ca_requests.specs.Requests.{Request, was_sent_on}
use Rattle.ca_wire.specs.declared.header.Header.{Header}
use Rattle.ca_wire.specs.Fields.{Fields}
use Rattle.ca_model.specs.History.{Ask, Cancel, Circuit, Create, Intent, On, Sent, Step, Subscribe, Told}
use Rattle.ca_model.specs.History as history
use Rattle.ca_model.specs.Client as phase
use Rattle.ca_model.specs.Sends.{Frees, HasChannel, HasCleared, IsFree, IsUncancelled, Quotes, SameIndex}
use Rattle.ca_model.specs.Speech.{Cid, Clears, Gives, Id, Ioid, Is, SubId, sid_in}
use Rattle.ca_model.proofs.Handles.{same-is}
use Rattle.ca_model.proofs.Thinner.{three-ways}
use Rattle.ca_model.specs.Channels.{Suits, named}
use Rattle.ca_model.specs.Legal.{client_conduct}
use Rattle.ca_model.specs.ClientEvents.{channel_number, meant_by}
use Rattle.ca_model.specs.World.{ClientSide, Joined, World}
use Rattle.ca_laws_parts.specs.Held.{IsMeant}
use Rattle.ca_laws_parts.proofs.Refused.{sub-named}
use Rattle.ca_laws_parts.specs.Kept.{kept}
use Rattle.ca_laws_parts.specs.Circuit.{HeldOn}
use Rattle.ca_laws_runs.specs.Created.{AllCreated, CreatedOn}
use Rattle.ca_laws_runs.specs.Quiet.{IsBeingCancelled, IsBeingCleared, IsNamedIn, PhaseIn, StageIn, Tidy}
use Rattle.ca_laws_runs.proofs.Heard.{request-named}
use Rattle.ca_laws_runs.proofs.LegalCancels.{AllCancels, add-parts, cancel-is, same-sid}
use Rattle.ca_laws_parts.proofs.Answered.{cid-named}
use Rattle.ca_laws_parts.proofs.Given.{GoneBy}
use Rattle.ca_laws_parts.proofs.Rests.{OverAt, held-cancelled, is_over}
use Rattle.ca_laws_runs.proofs.LegalIdsGoing.{IsFreedNow}
use Rattle.ca_laws_runs.proofs.LegalRead.{ReadAfter, ReadOn}
use Rattle.ca_laws_runs.proofs.Phased.{standing-stage}
use Rattle.ca_laws_runs.proofs.Phases.{same-ask}
use Rattle.ca_laws_runs.proofs.Says.{asked-at, subscribed-at}
use Rattle.ca_laws_runs.proofs.Spent.{Known}
use Rattle.ca_laws_runs.proofs.ToldGrows.{Onward}
use Rattle.ca_laws_runs.proofs.Under.{uncleared}

-- Each message that gives an id on a circuit gives one whose earlier givers of its index are free.
abbrev pub FreeOn : Circuit → Type 0
FreeOn c = (l k : ℕ) (s r : Sent) (a b : Id) → l < k → At c.up l s → At c.up k r → Gives s.message a → Gives r.message b → SameIndex a b → IsFree (client_conduct c) l k

-- ---- lists grow

module _ (c d : Joined) (on : Onward c d) where
  pub back : (p : ℕ) (s : Sent) → p < length c.lists.up → At d.lists.up p s → At c.lists.up p s
  back p s lt at = elim (At-or c.lists.up p) [
    | inr past ↦ absurd (omega (arith, past, lt))
    | inl v ↦ subst (λ (y : Sent). At c.lists.up p y) (At-one d.lists.up p v.0 s (on.up p v.0 v.1) at) v.1
  ]

  sent-forth : (p : ℕ) (m : Fields) → At (client_conduct c.lists).sent p m → At (client_conduct d.lists).sent p m
  sent-forth p m at =
      let s = At-mapped (λ (z : Sent). z.message) c.lists.up p m at in
      subst (λ (v : Fields). At (client_conduct d.lists).sent p v) (sym s.2) (At-map (λ (z : Sent). z.message) d.lists.up p s.0 (on.up p s.0 s.1))

  sent-back : (p : ℕ) (m : Fields) → p < length c.lists.up → At (client_conduct d.lists).sent p m → At (client_conduct c.lists).sent p m
  sent-back p m lt at =
      let s = At-mapped (λ (z : Sent). z.message) d.lists.up p m at in
      subst (λ (v : Fields). At (client_conduct c.lists).sent p v) (sym s.2) (At-map (λ (z : Sent). z.message) c.lists.up p s.0 (back p s.0 lt s.1))

  came-forth : (p : ℕ) (m : Fields) → At (client_conduct c.lists).came p m → At (client_conduct d.lists).came p m
  came-forth p m at =
      let t = At-mapped (λ (z : Told). z.message) c.lists.down p m at in
      subst (λ (v : Fields). At (client_conduct d.lists).came p v) (sym t.2) (At-map (λ (z : Told). z.message) d.lists.down p t.0 (on.down p t.0 t.1))

  read-forth : (p b : ℕ) → At (client_conduct c.lists).read p b → At (client_conduct d.lists).read p b
  read-forth p b at =
      let h = At-mapped (λ (z : Step). z.sent) c.lists.heard p b at in
      subst (λ (v : ℕ). At (client_conduct d.lists).read p v) (sym h.2) (At-map (λ (z : Step). z.sent) d.lists.heard p h.0 (on.heard p h.0 h.1))

  channel-forth : (k i j cid sid : ℕ) → k ≤ length c.lists.up → HasChannel (client_conduct c.lists) k i j cid sid
      → HasChannel (client_conduct d.lists) k i j cid sid
  channel-forth k i j cid sid le h = (
    h.0,
    h.1,
    sent-forth i h.0 h.2,
    h.3,
    (h.4.0, came-forth j h.1 h.4.1, read-forth j h.4.0 h.4.2, h.4.3, h.4.4),
    h.5,
    h.6,
    λ l r late before at clears. h.7 l r late before (sent-back l r (omega (arith, before, le)) at) clears,
  )

  cleared-forth : (l b cid : ℕ) → HasCleared (client_conduct c.lists) l b cid → HasCleared (client_conduct d.lists) l b cid
  cleared-forth l b cid z = (z.0, z.1, z.2, z.3, sent-forth z.0 z.1 z.4, z.5, z.6)

  frees-forth : (l b : ℕ) (request m : Fields) → l ≤ length c.lists.up → b ≤ length c.lists.up → Frees (client_conduct c.lists) l b request m
      → Frees (client_conduct d.lists) l b request m
  frees-forth l b request m l_le b_le frees = elim frees [
    | inl cid ↦ inl (
      cid.0,
      elim cid.1 [
        | inl fails ↦ inl fails
        | inr clears ↦ inr (clears.0, clears.1, cleared-forth l b request.p1 clears.2)
      ],
    )
    | inr (inl ioid) ↦ inr (inl ioid)
    | inr (inr (inl sub)) ↦ inr (inr (inl (
      sub.0,
      elim sub.1 [
        | inl confirms ↦ inl (confirms.0, confirms.1, confirms.2, λ u. confirms.3 (λ i s late before at. u i s late before (sent-forth i s at)))
        | inr refuses ↦ inr (refuses.0, λ i s late before at cancels one. refuses.1 i s late before (sent-back i s (omega (arith, before, b_le)) at) cancels one)
      ],
    )))
    | inr (inr (inr clear)) ↦ inr (inr (inr (clear.0, clear.1, clear.2, channel-forth l clear.0 clear.1 clear.2 (sid_in request) l_le clear.3, clear.4, clear.5, cleared-forth l b clear.2 clear.6)))
  ]

  -- what is free stays so, also at a later place
  pub free-forth : (l k q : ℕ) → k ≤ length c.lists.up → k ≤ q → IsFree (client_conduct c.lists) l k → IsFree (client_conduct d.lists) l q
  free-forth l k q le upto f =
      let early : l < f.1 = f.7 in
      let by : f.1 ≤ k = f.8 in (
        f.0,
        f.1,
        f.2,
        f.3,
        sent-forth l f.2 f.4,
        came-forth f.0 f.3 f.5,
        read-forth f.0 f.1 f.6,
        f.7,
        omega (arith, by, upto),
        frees-forth l f.1 f.2 f.3 (omega (arith, early, by, le)) (omega (arith, by, le)) f.9,
      )

-- ---- what was meant by the last giver of an id that is held

cancelled-stage : (on : Handle) (stage : Stage) → is_cancelled_in on stage ≡ true → stage ≡ monitor.Cancelled on
cancelled-stage on monitor.Stands is = absurd (both_ways false refl is)
cancelled-stage on (monitor.Cancelled o) is = ap (λ (z : Handle). monitor.Cancelled z) (same-is o on is)
cancelled-stage on (monitor.Ended o) is = absurd (both_ways false refl is)

-- a channel that is over in its phase
being-over : (up : _) (number : ℕ) (p : phase.Phase) → is_over p ≡ true → PhaseIn up number p → IsBeingCleared up number
being-over up number phase.Leaving is z = z
being-over up number phase.Clearing is z = z
being-over up number phase.Connecting is z = absurd (both_ways false refl is)
being-over up number (phase.Creating rights) is z = absurd (both_ways false refl is)
being-over up number phase.Doomed is z = absurd (both_ways false refl is)
being-over up number (phase.Live native rights) is z = absurd (both_ways false refl is)

abbrev intent-in : Handle × Intent → Intent
intent-in e = e.1

module _ (w : World) (known : Known w) (cancels : AllCancels w) (created : AllCreated w) (n : ℕ) (c : Joined) (x : ClientSide) (at_c : At w.circuits n c) (at_x : At w.clients c.client x) (opened : c.lists.client_open ≡ true)
    (read : ReadOn c.lists) (after : ReadAfter c.lists) (free : FreeOn c.lists) where
  held-so : HeldOn (kept w n) x.names x.core c
  held-so =
      let h = known.held n c at_c in
      let joined : h.0 ≡ c = At-one w.circuits n h.0 c h.2 at_c in
      let holder : h.1 ≡ x = At-one w.clients c.client h.1 x (subst (λ (v : Joined). At w.clients v.client h.1) joined h.3) at_x in
      subst (λ (v : Joined × ClientSide). HeldOn (kept w n) v.1.names v.1.core v.0) (λ i. (joined i, holder i)) h.4

  tidy : Tidy x.names x.core
  tidy = known.quiet.tidy c.client x at_x

  asked : (k : ℕ) (s : Sent) → At c.lists.up k s → Suits s.intent s.message
  asked = held-so.flows.asked

  -- a message on a channel goes under the SID of one that the client has, whose CID
  -- is that of its handle
  has-channel : (l a : ℕ) (ask : Ask) (s : Sent) (h : Handle) → At c.lists.up l s → s.intent ≡ On a ask → (ask ≡ Create → ⊥) → At x.names.channels a h
      → (i j : ℕ) × HasChannel (client_conduct c.lists) l i j (wire_of h) (sid_in s.message)
  has-channel l a ask s h at is other named_h =
      let r = read l a s ask at is other in
      let b = r.5 in
      let sid : ℕ = sid_in s.message in
      let of : CreatedOn c = created n c at_c in
      let about = of.about r.0 sid b.t b.told.0 b.told.2 b.told.3 in
      let same : about.1.0 ≡ b.r = At-one c.lists.up r.1 about.1.0 b.r (subst (λ (z : ℕ). At c.lists.up z about.1.0) b.told.1 about.1.1) b.asked.0 in
      let creates : Is command.CreateChannel b.r.message = subst (λ (z : Sent). Is command.CreateChannel z.message) same about.1.2 in
      let copy : b.t.message.p1 ≡ b.r.message.p1 = of.copies r.0 sid b.t b.r b.told.0 b.told.2 b.told.3 (subst (λ (z : ℕ). At c.lists.up z b.r) (sym b.told.1) b.asked.0) in
      let first : b.t.place < r.2.sent = after r.0 r.2 b.t r.3 b.told.0 in
      let cid = (known.quiet.named n c x at_c at_x opened r.1 b.r b.asked.0 a).0 b.asked.1 in
      let one : cid.0 ≡ h = At-one x.names.channels a cid.0 h cid.1 named_h in
      let wire : b.r.message.p1 ≡ wire_of h = cid.2 ∙ ap (λ (k : Handle). wire_of k) one in (
        r.1,
        r.0,
        (
          b.r.message,
          b.t.message,
          At-map (λ (z : Sent). z.message) c.lists.up r.1 b.r b.asked.0,
          (creates, wire),
          (r.2.sent, At-map (λ (z : Told). z.message) c.lists.down r.0 b.t b.told.0, At-map (λ (z : Step). z.sent) c.lists.heard r.0 r.2 r.3, subst (λ (z : ℕ). z < r.2.sent) b.told.1 first, r.4),
          b.told.3,
          copy ∙ wire,
          λ p q late before there clears same_cid.
              let v = At-mapped (λ (z : Sent). z.message) c.lists.up p q there in
              uncleared c of (known.sided.right n c at_c).under asked a r.0 r.1 sid l b (p, v.0, late, before, v.1, subst (λ (z : Fields). Clears z sid) v.2 clears),
        ),
      )

  -- the CLEAR_CHANNEL of a channel that is over went out after all else that was sent on it
  over-cleared : (h : Handle) → OverAt c.at_client x.core.channels h → (l : ℕ) (s : Sent) (ask : Ask) → At c.lists.up l s → s.intent ≡ On (channel_number x.names h) ask
      → (ask ≡ history.Clear → ⊥) → (b : ℕ) → length c.lists.up ≤ b → HasCleared (client_conduct c.lists) l b (wire_of h)
  over-cleared h o l s ask at is other b upto =
      let a : ℕ = channel_number x.names h in
      let z = being-over c.lists.up a o.1 o.4 ((known.quiet.quiet n c x at_c at_x opened).channels h o.0 o.2 o.1 o.3) in
      let v : Sent = z.3.0 in
      let at_v : At c.lists.up z.1 v = z.3.1 in
      let is_v : v.intent ≡ On a history.Clear = z.3.2 in
      let lt : z.1 < length c.lists.up = At-within c.lists.up z.1 v at_v in
      let cid = (known.quiet.named n c x at_c at_x opened z.1 v at_v a).1 is_v in
      let one : cid.0 ≡ h = At-one x.names.channels a cid.0 h cid.1 (tidy.numbered h o.0 o.2) in
      let late : l < z.1 = elim (three-ways l z.1) [
        | inl less ↦ less
        | inr (inl same) ↦ absurd (other (same-ask a a ask history.Clear (sym is ∙ ap (λ (q : Sent). q.intent) (At-one c.lists.up z.1 s v (subst (λ (p : ℕ). At c.lists.up p s) same at) at_v) ∙ is_v)))
        | inr (inr more) ↦ absurd (z.4 l s ask more at is)
      ] in (
        z.1,
        v.message,
        late,
        omega (arith, lt, upto),
        At-map (λ (q : Sent). q.message) c.lists.up z.1 v at_v,
        subst (λ (i : Intent). Suits i v.message) is_v (asked z.1 v at_v),
        cid.2 ∙ ap (λ (k : Handle). wire_of k) one,
      )

  -- a message that gave an id which is held is free, or is the last that gave it
  last-or : (l : ℕ) (s : Sent) (id : Id) (meant : Intent) → At c.lists.up l s → Gives s.message id → SameIndex id id
      → (own : IsMeant c.lists meant id) → IsFree (client_conduct c.lists) l (length c.lists.up) ⊎ (l ≡ own.0)
  last-or l s id meant at gives same own = elim (three-ways l own.0) [
    | inl less ↦
        let lt : own.0 < length c.lists.up = At-within c.lists.up own.0 own.2.0 own.2.1 in
        inl (free-forth c c (record { client = refl; up = λ p r there. there; down = λ i t there. there; heard = λ i h there. there; shut = λ e. e }) l own.0 (length c.lists.up) (omega (arith, lt)) (omega (arith, lt)) (free l own.0 s own.2.0 id id less at own.2.1 gives own.2.2 same))
    | inr (inl one) ↦ inr one
    | inr (inr more) ↦ absurd (own.2.4 l s more at gives)
  ]

  module _ (l : ℕ) (s : Sent) (at : At c.lists.up l s) where
    -- the request that holds the IOID is on the channel of the message
    on-request : (q : Handle) (r : Request) → under x.core.requests q ≡ Some r → was_sent_on c.at_client r ≡ true
        → (own : IsMeant c.lists (meant_by x.names.requests q) (Ioid (wire_of q))) → l ≡ own.0
        → (kind : history.Kind) × (m : ℕ) × (s.intent ≡ On (channel_number x.names r.channel) (history.Request kind m)) × At x.names.channels (channel_number x.names r.channel) r.channel
    on-request q r there here own place =
        let g : Sent = own.2.0 in
        let same : g ≡ s = At-one c.lists.up l g s (subst (λ (z : ℕ). At c.lists.up z g) (sym place) own.2.1) at in
        let quiet = known.quiet.quiet n c x at_c at_x opened in
        let other = request-named x.names g.message (wire_of q) own.1 g.intent (asked own.0 g own.2.1) own.2.2 own.2.3 (quiet.named own.0 g own.2.1) in
        let m = tidy.requests q r there in
        let m_is : m.1 ≡ own.1 = some_is m.1 own.1 (ap (named (Ioid (wire_of q))) (sym m.3) ∙ own.3) in
        let row : At x.names.requests own.1 (q, On (channel_number x.names r.channel) (history.Request m.0 m.1)) =
        subst (λ (z : ℕ). At x.names.requests z (q, On (channel_number x.names r.channel) (history.Request m.0 m.1))) m_is (asked-at x.names x.core q (channel_number x.names r.channel) m.1 m.0 tidy m.3) in
        let one = At-one x.names.requests own.1 (q, On (channel_number x.names r.channel) (history.Request m.0 m.1)) (other.0, g.intent) row other.1 in
        (m.0, m.1, ap (λ (z : Sent). z.intent) (sym same) ∙ sym (ap intent-in one), m.2)

    -- and the subscription that holds its id
    on-subscription : (g : Handle) (d : Subscription) → under x.core.subscriptions g ≡ Some d
        → (own : IsMeant c.lists (meant_by x.names.subscriptions g) (SubId (wire_of g))) → l ≡ own.0
        → (m : ℕ) × (s.intent ≡ On (channel_number x.names d.channel) (Subscribe m)) × (meant_by x.names.subscriptions g ≡ On (channel_number x.names d.channel) (Subscribe m)) × At x.names.channels (channel_number x.names d.channel) d.channel
    on-subscription g d there own place =
        let r : Sent = own.2.0 in
        let same : r ≡ s = At-one c.lists.up l r s (subst (λ (z : ℕ). At c.lists.up z r) (sym place) own.2.1) at in
        let m = tidy.subscriptions g d there in
        let a : ℕ = channel_number x.names d.channel in
        let m_is : m.0 ≡ own.1 = some_is m.0 own.1 (ap (named (SubId (wire_of g))) (sym m.2) ∙ own.3) in
        let row : At x.names.subscriptions own.1 (g, On a (Subscribe m.0)) = subst (λ (z : ℕ). At x.names.subscriptions z (g, On a (Subscribe m.0))) m_is (subscribed-at x.names x.core g a m.0 tidy m.2) in
        let giver : r.intent ≡ On a (Subscribe m.0) = elim (sub-named (wire_of g) r.intent own.1 own.2.3) [
          | inr stops ↦
              let suits : Is command.EventCancel r.message = subst (λ (i : Intent). Suits i r.message) stops.1 (asked own.0 r own.2.1) in
              absurd (let e : ◌≡◌ {A = ℕ} 2 1 = sym suits ∙ own.2.2.0 in omega (arith, e))
          | inl adds ↦
              let name : IsNamedIn x.names (On adds.0 (Subscribe own.1)) = subst (λ (i : Intent). IsNamedIn x.names i) adds.1 ((known.quiet.quiet n c x at_c at_x opened).named own.0 r own.2.1) in
              let one = At-one x.names.subscriptions own.1 (name.0, On adds.0 (Subscribe own.1)) (g, On a (Subscribe m.0)) name.1 row in
              adds.1 ∙ ap intent-in one
        ] in
        (m.0, ap (λ (z : Sent). z.intent) (sym same) ∙ giver, m.2, m.1)

    -- no EVENT_CANCEL of it was sent
    uncancelled : (g : Handle) (d : Subscription) → under x.core.subscriptions g ≡ Some d → stands_in d.stage ≡ true
        → (own : IsMeant c.lists (meant_by x.names.subscriptions g) (SubId (wire_of g))) → l ≡ own.0 → Gives s.message (SubId (wire_of g))
        → (b : ℕ) → IsUncancelled (client_conduct c.lists) l b s.message
    uncancelled g d there stands own place gives b i m late before at_m stops same_sid same_id =
        let v = At-mapped (λ (z : Sent). z.message) c.lists.up i m at_m in
        let is_v : Is command.EventCancel v.0.message = subst (λ (z : Fields). Is command.EventCancel z) v.2 stops in
        let meant = cancel-is v.0.intent v.0.message (asked i v.0 v.1) is_v in
        let of = cancels n c i meant.0 meant.1 v.0 at_c v.1 meant.2 in
        let id_is : v.0.message.p2 ≡ wire_of g = ap (λ (z : Fields). z.p2) (sym v.2) ∙ same_id ∙ gives.1 in
        elim (three-ways of.l l) [
          | inl less ↦ of.own l s less late at (gives.0, gives.1 ∙ sym id_is)
          | inr (inr more) ↦ own.2.4 of.l of.r (subst (λ (z : ℕ). z < of.l) place more) of.at (of.gives.0, of.gives.1 ∙ id_is)
          | inr (inl one) ↦
              let r_is : of.r ≡ s = At-one c.lists.up l of.r s (subst (λ (p : ℕ). At c.lists.up p of.r) one of.at) at in
              let f = on-subscription g d there own place in
              let parts = add-parts meant.0 (channel_number x.names d.channel) meant.1 f.0 (sym of.adds ∙ ap (λ (z : Sent). z.intent) r_is ∙ f.1) in
              let stage : StageIn c.at_client c.lists.up f.0 d.stage = (known.quiet.quiet n c x at_c at_x opened).subscriptions g d (channel_number x.names d.channel) f.0 there f.2 in
              (subst (λ (z : Stage). StageIn c.at_client c.lists.up f.0 z) (standing-stage d.stage stands) stage) i meant.0 v.0 v.1 (meant.2 ∙ ap (λ (z : ℕ). On meant.0 (Cancel z)) parts.1)
        ]

    -- one that is cancelled on the circuit had its EVENT_CANCEL
    was-cancelled : (g : Handle) (d : Subscription) → under x.core.subscriptions g ≡ Some d → is_cancelled_in c.at_client d.stage ≡ true
        → (own : IsMeant c.lists (meant_by x.names.subscriptions g) (SubId (wire_of g))) → l ≡ own.0 → Gives s.message (SubId (wire_of g))
        → (b : ℕ) → length c.lists.up ≤ b → IsUncancelled (client_conduct c.lists) l b s.message → ⊥
    was-cancelled g d there stops own place gives b upto none =
        let f = on-subscription g d there own place in
        let a : ℕ = channel_number x.names d.channel in
        let stage : StageIn c.at_client c.lists.up f.0 d.stage = (known.quiet.quiet n c x at_c at_x opened).subscriptions g d a f.0 there f.2 in
        let being : IsBeingCancelled c.lists.up f.0 = subst (λ (z : Stage). StageIn c.at_client c.lists.up f.0 z) (cancelled-stage c.at_client d.stage stops) stage refl in
        let q : Sent = being.2.0 in
        let at_q : At c.lists.up being.0 q = being.2.1 in
        let is_q : q.intent ≡ On being.1 (Cancel f.0) = being.2.2 in
        let of = cancels n c being.0 being.1 f.0 q at_c at_q is_q in
        let early : l < being.0 = being.3 l a s at f.1 in
        let id : s.message.p2 ≡ q.message.p2 = known.quiet.ids n c at_c l being.0 a being.1 f.0 s q at at_q f.1 is_q in
        elim (three-ways of.l l) [
          | inl less ↦ of.own l s less early at (gives.0, id)
          | inr (inr more) ↦ own.2.4 of.l of.r (subst (λ (z : ℕ). z < of.l) place more) of.at (of.gives.0, of.gives.1 ∙ sym id ∙ gives.1)
          | inr (inl one) ↦
              let same : of.r ≡ s = At-one c.lists.up l of.r s (subst (λ (p : ℕ). At c.lists.up p of.r) one of.at) at in
              let sid : (of.r).message.p1 ≡ q.message.p1 =
              same-sid c (created n c at_c) (known.sided.right n c at_c).under asked (λ k b m v there is. cancels n c k b m v at_c there is) being.0 being.1 f.0 q at_q is_q of in
              let lt : being.0 < length c.lists.up = At-within c.lists.up being.0 q at_q in
              none being.0 q.message early (omega (arith, lt, upto)) (At-map (λ (z : Sent). z.message) c.lists.up being.0 q at_q) (subst (λ (i : Intent). Suits i q.message) is_q (asked being.0 q at_q))
              (sym sid ∙ ap (λ (z : Sent). z.message.p1) same) (sym id)
        ]

    -- what was read frees the id that it gave
    module _ (b : ℕ) (m : Fields) (within : l < length c.lists.up) (upto : length c.lists.up ≤ b) where
      quoted : (h : Header) → QuotesHeader m h → Is command.Error m → h.command ≡ s.message.command → h.p2 ≡ s.message.p2 → Quotes s.message m
      quoted h quotes errs same id = (errs, (h, quotes.head, quotes.text, quotes.spells, quotes.parts, same, id))

      pub frees-it : (id : Id) → Gives s.message id → GoneBy c.at_client x.core m s.message id
          → IsFree (client_conduct c.lists) l (length c.lists.up) ⊎ Frees (client_conduct c.lists) l b s.message m
      frees-it (Cid k) gives gone = elim gone.5 [
        | inl fails ↦ inr (inl (gives.0, inl (fails.0, fails.1 ∙ gone.3 ∙ sym gives.1)))
        | inr clears ↦
            let h : Handle = gone.0 in
            let own = (held-so.holds opened).channels.own h gone.1 gone.2 gone.4 in
            let gives_h : Gives s.message (Cid (wire_of h)) = (gives.0, gives.1 ∙ sym gone.3) in
            elim (last-or l s (Cid (wire_of h)) (On (channel_number x.names h) Create) at gives_h refl own) [
              | inl is_free ↦ inl is_free
              | inr place ↦
                  let r : Sent = own.2.0 in
                  let same : r ≡ s = At-one c.lists.up l r s (subst (λ (z : ℕ). At c.lists.up z r) (sym place) own.2.1) at in
                  let on_it = cid-named (wire_of h) r.intent own.1 own.2.3 in
                  let number : own.1 ≡ channel_number x.names h = sym (some_is (channel_number x.names h) own.1 own.3) in
                  let is : s.intent ≡ On (channel_number x.names h) on_it.0 = ap (λ (z : Sent). z.intent) (sym same) ∙ on_it.1 ∙ ap (λ (z : ℕ). On z on_it.0) number in
                  inr (inl (
                    gives.0,
                    inr (
                      clears.0,
                      clears.1 ∙ gone.3 ∙ sym gives.1,
                      subst (λ (z : ℕ). HasCleared (client_conduct c.lists) l b z) (gone.3 ∙ sym gives.1) (over-cleared h clears.2 l s on_it.0 at is (not-clear (channel_number x.names h) on_it.0 is) b upto),
                    ),
                  ))
            ]
      ]
        where
          not-clear : (a : ℕ) (ask : Ask) → s.intent ≡ On a ask → ask ≡ history.Clear → ⊥
          not-clear a ask is same =
              let suits : s.message.command ≡ 12 = subst (λ (i : Intent). Suits i s.message) (is ∙ ap (λ (q : Ask). On a q) same) (asked l s at) in
              let creates : s.message.command ≡ 18 = gives.0 in
              omega (arith, suits, creates)
      frees-it (Ioid k) gives gone = elim gone.6 [
        | inl replies ↦ inr (inr (inl (gives.0, inl (replies.0 ∙ sym gone.5, replies.1 ∙ gone.3 ∙ sym gives.1))))
        | inr (inl errs) ↦ inr (inr (inl (gives.0, inr (quoted errs.1.0 errs.1.1 errs.0 (errs.1.2 ∙ sym gone.5) (errs.1.3 ∙ gone.3 ∙ sym gives.1)))))
        | inr (inr clears) ↦
            let q : Handle = gone.0 in
            let r : Request = gone.1 in
            let own = (held-so.holds opened).requests.own q r gone.2 gone.4 in
            let gives_q : Gives s.message (Ioid (wire_of q)) = (gives.0, gives.1 ∙ sym gone.3) in
            elim (last-or l s (Ioid (wire_of q)) (meant_by x.names.requests q) at gives_q refl own) [
              | inl is_free ↦ inl is_free
              | inr place ↦
                  let f = on-request q r gone.2 gone.4 own place in
                  let h = has-channel l (channel_number x.names r.channel) (history.Request f.0 f.1) s r.channel at f.2 (λ e. no-create f.0 f.1 e) f.3 in
                  inr (inr (inr (inr (h.0, h.1, wire_of r.channel, h.2, clears.0, clears.1, over-cleared r.channel clears.2 l s (history.Request f.0 f.1) at f.2 (λ e. no-clear f.0 f.1 e) b upto))))
            ]
      ]
        where
          no-create : (kind : history.Kind) (k : ℕ) → history.Request kind k ≡ Create → ⊥
          no-create kind k e = cc

          no-clear : (kind : history.Kind) (k : ℕ) → history.Request kind k ≡ history.Clear → ⊥
          no-clear kind k e = cc
      frees-it (SubId k) gives gone = elim gone.5 [
        | inl confirms ↦
            elim (last-or l s (SubId (wire_of g)) (meant_by x.names.subscriptions g) at gives_g refl own) [
              | inl is_free ↦ inl is_free
              | inr place ↦
                  inr (inr (inr (inl (
                    gives.0,
                    inl (confirms.0, confirms.1, confirms.2 ∙ gone.3 ∙ sym gives.1, was-cancelled g d gone.2 (held-cancelled x.core.channels c.at_client confirms.3.0 d confirms.3.1 gone.4) own place gives_g b upto),
                  ))))
            ]
        | inr (inl errs) ↦
            elim (last-or l s (SubId (wire_of g)) (meant_by x.names.subscriptions g) at gives_g refl own) [
              | inl is_free ↦ inl is_free
              | inr place ↦
                  inr (inr (inr (inl (gives.0, inr (quoted errs.1.0 errs.1.1 errs.0 (errs.1.2 ∙ sym gives.0) (errs.1.3 ∙ gone.3 ∙ sym gives.1), uncancelled g d gone.2 errs.2 own place gives_g b)))))
            ]
        | inr (inr clears) ↦
            elim (last-or l s (SubId (wire_of g)) (meant_by x.names.subscriptions g) at gives_g refl own) [
              | inl is_free ↦ inl is_free
              | inr place ↦
                  let f = on-subscription g d gone.2 own place in
                  let h = has-channel l (channel_number x.names d.channel) (Subscribe f.0) s d.channel at f.1 (λ e. no-create f.0 e) f.3 in
                  inr (inr (inr (inr (h.0, h.1, wire_of d.channel, h.2, clears.0, clears.1, over-cleared d.channel clears.2 l s (Subscribe f.0) at f.1 (λ e. no-clear f.0 e) b upto))))
            ]
      ]
        where
          g : Handle
          g = gone.0

          d : Subscription
          d = gone.1

          own : IsMeant c.lists (meant_by x.names.subscriptions g) (SubId (wire_of g))
          own = (held-so.holds opened).subscriptions.own g d gone.2 gone.4

          gives_g : Gives s.message (SubId (wire_of g))
          gives_g = (gives.0, gives.1 ∙ sym gone.3)

          no-create : (k : ℕ) → Subscribe k ≡ Create → ⊥
          no-create k e = cc

          no-clear : (k : ℕ) → Subscribe k ≡ history.Clear → ⊥
          no-clear k e = cc

  -- so it is free in the words of the statement, as soon as that was read
  pub freed-now : (d : Joined) → Onward c d → (l : ℕ) (s : Sent) (id : Id) → At c.lists.up l s → Gives s.message id → IsFreedNow c d x s.message id
      → IsFree (client_conduct d.lists) l (length c.lists.up)
  freed-now d on l s id at gives now =
      let t : Told = now.0 in
      let g : Step = now.1 in
      let lt : l < length c.lists.up = At-within c.lists.up l s at in
      let sent_is : g.sent ≡ length c.lists.up = now.4 in
      elim (frees-it l s at (length c.lists.up) t.message lt (omega arith) id gives now.5) [
        | inl is_free ↦ free-forth c d on l (length c.lists.up) (length c.lists.up) (omega arith) (omega arith) is_free
        | inr frees ↦ (
          length c.lists.heard,
          length c.lists.up,
          s.message,
          t.message,
          At-map (λ (z : Sent). z.message) d.lists.up l s (on.up l s at),
          At-map (λ (z : Told). z.message) d.lists.down (length c.lists.heard) t now.2,
          subst (λ (v : ℕ). At (client_conduct d.lists).read (length c.lists.heard) v) sent_is (At-map (λ (z : Step). z.sent) d.lists.heard (length c.lists.heard) g now.3),
          lt,
          omega arith,
          frees-forth c d on l (length c.lists.up) s.message t.message (omega (arith, lt)) (omega arith) frees,
        )
      ]
