-- Other messages that a client reads: access rights, a creation that failed, and a
-- cancel that is confirmed.
use Rattle.std.proofs.Common.{◌≡◌, ℕ, ◌<◌, ◌≤◌, ◌⊎◌, inl, inr, Bool, true, false, cond, length, Option, Some, None, refl, sym, ap, ◌∙◌, subst, arith}
use Rattle.std.specs.Prelude.{◌&&◌, option_and_then, option_map, unwrap_or}
use Rattle.std.proofs.lemmas.Bool.{both_ways, or_left}
use Rattle.ca_text.specs.declared.command.Command.TheVariants as command
use Rattle.ca_text.specs.Limits.{arena_slots}
use Rattle.ca_text.specs.Place.{At}
use Rattle.ca_text.proofs.Places.{some_is, At-one}
use Rattle.ca_arena.specs.declared.handle.Handle.{Handle}
use Rattle.ca_ids.specs.Table.{Table, by_wire, under, with_changed, with_freed}
use Rattle.ca_ids.specs.Wire.{wire_of}
use Rattle.ca_monitor.specs.Subscriptions.{Subscription, confirmed_by, drains_in, is_cancelled_in, stands_in}
use Rattle.ca_monitor.specs.Subscriptions as monitor
use Rattle.ca_model.specs.Client.{Channel, Client, On, Phase, Searching, channel_on, is_on_in, searched_again, with_standing, without_channel}
use Rattle.ca_model.specs.Hears.{without_subscription}
use Rattle.ca_model.specs.Speech.{Id, Cid, SubId, Gives, Is, Speaks}
use Rattle.ca_model.specs.History.{Ask, Cancel, Circuit, Create, Intent, Reply, Sent, Step, Subscribe, Told}
use Rattle.ca_model.specs.History as history
use Rattle.ca_model.specs.Channels.{Suits, named}
use Rattle.ca_model.specs.ClientEvents.{channel_number, meant_by}
use Rattle.ca_model.specs.World.{Names}
use Rattle.ca_laws_parts.specs.Flows.{Ends, Flows, IsCidOf, IsLast, IsPending, NoMore, with_heard}
use Rattle.ca_laws_parts.specs.Held.{Holds, HoldsChannels, HoldsSubscriptions, OnChannels, has_id, is_asked, is_subscribed}
use Rattle.ca_laws_parts.proofs.Answered.{cid-named, subscribed-asked}
use Rattle.ca_model.proofs.Standings.{is-on}
use Rattle.ca_model.proofs.Handles.{handle-or}
use Rattle.ca_laws_parts.proofs.Flows.{given-now}
use Rattle.ca_laws_parts.proofs.CircuitHeard.{has-too, holds-heard}
use Rattle.ca_model.proofs.Standings.{channel-on}
use Rattle.ca_laws_parts.proofs.Held.{ids-kept}
use Rattle.ca_laws_parts.proofs.Settled.{none-pending, one-giver, pending-before, pending-means}
use Rattle.ca_model.proofs.Thinner.{three-ways}
use Rattle.ca_model.proofs.Tables.{changed-back, changed-few, changed-other, changed-own, freed-back, freed-few, freed-other, one-value, wire-under}

abbrev moved : Handle → Phase → Channel → Channel
moved on q here = record here { standing = On on q }

-- ---- a channel goes from one phase to another that is like it

pub phase-kept : (Awaits : ℕ → Type 0) (on : Handle) (n : Names) (x : Client) (c : Circuit) (h : Handle) (ch : Channel) (p q : Phase) → under x.channels h ≡ Some ch → is_on_in is_asked on ch ≡ is_asked p → is_on_in is_subscribed on ch ≡ is_subscribed p
    → is_asked p ≡ is_asked q → is_subscribed p ≡ is_subscribed q → Holds Awaits on n x c → Holds Awaits on n (with_standing (On on q) h x) c
phase-kept Awaits on n x c h ch p q there asked subscribed like alike holds = record {
  channels =
      ids-kept Cid _ Awaits (is_on_in is_asked on) (is_on_in is_asked on) x.channels (with_changed (moved on q) h x.channels) c
      (let e : length (with_changed (moved on q) h x.channels) ≡ length x.channels = changed-few (moved on q) x.channels h in let l : length x.channels ≤ arena_slots = holds.channels.few in omega (arith, e, l))
      (λ l m pending was. elim (handle-or was.0 h) [
        | inl same ↦ (h, (moved on q) ch, changed-own (moved on q) x.channels h ch there, sym (ap (λ (g : Handle). wire_of g) same) ∙ was.3, is-on is_asked on ((moved on q) ch) q refl ∙ sym like ∙ sym asked ∙ held-true was.0 was.1 same was.2 was.4)
        | inr other ↦ (was.0, was.1, changed-other (moved on q) x.channels was.0 h was.1 was.2 other, was.3, was.4)
      ])
      (λ g v is yes_it. elim (changed-back (moved on q) x.channels g h v is) [
        | inl own ↦ (
          ch,
          subst (λ (k : Handle). under x.channels k ≡ Some ch) (sym own.0) there,
          asked ∙ like ∙ sym (is-on is_asked on ((moved on q) own.1.0) q refl) ∙ sym (ap (λ (z : Channel). is_on_in is_asked on z) own.1.2) ∙ yes_it,
        )
        | inr other ↦ (v, other.1, yes_it)
      ]) holds.channels;
  requests = holds.requests;
  subscriptions =
      ids-kept SubId _ Awaits (has_id x.channels on) (has_id (with_changed (moved on q) h x.channels) on) x.subscriptions x.subscriptions c holds.subscriptions.few
      (λ l m pending was. (
        was.0,
        was.1,
        was.2,
        was.3,
        has-too on x.channels (with_changed (moved on q) h x.channels) was.1 (λ w is pass. elim (handle-or was.1.channel h) [
          | inl same ↦
              let w_is : w ≡ ch = one-value x.channels h w ch (subst (λ (k : Handle). under x.channels k ≡ Some w) same is) there in (
                (moved on q) ch,
                subst (λ (k : Handle). under (with_changed (moved on q) h x.channels) k ≡ Some ((moved on q) ch)) (sym same) (changed-own (moved on q) x.channels h ch there),
                is-on is_subscribed on ((moved on q) ch) q refl ∙ sym alike ∙ sym subscribed ∙ subst (λ (z : Channel). is_on_in is_subscribed on z ≡ true) w_is pass,
              )
          | inr other ↦ (w, changed-other (moved on q) x.channels was.1.channel h w is other, pass)
        ]) was.4,
      ))
      (λ g v is yes_it. (
        v,
        is,
        has-too on (with_changed (moved on q) h x.channels) x.channels v (λ w is_w pass. elim (changed-back (moved on q) x.channels v.channel h w is_w) [
          | inl own ↦ (
            ch,
            subst (λ (k : Handle). under x.channels k ≡ Some ch) (sym own.0) there,
            subscribed ∙ alike ∙ sym (is-on is_subscribed on ((moved on q) own.1.0) q refl) ∙ sym (ap (λ (z : Channel). is_on_in is_subscribed on z) own.1.2) ∙ pass,
          )
          | inr old ↦ (w, old.1, pass)
        ]) yes_it,
      )) holds.subscriptions;
}
  where
    held-true : (g : Handle) (v : Channel) → g ≡ h → under x.channels g ≡ Some v → is_on_in is_asked on v ≡ true → is_on_in is_asked on ch ≡ true
    held-true g v same is yes_it =
        subst (λ (z : Channel). is_on_in is_asked on z ≡ true) (one-value x.channels h v ch (subst (λ (k : Handle). under x.channels k ≡ Some v) same is) there) yes_it

-- ---- a creation failed

module _ (Awaits : ℕ → Type 0) (on : Handle) (n : Names) (x : Client) (c : Circuit) (g : Step) (t : Told) (s : Sent) (h : Handle)
    (f : Flows Awaits c) (holds : Holds Awaits on n x c) (at : At c.down (length c.heard) t) (cause : t.cause ≡ Reply) (there : At c.up t.place s)
    (last : IsLast t.message s.intent) (gives : Gives s.message (Cid (wire_of h))) (speaks : Speaks t.message (Cid (wire_of h)))
    (quiet : (p : ℕ) (r : Sent) (ask : Ask) → t.place < p → At c.up p r → r.intent ≡ history.On (channel_number n h) ask → ⊥)
    (ch : Channel) (stands : under x.channels h ≡ Some ch) (asked : is_on_in is_asked on ch ≡ true) (header_only : is_on_in is_subscribed on ch ≡ false) where
  heard : Holds Awaits on n x (with_heard g c)
  heard = holds-heard Awaits on n x c g holds

  over-cid : (p m : ℕ) → IsPending Awaits (with_heard g c) p (Cid m) → m ≡ wire_of h → ⊥
  over-cid p m pending is =
      let now : IsPending Awaits c p (Cid (wire_of h)) = subst (λ (k : ℕ). IsPending Awaits c p (Cid k)) is (pending-before Awaits c g p (Cid m) pending) in
      let means = pending-means Awaits c p (Cid (wire_of h)) f now in
      let mine = holds.channels.own h ch stands asked in
      let told = given-now c (length c.heard) t.place (Cid (wire_of h)) (omega arith) (f.own (length c.heard) t (Cid (wire_of h)) at speaks) in
      let one = one-giver c.up (Cid (wire_of h)) means.0 mine.0 means.1 mine.1 means.3 mine.2 in
      let too = one-giver c.up (Cid (wire_of h)) means.0 told.0 means.1 told.1 means.3 told.3 in
      let number : channel_number n h ≡ mine.1 = some_is (channel_number n h) mine.1 mine.3 in
      let intent = cid-named (wire_of h) means.2.intent (channel_number n h) (means.6 ∙ ap (λ (k : ℕ). Some k) (one.1 ∙ sym number)) in
      elim (three-ways p t.place) [
        | inl lt ↦ (let le : means.0 ≤ p = means.4 in let e : means.0 ≡ told.0 = too.0 in told.3.4 t.place s (omega (arith, lt, le, e)) there gives)
        | inr (inl same) ↦
            none-pending Awaits c g p (Cid m) (subst (λ (q : ℕ). NoMore Awaits c (length c.heard) q) (sym same) (f.last (length c.heard) t s at cause there last)) pending
        | inr (inr lt) ↦ quiet p means.2 intent.0 lt means.5 intent.1
      ]

  module _ (u : Table Channel) (few : length u ≤ arena_slots) (keeps : (k : Handle) (w : Channel) → under x.channels k ≡ Some w → (k ≡ h → ⊥) → under u k ≡ Some w)
      (back : (k : Handle) (w : Channel) → under u k ≡ Some w → is_on_in is_asked on w ≡ true → under x.channels k ≡ Some w) where
    channels-failed : HoldsChannels Awaits on (channel_number n) u (with_heard g c)
    channels-failed =
        ids-kept Cid _ Awaits (is_on_in is_asked on) (is_on_in is_asked on) x.channels u (with_heard g c) few
        (λ p m pending was. elim (handle-or was.0 h) [
          | inl same ↦ absurd (over-cid p m pending (sym was.3 ∙ ap (λ (k : Handle). wire_of k) same))
          | inr other ↦ (was.0, was.1, keeps was.0 was.1 was.2 other, was.3, was.4)
        ])
        (λ k v is yes_it. (v, back k v is yes_it, yes_it)) heard.channels

    subscriptions-failed : HoldsSubscriptions Awaits on (meant_by n.subscriptions) u x.subscriptions (with_heard g c)
    subscriptions-failed =
        ids-kept SubId _ Awaits (has_id x.channels on) (has_id u on) x.subscriptions x.subscriptions (with_heard g c) holds.subscriptions.few
        (λ p m pending was. (
          was.0,
          was.1,
          was.2,
          was.3,
          has-too on x.channels u was.1 (λ w is pass. (
            w,
            keeps was.1.channel w is (λ e.
                both_ways (is_on_in is_subscribed on ch) header_only (subst (λ (z : Channel). is_on_in is_subscribed on z ≡ true) (one-value x.channels h w ch (subst (λ (k : Handle). under x.channels k ≡ Some w) e is) stands) pass)),
            pass,
          )) was.4,
        ))
        (λ k v is yes_it. (v, is, has-too on u x.channels v (λ w is_w pass. (w, back v.channel w is_w (subscribed-asked on w pass), pass)) yes_it))
        heard.subscriptions

  -- its caller cleared it meanwhile: it is gone
  pub doomed-failed : Holds Awaits on n (without_channel x h) (with_heard g c)
  doomed-failed =
      let u : Table Channel = with_freed h x.channels in
      let few : length u ≤ arena_slots = (let e : length u ≡ length x.channels = freed-few x.channels h in let l : length x.channels ≤ arena_slots = holds.channels.few in omega (arith, e, l)) in
      let keeps : (k : Handle) (w : Channel) → under x.channels k ≡ Some w → (k ≡ h → ⊥) → under u k ≡ Some w = λ k w is other. freed-other x.channels k h w is other in
      let back : (k : Handle) (w : Channel) → under u k ≡ Some w → is_on_in is_asked on w ≡ true → under x.channels k ≡ Some w = λ k w is pass. (freed-back x.channels k h w is).1 in
      record { channels = channels-failed u few keeps back; requests = heard.requests; subscriptions = subscriptions-failed u few keeps back }

  -- or it is searched for again
  pub searched-failed : Holds Awaits on n (searched_again x h) (with_heard g c)
  searched-failed =
      let away : Channel → Channel = λ (w : Channel). record w { standing = Searching } in
      let u : Table Channel = with_changed away h x.channels in
      let few : length u ≤ arena_slots = (let e : length u ≡ length x.channels = changed-few away x.channels h in let l : length x.channels ≤ arena_slots = holds.channels.few in omega (arith, e, l)) in
      let keeps : (k : Handle) (w : Channel) → under x.channels k ≡ Some w → (k ≡ h → ⊥) → under u k ≡ Some w = λ k w is other. changed-other away x.channels k h w is other in
      let back : (k : Handle) (w : Channel) → under u k ≡ Some w → is_on_in is_asked on w ≡ true → under x.channels k ≡ Some w = λ k w is pass. elim (changed-back away x.channels k h w is) [
        | inl own ↦ absurd (both_ways (is_on_in is_asked on w) (ap (λ (z : Channel). is_on_in is_asked on z) own.1.2) pass)
        | inr other ↦ other.1
      ] in
      record { channels = channels-failed u few keeps back; requests = heard.requests; subscriptions = subscriptions-failed u few keeps back }

-- ---- a cancel is confirmed

-- a confirmation finds a subscription that was cancelled on its circuit
pub confirmed-is : (on : Handle) (id : ℕ) (t : Table Subscription) (q : Handle) → confirmed_by on id t ≡ Some q → (d : Subscription) × (under t q ≡ Some d) × (wire_of q ≡ id) × (is_cancelled_in on d.stage ≡ true)
confirmed-is on id t q is = go (by_wire t id) refl is
  where
    go : (o : Option (Handle × Subscription)) → by_wire t id ≡ o → option_and_then (λ (e : Handle × Subscription). cond (is_cancelled_in on e.1.stage) (Some e.0) None) o ≡ Some q
        → (d : Subscription) × (under t q ≡ Some d) × (wire_of q ≡ id) × (is_cancelled_in on d.stage ≡ true)
    go None found h = absurd cc
    go (Some e) found h = by (is_cancelled_in on e.1.stage) refl h
      where
        by : (b : Bool) → is_cancelled_in on e.1.stage ≡ b → cond b (Some e.0) None ≡ Some q → (d : Subscription) × (under t q ≡ Some d) × (wire_of q ≡ id) × (is_cancelled_in on d.stage ≡ true)
        by true yes_it k =
            let same : e.0 ≡ q = some_is e.0 q k in
            let there = wire-under t id e found in
            (e.1, subst (λ (z : Handle). under t z ≡ Some e.1) same there.0, sym (ap (λ (z : Handle). wire_of z) same) ∙ there.1, yes_it)
        by false no_it k = absurd cc

-- what was cancelled there has its id there
cancelled-has : (on : Handle) (channels : Table Channel) (d : Subscription) → is_cancelled_in on d.stage ≡ true → has_id channels on d ≡ true
cancelled-has on channels d is = or_left (drains_in on d.stage) (stands_in d.stage && unwrap_or (option_map (is_on_in is_subscribed on) (under channels d.channel)) false) (go d.stage is)
  where
    go : (stage : monitor.Stage) → is_cancelled_in on stage ≡ true → drains_in on stage ≡ true
    go monitor.Stands f = f
    go (monitor.Cancelled o) f = f
    go (monitor.Ended o) f = absurd (both_ways false refl f)

pub on-is : (a n : ℕ) (p q : Ask) → history.On a p ≡ history.On n q → a ≡ n
on-is a n p q e = cc

channel-is : (a b : ℕ) (p q r s : Ask) (n : ℕ) → history.On a p ≡ history.On n q → history.On b r ≡ history.On n s → a ≡ b
channel-is a b p q r s n e f = on-is a n p q e ∙ sym (on-is b n r s f)

-- A confirmation that finds a cancelled subscription frees its id: before the EVENT_CANCEL it was
-- subscribed to, and after it nothing was sent about it.
pub confirmation-heard : (Awaits : ℕ → Type 0) (on : Handle) (n : Names) (x : Client) (c : Circuit) (g : Step) (t : Told) (s : Sent) (q : Handle) (channel number : ℕ) → Flows Awaits c → Holds Awaits on n x c → OnChannels n x c
    → At c.down (length c.heard) t → t.cause ≡ Reply → Is command.EventAdd t.message → At c.up t.place s → s.intent ≡ history.On channel (Cancel number) → confirmed_by on t.message.p2 x.subscriptions ≡ Some q
    → ((p : ℕ) (r : Sent) → At c.up p r → named (SubId (wire_of q)) r.intent ≡ Some number → ((p < t.place) × ((a : ℕ) × (r.intent ≡ history.On a (Subscribe number)))) ⊎ (p ≡ t.place))
    → Holds Awaits on n (without_subscription q x) (with_heard g c)
confirmation-heard Awaits on n x c g t s q channel number f holds own at cause adds there cancels finds quiet =
    let found = confirmed-is on t.message.p2 x.subscriptions q finds in
    let id : Id = SubId (wire_of q) in
    let has : has_id x.channels on found.0 ≡ true = cancelled-has on x.channels found.0 found.3 in
    let mine = holds.subscriptions.own q found.0 found.1 has in
    let speaks : Speaks t.message (SubId (wire_of q)) = inl (adds, sym found.2) in
    let told = given-now c (length c.heard) t.place (SubId (wire_of q)) (omega arith) (f.own (length c.heard) t (SubId (wire_of q)) at speaks) in
    let one = one-giver c.up (SubId (wire_of q)) told.0 mine.0 told.1 mine.1 told.3 mine.2 in
    let same_s : told.2 ≡ s = At-one c.up t.place told.2 s told.5 there in
    let number_is : number ≡ told.1 = some_is number told.1 (sym (ap (named (SubId (wire_of q))) cancels) ∙ sym (ap (λ (z : Sent). named (SubId (wire_of q)) z.intent) same_s) ∙ told.6) in
    let meant : named (SubId (wire_of q)) (meant_by n.subscriptions q) ≡ Some number = mine.3 ∙ ap (λ (k : ℕ). Some k) (sym one.1 ∙ sym number_is) in
    let s_on = own.subscriptions t.place number s q found.0 there found.1 (ap (named (SubId (wire_of q))) cancels) meant in
    let none : (p m : ℕ) → IsPending Awaits (with_heard g c) p (SubId m) → m ≡ wire_of q → ⊥ = λ p m pending is.
    let now : IsPending Awaits c p (SubId (wire_of q)) = subst (λ (k : ℕ). IsPending Awaits c p (SubId k)) is (pending-before Awaits c g p (SubId m) pending) in
    let means = pending-means Awaits c p (SubId (wire_of q)) f now in
    let two = one-giver c.up (SubId (wire_of q)) means.0 told.0 means.1 told.1 means.3 told.3 in
    let r_means : named (SubId (wire_of q)) means.2.intent ≡ Some number = means.6 ∙ ap (λ (k : ℕ). Some k) (two.1 ∙ sym number_is) in
    elim (quiet p means.2 means.5 r_means) [
      | inl before ↦
          let r_on = own.subscriptions p number means.2 q found.0 means.5 found.1 r_means meant in
          let channels : channel ≡ before.1.0 =
          channel-is channel before.1.0 (Cancel number) s_on.0 (Subscribe number) r_on.0 (channel_number n found.0.channel) (sym cancels ∙ s_on.1) (sym before.1.1 ∙ r_on.1) in
          let ends : Ends s.intent means.2.intent =
          subst (λ (i : Intent × Intent). Ends i.0 i.1) (λ k. (sym cancels k, sym before.1.1 k)) (channels, refl) in
          none-pending Awaits c g p (SubId m) (f.over (length c.heard) p t s means.2 at cause there means.5 before.0 ends) pending
      | inr here ↦
          let last : IsLast t.message s.intent = subst (λ (i : Intent). IsLast t.message i) (sym cancels) tt in
          none-pending Awaits c g p (SubId m) (subst (λ (k : ℕ). NoMore Awaits c (length c.heard) k) (sym here) (f.last (length c.heard) t s at cause there last)) pending
    ] in
    let heard : Holds Awaits on n x (with_heard g c) = holds-heard Awaits on n x c g holds in
    record {
      channels = heard.channels;
      requests = heard.requests;
      subscriptions =
          ids-kept SubId _ Awaits (has_id x.channels on) (has_id x.channels on) x.subscriptions (with_freed q x.subscriptions) (with_heard g c)
          (let e : length (with_freed q x.subscriptions) ≡ length x.subscriptions = freed-few x.subscriptions q in let l : length x.subscriptions ≤ arena_slots = holds.subscriptions.few in omega (arith, e, l))
          (λ p m pending was. elim (handle-or was.0 q) [
            | inl same ↦ absurd (none p m pending (sym was.3 ∙ ap (λ (k : Handle). wire_of k) same))
            | inr other ↦ (was.0, was.1, freed-other x.subscriptions was.0 q was.1 was.2 other, was.3, was.4)
          ])
          (λ k v is yes_it. (v, (freed-back x.subscriptions k q v is).1, yes_it)) heard.subscriptions;
    }

-- ---- the same by what the messages found

pub rights-heard : (Awaits : ℕ → Type 0) (on : Handle) (n : Names) (x : Client) (c : Circuit) (g : Step) (cid : ℕ) (h : Handle) (p q : Phase) → channel_on x on cid ≡ Some (h, p) → is_asked p ≡ is_asked q → is_subscribed p ≡ is_subscribed q → Holds Awaits on n x c
    → Holds Awaits on n (with_standing (On on q) h x) (with_heard g c)
rights-heard Awaits on n x c g cid h p q finds like alike holds =
    let found = channel-on x on cid h p finds in
    phase-kept Awaits on n x (with_heard g c) h found.0 p q found.1 (is-on is_asked on found.0 p found.3) (is-on is_subscribed on found.0 p found.3) like alike (holds-heard Awaits on n x c g holds)

-- what a message at this place concerns
abbrev pub Of : Circuit → (place : ℕ) → Sent → Id → Type 0
Of c place z id =
    Gives z.message id
    ⊎ ((Is command.ClearChannel z.message × (id ≡ Cid z.message.p2))
    ⊎ ((Is command.EventCancel z.message × (id ≡ SubId z.message.p2))
    ⊎ (Is command.Write z.message × ((cid : ℕ) × IsCidOf c.up place z.intent cid × (id ≡ Cid cid)))))

creating : (c : Circuit) (place : ℕ) (z : Sent) (id : Id) → Is command.CreateChannel z.message → Of c place z id → Gives z.message id
creating c place z id is concerns = elim concerns [
  | inl gives ↦ gives
  | inr (inl clears) ↦ (let e : ◌≡◌ {A = ℕ} 18 12 = sym is ∙ clears.0 in absurd (omega (arith, e)))
  | inr (inr (inl cancels)) ↦ (let e : ◌≡◌ {A = ℕ} 18 2 = sym is ∙ cancels.0 in absurd (omega (arith, e)))
  | inr (inr (inr writes)) ↦ (let e : ◌≡◌ {A = ℕ} 18 4 = sym is ∙ writes.0 in absurd (omega (arith, e)))
]

pub failure-heard : (Awaits : ℕ → Type 0) (on : Handle) (n : Names) (x : Client) (c : Circuit) (g : Step) (t : Told) (s : Sent) (h : Handle) (p : Phase) → Flows Awaits c → Holds Awaits on n x c → At c.down (length c.heard) t → t.cause ≡ Reply → Is command.CreateChannelFail t.message → At c.up t.place s
    → s.intent ≡ history.On (channel_number n h) Create → ((l : ℕ) (r : Sent) (ask : Ask) → t.place < l → At c.up l r → r.intent ≡ history.On (channel_number n h) ask → ⊥) → channel_on x on t.message.p1 ≡ Some (h, p) → is_asked p ≡ true → is_subscribed p ≡ false
    → Holds Awaits on n (without_channel x h) (with_heard g c) × Holds Awaits on n (searched_again x h) (with_heard g c)
failure-heard Awaits on n x c g t s h p f holds at cause fails there creates quiet finds asked header_only =
    let found = channel-on x on t.message.p1 h p finds in
    let speaks : Speaks t.message (Cid (wire_of h)) = inl (inl (inr (inl fails), sym found.2)) in
    let last : IsLast t.message s.intent = subst (λ (i : Intent). IsLast t.message i) (sym creates) fails in
    let concerns = f.concerns (length c.heard) t (Cid (wire_of h)) at speaks in
    let same : concerns.0 ≡ s = At-one c.up t.place concerns.0 s concerns.1 there in
    let is_create : Is command.CreateChannel s.message = subst (λ (i : Intent). Suits i s.message) creates (f.asked t.place s there) in
    let gives : Gives s.message (Cid (wire_of h)) = creating c t.place s (Cid (wire_of h)) is_create (subst (λ (z : Sent). Of c t.place z (Cid (wire_of h))) same concerns.2) in
    let passes : is_on_in is_asked on found.0 ≡ true = is-on is_asked on found.0 p found.3 ∙ asked in
    let none : is_on_in is_subscribed on found.0 ≡ false = is-on is_subscribed on found.0 p found.3 ∙ header_only in (
      doomed-failed Awaits on n x c g t s h f holds at cause there last gives speaks quiet found.0 found.1 passes none,
      searched-failed Awaits on n x c g t s h f holds at cause there last gives speaks quiet found.0 found.1 passes none,
    )
