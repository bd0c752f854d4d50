-- The reply to a CLEAR_CHANNEL was read: the channel's CID is free, and so are the ids of its
-- requests and subscriptions that drained there.
use Rattle.std.proofs.Common.{◌≡◌, ℕ, ◌<◌, ◌≤◌, inl, inr, Bool, true, false, ◌&&◌, cond, length, Some, None, refl, sym, ap, ◌∙◌, subst, arith}
use Rattle.std.specs.Prelude.{option_map, unwrap_or}
use Rattle.std.proofs.lemmas.Bool.{both_ways, cases_Bool}
use Rattle.std.proofs.lemmas.List.{length-map}
use Rattle.ca_text.specs.Limits.{arena_slots}
use Rattle.ca_text.specs.Place.{At}
use Rattle.ca_text.proofs.Places.{some_is, At-one}
use Rattle.ca_arena.specs.declared.handle.Handle.{Handle}
use Rattle.ca_ids.specs.Table.{Table, same_handle, under, with_changed, with_freed}
use Rattle.ca_ids.specs.Wire.{wire_of}
use Rattle.ca_monitor.specs.Subscriptions.{Subscription, drains_in, is_to}
use Rattle.ca_monitor.specs.Subscriptions as monitor
use Rattle.ca_requests.specs.Requests.{Request, asks_on, was_sent_on}
use Rattle.ca_requests.specs.Requests as request
use Rattle.ca_model.specs.Client.{Channel, Client, Clearing, Connecting, Creating, Doomed, Leaving, Live, On, Phase, Searching, Standing, channel_on, is_on_in, searched_again, without_channel}
use Rattle.ca_model.specs.Hears.{without_drained}
use Rattle.ca_model.specs.Speech.{Id, Cid, Ioid, SubId, Gives}
use Rattle.ca_model.specs.History.{Ask, Circuit, Clear, Intent, Reply, Sent, Step, Told}
use Rattle.ca_model.specs.History as history
use Rattle.ca_model.specs.Channels.{named}
use Rattle.ca_model.specs.ClientEvents.{channel_number, meant_by}
use Rattle.ca_model.specs.World.{Names}
use Rattle.ca_laws_parts.specs.Flows.{Ends, Flows, IsLast, IsPending, NoMore, with_heard}
use Rattle.ca_laws_parts.specs.Held.{Holds, HoldsChannels, HoldsRequests, HoldsSubscriptions, OnChannels, has_id, is_asked, is_subscribed}
use Rattle.ca_model.proofs.Standings.{is-on}
use Rattle.ca_model.proofs.Handles.{handle-or, same-is, same-itself}
use Rattle.ca_laws_parts.proofs.CircuitHeard.{has-too, holds-heard}
use Rattle.ca_model.proofs.Standings.{channel-on}
use Rattle.ca_laws_parts.proofs.Held.{ids-kept}
use Rattle.ca_laws_parts.proofs.Requests.{requests-freed}
use Rattle.ca_laws_parts.proofs.Settled.{ioid-gives, none-pending, one-giver, pending-before, pending-concerns, pending-means}
use Rattle.ca_model.proofs.Thinner.{three-ways}
use Rattle.ca_model.proofs.Tables.{all-freed-back, all-freed-there, changed-back, changed-few, changed-other, freed-back, freed-few, freed-other}

-- what a CID names is a channel
pub cid-named : (id : ℕ) (intent : Intent) (n : ℕ) → named (Cid id) intent ≡ Some n → (ask : Ask) × (intent ≡ history.On n ask)
cid-named id (history.On channel ask) n is = (ask, ap (λ (c : ℕ). history.On c ask) (some_is channel n is))
cid-named id history.OfCircuit n is = absurd cc

-- a channel whose EVENT_ADDs went out had its CREATE_CHAN go out
pub subscribed-asked : (on : Handle) (ch : Channel) → is_on_in is_subscribed on ch ≡ true → is_on_in is_asked on ch ≡ true
subscribed-asked on ch is = go ch.standing is
  where
    phases : (p : Phase) → is_subscribed p ≡ true → is_asked p ≡ true
    phases Connecting f = f
    phases (Creating rights) f = refl
    phases (Live n rights) f = refl
    phases Leaving f = refl
    phases Clearing f = refl
    phases Doomed f = refl

    go : (s : Standing) → is_on_in is_subscribed on (record ch { standing = s }) ≡ true → is_on_in is_asked on (record ch { standing = s }) ≡ true
    go Searching f = f
    go (On d p) f = by (same_handle d on) f
      where
        by : (b : Bool) → unwrap_or (option_map is_subscribed (cond b (Some p) None)) false ≡ true → unwrap_or (option_map is_asked (cond b (Some p) None)) false ≡ true
        by true k = phases p k
        by false k = k

module _ (Awaits : ℕ → Type 0) (on : Handle) (n : Names) (x : Client) (c : Circuit) (g : Step) (t : Told) (s : Sent) (h : Handle)
    (f : Flows Awaits c) (holds : Holds Awaits on n x c) (own : OnChannels n x c) (at : At c.down (length c.heard) t) (cause : t.cause ≡ Reply) (there : At c.up t.place s)
    (clears : s.intent ≡ history.On (channel_number n h) Clear)
    (quiet : (p : ℕ) (r : Sent) (ask : Ask) → t.place < p → At c.up p r → r.intent ≡ history.On (channel_number n h) ask → ⊥)
    (ch : Channel) (stands : under x.channels h ≡ Some ch) (asked : is_on_in is_asked on ch ≡ true) where
  heard : Holds Awaits on n x (with_heard g c)
  heard = holds-heard Awaits on n x c g holds

  -- nothing that may still come is about the channel
  over : (p : ℕ) (id : Id) (r : Sent) (ask : Ask) → IsPending Awaits (with_heard g c) p id → At c.up p r → r.intent ≡ history.On (channel_number n h) ask → ⊥
  over p id r ask pending here is = elim (three-ways p t.place) [
    | inl lt ↦
        let ends : Ends s.intent r.intent = subst (λ (i : Intent × Intent). Ends i.0 i.1) (λ k. (sym clears k, sym is k)) refl in
        none-pending Awaits c g p id (f.over (length c.heard) p t s r at cause there here lt ends) pending
    | inr (inl same) ↦
        let last : IsLast t.message s.intent = subst (λ (i : Intent). IsLast t.message i) (sym clears) tt in
        none-pending Awaits c g p id (subst (λ (q : ℕ). NoMore Awaits c (length c.heard) q) (sym same) (f.last (length c.heard) t s at cause there last)) pending
    | inr (inr lt) ↦ quiet p r ask lt here is
  ]

  over-cid : (p m : ℕ) → IsPending Awaits (with_heard g c) p (Cid m) → m ≡ wire_of h → ⊥
  over-cid p m pending is =
      let now : IsPending Awaits c p (Cid (wire_of h)) = subst (λ (k : ℕ). IsPending Awaits c p (Cid k)) is (pending-before Awaits c g p (Cid m) pending) in
      let means = pending-means Awaits c p (Cid (wire_of h)) f now in
      let mine = holds.channels.own h ch stands asked in
      let one = one-giver c.up (Cid (wire_of h)) means.0 mine.0 means.1 mine.1 means.3 mine.2 in
      let number : channel_number n h ≡ mine.1 = some_is (channel_number n h) mine.1 mine.3 in
      let intent = cid-named (wire_of h) means.2.intent (channel_number n h) (means.6 ∙ ap (λ (k : ℕ). Some k) (one.1 ∙ sym number)) in
      over p (Cid m) means.2 intent.0 pending means.5 intent.1

  over-request : (p m : ℕ) (q : Handle) (r : Request) → IsPending Awaits (with_heard g c) p (Ioid m) → under x.requests q ≡ Some r → wire_of q ≡ m → was_sent_on on r ≡ true → asks_on h r ≡ true → ⊥
  over-request p m q r pending is wire sent asks =
      let now : IsPending Awaits c p (Ioid (wire_of q)) = subst (λ (k : ℕ). IsPending Awaits c p (Ioid k)) (sym wire) (pending-before Awaits c g p (Ioid m) pending) in
      let means = pending-means Awaits c p (Ioid (wire_of q)) f now in
      let mine = holds.requests.own q r is sent in
      let one = one-giver c.up (Ioid (wire_of q)) means.0 mine.0 means.1 mine.1 means.3 mine.2 in
      let gave = ioid-gives c.up p (wire_of q) (pending-concerns Awaits c p (Ioid (wire_of q)) f now) in
      let gives : Gives means.2.message (Ioid (wire_of q)) = subst (λ (z : Sent). Gives z.message (Ioid (wire_of q))) (At-one c.up p gave.0 means.2 gave.1 means.5) gave.2 in
      let intent = own.requests p mine.1 means.2 q r means.5 gives is (means.6 ∙ ap (λ (k : ℕ). Some k) one.1) mine.3 in
      over p (Ioid m) means.2 intent.0 pending means.5 (intent.1 ∙ ap (λ (k : Handle). history.On (channel_number n k) intent.0) (same-is r.channel h asks))

  over-subscription : (p m : ℕ) (k : Handle) (d : Subscription) → IsPending Awaits (with_heard g c) p (SubId m) → under x.subscriptions k ≡ Some d → wire_of k ≡ m → has_id x.channels on d ≡ true → is_to h d ≡ true → ⊥
  over-subscription p m k d pending is wire has to =
      let now : IsPending Awaits c p (SubId (wire_of k)) = subst (λ (i : ℕ). IsPending Awaits c p (SubId i)) (sym wire) (pending-before Awaits c g p (SubId m) pending) in
      let means = pending-means Awaits c p (SubId (wire_of k)) f now in
      let mine = holds.subscriptions.own k d is has in
      let one = one-giver c.up (SubId (wire_of k)) means.0 mine.0 means.1 mine.1 means.3 mine.2 in
      let intent = own.subscriptions p mine.1 means.2 k d means.5 is (means.6 ∙ ap (λ (i : ℕ). Some i) one.1) mine.3 in
      over p (SubId m) means.2 intent.0 pending means.5 (intent.1 ∙ ap (λ (i : Handle). history.On (channel_number n i) intent.0) (same-is d.channel h to))

  -- the table of channels in which this one is not on the circuit any more
  module _ (u : Table Channel) (few : length u ≤ arena_slots) (keeps : (k : Handle) (w : Channel) → under x.channels k ≡ Some w → (k ≡ h → ⊥) → under u k ≡ Some w)
      (back : (k : Handle) (w : Channel) → under u k ≡ Some w → is_on_in is_asked on w ≡ true → under x.channels k ≡ Some w) where
    channels-answered : HoldsChannels Awaits on (channel_number n) u (with_heard g c)
    channels-answered =
        ids-kept Cid _ Awaits (is_on_in is_asked on) (is_on_in is_asked on) x.channels u (with_heard g c) few
        (λ p m pending was. elim (handle-or was.0 h) [
          | inl same ↦ absurd (over-cid p m pending (sym was.3 ∙ ap (λ (k : Handle). wire_of k) same))
          | inr other ↦ (was.0, was.1, keeps was.0 was.1 was.2 other, was.3, was.4)
        ])
        (λ k v is yes_it. (v, back k v is yes_it, yes_it)) heard.channels

    requests-answered : HoldsRequests Awaits on (meant_by n.requests) (request.channel_gone h x.requests) (with_heard g c)
    requests-answered =
        requests-freed on (meant_by n.requests) Awaits (asks_on h) x.requests (with_heard g c)
        (λ p m q r pending is wire sent. elim (cases_Bool (asks_on h r)) [
          | inl asks ↦ absurd (over-request p m q r pending is wire sent asks)
          | inr other ↦ other
        ]) heard.requests

    stays : (d : Subscription) → is_to h d ≡ false → (is_to h d && drains_in on d.stage) ≡ false
    stays d no_it = ap (λ (b : Bool). b && drains_in on d.stage) no_it

    subscriptions-answered : HoldsSubscriptions Awaits on (meant_by n.subscriptions) u (monitor.channel_drained on h x.subscriptions) (with_heard g c)
    subscriptions-answered =
        ids-kept SubId _ Awaits (has_id x.channels on) (has_id u on) x.subscriptions (monitor.channel_drained on h x.subscriptions) (with_heard g c)
        (let e : length (monitor.channel_drained on h x.subscriptions) ≡ length x.subscriptions = length-map x.subscriptions _ in let l : length x.subscriptions ≤ arena_slots = holds.subscriptions.few in omega (arith, e, l))
        (λ p m pending was. elim (cases_Bool (is_to h was.1)) [
          | inl to ↦ absurd (over-subscription p m was.0 was.1 pending was.2 was.3 was.4 to)
          | inr other ↦ (
            was.0,
            was.1,
            all-freed-there (λ (d : Subscription). is_to h d && drains_in on d.stage) x.subscriptions was.0 was.1 was.2 (stays was.1 other),
            was.3,
            has-too on x.channels u was.1 (λ w is pass. (w, keeps was.1.channel w is (λ e. both_ways (is_to h was.1) other (subst (λ (k : Handle). same_handle was.1.channel k ≡ true) e (same-itself was.1.channel))), pass)) was.4,
          )
        ])
        (λ k v is yes_it.
        let was = all-freed-back (λ (d : Subscription). is_to h d && drains_in on d.stage) x.subscriptions k v is in
        (v, was.0, has-too on u x.channels v (λ w is_w pass. (w, back v.channel w is_w (subscribed-asked on w pass), pass)) yes_it))
        heard.subscriptions

  -- its caller cleared it: it is gone
  pub cleared-answered : Holds Awaits on n (without_channel (without_drained on h x) h) (with_heard g c)
  cleared-answered =
      let u : Table Channel = with_freed h x.channels in
      let few : length u ≤ arena_slots = (let e : length u ≡ length x.channels = freed-few x.channels h in let l : length x.channels ≤ arena_slots = holds.channels.few in omega (arith, e, l)) in
      let keeps : (k : Handle) (w : Channel) → under x.channels k ≡ Some w → (k ≡ h → ⊥) → under u k ≡ Some w = λ k w is other. freed-other x.channels k h w is other in
      let back : (k : Handle) (w : Channel) → under u k ≡ Some w → is_on_in is_asked on w ≡ true → under x.channels k ≡ Some w = λ k w is pass. (freed-back x.channels k h w is).1 in
      record { channels = channels-answered u few keeps back; requests = requests-answered u few keeps back; subscriptions = subscriptions-answered u few keeps back }

  -- its record left it: it is searched for again
  pub left-answered : Holds Awaits on n (searched_again (without_drained on h x) h) (with_heard g c)
  left-answered =
      let away : Channel → Channel = λ (w : Channel). record w { standing = Searching } in
      let u : Table Channel = with_changed away h x.channels in
      let few : length u ≤ arena_slots = (let e : length u ≡ length x.channels = changed-few away x.channels h in let l : length x.channels ≤ arena_slots = holds.channels.few in omega (arith, e, l)) in
      let keeps : (k : Handle) (w : Channel) → under x.channels k ≡ Some w → (k ≡ h → ⊥) → under u k ≡ Some w = λ k w is other. changed-other away x.channels k h w is other in
      let back : (k : Handle) (w : Channel) → under u k ≡ Some w → is_on_in is_asked on w ≡ true → under x.channels k ≡ Some w = λ k w is pass. elim (changed-back away x.channels k h w is) [
        | inl own ↦ absurd (both_ways (is_on_in is_asked on w) (ap (λ (z : Channel). is_on_in is_asked on z) own.1.2) pass)
        | inr other ↦ other.1
      ] in
      record { channels = channels-answered u few keeps back; requests = requests-answered u few keeps back; subscriptions = subscriptions-answered u few keeps back }

-- the same by the channel that the message found
pub answered-heard : (Awaits : ℕ → Type 0) (on : Handle) (n : Names) (x : Client) (c : Circuit) (g : Step) (t : Told) (s : Sent) (h : Handle) (p : Phase) → Flows Awaits c → Holds Awaits on n x c → OnChannels n x c → At c.down (length c.heard) t → t.cause ≡ Reply → At c.up t.place s
    → s.intent ≡ history.On (channel_number n h) Clear → ((l : ℕ) (r : Sent) (ask : Ask) → t.place < l → At c.up l r → r.intent ≡ history.On (channel_number n h) ask → ⊥) → channel_on x on t.message.p2 ≡ Some (h, p) → is_asked p ≡ true
    → Holds Awaits on n (without_channel (without_drained on h x) h) (with_heard g c) × Holds Awaits on n (searched_again (without_drained on h x) h) (with_heard g c)
answered-heard Awaits on n x c g t s h p f holds own at cause there clears quiet finds asked =
    let found = channel-on x on t.message.p2 h p finds in
    let passes : is_on_in is_asked on found.0 ≡ true = is-on is_asked on found.0 p found.3 ∙ asked in (
      cleared-answered Awaits on n x c g t s h f holds own at cause there clears quiet found.0 found.1 passes,
      left-answered Awaits on n x c g t s h f holds own at cause there clears quiet found.0 found.1 passes,
    )
