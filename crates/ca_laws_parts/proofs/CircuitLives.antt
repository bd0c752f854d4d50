-- The reply to a CREATE_CHAN was read: the channel is live, and the EVENT_ADDs of its subscriptions
-- go out; or its caller cleared it meanwhile, and its CLEAR_CHANNEL goes out.
use Rattle.std.proofs.Common.{◌≡◌, ℕ, inl, inr, Bool, true, false, ◌&&◌, ◌||◌, List, [], ◌∷◌, Option, Some, refl, sym, ap, ◌∙◌, subst}
use Rattle.std.specs.Prelude.{map, option_map, unwrap_or}
use Rattle.std.proofs.lemmas.Bool.{and_from, and_parts, both_ways, or_cases, or_left, or_right}
use Rattle.ca_text.specs.Place.{At}
use Rattle.ca_text.proofs.Places.{At-mapped}
use Rattle.ca_arena.specs.declared.handle.Handle.{Handle}
use Rattle.ca_ids.specs.Table.{Table, held, under, with_changed}
use Rattle.ca_ids.specs.Wire.{wire_of}
use Rattle.ca_monitor.specs.Subscriptions.{Stage, Stands, Cancelled, Ended, Subscription, drains_in, is_to, standing_to, stands_in}
use Rattle.ca_requests.specs.Requests.{was_sent_on}
use Rattle.ca_model.specs.Answers.{Sending}
use Rattle.ca_model.specs.Client.{Channel, Client, Clearing, Creating, Doomed, Live, Native, On, channel_on, is_on_in, sending, with_standing}
use Rattle.ca_model.specs.ClientCalls.{clear_sent}
use Rattle.ca_model.specs.Hears.{event_adds}
use Rattle.ca_model.specs.Speech.{Cid, Ioid, SubId}
use Rattle.ca_model.specs.History.{Circuit, Intent, Sent, Step}
use Rattle.ca_model.specs.Channels.{Suits, named}
use Rattle.ca_model.specs.ClientEvents.{channel_number, meant_by}
use Rattle.ca_model.specs.World.{Names as ClientNames}
use Rattle.ca_laws_parts.specs.Flows.{MaySend, MaySendAll, with_all_sent, with_heard, with_sent}
use Rattle.ca_laws_parts.specs.Held.{Holds, HoldsChannels, HoldsRequests, HoldsSubscriptions, HoldsIdsBy, IsAlike, MeanToSubscribe, clear_of, event_add_of, has_id, is_asked, is_subscribed}
use Rattle.ca_laws_parts.proofs.Alike.{changed-alike, holds-alike, ids-alike, sending-alike}
use Rattle.ca_laws_parts.proofs.Clears.{clear-goes, clear-gone}
use Rattle.ca_model.proofs.Standings.{is-on}
use Rattle.ca_laws_parts.proofs.Ended.{phase-kept}
use Rattle.ca_model.proofs.Handles.{handle-or, same-is, same-itself}
use Rattle.ca_laws_parts.proofs.CircuitHeard.{has-too, holds-heard}
use Rattle.ca_model.proofs.Standings.{channel-on}
use Rattle.ca_laws_parts.proofs.Held.{ids-kept-by}
use Rattle.ca_laws_parts.proofs.Many.{Names, ids-all-named, ids-all-sent}
use Rattle.ca_laws_parts.proofs.Marks.{at-filter, filter-apart, filter-at, marked, marked-back, marked-new, marked-old}
use Rattle.ca_laws_parts.proofs.Subscribes.{adds-concerns, adds-gives, no-cid, no-ioid, sub-is}
use Rattle.ca_model.proofs.Tables.{AreApart, changed-back, changed-other, changed-own, held-apart, held-under, one-value, under-held}

module _ (Awaits : ℕ → Type 0) (on : Handle) (n : ClientNames) (x : Client) (c : Circuit) (h : Handle) (sid : ℕ) (native : Native) (rights : ℕ)
    (ch : Channel) (there : under x.channels h ≡ Some ch) (asked : is_on_in is_asked on ch ≡ true) (header_only : is_on_in is_subscribed on ch ≡ false)
    (meant : MeanToSubscribe n x.subscriptions) (holds : Holds Awaits on n x c) where
  abbrev lives : Channel → Channel
  lives here = record here { standing = On on (Live native rights) }

  abbrev after : Table Channel
  after = with_changed lives h x.channels

  abbrev es : List (Handle × Subscription)
  es = standing_to h x.subscriptions

  abbrev adds : List Sent
  adds = map (event_add_of n sid) es

  abbrev here : Handle → Subscription → Bool
  here g = has_id x.channels on

  -- what stands to the channel had no id here
  there-not : (d : Subscription) → is_to h d ≡ true → unwrap_or (option_map (is_on_in is_subscribed on) (under x.channels d.channel)) false ≡ false
  there-not d to =
      ap (λ (g : Handle). unwrap_or (option_map (is_on_in is_subscribed on) (under x.channels g)) false) (same-is d.channel h to)
      ∙ ap (λ (o : Option Channel). unwrap_or (option_map (is_on_in is_subscribed on) o) false) there ∙ header_only

  not-yet : (d : Subscription) → is_to h d ≡ true → stands_in d.stage ≡ true → has_id x.channels on d ≡ false
  not-yet d to stands = go d.stage stands
    where
      go : (s : Stage) → stands_in s ≡ true → (drains_in on s || (stands_in s && unwrap_or (option_map (is_on_in is_subscribed on) (under x.channels d.channel)) false)) ≡ false
      go Stands f = there-not d to
      go (Cancelled o) f = absurd (both_ways false refl f)
      go (Ended o) f = absurd (both_ways false refl f)

  -- and it has one now
  there-now : (d : Subscription) → is_to h d ≡ true → unwrap_or (option_map (is_on_in is_subscribed on) (under after d.channel)) false ≡ true
  there-now d to =
      ap (λ (g : Handle). unwrap_or (option_map (is_on_in is_subscribed on) (under after g)) false) (same-is d.channel h to)
      ∙ ap (λ (o : Option Channel). unwrap_or (option_map (is_on_in is_subscribed on) o) false) (changed-own lives x.channels h ch there)
      ∙ is-on is_subscribed on (lives ch) (Live native rights) refl

  now-has : (d : Subscription) → is_to h d ≡ true → stands_in d.stage ≡ true → has_id after on d ≡ true
  now-has d to stands =
      or_right (drains_in on d.stage) (stands_in d.stage && unwrap_or (option_map (is_on_in is_subscribed on) (under after d.channel)) false)
      (and_from (stands_in d.stage) (unwrap_or (option_map (is_on_in is_subscribed on) (under after d.channel)) false) stands (there-now d to))

  named-so : (e : Handle × Subscription) → under x.subscriptions e.0 ≡ Some e.1 → Names SubId (meant_by n.subscriptions) (event_add_of n sid e) e.0
  named-so e is =
      let m = meant e.0 e.1 is in
      let s : Sent = event_add_of n sid e in
      record {
        suits = subst (λ (i : Intent). Suits i s.message) (sym m.2) refl;
        gives = (refl, refl);
        gives_only = λ id given. adds-gives s id refl given;
        concerns_only = λ d id concerns. adds-concerns d s id refl concerns;
        number = m.1;
        is = ap (named (SubId (wire_of e.0))) m.2;
        meant_is = ap (named (SubId (wire_of e.0))) m.2;
      }

  in-es : (i : ℕ) (e : Handle × Subscription) → At es i e → (under x.subscriptions e.0 ≡ Some e.1) × (is_to h e.1 ≡ true) × (stands_in e.1.stage ≡ true)
  in-es i e at =
      let was = at-filter (λ (e : Handle × Subscription). is_to h e.1 && stands_in e.1.stage) (held x.subscriptions) i e at in
      let parts = and_parts (is_to h e.1) (stands_in e.1.stage) was.2 in
      (held-under x.subscriptions was.0 e was.1, parts.0, parts.1)

  es-in : (g : Handle) (d : Subscription) → under x.subscriptions g ≡ Some d → is_to h d ≡ true → stands_in d.stage ≡ true → (i : ℕ) × At es i (g, d)
  es-in g d is to stands =
      let at = under-held x.subscriptions g d is in
      filter-at (λ (e : Handle × Subscription). is_to h e.1 && stands_in e.1.stage) (held x.subscriptions) at.0 (g, d) at.1 (and_from (is_to h d) (stands_in d.stage) to stands)

  apart : AreApart es
  apart = filter-apart (λ (e : Handle × Subscription). is_to h e.1 && stands_in e.1.stage) (held x.subscriptions) (held-apart x.subscriptions)

  abbrev OfSubscriptions : Circuit → Type 0
  OfSubscriptions d = HoldsIdsBy Awaits SubId (marked here es) (meant_by n.subscriptions) x.subscriptions d

  all-named : MaySendAll Awaits c adds × OfSubscriptions (with_all_sent adds c)
  all-named =
      ids-all-named SubId (meant_by n.subscriptions) Awaits sub-is x.subscriptions (event_add_of n sid) es here c apart
      (λ i e at. (let in_it = in-es i e at in (named-so e in_it.0, in_it.0, not-yet e.1 in_it.1 in_it.2))) holds.subscriptions

  -- what an EVENT_ADD neither gives nor concerns
  add-message : (i : ℕ) (s : Sent) → At adds i s → s.message.command ≡ 1
  add-message i s at = (let was = At-mapped (event_add_of n sid) es i s at in ap (λ (z : Sent). z.message.command) was.2)

  channels-sent : HoldsChannels Awaits on (channel_number n) x.channels (with_all_sent adds c)
  channels-sent =
      ids-all-sent Cid _ Awaits (λ (g : Handle). is_on_in is_asked on) x.channels adds c (λ i s at. (
        λ m given. no-cid m s.message.p2 (adds-gives s (Cid m) (add-message i s at) given),
        λ d m concerns. no-cid m s.message.p2 (adds-concerns d s (Cid m) (add-message i s at) concerns),
      )) holds.channels

  requests-sent : HoldsRequests Awaits on (meant_by n.requests) x.requests (with_all_sent adds c)
  requests-sent =
      ids-all-sent Ioid _ Awaits (λ (g : Handle). was_sent_on on) x.requests adds c (λ i s at. (
        λ m given. no-ioid m s.message.p2 (adds-gives s (Ioid m) (add-message i s at) given),
        λ d m concerns. no-ioid m s.message.p2 (adds-concerns d s (Ioid m) (add-message i s at) concerns),
      )) holds.requests

  same-channels : IsAlike (is_on_in is_asked on) (is_on_in is_asked on) x.channels after
  same-channels = changed-alike (is_on_in is_asked on) lives x.channels h ch there (asked ∙ sym (is-on is_asked on (lives ch) (Live native rights) refl))

  -- a channel that passes is another
  other-channel : (w : Channel) (g : Handle) → under x.channels g ≡ Some w → is_on_in is_subscribed on w ≡ true → g ≡ h → ⊥
  other-channel w g is pass same =
      both_ways (is_on_in is_subscribed on ch) header_only
      (subst (λ (z : Channel). is_on_in is_subscribed on z ≡ true) (one-value x.channels h w ch (subst (λ (k : Handle). under x.channels k ≡ Some w) same is) there) pass)

  marked-has : (g : Handle) (d : Subscription) → under x.subscriptions g ≡ Some d → marked here es g d ≡ true → has_id after on d ≡ true
  marked-has g d is pass = elim (marked-back here es g d pass) [
    | inl old ↦ has-too on x.channels after d (λ w is_w passes. (w, changed-other lives x.channels d.channel h w is_w (other-channel w d.channel is_w passes), passes)) old
    | inr new ↦
        let in_it = in-es new.0 new.1 new.2 in
        let same : new.1.1 ≡ d = one-value x.subscriptions g new.1.1 d (subst (λ (k : Handle). under x.subscriptions k ≡ Some new.1.1) (sym new.3) in_it.0) is in
        subst (λ (z : Subscription). has_id after on z ≡ true) same (now-has new.1.1 in_it.1 in_it.2)
  ]

  has-marked : (g : Handle) (d : Subscription) → under x.subscriptions g ≡ Some d → has_id after on d ≡ true → marked here es g d ≡ true
  has-marked g d is pass = elim (or_cases (drains_in on d.stage) (stands_in d.stage && unwrap_or (option_map (is_on_in is_subscribed on) (under after d.channel)) false) pass) [
    | inl drains ↦ marked-old here es g d (or_left (drains_in on d.stage) (stands_in d.stage && unwrap_or (option_map (is_on_in is_subscribed on) (under x.channels d.channel)) false) drains)
    | inr stands ↦
        let parts = and_parts (stands_in d.stage) (unwrap_or (option_map (is_on_in is_subscribed on) (under after d.channel)) false) stands in
        elim (handle-or d.channel h) [
          | inl same ↦
              let to : is_to h d ≡ true = subst (λ (k : Handle). is_to k d ≡ true) same (same-itself d.channel) in
              let at = es-in g d is to parts.0 in
              marked-new here es at.0 (g, d) g d at.1 refl
          | inr other ↦ marked-old here es g d (has-too on after x.channels d (λ w is_w passes. elim (changed-back lives x.channels d.channel h w is_w) [
            | inl own ↦ absurd (other own.0)
            | inr old ↦ (w, old.1, passes)
          ]) pass)
        ]
  ]

  subscriptions-live : HoldsSubscriptions Awaits on (meant_by n.subscriptions) after x.subscriptions (with_all_sent adds c)
  subscriptions-live =
      ids-kept-by SubId (meant_by n.subscriptions) Awaits (marked here es) (λ (g : Handle). has_id after on) x.subscriptions x.subscriptions (with_all_sent adds c) holds.subscriptions.few
      (λ p m pending was. (was.0, was.1, was.2, was.3, marked-has was.0 was.1 was.2 was.4))
      (λ g v is pass. (v, is, has-marked g v is pass)) all-named.1

  pub lives-may : MaySendAll Awaits c adds
  lives-may = all-named.0

  pub lives-holds : (sends : List Sending) → Holds Awaits on n (sending sends (with_standing (On on (Live native rights)) h x)) (with_all_sent adds c)
  lives-holds sends =
      let y : Client = with_standing (On on (Live native rights)) h x in
      holds-alike Awaits on n y (sending sends y) (with_all_sent adds c) (sending-alike on sends y) (record {
        channels = ids-alike Cid _ Awaits (is_on_in is_asked on) (is_on_in is_asked on) x.channels after (with_all_sent adds c) same-channels channels-sent;
        requests = requests-sent;
        subscriptions = subscriptions-live;
      })

-- the same by the channel that the reply found
pub live-heard : (Awaits : ℕ → Type 0) (on : Handle) (n : ClientNames) (x : Client) (c : Circuit) (g : Step) (cid : ℕ) (h : Handle) (sid : ℕ) (native : Native) (rights was : ℕ) → MeanToSubscribe n x.subscriptions → Holds Awaits on n x c → channel_on x on cid ≡ Some (h, Creating was)
    → MaySendAll Awaits (with_heard g c) (map (event_add_of n sid) (standing_to h x.subscriptions))
    × Holds Awaits on n (sending (event_adds on sid h x) (with_standing (On on (Live native rights)) h x)) (with_all_sent (map (event_add_of n sid) (standing_to h x.subscriptions)) (with_heard g c))
live-heard Awaits on n x c g cid h sid native rights was meant holds finds =
    let found = channel-on x on cid h (Creating was) finds in
    let heard : Holds Awaits on n x (with_heard g c) = holds-heard Awaits on n x c g holds in
    let asked : is_on_in is_asked on found.0 ≡ true = is-on is_asked on found.0 (Creating was) found.3 in
    let header_only : is_on_in is_subscribed on found.0 ≡ false = is-on is_subscribed on found.0 (Creating was) found.3 in (
      lives-may Awaits on n x (with_heard g c) h sid native rights found.0 found.1 asked header_only meant heard,
      lives-holds Awaits on n x (with_heard g c) h sid native rights found.0 found.1 asked header_only meant heard (event_adds on sid h x),
    )

-- its caller cleared it meanwhile
pub doomed-heard : (Awaits : ℕ → Type 0) (on : Handle) (n : ClientNames) (x : Client) (c : Circuit) (g : Step) (cid : ℕ) (h : Handle) (sid : ℕ) → Holds Awaits on n x c → channel_on x on cid ≡ Some (h, Doomed)
    → MaySend Awaits (with_heard g c) (clear_of n sid h)
    × Holds Awaits on n (sending (clear_sent on sid h ∷ []) (with_standing (On on Clearing) h x)) (with_sent (clear_of n sid h) (with_heard g c))
doomed-heard Awaits on n x c g cid h sid holds finds =
    let found = channel-on x on cid h Doomed finds in
    let heard : Holds Awaits on n x (with_heard g c) = holds-heard Awaits on n x c g holds in
    let asked : is_on_in is_asked on found.0 ≡ true = is-on is_asked on found.0 Doomed found.3 in
    let header_only : is_on_in is_subscribed on found.0 ≡ false = is-on is_subscribed on found.0 Doomed found.3 in
    let d : Circuit = with_sent (clear_of n sid h) (with_heard g c) in
    let y : Client = with_standing (On on Clearing) h x in
    let gone : Holds Awaits on n x d = clear-gone Awaits on n x (with_heard g c) h sid found.0 found.1 asked heard in (
      clear-goes Awaits on n x (with_heard g c) h sid found.0 found.1 asked heard,
      holds-alike Awaits on n y (sending (clear_sent on sid h ∷ []) y) d (sending-alike on (clear_sent on sid h ∷ []) y)
          (phase-kept Awaits on n x d h found.0 Doomed Clearing found.1 asked header_only refl refl gone),
    )
