-- A caller clears a live channel: its CLEAR_CHANNEL goes out, its CID and the ids of its requests
-- and subscriptions drain.
use Rattle.std.proofs.Common.{◌≡◌, ℕ, ◌<◌, ◌≤◌, inl, inr, Bool, true, false, ◌&&◌, ◌||◌, cond, [], ◌∷◌, ◌++◌, length, Option, Some, None, refl, sym, ap, ◌∙◌, subst, arith}
use Rattle.std.specs.Prelude.{option_map, unwrap_or}
use Rattle.std.proofs.lemmas.Bool.{and_from, and_parts, both_ways, or_cases, or_left, or_right}
use Rattle.std.proofs.lemmas.List.{length-map}
use Rattle.ca_text.specs.Limits.{arena_slots}
use Rattle.ca_text.proofs.Places.{At-last, At-one, At-within}
use Rattle.ca_arena.specs.declared.handle.Handle.{Handle}
use Rattle.ca_ids.specs.Table.{Table, same_handle, under, with_changed}
use Rattle.ca_ids.specs.Wire.{wire_of}
use Rattle.ca_monitor.specs.Subscriptions.{Stage, Stands, Cancelled, Ended, Subscription, drains_in, is_to, stage_over, stands_in}
use Rattle.ca_monitor.specs.Subscriptions as monitor
use Rattle.ca_requests.specs.Requests.{channel_over}
use Rattle.ca_model.specs.Client.{Channel, Client, Clearing, Live, Native, On, is_on_in, sending, standing_at}
use Rattle.ca_model.specs.ClientCalls.{clear_sent, cleared}
use Rattle.ca_model.specs.Speech.{Id, Cid, Ioid, SubId, Gives}
use Rattle.ca_model.specs.History.{Circuit, Sent}
use Rattle.ca_model.specs.ClientEvents.{channel_number, meant_by}
use Rattle.ca_model.specs.World.{Names}
use Rattle.ca_laws_parts.specs.Flows.{Concerns, MaySend, MeansOwn, with_sent}
use Rattle.ca_laws_parts.specs.Held.{clear_of, Holds, HoldsChannels, HoldsRequests, HoldsSubscriptions, has_id, is_asked, is_subscribed}
use Rattle.ca_laws_parts.proofs.Flows.{given-sent}
use Rattle.ca_model.proofs.Handles.{handle-or, same-is, same-itself}
use Rattle.ca_laws_parts.proofs.Held.{ids-kept, ids-sent}
use Rattle.ca_laws_parts.proofs.Requests.{requests-over, requests-sent}
use Rattle.ca_model.proofs.Tables.{all-back, all-there, changed-back, changed-few, changed-other, changed-own}
use Rattle.ca_model.proofs.Standings.{found-standing, is-on}

-- ---- the channel

pub gives-none : (n : Names) (sid : ℕ) (h : Handle) (id : Id) → Gives (clear_of n sid h).message id → ⊥
gives-none n sid h (Cid m) g = (let e : ◌≡◌ {A = ℕ} 12 18 = g.0 in omega (arith, e))
gives-none n sid h (Ioid m) g = elim g.0 [
  | inl e ↦ (let f : ◌≡◌ {A = ℕ} 12 15 = e in omega (arith, f))
  | inr e ↦ (let f : ◌≡◌ {A = ℕ} 12 19 = e in omega (arith, f))
]
gives-none n sid h (SubId m) g = (let e : ◌≡◌ {A = ℕ} 12 1 = g.0 in omega (arith, e))

-- it concerns its CID alone
pub concerns-cid : (n : Names) (sid : ℕ) (h : Handle) (c : Circuit) (id : Id) → Concerns (c.up ++ clear_of n sid h ∷ []) (length c.up) id → id ≡ Cid (wire_of h)
concerns-cid n sid h c id concerns =
    let s : Sent = clear_of n sid h in
    let same : concerns.0 ≡ s = At-one (c.up ++ s ∷ []) (length c.up) concerns.0 s concerns.1 (At-last c.up s) in
    elim concerns.2 [
      | inl gives ↦ absurd (gives-none n sid h id (subst (λ (x : Sent). Gives x.message id) same gives))
      | inr (inl clears) ↦ clears.1 ∙ ap (λ (x : Sent). Cid x.message.p2) same
      | inr (inr (inl cancels)) ↦ (let e : ◌≡◌ {A = ℕ} 12 2 = sym (ap (λ (x : Sent). x.message.command) same) ∙ cancels.0 in absurd (omega (arith, e)))
      | inr (inr (inr writes)) ↦ (let e : ◌≡◌ {A = ℕ} 12 4 = sym (ap (λ (x : Sent). x.message.command) same) ∙ writes.0 in absurd (omega (arith, e)))
    ]

cid-is : (a b : ℕ) → Cid a ≡ Cid b → a ≡ b
cid-is a b e = cc

-- ---- its subscriptions

-- the tests of a channel that another table has under the handle too
passes : (on : Handle) (t u : Table Channel) (g : Handle) → ((w : Channel) → under t g ≡ Some w → under u g ≡ Some w)
    → unwrap_or (option_map (is_on_in is_subscribed on) (under t g)) false ≡ true → unwrap_or (option_map (is_on_in is_subscribed on) (under u g)) false ≡ true
passes on t u g same is = go (under t g) refl is
  where
    go : (o : Option Channel) → under t g ≡ o → unwrap_or (option_map (is_on_in is_subscribed on) o) false ≡ true → unwrap_or (option_map (is_on_in is_subscribed on) (under u g)) false ≡ true
    go (Some w) there f = ap (λ (o : Option Channel). unwrap_or (option_map (is_on_in is_subscribed on) o) false) (same w there) ∙ f
    go None there f = absurd (both_ways false refl f)

-- a subscription to another channel has its id as before
other-has : (on : Handle) (t u : Table Channel) (d : Subscription) → ((w : Channel) → under t d.channel ≡ Some w → under u d.channel ≡ Some w) → has_id t on d ≡ true → has_id u on d ≡ true
other-has on t u d same is =
    elim (or_cases (drains_in on d.stage) (stands_in d.stage && unwrap_or (option_map (is_on_in is_subscribed on) (under t d.channel)) false) is) [
      | inl drains ↦ or_left (drains_in on d.stage) (stands_in d.stage && unwrap_or (option_map (is_on_in is_subscribed on) (under u d.channel)) false) drains
      | inr stands ↦
          let parts = and_parts (stands_in d.stage) (unwrap_or (option_map (is_on_in is_subscribed on) (under t d.channel)) false) stands in
          or_right (drains_in on d.stage) (stands_in d.stage && unwrap_or (option_map (is_on_in is_subscribed on) (under u d.channel)) false)
          (and_from (stands_in d.stage) (unwrap_or (option_map (is_on_in is_subscribed on) (under u d.channel)) false) parts.0 (passes on t u d.channel same parts.1))
    ]

-- once it is over, its id drains
over-has : (on : Handle) (t u : Table Channel) (d : Subscription) → has_id t on d ≡ true → (stage : Stage) → d.stage ≡ stage → has_id u on (record d { stage = stage_over on stage }) ≡ true
over-has on t u d is Stands e = or_left (same_handle on on) (false && unwrap_or (option_map (is_on_in is_subscribed on) (under u d.channel)) false) (same-itself on)
over-has on t u d is (Cancelled o) e = keeps (subst (λ (s : Stage). (drains_in on s || (stands_in s && unwrap_or (option_map (is_on_in is_subscribed on) (under t d.channel)) false)) ≡ true) e is)
  where
    keeps : (same_handle o on || false) ≡ true → (same_handle o on || false) ≡ true
    keeps f = f
over-has on t u d is (Ended o) e = keeps (subst (λ (s : Stage). (drains_in on s || (stands_in s && unwrap_or (option_map (is_on_in is_subscribed on) (under t d.channel)) false)) ≡ true) e is)
  where
    keeps : (same_handle o on || false) ≡ true → (same_handle o on || false) ≡ true
    keeps f = f

-- and it had it before, where its channel was live
over-had : (on : Handle) (t u : Table Channel) (d : Subscription) → unwrap_or (option_map (is_on_in is_subscribed on) (under t d.channel)) false ≡ true → (stage : Stage) → d.stage ≡ stage
    → has_id u on (record d { stage = stage_over on stage }) ≡ true → has_id t on d ≡ true
over-had on t u d live Stands e is =
    subst (λ (s : Stage). (drains_in on s || (stands_in s && unwrap_or (option_map (is_on_in is_subscribed on) (under t d.channel)) false)) ≡ true) (sym e) live
over-had on t u d live (Cancelled o) e is =
    subst (λ (s : Stage). (drains_in on s || (stands_in s && unwrap_or (option_map (is_on_in is_subscribed on) (under t d.channel)) false)) ≡ true) (sym e) is
over-had on t u d live (Ended o) e is =
    subst (λ (s : Stage). (drains_in on s || (stands_in s && unwrap_or (option_map (is_on_in is_subscribed on) (under t d.channel)) false)) ≡ true) (sym e) is

-- ---- a CLEAR_CHANNEL goes out, of a channel whose CREATE_CHAN went out

module _ (Awaits : ℕ → Type 0) (on : Handle) (n : Names) (x : Client) (c : Circuit) (h : Handle) (sid : ℕ) (ch : Channel) (there : under x.channels h ≡ Some ch) (asked : is_on_in is_asked on ch ≡ true) (holds : Holds Awaits on n x c) where
  abbrev clearing-it : Sent
  clearing-it = clear_of n sid h

  no-ioid : (m : ℕ) → Ioid m ≡ Cid (wire_of h) → ⊥
  no-ioid m e = cc

  no-sub : (m : ℕ) → SubId m ≡ Cid (wire_of h) → ⊥
  no-sub m e = cc

  pub clear-goes : MaySend Awaits c clearing-it
  clear-goes = record {
    suits = refl;
    fresh = λ p id gives pending. gives-none n sid h id gives;
    means = λ id concerns.
        let is : id ≡ Cid (wire_of h) = concerns-cid n sid h c id concerns in
        let m = holds.channels.own h ch there asked in
        let k : m.0 < length c.up = At-within c.up m.0 m.2.0 m.2.1 in
        subst (λ (y : Id). MeansOwn (c.up ++ clearing-it ∷ []) (length c.up) y) (sym is)
        (m.0, m.1, clearing-it, given-sent c.up clearing-it (Cid (wire_of h)) m.0 m.1 (gives-none n sid h (Cid (wire_of h))) m.2, omega (arith, k), At-last c.up clearing-it, m.3);
  }

  pub clear-gone : Holds Awaits on n x (with_sent clearing-it c)
  clear-gone = record {
    channels =
        ids-sent Cid _ Awaits (is_on_in is_asked on) x.channels c clearing-it (λ m. gives-none n sid h (Cid m))
        (λ m concerns. (h, ch, there, sym (cid-is m (wire_of h) (concerns-cid n sid h c (Cid m) concerns)), asked)) holds.channels;
    requests = requests-sent on _ Awaits x.requests c clearing-it (λ m. gives-none n sid h (Ioid m)) holds.requests;
    subscriptions =
        ids-sent SubId _ Awaits (has_id x.channels on) x.subscriptions c clearing-it (λ m. gives-none n sid h (SubId m))
        (λ m concerns. absurd (no-sub m (concerns-cid n sid h c (SubId m) concerns))) holds.subscriptions;
  }

-- ---- all that is held

module _ (Awaits : ℕ → Type 0) (on : Handle) (n : Names) (x : Client) (c : Circuit) (h : Handle) (native : Native) (rights : ℕ) (ch : Channel) (there : under x.channels h ≡ Some ch) (stands : ch.standing ≡ On on (Live native rights)) (holds : Holds Awaits on n x c) where
  abbrev stamped : Sent
  stamped = clear_of n native.sid h

  abbrev clearing : Channel → Channel
  clearing here = record here { standing = On on Clearing }

  abbrev after : Table Channel
  after = with_changed clearing h x.channels

  pub is-asked : is_on_in is_asked on ch ≡ true
  is-asked = is-on is_asked on ch (Live native rights) stands

  went : Holds Awaits on n x (with_sent stamped c)
  went = clear-gone Awaits on n x c h native.sid ch there is-asked holds

  pub channels-sent : HoldsChannels Awaits on (channel_number n) x.channels (with_sent stamped c)
  channels-sent = went.channels

  channels-cleared : HoldsChannels Awaits on (channel_number n) after (with_sent stamped c)
  channels-cleared =
      ids-kept Cid _ Awaits (is_on_in is_asked on) (is_on_in is_asked on) x.channels after (with_sent stamped c)
      (let e : length after ≡ length x.channels = changed-few clearing x.channels h in let l : length x.channels ≤ arena_slots = holds.channels.few in omega (arith, e, l))
      (λ p m pending was. elim (handle-or was.0 h) [
        | inl same ↦ (h, clearing ch, changed-own clearing x.channels h ch there, sym (ap (λ (g : Handle). wire_of g) same) ∙ was.3, is-on is_asked on (clearing ch) Clearing refl)
        | inr other ↦ (was.0, was.1, changed-other clearing x.channels was.0 h was.1 was.2 other, was.3, was.4)
      ])
      (λ g v is yes_it. elim (changed-back clearing x.channels g h v is) [
        | inl own ↦ (ch, subst (λ (k : Handle). under x.channels k ≡ Some ch) (sym own.0) there, is-asked)
        | inr other ↦ (v, other.1, yes_it)
      ])
      channels-sent

  pub requests-cleared : HoldsRequests Awaits on (meant_by n.requests) (channel_over h x.requests) (with_sent stamped c)
  requests-cleared =
      requests-over on _ Awaits h x.requests (with_sent stamped c)
      went.requests

  -- the channel is live in the table before
  live-there : (d : Subscription) → d.channel ≡ h → unwrap_or (option_map (is_on_in is_subscribed on) (under x.channels d.channel)) false ≡ true
  live-there d same =
      ap (λ (g : Handle). unwrap_or (option_map (is_on_in is_subscribed on) (under x.channels g)) false) same
      ∙ ap (λ (o : Option Channel). unwrap_or (option_map (is_on_in is_subscribed on) o) false) there
      ∙ is-on is_subscribed on ch (Live native rights) stands

  subscription-kept : (d : Subscription) → has_id x.channels on d ≡ true → has_id after on (monitor.over_on on h d) ≡ true
  subscription-kept d is = go (is_to h d) refl
    where
      go : (b : Bool) → is_to h d ≡ b → has_id after on (cond b (record d { stage = stage_over on d.stage }) d) ≡ true
      go true to = over-has on x.channels after d is d.stage refl
      go false to =
          let other : d.channel ≡ h → ⊥ = λ e. both_ways (is_to h d) to (subst (λ (g : Handle). same_handle d.channel g ≡ true) e (same-itself d.channel)) in
          other-has on x.channels after d (λ w is_w. changed-other clearing x.channels d.channel h w is_w other) is

  subscription-back : (d : Subscription) → has_id after on (monitor.over_on on h d) ≡ true → has_id x.channels on d ≡ true
  subscription-back d is = go (is_to h d) refl is
    where
      go : (b : Bool) → is_to h d ≡ b → has_id after on (cond b (record d { stage = stage_over on d.stage }) d) ≡ true → has_id x.channels on d ≡ true
      go true to f = over-had on x.channels after d (live-there d (same-is d.channel h to)) d.stage refl f
      go false to f =
          other-has on after x.channels d (λ w is_w. elim (changed-back clearing x.channels d.channel h w is_w) [
            | inl own ↦ absurd (both_ways (is_to h d) to (subst (λ (g : Handle). same_handle d.channel g ≡ true) own.0 (same-itself d.channel)))
            | inr old ↦ old.1
          ]) f

  pub subscriptions-sent : HoldsSubscriptions Awaits on (meant_by n.subscriptions) x.channels x.subscriptions (with_sent stamped c)
  subscriptions-sent = went.subscriptions

  subscriptions-cleared : HoldsSubscriptions Awaits on (meant_by n.subscriptions) after (monitor.channel_over on h x.subscriptions) (with_sent stamped c)
  subscriptions-cleared =
      ids-kept SubId _ Awaits (has_id x.channels on) (has_id after on) x.subscriptions (monitor.channel_over on h x.subscriptions) (with_sent stamped c)
      (let e : length (monitor.channel_over on h x.subscriptions) ≡ length x.subscriptions = length-map x.subscriptions _ in let l : length x.subscriptions ≤ arena_slots = holds.subscriptions.few in omega (arith, e, l))
      (λ p m pending was. (was.0, monitor.over_on on h was.1, all-there (monitor.over_on on h) x.subscriptions was.0 was.1 was.2, was.3, subscription-kept was.1 was.4))
      (λ g v is yes_it.
      let was = all-back (monitor.over_on on h) x.subscriptions g v is in
      (was.0, was.1, subscription-back was.0 (subst (λ (d : Subscription). has_id after on d ≡ true) was.2 yes_it)))
      subscriptions-sent

  pub clear-holds : Holds Awaits on n (sending (clear_sent on native.sid h ∷ []) (cleared h (On on (Live native rights)) x)) (with_sent stamped c)
  clear-holds = record { channels = channels-cleared; requests = requests-cleared; subscriptions = subscriptions-cleared }

  pub clear-may-be-sent : MaySend Awaits c stamped
  clear-may-be-sent = clear-goes Awaits on n x c h native.sid ch there is-asked holds

-- the same by the standing that the call found
pub clears : (Awaits : ℕ → Type 0) (on : Handle) (n : Names) (x : Client) (c : Circuit) (h : Handle) (native : Native) (rights : ℕ) → standing_at x h ≡ Some (On on (Live native rights)) → Holds Awaits on n x c
    → MaySend Awaits c (clear_of n native.sid h) × Holds Awaits on n (sending (clear_sent on native.sid h ∷ []) (cleared h (On on (Live native rights)) x)) (with_sent (clear_of n native.sid h) c)
clears Awaits on n x c h native rights is holds =
    let found = found-standing x h (On on (Live native rights)) is in
    (clear-may-be-sent Awaits on n x c h native rights found.0 found.1 found.2 holds, clear-holds Awaits on n x c h native rights found.0 found.1 found.2 holds)
