-- What a client does with a channel that is not on a circuit, or not live there: the
-- circuit sees no difference.
use Rattle.std.proofs.Common.{◌≡◌, ℕ, ◌⊎◌, inl, inr, Bool, true, false, ◌&&◌, ◌||◌, cond, Option, Some, None, refl, sym, ap, ◌∙◌, subst}
use Rattle.std.specs.Prelude.{◌==◌, length, option_map, unwrap_or}
use Rattle.std.proofs.lemmas.Bool.{both_ways, cases_Bool, or_cases, and_parts}
use Rattle.ca_arena.specs.declared.handle.Handle.{Handle}
use Rattle.ca_ids.specs.Table.{Table, same_handle, under, with_changed}
use Rattle.ca_monitor.specs.Subscriptions.{Stage, Stands, Cancelled, Ended, Subscription, drains_in, is_to, stage_over, stands_in}
use Rattle.ca_monitor.specs.Subscriptions as monitor
use Rattle.ca_requests.specs.Requests.{Draining, Request, asks_on, was_sent_on}
use Rattle.ca_requests.specs.Requests as request
use Rattle.ca_model.specs.Client.{Channel, Client, ClientCircuit, Clearing, Connecting, Creating, Doomed, Leaving, Live, Native, On, Phase, Searching, Standing, channels_on, disconnected, is_on_in, let_go, phase_on, standing_at, with_requests, with_standing, without_channel, without_circuit}
use Rattle.ca_model.specs.ClientCalls.{all_over, cleared, unsubscribed_all, unwanted}
use Rattle.ca_laws_parts.specs.Held.{HoldAlike, IsAlike, has_id, is_asked, is_subscribed}
use Rattle.ca_model.specs.Placed.{Attached, was_live}
use Rattle.ca_laws_parts.proofs.Alike.{alike-itself, all-alike, all-freed-alike, changed-alike, channel-freed, client-itself, client-then, restood, with-others}
use Rattle.ca_model.proofs.Standings.{found-standing, is-on}
use Rattle.ca_model.proofs.Handles.{not-same, same-is, same-itself}
use Rattle.ca_laws_parts.proofs.CircuitHeard.{has-too}
use Rattle.ca_model.proofs.Tables.{changed-back, changed-other, one-value}
use Rattle.ca_model.proofs.Standings.{fails-anywhere, fails-elsewhere, fails-searched}

-- ---- tests of a channel

-- between phases that a test does not tell apart a channel passes as before
pub passes-alike : (test : Phase → Bool) (on o : Handle) (ch : Channel) (p q : Phase) → ch.standing ≡ On o p → test p ≡ test q → is_on_in test on ch ≡ is_on_in test on (record ch { standing = On o q })
passes-alike test on o ch p q stands like =
    ap (λ (s : Standing). unwrap_or (option_map test (phase_on on s)) false) stands ∙ go (same_handle o on)
  where
    go : (b : Bool) → unwrap_or (option_map test (cond b (Some p) None)) false ≡ unwrap_or (option_map test (cond b (Some q) None)) false
    go true = like
    go false = refl

-- ---- circuits that are let go

pub let-go-alike : (on c : Handle) (d : ClientCircuit) (x : Client) → HoldAlike on x (let_go c d x)
let-go-alike on c d x = go d.is_name
  where
    go : (b : Bool) → HoldAlike on x (cond b (disconnected c x) (without_circuit c x))
    go true = (let r = client-itself on x in record { asked = r.asked; requests = r.requests; subscriptions = r.subscriptions })
    go false = (let r = client-itself on x in record { asked = r.asked; requests = r.requests; subscriptions = r.subscriptions })

at-circuit : (on c : Handle) (x : Client) (o : Option ClientCircuit) → HoldAlike on x (unwrap_or (option_map (λ (d : ClientCircuit). let_go c d x) o) x)
at-circuit on c x (Some d) = let-go-alike on c d x
at-circuit on c x None = client-itself on x

pub unwanted-alike : (on c : Handle) (x : Client) → HoldAlike on x (unwanted c x)
unwanted-alike on c x = go (length (channels_on (λ (p : Phase). true) c x) == 0)
  where
    go : (b : Bool) → HoldAlike on x (cond b (unwrap_or (option_map (λ (d : ClientCircuit). let_go c d x) (under x.circuits c)) x) x)
    go true = at-circuit on c x (under x.circuits c)
    go false = client-itself on x

-- ---- a channel is cleared that is not live

-- ids of a channel that was not live drain nowhere, and none is had here
none-had : (on o : Handle) (x : Client) (h : Handle) (ch : Channel) → Attached x → under x.channels h ≡ Some ch → is_on_in is_subscribed on ch ≡ false → is_on_in was_live on ch ≡ false
    → (g : Handle) (v : Subscription) → under x.subscriptions g ≡ Some v → has_id x.channels on v ≡ true → is_to h v ≡ false
none-had on o x h ch attached there header_only never g v is has = elim (cases_Bool (is_to h v)) [
  | inr other ↦ other
  | inl to ↦
      let same : v.channel ≡ h = same-is v.channel h to in
      absurd (elim (or_cases (drains_in on v.stage) (stands_in v.stage && unwrap_or (option_map (is_on_in is_subscribed on) (under x.channels v.channel)) false) has) [
        | inl drains ↦
            let was = attached.subscriptions g v on is drains in
            let ch_is : was.0 ≡ ch = one-value x.channels h was.0 ch (subst (λ (k : Handle). under x.channels k ≡ Some was.0) same was.1) there in
            both_ways (is_on_in was_live on ch) never (subst (λ (z : Channel). is_on_in was_live on z ≡ true) ch_is was.2)
        | inr stands ↦
            let parts = and_parts (stands_in v.stage) (unwrap_or (option_map (is_on_in is_subscribed on) (under x.channels v.channel)) false) stands in
            let none : unwrap_or (option_map (is_on_in is_subscribed on) (under x.channels v.channel)) false ≡ false =
            ap (λ (k : Handle). unwrap_or (option_map (is_on_in is_subscribed on) (under x.channels k)) false) same
            ∙ ap (λ (o : Option Channel). unwrap_or (option_map (is_on_in is_subscribed on) o) false) there ∙ header_only in
            both_ways (unwrap_or (option_map (is_on_in is_subscribed on) (under x.channels v.channel)) false) none parts.1
      ])
]

unsubscribed-alike : (on : Handle) (x : Client) (h : Handle) (ch : Channel) → Attached x → under x.channels h ≡ Some ch → is_on_in is_subscribed on ch ≡ false → is_on_in was_live on ch ≡ false → HoldAlike on x (unsubscribed_all h x)
unsubscribed-alike on x h ch attached there header_only never =
    with-others on x (unsubscribed_all h x) refl (alike-itself (was_sent_on on) x.requests)
    (all-freed-alike (has_id x.channels on) (is_to h) x.subscriptions (none-had on on x h ch attached there header_only never))

-- one that is not on a connected circuit is gone
pub cleared-away : (on : Handle) (x : Client) (h : Handle) (s : Standing) → Attached x → standing_at x h ≡ Some s → (s ≡ Searching) ⊎ ((o : Handle) × (s ≡ On o Connecting)) → HoldAlike on x (cleared h s x)
cleared-away on x h s attached at (inl searched) =
    let found = found-standing x h s at in
    let y : Client = unsubscribed_all h x in
    let is : found.0.standing ≡ Searching = found.2 ∙ searched in
    let gone : HoldAlike on x (without_channel y h) =
    client-then on x y (without_channel y h)
    (unsubscribed-alike on x h found.0 attached found.1 (fails-searched is_subscribed on found.0 is) (fails-searched was_live on found.0 is))
    (channel-freed on y h found.0 found.1 (fails-searched is_asked on found.0 is)) in
    subst (λ (z : Standing). HoldAlike on x (cleared h z x)) (sym searched) gone
cleared-away on x h s attached at (inr waits) =
    let found = found-standing x h s at in
    let y : Client = unsubscribed_all h x in
    let is : found.0.standing ≡ On waits.0 Connecting = found.2 ∙ waits.1 in
    let z : Client = without_channel y h in
    let gone : HoldAlike on x z =
    client-then on x y z
    (unsubscribed-alike on x h found.0 attached found.1 (fails-anywhere is_subscribed on waits.0 found.0 Connecting is refl) (fails-anywhere was_live on waits.0 found.0 Connecting is refl))
    (channel-freed on y h found.0 found.1 (fails-anywhere is_asked on waits.0 found.0 Connecting is refl)) in
    subst (λ (w : Standing). HoldAlike on x (cleared h w x)) (sym waits.1) (client-then on x z (unwanted waits.0 z) gone (unwanted-alike on waits.0 z))

-- one that is being created is doomed: its CID drains
pub cleared-early : (on : Handle) (x : Client) (h o : Handle) (rights : ℕ) → Attached x → standing_at x h ≡ Some (On o (Creating rights)) → HoldAlike on x (cleared h (On o (Creating rights)) x)
cleared-early on x h o rights attached at =
    let found = found-standing x h (On o (Creating rights)) at in
    let y : Client = unsubscribed_all h x in
    client-then on x y (with_standing (On o Doomed) h y)
    (unsubscribed-alike on x h found.0 attached found.1 (fails-anywhere is_subscribed on o found.0 (Creating rights) found.2 refl) (fails-anywhere was_live on o found.0 (Creating rights) found.2 refl))
    (restood on y h (On o Doomed) found.0 found.1 (passes-alike is_asked on o found.0 (Creating rights) Doomed found.2 refl) (passes-alike is_subscribed on o found.0 (Creating rights) Doomed found.2 refl))

-- ---- a channel is cleared, or left, that is live on another circuit

over-alike : (on h : Handle) (x : Client) → IsAlike (was_sent_on on) (was_sent_on on) x.requests (request.channel_over h x.requests)
over-alike on h x = all-alike (was_sent_on on) (was_sent_on on) (request.over_on h) x.requests (λ g r is. stays r)
  where
    stays : (r : Request) → was_sent_on on r ≡ was_sent_on on (request.over_on h r)
    stays r = go (asks_on h r)
      where
        go : (b : Bool) → was_sent_on on r ≡ was_sent_on on (cond b (record r { stage = Draining }) r)
        go true = refl
        go false = refl

-- subscriptions to a channel that is on another circuit are over there
ended-alike : (on o h : Handle) (x : Client) → same_handle o on ≡ false → (ch : Channel) → under x.channels h ≡ Some ch → is_on_in is_subscribed on ch ≡ false
    → IsAlike (has_id x.channels on) (has_id x.channels on) x.subscriptions (monitor.channel_over o h x.subscriptions)
ended-alike on o h x other ch there header_only = all-alike (has_id x.channels on) (has_id x.channels on) (monitor.over_on o h) x.subscriptions (λ g v is. stays v)
  where
    stays : (v : Subscription) → has_id x.channels on v ≡ has_id x.channels on (monitor.over_on o h v)
    stays v = go (is_to h v) refl
      where
        none : is_to h v ≡ true → unwrap_or (option_map (is_on_in is_subscribed on) (under x.channels v.channel)) false ≡ false
        none to =
            ap (λ (k : Handle). unwrap_or (option_map (is_on_in is_subscribed on) (under x.channels k)) false) (same-is v.channel h to)
            ∙ ap (λ (w : Option Channel). unwrap_or (option_map (is_on_in is_subscribed on) w) false) there ∙ header_only

        by : is_to h v ≡ true → (s : Stage) → (drains_in on s || (stands_in s && unwrap_or (option_map (is_on_in is_subscribed on) (under x.channels v.channel)) false))
            ≡ (drains_in on (stage_over o s) || (stands_in (stage_over o s) && unwrap_or (option_map (is_on_in is_subscribed on) (under x.channels v.channel)) false))
        by to Stands = none to ∙ sym (ap (λ (b : Bool). b || false) other)
        by to (Cancelled d) = refl
        by to (Ended d) = refl

        go : (b : Bool) → is_to h v ≡ b → has_id x.channels on v ≡ has_id x.channels on (cond b (record v { stage = stage_over o v.stage }) v)
        go true to = by to v.stage
        go false to = refl

-- it is cleared there
pub cleared-elsewhere : (on : Handle) (x : Client) (h o : Handle) (native : Native) (rights : ℕ) → standing_at x h ≡ Some (On o (Live native rights)) → same_handle o on ≡ false → HoldAlike on x (cleared h (On o (Live native rights)) x)
cleared-elsewhere on x h o native rights at other =
    let found = found-standing x h (On o (Live native rights)) at in
    let header_only : is_on_in is_subscribed on found.0 ≡ false = fails-elsewhere is_subscribed on o found.0 (Live native rights) found.2 other in
    let away : is_on_in is_asked on found.0 ≡ false = fails-elsewhere is_asked on o found.0 (Live native rights) found.2 other in
    let y : Client = all_over o h x in
    client-then on x y (with_standing (On o Clearing) h y)
    (with-others on x y refl (over-alike on h x) (ended-alike on o h x other found.0 found.1 header_only))
    (restood on y h (On o Clearing) found.0 found.1 (away ∙ sym (fails-elsewhere is_asked on o (record found.0 { standing = On o Clearing }) Clearing refl other))
    (header_only ∙ sym (fails-elsewhere is_subscribed on o (record found.0 { standing = On o Clearing }) Clearing refl other)))

-- its record left it there
pub left-elsewhere : (on : Handle) (x : Client) (h o : Handle) (ch : Channel) (p : Phase) → under x.channels h ≡ Some ch → ch.standing ≡ On o p → same_handle o on ≡ false
    → HoldAlike on x (with_standing (On o Leaving) h (with_requests (request.channel_over h x.requests) x))
left-elsewhere on x h o ch p there stands other =
    let y : Client = with_requests (request.channel_over h x.requests) x in
    client-then on x y (with_standing (On o Leaving) h y)
    (with-others on x y refl (over-alike on h x) (alike-itself (has_id x.channels on) x.subscriptions))
    (restood on y h (On o Leaving) ch there (fails-elsewhere is_asked on o ch p stands other ∙ sym (fails-elsewhere is_asked on o (record ch { standing = On o Leaving }) Leaving refl other))
    (fails-elsewhere is_subscribed on o ch p stands other ∙ sym (fails-elsewhere is_subscribed on o (record ch { standing = On o Leaving }) Leaving refl other)))

-- one that its record left is cleared by its caller, whose CLEAR_CHANNEL went out before
module _ (on : Handle) (x : Client) (h : Handle) (ch : Channel) (there : under x.channels h ≡ Some ch) (stands : ch.standing ≡ On on Leaving) where
  abbrev clears : Channel → Channel
  clears here = record here { standing = On on Clearing }

  abbrev after : Table Channel
  after = with_changed clears h x.channels

  live-before : (v : Subscription) → is_to h v ≡ true → unwrap_or (option_map (is_on_in is_subscribed on) (under x.channels v.channel)) false ≡ true
  live-before v to =
      ap (λ (k : Handle). unwrap_or (option_map (is_on_in is_subscribed on) (under x.channels k)) false) (same-is v.channel h to)
      ∙ ap (λ (w : Option Channel). unwrap_or (option_map (is_on_in is_subscribed on) w) false) there ∙ is-on is_subscribed on ch Leaving stands

  other-alike : (v : Subscription) → is_to h v ≡ false → has_id x.channels on v ≡ has_id after on v
  other-alike v other =
      let differs : v.channel ≡ h → ⊥ = not-same v.channel h other in
      elim (cases_Bool (has_id x.channels on v)) [
        | inl is ↦ is ∙ sym (has-too on x.channels after v (λ w is_w pass. (w, changed-other clears x.channels v.channel h w is_w differs, pass)) is)
        | inr none ↦ elim (cases_Bool (has_id after on v)) [
          | inr too ↦ none ∙ sym too
          | inl is ↦ absurd (both_ways (has_id x.channels on v) none (has-too on after x.channels v (λ w is_w pass. elim (changed-back clears x.channels v.channel h w is_w) [
            | inl own ↦ absurd (differs own.0)
            | inr old ↦ (w, old.1, pass)
          ]) is))
        ]
      ]

  stays : (v : Subscription) → has_id x.channels on v ≡ has_id after on (monitor.over_on on h v)
  stays v = go (is_to h v) refl
    where
      by : is_to h v ≡ true → (s : Stage) → (drains_in on s || (stands_in s && unwrap_or (option_map (is_on_in is_subscribed on) (under x.channels v.channel)) false))
          ≡ (drains_in on (stage_over on s) || (stands_in (stage_over on s) && unwrap_or (option_map (is_on_in is_subscribed on) (under after v.channel)) false))
      by to Stands = live-before v to ∙ sym (ap (λ (b : Bool). b || false) (same-itself on))
      by to (Cancelled d) = refl
      by to (Ended d) = refl

      go : (b : Bool) → is_to h v ≡ b → has_id x.channels on v ≡ has_id after on (cond b (record v { stage = stage_over on v.stage }) v)
      go true to = by to v.stage
      go false other = other-alike v other

  pub left-cleared : HoldAlike on x (cleared h (On on Leaving) x)
  left-cleared = record {
    asked = changed-alike (is_on_in is_asked on) clears x.channels h ch there (is-on is_asked on ch Leaving stands ∙ sym (is-on is_asked on (clears ch) Clearing refl));
    requests = over-alike on h x;
    subscriptions = all-alike (has_id x.channels on) (has_id after on) (monitor.over_on on h) x.subscriptions (λ g v is. stays v);
  }

-- and elsewhere
pub left-cleared-elsewhere : (on : Handle) (x : Client) (h o : Handle) → standing_at x h ≡ Some (On o Leaving) → same_handle o on ≡ false → HoldAlike on x (cleared h (On o Leaving) x)
left-cleared-elsewhere on x h o at other =
    let found = found-standing x h (On o Leaving) at in
    let header_only : is_on_in is_subscribed on found.0 ≡ false = fails-elsewhere is_subscribed on o found.0 Leaving found.2 other in
    let away : is_on_in is_asked on found.0 ≡ false = fails-elsewhere is_asked on o found.0 Leaving found.2 other in
    let y : Client = all_over o h x in
    client-then on x y (with_standing (On o Clearing) h y)
    (with-others on x y refl (over-alike on h x) (ended-alike on o h x other found.0 found.1 header_only))
    (restood on y h (On o Clearing) found.0 found.1 (away ∙ sym (fails-elsewhere is_asked on o (record found.0 { standing = On o Clearing }) Clearing refl other))
    (header_only ∙ sym (fails-elsewhere is_subscribed on o (record found.0 { standing = On o Clearing }) Clearing refl other)))

pub cleared-left : (on : Handle) (x : Client) (h o : Handle) → standing_at x h ≡ Some (On o Leaving) → HoldAlike on x (cleared h (On o Leaving) x)
cleared-left on x h o at = elim (cases_Bool (same_handle o on)) [
  | inr other ↦ left-cleared-elsewhere on x h o at other
  | inl same ↦
      let found = found-standing x h (On o Leaving) at in
      subst (λ (k : Handle). HoldAlike k x (cleared h (On o Leaving) x)) (same-is o on same) (left-cleared o x h found.0 found.1 found.2)
]
