-- What a client reads: the reply to a request, and that a channel's record was removed.
use Rattle.std.proofs.Common.{◌≡◌, ℕ, ◌≤◌, ◌⊎◌, inl, inr, Bool, true, false, ◌&&◌, cond, eqb, [], ◌∷◌, length, Option, Some, None, refl, sym, ap, ◌∙◌, subst, arith}
use Rattle.std.specs.Prelude.{option_and_then, option_map, unwrap_or}
use Rattle.std.proofs.lemmas.Bool.{and_from, and_parts, both_ways, eqb-true, or_cases, or_left, or_right}
use Rattle.ca_text.specs.Command.{command_number}
use Rattle.ca_text.specs.declared.command.Command.TheVariants as command
use Rattle.ca_text.specs.Limits.{arena_slots}
use Rattle.ca_text.specs.Place.{At}
use Rattle.ca_text.proofs.Places.{some_is, At-one}
use Rattle.ca_arena.specs.declared.handle.Handle.{Handle}
use Rattle.ca_ids.specs.Table.{Table, by_wire, under, with_changed}
use Rattle.ca_ids.specs.Wire.{wire_of}
use Rattle.ca_wire.specs.Fields.{Fields}
use Rattle.ca_monitor.specs.Subscriptions.{Subscription, drains_in, stands_in}
use Rattle.ca_requests.specs.Requests.{Request, answered_by, channel_over, command_of, was_sent_on}
use Rattle.ca_model.specs.Client.{Channel, Client, Leaving, Live, Native, On, channel_on, is_on_in, sending, with_requests, with_standing}
use Rattle.ca_model.specs.ClientCalls.{clear_sent}
use Rattle.ca_model.specs.Hears.{without_request}
use Rattle.ca_model.specs.Speech.{Cid, Ioid, SubId, Gives, Is, Speaks}
use Rattle.ca_model.specs.History.{Circuit, Intent, Reply, Sent, Step, Told}
use Rattle.ca_model.specs.History as history
use Rattle.ca_model.specs.Channels.{Suits, named}
use Rattle.ca_model.specs.ClientEvents.{channel_number, meant_by}
use Rattle.ca_model.specs.World.{Names}
use Rattle.ca_laws_parts.specs.Flows.{Flows, IsLast, MaySend, with_heard, with_sent}
use Rattle.ca_laws_parts.specs.Held.{Holds, HoldsChannels, HoldsSubscriptions, clear_of, has_id, is_asked, is_subscribed}
use Rattle.ca_laws_parts.proofs.Clears.{channels-sent, clear-may-be-sent, requests-cleared, subscriptions-sent}
use Rattle.ca_model.proofs.Standings.{is-on}
use Rattle.ca_model.proofs.Handles.{handle-or}
use Rattle.ca_laws_parts.proofs.Held.{ids-heard, ids-kept}
use Rattle.ca_laws_parts.proofs.Requests.{requests-replied}
use Rattle.ca_laws_parts.proofs.Settled.{ioid-gives, read-means}
use Rattle.ca_model.proofs.Tables.{changed-back, changed-few, changed-other, changed-own, wire-under}
use Rattle.ca_model.proofs.Standings.{channel-on}

-- a message was read: what is held stays so
pub holds-heard : (Awaits : ℕ → Type 0) (on : Handle) (n : Names) (x : Client) (c : Circuit) (g : Step) → Holds Awaits on n x c → Holds Awaits on n x (with_heard g c)
holds-heard Awaits on n x c g h = record {
  channels = ids-heard Cid _ Awaits (is_on_in is_asked on) x.channels c g h.channels;
  requests = ids-heard Ioid _ Awaits (was_sent_on on) x.requests c g h.requests;
  subscriptions = ids-heard SubId _ Awaits (has_id x.channels on) x.subscriptions c g h.subscriptions;
}

-- ---- the reply to a request

-- a reply to a read or to a put is the last about it
asks-last : (intent : Intent) (m q : Fields) → Suits intent m → (m.command ≡ 15) ⊎ (m.command ≡ 19) → IsLast q intent
asks-last (history.On a history.Create) m q suits is = absurd (elim is [
  | inl e ↦ (let f : ◌≡◌ {A = ℕ} 18 15 = sym suits ∙ e in omega (arith, f))
  | inr e ↦ (let f : ◌≡◌ {A = ℕ} 18 19 = sym suits ∙ e in omega (arith, f))
])
asks-last (history.On a history.Clear) m q suits is = tt
asks-last (history.On a (history.Request kind n)) m q suits is = tt
asks-last (history.On a (history.Subscribe n)) m q suits is = tt
asks-last (history.On a (history.Cancel n)) m q suits is = tt
asks-last history.OfCircuit m q suits is = tt

-- what a reply finds was sent on its circuit, and has its IOID
pub answered-is : (on : Handle) (command ioid : ℕ) (t : Table Request) (q : Handle) (r : Request) → answered_by on command ioid t ≡ Some (q, r) → (under t q ≡ Some r) × (wire_of q ≡ ioid) × (was_sent_on on r ≡ true) × (command_number (command_of r.asked) ≡ command)
answered-is on command ioid t q r is = go (by_wire t ioid) refl is
  where
    go : (o : Option (Handle × Request)) → by_wire t ioid ≡ o
        → option_and_then (λ (e : Handle × Request). cond (was_sent_on on e.1 && eqb (command_number (command_of e.1.asked)) command) (Some e) None) o ≡ Some (q, r)
        → (under t q ≡ Some r) × (wire_of q ≡ ioid) × (was_sent_on on r ≡ true) × (command_number (command_of r.asked) ≡ command)
    go None found h = absurd cc
    go (Some e) found h = by (was_sent_on on e.1 && eqb (command_number (command_of e.1.asked)) command) refl h
      where
        by : (b : Bool) → (was_sent_on on e.1 && eqb (command_number (command_of e.1.asked)) command) ≡ b → cond b (Some e) None ≡ Some (q, r) → (under t q ≡ Some r) × (wire_of q ≡ ioid) × (was_sent_on on r ≡ true) × (command_number (command_of r.asked) ≡ command)
        by true is_it f =
            let same : e ≡ (q, r) = some_is e (q, r) f in
            let there = wire-under t ioid e found in
            let parts = and_parts (was_sent_on on e.1) (eqb (command_number (command_of e.1.asked)) command) is_it in
            subst (λ (x : Handle × Request). (under t x.0 ≡ Some x.1) × (wire_of x.0 ≡ ioid) × (was_sent_on on x.1 ≡ true) × (command_number (command_of x.1.asked) ≡ command)) same
            (there.0, there.1, parts.0, eqb-true (command_number (command_of e.1.asked)) command parts.1)
        by false is_it f = absurd cc

-- A reply or an ERROR that finds a request is about what was meant by it, and frees its IOID.
pub request-over : (Awaits : ℕ → Type 0) (on : Handle) (n : Names) (x : Client) (c : Circuit) (g : Step) (t : Told) (s : Sent) (q : Handle) (r : Request) (command_read ioid : ℕ) → Flows Awaits c → Holds Awaits on n x c
    → At c.down (length c.heard) t → t.cause ≡ Reply → Speaks t.message (Ioid ioid) → At c.up t.place s → answered_by on command_read ioid x.requests ≡ Some (q, r)
    → Holds Awaits on n (without_request q x) (with_heard g c) × (named (Ioid (wire_of q)) s.intent ≡ named (Ioid (wire_of q)) (meant_by n.requests q))
request-over Awaits on n x c g t s q r command_read ioid f h at cause spoken there finds =
    let found = answered-is on command_read ioid x.requests q r finds in
    let speaks : Speaks t.message (Ioid (wire_of q)) = subst (λ (k : ℕ). Speaks t.message (Ioid k)) (sym found.1) spoken in
    let gave = ioid-gives c.up t.place (wire_of q) (f.concerns (length c.heard) t (Ioid (wire_of q)) at speaks) in
    let same : gave.0 ≡ s = At-one c.up t.place gave.0 s gave.1 there in
    let gives : Gives s.message (Ioid (wire_of q)) = subst (λ (z : Sent). Gives z.message (Ioid (wire_of q))) same gave.2 in
    let final : IsLast t.message s.intent = asks-last s.intent s.message t.message (f.asked t.place s there) gives.0 in
    let own = h.requests.own q r found.0 found.2 in
    let means = read-means Awaits c t (Ioid (wire_of q)) own.0 own.1 f at speaks own.2 in
    let one : means.0 ≡ s = At-one c.up t.place means.0 s means.1 there in (
      record {
        channels = ids-heard Cid _ Awaits (is_on_in is_asked on) x.channels c g h.channels;
        requests = requests-replied on (meant_by n.requests) Awaits x.requests c g t s q f at cause there final speaks h.requests;
        subscriptions = ids-heard SubId _ Awaits (has_id x.channels on) x.subscriptions c g h.subscriptions;
      },
      sym (ap (λ (z : Sent). named (Ioid (wire_of q)) z.intent) one) ∙ means.2 ∙ sym own.3,
    )

pub reply-heard : (Awaits : ℕ → Type 0) (on : Handle) (n : Names) (x : Client) (c : Circuit) (g : Step) (t : Told) (s : Sent) (q : Handle) (r : Request) → Flows Awaits c → Holds Awaits on n x c
    → At c.down (length c.heard) t → t.cause ≡ Reply → Is command.ReadNotify t.message ⊎ Is command.WriteNotify t.message → At c.up t.place s → answered_by on t.message.command t.message.p2 x.requests ≡ Some (q, r)
    → Holds Awaits on n (without_request q x) (with_heard g c) × (named (Ioid (wire_of q)) s.intent ≡ named (Ioid (wire_of q)) (meant_by n.requests q))
reply-heard Awaits on n x c g t s q r f h at cause is there finds =
    request-over Awaits on n x c g t s q r t.message.command t.message.p2 f h at cause (inl (is, refl)) there finds

-- ---- a channel's record was removed

-- a subscription has its id if its channel passes in the other table too
pub has-too : (on : Handle) (t u : Table Channel) (d : Subscription) → ((w : Channel) → under t d.channel ≡ Some w → is_on_in is_subscribed on w ≡ true → (v : Channel) × (under u d.channel ≡ Some v) × (is_on_in is_subscribed on v ≡ true))
    → has_id t on d ≡ true → has_id u on d ≡ true
has-too on t u d too is =
    elim (or_cases (drains_in on d.stage) (stands_in d.stage && unwrap_or (option_map (is_on_in is_subscribed on) (under t d.channel)) false) is) [
      | inl drains ↦ or_left (drains_in on d.stage) (stands_in d.stage && unwrap_or (option_map (is_on_in is_subscribed on) (under u d.channel)) false) drains
      | inr stands ↦
          let parts = and_parts (stands_in d.stage) (unwrap_or (option_map (is_on_in is_subscribed on) (under t d.channel)) false) stands in
          or_right (drains_in on d.stage) (stands_in d.stage && unwrap_or (option_map (is_on_in is_subscribed on) (under u d.channel)) false)
          (and_from (stands_in d.stage) (unwrap_or (option_map (is_on_in is_subscribed on) (under u d.channel)) false) parts.0 (go (under t d.channel) refl parts.1))
    ]
  where
    go : (o : Option Channel) → under t d.channel ≡ o → unwrap_or (option_map (is_on_in is_subscribed on) o) false ≡ true → unwrap_or (option_map (is_on_in is_subscribed on) (under u d.channel)) false ≡ true
    go (Some w) there f =
        let r = too w there f in
        ap (λ (o : Option Channel). unwrap_or (option_map (is_on_in is_subscribed on) o) false) r.1 ∙ r.2
    go None there f = absurd (both_ways false refl f)

module _ (Awaits : ℕ → Type 0) (on : Handle) (n : Names) (x : Client) (c : Circuit) (h : Handle) (native : Native) (rights : ℕ) (ch : Channel) (there : under x.channels h ≡ Some ch) (stands : ch.standing ≡ On on (Live native rights)) (holds : Holds Awaits on n x c) where
  abbrev leaving : Channel → Channel
  leaving here = record here { standing = On on Leaving }

  abbrev after : Table Channel
  after = with_changed leaving h x.channels

  abbrev stamped : Sent
  stamped = clear_of n native.sid h

  channels-left : HoldsChannels Awaits on (channel_number n) after (with_sent stamped c)
  channels-left =
      ids-kept Cid _ Awaits (is_on_in is_asked on) (is_on_in is_asked on) x.channels after (with_sent stamped c)
      (let e : length after ≡ length x.channels = changed-few leaving x.channels h in let l : length x.channels ≤ arena_slots = holds.channels.few in omega (arith, e, l))
      (λ p m pending was. elim (handle-or was.0 h) [
        | inl same ↦ (h, leaving ch, changed-own leaving x.channels h ch there, sym (ap (λ (g : Handle). wire_of g) same) ∙ was.3, is-on is_asked on (leaving ch) Leaving refl)
        | inr other ↦ (was.0, was.1, changed-other leaving x.channels was.0 h was.1 was.2 other, was.3, was.4)
      ])
      (λ g v is yes_it. elim (changed-back leaving x.channels g h v is) [
        | inl own ↦ (ch, subst (λ (k : Handle). under x.channels k ≡ Some ch) (sym own.0) there, is-on is_asked on ch (Live native rights) stands)
        | inr other ↦ (v, other.1, yes_it)
      ])
      (channels-sent Awaits on n x c h native rights ch there stands holds)

  subscriptions-left : HoldsSubscriptions Awaits on (meant_by n.subscriptions) after x.subscriptions (with_sent stamped c)
  subscriptions-left =
      ids-kept SubId _ Awaits (has_id x.channels on) (has_id after on) x.subscriptions x.subscriptions (with_sent stamped c) holds.subscriptions.few
      (λ p m pending was. (
        was.0,
        was.1,
        was.2,
        was.3,
        has-too on x.channels after was.1 (λ w is yes_it. elim (handle-or was.1.channel h) [
          | inl same ↦ (leaving ch, subst (λ (k : Handle). under after k ≡ Some (leaving ch)) (sym same) (changed-own leaving x.channels h ch there), is-on is_subscribed on (leaving ch) Leaving refl)
          | inr other ↦ (w, changed-other leaving x.channels was.1.channel h w is other, yes_it)
        ]) was.4,
      ))
      (λ g v is yes_it. (
        v,
        is,
        has-too on after x.channels v (λ w is_w pass. elim (changed-back leaving x.channels v.channel h w is_w) [
          | inl own ↦ (ch, subst (λ (k : Handle). under x.channels k ≡ Some ch) (sym own.0) there, is-on is_subscribed on ch (Live native rights) stands)
          | inr old ↦ (w, old.1, pass)
        ]) yes_it,
      ))
      (subscriptions-sent Awaits on n x c h native rights ch there stands holds)

  -- Its channel leaves, its requests drain, and its CLEAR_CHANNEL goes out.
  pub left-holds : Holds Awaits on n (sending (clear_sent on native.sid h ∷ []) (with_standing (On on Leaving) h (with_requests (channel_over h x.requests) x))) (with_sent stamped c)
  left-holds = record {
    channels = channels-left;
    requests = requests-cleared Awaits on n x c h native rights ch there stands holds;
    subscriptions = subscriptions-left;
  }

-- a SERVER_DISCONN that finds a live channel
pub removal-heard : (Awaits : ℕ → Type 0) (on : Handle) (n : Names) (x : Client) (c : Circuit) (g : Step) (cid : ℕ) (h : Handle) (native : Native) (rights : ℕ) → Holds Awaits on n x c → channel_on x on cid ≡ Some (h, Live native rights)
    → MaySend Awaits (with_heard g c) (clear_of n native.sid h)
    × Holds Awaits on n (sending (clear_sent on native.sid h ∷ []) (with_standing (On on Leaving) h (with_requests (channel_over h x.requests) x))) (with_sent (clear_of n native.sid h) (with_heard g c))
removal-heard Awaits on n x c g cid h native rights holds finds =
    let found = channel-on x on cid h (Live native rights) finds in
    let heard : Holds Awaits on n x (with_heard g c) = holds-heard Awaits on n x c g holds in (
      clear-may-be-sent Awaits on n x (with_heard g c) h native rights found.0 found.1 found.3 heard,
      left-holds Awaits on n x (with_heard g c) h native rights found.0 found.1 found.3 heard,
    )
