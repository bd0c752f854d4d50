-- A caller subscribes on a live channel, or ends a subscription there: its EVENT_ADD or
-- EVENT_CANCEL goes out.
use Rattle.std.proofs.Common.{◌≡◌, ℕ, ◌<◌, ◌≤◌, inl, inr, Bool, true, false, ◌&&◌, ◌||◌, [], ◌∷◌, ◌++◌, length, Option, Some, refl, sym, ap, ◌∙◌, subst, arith}
use Rattle.std.specs.Prelude.{option_map, unwrap_or}
use Rattle.ca_text.specs.declared.command.Command.TheVariants as command
use Rattle.ca_text.specs.Limits.{arena_slots}
use Rattle.ca_text.proofs.Places.{At-last, At-one, At-within}
use Rattle.ca_arena.specs.declared.handle.Handle.{Handle}
use Rattle.ca_ids.specs.Table.{MayGive, under, with_held}
use Rattle.ca_ids.specs.Wire.{wire_of}
use Rattle.ca_monitor.specs.Subscriptions.{Cancelled, Subscription, with_stage}
use Rattle.ca_requests.specs.Requests.{was_sent_on}
use Rattle.ca_model.specs.Answers.{Sending}
use Rattle.ca_model.specs.Client.{Channel, Client, is_on_in, sending}
use Rattle.ca_model.specs.ClientCalls.{Shape, new_subscription}
use Rattle.ca_model.specs.Speech.{Id, Cid, Ioid, SubId, Gives, Is}
use Rattle.ca_model.specs.History.{Circuit, Intent, Sent}
use Rattle.ca_model.specs.History as history
use Rattle.ca_model.specs.Channels.{Suits, named}
use Rattle.ca_model.specs.ClientEvents.{cancelled, meant_by}
use Rattle.ca_model.specs.World.{Names}
use Rattle.ca_laws_parts.specs.Flows.{Concerns, IsPending, MaySend, MeansOwn, with_sent}
use Rattle.ca_laws_parts.specs.Held.{Holds, HoldsSubscriptions, IsNew, has_id, is_asked, is_subscribed, with_subscription}
use Rattle.ca_laws_parts.proofs.CircuitCalls.{meant-others, meant-own}
use Rattle.ca_model.proofs.Handles.{handle-or, same-itself}
use Rattle.ca_laws_parts.proofs.Flows.{given-sent}
use Rattle.ca_laws_parts.proofs.Held.{ids-fresh, ids-given, ids-kept, ids-sent}
use Rattle.ca_laws_parts.proofs.Requests.{given-new}
use Rattle.ca_model.proofs.Tables.{changed-back, changed-few, changed-other, changed-own}

pub sub-is : (a b : ℕ) → SubId a ≡ SubId b → a ≡ b
sub-is a b e = cc

pub no-cid : (a b : ℕ) → Cid a ≡ SubId b → ⊥
no-cid a b e = cc

pub no-ioid : (a b : ℕ) → Ioid a ≡ SubId b → ⊥
no-ioid a b e = cc

-- ---- what an EVENT_ADD and an EVENT_CANCEL concern

pub adds-gives : (s : Sent) (id : Id) → Is command.EventAdd s.message → Gives s.message id → id ≡ SubId s.message.p2
adds-gives s (SubId n) is g = ap SubId (sym g.1)
adds-gives s (Cid n) is g = (let e : ◌≡◌ {A = ℕ} 1 18 = sym is ∙ g.0 in absurd (omega (arith, e)))
adds-gives s (Ioid n) is g = absurd (elim g.0 [
  | inl e ↦ (let f : ◌≡◌ {A = ℕ} 1 15 = sym is ∙ e in omega (arith, f))
  | inr e ↦ (let f : ◌≡◌ {A = ℕ} 1 19 = sym is ∙ e in omega (arith, f))
])

pub adds-concerns : (c : Circuit) (s : Sent) (id : Id) → Is command.EventAdd s.message → Concerns (c.up ++ s ∷ []) (length c.up) id → id ≡ SubId s.message.p2
adds-concerns c s id is concerns =
    let same : concerns.0 ≡ s = At-one (c.up ++ s ∷ []) (length c.up) concerns.0 s concerns.1 (At-last c.up s) in
    let command : concerns.0.message.command ≡ s.message.command = ap (λ (x : Sent). x.message.command) same in
    elim concerns.2 [
      | inl gives ↦ adds-gives s id is (subst (λ (x : Sent). Gives x.message id) same gives)
      | inr (inl clears) ↦ (let e : ◌≡◌ {A = ℕ} 1 12 = sym is ∙ sym command ∙ clears.0 in absurd (omega (arith, e)))
      | inr (inr (inl cancels)) ↦ (let e : ◌≡◌ {A = ℕ} 1 2 = sym is ∙ sym command ∙ cancels.0 in absurd (omega (arith, e)))
      | inr (inr (inr writes)) ↦ (let e : ◌≡◌ {A = ℕ} 1 4 = sym is ∙ sym command ∙ writes.0 in absurd (omega (arith, e)))
    ]

pub cancels-gives : (s : Sent) (id : Id) → Is command.EventCancel s.message → Gives s.message id → ⊥
cancels-gives s (SubId n) is g = (let e : ◌≡◌ {A = ℕ} 2 1 = sym is ∙ g.0 in omega (arith, e))
cancels-gives s (Cid n) is g = (let e : ◌≡◌ {A = ℕ} 2 18 = sym is ∙ g.0 in omega (arith, e))
cancels-gives s (Ioid n) is g = elim g.0 [
  | inl e ↦ (let f : ◌≡◌ {A = ℕ} 2 15 = sym is ∙ e in omega (arith, f))
  | inr e ↦ (let f : ◌≡◌ {A = ℕ} 2 19 = sym is ∙ e in omega (arith, f))
]

pub cancels-concerns : (c : Circuit) (s : Sent) (id : Id) → Is command.EventCancel s.message → Concerns (c.up ++ s ∷ []) (length c.up) id → id ≡ SubId s.message.p2
cancels-concerns c s id is concerns =
    let same : concerns.0 ≡ s = At-one (c.up ++ s ∷ []) (length c.up) concerns.0 s concerns.1 (At-last c.up s) in
    let command : concerns.0.message.command ≡ s.message.command = ap (λ (x : Sent). x.message.command) same in
    elim concerns.2 [
      | inl gives ↦ absurd (cancels-gives s id is (subst (λ (x : Sent). Gives x.message id) same gives))
      | inr (inl clears) ↦ (let e : ◌≡◌ {A = ℕ} 2 12 = sym is ∙ sym command ∙ clears.0 in absurd (omega (arith, e)))
      | inr (inr (inl cancels)) ↦ cancels.1 ∙ ap (λ (x : Sent). SubId x.message.p2) same
      | inr (inr (inr writes)) ↦ (let e : ◌≡◌ {A = ℕ} 2 4 = sym is ∙ sym command ∙ writes.0 in absurd (omega (arith, e)))
    ]

-- ---- subscribe

module _ (Awaits : ℕ → Type 0) (on : Handle) (n : Names) (x : Client) (c : Circuit) (s : Sent) (q h : Handle) (channel number : ℕ)
    (adds : Is command.EventAdd s.message) (wire : s.message.p2 ≡ wire_of q) (means : s.intent ≡ history.On channel (history.Subscribe number)) (suits : Suits s.intent s.message)
    (may : MayGive x.subscriptions q) (new : IsNew n.subscriptions q)
    (ch : Channel) (there : under x.channels h ≡ Some ch) (live : is_on_in is_subscribed on ch ≡ true) (holds : Holds Awaits on n x c) where
  abbrev id-of : Id
  id-of = SubId (wire_of q)

  number-is : named id-of s.intent ≡ Some number
  number-is = ap (named id-of) means

  pub subscribe-may : MaySend Awaits c s
  subscribe-may = record {
    suits = suits;
    fresh = λ p id given pending.
        let is : id ≡ id-of = adds-gives s id adds given ∙ ap SubId wire in
        ids-fresh SubId (meant_by n.subscriptions) Awaits (has_id x.channels on) x.subscriptions c q may holds.subscriptions p (subst (λ (y : Id). IsPending Awaits c p y) is pending);
    means = λ id concerns.
        let is : id ≡ id-of = adds-concerns c s id adds concerns ∙ ap SubId wire in
        subst (λ (y : Id). MeansOwn (c.up ++ s ∷ []) (length c.up) y) (sym is)
        (length c.up, number, s, given-new c s id-of number (adds, wire) number-is, omega arith, At-last c.up s, number-is);
  }

  abbrev names : Names
  names = with_subscription q s.intent n

  renamed : HoldsSubscriptions Awaits on (meant_by names.subscriptions) x.channels x.subscriptions c
  renamed = record {
    few = holds.subscriptions.few;
    busy = holds.subscriptions.busy;
    own = λ g d is here.
        let m = holds.subscriptions.own g d is here in
        (m.0, m.1, m.2, meant-others (SubId (wire_of g)) m.1 n.subscriptions (q, s.intent) g m.3 refl);
  }

  pub subscribe-keeps : (a : Shape) (mask : ℕ) (y : Sending) → Holds Awaits on names (sending (y ∷ []) (record x { subscriptions = with_held q (new_subscription h a mask) x.subscriptions })) (with_sent s c)
  subscribe-keeps a mask y = record {
    channels =
        ids-sent Cid _ Awaits (is_on_in is_asked on) x.channels c s (λ m g. no-cid m s.message.p2 (adds-gives s (Cid m) adds g))
        (λ m concerns. absurd (no-cid m s.message.p2 (adds-concerns c s (Cid m) adds concerns))) holds.channels;
    requests =
        ids-sent Ioid _ Awaits (was_sent_on on) x.requests c s (λ m g. no-ioid m s.message.p2 (adds-gives s (Ioid m) adds g))
        (λ m concerns. absurd (no-ioid m s.message.p2 (adds-concerns c s (Ioid m) adds concerns))) holds.requests;
    subscriptions =
        ids-given SubId (meant_by names.subscriptions) Awaits (has_id x.channels on) x.subscriptions c q (new_subscription h a mask) s number may
        (ap (λ (o : Option Channel). unwrap_or (option_map (is_on_in is_subscribed on) o) false) there ∙ live) (adds, wire)
        (λ m concerns. sym wire ∙ sym (sub-is m s.message.p2 (adds-concerns c s (SubId m) adds concerns)))
        (λ m g. sym wire ∙ sym (sub-is m s.message.p2 (adds-gives s (SubId m) adds g)))
        number-is (ap (named id-of) (meant-own n.subscriptions q s.intent new) ∙ number-is) renamed;
  }

-- ---- unsubscribe

-- to cancel is to mean what was subscribed to
cancel-means : (id : ℕ) (i : Intent) → named (SubId id) (cancelled i) ≡ named (SubId id) i
cancel-means id (history.On channel history.Create) = refl
cancel-means id (history.On channel history.Clear) = refl
cancel-means id (history.On channel (history.Request kind number)) = refl
cancel-means id (history.On channel (history.Subscribe number)) = refl
cancel-means id (history.On channel (history.Cancel number)) = refl
cancel-means id history.OfCircuit = refl

module _ (Awaits : ℕ → Type 0) (on : Handle) (n : Names) (x : Client) (c : Circuit) (s : Sent) (q : Handle) (d : Subscription)
    (cancels : Is command.EventCancel s.message) (wire : s.message.p2 ≡ wire_of q) (means : s.intent ≡ cancelled (meant_by n.subscriptions q)) (suits : Suits s.intent s.message)
    (stands : under x.subscriptions q ≡ Some d) (has : has_id x.channels on d ≡ true) (holds : Holds Awaits on n x c) where
  pub unsubscribe-may : MaySend Awaits c s
  unsubscribe-may = record {
    suits = suits;
    fresh = λ p id given pending. cancels-gives s id cancels given;
    means = λ id concerns.
        let is : id ≡ SubId (wire_of q) = cancels-concerns c s id cancels concerns ∙ ap SubId wire in
        let m = holds.subscriptions.own q d stands has in
        let k : m.0 < length c.up = At-within c.up m.0 m.2.0 m.2.1 in
        subst (λ (y : Id). MeansOwn (c.up ++ s ∷ []) (length c.up) y) (sym is) (
          m.0,
          m.1,
          s,
          given-sent c.up s (SubId (wire_of q)) m.0 m.1 (cancels-gives s (SubId (wire_of q)) cancels) m.2,
          omega (arith, k),
          At-last c.up s,
          ap (named (SubId (wire_of q))) means ∙ cancel-means (wire_of q) (meant_by n.subscriptions q) ∙ m.3,
        );
  }

  abbrev ends-it : Subscription → Subscription
  ends-it e = record e { stage = Cancelled on }

  sent-on : HoldsSubscriptions Awaits on (meant_by n.subscriptions) x.channels x.subscriptions (with_sent s c)
  sent-on =
      ids-sent SubId _ Awaits (has_id x.channels on) x.subscriptions c s (λ m g. cancels-gives s (SubId m) cancels g)
      (λ m concerns. (q, d, stands, sym wire ∙ sym (sub-is m s.message.p2 (cancels-concerns c s (SubId m) cancels concerns)), has)) holds.subscriptions

  drains : has_id x.channels on (ends-it d) ≡ true
  drains = ap (λ (b : Bool). b || (false && unwrap_or (option_map (is_on_in is_subscribed on) (under x.channels d.channel)) false)) (same-itself on)

  pub unsubscribe-keeps : (y : Sending) → Holds Awaits on n (sending (y ∷ []) (record x { subscriptions = with_stage (Cancelled on) q x.subscriptions })) (with_sent s c)
  unsubscribe-keeps y = record {
    channels =
        ids-sent Cid _ Awaits (is_on_in is_asked on) x.channels c s (λ m g. cancels-gives s (Cid m) cancels g)
        (λ m concerns. absurd (no-cid m s.message.p2 (cancels-concerns c s (Cid m) cancels concerns))) holds.channels;
    requests =
        ids-sent Ioid _ Awaits (was_sent_on on) x.requests c s (λ m g. cancels-gives s (Ioid m) cancels g)
        (λ m concerns. absurd (no-ioid m s.message.p2 (cancels-concerns c s (Ioid m) cancels concerns))) holds.requests;
    subscriptions =
        ids-kept SubId _ Awaits (has_id x.channels on) (has_id x.channels on) x.subscriptions (with_stage (Cancelled on) q x.subscriptions) (with_sent s c)
        (let e : length (with_stage (Cancelled on) q x.subscriptions) ≡ length x.subscriptions = changed-few ends-it x.subscriptions q in let l : length x.subscriptions ≤ arena_slots = holds.subscriptions.few in omega (arith, e, l))
        (λ p m pending was. elim (handle-or was.0 q) [
          | inl same ↦ (q, ends-it d, changed-own ends-it x.subscriptions q d stands, sym (ap (λ (g : Handle). wire_of g) same) ∙ was.3, drains)
          | inr other ↦ (was.0, was.1, changed-other ends-it x.subscriptions was.0 q was.1 was.2 other, was.3, was.4)
        ])
        (λ g v is yes_it. elim (changed-back ends-it x.subscriptions g q v is) [
          | inl own ↦ (d, subst (λ (k : Handle). under x.subscriptions k ≡ Some d) (sym own.0) stands, has)
          | inr other ↦ (v, other.1, yes_it)
        ])
        sent-on;
  }
