-- An ERROR was read that refuses a subscription: its id is free.
use Rattle.std.proofs.Common.{◌≡◌, ℕ, ◌≤◌, ◌⊎◌, inl, inr, Bool, true, false, cond, length, Option, Some, None, refl, sym, ap, ◌∙◌, subst, arith}
use Rattle.std.specs.Prelude.{◌&&◌, option_and_then, option_map, unwrap_or}
use Rattle.std.proofs.lemmas.Bool.{and_from, both_ways, or_right}
use Rattle.ca_text.specs.declared.command.Command.TheVariants as command
use Rattle.ca_text.specs.Limits.{arena_slots}
use Rattle.ca_text.specs.Place.{At}
use Rattle.ca_text.proofs.Places.{some_is, At-one}
use Rattle.ca_arena.specs.declared.handle.Handle.{Handle}
use Rattle.ca_ids.specs.Table.{by_wire, same_handle, under, with_freed}
use Rattle.ca_ids.specs.Wire.{wire_of}
use Rattle.ca_monitor.specs.Subscriptions.{Subscription, drains_in, stands_in}
use Rattle.ca_model.specs.Client.{Channel, Client, Clearing, Connecting, Creating, Doomed, Leaving, Live, On, Phase, Searching, Standing, is_live, is_on_in}
use Rattle.ca_model.specs.Hears.{subscription_on, is_live_on, without_subscription}
use Rattle.ca_model.specs.Speech.{Id, SubId, Gives, Is, Speaks}
use Rattle.ca_model.specs.History.{Circuit, Intent, Reply, Sent, Step, Told}
use Rattle.ca_model.specs.History as history
use Rattle.ca_model.specs.Channels.{Suits, named}
use Rattle.ca_model.specs.ClientEvents.{meant_by}
use Rattle.ca_model.specs.World.{Names}
use Rattle.ca_laws_parts.specs.Flows.{Flows, IsLast, IsPending, NoMore, with_heard}
use Rattle.ca_laws_parts.specs.Held.{Holds, has_id, is_subscribed}
use Rattle.ca_laws_parts.proofs.Ended.{Of}
use Rattle.ca_laws_parts.proofs.Flows.{given-now}
use Rattle.ca_model.proofs.Handles.{handle-or}
use Rattle.ca_laws_parts.proofs.CircuitHeard.{holds-heard}
use Rattle.ca_laws_parts.proofs.Held.{ids-kept}
use Rattle.ca_laws_parts.proofs.Settled.{none-pending, one-giver, pending-before, pending-concerns, pending-means}
use Rattle.ca_model.proofs.Thinner.{three-ways}
use Rattle.ca_model.proofs.Tables.{freed-back, freed-few, freed-other, wire-under}

-- ---- what an ERROR finds

-- a live channel is subscribed to
live-subscribed : (on : Handle) (ch : Channel) → is_on_in is_live on ch ≡ true → is_on_in is_subscribed on ch ≡ true
live-subscribed on ch is = go ch.standing is
  where
    phases : (p : Phase) → is_live p ≡ true → is_subscribed p ≡ true
    phases Connecting f = f
    phases (Creating rights) f = f
    phases (Live n rights) f = refl
    phases Leaving f = absurd (both_ways false refl f)
    phases Clearing f = f
    phases Doomed f = f

    go : (s : Standing) → is_on_in is_live on (record ch { standing = s }) ≡ true → is_on_in is_subscribed on (record ch { standing = s }) ≡ true
    go Searching f = f
    go (On d p) f = by (same_handle d on) f
      where
        by : (b : Bool) → unwrap_or (option_map is_live (cond b (Some p) None)) false ≡ true → unwrap_or (option_map is_subscribed (cond b (Some p) None)) false ≡ true
        by true k = phases p k
        by false k = k

-- what it finds stands, and has its id here
pub heard-is : (x : Client) (on : Handle) (id : ℕ) (q : Handle) → subscription_on x on id ≡ Some q → (d : Subscription) × (under x.subscriptions q ≡ Some d) × (wire_of q ≡ id) × (stands_in d.stage ≡ true) × (has_id x.channels on d ≡ true)
heard-is x on id q is = go (by_wire x.subscriptions id) refl is
  where
    live : (d : Subscription) → is_live_on x on d.channel ≡ true → unwrap_or (option_map (is_on_in is_subscribed on) (under x.channels d.channel)) false ≡ true
    live d f = by (under x.channels d.channel) f
      where
        by : (o : Option Channel) → unwrap_or (option_map (is_on_in is_live on) o) false ≡ true → unwrap_or (option_map (is_on_in is_subscribed on) o) false ≡ true
        by (Some ch) f = live-subscribed on ch f
        by None f = f

    found : (e : Handle × Subscription) → by_wire x.subscriptions id ≡ Some e → (a b : Bool) → stands_in e.1.stage ≡ a → is_live_on x on e.1.channel ≡ b
        → option_and_then (λ (e : Handle × Subscription). cond (is_live_on x on e.1.channel) (Some e.0) None) (cond a (Some e) None) ≡ Some q → cond b (Some e.0) None ≡ Some q ⊎ (a ≡ false)
        → (d : Subscription) × (under x.subscriptions q ≡ Some d) × (wire_of q ≡ id) × (stands_in d.stage ≡ true) × (has_id x.channels on d ≡ true)
    found e there true true stands lives f (inl g) =
        let same : e.0 ≡ q = some_is e.0 q g in
        let r = wire-under x.subscriptions id e there in (
          e.1,
          subst (λ (k : Handle). under x.subscriptions k ≡ Some e.1) same r.0,
          sym (ap (λ (k : Handle). wire_of k) same) ∙ r.1,
          stands,
          or_right (drains_in on e.1.stage) (stands_in e.1.stage && unwrap_or (option_map (is_on_in is_subscribed on) (under x.channels e.1.channel)) false)
              (and_from (stands_in e.1.stage) (unwrap_or (option_map (is_on_in is_subscribed on) (under x.channels e.1.channel)) false) stands (live e.1 lives)),
        )
    found e there true true stands lives f (inr g) = absurd (both_ways true g refl)
    found e there true false stands lives f (inl g) = absurd cc
    found e there true false stands lives f (inr g) = absurd (both_ways true g refl)
    found e there false b stands lives f g = absurd cc

    step : (e : Handle × Subscription) (a : Bool) → stands_in e.1.stage ≡ a → option_and_then (λ (e : Handle × Subscription). cond (is_live_on x on e.1.channel) (Some e.0) None) (cond a (Some e) None) ≡ Some q
        → cond (is_live_on x on e.1.channel) (Some e.0) None ≡ Some q ⊎ (a ≡ false)
    step e true stands f = inl f
    step e false stands f = inr refl

    go : (o : Option (Handle × Subscription)) → by_wire x.subscriptions id ≡ o
        → option_and_then (λ (e : Handle × Subscription). cond (is_live_on x on e.1.channel) (Some e.0) None) (option_and_then (λ (e : Handle × Subscription). cond (stands_in e.1.stage) (Some e) None) o) ≡ Some q
        → (d : Subscription) × (under x.subscriptions q ≡ Some d) × (wire_of q ≡ id) × (stands_in d.stage ≡ true) × (has_id x.channels on d ≡ true)
    go None there f = absurd cc
    go (Some e) there f = found e there (stands_in e.1.stage) (is_live_on x on e.1.channel) refl refl f (step e (stands_in e.1.stage) refl f)

-- ---- what subscription ids name

-- it is to subscribe or to cancel
pub sub-named : (id : ℕ) (intent : Intent) (n : ℕ) → named (SubId id) intent ≡ Some n → ((a : ℕ) × (intent ≡ history.On a (history.Subscribe n))) ⊎ ((a : ℕ) × (intent ≡ history.On a (history.Cancel n)))
sub-named id (history.On a (history.Subscribe m)) n is = inl (a, ap (λ (k : ℕ). history.On a (history.Subscribe k)) (some_is m n is))
sub-named id (history.On a (history.Cancel m)) n is = inr (a, ap (λ (k : ℕ). history.On a (history.Cancel k)) (some_is m n is))
sub-named id (history.On a history.Create) n is = absurd cc
sub-named id (history.On a history.Clear) n is = absurd cc
sub-named id (history.On a (history.Request kind m)) n is = absurd cc
sub-named id history.OfCircuit n is = absurd cc

-- an EVENT_ADD concerns what it gives
adding : (c : Circuit) (place : ℕ) (z : Sent) (id : Id) → Is command.EventAdd z.message → Of c place z id → Gives z.message id
adding c place z id is concerns = elim concerns [
  | inl gives ↦ gives
  | inr (inl clears) ↦ (let e : ◌≡◌ {A = ℕ} 1 12 = sym is ∙ clears.0 in absurd (omega (arith, e)))
  | inr (inr (inl cancels)) ↦ (let e : ◌≡◌ {A = ℕ} 1 2 = sym is ∙ cancels.0 in absurd (omega (arith, e)))
  | inr (inr (inr writes)) ↦ (let e : ◌≡◌ {A = ℕ} 1 4 = sym is ∙ writes.0 in absurd (omega (arith, e)))
]

-- ---- the subscription is over

module _ (Awaits : ℕ → Type 0) (on : Handle) (n : Names) (x : Client) (c : Circuit) (g : Step) (t : Told) (s : Sent) (q : Handle) (number : ℕ)
    (f : Flows Awaits c) (holds : Holds Awaits on n x c) (at : At c.down (length c.heard) t) (cause : t.cause ≡ Reply) (there : At c.up t.place s) (adds : Is command.EventAdd s.message)
    (speaks : Speaks t.message (SubId (wire_of q))) (means : named (SubId (wire_of q)) (meant_by n.subscriptions q) ≡ Some number)
    (stood : (p : ℕ) (r : Sent) (a : ℕ) → At c.up p r → r.intent ≡ history.On a (history.Cancel number) → ⊥)
    (d : Subscription) (stands : under x.subscriptions q ≡ Some d) (has : has_id x.channels on d ≡ true) where
  abbrev id-of : Id
  id-of = SubId (wire_of q)

  gives : Gives s.message id-of
  gives =
      let concerns = f.concerns (length c.heard) t id-of at speaks in
      let same : concerns.0 ≡ s = At-one c.up t.place concerns.0 s concerns.1 there in
      adding c t.place s id-of adds (subst (λ (z : Sent). Of c t.place z id-of) same concerns.2)

  -- a reply to an EVENT_ADD is the last about it
  last-so : (intent : Intent) → Suits intent s.message → IsLast t.message intent
  last-so (history.On a history.Create) suits = (let e : ◌≡◌ {A = ℕ} 1 18 = sym adds ∙ suits in absurd (omega (arith, e)))
  last-so (history.On a history.Clear) suits = tt
  last-so (history.On a (history.Request kind m)) suits = tt
  last-so (history.On a (history.Subscribe m)) suits = tt
  last-so (history.On a (history.Cancel m)) suits = tt
  last-so history.OfCircuit suits = tt

  none : (p m : ℕ) → IsPending Awaits (with_heard g c) p (SubId m) → m ≡ wire_of q → ⊥
  none p m pending is =
      let now : IsPending Awaits c p id-of = subst (λ (k : ℕ). IsPending Awaits c p (SubId k)) is (pending-before Awaits c g p (SubId m) pending) in
      let own = holds.subscriptions.own q d stands has in
      let r = pending-means Awaits c p id-of f now in
      let told = given-now c (length c.heard) t.place id-of (omega arith) (f.own (length c.heard) t id-of at speaks) in
      let two = one-giver c.up id-of r.0 told.0 r.1 told.1 r.3 told.3 in
      let mine = one-giver c.up id-of r.0 own.0 r.1 own.1 r.3 own.2 in
      let number_is : r.1 ≡ number = mine.1 ∙ some_is own.1 number (sym own.3 ∙ means) in
      let meant_r : named id-of r.2.intent ≡ Some number = r.6 ∙ ap (λ (k : ℕ). Some k) number_is in
      elim (three-ways p t.place) [
        | inl lt ↦ (let le : r.0 ≤ p = r.4 in r.3.4 t.place s (omega (arith, le, lt)) there gives)
        | inr (inl same) ↦
            none-pending Awaits c g p (SubId m) (subst (λ (k : ℕ). NoMore Awaits c (length c.heard) k) (sym same) (f.last (length c.heard) t s at cause there (last-so s.intent (f.asked t.place s there)))) pending
        | inr (inr lt) ↦ elim (sub-named (wire_of q) r.2.intent number meant_r) [
          | inl subscribes ↦
              let is_add : Is command.EventAdd r.2.message = subst (λ (i : Intent). Suits i r.2.message) subscribes.1 (f.asked p r.2 r.5) in
              let concerns = pending-concerns Awaits c p id-of f now in
              let one : concerns.0 ≡ r.2 = At-one c.up p concerns.0 r.2 concerns.1 r.5 in
              let again : Gives r.2.message id-of = adding c p r.2 id-of is_add (subst (λ (z : Sent). Of c p z id-of) one concerns.2) in
              let le : told.0 ≤ t.place = told.4 in
              told.3.4 p r.2 (omega (arith, le, lt)) r.5 again
          | inr cancels ↦ stood p r.2 cancels.0 r.5 cancels.1
        ]
      ]

  pub subscription-over : Holds Awaits on n (without_subscription q x) (with_heard g c)
  subscription-over =
      let heard : Holds Awaits on n x (with_heard g c) = holds-heard Awaits on n x c g holds in
      record {
        channels = heard.channels;
        requests = heard.requests;
        subscriptions =
            ids-kept SubId _ Awaits (has_id x.channels on) (has_id x.channels on) x.subscriptions (with_freed q x.subscriptions) (with_heard g c)
            (let e : length (with_freed q x.subscriptions) ≡ length x.subscriptions = freed-few x.subscriptions q in let l : length x.subscriptions ≤ arena_slots = holds.subscriptions.few in omega (arith, e, l))
            (λ p m pending was. elim (handle-or was.0 q) [
              | inl same ↦ absurd (none p m pending (sym was.3 ∙ ap (λ (k : Handle). wire_of k) same))
              | inr other ↦ (was.0, was.1, freed-other x.subscriptions was.0 q was.1 was.2 other, was.3, was.4)
            ])
            (λ k v is yes_it. (v, (freed-back x.subscriptions k q v is).1, yes_it)) heard.subscriptions;
      }

  pub subscription-about : named id-of s.intent ≡ named id-of (meant_by n.subscriptions q)
  subscription-about =
      let own = holds.subscriptions.own q d stands has in
      let told = given-now c (length c.heard) t.place id-of (omega arith) (f.own (length c.heard) t id-of at speaks) in
      let two = one-giver c.up id-of told.0 own.0 told.1 own.1 told.3 own.2 in
      let same : told.2 ≡ s = At-one c.up t.place told.2 s told.5 there in
      sym (ap (λ (z : Sent). named id-of z.intent) same) ∙ told.6 ∙ ap (λ (k : ℕ). Some k) two.1 ∙ sym own.3

-- the same by the subscription that the ERROR found
pub refusal-heard : (Awaits : ℕ → Type 0) (on : Handle) (n : Names) (x : Client) (c : Circuit) (g : Step) (t : Told) (s : Sent) (q : Handle) (id number : ℕ) → Flows Awaits c → Holds Awaits on n x c → At c.down (length c.heard) t → t.cause ≡ Reply → At c.up t.place s → Is command.EventAdd s.message
    → Speaks t.message (SubId id) → subscription_on x on id ≡ Some q → named (SubId (wire_of q)) (meant_by n.subscriptions q) ≡ Some number
    → ((p : ℕ) (r : Sent) (a : ℕ) → At c.up p r → r.intent ≡ history.On a (history.Cancel number) → ⊥)
    → Holds Awaits on n (without_subscription q x) (with_heard g c) × (named (SubId (wire_of q)) s.intent ≡ named (SubId (wire_of q)) (meant_by n.subscriptions q))
refusal-heard Awaits on n x c g t s q id number f holds at cause there adds spoken finds means stood =
    let found = heard-is x on id q finds in
    let speaks : Speaks t.message (SubId (wire_of q)) = subst (λ (k : ℕ). Speaks t.message (SubId k)) (sym found.2) spoken in (
      subscription-over Awaits on n x c g t s q number f holds at cause there adds speaks means stood found.0 found.1 found.4,
      subscription-about Awaits on n x c g t s q number f holds at cause there adds speaks means stood found.0 found.1 found.4,
    )
