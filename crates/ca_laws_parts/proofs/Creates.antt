-- A channel that was found, or whose circuit was connected, is asked for: its CREATE_CHAN goes out.
use Rattle.std.proofs.Common.{◌≡◌, ℕ, inl, inr, true, false, [], ◌∷◌, ◌++◌, length, Some, refl, sym, ap, ◌∙◌, subst, arith}
use Rattle.std.proofs.lemmas.Bool.{both_ways}
use Rattle.ca_text.specs.declared.command.Command.TheVariants as command
use Rattle.ca_text.proofs.Places.{At-last, At-one}
use Rattle.ca_arena.specs.declared.handle.Handle.{Handle}
use Rattle.ca_ids.specs.Table.{Table, under, with_changed}
use Rattle.ca_ids.specs.Wire.{wire_of}
use Rattle.ca_requests.specs.Requests.{was_sent_on}
use Rattle.ca_model.specs.Answers.{Sending}
use Rattle.ca_model.specs.Client.{Channel, Client, Creating, On, found_on, is_on_in, sending}
use Rattle.ca_model.specs.Speech.{Id, Cid, Ioid, SubId, Gives, Is}
use Rattle.ca_model.specs.History.{Circuit, Create, Sent}
use Rattle.ca_model.specs.History as history
use Rattle.ca_model.specs.Channels.{Suits, named}
use Rattle.ca_model.specs.ClientEvents.{channel_number, meant_by}
use Rattle.ca_model.specs.World.{Names}
use Rattle.ca_laws_parts.specs.Flows.{Concerns, IsPending, MaySend, MeansOwn, with_sent}
use Rattle.ca_laws_parts.specs.Held.{Holds, HoldsSubscriptions, has_id, is_asked, is_subscribed}
use Rattle.ca_laws_parts.proofs.Answered.{subscribed-asked}
use Rattle.ca_model.proofs.Standings.{is-on}
use Rattle.ca_laws_parts.proofs.CircuitHeard.{has-too}
use Rattle.ca_laws_parts.proofs.Held.{ids-again, ids-free, ids-kept, ids-sent}
use Rattle.ca_laws_parts.proofs.Requests.{given-new}
use Rattle.ca_model.proofs.Tables.{changed-back, changed-other, one-value}

pub cid-is : (a b : ℕ) → Cid a ≡ Cid b → a ≡ b
cid-is a b e = cc

pub no-ioid : (a b : ℕ) → Ioid a ≡ Cid b → ⊥
no-ioid a b e = cc

pub no-sub : (a b : ℕ) → SubId a ≡ Cid b → ⊥
no-sub a b e = cc

pub creates-gives : (s : Sent) (id : Id) → Is command.CreateChannel s.message → Gives s.message id → id ≡ Cid s.message.p1
creates-gives s (Cid n) is g = ap Cid (sym g.1)
creates-gives s (SubId n) is g = (let e : ◌≡◌ {A = ℕ} 18 1 = sym is ∙ g.0 in absurd (omega (arith, e)))
creates-gives s (Ioid n) is g = absurd (elim g.0 [
  | inl e ↦ (let f : ◌≡◌ {A = ℕ} 18 15 = sym is ∙ e in omega (arith, f))
  | inr e ↦ (let f : ◌≡◌ {A = ℕ} 18 19 = sym is ∙ e in omega (arith, f))
])

pub creates-concerns : (c : Circuit) (s : Sent) (id : Id) → Is command.CreateChannel s.message → Concerns (c.up ++ s ∷ []) (length c.up) id → id ≡ Cid s.message.p1
creates-concerns c s id is concerns =
    let same : concerns.0 ≡ s = At-one (c.up ++ s ∷ []) (length c.up) concerns.0 s concerns.1 (At-last c.up s) in
    let command : concerns.0.message.command ≡ s.message.command = ap (λ (x : Sent). x.message.command) same in
    elim concerns.2 [
      | inl gives ↦ creates-gives s id is (subst (λ (x : Sent). Gives x.message id) same gives)
      | inr (inl clears) ↦ (let e : ◌≡◌ {A = ℕ} 18 12 = sym is ∙ sym command ∙ clears.0 in absurd (omega (arith, e)))
      | inr (inr (inl cancels)) ↦ (let e : ◌≡◌ {A = ℕ} 18 2 = sym is ∙ sym command ∙ cancels.0 in absurd (omega (arith, e)))
      | inr (inr (inr writes)) ↦ (let e : ◌≡◌ {A = ℕ} 18 4 = sym is ∙ sym command ∙ writes.0 in absurd (omega (arith, e)))
    ]

module _ (Awaits : ℕ → Type 0) (on : Handle) (n : Names) (x : Client) (c : Circuit) (s : Sent) (h : Handle)
    (creates : Is command.CreateChannel s.message) (wire : s.message.p1 ≡ wire_of h) (means : s.intent ≡ history.On (channel_number n h) Create) (suits : Suits s.intent s.message)
    (ch : Channel) (there : under x.channels h ≡ Some ch) (away : is_on_in is_asked on ch ≡ false) (holds : Holds Awaits on n x c) where
  abbrev id-of : Id
  id-of = Cid (wire_of h)

  number-is : named id-of s.intent ≡ Some (channel_number n h)
  number-is = ap (named id-of) means

  pub create-may : MaySend Awaits c s
  create-may = record {
    suits = suits;
    fresh = λ p id given pending.
        let is : id ≡ id-of = creates-gives s id creates given ∙ ap Cid wire in
        ids-free Cid _ Awaits (is_on_in is_asked on) x.channels c h ch there away holds.channels p (subst (λ (y : Id). IsPending Awaits c p y) is pending);
    means = λ id concerns.
        let is : id ≡ id-of = creates-concerns c s id creates concerns ∙ ap Cid wire in
        subst (λ (y : Id). MeansOwn (c.up ++ s ∷ []) (length c.up) y) (sym is)
        (length c.up, channel_number n h, s, given-new c s id-of (channel_number n h) (creates, wire) number-is, omega arith, At-last c.up s, number-is);
  }

  abbrev asks : Channel → Channel
  asks here = record here { standing = On on (Creating 0) }

  abbrev after : Table Channel
  after = with_changed asks h x.channels

  not-subscribed : (w : Channel) → under x.channels h ≡ Some w → is_on_in is_subscribed on w ≡ true → ⊥
  not-subscribed w is pass =
      both_ways (is_on_in is_asked on ch) away
      (subscribed-asked on ch (subst (λ (z : Channel). is_on_in is_subscribed on z ≡ true) (one-value x.channels h w ch is there) pass))

  subscriptions-asked : HoldsSubscriptions Awaits on (meant_by n.subscriptions) after x.subscriptions (with_sent s c)
  subscriptions-asked =
      ids-kept SubId _ Awaits (has_id x.channels on) (has_id after on) x.subscriptions x.subscriptions (with_sent s c) holds.subscriptions.few
      (λ p m pending was. (
        was.0,
        was.1,
        was.2,
        was.3,
        has-too on x.channels after was.1
            (λ w is pass. (w, changed-other asks x.channels was.1.channel h w is (λ e. not-subscribed w (subst (λ (k : Handle). under x.channels k ≡ Some w) e is) pass), pass)) was.4,
      ))
      (λ g v is yes_it. (
        v,
        is,
        has-too on after x.channels v (λ w is_w pass. elim (changed-back asks x.channels v.channel h w is_w) [
          | inl own ↦
              absurd (both_ways (is_on_in is_subscribed on w) (ap (λ (z : Channel). is_on_in is_subscribed on z) own.1.2 ∙ is-on is_subscribed on (asks own.1.0) (Creating 0) refl) pass)
          | inr old ↦ (w, old.1, pass)
        ]) yes_it,
      ))
      (ids-sent SubId _ Awaits (has_id x.channels on) x.subscriptions c s (λ m g. no-sub m s.message.p1 (creates-gives s (SubId m) creates g))
      (λ m concerns. absurd (no-sub m s.message.p1 (creates-concerns c s (SubId m) creates concerns))) holds.subscriptions)

  pub create-keeps : (y : Sending) → Holds Awaits on n (sending (y ∷ []) (found_on on (Creating 0) h x)) (with_sent s c)
  create-keeps y = record {
    channels =
        ids-again Cid _ Awaits (is_on_in is_asked on) asks x.channels c h ch s (channel_number n h) there away (is-on is_asked on (asks ch) (Creating 0) refl) (creates, wire)
        (λ m concerns. sym wire ∙ sym (cid-is m s.message.p1 (creates-concerns c s (Cid m) creates concerns)))
        (λ m g. sym wire ∙ sym (cid-is m s.message.p1 (creates-gives s (Cid m) creates g)))
        number-is refl holds.channels;
    requests =
        ids-sent Ioid _ Awaits (was_sent_on on) x.requests c s (λ m g. no-ioid m s.message.p1 (creates-gives s (Ioid m) creates g))
        (λ m concerns. absurd (no-ioid m s.message.p1 (creates-concerns c s (Ioid m) creates concerns))) holds.requests;
    subscriptions = subscriptions-asked;
  }
