-- What a message that a client reads is about, by what was sent on its circuit.
use Rattle.std.proofs.Common.{◌≡◌, ℕ, ◌<◌, ◌≤◌, inl, inr, true, false, ◌&&◌, List, length, Option, Some, None, refl, sym, ap, ◌∙◌, subst, arith}
use Rattle.std.specs.Prelude.{option_map, unwrap_or}
use Rattle.std.proofs.lemmas.Bool.{both_ways, or_left}
use Rattle.ca_text.specs.Command.{command_number}
use Rattle.ca_text.specs.declared.command.Command.TheVariants as command
use Rattle.ca_text.specs.Place.{At}
use Rattle.ca_text.proofs.Places.{At-one, some_is}
use Rattle.ca_arena.specs.declared.handle.Handle.{Handle}
use Rattle.ca_ids.specs.Table.{under}
use Rattle.ca_ids.specs.Wire.{wire_of}
use Rattle.ca_monitor.specs.Subscriptions.{Cancelled, Ended, Stage, Stands, Subscription, confirmed_by, drains_in, is_cancelled_in, stands_in}
use Rattle.ca_requests.specs.Meaning.{QuotesHeader}
use Rattle.ca_wire.specs.declared.header.Header.{Header}
use Rattle.ca_wire.specs.Fields.{Fields}
use Rattle.ca_model.specs.Client.{Clearing, Client, Connecting, Creating, Doomed, Leaving, Live, Phase, channel_on, is_on_in}
use Rattle.ca_model.specs.Hears.{subscription_on}
use Rattle.ca_model.specs.History.{Cancel, Circuit, Clear, Create, Intent, On, Put, Read, Sent, Subscribe, Told, Write}
use Rattle.ca_model.specs.History as history
use Rattle.ca_model.specs.Speech.{Cid, Gives, Ioid, Is, Speaks, SubId}
use Rattle.ca_model.specs.Channels.{Suits, named}
use Rattle.ca_model.specs.Placed.{was_live}
use Rattle.ca_model.proofs.Handles.{same-is}
use Rattle.ca_model.proofs.Standings.{channel-on}
use Rattle.ca_model.proofs.Thinner.{three-ways}
use Rattle.ca_model.specs.ClientEvents.{channel_number, meant_by}
use Rattle.ca_model.specs.World.{Names}
use Rattle.ca_laws_parts.specs.Flows.{Awaits, Flows}
use Rattle.ca_laws_parts.specs.Held.{Holds, OnChannels, has_id, is_subscribed}
use Rattle.ca_laws_parts.proofs.Ended.{confirmed-is}
use Rattle.ca_laws_parts.proofs.Flows.{given-now}
use Rattle.ca_laws_parts.proofs.Refused.{heard-is, sub-named}
use Rattle.ca_laws_parts.proofs.Settled.{read-means}
use Rattle.ca_laws_parts.specs.Circuit.{AreCids, IsLastCancel, IsQuiet}
use Rattle.ca_laws_parts.proofs.RunsSending.{channel-named}
use Rattle.ca_laws_runs.specs.Quiet.{IsAskedAt, IsBeingCancelled, IsBeingCleared, IsBeingCreated, IsNamedIn, NoCancel, NoneAfter, PhaseIn, Quiet, StageIn, Tidy}
use Rattle.ca_laws_runs.proofs.Phases.{same-number}
use Rattle.ca_laws_runs.proofs.Phased.{standing-stage}
use Rattle.ca_laws_runs.proofs.Says.{asked-at, subscribed-at}

-- ---- requests and subscriptions are on the channels that the core has for them

no-name : (number : ℕ) → let a : Option ℕ = None in let b : Option ℕ = Some number in a ≡ b → ⊥
no-name number e = cc

-- what gives an IOID and means this number has its name
pub request-named : (n : Names) (m : Fields) (id number : ℕ) (intent : Intent) → Suits intent m → Gives m (Ioid id) → named (Ioid id) intent ≡ Some number → IsNamedIn n intent → (q : Handle) × At n.requests number (q, intent)
request-named n m id number (On a (history.Request Read k)) suits gives is name = (name.0, subst (λ (z : ℕ). At n.requests z (name.0, On a (history.Request Read k))) (some_is k number is) name.1)
request-named n m id number (On a (history.Request Put k)) suits gives is name = (name.0, subst (λ (z : ℕ). At n.requests z (name.0, On a (history.Request Put k))) (some_is k number is) name.1)
request-named n m id number (On a (history.Request Write k)) suits gives is name = elim gives.0 [
  | inl reads ↦ absurd (let e : ◌≡◌ {A = ℕ} 4 15 = sym suits ∙ reads in omega (arith, e))
  | inr puts ↦ absurd (let e : ◌≡◌ {A = ℕ} 4 19 = sym suits ∙ puts in omega (arith, e))
]
request-named n m id number (On a (Subscribe k)) suits gives is name = absurd (no-name number is)
request-named n m id number (On a (Cancel k)) suits gives is name = absurd (no-name number is)
request-named n m id number (On a Create) suits gives is name = absurd (no-name number is)
request-named n m id number (On a Clear) suits gives is name = absurd (no-name number is)
request-named n m id number history.OfCircuit suits gives is name = absurd (no-name number is)

abbrev intent-of-pair : Handle × Intent → Intent
intent-of-pair e = e.1

pub own-so : (n : Names) (x : Client) (on : Handle) (c : Circuit) → Tidy n x → Quiet n x on c.up → ((k : ℕ) (s : Sent) → At c.up k s → Suits s.intent s.message) → OnChannels n x c
own-so n x on c t quiet asked = record {
  requests = λ p number s q r at gives there is meant.
      let w = t.requests q r there in
      let m_is : w.1 ≡ number = some_is w.1 number (ap (named (Ioid (wire_of q))) (sym w.3) ∙ meant) in
      let mine = asked-at n x q (channel_number n r.channel) w.1 w.0 t w.3 in
      let other = request-named n s.message (wire_of q) number s.intent (asked p s at) gives is (quiet.named p s at) in
      let one = At-one n.requests number (q, On (channel_number n r.channel) (history.Request w.0 w.1)) (other.0, s.intent) (subst (λ (z : ℕ). At n.requests z (q, On (channel_number n r.channel) (history.Request w.0 w.1))) m_is mine) other.1 in
      (history.Request w.0 w.1, ap intent-of-pair (sym one));
  subscriptions = λ p number s g d at there is meant.
      let w = t.subscriptions g d there in
      let m_is : w.0 ≡ number = some_is w.0 number (ap (named (SubId (wire_of g))) (sym w.2) ∙ meant) in
      let mine : At n.subscriptions number (g, On (channel_number n d.channel) (Subscribe w.0)) =
      subst (λ (z : ℕ). At n.subscriptions z (g, On (channel_number n d.channel) (Subscribe w.0))) m_is (subscribed-at n x g (channel_number n d.channel) w.0 t w.2) in
      elim (sub-named (wire_of g) s.intent number is) [
        | inl adds ↦
            let name : IsNamedIn n (On adds.0 (Subscribe number)) = subst (λ (i : Intent). IsNamedIn n i) adds.1 (quiet.named p s at) in
            let one = At-one n.subscriptions number (g, On (channel_number n d.channel) (Subscribe w.0)) (name.0, On adds.0 (Subscribe number)) mine name.1 in
            let a : channel_number n d.channel ≡ adds.0 = same-number (channel_number n d.channel) adds.0 (Subscribe w.0) (Subscribe number) (ap intent-of-pair one) in
            (Subscribe number, adds.1 ∙ ap (λ (z : ℕ). On z (Subscribe number)) (sym a))
        | inr cancels ↦
            let name : IsNamedIn n (On cancels.0 (Cancel number)) = subst (λ (i : Intent). IsNamedIn n i) cancels.1 (quiet.named p s at) in
            let one = At-one n.subscriptions number (g, On (channel_number n d.channel) (Subscribe w.0)) (name.0, On cancels.0 (Subscribe number)) mine name.1 in
            let a : channel_number n d.channel ≡ cancels.0 = same-number (channel_number n d.channel) cancels.0 (Subscribe w.0) (Subscribe number) (ap intent-of-pair one) in
            (Cancel number, cancels.1 ∙ ap (λ (z : ℕ). On z (Cancel number)) (sym a))
      ];
}

-- ---- a message that finds a channel or a subscription

module _ (kept : List ℕ) (n : Names) (x : Client) (on : Handle) (c : Circuit) (t : Told) (s : Sent) (tidy : Tidy n x) (quiet : Quiet n x on c.up) (flows : Flows (Awaits c kept) c) (cids : AreCids n c) (holds : Holds (Awaits c kept) on n x c)
    (at : At c.down (length c.heard) t) (sent : At c.up t.place s) where
  -- its channel was created last before what it is about
  pub created-before : (cid : ℕ) (h : Handle) (p : Phase) (k : ℕ) → channel_on x on cid ≡ Some (h, p) → Speaks t.message (Cid cid) → IsAskedAt c.up k (channel_number n h) Create → k ≤ t.place
  created-before cid h p k found speaks created =
      let ch = channel-on x on cid h p found in
      let means = given-now c (length c.heard) t.place (Cid cid) (let le : length c.heard ≤ length c.heard = omega arith in le) (flows.own (length c.heard) t (Cid cid) at speaks) in
      let r = cids k (channel_number n h) created.0 created.1 created.2 in
      let wire : created.0.message.p1 ≡ cid = r.2 ∙ ap wire_of (channel-named n h r.0 r.1) ∙ ch.2 in
      let gives : Gives created.0.message (Cid cid) = (subst (λ (i : Intent). Suits i created.0.message) created.2 (flows.asked k created.0 created.1), wire) in
      elim (three-ways k means.0) [
        | inl lt ↦ (let le : means.0 ≤ t.place = means.4 in omega (arith, lt, le))
        | inr (inl same) ↦ (let le : means.0 ≤ t.place = means.4 in omega (arith, same, le))
        | inr (inr lt) ↦ absurd (means.3.4 k created.0 lt created.1 gives)
      ]

  pub phase-so : (cid : ℕ) (h : Handle) (p : Phase) → channel_on x on cid ≡ Some (h, p) → PhaseIn c.up (channel_number n h) p
  phase-so cid h p found = (let ch = channel-on x on cid h p found in quiet.channels h ch.0 ch.1 p ch.3)

  quiet-from : (k number : ℕ) → k ≤ t.place → NoneAfter c.up k number → IsQuiet c t.place number
  quiet-from k number le none l r ask lt place is = none l r ask (omega (arith, le, lt)) place is

  not-both : (number : ℕ) → On number Create ≡ On number Clear → ⊥
  not-both number e = cc

  -- a CLEAR_CHANNEL
  pub cleared-so : (cid : ℕ) (h : Handle) (p : Phase) → (let a : Phase = p in let b : Phase = Connecting in a ≡ b → ⊥) → channel_on x on cid ≡ Some (h, p) → Speaks t.message (Cid cid) → s.intent ≡ On (channel_number n h) Clear → IsQuiet c t.place (channel_number n h)
  cleared-so cid h p other found speaks clears = by p other found (phase-so cid h p found)
    where
      number : ℕ
      number = channel_number n h

      after : (k : ℕ) → IsAskedAt c.up k (channel_number n h) Create → k ≤ t.place → k < t.place
      after k created le = elim (three-ways k t.place) [
        | inl lt ↦ lt
        | inr (inl same) ↦
            let one : created.0 ≡ s = At-one c.up t.place created.0 s (subst (λ (z : ℕ). At c.up z created.0) same created.1) sent in
            absurd (not-both (channel_number n h) (sym created.2 ∙ ap (λ (z : Sent). z.intent) one ∙ clears))
        | inr (inr lt) ↦ absurd (omega (arith, lt, le))
      ]

      being-created : (p : Phase) → channel_on x on cid ≡ Some (h, p) → IsBeingCreated c.up (channel_number n h) → IsQuiet c t.place (channel_number n h)
      being-created p found b = quiet-from b.0 (channel_number n h) (created-before cid h p b.0 found speaks b.1) b.2

      being-cleared : (p : Phase) → channel_on x on cid ≡ Some (h, p) → IsBeingCleared c.up (channel_number n h) → IsQuiet c t.place (channel_number n h)
      being-cleared p found b = elim (b.5 t.place s Clear (after b.0 b.2 (created-before cid h p b.0 found speaks b.2)) sent clears) [
        | inl same ↦ quiet-from b.1 (channel_number n h) (omega (arith, same)) b.4
        | inr used ↦ absurd used
      ]

      by : (p : Phase) → (let a : Phase = p in let b : Phase = Connecting in a ≡ b → ⊥) → channel_on x on cid ≡ Some (h, p) → PhaseIn c.up (channel_number n h) p → IsQuiet c t.place (channel_number n h)
      by Connecting other found b = absurd (other refl)
      by (Creating rights) other found b = being-created (Creating rights) found b
      by Doomed other found b = being-created Doomed found b
      by (Live native rights) other found b = absurd (b.2 t.place s Clear (after b.0 b.1 (created-before cid h (Live native rights) b.0 found speaks b.1)) sent clears)
      by Leaving other found b = being-cleared Leaving found b
      by Clearing other found b = being-cleared Clearing found b

  -- a CREATE_CH_FAIL, of a channel that was not created there
  pub failed-so : (cid : ℕ) (h : Handle) (p : Phase) → (let a : Phase = p in let b : Phase = Connecting in a ≡ b → ⊥) → was_live p ≡ false → channel_on x on cid ≡ Some (h, p) → Speaks t.message (Cid cid) → IsQuiet c t.place (channel_number n h)
  failed-so cid h p other header_only found speaks = by p other header_only found (phase-so cid h p found)
    where
      by : (p : Phase) → (let a : Phase = p in let b : Phase = Connecting in a ≡ b → ⊥) → was_live p ≡ false → channel_on x on cid ≡ Some (h, p) → PhaseIn c.up (channel_number n h) p → IsQuiet c t.place (channel_number n h)
      by Connecting other header_only found b = absurd (other refl)
      by (Creating rights) other header_only found b = quiet-from b.0 (channel_number n h) (created-before cid h (Creating rights) b.0 found speaks b.1) b.2
      by Doomed other header_only found b = quiet-from b.0 (channel_number n h) (created-before cid h Doomed b.0 found speaks b.1) b.2
      by (Live native rights) other header_only found b = absurd (both_ways true header_only refl)
      by Leaving other header_only found b = absurd (both_ways true header_only refl)
      by Clearing other header_only found b = absurd (both_ways true header_only refl)

  -- what it says of a subscription is of that number
  pub number-so : (g : Handle) (d : Subscription) (number : ℕ) → under x.subscriptions g ≡ Some d → has_id x.channels on d ≡ true → Speaks t.message (SubId (wire_of g)) → meant_by n.subscriptions g ≡ On (channel_number n d.channel) (Subscribe number) → named (SubId (wire_of g)) s.intent ≡ Some number
  number-so g d number there has speaks meant =
      let own = holds.subscriptions.own g d there has in
      let means = read-means (Awaits c kept) c t (SubId (wire_of g)) own.0 own.1 flows at speaks own.2 in
      let same : means.0 ≡ s = At-one c.up t.place means.0 s means.1 sent in
      sym (ap (λ (z : Sent). named (SubId (wire_of g)) z.intent) same) ∙ means.2 ∙ sym own.3 ∙ ap (named (SubId (wire_of g))) meant

  cancelled-stage : (stage : Stage) → is_cancelled_in on stage ≡ true → stage ≡ Cancelled on
  cancelled-stage Stands is = absurd (both_ways false refl is)
  cancelled-stage (Cancelled o) is = ap (λ (z : Handle). Cancelled z) (same-is o on is)
  cancelled-stage (Ended o) is = absurd (both_ways false refl is)

  drains : (stage : Stage) → is_cancelled_in on stage ≡ true → drains_in on stage ≡ true
  drains Stands is = is
  drains (Cancelled o) is = is
  drains (Ended o) is = absurd (both_ways false refl is)

  no-subscribe : (a b m k : ℕ) → On a (Cancel m) ≡ On b (Subscribe k) → ⊥
  no-subscribe a b m k e = cc

  -- the confirmation of an EVENT_CANCEL
  pub confirms-so : (q : Handle) (channel number : ℕ) → Is command.EventAdd t.message → confirmed_by on t.message.p2 x.subscriptions ≡ Some q → s.intent ≡ On channel (Cancel number) → IsLastCancel c t.place (SubId (wire_of q)) number
  confirms-so q channel number adds finds cancels =
      let found = confirmed-is on t.message.p2 x.subscriptions q finds in
      let d : Subscription = found.0 in
      let w = tidy.subscriptions q d found.1 in
      let has : has_id x.channels on d ≡ true = or_left (drains_in on d.stage) (stands_in d.stage && unwrap_or (option_map (is_on_in is_subscribed on) (under x.channels d.channel)) false) (drains d.stage found.3) in
      let speaks : Speaks t.message (SubId (wire_of q)) = inl (adds, sym found.2) in
      let m_is : w.0 ≡ number = some_is w.0 number (sym (number-so q d w.0 found.1 has speaks w.2) ∙ ap (named (SubId (wire_of q))) cancels) in
      let stage : StageIn on c.up w.0 (Cancelled on) = subst (λ (z : Stage). StageIn on c.up w.0 z) (cancelled-stage d.stage found.3) (quiet.subscriptions q d (channel_number n d.channel) w.0 found.1 w.2) in
      let being : IsBeingCancelled c.up number = subst (λ (z : ℕ). IsBeingCancelled c.up z) m_is (stage refl) in
      let here : t.place ≡ being.0 = being.4 t.place channel s sent cancels in
      λ p r place is. elim (sub-named (wire_of q) r.intent number is) [
        | inl subscribes ↦ inl ((let lt : p < being.0 = being.3 p subscribes.0 r place subscribes.1 in omega (arith, lt, here)), subscribes)
        | inr again ↦ inr (being.4 p again.0 r place again.1 ∙ sym here)
      ]

  -- an ERROR that refuses a subscription
  pub refuses-so : (h : Header) (q : Handle) → Is command.Error t.message → QuotesHeader t.message h → h.command ≡ command_number command.EventAdd → subscription_on x on h.p2 ≡ Some q
      → (number : ℕ) × Is command.EventAdd s.message × (named (SubId (wire_of q)) (meant_by n.subscriptions q) ≡ Some number) × ((p : ℕ) (r : Sent) (a : ℕ) → At c.up p r → r.intent ≡ On a (Cancel number) → ⊥)
  refuses-so h q is quotes adds finds =
      let found = heard-is x on h.p2 q finds in
      let d : Subscription = found.0 in
      let w = tidy.subscriptions q d found.1 in
      let none : NoCancel c.up w.0 = subst (λ (z : Stage). StageIn on c.up w.0 z) (standing-stage d.stage found.3) (quiet.subscriptions q d (channel_number n d.channel) w.0 found.1 w.2) in
      let speaks : Speaks t.message (SubId (wire_of q)) = subst (λ (z : ℕ). Speaks t.message (SubId z)) (sym found.2) (inr (is, (h, quotes.head, quotes.text, quotes.spells, quotes.parts, (adds, refl)))) in
      let said = number-so q d w.0 found.1 found.4 speaks w.2 in (
        w.0,
        elim (sub-named (wire_of q) s.intent w.0 said) [
          | inl subscribes ↦ subst (λ (i : Intent). Suits i s.message) subscribes.1 (flows.asked t.place s sent)
          | inr cancels ↦ absurd (none t.place cancels.0 s sent cancels.1)
        ],
        ap (named (SubId (wire_of q))) w.2,
        λ p r a place cancels. none p a r place cancels,
      )
