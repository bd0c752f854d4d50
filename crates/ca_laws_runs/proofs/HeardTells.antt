-- Each notice of a client says what the message that it read means, of what was meant by the
-- message that this is about.
use Rattle.std.proofs.Common.{◌≡◌, ℕ, zero, suc, ◌≤◌, ◌⊎◌, inl, inr, Bool, true, false, cond, eqb, List, [], ◌∷◌, length, Option, Some, None, refl, sym, ap, ◌∙◌, subst, arith}
use Rattle.std.proofs.lemmas.Bool.{eqb-true}
use Rattle.ca_text.specs.Command.{command_number}
use Rattle.ca_text.specs.declared.command.Command.TheVariants as command
use Rattle.ca_text.specs.Place.{At}
use Rattle.ca_text.proofs.Places.{At-mapped, At-one, At-parts, some_is}
use Rattle.ca_arena.specs.declared.handle.Handle.{Handle}
use Rattle.ca_dbr.specs.declared.value.Outcome.TheVariants as outcome
use Rattle.ca_ids.specs.Table.{under}
use Rattle.ca_ids.specs.Wire.{wire_of}
use Rattle.ca_monitor.specs.Subscriptions.{Stage, Stands, Subscription, confirmed_by}
use Rattle.ca_requests.specs.Meaning.{Means, QuotesHeader}
use Rattle.ca_requests.specs.Requests.{Asked, Request, answered_by, asks_on, command_of, in_order_of_issue, was_sent_on}
use Rattle.ca_requests.specs.Requests as request
use Rattle.ca_requests.proofs.Meanings.{means-of}
use Rattle.ca_wire.specs.declared.header.Header.{Header}
use Rattle.ca_wire.specs.Fields.{Fields}
use Rattle.ca_model.specs.Answers.{Notice}
use Rattle.ca_model.specs.Answers as notice
use Rattle.ca_model.specs.Client.{Channel, Clearing, Client, ClientCircuit, Connecting, Connection, Creating, Doomed, Leaving, Live, Phase, channel_on, circuit_to, disconnections}
use Rattle.ca_model.specs.Ends.{Address}
use Rattle.ca_model.specs.Hears.{Answers, Completes, Effect, Fails, FindsAt, Hears, PutsOn, Updates, any_failed, clear_answered, confirmed, created, failed, found_at, subscription_on, left, put_on, request_failed, rights_told, searched_by, subscription_failed, write_failed}
use Rattle.ca_model.specs.Hears as hears
use Rattle.ca_model.specs.History.{Circuit, Create, Intent, On, Sent, Subscribe, Told}
use Rattle.ca_model.specs.History as history
use Rattle.ca_model.specs.Speech.{Cid, Gives, Ioid, Is, Speaks, SubId}
use Rattle.ca_model.specs.Channels.{named}
use Rattle.ca_model.proofs.Thinner.{three-ways}
use Rattle.ca_model.specs.ClientEvents.{channel_number, meant_by}
use Rattle.ca_model.specs.World.{Names}
use Rattle.ca_laws_parts.specs.Flows.{Awaits, Flows}
use Rattle.ca_laws_parts.specs.Held.{Holds, has_id, is_asked}
use Rattle.ca_laws_parts.specs.Speaks.{AllHeld, RequestFits}
use Rattle.ca_laws_parts.proofs.CircuitHeard.{answered-is}
use Rattle.ca_laws_parts.proofs.Refused.{heard-is, sub-named}
use Rattle.ca_laws_parts.proofs.Settled.{ioid-gives, read-means}
use Rattle.ca_laws_parts.specs.Circuit.{AreCids}
use Rattle.ca_laws_runs.proofs.Found.{found-intent}
use Rattle.ca_laws_runs.specs.Quiet.{IsNamedIn, NoCancel, Quiet, StageIn, Tidy}
use Rattle.ca_laws_runs.specs.Tells.{IsOnChannel, TellsOwn}
use Rattle.ca_laws_runs.proofs.Heard.{created-before, number-so, phase-so, request-named}
use Rattle.ca_laws_runs.proofs.Phased.{standing-stage}
use Rattle.ca_laws_runs.proofs.Says.{asked-at, subscribed-at}

none-at : {A : Type 0} (i : ℕ) (x : A) → (let xs : List A = [] in At xs i x) → ⊥
none-at i x at = cc

only-one : {A : Type 0} (P : A → Type 0) (y x : A) (i : ℕ) → At (y ∷ []) i x → P y → P x
only-one P y x zero at p = subst P (some_is y x at) p
only-one P y x (suc i) at p = absurd (none-at i x at)

abbrev intent-in : Handle × Intent → Intent
intent-in e = e.1

-- a search reply reports nothing
silent-put : (c : Handle) (o : Option Connection) (h : Handle) (here : Channel) (x : Client) → (put_on c o h here x).notices ≡ []
silent-put c (Some d) h here x = refl
silent-put c None h here x = refl

silent-puts : (x : Client) (address : Address) (h : Handle) (here : Channel) (o : Option (Handle × ClientCircuit)) (e : Effect) → PutsOn x address h here o e → e.notices ≡ []
silent-puts x address h here (Some (c, d)) e is = ap (λ (w : Effect). w.notices) is ∙ silent-put c d.connection h here x
silent-puts x address h here None e is = elim is [
  | inl new ↦ ap (λ (w : Effect). w.notices) new.2
  | inr full ↦ ap (λ (w : Effect). w.notices) full.1
]

pub silent-finds : (x : Client) (address : Address) (o : Option (Handle × Channel)) (e : Effect) → FindsAt x address o e → e.notices ≡ []
silent-finds x address None e is = ap (λ (w : Effect). w.notices) is
silent-finds x address (Some (h, here)) e is = silent-puts x address h here (circuit_to address here.priority x) e is

module _ (kept : List ℕ) (n : Names) (x : Client) (on : Handle) (c : Circuit) (t : Told) (s : Sent) (tidy : Tidy n x) (quiet : Quiet n x on c.up) (flows : Flows (Awaits c kept) c) (cids : AreCids n c) (holds : Holds (Awaits c kept) on n x c)
    (at : At c.down (length c.heard) t) (sent : At c.up t.place s) (asked : (cid : ℕ) (h : Handle) (p : Phase) → channel_on x on cid ≡ Some (h, p) → is_asked p ≡ true) (plain : AllHeld RequestFits x.requests) where
  -- a request that it finds was meant by what it is about
  request-of : (q : Handle) (r : Request) → under x.requests q ≡ Some r → was_sent_on on r ≡ true → Speaks t.message (Ioid (wire_of q)) → meant_by n.requests q ≡ s.intent
  request-of q r there here speaks =
      let own = holds.requests.own q r there here in
      let means = read-means (Awaits c kept) c t (Ioid (wire_of q)) own.0 own.1 flows at speaks own.2 in
      let same : means.0 ≡ s = At-one c.up t.place means.0 s means.1 sent in
      let said : named (Ioid (wire_of q)) s.intent ≡ Some own.1 = sym (ap (λ (z : Sent). named (Ioid (wire_of q)) z.intent) same) ∙ means.2 in
      let g = ioid-gives c.up t.place (wire_of q) (flows.concerns (length c.heard) t (Ioid (wire_of q)) at speaks) in
      let gives : Gives s.message (Ioid (wire_of q)) = subst (λ (z : Sent). Gives z.message (Ioid (wire_of q))) (At-one c.up t.place g.0 s g.1 sent) g.2 in
      let other = request-named n s.message (wire_of q) own.1 s.intent (flows.asked t.place s sent) gives said (quiet.named t.place s sent) in
      let w = tidy.requests q r there in
      let m_is : w.1 ≡ own.1 = some_is w.1 own.1 (ap (named (Ioid (wire_of q))) (sym w.3) ∙ own.3) in
      let mine : At n.requests own.1 (q, On (channel_number n r.channel) (history.Request w.0 w.1)) =
      subst (λ (z : ℕ). At n.requests z (q, On (channel_number n r.channel) (history.Request w.0 w.1))) m_is (asked-at n x q (channel_number n r.channel) w.1 w.0 tidy w.3) in
      let one = At-one n.requests own.1 (q, On (channel_number n r.channel) (history.Request w.0 w.1)) (other.0, s.intent) mine other.1 in
      w.3 ∙ ap intent-in one

  -- and a subscription that stands
  subscription-of : (g : Handle) (d : Subscription) → under x.subscriptions g ≡ Some d → has_id x.channels on d ≡ true → d.stage ≡ Stands → Speaks t.message (SubId (wire_of g)) → meant_by n.subscriptions g ≡ s.intent
  subscription-of g d there has stage speaks =
      let w = tidy.subscriptions g d there in
      let said = number-so kept n x on c t s tidy quiet flows cids holds at sent g d w.0 there has speaks w.2 in
      let none : NoCancel c.up w.0 = subst (λ (z : Stage). StageIn on c.up w.0 z) stage (quiet.subscriptions g d (channel_number n d.channel) w.0 there w.2) in
      elim (sub-named (wire_of g) s.intent w.0 said) [
        | inl adds ↦
            let name : IsNamedIn n (On adds.0 (Subscribe w.0)) = subst (λ (i : Intent). IsNamedIn n i) adds.1 (quiet.named t.place s sent) in
            let one = At-one n.subscriptions w.0 (g, On (channel_number n d.channel) (Subscribe w.0)) (name.0, On adds.0 (Subscribe w.0)) (subscribed-at n x g (channel_number n d.channel) w.0 tidy w.2) name.1 in
            w.2 ∙ ap intent-in one ∙ sym adds.1
        | inr cancels ↦ absurd (none t.place cancels.0 s sent cancels.1)
      ]

  channel-of : (cid : ℕ) (h : Handle) (p : Phase) → channel_on x on cid ≡ Some (h, p) → Speaks t.message (Cid cid) → IsOnChannel (channel_number n h) s.intent
  channel-of cid h p found speaks = found-intent kept n x on c t s cid h p holds.channels flows at sent speaks found (asked cid h p found)

  -- a channel that is being created: its CREATE_CHAN
  creation-of : (cid : ℕ) (h : Handle) (rights : ℕ) → channel_on x on cid ≡ Some (h, Creating rights) → Speaks t.message (Cid cid) → s.intent ≡ On (channel_number n h) Create
  creation-of cid h rights found speaks =
      let b = phase-so kept n x on c t s tidy quiet flows cids holds at sent cid h (Creating rights) found in
      let le : b.0 ≤ t.place = created-before kept n x on c t s tidy quiet flows cids holds at sent cid h (Creating rights) b.0 found speaks b.1 in
      let r = channel-of cid h (Creating rights) found speaks in
      elim (three-ways b.0 t.place) [
        | inl lt ↦ absurd (b.2 t.place s r.0 lt sent r.1)
        | inr (inl same) ↦
            let one : b.1.0 ≡ s = At-one c.up t.place b.1.0 s (subst (λ (z : ℕ). At c.up z b.1.0) same b.1.1) sent in
            sym (ap (λ (z : Sent). z.intent) one) ∙ b.1.2
        | inr (inr lt) ↦ absurd (omega (arith, lt, le))
      ]

  abbrev m : Fields
  m = t.message

  abbrev Tells : Effect → Type 0
  Tells e = (i : ℕ) (o : Notice) → At e.notices i o → TellsOwn n m s o

  silent : (e : Effect) → e.notices ≡ [] → Tells e
  silent e is i o place = absurd (none-at i o (subst (λ (l : List Notice). At l i o) is place))

  one-told : (e : Effect) (o : Notice) → e.notices ≡ o ∷ [] → TellsOwn n m s o → Tells e
  one-told e o is tells i p place = only-one (λ (z : Notice). TellsOwn n m s z) o p i (subst (λ (l : List Notice). At l i p) is place) tells

  made-of : (e f : Effect) → e ≡ f → e.notices ≡ f.notices
  made-of e f is = ap (λ (w : Effect). w.notices) is

  -- ---- channels

  tells-rights : (e : Effect) (o : Option (Handle × Phase)) → e ≡ rights_told x on m o → Tells e
  tells-rights e None is = silent e (made-of e _ is)
  tells-rights e (Some (h, Connecting)) is = silent e (made-of e _ is)
  tells-rights e (Some (h, Creating rights)) is = silent e (made-of e _ is)
  tells-rights e (Some (h, Live native rights)) is = silent e (made-of e _ is)
  tells-rights e (Some (h, Leaving)) is = silent e (made-of e _ is)
  tells-rights e (Some (h, Clearing)) is = silent e (made-of e _ is)
  tells-rights e (Some (h, Doomed)) is = silent e (made-of e _ is)

  tells-created : (e : Effect) (o : Option (Handle × Phase)) → Is command.CreateChannel m → channel_on x on m.p1 ≡ o → e ≡ created x on m o → Tells e
  tells-created e None creates found is = silent e (made-of e _ is)
  tells-created e (Some (h, Connecting)) creates found is = silent e (made-of e _ is)
  tells-created e (Some (h, Live native rights)) creates found is = silent e (made-of e _ is)
  tells-created e (Some (h, Leaving)) creates found is = silent e (made-of e _ is)
  tells-created e (Some (h, Clearing)) creates found is = silent e (made-of e _ is)
  tells-created e (Some (h, Doomed)) creates found is = silent e (made-of e _ is)
  tells-created e (Some (h, Creating rights)) creates found is = one-told e (notice.Live h) (made-of e _ is) (creation-of m.p1 h rights found (inl (inl (inl creates, refl))), inr (inr (inl (creates, tt))))

  tells-failed : (e : Effect) (o : Option (Handle × Phase)) → e ≡ failed x o → Tells e
  tells-failed e None is = silent e (made-of e _ is)
  tells-failed e (Some (h, Connecting)) is = silent e (made-of e _ is)
  tells-failed e (Some (h, Creating rights)) is = silent e (made-of e _ is)
  tells-failed e (Some (h, Live native rights)) is = silent e (made-of e _ is)
  tells-failed e (Some (h, Leaving)) is = silent e (made-of e _ is)
  tells-failed e (Some (h, Clearing)) is = silent e (made-of e _ is)
  tells-failed e (Some (h, Doomed)) is = silent e (made-of e _ is)

  tells-answered : (e : Effect) (o : Option (Handle × Phase)) → e ≡ clear_answered x on o → Tells e
  tells-answered e None is = silent e (made-of e _ is)
  tells-answered e (Some (h, Connecting)) is = silent e (made-of e _ is)
  tells-answered e (Some (h, Creating rights)) is = silent e (made-of e _ is)
  tells-answered e (Some (h, Live native rights)) is = silent e (made-of e _ is)
  tells-answered e (Some (h, Leaving)) is = silent e (made-of e _ is)
  tells-answered e (Some (h, Clearing)) is = silent e (made-of e _ is)
  tells-answered e (Some (h, Doomed)) is = silent e (made-of e _ is)

  tells-left : (e : Effect) (o : Option (Handle × Phase)) → Is command.ServerDisconnect m → channel_on x on m.p1 ≡ o → e ≡ left x on o → Tells e
  tells-left e None leaves found is = silent e (made-of e _ is)
  tells-left e (Some (h, Connecting)) leaves found is = silent e (made-of e _ is)
  tells-left e (Some (h, Creating rights)) leaves found is = silent e (made-of e _ is)
  tells-left e (Some (h, Leaving)) leaves found is = silent e (made-of e _ is)
  tells-left e (Some (h, Clearing)) leaves found is = silent e (made-of e _ is)
  tells-left e (Some (h, Doomed)) leaves found is = silent e (made-of e _ is)
  tells-left e (Some (h, Live native rights)) leaves found is = λ i o place.
      elim (At-parts (disconnections (asks_on h) x) (notice.Lost h ∷ []) i o (subst (λ (l : List Notice). At l i o) (made-of e _ is) place)) [
        | inl old ↦
            let r = At-mapped (λ (q : Handle). notice.Completed q outcome.Disconnected) (in_order_of_issue (asks_on h) x.requests x.issued) i o old in
            subst (λ (z : Notice). TellsOwn n m s z) (sym r.2) (inr (refl, leaves))
        | inr last ↦ only-one (λ (z : Notice). TellsOwn n m s z) (notice.Lost h) o last.0 last.2 (channel-of m.p1 h (Live native rights) found (inl (inl (inr (inr (inr leaves)), refl))), leaves)
      ]

  -- ---- requests and subscriptions

  asks-so : (a : Asked) (b : ℕ) → command_number (command_of a) ≡ b → (b ≡ 15) ⊎ (b ≡ 19)
  asks-so (request.Read data_type count) b is = inl (sym is)
  asks-so request.Put b is = inr (sym is)

  tells-reply : (e : Effect) (o : Option (Handle × Request)) → Is command.ReadNotify m ⊎ Is command.WriteNotify m → answered_by on m.command m.p2 x.requests ≡ o → Answers x m o e → Tells e
  tells-reply e None is found does = silent e (made-of e _ does)
  tells-reply e (Some (q, r)) is found does = go r.stage does
    where
      go : (stage : request.Stage) → Completes x m q r.asked stage e → Tells e
      go request.Open done =
          let f = answered-is on m.command m.p2 x.requests q r found in
          let speaks : Speaks m (Ioid (wire_of q)) = inl (is, sym f.1) in
          one-told e (notice.Completed q done.0) (made-of e _ done.2) (inl (request-of q r f.0 f.2 speaks, means-of r.asked m done.0 (plain q r f.0) done.1))
      go request.Draining done = silent e (made-of e _ done)

  tells-confirmed : (e : Effect) (o : Option Handle) → e ≡ confirmed x o → Tells e
  tells-confirmed e None is = silent e (made-of e _ is)
  tells-confirmed e (Some g) is = silent e (made-of e _ is)

  tells-update : (e : Effect) (o : Option Handle) → Is command.EventAdd m → subscription_on x on m.p2 ≡ o → Updates x m o e → Tells e
  tells-update e None adds found does = silent e (made-of e _ does)
  tells-update e (Some g) adds found does =
      let f = heard-is x on m.p2 g found in
      one-told e (notice.Update g does.0) (made-of e _ does.2) (subscription-of g f.0 f.1 f.4 (standing-stage (f.0).stage f.3) (inl (adds, sym f.2)), does.1)

  -- ---- ERROR

  error-means : Is command.Error m → Means m (outcome.Failed (record { number = m.p2 }))
  error-means is = inr (inr (inr (is, refl)))

  tells-write : (h : Header) (e : Effect) (o : Option (Handle × Phase)) → Is command.Error m → QuotesHeader m h → h.command ≡ 4 → channel_on x on m.p1 ≡ o → e ≡ write_failed x m o → Tells e
  tells-write h e None errs quotes writes found is = silent e (made-of e _ is)
  tells-write h e (Some (g, Connecting)) errs quotes writes found is = silent e (made-of e _ is)
  tells-write h e (Some (g, Creating rights)) errs quotes writes found is = silent e (made-of e _ is)
  tells-write h e (Some (g, Leaving)) errs quotes writes found is = silent e (made-of e _ is)
  tells-write h e (Some (g, Clearing)) errs quotes writes found is = silent e (made-of e _ is)
  tells-write h e (Some (g, Doomed)) errs quotes writes found is = silent e (made-of e _ is)
  tells-write h e (Some (g, Live native rights)) errs quotes writes found is =
      one-told e (notice.WriteRefused g (record { number = m.p2 })) (made-of e _ is)
      (channel-of m.p1 g (Live native rights) found (inr (errs, (h, quotes.head, quotes.text, quotes.spells, quotes.parts, (writes, refl)))), error-means errs)

  tells-refused : (h : Header) (e : Effect) (o : Option Handle) → Is command.Error m → QuotesHeader m h → h.command ≡ 1 → subscription_on x on h.p2 ≡ o → e ≡ subscription_failed x m o → Tells e
  tells-refused h e None errs quotes adds found is = silent e (made-of e _ is)
  tells-refused h e (Some g) errs quotes adds found is =
      let f = heard-is x on h.p2 g found in
      let speaks : Speaks m (SubId (wire_of g)) = inr (errs, (h, quotes.head, quotes.text, quotes.spells, quotes.parts, (adds, sym f.2))) in
      one-told e (notice.SubscriptionEnded g (record { number = m.p2 })) (made-of e _ is) (subscription-of g f.0 f.1 f.4 (standing-stage (f.0).stage f.3) speaks, error-means errs)

  tells-any : (h : Header) (e : Effect) (o : Option (Handle × Request)) → Is command.Error m → QuotesHeader m h → answered_by on h.command h.p2 x.requests ≡ o → e ≡ any_failed x m o → Tells e
  tells-any h e None errs quotes found is = silent e (made-of e _ is)
  tells-any h e (Some (q, r)) errs quotes found is = go r.stage is
    where
      go : (stage : request.Stage) → e ≡ request_failed x m q stage → Tells e
      go request.Open done =
          let f = answered-is on h.command h.p2 x.requests q r found in
          let speaks : Speaks m (Ioid (wire_of q)) = inr (errs, (h, quotes.head, quotes.text, quotes.spells, quotes.parts, (asks-so r.asked h.command f.3, sym f.1))) in
          one-told e (notice.Completed q (outcome.Failed (record { number = m.p2 }))) (made-of e _ done) (inl (request-of q r f.0 f.2 speaks, error-means errs))
      go request.Draining done = silent e (made-of e _ done)

  tells-error : (e : Effect) → Is command.Error m → Fails x on m e → Tells e
  tells-error e errs fails = elim fails [
    | inr not_whole ↦ silent e (made-of e _ not_whole.1)
    | inl whole ↦ by whole.0 whole.1 (eqb whole.0.command 4) (eqb whole.0.command 1) refl refl whole.2
  ]
    where
      by : (h : Header) → QuotesHeader m h → (a b : Bool) → eqb h.command 4 ≡ a → eqb h.command 1 ≡ b
          → e ≡ cond a (write_failed x m (channel_on x on m.p1)) (cond b (subscription_failed x m (subscription_on x on h.p2)) (any_failed x m (answered_by on h.command h.p2 x.requests))) → Tells e
      by h quotes true b writes adds does = tells-write h e (channel_on x on m.p1) errs quotes (eqb-true h.command 4 writes) refl does
      by h quotes false true writes adds does = tells-refused h e (subscription_on x on h.p2) errs quotes (eqb-true h.command 1 adds) refl does
      by h quotes false false writes adds does = tells-any h e (answered_by on h.command h.p2 x.requests) errs quotes refl does

  pub tells-so : (e : Effect) → Hears x on m e → Tells e
  tells-so e (hears.Search is d there finds) = silent e (silent-finds x (found_at d.address m) (searched_by m.p2 x) e finds)
  tells-so e (hears.AccessRights is does) = tells-rights e (channel_on x on m.p1) does
  tells-so e (hears.CreateChannel is does) = tells-created e (channel_on x on m.p1) is refl does
  tells-so e (hears.CreateChannelFail is does) = tells-failed e (channel_on x on m.p1) does
  tells-so e (hears.ClearChannel is does) = tells-answered e (channel_on x on m.p2) does
  tells-so e (hears.ServerDisconnect is does) = tells-left e (channel_on x on m.p1) is refl does
  tells-so e (hears.Reply is does) = tells-reply e (answered_by on m.command m.p2 x.requests) is refl does
  tells-so e (hears.Confirmation is empty does) = tells-confirmed e (confirmed_by on m.p2 x.subscriptions) does
  tells-so e (hears.Update is some does) = tells-update e (subscription_on x on m.p2) is refl does
  tells-so e (hears.Error is does) = tells-error e is does
  tells-so e (hears.Other is does) = silent e (made-of e _ does)
