-- A message that a client reads about a request or a subscription: what it does to
-- the client's tables.
use Rattle.std.proofs.Common.{◌≡◌, ℕ, ◌⊎◌, inl, inr, Bool, true, false, ◌&&◌, ◌||◌, cond, eqb, List, [], Option, Some, None, refl, sym, ap, ◌∙◌, subst, arith}
use Rattle.std.specs.Prelude.{option_map, unwrap_or}
use Rattle.std.proofs.lemmas.Bool.{both_ways, cases_Bool, eqb-true}
use Rattle.ca_text.specs.Command.{command_number}
use Rattle.ca_text.specs.declared.command.Command.TheVariants as command
use Rattle.ca_arena.specs.declared.handle.Handle.{Handle}
use Rattle.ca_ids.specs.Table.{Table, same_handle, under}
use Rattle.ca_monitor.specs.Subscriptions.{Stage, Stands, Cancelled, Ended, Subscription, confirmed_by, drains_in, is_cancelled_in, stands_in}
use Rattle.ca_requests.specs.Requests.{Asked, Draining, Open, Put, Read, Request, answered_by, command_of, was_sent_on}
use Rattle.ca_requests.specs.Requests as request
use Rattle.ca_requests.specs.Meaning.{QuotesHeader}
use Rattle.ca_wire.specs.Fields.{Fields}
use Rattle.ca_wire.specs.declared.header.Header.{Header}
use Rattle.ca_model.specs.Client.{Channel, Client, Clearing, Connecting, Creating, Doomed, Leaving, Live, Phase, channel_on, is_on_in}
use Rattle.ca_model.specs.Hears.{Answers, Completes, Effect, Fails, Updates, any_failed, confirmed, doing, subscription_on, request_failed, subscription_failed, without_request, without_subscription, write_failed}
use Rattle.ca_model.specs.History.{Circuit, Step}
use Rattle.ca_model.specs.History as history
use Rattle.ca_model.specs.Speech.{Ioid, SubId, Is, Speaks}
use Rattle.ca_model.specs.World.{Names}
use Rattle.ca_laws_parts.specs.Flows.{Awaits}
use Rattle.ca_laws_parts.specs.Held.{has_id, is_subscribed}
use Rattle.ca_laws_parts.proofs.Ended.{confirmation-heard, confirmed-is}
use Rattle.ca_laws_parts.proofs.Ends.{request-elsewhere, subscription-elsewhere}
use Rattle.ca_model.proofs.Standings.{on-one}
use Rattle.ca_model.proofs.Handles.{not-same, same-is}
use Rattle.ca_laws_parts.proofs.CircuitHeard.{answered-is, request-over}
use Rattle.ca_laws_parts.proofs.Refused.{heard-is, refusal-heard}
use Rattle.ca_laws_parts.specs.Circuit.{IsKnown}
use Rattle.ca_laws_parts.proofs.RunsHeard.{Did, nothing, quiet}

-- what was sent on one circuit was not sent on another
sent-elsewhere : (on other : Handle) (r : Request) → was_sent_on on r ≡ true → same_handle on other ≡ false → was_sent_on other r ≡ false
sent-elsewhere on other r here differ = subst (λ (k : Handle). same_handle k other ≡ false) (sym (same-is r.circuit on here)) differ

-- what was cancelled on one circuit has no id on another
cancelled-elsewhere : (on other : Handle) (t : Table Channel) (d : Subscription) → is_cancelled_in on d.stage ≡ true → same_handle on other ≡ false → has_id t other d ≡ false
cancelled-elsewhere on other t d here differ = go d.stage here
  where
    go : (s : Stage) → is_cancelled_in on s ≡ true → (drains_in other s || (stands_in s && unwrap_or (option_map (is_on_in is_subscribed other) (under t d.channel)) false)) ≡ false
    go Stands f = absurd (both_ways false refl f)
    go (Ended o) f = absurd (both_ways false refl f)
    go (Cancelled o) f = ap (λ (b : Bool). b || false) (subst (λ (k : Handle). same_handle k other ≡ false) (sym (same-is o on f)) differ)

-- what stands and has its id on one circuit has none on another
stands-elsewhere : (on other : Handle) (t : Table Channel) (d : Subscription) → stands_in d.stage ≡ true → has_id t on d ≡ true → same_handle on other ≡ false → has_id t other d ≡ false
stands-elsewhere on other t d stands has differ = elim (cases_Bool (has_id t other d)) [
  | inr none ↦ none
  | inl too ↦ absurd (not-same on other differ (go d.stage stands has too))
]
  where
    channels : (o : Option Channel) → unwrap_or (option_map (is_on_in is_subscribed on) o) false ≡ true → unwrap_or (option_map (is_on_in is_subscribed other) o) false ≡ true → on ≡ other
    channels (Some ch) a b = on-one is_subscribed is_subscribed on other ch a b
    channels None a b = absurd (both_ways false refl a)

    go : (s : Stage) → stands_in s ≡ true → (drains_in on s || (stands_in s && unwrap_or (option_map (is_on_in is_subscribed on) (under t d.channel)) false)) ≡ true
        → (drains_in other s || (stands_in s && unwrap_or (option_map (is_on_in is_subscribed other) (under t d.channel)) false)) ≡ true → on ≡ other
    go Stands f a b = channels (under t d.channel) a b
    go (Cancelled o) f a b = absurd (both_ways false refl f)
    go (Ended o) f a b = absurd (both_ways false refl f)

module _ (kept : List ℕ) (on : Handle) (n : Names) (x : Client) (c : Circuit) (g : Step) where
  -- a request ends, by a message that speaks of its IOID
  ended-did : (m : Fields) (q : Handle) (r : Request) (command_read ioid : ℕ) (notices : List _) (e : Effect) → IsKnown n x on c m → ((k : IsKnown n x on c m) → k.t.cause ≡ history.Reply) → ((k : IsKnown n x on c m) → Speaks k.t.message (Ioid ioid)) → answered_by on command_read ioid x.requests ≡ Some (q, r)
      → e ≡ doing [] notices (without_request q x) → Did kept on n x c g e
  ended-did m q r command_read ioid notices e k cause speaks finds is =
      let found = answered-is on command_read ioid x.requests q r finds in
      quiet kept on n x c g (without_request q x) notices e is (λ other differ. request-elsewhere other x q r found.0 (sent-elsewhere on other r found.2 differ))
      (λ f holds. (request-over (Awaits c kept) on n x c g k.t k.s q r command_read ioid f holds k.at (cause k) (speaks k) k.there finds).0)

  reply-cause : (m : Fields) → Is command.ReadNotify m ⊎ Is command.WriteNotify m → (k : IsKnown n x on c m) → k.t.cause ≡ history.Reply
  reply-cause m is k = elim is [
    | inl reads ↦ k.reply (λ e. (let f : ◌≡◌ {A = ℕ} 15 22 = sym reads ∙ e in omega (arith, f))) (λ e. (let f : ◌≡◌ {A = ℕ} 15 27 = sym reads ∙ e in omega (arith, f))) (λ e. (let f : ◌≡◌ {A = ℕ} 15 1 = sym reads ∙ e in absurd (omega (arith, f))))
    | inr puts ↦ k.reply (λ e. (let f : ◌≡◌ {A = ℕ} 19 22 = sym puts ∙ e in omega (arith, f))) (λ e. (let f : ◌≡◌ {A = ℕ} 19 27 = sym puts ∙ e in omega (arith, f))) (λ e. (let f : ◌≡◌ {A = ℕ} 19 1 = sym puts ∙ e in absurd (omega (arith, f))))
  ]

  -- READ_NOTIFY and WRITE_NOTIFY
  pub reply-did : (m : Fields) (e : Effect) (o : Option (Handle × Request)) → Is command.ReadNotify m ⊎ Is command.WriteNotify m → IsKnown n x on c m → answered_by on m.command m.p2 x.requests ≡ o → Answers x m o e → Did kept on n x c g e
  reply-did m e None is k at answers = nothing kept on n x c g [] e answers
  reply-did m e (Some (q, r)) is k at answers = go r.stage answers
    where
      speaks : (k : IsKnown n x on c m) → Speaks k.t.message (Ioid m.p2)
      speaks k = subst (λ (w : Fields). Speaks w (Ioid m.p2)) (sym k.is) (inl (is, refl))

      go : (s : request.Stage) → Completes x m q r.asked s e → Did kept on n x c g e
      go Open done = ended-did m q r m.command m.p2 _ e k (reply-cause m is) speaks at done.2
      go Draining done = ended-did m q r m.command m.p2 [] e k (reply-cause m is) speaks at done

  -- a confirmation
  pub confirmed-did : (m : Fields) (e : Effect) (o : Option Handle) → Is command.EventAdd m → m.payload ≡ [] → IsKnown n x on c m → confirmed_by on m.p2 x.subscriptions ≡ o → e ≡ confirmed x o → Did kept on n x c g e
  confirmed-did m e None adds empty k at is = nothing kept on n x c g [] e is
  confirmed-did m e (Some q) adds empty k at is =
      let found = confirmed-is on m.p2 x.subscriptions q at in
      let own = k.confirms q adds empty at in
      quiet kept on n x c g (without_subscription q x) [] e is (λ other differ. subscription-elsewhere other x q found.0 found.1 (cancelled-elsewhere on other x.channels found.0 found.3 differ))
      (λ f holds.
      confirmation-heard (Awaits c kept) on n x c g k.t k.s q own.0 own.1 f holds k.own k.at
      (k.reply (λ e. (let f : ◌≡◌ {A = ℕ} 1 22 = sym adds ∙ e in omega (arith, f))) (λ e. (let f : ◌≡◌ {A = ℕ} 1 27 = sym adds ∙ e in omega (arith, f))) (λ e. empty))
      (subst (λ (w : Fields). Is command.EventAdd w) (sym k.is) adds) k.there own.2 (subst (λ (w : Fields). confirmed_by on w.p2 x.subscriptions ≡ Some q) (sym k.is) at) own.3)

  -- an update
  pub update-did : (m : Fields) (e : Effect) (o : Option Handle) → Updates x m o e → Did kept on n x c g e
  update-did m e None is = nothing kept on n x c g [] e is
  update-did m e (Some q) is = nothing kept on n x c g _ e is.2

  -- ---- ERROR

  write-did : (m : Fields) (e : Effect) (o : Option (Handle × Phase)) → e ≡ write_failed x m o → Did kept on n x c g e
  write-did m e None is = nothing kept on n x c g [] e is
  write-did m e (Some (h, Connecting)) is = nothing kept on n x c g [] e is
  write-did m e (Some (h, Creating rights)) is = nothing kept on n x c g [] e is
  write-did m e (Some (h, Live native rights)) is = nothing kept on n x c g _ e is
  write-did m e (Some (h, Leaving)) is = nothing kept on n x c g [] e is
  write-did m e (Some (h, Clearing)) is = nothing kept on n x c g [] e is
  write-did m e (Some (h, Doomed)) is = nothing kept on n x c g [] e is

  error-cause : (m : Fields) → Is command.Error m → (k : IsKnown n x on c m) → k.t.cause ≡ history.Reply
  error-cause m is k =
      k.reply (λ e. (let f : ◌≡◌ {A = ℕ} 11 22 = sym is ∙ e in omega (arith, f))) (λ e. (let f : ◌≡◌ {A = ℕ} 11 27 = sym is ∙ e in omega (arith, f))) (λ e. (let f : ◌≡◌ {A = ℕ} 11 1 = sym is ∙ e in absurd (omega (arith, f))))

  refused-did : (m : Fields) (h : Header) (e : Effect) (o : Option Handle) → Is command.Error m → QuotesHeader m h → h.command ≡ 1 → IsKnown n x on c m → subscription_on x on h.p2 ≡ o → e ≡ subscription_failed x m o → Did kept on n x c g e
  refused-did m h e None is quotes adds k at does = nothing kept on n x c g [] e does
  refused-did m h e (Some q) is quotes adds k at does =
      let found = heard-is x on h.p2 q at in
      let own = k.refuses h q is quotes adds at in
      let speaks : Speaks k.t.message (SubId h.p2) = subst (λ (w : Fields). Speaks w (SubId h.p2)) (sym k.is) (inr (is, (h, quotes.head, quotes.text, quotes.spells, quotes.parts, (adds, refl)))) in
      quiet kept on n x c g (without_subscription q x) _ e does (λ other differ. subscription-elsewhere other x q found.0 found.1 (stands-elsewhere on other x.channels found.0 found.3 found.4 differ))
      (λ f holds. (refusal-heard (Awaits c kept) on n x c g k.t k.s q h.p2 own.0 f holds k.at (error-cause m is k) k.there own.1 speaks at own.2 own.3).0)

  -- the commands of requests
  asks-so : (a : Asked) (b : ℕ) → command_number (command_of a) ≡ b → (b ≡ 15) ⊎ (b ≡ 19)
  asks-so (Read data_type count) b is = inl (sym is)
  asks-so Put b is = inr (sym is)

  any-did : (m : Fields) (h : Header) (e : Effect) (o : Option (Handle × Request)) → Is command.Error m → QuotesHeader m h → IsKnown n x on c m → answered_by on h.command h.p2 x.requests ≡ o → e ≡ any_failed x m o → Did kept on n x c g e
  any-did m h e None is quotes k at does = nothing kept on n x c g [] e does
  any-did m h e (Some (q, r)) is quotes k at does = go r.stage does
    where
      speaks : (k : IsKnown n x on c m) → Speaks k.t.message (Ioid h.p2)
      speaks k =
          let found = answered-is on h.command h.p2 x.requests q r at in
          subst (λ (w : Fields). Speaks w (Ioid h.p2)) (sym k.is) (inr (is, (h, quotes.head, quotes.text, quotes.spells, quotes.parts, (asks-so r.asked h.command found.3, refl))))

      go : (s : request.Stage) → e ≡ request_failed x m q s → Did kept on n x c g e
      go Open done = ended-did m q r h.command h.p2 _ e k (error-cause m is) speaks at done
      go Draining done = nothing kept on n x c g [] e done

  pub error-did : (m : Fields) (e : Effect) → Is command.Error m → IsKnown n x on c m → Fails x on m e → Did kept on n x c g e
  error-did m e is k fails = elim fails [
    | inr not_whole ↦ nothing kept on n x c g [] e not_whole.1
    | inl whole ↦ by whole.0 whole.1 (eqb whole.0.command 4) (eqb whole.0.command 1) refl whole.2
  ]
    where
      by : (h : Header) → QuotesHeader m h → (a b : Bool) → eqb h.command 1 ≡ b
          → e ≡ cond a (write_failed x m (channel_on x on m.p1)) (cond b (subscription_failed x m (subscription_on x on h.p2)) (any_failed x m (answered_by on h.command h.p2 x.requests))) → Did kept on n x c g e
      by h quotes true b adds does = write-did m e (channel_on x on m.p1) does
      by h quotes false true adds does = refused-did m h e (subscription_on x on h.p2) is quotes (eqb-true h.command 1 adds) k refl does
      by h quotes false false adds does = any-did m h e (answered_by on h.command h.p2 x.requests) is quotes k refl does
