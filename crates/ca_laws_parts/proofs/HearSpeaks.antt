-- All that a client sends as it hears a message are messages, and its core fits
-- messages after that.
use Rattle.std.proofs.Common.{◌≡◌, ℕ, zero, suc, ◌^◌, ◌<◌, ◌≤◌, inl, inr, Bool, true, false, ◌==◌, ◌&&◌, cond, List, [], ◌∷◌, length, Option, Some, None, refl, sym, ap, ◌∙◌, subst}
use Rattle.std.specs.Prelude.{filter, option_and_then, option_map}
use Rattle.ca_arena.specs.declared.handle.Handle.{Handle}
use Rattle.ca_ids.specs.Table.{by_wire, held, same_handle, under, with_freed}
use Rattle.ca_ids.specs.Wire.{wire_of}
use Rattle.ca_monitor.specs.Subscriptions.{Stage, Subscription, is_to, standing_to, stands_in}
use Rattle.ca_monitor.specs.Subscriptions as monitor
use Rattle.ca_requests.specs.Requests.{Asked, Request, answered_by}
use Rattle.ca_requests.specs.Requests as request
use Rattle.ca_text.specs.Command.{command_number}
use Rattle.ca_text.specs.declared.command.Command.TheVariants as command
use Rattle.ca_text.specs.Limits.{channel_name_limit}
use Rattle.ca_text.specs.Place.{At}
use Rattle.ca_text.proofs.Places.{At-mapped, some_is}
use Rattle.ca_wire.specs.declared.header.Header.{Header}
use Rattle.ca_wire.specs.Fields.{Fields}
use Rattle.ca_wire.specs.Message.{IsMessage}
use Rattle.ca_model.specs.Answers.{Notice, Sending}
use Rattle.ca_model.specs.Client.{Channel, Client, ClientCircuit, Clearing, Connecting, Connection, Creating, Doomed, Leaving, Live, Native, On, Phase, Searching, Standing, channel_on, circuit_to, found_on, new_circuit, phase_on, searched_again, with_requests, with_standing, without_channel}
use Rattle.ca_laws_parts.specs.Held.{AreFew}
use Rattle.ca_model.proofs.Tables.{held-under}
use Rattle.ca_laws_parts.specs.Speaks.{SendsMessages, ChannelFits, CircuitFits, ClientFits, RequestFits, SpeaksWell, SubscriptionFits}
use Rattle.ca_laws_parts.proofs.Fits.{fits-circuits, fits-like, fits-sending, found-fits, gone-fits, holds-all-freed, holds-freed, holds-held, never-live, none-sent, not-clearing, one-more, over-fit, searched-fits, standing-fits, subscriptions-fit, wire-under}
use Rattle.ca_laws_parts.proofs.Speaks.{add-good, clear-good, create-good}
use Rattle.ca_model.proofs.Tables as circuit
use Rattle.ca_model.specs.Ends.{Address}
use Rattle.ca_model.specs.Hears.{Answers, Completes, Effect, FindsAt, Hears, PutsOn, Updates, any_failed, clear_answered, confirmed, create_sent, created, doing, event_adds, failed, failing, subscription_on, is_searched, left, native_in, put_on, request_failed, rights_told, searched_by, subscription_failed, with_circuit, without_drained, without_request, without_subscription, write_failed}
use Rattle.ca_model.specs.Hears as hears
use Rattle.ca_model.specs.ClientCalls.{event_add_sent}

abbrev paired : Handle → Phase → Handle × Phase
paired h p = (h, p)

-- what passes a test is in the list
pub filtered-at : {A : Type 0} (test : A → Bool) (xs : List A) (i : ℕ) (y : A) → At (filter test xs) i y → (k : ℕ) × At xs k y
filtered-at test [] i y at = absurd cc
filtered-at {A} test (x ∷ xs) i y at = go (test x) i at (λ k e. filtered-at test xs k y e)
  where
    go : (b : Bool) (k : ℕ) → At (cond b (x ∷ filter test xs) (filter test xs)) k y → ((k : ℕ) → At (filter test xs) k y → (l : ℕ) × At xs l y) → (l : ℕ) × At (x ∷ xs) l y
    go true zero there rest = (0, there)
    go true (suc k) there rest = (let r = rest k there in (suc r.0, r.1))
    go false k there rest = (let r = rest k there in (suc r.0, r.1))

-- ---- messages that are heard

module _ (x : Client) (few : AreFew x) (f : ClientFits x) where
  pub doing-speaks : (z : Client) (e : Effect) (sends : List Sending) (notices : List Notice) → ClientFits z → SendsMessages sends → e ≡ doing sends notices z → SpeaksWell e.core e.sent
  doing-speaks z e sends notices fits good is = subst (λ (q : Effect). SpeaksWell q.core q.sent) (sym is) (fits-sending sends z fits, good)

  pub quiet-speaks : (z : Client) (e : Effect) (notices : List Notice) → ClientFits z → e ≡ doing [] notices z → SpeaksWell e.core e.sent
  quiet-speaks z e notices fits is = doing-speaks z e [] notices fits none-sent is

  -- what a channel on a circuit is
  found-on : (c : Handle) (cid : ℕ) (h : Handle) (p : Phase) → channel_on x c cid ≡ Some (h, p) → (ch : Channel) × (under x.channels h ≡ Some ch) × ((d : Handle) × (ch.standing ≡ On d p))
  found-on c cid h p is = go (by_wire x.channels cid) refl is
    where
      phase : (e : Handle × Channel) (s : Standing) → e.1.standing ≡ s → option_map (λ (q : Phase). paired e.0 q) (phase_on c s) ≡ Some (h, p) → (e.0 ≡ h) × ((d : Handle) × (e.1.standing ≡ On d p))
      phase e Searching st q = absurd cc
      phase e (On d r) st q = go (same_handle d c) q
        where
          go : (b : Bool) → option_map (λ (q : Phase). paired e.0 q) (cond b (Some r) None) ≡ Some (h, p) → (e.0 ≡ h) × ((d : Handle) × (e.1.standing ≡ On d p))
          go true q = (let s = some_is (e.0, r) (h, p) q in (ap (λ (z : Handle × Phase). z.0) s, (d, st ∙ ap (λ (z : Handle × Phase). On d z.1) s)))
          go false q = absurd cc

      go : (o : Option (Handle × Channel)) → by_wire x.channels cid ≡ o → option_and_then (λ (e : Handle × Channel). option_map (λ (q : Phase). paired e.0 q) (phase_on c e.1.standing)) o ≡ Some (h, p)
          → (ch : Channel) × (under x.channels h ≡ Some ch) × ((d : Handle) × (ch.standing ≡ On d p))
      go None w q = absurd cc
      go (Some e) w q =
          let r = phase e e.1.standing refl q in
          (e.1, subst (λ (k : Handle). under x.channels k ≡ Some e.1) r.0 (circuit.wire-under x.channels cid e w).0, r.1)

  cid-fits : (c : Handle) (cid : ℕ) (h : Handle) (p : Phase) → channel_on x c cid ≡ Some (h, p) → wire_of h < 2 ^ 32
  cid-fits c cid h p is = (let r = found-on c cid h p is in wire-under x.channels h r.0 few.channels r.1)

  live-fits : (c : Handle) (cid : ℕ) (h : Handle) (n : Native) (r : ℕ) → channel_on x c cid ≡ Some (h, Live n r) → (n.sid < 2 ^ 32) × (n.count < 2 ^ 32)
  live-fits c cid h n r is = (let q = found-on c cid h (Live n r) is in (f.channels h q.0 q.1).native q.2.0 n r q.2.1)

  -- ---- search replies

  put-on-speaks : (z : Client) (c : Handle) (o : Option Connection) (h : Handle) (here : Channel) (e : Effect) → ClientFits z → wire_of h < 2 ^ 32 → length here.name ≤ channel_name_limit → e ≡ put_on c o h here z → SpeaksWell e.core e.sent
  put-on-speaks z c (Some d) h here e fits id name is = doing-speaks (found_on c (Creating 0) h z) e (create_sent c h here ∷ []) [] (found-fits c (Creating 0) h z not_creating fits) (one-more _ [] (create-good (wire_of h) here.name id name) none-sent) is
    where
      not_creating : (n : Native) (r : ℕ) → Creating 0 ≡ Live n r → ⊥
      not_creating n r e = cc
  put-on-speaks z c None h here e fits id name is = quiet-speaks (found_on c Connecting h z) e [] (found-fits c Connecting h z not_connecting fits) is
    where
      not_connecting : (n : Native) (r : ℕ) → Connecting ≡ Live n r → ⊥
      not_connecting n r e = cc

  puts-on-speaks : (a : Address) (h : Handle) (here : Channel) (o : Option (Handle × ClientCircuit)) (e : Effect) → wire_of h < 2 ^ 32 → ChannelFits here → PutsOn x a h here o e → SpeaksWell e.core e.sent
  puts-on-speaks a h here (Some (c, k)) e id fit is = put-on-speaks x c k.connection h here e f id fit.name is
  puts-on-speaks a h here None e id fit (inl made) =
      put-on-speaks (with_circuit made.0 (new_circuit a here.priority false) x) made.0 None h here e
      (fits-circuits x (with_circuit made.0 (new_circuit a here.priority false) x) refl refl refl refl (holds-held CircuitFits x.circuits made.0 _ made.1 f.circuits fit.priority) f.requests f) id fit.name made.2
  puts-on-speaks a h here None e id fit (inr full) = quiet-speaks x e [] f full.1

  pub finds-speaks : (a : Address) (cid : ℕ) (e : Effect) → FindsAt x a (searched_by cid x) e → SpeaksWell e.core e.sent
  finds-speaks a cid e finds = go (by_wire x.channels cid) refl finds
    where
      if-searched : (g : Handle × Channel) (b : Bool) → under x.channels g.0 ≡ Some g.1 → FindsAt x a (cond b (Some g) None) e → SpeaksWell e.core e.sent
      if-searched g true there puts = puts-on-speaks a g.0 g.1 (circuit_to a g.1.priority x) e (wire-under x.channels g.0 g.1 few.channels there) (f.channels g.0 g.1 there) puts
      if-searched g false there is = quiet-speaks x e [] f is

      go : (o : Option (Handle × Channel)) → by_wire x.channels cid ≡ o → FindsAt x a (option_and_then (λ (e : Handle × Channel). cond (is_searched e.1.standing) (Some e) None) o) e → SpeaksWell e.core e.sent
      go None w is = quiet-speaks x e [] f is
      go (Some g) w puts = if-searched g (is_searched g.1.standing) (circuit.wire-under x.channels cid g w).0 puts

  module _ (c : Handle) (m : Fields) (good : IsMessage m) (e : Effect) where
    none-live : (p : Phase) → ((n : Native) (r : ℕ) → p ≡ Live n r → ⊥) → (h : Handle) → ClientFits (with_standing (On c p) h x)
    none-live p none h = standing-fits (On c p) h x (never-live c p none) f

    still-live : (n : Native) (r : ℕ) (h : Handle) → (n.sid < 2 ^ 32) × (n.count < 2 ^ 32) → ClientFits (with_standing (On c (Live n r)) h x)
    still-live n r h fit = standing-fits (On c (Live n r)) h x (λ d k s q. subst (λ (z : Native). (z.sid < 2 ^ 32) × (z.count < 2 ^ 32)) (native-of d k s q) fit) f
      where
        native-of : (d : Handle) (k : Native) (s : ℕ) → On c (Live n r) ≡ On d (Live k s) → n ≡ k
        native-of d k s q = cc

    not-creating : (r n : ℕ) (k : Native) → Creating r ≡ Live k n → ⊥
    not-creating r n k q = cc

    not-leaving : (k : Native) (n : ℕ) → Leaving ≡ Live k n → ⊥
    not-leaving k n q = cc

    rights-speaks : (cid : ℕ) (o : Option (Handle × Phase)) → channel_on x c cid ≡ o → e ≡ rights_told x c m o → SpeaksWell e.core e.sent
    rights-speaks cid None at is = quiet-speaks x e [] f is
    rights-speaks cid (Some (h, Connecting)) at is = quiet-speaks x e [] f is
    rights-speaks cid (Some (h, Creating rights)) at is = quiet-speaks _ e [] (none-live (Creating m.p2) (λ n r q. not-creating m.p2 r n q) h) is
    rights-speaks cid (Some (h, Live n rights)) at is = quiet-speaks _ e [] (still-live n m.p2 h (live-fits c cid h n rights at)) is
    rights-speaks cid (Some (h, Leaving)) at is = quiet-speaks x e [] f is
    rights-speaks cid (Some (h, Clearing)) at is = quiet-speaks x e [] f is
    rights-speaks cid (Some (h, Doomed)) at is = quiet-speaks x e [] f is

    -- EVENT_ADDs of subscriptions that are there
    adds-good : (sid : ℕ) (h : Handle) → sid < 2 ^ 32 → SendsMessages (event_adds c sid h x)
    adds-good sid h lt i s at =
        let b = At-mapped (λ (g : Handle × Subscription). event_add_sent c sid g.0 g.1) (standing_to h x.subscriptions) i s at in
        let g : Handle × Subscription = b.0 in
        let k = filtered-at (λ (e : Handle × Subscription). is_to h e.1 && stands_in e.1.stage) (held x.subscriptions) i g b.1 in
        let there : under x.subscriptions g.0 ≡ Some g.1 = held-under x.subscriptions k.0 g k.1 in
        let fit = f.subscriptions g.0 g.1 there in
        subst (λ (z : Sending). IsMessage z.message) (sym b.2) (add-good _ g.1.mask fit.0 fit.1 lt (wire-under x.subscriptions g.0 g.1 few.subscriptions there))

    created-speaks : (cid : ℕ) (o : Option (Handle × Phase)) → channel_on x c cid ≡ o → e ≡ created x c m o → SpeaksWell e.core e.sent
    created-speaks cid None at is = quiet-speaks x e [] f is
    created-speaks cid (Some (h, Connecting)) at is = quiet-speaks x e [] f is
    created-speaks cid (Some (h, Creating rights)) at is =
        doing-speaks (with_standing (On c (Live (native_in m) rights)) h x) e _ _ (still-live (native_in m) rights h (good.header.p2, good.header.count)) (adds-good m.p2 h good.header.p2) is
    created-speaks cid (Some (h, Live n rights)) at is = quiet-speaks x e [] f is
    created-speaks cid (Some (h, Leaving)) at is = quiet-speaks x e [] f is
    created-speaks cid (Some (h, Clearing)) at is = quiet-speaks x e [] f is
    created-speaks cid (Some (h, Doomed)) at is =
        doing-speaks (with_standing (On c Clearing) h x) e _ _ (none-live Clearing not-clearing h) (one-more _ [] (clear-good m.p2 (wire_of h) good.header.p2 (cid-fits c cid h Doomed at)) none-sent) is

    failed-speaks : (o : Option (Handle × Phase)) → e ≡ failed x o → SpeaksWell e.core e.sent
    failed-speaks None is = quiet-speaks x e [] f is
    failed-speaks (Some (h, Connecting)) is = quiet-speaks x e [] f is
    failed-speaks (Some (h, Creating rights)) is = quiet-speaks (searched_again x h) e [] (searched-fits x h f) is
    failed-speaks (Some (h, Live n rights)) is = quiet-speaks x e [] f is
    failed-speaks (Some (h, Leaving)) is = quiet-speaks x e [] f is
    failed-speaks (Some (h, Clearing)) is = quiet-speaks x e [] f is
    failed-speaks (Some (h, Doomed)) is = quiet-speaks (without_channel x h) e [] (gone-fits x h f) is

    drained : (h : Handle) → ClientFits (without_drained c h x)
    drained h =
        fits-like (record x { subscriptions = monitor.channel_drained c h x.subscriptions }) (without_drained c h x) refl refl refl refl refl (holds-all-freed RequestFits _ x.requests f.requests)
        (subscriptions-fit x (monitor.channel_drained c h x.subscriptions) (holds-all-freed SubscriptionFits _ x.subscriptions f.subscriptions) f)

    answered-speaks : (o : Option (Handle × Phase)) → e ≡ clear_answered x c o → SpeaksWell e.core e.sent
    answered-speaks None is = quiet-speaks x e [] f is
    answered-speaks (Some (h, Connecting)) is = quiet-speaks x e [] f is
    answered-speaks (Some (h, Creating rights)) is = quiet-speaks x e [] f is
    answered-speaks (Some (h, Live n rights)) is = quiet-speaks x e [] f is
    answered-speaks (Some (h, Leaving)) is = quiet-speaks (searched_again (without_drained c h x) h) e [] (searched-fits (without_drained c h x) h (drained h)) is
    answered-speaks (Some (h, Clearing)) is = quiet-speaks (without_channel (without_drained c h x) h) e [] (gone-fits (without_drained c h x) h (drained h)) is
    answered-speaks (Some (h, Doomed)) is = quiet-speaks x e [] f is

    left-speaks : (cid : ℕ) (o : Option (Handle × Phase)) → channel_on x c cid ≡ o → e ≡ left x c o → SpeaksWell e.core e.sent
    left-speaks cid None at is = quiet-speaks x e [] f is
    left-speaks cid (Some (h, Connecting)) at is = quiet-speaks x e [] f is
    left-speaks cid (Some (h, Creating rights)) at is = quiet-speaks x e [] f is
    left-speaks cid (Some (h, Live n rights)) at is =
        let y : Client = with_requests (request.channel_over h x.requests) x in
        doing-speaks (with_standing (On c Leaving) h y) e _ _ (standing-fits (On c Leaving) h y (never-live c Leaving not-leaving) (fits-like x y refl refl refl refl refl (over-fit h x f) f))
        (one-more _ [] (clear-good n.sid (wire_of h) (live-fits c cid h n rights at).0 (cid-fits c cid h (Live n rights) at)) none-sent) is
    left-speaks cid (Some (h, Leaving)) at is = quiet-speaks x e [] f is
    left-speaks cid (Some (h, Clearing)) at is = quiet-speaks x e [] f is
    left-speaks cid (Some (h, Doomed)) at is = quiet-speaks x e [] f is

    without-request : (q : Handle) → ClientFits (without_request q x)
    without-request q = fits-like x (without_request q x) refl refl refl refl refl (holds-freed RequestFits x.requests q f.requests) f

    without-sub : (s : Handle) → ClientFits (without_subscription s x)
    without-sub s = subscriptions-fit x (with_freed s x.subscriptions) (holds-freed SubscriptionFits x.subscriptions s f.subscriptions) f

    completes-speaks : (q : Handle) (a : Asked) (s : request.Stage) → Completes x m q a s e → SpeaksWell e.core e.sent
    completes-speaks q a request.Open does = quiet-speaks (without_request q x) e _ (without-request q) does.2
    completes-speaks q a request.Draining does = quiet-speaks (without_request q x) e [] (without-request q) does

    answers-speaks : (o : Option (Handle × Request)) → Answers x m o e → SpeaksWell e.core e.sent
    answers-speaks (Some (q, r)) does = completes-speaks q r.asked r.stage does
    answers-speaks None is = quiet-speaks x e [] f is

    confirmed-speaks : (o : Option Handle) → e ≡ confirmed x o → SpeaksWell e.core e.sent
    confirmed-speaks (Some s) is = quiet-speaks (without_subscription s x) e [] (without-sub s) is
    confirmed-speaks None is = quiet-speaks x e [] f is

    updates-speaks : (o : Option Handle) → Updates x m o e → SpeaksWell e.core e.sent
    updates-speaks (Some s) does = quiet-speaks x e _ f does.2
    updates-speaks None is = quiet-speaks x e [] f is

    write-failed-speaks : (o : Option (Handle × Phase)) → e ≡ write_failed x m o → SpeaksWell e.core e.sent
    write-failed-speaks None is = quiet-speaks x e [] f is
    write-failed-speaks (Some (h, Connecting)) is = quiet-speaks x e [] f is
    write-failed-speaks (Some (h, Creating rights)) is = quiet-speaks x e [] f is
    write-failed-speaks (Some (h, Live n rights)) is = quiet-speaks x e _ f is
    write-failed-speaks (Some (h, Leaving)) is = quiet-speaks x e [] f is
    write-failed-speaks (Some (h, Clearing)) is = quiet-speaks x e [] f is
    write-failed-speaks (Some (h, Doomed)) is = quiet-speaks x e [] f is

    subscription-failed-speaks : (o : Option Handle) → e ≡ subscription_failed x m o → SpeaksWell e.core e.sent
    subscription-failed-speaks (Some s) is = quiet-speaks (without_subscription s x) e _ (without-sub s) is
    subscription-failed-speaks None is = quiet-speaks x e [] f is

    request-failed-speaks : (q : Handle) (s : request.Stage) → e ≡ request_failed x m q s → SpeaksWell e.core e.sent
    request-failed-speaks q request.Open is = quiet-speaks (without_request q x) e _ (without-request q) is
    request-failed-speaks q request.Draining is = quiet-speaks x e [] f is

    any-failed-speaks : (o : Option (Handle × Request)) → e ≡ any_failed x m o → SpeaksWell e.core e.sent
    any-failed-speaks (Some (q, r)) is = request-failed-speaks q r.stage is
    any-failed-speaks None is = quiet-speaks x e [] f is

    failing-speaks : (h : Header) → e ≡ failing x c m h → SpeaksWell e.core e.sent
    failing-speaks h is = go (h.command == command_number command.Write) (h.command == command_number command.EventAdd) is
      where
        go : (a b : Bool) → e ≡ cond a (write_failed x m (channel_on x c m.p1)) (cond b (subscription_failed x m (subscription_on x c h.p2)) (any_failed x m (answered_by c h.command h.p2 x.requests))) → SpeaksWell e.core e.sent
        go true b is = write-failed-speaks (channel_on x c m.p1) is
        go false true is = subscription-failed-speaks (subscription_on x c h.p2) is
        go false false is = any-failed-speaks (answered_by c h.command h.p2 x.requests) is

    pub hears-speaks : Hears x c m e → SpeaksWell e.core e.sent
    hears-speaks (hears.Search is d there finds) = finds-speaks _ m.p2 e finds
    hears-speaks (hears.AccessRights is does) = rights-speaks m.p1 (channel_on x c m.p1) refl does
    hears-speaks (hears.CreateChannel is does) = created-speaks m.p1 (channel_on x c m.p1) refl does
    hears-speaks (hears.CreateChannelFail is does) = failed-speaks _ does
    hears-speaks (hears.ClearChannel is does) = answered-speaks _ does
    hears-speaks (hears.ServerDisconnect is does) = left-speaks m.p1 (channel_on x c m.p1) refl does
    hears-speaks (hears.Reply is does) = answers-speaks _ does
    hears-speaks (hears.Confirmation is none does) = confirmed-speaks _ does
    hears-speaks (hears.Update is some does) = updates-speaks _ does
    hears-speaks (hears.Error is (inl fails)) = failing-speaks fails.0 fails.2
    hears-speaks (hears.Error is (inr skipped)) = quiet-speaks x e [] f skipped.1
    hears-speaks (hears.Other is does) = quiet-speaks x e [] f does
