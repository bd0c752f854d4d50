-- What a message that a client reads makes of its requests and subscriptions, and what the
-- client tells of them.
use Rattle.std.proofs.Common.{◌≡◌, ℕ, zero, suc, inl, inr, Bool, true, false, cond, eqb, List, [], ◌∷◌, Option, Some, None, refl, sym, ap, ◌∙◌, subst}
use Rattle.std.proofs.lemmas.Bool.{both_ways}
use Rattle.ca_text.specs.Place.{At}
use Rattle.ca_text.proofs.Places.{some_is}
use Rattle.ca_arena.specs.declared.handle.Handle.{Handle}
use Rattle.ca_dbr.specs.declared.value.Outcome.{Outcome}
use Rattle.ca_dbr.specs.declared.value.Outcome.TheVariants as outcome
use Rattle.ca_ids.specs.Table.{under}
use Rattle.ca_monitor.specs.Subscriptions.{confirmed_by}
use Rattle.ca_monitor.specs.Subscriptions as monitor
use Rattle.ca_requests.specs.Requests.{Request, answered_by, asks_on, is_open_in}
use Rattle.ca_requests.specs.Requests as request
use Rattle.ca_text.specs.declared.status.Status.{Status}
use Rattle.ca_wire.specs.Fields.{Fields}
use Rattle.ca_wire.specs.declared.header.Header.{Header}
use Rattle.ca_model.specs.Answers.{Notice, Sending}
use Rattle.ca_model.specs.Answers as notice
use Rattle.ca_model.specs.Ends.{Address}
use Rattle.ca_model.specs.Client.{Channel, Client, ClientCircuit, Clearing, Connecting, Connection, Creating, Doomed, Leaving, Live, On, Phase, channel_on, circuit_to, disconnections, searched_again, sending, with_requests, with_standing, without_channel}
use Rattle.ca_model.specs.ClientCalls.{clear_sent}
use Rattle.ca_model.specs.Hears.{Answers, Completes, Effect, Fails, FindsAt, Hears, PutsOn, Updates, any_failed, clear_answered, confirmed, created, doing, failed, found_at, subscription_on, left, put_on, request_failed, rights_told, searched_by, subscription_failed, without_drained, write_failed}
use Rattle.ca_model.specs.Hears as hears
use Rattle.ca_model.proofs.Tables.{freed-back, one-value}
use Rattle.ca_laws_parts.proofs.CircuitHeard.{answered-is}
use Rattle.ca_laws_parts.proofs.Refused.{heard-is}
use Rattle.ca_laws_runs.proofs.OnceLess.{Less, less-itself}
use Rattle.ca_laws_runs.proofs.OnceMoved.{moved-heard}
use Rattle.ca_laws_runs.proofs.OnceTold.{Asks, StandsBy, TellsNone, Told, asks-all-freed, asks-freed, asks-over, asks-same, asks-sending, asks-then, over-back, stands-less, told-disconnected, told-one, told-still, told-then}

pub none-told : TellsNone []
none-told = (λ i q o at. absurd (first i q o at), λ i g s at. absurd (second i g s at))
  where
    first : (i : ℕ) (q : Handle) (o : Outcome) → (let v : List Notice = [] in At v i (notice.Completed q o)) → ⊥
    first i q o at = cc

    second : (i : ℕ) (g : Handle) (s : Status) → (let v : List Notice = [] in At v i (notice.SubscriptionEnded g s)) → ⊥
    second i g s at = cc

-- a notice of neither
other-told : (n : Notice) → ((q : Handle) (o : Outcome) → n ≡ notice.Completed q o → ⊥) → ((g : Handle) (s : Status) → n ≡ notice.SubscriptionEnded g s → ⊥) → TellsNone (n ∷ [])
other-told n no_request no_end = (λ i q o at. first i q o at, λ i g s at. second i g s at)
  where
    first : (i : ℕ) (q : Handle) (o : Outcome) → At (n ∷ []) i (notice.Completed q o) → ⊥
    first zero q o at = no_request q o (some_is n (notice.Completed q o) at)
    first (suc i) q o at = cc

    second : (i : ℕ) (g : Handle) (s : Status) → At (n ∷ []) i (notice.SubscriptionEnded g s) → ⊥
    second zero g s at = no_end g s (some_is n (notice.SubscriptionEnded g s) at)
    second (suc i) g s at = cc

live-told : (h : Handle) → TellsNone (notice.Live h ∷ [])
live-told h = other-told (notice.Live h) (λ q o e. a q o e) (λ g s e. b g s e)
  where
    a : (q : Handle) (o : Outcome) → notice.Live h ≡ notice.Completed q o → ⊥
    a q o e = cc

    b : (g : Handle) (s : Status) → notice.Live h ≡ notice.SubscriptionEnded g s → ⊥
    b g s e = cc

lost-told : (h : Handle) → TellsNone (notice.Lost h ∷ [])
lost-told h = other-told (notice.Lost h) (λ q o e. a q o e) (λ g s e. b g s e)
  where
    a : (q : Handle) (o : Outcome) → notice.Lost h ≡ notice.Completed q o → ⊥
    a q o e = cc

    b : (g : Handle) (s : Status) → notice.Lost h ≡ notice.SubscriptionEnded g s → ⊥
    b g s e = cc

update-told : (h : Handle) (v : Outcome) → TellsNone (notice.Update h v ∷ [])
update-told h v = other-told (notice.Update h v) (λ q o e. a q o e) (λ g s e. b g s e)
  where
    a : (q : Handle) (o : Outcome) → notice.Update h v ≡ notice.Completed q o → ⊥
    a q o e = cc

    b : (g : Handle) (s : Status) → notice.Update h v ≡ notice.SubscriptionEnded g s → ⊥
    b g s e = cc

refused-told : (h : Handle) (v : Status) → TellsNone (notice.WriteRefused h v ∷ [])
refused-told h v = other-told (notice.WriteRefused h v) (λ q o e. a q o e) (λ g s e. b g s e)
  where
    a : (q : Handle) (o : Outcome) → notice.WriteRefused h v ≡ notice.Completed q o → ⊥
    a q o e = cc

    b : (g : Handle) (s : Status) → notice.WriteRefused h v ≡ notice.SubscriptionEnded g s → ⊥
    b g s e = cc

module _ (x : Client) (e : Effect) (less : Less x e.core) where
  -- it tells of none
  still : (sent : List Sending) (notices : List Notice) (z : Client) → e ≡ doing sent notices z → Asks x z → TellsNone notices → Told x e.notices e.core
  still sent notices z is asks none =
      told-still x e.core e.notices (subst (λ (w : Effect). Asks x w.core) (sym is) (asks-then x z (sending sent z) asks (asks-sending sent z))) less (subst (λ (w : Effect). TellsNone w.notices) (sym is) none)

  nothing : (z : Client) → e ≡ doing [] [] z → Asks x z → Told x e.notices e.core
  nothing z is asks = still [] [] z is asks none-told

  same : e ≡ doing [] [] x → Told x e.notices e.core
  same is = nothing x is (asks-same x x refl refl)

  module _ (c : Handle) where
    told-rights : (m : Fields) (o : Option (Handle × Phase)) → e ≡ rights_told x c m o → Told x e.notices e.core
    told-rights m None is = same is
    told-rights m (Some (h, Connecting)) is = same is
    told-rights m (Some (h, Leaving)) is = same is
    told-rights m (Some (h, Clearing)) is = same is
    told-rights m (Some (h, Doomed)) is = same is
    told-rights m (Some (h, Creating rights)) is = still [] [] _ is (asks-same x _ refl refl) none-told
    told-rights m (Some (h, Live native rights)) is = still [] [] _ is (asks-same x _ refl refl) none-told

    told-created : (m : Fields) (o : Option (Handle × Phase)) → e ≡ created x c m o → Told x e.notices e.core
    told-created m None is = same is
    told-created m (Some (h, Connecting)) is = same is
    told-created m (Some (h, Live native rights)) is = same is
    told-created m (Some (h, Leaving)) is = same is
    told-created m (Some (h, Clearing)) is = same is
    told-created m (Some (h, Creating rights)) is = still _ (notice.Live h ∷ []) _ is (asks-same x _ refl refl) (live-told h)
    told-created m (Some (h, Doomed)) is = still _ [] _ is (asks-same x _ refl refl) none-told

    told-failed : (o : Option (Handle × Phase)) → e ≡ failed x o → Told x e.notices e.core
    told-failed None is = same is
    told-failed (Some (h, Connecting)) is = same is
    told-failed (Some (h, Live native rights)) is = same is
    told-failed (Some (h, Leaving)) is = same is
    told-failed (Some (h, Clearing)) is = same is
    told-failed (Some (h, Creating rights)) is = still [] [] _ is (asks-same x _ refl refl) none-told
    told-failed (Some (h, Doomed)) is = still [] [] _ is (asks-same x _ refl refl) none-told

    drained : (h : Handle) → Asks x (without_drained c h x)
    drained h = (let y : Client = record x { subscriptions = monitor.channel_drained c h x.subscriptions } in asks-then x y (without_drained c h x) (asks-same x y refl refl) (asks-all-freed (asks_on h) y))

    told-cleared : (o : Option (Handle × Phase)) → e ≡ clear_answered x c o → Told x e.notices e.core
    told-cleared None is = same is
    told-cleared (Some (h, Connecting)) is = same is
    told-cleared (Some (h, Live native rights)) is = same is
    told-cleared (Some (h, Creating rights)) is = same is
    told-cleared (Some (h, Doomed)) is = same is
    told-cleared (Some (h, Clearing)) is = (let y : Client = without_drained c h x in still [] [] (without_channel y h) is (asks-then x y (without_channel y h) (drained h) (asks-same y (without_channel y h) refl refl)) none-told)
    told-cleared (Some (h, Leaving)) is = (let y : Client = without_drained c h x in still [] [] (searched_again y h) is (asks-then x y (searched_again y h) (drained h) (asks-same y (searched_again y h) refl refl)) none-told)

    told-completes : (m : Fields) (q : Handle) (r : Request) → under x.requests q ≡ Some r → (s : request.Stage) → r.stage ≡ s → Completes x m q r.asked s e → Told x e.notices e.core
    told-completes m q r there request.Open stage done =
        subst (λ (w : Effect). Less x w.core → Told x w.notices w.core) (sym done.2)
        (λ l. told-one x (hears.without_request q x) q done.0 (asks-freed q x) l (r, there, ap is_open_in stage) (λ o. (freed-back x.requests q q o.0 o.1).0 refl)) less
    told-completes m q r there request.Draining stage done = nothing (hears.without_request q x) done (asks-freed q x)

    told-reply : (m : Fields) (command : ℕ) (o : Option (Handle × Request)) → answered_by c command m.p2 x.requests ≡ o → Answers x m o e → Told x e.notices e.core
    told-reply m command None found is = same is
    told-reply m command (Some (q, r)) found is = told-completes m q r (answered-is c command m.p2 x.requests q r found).0 r.stage refl is

    told-confirmed : (o : Option Handle) → e ≡ confirmed x o → Told x e.notices e.core
    told-confirmed None is = same is
    told-confirmed (Some q) is = still [] [] _ is (asks-same x _ refl refl) none-told

    told-update : (m : Fields) (o : Option Handle) → Updates x m o e → Told x e.notices e.core
    told-update m None is = same is
    told-update m (Some q) is = still [] (notice.Update q is.0 ∷ []) x is.2 (asks-same x x refl refl) (update-told q is.0)

    told-write : (m : Fields) (o : Option (Handle × Phase)) → e ≡ write_failed x m o → Told x e.notices e.core
    told-write m None is = same is
    told-write m (Some (h, Connecting)) is = same is
    told-write m (Some (h, Creating rights)) is = same is
    told-write m (Some (h, Live native rights)) is = still [] (notice.WriteRefused h (record { number = m.p2 }) ∷ []) x is (asks-same x x refl refl) (refused-told h (record { number = m.p2 }))
    told-write m (Some (h, Leaving)) is = same is
    told-write m (Some (h, Clearing)) is = same is
    told-write m (Some (h, Doomed)) is = same is

    told-any : (m : Fields) (command id : ℕ) (o : Option (Handle × Request)) → answered_by c command id x.requests ≡ o → e ≡ any_failed x m o → Told x e.notices e.core
    told-any m command id None found is = same is
    told-any m command id (Some (q, r)) found is = go r.stage refl is
      where
        there : under x.requests q ≡ Some r
        there = (answered-is c command id x.requests q r found).0

        go : (s : request.Stage) → r.stage ≡ s → e ≡ request_failed x m q s → Told x e.notices e.core
        go request.Open stage done =
            subst (λ (w : Effect). Less x w.core → Told x w.notices w.core) (sym done)
            (λ l. told-one x (hears.without_request q x) q (outcome.Failed (record { number = m.p2 })) (asks-freed q x) l (r, there, ap is_open_in stage) (λ o. (freed-back x.requests q q o.0 o.1).0 refl)) less
        go request.Draining stage done = same done

-- one subscription ends
told-over : (x y : Client) (g : Handle) (s : Status) → Asks x y → Less x y → StandsBy x g → (StandsBy y g → ⊥) → Told x (notice.SubscriptionEnded g s ∷ []) y
told-over x y g s asks less was now = record {
  issued = asks.issued;
  opens = asks.opens;
  stands = stands-less x y less;
  completed = λ i q o at. absurd (no-request i q o at);
  ended = λ i k t at. (let e = only i k t at in (subst (λ (v : Handle). StandsBy x v) e.1 was, λ it. now (subst (λ (v : Handle). StandsBy y v) (sym e.1) it)));
  one_completed = λ once i l q o p at also. absurd (no-request i q o at);
  one_ended = λ i l k t u at also. (only i k t at).0 ∙ sym (only l k u also).0;
}
  where
    handle-is : (k : Handle) (t : Status) → notice.SubscriptionEnded g s ≡ notice.SubscriptionEnded k t → g ≡ k
    handle-is k t e = cc

    only : (i : ℕ) (k : Handle) (t : Status) → At (notice.SubscriptionEnded g s ∷ []) i (notice.SubscriptionEnded k t) → (i ≡ 0) × (g ≡ k)
    only zero k t at = (refl, handle-is k t (some_is (notice.SubscriptionEnded g s) (notice.SubscriptionEnded k t) at))
    only (suc i) k t at = absurd cc

    no-request : (i : ℕ) (q : Handle) (o : Outcome) → At (notice.SubscriptionEnded g s ∷ []) i (notice.Completed q o) → ⊥
    no-request zero q o at = absurd (differ (some_is (notice.SubscriptionEnded g s) (notice.Completed q o) at))
      where
        differ : notice.SubscriptionEnded g s ≡ notice.Completed q o → ⊥
        differ e = cc
    no-request (suc i) q o at = cc

module _ (x : Client) (e : Effect) (less : Less x e.core) (c : Handle) where
  told-refused : (m : Fields) (id : ℕ) (o : Option Handle) → subscription_on x c id ≡ o → e ≡ subscription_failed x m o → Told x e.notices e.core
  told-refused m id None found is = same x e less is
  told-refused m id (Some g) found is =
      let f = heard-is x c id g found in
      subst (λ (w : Effect). Less x w.core → Told x w.notices w.core) (sym is)
      (λ l. told-over x (hears.without_subscription g x) g (record { number = m.p2 }) (asks-same x (hears.without_subscription g x) refl refl) l (f.0, f.1, f.3) (λ it. (freed-back x.subscriptions g g it.0 it.1).0 refl)) less

  told-error : (m : Fields) → Fails x c m e → Told x e.notices e.core
  told-error m fails = elim fails [
    | inr not_whole ↦ same x e less not_whole.1
    | inl whole ↦ by whole.0 (eqb whole.0.command 4) (eqb whole.0.command 1) whole.2
  ]
    where
      by : (h : Header) (a b : Bool) → e ≡ cond a (write_failed x m (channel_on x c m.p1)) (cond b (subscription_failed x m (subscription_on x c h.p2)) (any_failed x m (answered_by c h.command h.p2 x.requests))) → Told x e.notices e.core
      by h true b is = told-write x e less c m (channel_on x c m.p1) is
      by h false true is = told-refused m h.p2 (subscription_on x c h.p2) refl is
      by h false false is = told-any x e less c m h.command h.p2 (answered_by c h.command h.p2 x.requests) refl is

  -- a SERVER_DISCONN: all open requests of the channel are over
  told-left : (m : Fields) (o : Option (Handle × Phase)) → e ≡ left x c o → Told x e.notices e.core
  told-left m None is = same x e less is
  told-left m (Some (h, Connecting)) is = same x e less is
  told-left m (Some (h, Creating rights)) is = same x e less is
  told-left m (Some (h, Leaving)) is = same x e less is
  told-left m (Some (h, Clearing)) is = same x e less is
  told-left m (Some (h, Doomed)) is = same x e less is
  told-left m (Some (h, Live native rights)) is =
      let y : Client = with_requests (request.channel_over h x.requests) x in
      let z : Client = with_standing (On c Leaving) h y in
      let sends : List Sending = clear_sent c native.sid h ∷ [] in
      let back : Asks y e.core = subst (λ (w : Effect). Asks y w.core) (sym is) (asks-then y z (sending sends z) (asks-same y z refl refl) (asks-sending sends z)) in
      let asks : Asks x e.core = asks-then x y e.core (asks-over h x) back in
      subst (λ (v : List Notice). Told x v e.core) (ap (λ (w : Effect). w.notices) (sym is))
      (told-then x e.core e.core (disconnections (asks_on h) x) (notice.Lost h ∷ [])
      (told-disconnected x e.core (asks_on h) asks less (λ q r there on_it o.
      let b = back.opens q o in
      let f = over-back h x q b.0 b.1 b.2 in
      both_ways (asks_on h f.0) f.2 (ap (asks_on h) (one-value x.requests q f.0 r f.1 there) ∙ on_it)))
      (told-still e.core e.core (notice.Lost h ∷ []) (asks-same e.core e.core refl refl) (less-itself e.core) (lost-told h)))

-- a channel was found
module _ (x : Client) (e : Effect) (less : Less x e.core) where
  told-puts : (address : Address) (h : Handle) (here : Channel) (o : Option (Handle × ClientCircuit)) → PutsOn x address h here o e → Told x e.notices e.core
  told-puts address h here (Some (d, v)) is = go d v.connection is
    where
      go : (d : Handle) (k : Option Connection) → e ≡ put_on d k h here x → Told x e.notices e.core
      go d None is = still x e less [] [] _ is (asks-same x _ refl refl) none-told
      go d (Some k) is = still x e less _ [] _ is (asks-same x _ refl refl) none-told
  told-puts address h here None is = elim is [
    | inr full ↦ same x e less full.1
    | inl new ↦ still x e less [] [] _ new.2 (asks-same x _ refl refl) none-told
  ]

  pub told-finds : (address : Address) (o : Option (Handle × Channel)) → FindsAt x address o e → Told x e.notices e.core
  told-finds address None is = same x e less is
  told-finds address (Some (h, here)) is = told-puts address h here (circuit_to address here.priority x) is

-- All messages: what is told of was open or stood, is not any more, and is told of once.
pub told-heard : (x : Client) (c : Handle) (m : Fields) (e : Effect) → Hears x c m e → Told x e.notices e.core
told-heard x c m e h = by h (moved-heard x c m e h).less
  where
    by : Hears x c m e → Less x e.core → Told x e.notices e.core
    by (hears.Search is d there finds) less = told-finds x e less (found_at d.address m) (searched_by m.p2 x) finds
    by (hears.AccessRights is does) less = told-rights x e less c m (channel_on x c m.p1) does
    by (hears.CreateChannel is does) less = told-created x e less c m (channel_on x c m.p1) does
    by (hears.CreateChannelFail is does) less = told-failed x e less c (channel_on x c m.p1) does
    by (hears.ClearChannel is does) less = told-cleared x e less c (channel_on x c m.p2) does
    by (hears.ServerDisconnect is does) less = told-left x e less c m (channel_on x c m.p1) does
    by (hears.Reply is does) less = told-reply x e less c m m.command (answered_by c m.command m.p2 x.requests) refl does
    by (hears.Confirmation is empty does) less = told-confirmed x e less c (confirmed_by c m.p2 x.subscriptions) does
    by (hears.Update is some does) less = told-update x e less c m (subscription_on x c m.p2) does
    by (hears.Error is does) less = told-error x e less c m does
    by (hears.Other is does) less = same x e less does
