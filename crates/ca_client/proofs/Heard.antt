-- What a message that a client reads does to the requests that wait.
use Rattle.std.proofs.Common.{◌≡◌, ℕ, inl, inr, Bool, true, false, cond, eqb, List, [], ◌∷◌, ◌++◌, Option, Some, None, refl, sym, subst}
use Rattle.ca_arena.specs.declared.handle.Handle.{Handle}
use Rattle.ca_dbr.specs.declared.value.Outcome.{Outcome}
use Rattle.ca_dbr.specs.declared.value.Outcome.TheVariants as outcome
use Rattle.ca_ids.specs.Table.{under}
use Rattle.ca_monitor.specs.Subscriptions.{confirmed_by}
use Rattle.ca_requests.specs.Requests.{Request, answered_by, asks_on}
use Rattle.ca_requests.specs.Requests as request
use Rattle.ca_wire.specs.Fields.{Fields}
use Rattle.ca_wire.specs.declared.header.Header.{Header}
use Rattle.ca_model.specs.Answers.{Completed, Notice, Sending}
use Rattle.ca_model.specs.Answers as notice
use Rattle.ca_model.specs.Ends.{Address}
use Rattle.ca_model.specs.Client.{Channel, Client, ClientCircuit, Clearing, Connecting, Connection, Creating, Doomed, Leaving, Live, On, Phase, channel_on, circuit_to, disconnections, found_on, searched_again, sending, with_requests, with_standing, without_channel}
use Rattle.ca_model.specs.Hears.{Answers, Completes, Effect, Fails, FindsAt, Hears, PutsOn, Updates, any_failed, becomes, clear_answered, confirmed, created, doing, failed, failing, found_at, subscription_on, left, put_on, request_failed, rights_told, searched_by, subscription_failed, with_circuit, without_drained, without_request, without_subscription, write_failed}
use Rattle.ca_model.specs.Hears as hears
use Rattle.ca_model.proofs.Tables.{all-freed-back}
use Rattle.ca_client_core.specs.Notices.{completions}
use Rattle.ca_client.specs.Awaited.{IsListed}
use Rattle.ca_client.proofs.Waiting.{Same, Told, answered-there, freed-waits, listed-fewer, over-waits, same-itself, same-sending, told-ended, told-on, told-one, told-quiet, told-same}

-- what a message makes of a client, and what it sends, which waits on its circuit
told-doing : (x z : Client) (sent : List Sending) (ns : List Notice) (e : Effect) → e ≡ doing sent ns z → Told x ns z → Told x e.notices e.core
told-doing x z sent ns e is t =
    subst (λ (w : Effect). Told x w.notices w.core) (sym is) (told-on x z (sending sent z) ns t (same-sending sent z))

still : (x z : Client) (sent : List Sending) (ns : List Notice) (e : Effect) → IsListed x → e ≡ doing sent ns z → Same x z → completions ns ≡ [] → Told x e.notices e.core
still x z sent ns e l is same none = told-doing x z sent ns e is (told-same x z ns same l none)

module _ (c : Handle) (x : Client) (l : IsListed x) where
  idle : (sent : List Sending) (ns : List Notice) (e : Effect) → e ≡ doing sent ns x → completions ns ≡ [] → Told x e.notices e.core
  idle sent ns e is none = still x x sent ns e l is (same-itself x) none

  told-rights : (m : Fields) (e : Effect) (o : Option (Handle × Phase)) → e ≡ rights_told x c m o → Told x e.notices e.core
  told-rights m e None is = idle [] [] e is refl
  told-rights m e (Some (h, Connecting)) is = idle [] [] e is refl
  told-rights m e (Some (h, Leaving)) is = idle [] [] e is refl
  told-rights m e (Some (h, Clearing)) is = idle [] [] e is refl
  told-rights m e (Some (h, Doomed)) is = idle [] [] e is refl
  told-rights m e (Some (h, Creating rights)) is = still x (with_standing (On c (Creating m.p2)) h x) [] [] e l is (record { requests = refl; issued = refl }) refl
  told-rights m e (Some (h, Live n rights)) is = still x (with_standing (On c (Live n m.p2)) h x) [] [] e l is (record { requests = refl; issued = refl }) refl

  told-created : (m : Fields) (e : Effect) (o : Option (Handle × Phase)) → e ≡ created x c m o → Told x e.notices e.core
  told-created m e None is = idle [] [] e is refl
  told-created m e (Some (h, Connecting)) is = idle [] [] e is refl
  told-created m e (Some (h, Live n rights)) is = idle [] [] e is refl
  told-created m e (Some (h, Leaving)) is = idle [] [] e is refl
  told-created m e (Some (h, Clearing)) is = idle [] [] e is refl
  told-created m e (Some (h, Creating rights)) is =
      still x (with_standing (On c (Live (hears.native_in m) rights)) h x) (hears.event_adds c m.p2 h x) (notice.Live h ∷ []) e l is (record { requests = refl; issued = refl }) refl
  told-created m e (Some (h, Doomed)) is = still x (with_standing (On c Clearing) h x) _ [] e l is (record { requests = refl; issued = refl }) refl

  told-failed : (e : Effect) (o : Option (Handle × Phase)) → e ≡ failed x o → Told x e.notices e.core
  told-failed e None is = idle [] [] e is refl
  told-failed e (Some (h, Connecting)) is = idle [] [] e is refl
  told-failed e (Some (h, Live n rights)) is = idle [] [] e is refl
  told-failed e (Some (h, Leaving)) is = idle [] [] e is refl
  told-failed e (Some (h, Clearing)) is = idle [] [] e is refl
  told-failed e (Some (h, Creating rights)) is = still x (searched_again x h) [] [] e l is (record { requests = refl; issued = refl }) refl
  told-failed e (Some (h, Doomed)) is = still x (without_channel x h) [] [] e l is (record { requests = refl; issued = refl }) refl

  -- the ids of a channel no longer drain
  told-drained : (h : Handle) → Told x [] (without_drained c h x)
  told-drained h = told-quiet x (without_drained c h x) []
      (λ q w. (let was = all-freed-back (asks_on h) x.requests q w.0 w.1 in (w.0, was.0, w.2)))
      (listed-fewer x (without_drained c h x) refl l)
      refl

  told-cleared : (e : Effect) (o : Option (Handle × Phase)) → e ≡ clear_answered x c o → Told x e.notices e.core
  told-cleared e None is = idle [] [] e is refl
  told-cleared e (Some (h, Connecting)) is = idle [] [] e is refl
  told-cleared e (Some (h, Creating rights)) is = idle [] [] e is refl
  told-cleared e (Some (h, Live n rights)) is = idle [] [] e is refl
  told-cleared e (Some (h, Doomed)) is = idle [] [] e is refl
  told-cleared e (Some (h, Clearing)) is =
      let y : Client = without_drained c h x in
      told-doing x (without_channel y h) [] [] e is (told-on x y (without_channel y h) [] (told-drained h) (record { requests = refl; issued = refl }))
  told-cleared e (Some (h, Leaving)) is =
      let y : Client = without_drained c h x in
      told-doing x (searched_again y h) [] [] e is (told-on x y (searched_again y h) [] (told-drained h) (record { requests = refl; issued = refl }))

  told-left : (e : Effect) (o : Option (Handle × Phase)) → e ≡ left x c o → Told x e.notices e.core
  told-left e None is = idle [] [] e is refl
  told-left e (Some (h, Connecting)) is = idle [] [] e is refl
  told-left e (Some (h, Creating rights)) is = idle [] [] e is refl
  told-left e (Some (h, Leaving)) is = idle [] [] e is refl
  told-left e (Some (h, Clearing)) is = idle [] [] e is refl
  told-left e (Some (h, Doomed)) is = idle [] [] e is refl
  told-left e (Some (h, Live n rights)) is =
      let y : Client = with_requests (request.channel_over h x.requests) x in
      let z : Client = with_standing (On c Leaving) h y in
      told-doing x z _ (disconnections (asks_on h) x ++ notice.Lost h ∷ []) e is
      (told-on x y z (disconnections (asks_on h) x ++ notice.Lost h ∷ [])
      (told-ended x y (asks_on h) (notice.Lost h ∷ []) l (listed-fewer x y refl l) (λ q w. over-waits h x y q refl w) refl)
      (record { requests = refl; issued = refl }))

  -- ---- what is read by an id

  gone : (q : Handle) → Told x [] (without_request q x)
  gone q = told-quiet x (without_request q x) [] (λ k w. (freed-waits x q k (without_request q x) refl w).0) (listed-fewer x (without_request q x) refl l) refl

  done : (q : Handle) (r : Request) (o : Outcome) → under x.requests q ≡ Some r → r.stage ≡ request.Open → Told x (Completed q o ∷ []) (without_request q x)
  done q r o there begun =
      told-one x (without_request q x) q o (r, there, begun) (listed-fewer x (without_request q x) refl l) (λ k w. freed-waits x q k (without_request q x) refl w)

  told-reply : (m : Fields) (e : Effect) (o : Option (Handle × Request)) → answered_by c m.command m.p2 x.requests ≡ o → Answers x m o e → Told x e.notices e.core
  told-reply m e None at is = idle [] [] e is refl
  told-reply m e (Some (q, r)) at is = go r.stage refl is
    where
      go : (s : request.Stage) → r.stage ≡ s → Completes x m q r.asked s e → Told x e.notices e.core
      go request.Open stage does =
          told-doing x (without_request q x) [] (Completed q does.0 ∷ []) e does.2 (done q r does.0 (answered-there c m.command m.p2 x.requests q r at) stage)
      go request.Draining stage does = told-doing x (without_request q x) [] [] e does (gone q)

  told-confirmed : (e : Effect) (o : Option Handle) → e ≡ confirmed x o → Told x e.notices e.core
  told-confirmed e None is = idle [] [] e is refl
  told-confirmed e (Some s) is = still x (without_subscription s x) [] [] e l is (record { requests = refl; issued = refl }) refl

  told-update : (m : Fields) (e : Effect) (o : Option Handle) → Updates x m o e → Told x e.notices e.core
  told-update m e None is = idle [] [] e is refl
  told-update m e (Some s) is = idle [] (notice.Update s is.0 ∷ []) e is.2 refl

  told-write : (m : Fields) (e : Effect) (o : Option (Handle × Phase)) → e ≡ write_failed x m o → Told x e.notices e.core
  told-write m e None is = idle [] [] e is refl
  told-write m e (Some (h, Connecting)) is = idle [] [] e is refl
  told-write m e (Some (h, Creating rights)) is = idle [] [] e is refl
  told-write m e (Some (h, Live n rights)) is = idle [] (notice.WriteRefused h (record { number = m.p2 }) ∷ []) e is refl
  told-write m e (Some (h, Leaving)) is = idle [] [] e is refl
  told-write m e (Some (h, Clearing)) is = idle [] [] e is refl
  told-write m e (Some (h, Doomed)) is = idle [] [] e is refl

  told-refused : (m : Fields) (e : Effect) (o : Option Handle) → e ≡ subscription_failed x m o → Told x e.notices e.core
  told-refused m e None is = idle [] [] e is refl
  told-refused m e (Some s) is =
      still x (without_subscription s x) [] (notice.SubscriptionEnded s (record { number = m.p2 }) ∷ []) e l is (record { requests = refl; issued = refl }) refl

  told-any : (m : Fields) (e : Effect) (command id : ℕ) (o : Option (Handle × Request)) → answered_by c command id x.requests ≡ o → e ≡ any_failed x m o → Told x e.notices e.core
  told-any m e command id None at is = idle [] [] e is refl
  told-any m e command id (Some (q, r)) at is = go r.stage refl is
    where
      go : (s : request.Stage) → r.stage ≡ s → e ≡ request_failed x m q s → Told x e.notices e.core
      go request.Open stage does =
          told-doing x (without_request q x) [] (Completed q (outcome.Failed (record { number = m.p2 })) ∷ []) e does
          (done q r (outcome.Failed (record { number = m.p2 })) (answered-there c command id x.requests q r at) stage)
      go request.Draining stage does = idle [] [] e does refl

  told-error : (m : Fields) (e : Effect) → Fails x c m e → Told x e.notices e.core
  told-error m e fails = elim fails [
    | inr not_whole ↦ idle [] [] e not_whole.1 refl
    | inl whole ↦ by whole.0 (eqb whole.0.command 4) (eqb whole.0.command 1) whole.2
  ]
    where
      by : (h : Header) (a b : Bool) → e ≡ cond a (write_failed x m (channel_on x c m.p1)) (cond b (subscription_failed x m (subscription_on x c h.p2)) (any_failed x m (answered_by c h.command h.p2 x.requests))) → Told x e.notices e.core
      by h true b is = told-write m e (channel_on x c m.p1) is
      by h false true is = told-refused m e (subscription_on x c h.p2) is
      by h false false is = told-any m e h.command h.p2 (answered_by c h.command h.p2 x.requests) refl is

-- ---- search replies

told-put : (x : Client) (c : Handle) (o : Option Connection) (h : Handle) (here : Channel) (e : Effect) → IsListed x → e ≡ put_on c o h here x → Told x e.notices e.core
told-put x c None h here e l is = still x (found_on c Connecting h x) [] [] e l is (record { requests = refl; issued = refl }) refl
told-put x c (Some conn) h here e l is = still x (found_on c (Creating 0) h x) _ [] e l is (record { requests = refl; issued = refl }) refl

told-puts : (x : Client) (address : Address) (h : Handle) (here : Channel) (o : Option (Handle × ClientCircuit)) (e : Effect) → IsListed x → PutsOn x address h here o e → Told x e.notices e.core
told-puts x address h here (Some (c, d)) e l is = told-put x c d.connection h here e l is
told-puts x address h here None e l is = elim is [
  | inr full ↦ still x x [] [] e l full.1 (same-itself x) refl
  | inl new ↦ still x (found_on new.0 Connecting h (with_circuit new.0 _ x)) [] [] e l new.2 (record { requests = refl; issued = refl }) refl
]

pub told-finds : (x : Client) (address : Address) (o : Option (Handle × Channel)) (e : Effect) → IsListed x → FindsAt x address o e → Told x e.notices e.core
told-finds x address None e l is = still x x [] [] e l is (same-itself x) refl
told-finds x address (Some (h, here)) e l is = told-puts x address h here (circuit_to address here.priority x) e l is

-- ---- all messages

pub told-heard : (x : Client) (c : Handle) (m : Fields) (e : Effect) → IsListed x → Hears x c m e → Told x e.notices e.core
told-heard x c m e l (hears.Search is d there finds) = told-finds x (found_at d.address m) (searched_by m.p2 x) e l finds
told-heard x c m e l (hears.AccessRights is does) = told-rights c x l m e (channel_on x c m.p1) does
told-heard x c m e l (hears.CreateChannel is does) = told-created c x l m e (channel_on x c m.p1) does
told-heard x c m e l (hears.CreateChannelFail is does) = told-failed c x l e (channel_on x c m.p1) does
told-heard x c m e l (hears.ClearChannel is does) = told-cleared c x l e (channel_on x c m.p2) does
told-heard x c m e l (hears.ServerDisconnect is does) = told-left c x l e (channel_on x c m.p1) does
told-heard x c m e l (hears.Reply is does) = told-reply c x l m e (answered_by c m.command m.p2 x.requests) refl does
told-heard x c m e l (hears.Confirmation is empty does) = told-confirmed c x l e (confirmed_by c m.p2 x.subscriptions) does
told-heard x c m e l (hears.Update is some does) = told-update c x l m e (subscription_on x c m.p2) does
told-heard x c m e l (hears.Error is does) = told-error c x l m e does
told-heard x c m e l (hears.Other is does) = idle c x l [] [] e does refl
