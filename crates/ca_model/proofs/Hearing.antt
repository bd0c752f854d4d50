-- What the messages that a client reads keep of its channels' places, and its search replies, and a
-- circuit that is connected.
use Rattle.std.proofs.Common.{◌≡◌, ℕ, inl, inr, Bool, true, false, ◌&&◌, cond, eqb, List, [], ◌∷◌, Option, Some, None, refl, sym, ap, ◌∙◌, subst}
use Rattle.std.specs.Prelude.{is_none, option_and_then, option_map, unwrap_or}
use Rattle.std.proofs.lemmas.Bool.{and_from, both_ways}
use Rattle.ca_arena.specs.declared.handle.Handle.{Handle}
use Rattle.ca_ids.specs.Table.{MayGive, held, same_handle, under, with_freed, with_held}
use Rattle.ca_monitor.specs.Subscriptions.{Subscription, confirmed_by, drains_in, is_to}
use Rattle.ca_monitor.specs.Subscriptions as monitor
use Rattle.ca_requests.specs.Requests.{Request, answered_by, asks_on}
use Rattle.ca_requests.specs.Requests as request
use Rattle.ca_wire.specs.Fields.{Fields}
use Rattle.ca_wire.specs.declared.header.Header.{Header}
use Rattle.ca_model.specs.Answers.{Notice, Sending}
use Rattle.ca_model.specs.Ends.{Address, same_address}
use Rattle.ca_model.specs.Client.{Channel, Client, ClientCircuit, Clearing, Connecting, Connection, Creating, Doomed, Leaving, Live, On, Phase, Searching, Standing, channel_on, circuit_to, connection_at, found_on, is_on_in, new_circuit, phase_on, searched_again, sending, with_requests, with_standing, without_channel}
use Rattle.ca_model.specs.ClientEnds.{Receives, ReceivesAll, beacon_heard, begun, creating, is_connecting, new_connection}
use Rattle.ca_model.specs.ClientEnds as ends
use Rattle.ca_model.specs.Hears.{Answers, Completes, Effect, Fails, FindsAt, Hears, PutsOn, Updates, any_failed, becomes, clear_answered, confirmed, created, doing, failed, failing, found_at, subscription_on, left, native_in, put_on, request_failed, rights_told, searched_by, subscription_failed, with_circuit, without_drained, without_request, without_subscription, write_failed}
use Rattle.ca_model.specs.Hears as hears
use Rattle.ca_model.specs.Placed.{HasNothingOut, WasLive, was_live}
use Rattle.ca_model.proofs.Standings.{is-on}
use Rattle.ca_model.proofs.Standings.{on-one}
use Rattle.ca_model.proofs.Handles.{handle-or, same-itself}
use Rattle.ca_model.proofs.Standings.{channel-on}
use Rattle.ca_model.proofs.Standings.{fails-anywhere, fails-searched}
use Rattle.ca_model.proofs.Tables.{all-back, all-freed-back, all-there, changed-own, find-at, freed-back, given-none, held-back, held-other, held-own, held-under, one-value}
use Rattle.ca_model.specs.Placed.{IsPlaced}
use Rattle.ca_model.proofs.Changes.{freed-keeps, keeps-phase, keeps-searches, on-handle, on-phase, over-requests}
use Rattle.ca_model.proofs.Standings.{searched-is}
use Rattle.ca_model.proofs.Letting.{KeepsBut}
use Rattle.ca_model.proofs.Placed.{Keeps, Links, header_only-never, keeps-again, keeps-gone, keeps-itself, keeps-requests, keeps-sending, keeps-stood, keeps-subscriptions, keeps-then, options-agree, under-other}
use Rattle.ca_model.proofs.Thinner.{thin-all, thin-all-freed, thin-freed, thin-itself}

abbrev connection-of : Option ClientCircuit → Option Connection
connection-of o = option_and_then (λ (d : ClientCircuit). d.connection) o

-- what a message makes of a client, and what it sends, which waits on its circuit
pub keeps-doing : (x z : Client) (sent : List Sending) (notices : List Notice) (e : Effect) → e ≡ doing sent notices z → Keeps x z → Keeps x e.core
keeps-doing x z sent notices e is keeps =
    subst (λ (w : Effect). Keeps x w.core) (sym is) (keeps-then x z (sending sent z) keeps (keeps-sending sent z))

-- ---- requests and subscriptions

pub keeps-request : (q : Handle) (x : Client) → Keeps x (without_request q x)
keeps-request q x = keeps-requests (with_freed q x.requests) x (thin-freed q x.requests) (λ k r is. (r, (freed-back x.requests k q r is).1, refl, refl))

-- ---- channels

module _ (c : Handle) (x : Client) where
  pub rights-keeps : (m : Fields) (e : Effect) (o : Option (Handle × Phase)) → channel_on x c m.p1 ≡ o → e ≡ rights_told x c m o → Keeps x e.core
  rights-keeps m e None at is = keeps-doing x x [] [] e is (keeps-itself x)
  rights-keeps m e (Some (h, Connecting)) at is = keeps-doing x x [] [] e is (keeps-itself x)
  rights-keeps m e (Some (h, Leaving)) at is = keeps-doing x x [] [] e is (keeps-itself x)
  rights-keeps m e (Some (h, Clearing)) at is = keeps-doing x x [] [] e is (keeps-itself x)
  rights-keeps m e (Some (h, Doomed)) at is = keeps-doing x x [] [] e is (keeps-itself x)
  rights-keeps m e (Some (h, Creating rights)) at is =
      let found = channel-on x c m.p1 h (Creating rights) at in
      keeps-doing x (with_standing (On c (Creating m.p2)) h x) [] [] e is (keeps-phase c h x found.0 (Creating rights) (Creating m.p2) found.1 found.3 refl (λ f. f))
  rights-keeps m e (Some (h, Live n rights)) at is =
      let found = channel-on x c m.p1 h (Live n rights) at in
      keeps-doing x (with_standing (On c (Live n m.p2)) h x) [] [] e is (keeps-phase c h x found.0 (Live n rights) (Live n m.p2) found.1 found.3 refl (λ f. f))

  pub created-keeps : (m : Fields) (e : Effect) (o : Option (Handle × Phase)) → channel_on x c m.p1 ≡ o → e ≡ created x c m o → Keeps x e.core
  created-keeps m e None at is = keeps-doing x x [] [] e is (keeps-itself x)
  created-keeps m e (Some (h, Connecting)) at is = keeps-doing x x [] [] e is (keeps-itself x)
  created-keeps m e (Some (h, Live n rights)) at is = keeps-doing x x [] [] e is (keeps-itself x)
  created-keeps m e (Some (h, Leaving)) at is = keeps-doing x x [] [] e is (keeps-itself x)
  created-keeps m e (Some (h, Clearing)) at is = keeps-doing x x [] [] e is (keeps-itself x)
  created-keeps m e (Some (h, Creating rights)) at is =
      let found = channel-on x c m.p1 h (Creating rights) at in
      keeps-doing x (with_standing (On c (Live (native_in m) rights)) h x) _ _ e is (keeps-phase c h x found.0 (Creating rights) (Live (native_in m) rights) found.1 found.3 refl (λ f. refl))
  created-keeps m e (Some (h, Doomed)) at is =
      let found = channel-on x c m.p1 h Doomed at in
      keeps-doing x (with_standing (On c Clearing) h x) _ _ e is (keeps-phase c h x found.0 Doomed Clearing found.1 found.3 refl (λ f. refl))

  -- a channel in a phase that was not live has nothing attached
  pub header_only-so : (h : Handle) (ch : Channel) (p : Phase) → under x.channels h ≡ Some ch → ch.standing ≡ On c p → was_live p ≡ false → IsPlaced x → HasNothingOut h x
  header_only-so h ch p there stands never placed =
      header_only-never h x placed (λ w on is. subst (λ (z : Channel). is_on_in was_live on z ≡ false) (one-value x.channels h ch w there is) (fails-anywhere was_live on c ch p stands never))

  pub failed-keeps : (m : Fields) (e : Effect) (o : Option (Handle × Phase)) → channel_on x c m.p1 ≡ o → e ≡ failed x o → Keeps x e.core
  failed-keeps m e None at is = keeps-doing x x [] [] e is (keeps-itself x)
  failed-keeps m e (Some (h, Connecting)) at is = keeps-doing x x [] [] e is (keeps-itself x)
  failed-keeps m e (Some (h, Live n rights)) at is = keeps-doing x x [] [] e is (keeps-itself x)
  failed-keeps m e (Some (h, Leaving)) at is = keeps-doing x x [] [] e is (keeps-itself x)
  failed-keeps m e (Some (h, Clearing)) at is = keeps-doing x x [] [] e is (keeps-itself x)
  failed-keeps m e (Some (h, Creating rights)) at is =
      let found = channel-on x c m.p1 h (Creating rights) at in
      keeps-doing x (searched_again x h) [] [] e is (keeps-again h x (header_only-so h found.0 (Creating rights) found.1 found.3 refl))
  failed-keeps m e (Some (h, Doomed)) at is =
      let found = channel-on x c m.p1 h Doomed at in
      keeps-doing x (without_channel x h) [] [] e is (keeps-gone h x (header_only-so h found.0 Doomed found.1 found.3 refl))

  -- the ids of a channel no longer drain
  pub drained-keeps : (h : Handle) → Keeps x (without_drained c h x)
  drained-keeps h =
      let test : Subscription → Bool = λ (s : Subscription). is_to h s && drains_in c s.stage in
      let y : Client = record x { subscriptions = monitor.channel_drained c h x.subscriptions } in
      keeps-then x y (without_drained c h x)
      (keeps-subscriptions (monitor.channel_drained c h x.subscriptions) x (thin-all-freed test x.subscriptions) (λ p g d on is drains. inl (d, (all-freed-back test x.subscriptions g d is).0, refl, drains)))
      (keeps-requests (request.channel_gone h x.requests) y (thin-all-freed (asks_on h) x.requests) (λ q r is. (r, (all-freed-back (asks_on h) x.requests q r is).0, refl, refl)))

  pub drained-header_only : (h : Handle) (ch : Channel) (p : Phase) → under x.channels h ≡ Some ch → ch.standing ≡ On c p → IsPlaced x → HasNothingOut h (without_drained c h x)
  drained-header_only h ch p there stands placed = record {
    requests = λ q r is same.
        let was = all-freed-back (asks_on h) x.requests q r is in
        both_ways (asks_on h r) was.1 (subst (λ (k : Handle). same_handle k h ≡ true) (sym same) (same-itself h));
    subscriptions = λ g d on is drains same.
        let was = all-freed-back (λ (s : Subscription). is_to h s && drains_in c s.stage) x.subscriptions g d is in
        let live = placed.attached.subscriptions g d on was.0 drains in
        let one : live.0 ≡ ch = one-value x.channels h live.0 ch (subst (λ (k : Handle). under x.channels k ≡ Some live.0) same live.1) there in
        let here : c ≡ on = on-one (λ (q : Phase). true) was_live c on ch (is-on (λ (q : Phase). true) c ch p stands) (subst (λ (z : Channel). is_on_in was_live on z ≡ true) one live.2) in
        both_ways (is_to h d && drains_in c d.stage) was.1
        (and_from (is_to h d) (drains_in c d.stage) (subst (λ (k : Handle). same_handle k h ≡ true) (sym same) (same-itself h)) (subst (λ (k : Handle). drains_in k d.stage ≡ true) (sym here) drains));
  }

  pub answered-keeps : IsPlaced x → (m : Fields) (e : Effect) (o : Option (Handle × Phase)) → channel_on x c m.p2 ≡ o → e ≡ clear_answered x c o → Keeps x e.core
  answered-keeps placed m e None at is = keeps-doing x x [] [] e is (keeps-itself x)
  answered-keeps placed m e (Some (h, Connecting)) at is = keeps-doing x x [] [] e is (keeps-itself x)
  answered-keeps placed m e (Some (h, Creating rights)) at is = keeps-doing x x [] [] e is (keeps-itself x)
  answered-keeps placed m e (Some (h, Live n rights)) at is = keeps-doing x x [] [] e is (keeps-itself x)
  answered-keeps placed m e (Some (h, Doomed)) at is = keeps-doing x x [] [] e is (keeps-itself x)
  answered-keeps placed m e (Some (h, Clearing)) at is =
      let found = channel-on x c m.p2 h Clearing at in
      let y : Client = without_drained c h x in
      keeps-doing x (without_channel y h) [] [] e is (keeps-then x y (without_channel y h) (drained-keeps h) (keeps-gone h y (λ p. drained-header_only h found.0 Clearing found.1 found.3 placed)))
  answered-keeps placed m e (Some (h, Leaving)) at is =
      let found = channel-on x c m.p2 h Leaving at in
      let y : Client = without_drained c h x in
      keeps-doing x (searched_again y h) [] [] e is (keeps-then x y (searched_again y h) (drained-keeps h) (keeps-again h y (λ p. drained-header_only h found.0 Leaving found.1 found.3 placed)))

  pub left-keeps : (m : Fields) (e : Effect) (o : Option (Handle × Phase)) → channel_on x c m.p1 ≡ o → e ≡ left x c o → Keeps x e.core
  left-keeps m e None at is = keeps-doing x x [] [] e is (keeps-itself x)
  left-keeps m e (Some (h, Connecting)) at is = keeps-doing x x [] [] e is (keeps-itself x)
  left-keeps m e (Some (h, Creating rights)) at is = keeps-doing x x [] [] e is (keeps-itself x)
  left-keeps m e (Some (h, Leaving)) at is = keeps-doing x x [] [] e is (keeps-itself x)
  left-keeps m e (Some (h, Clearing)) at is = keeps-doing x x [] [] e is (keeps-itself x)
  left-keeps m e (Some (h, Doomed)) at is = keeps-doing x x [] [] e is (keeps-itself x)
  left-keeps m e (Some (h, Live n rights)) at is =
      let found = channel-on x c m.p1 h (Live n rights) at in
      let y : Client = with_requests (request.channel_over h x.requests) x in
      keeps-doing x (with_standing (On c Leaving) h y) _ _ e is
      (keeps-then x y (with_standing (On c Leaving) h y) (over-requests h x) (keeps-phase c h y found.0 (Live n rights) Leaving found.1 found.3 refl (λ f. refl)))

  -- ---- what is read by an id

  pub reply-keeps : (m : Fields) (e : Effect) (o : Option (Handle × Request)) → Answers x m o e → Keeps x e.core
  reply-keeps m e None is = keeps-doing x x [] [] e is (keeps-itself x)
  reply-keeps m e (Some (q, r)) is = go r.stage is
    where
      go : (s : request.Stage) → Completes x m q r.asked s e → Keeps x e.core
      go request.Open done = keeps-doing x (without_request q x) [] _ e done.2 (keeps-request q x)
      go request.Draining done = keeps-doing x (without_request q x) [] [] e done (keeps-request q x)

  pub confirmed-keeps : (e : Effect) (o : Option Handle) → e ≡ confirmed x o → Keeps x e.core
  confirmed-keeps e None is = keeps-doing x x [] [] e is (keeps-itself x)
  confirmed-keeps e (Some q) is = keeps-doing x (without_subscription q x) [] [] e is (freed-keeps q x)

  pub update-keeps : (m : Fields) (e : Effect) (o : Option Handle) → Updates x m o e → Keeps x e.core
  update-keeps m e None is = keeps-doing x x [] [] e is (keeps-itself x)
  update-keeps m e (Some q) is = keeps-doing x x [] _ e is.2 (keeps-itself x)

  write-keeps : (m : Fields) (e : Effect) (o : Option (Handle × Phase)) → e ≡ write_failed x m o → Keeps x e.core
  write-keeps m e None is = keeps-doing x x [] [] e is (keeps-itself x)
  write-keeps m e (Some (h, Connecting)) is = keeps-doing x x [] [] e is (keeps-itself x)
  write-keeps m e (Some (h, Creating rights)) is = keeps-doing x x [] [] e is (keeps-itself x)
  write-keeps m e (Some (h, Live n rights)) is = keeps-doing x x [] _ e is (keeps-itself x)
  write-keeps m e (Some (h, Leaving)) is = keeps-doing x x [] [] e is (keeps-itself x)
  write-keeps m e (Some (h, Clearing)) is = keeps-doing x x [] [] e is (keeps-itself x)
  write-keeps m e (Some (h, Doomed)) is = keeps-doing x x [] [] e is (keeps-itself x)

  pub refused-keeps : (m : Fields) (e : Effect) (o : Option Handle) → e ≡ subscription_failed x m o → Keeps x e.core
  refused-keeps m e None is = keeps-doing x x [] [] e is (keeps-itself x)
  refused-keeps m e (Some q) is = keeps-doing x (without_subscription q x) [] _ e is (freed-keeps q x)

  pub any-keeps : (m : Fields) (e : Effect) (o : Option (Handle × Request)) → e ≡ any_failed x m o → Keeps x e.core
  any-keeps m e None is = keeps-doing x x [] [] e is (keeps-itself x)
  any-keeps m e (Some (q, r)) is = go r.stage is
    where
      go : (s : request.Stage) → e ≡ request_failed x m q s → Keeps x e.core
      go request.Open done = keeps-doing x (without_request q x) [] _ e done (keeps-request q x)
      go request.Draining done = keeps-doing x x [] [] e done (keeps-itself x)

  pub error-keeps : (m : Fields) (e : Effect) → Fails x c m e → Keeps x e.core
  error-keeps m e fails = elim fails [
    | inr not_whole ↦ keeps-doing x x [] [] e not_whole.1 (keeps-itself x)
    | inl whole ↦ by whole.0 (eqb whole.0.command 4) (eqb whole.0.command 1) whole.2
  ]
    where
      by : (h : Header) (a b : Bool) → e ≡ cond a (write_failed x m (channel_on x c m.p1)) (cond b (subscription_failed x m (subscription_on x c h.p2)) (any_failed x m (answered_by c h.command h.p2 x.requests))) → Keeps x e.core
      by h true b is = write-keeps m e (channel_on x c m.p1) is
      by h false true is = refused-keeps m e (subscription_on x c h.p2) is
      by h false false is = any-keeps m e (answered_by c h.command h.p2 x.requests) is

-- ---- search replies

pub circuit-there : (address : Address) (priority : ℕ) (x : Client) (e : Handle × ClientCircuit) → circuit_to address priority x ≡ Some e → under x.circuits e.0 ≡ Some e.1
circuit-there address priority x e is =
    let f = find-at (λ (w : Handle × ClientCircuit). same_address w.1.address address && eqb w.1.priority priority) (held x.circuits) e is in
    held-under x.circuits f.0 e f.1

-- a channel that is searched for is on a circuit: it waits if that is not connected
pub found-keeps : (x : Client) (c h : Handle) (p : Phase) (here : Channel) → under x.channels h ≡ Some here → here.standing ≡ Searching → is_connecting p ≡ is_none (connection_at x c) → Keeps x (found_on c p h x)
found-keeps x c h p here there searched waits =
    let y : Client = with_standing (On c p) h x in
    keeps-then x y (found_on c p h x)
    (keeps-stood (On c p) h x (λ placed w is. (
      (λ on pass.
          absurd (both_ways (is_on_in was_live on w) (subst (λ (z : Channel). is_on_in was_live on z ≡ false) (one-value x.channels h here w there is) (fails-searched was_live on here searched)) pass)),
      (λ d q e. sym (ap is_connecting (on-phase c d p q e)) ∙ waits ∙ ap (λ (k : Handle). is_none (connection_at x k)) (on-handle c d p q e)),
    )))
    (keeps-searches y _)

pub put-keeps : (x : Client) (c : Handle) (o : Option Connection) (h : Handle) (here : Channel) (e : Effect) → connection_at x c ≡ o → under x.channels h ≡ Some here → here.standing ≡ Searching → e ≡ put_on c o h here x → Keeps x e.core
put-keeps x c None h here e at there searched is = keeps-doing x (found_on c Connecting h x) [] [] e is (found-keeps x c h Connecting here there searched (sym (ap is_none at)))
put-keeps x c (Some conn) h here e at there searched is =
    keeps-doing x (found_on c (Creating 0) h x) _ [] e is (found-keeps x c h (Creating 0) here there searched (sym (ap is_none at)))

-- one more circuit is wanted
pub wanted-keeps : (x : Client) (c : Handle) (d : ClientCircuit) → d.connection ≡ None → MayGive x.circuits c → Keeps x (with_circuit c d x) × (connection_at (with_circuit c d x) c ≡ None)
wanted-keeps x c d none may = (
  record {
    thins = record { channels = thin-itself x.channels; requests = thin-itself x.requests; subscriptions = thin-itself x.subscriptions };
    placed = λ p. record { attached = record { requests = p.attached.requests; subscriptions = p.attached.subscriptions }; waiting = λ h ch e q is stands. p.waiting h ch e q is stands ∙ sym (links e) };
    links = links;
  },
  now,
)
  where
    now : connection_at (with_circuit c d x) c ≡ None
    now = ap connection-of (held-own x.circuits c d may) ∙ none

    was : connection_at x c ≡ None
    was = go (under x.circuits c) refl
      where
        go : (o : Option ClientCircuit) → under x.circuits c ≡ o → connection-of o ≡ None
        go None at = refl
        go (Some v) at = absurd (given-none x.circuits c c v may at refl)

    links : Links x (with_circuit c d x)
    links e = elim (handle-or e c) [
      | inl same ↦ subst (λ (k : Handle). is_none (connection_at (with_circuit c d x) k) ≡ is_none (connection_at x k)) (sym same) (ap is_none (now ∙ sym was))
      | inr other ↦
          ap (λ (o : Option ClientCircuit). is_none (connection-of o))
          (options-agree (under x.circuits e) (under (with_held c d x.circuits) e) (λ v is. held-other x.circuits e c d v may is) (λ v is. elim (held-back x.circuits e c d v is) [
            | inl own ↦ absurd (other own.0)
            | inr old ↦ old
          ]))
    ]

pub puts-keeps : (x : Client) (address : Address) (h : Handle) (here : Channel) (o : Option (Handle × ClientCircuit)) (e : Effect) → circuit_to address here.priority x ≡ o → under x.channels h ≡ Some here → here.standing ≡ Searching → PutsOn x address h here o e → Keeps x e.core
puts-keeps x address h here (Some (c, d)) e at there searched is =
    put-keeps x c d.connection h here e (ap connection-of (circuit-there address here.priority x (c, d) at)) there searched is
puts-keeps x address h here None e at there searched is = elim is [
  | inr full ↦ keeps-doing x x [] [] e full.1 (keeps-itself x)
  | inl new ↦
      let d : ClientCircuit = new_circuit address here.priority false in
      let y : Client = with_circuit new.0 d x in
      let r = wanted-keeps x new.0 d refl new.1 in
      keeps-then x y e.core r.0 (put-keeps y new.0 None h here e r.1 there searched new.2)
]

pub keeps-finds : (x : Client) (address : Address) (cid : ℕ) (o : Option (Handle × Channel)) (e : Effect) → searched_by cid x ≡ o → FindsAt x address o e → Keeps x e.core
keeps-finds x address cid None e at is = keeps-doing x x [] [] e is (keeps-itself x)
keeps-finds x address cid (Some (h, here)) e at is =
    let found = searched-is cid x h here at in
    puts-keeps x address h here (circuit_to address here.priority x) e refl found.0 found.1 is

-- ---- all messages

pub keeps-heard : (x : Client) (c : Handle) (m : Fields) (e : Effect) → IsPlaced x → Hears x c m e → Keeps x e.core
keeps-heard x c m e placed (hears.Search is d there finds) = keeps-finds x (found_at d.address m) m.p2 (searched_by m.p2 x) e refl finds
keeps-heard x c m e placed (hears.AccessRights is does) = rights-keeps c x m e (channel_on x c m.p1) refl does
keeps-heard x c m e placed (hears.CreateChannel is does) = created-keeps c x m e (channel_on x c m.p1) refl does
keeps-heard x c m e placed (hears.CreateChannelFail is does) = failed-keeps c x m e (channel_on x c m.p1) refl does
keeps-heard x c m e placed (hears.ClearChannel is does) = answered-keeps c x placed m e (channel_on x c m.p2) refl does
keeps-heard x c m e placed (hears.ServerDisconnect is does) = left-keeps c x m e (channel_on x c m.p1) refl does
keeps-heard x c m e placed (hears.Reply is does) = reply-keeps c x m e (answered_by c m.command m.p2 x.requests) does
keeps-heard x c m e placed (hears.Confirmation is empty does) = confirmed-keeps c x e (confirmed_by c m.p2 x.subscriptions) does
keeps-heard x c m e placed (hears.Update is some does) = update-keeps c x m e (subscription_on x c m.p2) does
keeps-heard x c m e placed (hears.Error is does) = error-keeps c x m e does
keeps-heard x c m e placed (hears.Other is does) = keeps-doing x x [] [] e does (keeps-itself x)

-- ---- a circuit is connected

-- a channel that waits there was not live
waits-not : (c on : Handle) (ch : Channel) → is_on_in is_connecting c ch ≡ true → is_on_in was_live on ch ≡ false
waits-not c on ch is = go ch.standing is
  where
    phases : (p : Phase) → is_connecting p ≡ true → was_live p ≡ false
    phases Connecting f = refl
    phases (Creating rights) f = refl
    phases (Live n rights) f = absurd (both_ways false refl f)
    phases Leaving f = absurd (both_ways false refl f)
    phases Clearing f = absurd (both_ways false refl f)
    phases Doomed f = refl

    go : (s : Standing) → unwrap_or (option_map is_connecting (phase_on c s)) false ≡ true → unwrap_or (option_map was_live (phase_on on s)) false ≡ false
    go Searching f = refl
    go (On d p) f = by (same_handle d c) (same_handle d on) f
      where
        by : (a b : Bool) → unwrap_or (option_map is_connecting (cond a (Some p) None)) false ≡ true → unwrap_or (option_map was_live (cond b (Some p) None)) false ≡ false
        by true true k = phases p k
        by true false k = refl
        by false b k = absurd (both_ways false refl k)

pub keeps-begun : (c : Handle) (d : ClientCircuit) (x : Client) → under x.circuits c ≡ Some d → d.connection ≡ None → KeepsBut c x (begun c x)
keeps-begun c d x there none = record {
  thins = record { channels = thin-all (creating c) x.channels; requests = thin-itself x.requests; subscriptions = thin-itself x.subscriptions };
  placed = λ p. record {
    attached = record {
      requests = λ q r is. live r.channel r.circuit (p.attached.requests q r is);
      subscriptions = λ g v on is drains. live v.channel on (p.attached.subscriptions g v on is drains);
    };
    waiting = λ h ch e q is stands. (let was = all-back (creating c) x.channels h ch is in waits p h was.0 ch e q was.1 was.2 stands);
  };
  links = links;
}
  where
    connected : ClientCircuit → ClientCircuit
    connected v = record v { connection = Some (new_connection x.moment) }

    links : (e : Handle) → (e ≡ c → ⊥) → is_none (connection_at (begun c x) e) ≡ is_none (connection_at x e)
    links e other = ap (λ (o : Option ClientCircuit). is_none (connection-of o)) (under-other connected x.circuits c e other)

    live : (channel on : Handle) → WasLive x channel on → WasLive (begun c x) channel on
    live channel on was = (creating c was.0, all-there (creating c) x.channels channel was.0 was.1, go (is_on_in is_connecting c was.0) refl)
      where
        go : (b : Bool) → is_on_in is_connecting c was.0 ≡ b → is_on_in was_live on (cond b (record was.0 { standing = On c (Creating 0) }) was.0) ≡ true
        go true is = absurd (both_ways (is_on_in was_live on was.0) (waits-not c on was.0 is) was.2)
        go false is = was.2

    waits : IsPlaced x → (h : Handle) (ch w : Channel) (e : Handle) (q : Phase) → under x.channels h ≡ Some ch → w ≡ creating c ch → w.standing ≡ On e q → is_connecting q ≡ is_none (connection_at (begun c x) e)
    waits p h ch w e q here is stands = go (is_on_in is_connecting c ch) refl (sym (ap (λ (z : Channel). z.standing) is) ∙ stands)
      where
        go : (b : Bool) → is_on_in is_connecting c ch ≡ b → (cond b (record ch { standing = On c (Creating 0) }) ch).standing ≡ On e q → is_connecting q ≡ is_none (connection_at (begun c x) e)
        go true pass f =
            sym (ap is_connecting (on-phase c e (Creating 0) q f))
            ∙ sym (subst (λ (k : Handle). is_none (connection_at (begun c x) k) ≡ false) (on-handle c e (Creating 0) q f) (ap (λ (o : Option ClientCircuit). is_none (connection-of o)) (changed-own connected x.circuits c d there)))
        go false pass f = elim (handle-or e c) [
          | inr other ↦ p.waiting h ch e q here f ∙ sym (links e other)
          | inl same ↦
              let on_c : ch.standing ≡ On c q = f ∙ ap (λ (k : Handle). On k q) same in
              let waiting : is_connecting q ≡ true = p.waiting h ch c q here on_c ∙ ap (λ (o : Option ClientCircuit). is_none (connection-of o)) there ∙ ap is_none none in
              absurd (both_ways (is_on_in is_connecting c ch) pass (is-on is_connecting c ch q on_c ∙ waiting))
        ]

-- ---- datagrams

pub keeps-moment : (moment : ℕ) (x : Client) → Keeps x (record x { moment = moment })
keeps-moment moment x = record {
  thins = record { channels = thin-itself x.channels; requests = thin-itself x.requests; subscriptions = thin-itself x.subscriptions };
  placed = λ p. record { attached = record { requests = p.attached.requests; subscriptions = p.attached.subscriptions }; waiting = p.waiting };
  links = λ c. refl;
}

pub keeps-beacon : (from : Address) (m : Fields) (x : Client) → Keeps x (beacon_heard from m x)
keeps-beacon from m x = record {
  thins = record { channels = thin-itself x.channels; requests = thin-itself x.requests; subscriptions = thin-itself x.subscriptions };
  placed = λ p. record { attached = record { requests = p.attached.requests; subscriptions = p.attached.subscriptions }; waiting = p.waiting };
  links = λ c. refl;
}

pub becomes-keeps : (x z : Client) (e : Effect) → e ≡ becomes z → Keeps x z → Keeps x e.core
becomes-keeps x z e is keeps = subst (λ (w : Effect). Keeps x w.core) (sym is) keeps

pub received-keeps : (from : Address) (x : Client) (m : Fields) (e : Effect) → Receives from x m e → Keeps x e.core
received-keeps from x m e (ends.Search is finds) = keeps-finds x (found_at from m) m.p2 (searched_by m.p2 x) e refl finds
received-keeps from x m e (ends.Beacon is port does) = becomes-keeps x (beacon_heard from m x) e does (keeps-beacon from m x)
received-keeps from x m e (ends.Other not_search not_beacon does) = becomes-keeps x x e does (keeps-itself x)

pub all-received : (from : Address) (ms : List Fields) (x : Client) (e : Effect) → ReceivesAll from x ms e → Keeps x e.core
all-received from [] x e does = becomes-keeps x x e does (keeps-itself x)
all-received from (m ∷ ms) x e does =
    subst (λ (w : Effect). Keeps x w.core) (sym does.4)
    (keeps-then x does.0.core does.1.core (received-keeps from x m does.0 does.2) (all-received from ms does.0.core does.1 does.3))
