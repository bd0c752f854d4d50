-- How many notices a step of a client's end tells: those of a channel's requests and one more at
-- most, or those of the end of its circuit.
use Rattle.std.proofs.Common.{◌≡◌, ◌⊎◌, ℕ, ◌+◌, ◌≤◌, ◌==◌, Bool, true, false, inl, inr, List, [], ◌∷◌, Option, Some, None, length, refl, sym, ap, subst, arith}
use Rattle.std.specs.Prelude.{if◌then◌else◌}
use Rattle.std.proofs.lemmas.List.{length-append}
use Rattle.ca_arena.specs.declared.handle.Handle.{Handle}
use Rattle.ca_dbr.specs.declared.value.Outcome.TheVariants as outcome
use Rattle.ca_requests.specs.Requests.{Asked, Request, Stage, answered_by, asks_on}
use Rattle.ca_requests.specs.Requests as request
use Rattle.ca_monitor.specs.Subscriptions.{confirmed_by}
use Rattle.ca_text.specs.Command.{command_number}
use Rattle.ca_text.specs.declared.command.Command.TheVariants as command
use Rattle.ca_wire.specs.declared.header.Header.{Header}
use Rattle.ca_wire.specs.Fields.{Fields}
use Rattle.ca_model.specs.Answers.{Closing, Notice, Stepped}
use Rattle.ca_model.specs.Answers as notice
use Rattle.ca_model.specs.Client.{Channel, Client, ClientCircuit, Clearing, Connecting, Connection, Creating, Doomed, Leaving, Live, Phase, channel_on, circuit_to, connection_at, disconnections, farewell}
use Rattle.ca_model.specs.ClientEnds.{StepsOn, after_taking}
use Rattle.ca_model.specs.Ends.{Address}
use Rattle.ca_model.specs.Hears.{Answers, Completes, Effect, Fails, FindsAt, Hears, PutsOn, Updates, any_failed, clear_answered, confirmed, created, failed, failing, found_at, subscription_on, left, put_on, request_failed, rights_told, searched_by, subscription_failed, write_failed}
use Rattle.ca_model.specs.Hears as hears
use Rattle.ca_world_data.specs.ClientSteps.{TellsAtMost, notices_in}

-- ---- one notice at most, or those of a channel's requests and one

-- no notice, or one
abbrev pub IsFew : List Notice → Type 0
IsFew ns = (ns ≡ []) ⊎ ((o : Notice) × (ns ≡ o ∷ []))

few-length : (ns : List Notice) (n : ℕ) → IsFew ns → length ns ≤ n + 1
few-length ns n (inl none) = (let l = ap (λ (z : List Notice). length z) none in omega (arith, l))
few-length ns n (inr (o, one)) = (let l = ap (λ (z : List Notice). length z) one in omega (arith, l))

-- the same of an effect that is the same
few-same : (e f : Effect) → e ≡ f → IsFew f.notices → IsFew e.notices
few-same e f is few = subst (λ (z : Effect). IsFew z.notices) (sym is) few

module _ (x : Client) (c : Handle) (m : Fields) where
  rights-few : (o : Option (Handle × Phase)) → IsFew (rights_told x c m o).notices
  rights-few None = inl refl
  rights-few (Some (h, Connecting)) = inl refl
  rights-few (Some (h, Creating r)) = inl refl
  rights-few (Some (h, Live n r)) = inl refl
  rights-few (Some (h, Leaving)) = inl refl
  rights-few (Some (h, Clearing)) = inl refl
  rights-few (Some (h, Doomed)) = inl refl

  created-few : (o : Option (Handle × Phase)) → IsFew (created x c m o).notices
  created-few None = inl refl
  created-few (Some (h, Connecting)) = inl refl
  created-few (Some (h, Creating r)) = inr (notice.Live h, refl)
  created-few (Some (h, Live n r)) = inl refl
  created-few (Some (h, Leaving)) = inl refl
  created-few (Some (h, Clearing)) = inl refl
  created-few (Some (h, Doomed)) = inl refl

  failed-few : (o : Option (Handle × Phase)) → IsFew (failed x o).notices
  failed-few None = inl refl
  failed-few (Some (h, Connecting)) = inl refl
  failed-few (Some (h, Creating r)) = inl refl
  failed-few (Some (h, Live n r)) = inl refl
  failed-few (Some (h, Leaving)) = inl refl
  failed-few (Some (h, Clearing)) = inl refl
  failed-few (Some (h, Doomed)) = inl refl

  cleared-few : (o : Option (Handle × Phase)) → IsFew (clear_answered x c o).notices
  cleared-few None = inl refl
  cleared-few (Some (h, Connecting)) = inl refl
  cleared-few (Some (h, Creating r)) = inl refl
  cleared-few (Some (h, Live n r)) = inl refl
  cleared-few (Some (h, Leaving)) = inl refl
  cleared-few (Some (h, Clearing)) = inl refl
  cleared-few (Some (h, Doomed)) = inl refl

  completes-few : (q : Handle) (a : Asked) (s : Stage) (e : Effect) → Completes x m q a s e → IsFew e.notices
  completes-few q a request.Open e (o, means, is) = inr (notice.Completed q o, ap (λ (z : Effect). z.notices) is)
  completes-few q a request.Draining e is = inl (ap (λ (z : Effect). z.notices) is)

  answers-few : (o : Option (Handle × Request)) (e : Effect) → Answers x m o e → IsFew e.notices
  answers-few None e is = inl (ap (λ (z : Effect). z.notices) is)
  answers-few (Some (q, r)) e is = completes-few q r.asked r.stage e is

  confirmed-few : (o : Option Handle) → IsFew (confirmed x o).notices
  confirmed-few None = inl refl
  confirmed-few (Some s) = inl refl

  updates-few : (o : Option Handle) (e : Effect) → Updates x m o e → IsFew e.notices
  updates-few None e is = inl (ap (λ (z : Effect). z.notices) is)
  updates-few (Some s) e (o, means, is) = inr (notice.Update s o, ap (λ (z : Effect). z.notices) is)

  write-few : (o : Option (Handle × Phase)) → IsFew (write_failed x m o).notices
  write-few None = inl refl
  write-few (Some (h, Connecting)) = inl refl
  write-few (Some (h, Creating r)) = inl refl
  write-few (Some (h, Live n r)) = inr (notice.WriteRefused h (record { number = m.p2 }), refl)
  write-few (Some (h, Leaving)) = inl refl
  write-few (Some (h, Clearing)) = inl refl
  write-few (Some (h, Doomed)) = inl refl

  subscription-few : (o : Option Handle) → IsFew (subscription_failed x m o).notices
  subscription-few None = inl refl
  subscription-few (Some s) = inr (notice.SubscriptionEnded s (record { number = m.p2 }), refl)

  request-few : (q : Handle) (s : Stage) → IsFew (request_failed x m q s).notices
  request-few q request.Open = inr (notice.Completed q (outcome.Failed (record { number = m.p2 })), refl)
  request-few q request.Draining = inl refl

  any-few : (o : Option (Handle × Request)) → IsFew (any_failed x m o).notices
  any-few None = inl refl
  any-few (Some (q, r)) = request-few q r.stage

  failing-few : (h : Header) → IsFew (failing x c m h).notices
  failing-few h =
      go (h.command == command_number command.Write) (h.command == command_number command.EventAdd)
      (write_failed x m (channel_on x c m.p1)) (subscription_failed x m (subscription_on x c h.p2)) (any_failed x m (answered_by c h.command h.p2 x.requests))
      (write-few (channel_on x c m.p1)) (subscription-few (subscription_on x c h.p2)) (any-few (answered_by c h.command h.p2 x.requests))
    where
      go : (a b : Bool) (f g k : Effect) → IsFew f.notices → IsFew g.notices → IsFew k.notices → IsFew (if a then f else if b then g else k).notices
      go true b f g k p q r = p
      go false true f g k p q r = q
      go false false f g k p q r = r

  fails-few : (e : Effect) → Fails x c m e → IsFew e.notices
  fails-few e (inl (h, quotes, is)) = few-same e (failing x c m h) is (failing-few h)
  fails-few e (inr (none, is)) = inl (ap (λ (z : Effect). z.notices) is)

  put-few : (b : Handle) (o : Option Connection) (h : Handle) (here : Channel) (y : Client) → IsFew (put_on b o h here y).notices
  put-few b None h here y = inl refl
  put-few b (Some k) h here y = inl refl

  puts-few : (a : Address) (h : Handle) (here : Channel) (o : Option (Handle × ClientCircuit)) (e : Effect) → PutsOn x a h here o e → IsFew e.notices
  puts-few a h here (Some (b, d)) e is = few-same e (put_on b d.connection h here x) is (put-few b d.connection h here x)
  puts-few a h here None e (inl (b, may, is)) = inl (ap (λ (z : Effect). z.notices) is)
  puts-few a h here None e (inr (full, is)) = inl (ap (λ (z : Effect). z.notices) is)

  finds-few : (a : Address) (o : Option (Handle × Channel)) (e : Effect) → FindsAt x a o e → IsFew e.notices
  finds-few a None e is = inl (ap (λ (z : Effect). z.notices) is)
  finds-few a (Some (h, here)) e is = puts-few a h here (circuit_to a here.priority x) e is

  -- a channel that is lost tells of its requests
  left-tells : (n : ℕ) → ((h : Handle) → length (disconnections (asks_on h) x) ≤ n) → (o : Option (Handle × Phase)) → length (left x c o).notices ≤ n + 1
  left-tells n each None = omega arith
  left-tells n each (Some (h, Connecting)) = omega arith
  left-tells n each (Some (h, Creating r)) = omega arith
  left-tells n each (Some (h, Live s r)) =
      let few = each h in
      let both = length-append (disconnections (asks_on h) x) (notice.Lost h ∷ []) in
      omega (arith, few, both)
  left-tells n each (Some (h, Leaving)) = omega arith
  left-tells n each (Some (h, Clearing)) = omega arith
  left-tells n each (Some (h, Doomed)) = omega arith

  heard-tells : (e : Effect) (n : ℕ) → ((h : Handle) → length (disconnections (asks_on h) x) ≤ n) → Hears x c m e → length e.notices ≤ n + 1
  heard-tells e n each (hears.Search is d there finds) = few-length e.notices n (finds-few (found_at d.address m) (searched_by m.p2 x) e finds)
  heard-tells e n each (hears.AccessRights is effect) = few-length e.notices n (few-same e (rights_told x c m (channel_on x c m.p1)) effect (rights-few (channel_on x c m.p1)))
  heard-tells e n each (hears.CreateChannel is effect) = few-length e.notices n (few-same e (created x c m (channel_on x c m.p1)) effect (created-few (channel_on x c m.p1)))
  heard-tells e n each (hears.CreateChannelFail is effect) = few-length e.notices n (few-same e (failed x (channel_on x c m.p1)) effect (failed-few (channel_on x c m.p1)))
  heard-tells e n each (hears.ClearChannel is effect) = few-length e.notices n (few-same e (clear_answered x c (channel_on x c m.p2)) effect (cleared-few (channel_on x c m.p2)))
  heard-tells e n each (hears.ServerDisconnect is effect) = subst (λ (z : Effect). length z.notices ≤ n + 1) (sym effect) (left-tells n each (channel_on x c m.p1))
  heard-tells e n each (hears.Reply is answers) = few-length e.notices n (answers-few (answered_by c m.command m.p2 x.requests) e answers)
  heard-tells e n each (hears.Confirmation is none effect) = few-length e.notices n (few-same e (confirmed x (confirmed_by c m.p2 x.subscriptions)) effect (confirmed-few (confirmed_by c m.p2 x.subscriptions)))
  heard-tells e n each (hears.Update is some updates) = few-length e.notices n (updates-few (subscription_on x c m.p2) e updates)
  heard-tells e n each (hears.Error is fails) = few-length e.notices n (fails-few e fails)
  heard-tells e n each (hears.Other other effect) = few-length e.notices n (inl (ap (λ (z : Effect). z.notices) effect))

-- a step on a circuit
pub step-tells : (x : Client) (c : Handle) (requests channels : ℕ) → ((h : Handle) → length (disconnections (asks_on h) x) ≤ requests) → length (farewell c x) ≤ requests + channels → TellsAtMost (requests + channels + 1) x c
step-tells x c requests channels each gone did sent new steps = go (connection_at x c) did steps
  where
    go : (o : Option Connection) (did : Stepped) → StepsOn x c o did sent new → length (notices_in did) ≤ requests + channels + 1
    go None (notice.Closed k) s = (let l = ap (λ (z : Closing). length z.notices) s.0 in omega (arith, l))
    go None (notice.Notices told) s = absurd s
    go None notice.NeedBytes s = absurd s
    go (Some d) (notice.Notices told) t =
        let l = heard-tells (after_taking c t.rest x) c t.m (record { core = new; sent = sent; notices = told }) requests each t.hears in
        omega (arith, l)
    go (Some d) notice.NeedBytes s = omega arith
    go (Some d) (notice.Closed k) s = (let l = ap (λ (z : Closing). length z.notices) s.1.0 in omega (arith, l, gone))
