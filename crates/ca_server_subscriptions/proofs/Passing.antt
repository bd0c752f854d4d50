-- An update that passes by the queues of an end.
use Rattle.std.proofs.Common.{◌≡◌, ℕ, Bool, true, cond, List, [], ◌∷◌, filter, map, Option, Some, None, refl, sym, ap, ◌∙◌, subst}
use Rattle.std.specs.Option.{IfSome}
use Rattle.std.specs.List.{fold, list_any}
use Rattle.ca_text.specs.Place.{At}
use Rattle.ca_queue.specs.Circuit.{HasAt, Takes, queue_posted}
use Rattle.ca_queue.proofs.Circuits.{idle-rests}
use Rattle.ca_wire.specs.declared.requests.Wanted.{Wanted}
use Rattle.ca_model.specs.Server.{Subscription, concerns, key_of}
use Rattle.ca_model.specs.Speech.{Stored}
use Rattle.ca_server_subscriptions.specs.ByRecord.{IsOnlyOn, Receiver, is_masked, receiver_of, receivers_of}
use Rattle.ca_server_subscriptions.specs.Owing.{AreEmpty, AreOn}
use Rattle.ca_server_subscriptions.specs.Passing.{IsWantedBy, PassesBy}
use Rattle.ca_server_subscriptions.specs.Subscribed.{ArePlaced, Standings, Subscribed, after_post, subscriptions_in}
use Rattle.ca_server_subscriptions.proofs.Owing.{one-takes}
use Rattle.ca_server_subscriptions.proofs.Placing.{Q, alike-posted, placed-alike, room-is, whole}
use Rattle.ca_server_subscriptions.proofs.Pumps.{gives-one}
use Rattle.ca_server_subscriptions.proofs.Receivers.{any-on, posts-all, receiver-has}

module _ (es : Standings) (qs : List Q) (p : ArePlaced es qs) (name : List ℕ) (mask : ℕ) (of : Subscription × ℕ) (only_one : IsOnlyOn name of es) (w : Wanted) (wants : IsWantedBy mask of.0 w) where
  abbrev r : Receiver
  r = receiver_of (only_one.0, of)

  only_receiver : receivers_of name es ≡ r ∷ []
  only_receiver = only_one.1

  has : HasAt qs r.queue r.key
  has = receiver-has es qs name 0 r p (subst (λ (rs : List Receiver). At rs 0 r) (sym only_receiver) refl)

  -- the queues after the post
  abbrev posted : Stored → List Q
  posted v = map (queue_posted r.key v) qs

  posted-is : (v : Stored) → posted v ≡ fold (λ (rs : List Q) (x : Subscription). map (queue_posted (key_of x) v) rs) qs (filter (concerns name mask) (subscriptions_in es))
  posted-is v =
      ap (λ (b : Bool). fold (λ (rs : List Q) (x : Receiver). map (queue_posted x.key v) rs) qs (cond b (r ∷ []) [])) (sym wants.0)
      ∙ ap (λ (rs : List Receiver). fold (λ (zs : List Q) (x : Receiver). map (queue_posted x.key v) zs) qs (filter (is_masked mask) rs)) (sym only_receiver)
      ∙ posts-all name mask v es qs p.keyed

  placed : (v : Stored) → ArePlaced es (posted v)
  placed v = placed-alike es qs (posted v) (alike-posted r.key v qs) p

  after : (v : Stored) → whole es (posted v) (placed v) ≡ after_post name mask v (whole es qs p)
  after v = λ i. record { subscriptions = subscriptions_in es; queues = posted-is v i }

  passes-by : (old : Subscribed) → AreOn qs → AreEmpty qs → whole es qs p ≡ old → PassesBy name mask w old
  passes-by old on empty is = subst (λ (s : Subscribed). PassesBy name mask w s) is (record {
    on = any-on name es ∙ ap (λ (rs : List Receiver). list_any (λ (x : Receiver). true) rs) only_receiver;
    rests = λ i q lt at. idle-rests q (empty i q at);
    gives = λ v.
        let takes : Takes (posted v) (Some (r.queue, r.key, v)) qs = one-takes r.queue r.key v qs on empty (has, λ i also. p.one i r.queue r.key also has) in
        gives-one es (posted v) (placed v) r.queue r.key v qs takes (after_post name mask v (whole es qs p)) of w (after v) only_one.2 wants.1;
    room = λ v. room-is es (posted v) (placed v) (after_post name mask v (whole es qs p)) (after v);
  })

pub if-passes : (es : Standings) (qs : List Q) (p : ArePlaced es qs) (name : List ℕ) (mask : ℕ) (of : Subscription × ℕ) (old : Subscribed) (o : Option Wanted) → IsOnlyOn name of es → AreOn qs → AreEmpty qs
    → whole es qs p ≡ old → IfSome o (λ w. IsWantedBy mask of.0 w) → IfSome o (λ w. PassesBy name mask w old)
if-passes es qs p name mask of old None only_one on empty is wants = tt
if-passes es qs p name mask of old (Some w) only_one on empty is wants = passes-by es qs p name mask of only_one w wants old on empty is
