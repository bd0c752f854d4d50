-- What a message does keeps values and numbers in step.
use Rattle.std.proofs.Common.{◌≡◌, ℕ, Bool, true, false, cond, not, ◌==◌, ◌||◌, List, [], ◌∷◌, ◌++◌, refl, sym, ap, subst, ◌∙◌}
use Rattle.std.specs.Prelude.{filter, map}
use Rattle.std.proofs.lemmas.List.{map-append}
use Rattle.ca_queue.specs.declared.entry.SubKey.{SubKey}
use Rattle.ca_queue.specs.Keys.{AreApart, is_among, same}
use Rattle.ca_queue.specs.Queue.{Queue}
use Rattle.ca_queue.proofs.Keys.{apart_push}
use Rattle.ca_model.specs.Due.{Action, Adds, Applies, Clears, Drops, Opens, Switches}
use Rattle.ca_model.specs.Due as action
use Rattle.ca_model.specs.Server.{Server, ServerEnd, Subscription, key_of, without_subscriptions}
use Rattle.ca_model.specs.ServerSteps.{Acts}
use Rattle.ca_model.specs.Speech.{Stored}
use Rattle.ca_model.specs.ServerEvents.{numbers_after, without_standing}
use Rattle.ca_model.specs.World.{Joined, Standing}
use Rattle.ca_laws_parts.specs.InStep.{EndInStep, InStep, keys_standing}
use Rattle.ca_laws_parts.proofs.InStep.{step-switched, step-taken-in, step-without}

-- ---- keys that are left

map-filter : {A : Type 0} (f : A → SubKey) (p : SubKey → Bool) (xs : List A) → map f (filter (λ (x : A). p (f x)) xs) ≡ filter p (map f xs)
map-filter f p [] = refl
map-filter {A} f p (x ∷ xs) = go (p (f x)) ∙ ap (λ (l : List SubKey). cond (p (f x)) (f x ∷ l) l) (map-filter f p xs)
  where
    go : (b : Bool) → map f (cond b (x ∷ filter (λ (z : A). p (f z)) xs) (filter (λ (z : A). p (f z)) xs)) ≡ cond b (f x ∷ map f (filter (λ (z : A). p (f z)) xs)) (map f (filter (λ (z : A). p (f z)) xs))
    go true = refl
    go false = refl

or-false : (a b : Bool) → a ≡ false → b ≡ false → a || b ≡ false
or-false true b e f = absurd cc
or-false false b e f = f

or-left : (a b : Bool) → a || b ≡ false → a ≡ false
or-left true b e = absurd cc
or-left false b e = refl

or-right : (a b : Bool) → a || b ≡ false → b ≡ false
or-right true b e = absurd cc
or-right false b e = e

fewer-among : (k : SubKey) (p : SubKey → Bool) (keys : List SubKey) → is_among k keys ≡ false → is_among k (filter p keys) ≡ false
fewer-among k p [] none = refl
fewer-among k p (x ∷ keys) none = go (p x) (fewer-among k p keys (or-right (same k x) (is_among k keys) none))
  where
    go : (b : Bool) → is_among k (filter p keys) ≡ false → is_among k (cond b (x ∷ filter p keys) (filter p keys)) ≡ false
    go true rest = or-false (same k x) (is_among k (filter p keys)) (or-left (same k x) (is_among k keys) none) rest
    go false rest = rest

apart-filter : (p : SubKey → Bool) (keys : List SubKey) → AreApart keys → AreApart (filter p keys)
apart-filter p [] apart = tt
apart-filter p (k ∷ keys) apart = go (p k) (apart-filter p keys apart.1)
  where
    go : (b : Bool) → AreApart (filter p keys) → AreApart (cond b (k ∷ filter p keys) (filter p keys))
    go true rest = (fewer-among k p keys apart.0, rest)
    go false rest = rest

-- ---- an end and its circuit

-- Subscriptions are over, in both.
pub end-without : (gone : SubKey → Bool) (e : ServerEnd) (j : Joined) → EndInStep e j → EndInStep (without_subscriptions gone e) (without_standing gone j)
end-without gone e j s =
    let p : SubKey → Bool = λ (k : SubKey). not (gone k) in
    let standing : keys_standing (without_standing gone j) ≡ filter p (keys_standing j) = map-filter (λ (x : Standing). x.key) p j.standing in
    record {
      queues = step-without gone e.queues j.queues s.queues;
      keys = map-filter key_of p e.subscriptions ∙ ap (λ (l : List SubKey). filter p l) s.keys ∙ sym standing;
      apart = subst (λ (l : List SubKey). AreApart l) (sym standing) (apart-filter p (keys_standing j) s.apart);
    }

-- the same queues and subscriptions
end-like : (e new : ServerEnd) (j : Joined) → new.queues ≡ e.queues → new.subscriptions ≡ e.subscriptions → EndInStep e j → EndInStep new j
end-like e new j queues subs s = record {
  queues = subst (λ (l : List (Queue Stored)). InStep l j.queues) (sym queues) s.queues;
  keys = ap (λ (l : List Subscription). map key_of l) subs ∙ s.keys;
  apart = s.apart;
}

-- A message is handled: it begins a subscription only under a key that none has.
pub end-acts : (y : Server) (e new : ServerEnd) (place : ℕ) (did : Action) (j : Joined) → Acts y e did new → ((s : Subscription) → did ≡ Adds s → is_among (key_of s) (keys_standing j) ≡ false) → EndInStep e j → EndInStep new (numbers_after place did j)
end-acts y e new place (Adds s) j acts fresh step =
    let v : Stored = record { value = acts.0.state.value; meta = acts.0.state.meta } in
    let standing : keys_standing (numbers_after place (Adds s) j) ≡ keys_standing j ++ key_of s ∷ [] = map-append (λ (x : Standing). x.key) j.standing (record { key = key_of s; place = place; posts = 1 } ∷ []) in
    record {
      queues = step-taken-in s v place e new j.queues acts.2 step.queues;
      keys = ap (λ (x : ServerEnd). map key_of x.subscriptions) acts.2.leaves ∙ map-append key_of e.subscriptions (s ∷ []) ∙ ap (λ (l : List SubKey). l ++ key_of s ∷ []) step.keys ∙ sym standing;
      apart = subst (λ (l : List SubKey). AreApart l) (sym standing) (apart_push (key_of s) (keys_standing j) step.apart (fresh s refl));
    }
end-acts y e new place (Drops key) j acts fresh step =
    subst (λ (x : ServerEnd). EndInStep x (numbers_after place (Drops key) j)) (sym acts) (end-without (same key) e j step)
end-acts y e new place (Clears sid) j acts fresh step =
    let gone : SubKey → Bool = λ (k : SubKey). k.sid == sid in
    let s = end-without gone e j step in
    subst (λ (x : ServerEnd). EndInStep x (numbers_after place (Clears sid) j)) (sym acts) (record { queues = s.queues; keys = s.keys; apart = s.apart })
end-acts y e new place (Switches on) j acts fresh step =
    subst (λ (x : ServerEnd). EndInStep x (numbers_after place (Switches on) j)) (sym acts)
    (record { queues = step-switched on e.queues j.queues step.queues; keys = step.keys; apart = step.apart })
end-acts y e new place (Opens c) j acts fresh step =
    let s = end-like e new j (ap (λ (x : ServerEnd). x.queues) acts.3) (ap (λ (x : ServerEnd). x.subscriptions) acts.3) step in
    record { queues = s.queues; keys = s.keys; apart = s.apart }
end-acts y e new place action.Greets j acts fresh step = end-like e new j (ap (λ (x : ServerEnd). x.queues) acts) (ap (λ (x : ServerEnd). x.subscriptions) acts) step
end-acts y e new place (action.Names p) j acts fresh step = end-like e new j (ap (λ (x : ServerEnd). x.queues) acts) (ap (λ (x : ServerEnd). x.subscriptions) acts) step
end-acts y e new place action.Nothing j acts fresh step = end-like e new j (ap (λ (x : ServerEnd). x.queues) acts) (ap (λ (x : ServerEnd). x.subscriptions) acts) step
end-acts y e new place (Applies name value busies) j acts fresh step = end-like e new j (ap (λ (x : ServerEnd). x.queues) acts) (ap (λ (x : ServerEnd). x.subscriptions) acts) step
end-acts y e new place (action.Waits name value) j acts fresh step = end-like e new j (ap (λ (x : ServerEnd). x.queues) acts) (ap (λ (x : ServerEnd). x.subscriptions) acts) step
