-- Whole runs of a queue.
use Rattle.std.proofs.Common.{◌≡◌, Bool, true, false, cond, List, [], ◌∷◌, ◌++◌, Option, Some, None, refl, sym, ap, ◌∙◌, subst, inl, inr}
use Rattle.std.proofs.lemmas.Bool.{cases_Bool}
use Rattle.std.proofs.lemmas.List.{append_assoc}
use Rattle.ca_queue.specs.declared.entry.SubKey.{SubKey}
use Rattle.ca_queue.specs.Keys.{same}
use Rattle.ca_queue.specs.Waiting.{is_of, entries_of, after_post, taken, after_take, after_cancel}
use Rattle.ca_queue.specs.Queue.{Queue, no_queue, added, posted, with_front_taken, cancelled, switched}
use Rattle.ca_queue.specs.Sound.{IsSound}
use Rattle.ca_queue.specs.Runs.{Call, Leads, Follows, posts_to, taken_of, taken_with, Added, Posted, Took, Cancelled, Switched}
use Rattle.ca_queue.proofs.Keys.{same_is, other_sym}
use Rattle.ca_queue.proofs.Soundness.{sound_none, sound_added, sound_posted, sound_taken, sound_cancelled, sound_switched}
use Rattle.ca_queue.proofs.Order.{Follows-push, Follows-replace}
use Rattle.ca_queue.proofs.Subscribers.{entries_posted, others_posted, front_taken, none_taken, entries_cancelled, others_cancelled}

module _ {E : Type 0} where
  -- what holds of every queue holds after every run
  pub sound_after : (calls : List (Call E)) (old new : Queue E) → IsSound old → Leads old calls new → IsSound new
  sound_after [] old new sound run = subst IsSound (sym run) sound
  sound_after (Added key ∷ calls) old new sound run =
      sound_after calls (added key old) new (sound_added key old run.1 run.0 sound) run.2
  sound_after (Posted key entry ∷ calls) old new sound run =
      sound_after calls (posted key entry old) new (sound_posted key entry old run.0 sound) run.1
  sound_after (Took given ∷ calls) old new sound run = sound_after calls (with_front_taken old) new (sound_taken old sound) run.1
  sound_after (Cancelled key ∷ calls) old new sound run = sound_after calls (cancelled key old) new (sound_cancelled key old sound) run
  sound_after (Switched on ∷ calls) old new sound run = sound_after calls (switched on old) new (sound_switched on old sound) run

  -- what one subscription was given and what waits for it follow its posts, after each call
  follows_post : (key : SubKey) (t p : List E) (on : Bool) (k : SubKey) (entry : E) (q : List (SubKey × E)) → Follows (t ++ entries_of key q) p → Follows (t ++ entries_of key (after_post on k entry q)) (cond (same key k) (p ++ entry ∷ []) p)
  follows_post key t p on k entry q follows =
      elim (cases_Bool (same key k)) [
        | inl is ↦
            let e : key ≡ k = same_is key k is in
            rw is (subst (λ (s : SubKey). Follows (t ++ entries_of key (after_post on s entry q)) (p ++ entry ∷ [])) e own)
        | inr other ↦ rw other (subst (λ (es : List E). Follows (t ++ es) p) (sym (others_posted on k key entry q (other_sym key k other))) follows)
      ]
    where
      own : Follows (t ++ entries_of key (after_post on key entry q)) (p ++ entry ∷ [])
      own = elim (entries_posted on key entry q) [
        | inl behind ↦
            let more : Follows (t ++ (entries_of key q ++ entry ∷ [])) (p ++ entry ∷ []) =
            subst (λ (xs : List E). Follows xs (p ++ entry ∷ [])) (append_assoc t (entries_of key q) (entry ∷ [])) (Follows-push (t ++ entries_of key q) p entry follows) in
            subst (λ (es : List E). Follows (t ++ es) (p ++ entry ∷ [])) (sym behind) more
        | inr replaced ↦
            let was : Follows ((t ++ replaced.front) ++ replaced.last ∷ []) p =
            subst (λ (xs : List E). Follows xs p) (ap (λ (es : List E). t ++ es) replaced.was ∙ sym (append_assoc t replaced.front (replaced.last ∷ []))) follows in
            let now : Follows (t ++ (replaced.front ++ entry ∷ [])) (p ++ entry ∷ []) =
            subst (λ (xs : List E). Follows xs (p ++ entry ∷ [])) (append_assoc t replaced.front (entry ∷ [])) (Follows-replace (t ++ replaced.front) p replaced.last entry was) in
            subst (λ (es : List E). Follows (t ++ es) (p ++ entry ∷ [])) (sym replaced.is) now
      ]

  follows_take : (key : SubKey) (t p : List E) (on : Bool) (given : Option (SubKey × E)) (q : List (SubKey × E)) → given ≡ taken on q → Follows (t ++ entries_of key q) p → Follows (taken_with key t given ++ entries_of key (after_take on q)) p
  follows_take key t p on None q is follows = subst (λ (r : List (SubKey × E)). Follows (t ++ entries_of key r) p) (sym (none_taken on q is)) follows
  follows_take key t p on (Some w) q is follows =
      go (is_of key w) (entries_of key (after_take on q)) (subst (λ (r : List (SubKey × E)). Follows (t ++ entries_of key r) p) (front_taken on w q is) follows)
    where
      go : (b : Bool) (es : List E) → Follows (t ++ cond b (w.1 ∷ es) es) p → Follows (cond b (t ++ w.1 ∷ []) t ++ es) p
      go true es f = subst (λ (xs : List E). Follows xs p) (sym (append_assoc t (w.1 ∷ []) es)) f
      go false es f = f

  follows_cancel : (key : SubKey) (t p : List E) (k : SubKey) (q : List (SubKey × E)) → Follows (t ++ entries_of key q) p → Follows (cond (same key k) [] t ++ entries_of key (after_cancel k q)) (cond (same key k) [] p)
  follows_cancel key t p k q follows =
      elim (cases_Bool (same key k)) [
        | inl is ↦
            let e : key ≡ k = same_is key k is in
            let none : entries_of key (after_cancel k q) ≡ [] = subst (λ (s : SubKey). entries_of key (after_cancel s q) ≡ []) e (entries_cancelled key q) in
            rw is (subst (λ (es : List E). Follows es []) (sym none) (record { in_order = tt; newest = refl }))
        | inr other ↦ rw other (subst (λ (es : List E). Follows (t ++ es) p) (sym (others_cancelled k key q (other_sym key k other))) follows)
      ]

  pub follows_after : (key : SubKey) (t p : List E) (calls : List (Call E)) (old new : Queue E) → Follows (t ++ entries_of key old.waiting) p → Leads old calls new → Follows (taken_of key t calls ++ entries_of key new.waiting) (posts_to key p calls)
  follows_after key t p [] old new follows run = subst (λ (q : Queue E). Follows (t ++ entries_of key q.waiting) p) (sym run) follows
  follows_after key t p (Added k ∷ calls) old new follows run = follows_after key t p calls (added k old) new follows run.2
  follows_after key t p (Posted k entry ∷ calls) old new follows run =
      follows_after key t (cond (same key k) (p ++ entry ∷ []) p) calls (posted k entry old) new (follows_post key t p old.events_on k entry old.waiting follows) run.1
  follows_after key t p (Took given ∷ calls) old new follows run =
      follows_after key (taken_with key t given) p calls (with_front_taken old) new (follows_take key t p old.events_on given old.waiting run.0 follows) run.1
  follows_after key t p (Cancelled k ∷ calls) old new follows run =
      follows_after key (cond (same key k) [] t) (cond (same key k) [] p) calls (cancelled k old) new (follows_cancel key t p k old.waiting follows) run
  follows_after key t p (Switched on ∷ calls) old new follows run = follows_after key t p calls (switched on old) new follows run

  pub follows_from_start : (key : SubKey) (calls : List (Call E)) (new : Queue E) → Leads no_queue calls new → Follows (taken_of key [] calls ++ entries_of key new.waiting) (posts_to key [] calls)
  follows_from_start key calls new run = follows_after key [] [] calls no_queue new (record { in_order = tt; newest = refl }) run

  pub sound_from_start : (calls : List (Call E)) (new : Queue E) → Leads no_queue calls new → IsSound new
  sound_from_start calls new run = sound_after calls no_queue new sound_none run
