-- What a caller sees of the entries goes through each call: it is as if the queue held just that.
use Rattle.std.proofs.Common.{◌≡◌, ℕ, ◌-◌, Bool, true, false, not, ◌&&◌, ◌||◌, cond, List, [], ◌∷◌, ◌++◌, length, drop, None, refl, sym, ap, ◌∙◌, inl, inr, arith, ltb, leb}
use Rattle.std.specs.List.{list_any, filter}
use Rattle.std.proofs.lemmas.Bool.{cases_Bool}
use Rattle.std.proofs.lemmas.List.{length-map, map-append}
use Rattle.ca_text.specs.Limits.{queue_places, queue_low_places}
use Rattle.ca_queue.specs.declared.entry.SubKey.{SubKey}
use Rattle.ca_queue.specs.Keys.{same}
use Rattle.ca_queue.specs.Waiting.{is_of, has_entry, count_of, replaces, with_last, after_post, front, may_take, taken, after_take, after_cancel}
use Rattle.ca_queue.specs.Queue.{Queue, posted, with_front_taken, cancelled}
use Rattle.ca_queue.specs.Images.{images, image_if, queue_images}
use Rattle.ca_queue.proofs.Keys.{count_by-cons}

module _ {E F : Type 0} (f : E → F) where
  has_images : (k : SubKey) (q : List (SubKey × E)) → has_entry k (images f q) ≡ has_entry k q
  has_images k [] = refl
  has_images k (w ∷ q) = ap (λ (b : Bool). same k w.0 || b) (has_images k q)

  count_images : (k : SubKey) (q : List (SubKey × E)) → count_of k (images f q) ≡ count_of k q
  count_images k [] = refl
  count_images k (w ∷ q) =
      omega (arith, count_images k q, count_by-cons (is_of k) w q, count_by-cons (is_of k) (w.0, f w.1) (images f q))

  -- a test of subscriptions, which answers alike for both
  any_images : (p r : SubKey → Bool) (q : List (SubKey × E)) → ((k : SubKey) → p k ≡ r k) → list_any (λ w. p w.0) (images f q) ≡ list_any (λ w. r w.0) q
  any_images p r [] agree = refl
  any_images p r (w ∷ q) agree = rw (agree w.0) (ap (λ (b : Bool). r w.0 || b) (any_images p r q agree))

  replaces_images : (on : Bool) (key : SubKey) (q : List (SubKey × E)) → replaces on key (images f q) ≡ replaces on key q
  replaces_images on key q =
      ap (λ (b : Bool). b && (leb (queue_places - length (images f q)) queue_low_places || not on)) (has_images key q)
      ∙ ap (λ (n : ℕ). has_entry key q && (leb (queue_places - n) queue_low_places || not on)) (length-map q (λ w. (w.0, f w.1)))

  may_take_images : (on : Bool) (q : List (SubKey × E)) → may_take on (images f q) ≡ may_take on q
  may_take_images on q =
      ap (λ (b : Bool). on || b) (any_images (λ k. ltb 1 (count_of k (images f q))) (λ k. ltb 1 (count_of k q)) q (λ k. ap (ltb 1) (count_images k q)))

  with_last_images : (key : SubKey) (entry : E) (q : List (SubKey × E)) → with_last key (f entry) (images f q) ≡ images f (with_last key entry q)
  with_last_images key entry [] = refl
  with_last_images key entry (w ∷ q) =
      ap (λ (h : Bool). cond (same key w.0 && not h) ((key, f entry) ∷ images f q) ((w.0, f w.1) ∷ with_last key (f entry) (images f q))) (has_images key q)
      ∙ go (same key w.0 && not (has_entry key q)) (with_last_images key entry q)
    where
      go : (b : Bool) → with_last key (f entry) (images f q) ≡ images f (with_last key entry q) → cond b ((key, f entry) ∷ images f q) ((w.0, f w.1) ∷ with_last key (f entry) (images f q)) ≡ images f (cond b ((key, entry) ∷ q) (w ∷ with_last key entry q))
      go true rest = refl
      go false rest = ap (λ (r : List (SubKey × F)). (w.0, f w.1) ∷ r) rest

  images_post : (on : Bool) (key : SubKey) (entry : E) (q : List (SubKey × E)) → after_post on key (f entry) (images f q) ≡ images f (after_post on key entry q)
  images_post on key entry q =
      ap (λ (b : Bool). cond b (with_last key (f entry) (images f q)) (images f q ++ (key, f entry) ∷ [])) (replaces_images on key q)
      ∙ go (replaces on key q)
    where
      go : (b : Bool) → cond b (with_last key (f entry) (images f q)) (images f q ++ (key, f entry) ∷ []) ≡ images f (cond b (with_last key entry q) (q ++ (key, entry) ∷ []))
      go true = with_last_images key entry q
      go false = sym (map-append (λ w. (w.0, f w.1)) q ((key, entry) ∷ []))

  images_take : (on : Bool) (q : List (SubKey × E)) → after_take on (images f q) ≡ images f (after_take on q)
  images_take on q =
      ap (λ (b : Bool). cond b (drop 1 (images f q)) (images f q)) (may_take_images on q) ∙ go (may_take on q) q
    where
      go : (b : Bool) (q : List (SubKey × E)) → cond b (drop 1 (images f q)) (images f q) ≡ images f (cond b (drop 1 q) q)
      go true [] = refl
      go true (w ∷ q) = refl
      go false q = refl

  images_cancel : (key : SubKey) (q : List (SubKey × E)) → after_cancel key (images f q) ≡ images f (after_cancel key q)
  images_cancel key [] = refl
  images_cancel key (w ∷ q) =
      elim (cases_Bool (same key w.0)) [
        | inl is ↦ rw is (images_cancel key q)
        | inr other ↦ rw other (ap (λ r. (w.0, f w.1) ∷ r) (images_cancel key q))
      ]

  -- what a take returns
  pub taken_images : (on : Bool) (q : List (SubKey × E)) → taken on (images f q) ≡ image_if f (taken on q)
  taken_images on q = ap (λ (b : Bool). cond b (front (images f q)) None) (may_take_images on q) ∙ go (may_take on q) q
    where
      go : (b : Bool) (q : List (SubKey × E)) → cond b (front (images f q)) None ≡ image_if f (cond b (front q) None)
      go true [] = refl
      go true (w ∷ q) = refl
      go false q = refl

  -- the queue after each call that changes what waits
  pub posted_images : (key : SubKey) (entry : E) (q : Queue E) → posted key (f entry) (queue_images f q) ≡ queue_images f (posted key entry q)
  posted_images key entry q =
      ap (λ (r : List (SubKey × F)). let s : Queue F = record { waiting = r; subscriptions = q.subscriptions; events_on = q.events_on } in s) (images_post q.events_on key entry q.waiting)

  pub front_taken_images : (q : Queue E) → with_front_taken (queue_images f q) ≡ queue_images f (with_front_taken q)
  front_taken_images q =
      ap (λ (r : List (SubKey × F)). let s : Queue F = record { waiting = r; subscriptions = q.subscriptions; events_on = q.events_on } in s) (images_take q.events_on q.waiting)

  pub cancelled_images : (key : SubKey) (q : Queue E) → cancelled key (queue_images f q) ≡ queue_images f (cancelled key q)
  cancelled_images key q =
      ap (λ (r : List (SubKey × F)). let s : Queue F = record { waiting = r; subscriptions = filter (λ k. not (same key k)) q.subscriptions; events_on = q.events_on } in s) (images_cancel key q.waiting)
