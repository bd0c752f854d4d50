-- Laws of lists of which some items were left out.
use Rattle.std.proofs.Common.{◌≡◌, List, [], ◌∷◌, ◌++◌, Option, Some, None, refl, sym, ◌∙◌, inl, inr}
use Rattle.ca_queue.specs.Order.{Sub, last_from}
use Rattle.ca_queue.specs.Runs.{Follows}

module _ {A : Type 0} where
  -- the same item after both
  Sub-push : (xs ys : List A) (z : A) → Sub xs ys → Sub (xs ++ z ∷ []) (ys ++ z ∷ [])
  Sub-push [] [] z sub = inl (refl, tt)
  Sub-push [] (y ∷ ys) z sub = inr (Sub-push [] ys z tt)
  Sub-push (x ∷ xs) [] z sub = absurd sub
  Sub-push (x ∷ xs) (y ∷ ys) z (inl both) = inl (both.0, Sub-push xs ys z both.1)
  Sub-push (x ∷ xs) (y ∷ ys) z (inr later) = inr (Sub-push (x ∷ xs) ys z later)

  -- the last item is left out too
  Sub-front : (xs ys : List A) (z : A) → Sub (xs ++ z ∷ []) ys → Sub xs ys
  Sub-front [] ys z sub = tt
  Sub-front (x ∷ xs) [] z sub = absurd sub
  Sub-front (x ∷ xs) (y ∷ ys) z (inl both) = inl (both.0, Sub-front xs ys z both.1)
  Sub-front (x ∷ xs) (y ∷ ys) z (inr later) = inr (Sub-front (x ∷ xs) ys z later)

  pub last_push : (last : Option A) (xs : List A) (z : A) → last_from last (xs ++ z ∷ []) ≡ Some z
  last_push last [] z = refl
  last_push last (x ∷ xs) z = last_push (Some x) xs z

  -- one more item was posted
  pub Follows-push : (seen posts : List A) (z : A) → Follows seen posts → Follows (seen ++ z ∷ []) (posts ++ z ∷ [])
  Follows-push seen posts z follows =
      record { in_order = Sub-push seen posts z follows.in_order; newest = last_push None seen z ∙ sym (last_push None posts z) }

  -- it took the place of the last one
  pub Follows-replace : (front posts : List A) (y z : A) → Follows (front ++ y ∷ []) posts → Follows (front ++ z ∷ []) (posts ++ z ∷ [])
  Follows-replace front posts y z follows = record {
    in_order = Sub-push front posts z (Sub-front front posts y follows.in_order);
    newest = last_push None front z ∙ sym (last_push None posts z);
  }
