-- A message that a client sends goes on one circuit, and all others are as they were.
use Rattle.std.proofs.Common.{◌≡◌, ℕ, zero, suc, Bool, true, false, List, [], ◌∷◌, ◌++◌, Option, Some, None, eqb, refl, sym, ap, ◌∙◌, arith}
use Rattle.std.specs.Prelude.{◌&&◌, cond, map, slice_set}
use Rattle.std.proofs.lemmas.Bool.{eq-eqb, eqb-true}
use Rattle.std.proofs.lemmas.List.{append-nil}
use Rattle.ca_arena.specs.declared.handle.Handle.{Handle}
use Rattle.ca_ids.specs.Table.{same_handle}
use Rattle.ca_text.specs.Place.{At}
use Rattle.ca_text.proofs.Places.{some_is}
use Rattle.ca_model.specs.Answers.{Sending}
use Rattle.ca_model.specs.History as history
use Rattle.ca_model.specs.ClientEvents.{sent_on}
use Rattle.ca_model.specs.World as model
use Rattle.ca_model.specs.World.{Joined}
use Rattle.ca_model.proofs.Handles.{same-is, same-itself}
use Rattle.ca_world_data.specs.Found.{AreNumbered, IsAt, IsNowhere}
use Rattle.ca_world_data.specs.Speaking.{GoesBy, GoesUp, sent_up, stamped, with_up}
use Rattle.ca_world_data.proofs.Indexes.{one-at-client}

-- ---- handles

-- ---- lists

-- one that changes, among others that stay
pub map-one : {A : Type 0} (f : A → A) (xs : List A) (k : ℕ) (x : A) → At xs k x → ((l : ℕ) (y : A) → At xs l y → (l ≡ k → ⊥) → f y ≡ y) → map f xs ≡ slice_set xs k (f x)
map-one f [] k x at others = refl
map-one {A} f (z ∷ xs) zero x at others =
    (λ t. f (some_is z x at t) ∷ all xs (λ l y there. others (suc l) y there (λ e. let d : suc l ≡ 0 = e in omega arith)) t)
  where
    all : (ys : List A) → ((l : ℕ) (y : A) → At ys l y → f y ≡ y) → map f ys ≡ ys
    all [] h = refl
    all (y ∷ ys) h = λ t. h zero y refl t ∷ all ys (λ l v there. h (suc l) v there) t
map-one f (z ∷ xs) (suc k) x at others =
    λ t. others zero z refl (λ e. let d : 0 ≡ suc k = e in omega arith) t ∷ map-one f xs k x at (λ l y there other. others (suc l) y there (λ e. other (let d : suc l ≡ suc k = e in omega arith))) t

-- ---- one message

module _ (i : ℕ) (n : model.Names) (s : Sending) where
  -- it goes on this circuit
  pub sent-here : (j : Joined) → j.client ≡ i → j.lists.client_open ≡ true → j.at_client ≡ s.circuit → sent_on i n (s ∷ []) j ≡ stamped n s ∷ []
  sent-here j mine on here = go (eqb j.client i) j.lists.client_open (same_handle s.circuit j.at_client) (eq-eqb j.client i mine) on (ap (λ (h : Handle). same_handle h j.at_client) (sym here) ∙ same-itself j.at_client)
    where
      go : (a b c : Bool) → a ≡ true → b ≡ true → c ≡ true → cond (a && b) (map (stamped n) (cond c (s ∷ []) [])) [] ≡ stamped n s ∷ []
      go true true true p q r = refl
      go true true false p q r = absurd cc
      go true false c p q r = absurd cc
      go false b c p q r = absurd cc

  -- it goes on another
  pub sent-elsewhere : (j : Joined) → (j.client ≡ i → j.lists.client_open ≡ true → j.at_client ≡ s.circuit → ⊥) → sent_on i n (s ∷ []) j ≡ []
  sent-elsewhere j other = go (eqb j.client i) j.lists.client_open (same_handle s.circuit j.at_client) refl refl refl
    where
      go : (a b c : Bool) → eqb j.client i ≡ a → j.lists.client_open ≡ b → same_handle s.circuit j.at_client ≡ c → cond (a && b) (map (stamped n) (cond c (s ∷ []) [])) [] ≡ []
      go true true true p q r = absurd (other (eqb-true j.client i p) q (sym (same-is s.circuit j.at_client r)))
      go true true false p q r = refl
      go true false c p q r = refl
      go false b c p q r = refl

  -- a circuit on which it does not go is as it was
  stays : (j : Joined) → (j.client ≡ i → j.lists.client_open ≡ true → j.at_client ≡ s.circuit → ⊥) → sent_up i n (s ∷ []) j ≡ j
  stays j other =
      let up : j.lists.up ++ sent_on i n (s ∷ []) j ≡ j.lists.up = ap (λ (u : List history.Sent). j.lists.up ++ u) (sent-elsewhere j other) ∙ append-nil j.lists.up in
      λ t. record j { lists = record j.lists { up = up t } }

  -- of all circuits one has it
  pub sent-one : (numbers : List ℕ) (ks : List Joined) → AreNumbered numbers ks i → (k : ℕ) (a : IsAt ks i s.circuit k) → map (sent_up i n (s ∷ [])) ks ≡ slice_set ks k (with_up (stamped n s) a.j)
  sent-one numbers ks h k a =
      map-one (sent_up i n (s ∷ [])) ks k a.j a.at others
      ∙ ap (λ (u : List history.Sent). slice_set ks k (record a.j { lists = record a.j.lists { up = a.j.lists.up ++ u } })) (sent-here a.j a.mine a.is_open a.here)
    where
      others : (l : ℕ) (y : Joined) → At ks l y → (l ≡ k → ⊥) → sent_up i n (s ∷ []) y ≡ y
      others l y there apart =
          stays y (λ mine on here. apart (one-at-client numbers ks i h l k y a.j there a.at mine a.mine on a.is_open (here ∙ sym a.here)))

  -- no circuit has it
  pub sent-nowhere : (ks : List Joined) → IsNowhere ks i s.circuit → map (sent_up i n (s ∷ [])) ks ≡ ks
  sent-nowhere [] none = refl
  sent-nowhere (j ∷ ks) none =
      λ t. stays j (none 0 j refl) t ∷ sent-nowhere ks (λ k d at. none (suc k) d at) t

  -- what was put on the circuit that was found is what the message makes of all
  pub sent-by : (numbers : List ℕ) (circuit : Option ℕ) (ks ks' : List Joined) → AreNumbered numbers ks i → GoesBy circuit ks i s.circuit → GoesUp circuit (stamped n s) ks ks' → ks' ≡ map (sent_up i n (s ∷ [])) ks
  sent-by numbers None ks ks' h by up = up ∙ sym (sent-nowhere ks by)
  sent-by numbers (Some k) ks ks' h by up = up by.j by.at ∙ sym (sent-one numbers ks h k by)
