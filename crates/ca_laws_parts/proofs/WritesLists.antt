-- Places of lists that grow, and of two lists side by side.
use Rattle.std.proofs.Common.{◌≡◌, ℕ, zero, suc, ◌+◌, ◌≤◌, ◌⊎◌, inl, inr, Bool, true, false, cond, ◌&&◌, List, [], ◌∷◌, ◌++◌, length, take, refl, sym, ap, subst, ◌∙◌, arith}
use Rattle.std.specs.Prelude.{filter, map}
use Rattle.std.proofs.lemmas.List.{length-append}
use Rattle.ca_text.specs.Place.{At}
use Rattle.ca_text.proofs.Places.{some_is, At-append, At-last, At-snoc}
use Rattle.ca_model.specs.Speech.{In}
use Rattle.ca_laws_parts.specs.Both.{Both}

pub none_at : {A : Type 0} (k : ℕ) (x : A) → At [] k x → ⊥
none_at k x e = cc

-- ---- lists that grow

pub In-append : {A : Type 0} (xs ys : List A) (x : A) → In xs x → In (xs ++ ys) x
In-append xs ys x h = (h.0, At-append xs ys h.0 x h.1)

pub In-snoc : {A : Type 0} (xs : List A) (y x : A) → In (xs ++ y ∷ []) x → In xs x ⊎ (x ≡ y)
In-snoc xs y x h = elim (At-snoc xs y h.0 x h.1) [ inl old ↦ inl (h.0, old) | inr new ↦ inr new.1 ]

pub In-last : {A : Type 0} (xs : List A) (x : A) → In (xs ++ x ∷ []) x
In-last xs x = (length xs, At-last xs x)

pub length-more : {A : Type 0} (xs : List A) (x : A) → length (xs ++ x ∷ []) ≡ length xs + 1
length-more xs x = (let e = length-append xs (x ∷ []) in omega (arith, e))

pub take-front : {A : Type 0} (i : ℕ) (xs ys : List A) → i ≤ length xs → take i (xs ++ ys) ≡ take i xs
take-front zero xs ys le = refl
take-front (suc i) [] ys le = absurd (omega (arith, le))
take-front {A} (suc i) (x ∷ xs) ys le = ap (λ (l : List A). x ∷ l) (take-front i xs ys (omega (arith, le)))

pub take-whole : {A : Type 0} (xs : List A) → take (length xs) xs ≡ xs
take-whole [] = refl
take-whole {A} (x ∷ xs) = ap (λ (l : List A). x ∷ l) (take-whole xs)

pub At-take : {A : Type 0} (n : ℕ) (xs : List A) (k : ℕ) (x : A) → At (take n xs) k x → At xs k x
At-take zero xs k x at = absurd (none_at k x at)
At-take (suc n) [] k x at = absurd (none_at k x at)
At-take (suc n) (y ∷ xs) zero x at = at
At-take (suc n) (y ∷ xs) (suc k) x at = At-take n xs k x at

-- ---- filters

pub filter-and : {A : Type 0} (p q : A → Bool) (xs : List A) → filter (λ (x : A). p x && q x) xs ≡ filter q (filter p xs)
filter-and p q [] = refl
filter-and {A} p q (x ∷ xs) =
    elim (p x) as (λ b. cond (b && q x) (x ∷ filter (λ (z : A). p z && q z) xs) (filter (λ (z : A). p z && q z) xs) ≡ filter q (cond b (x ∷ filter p xs) (filter p xs))) [
      | true ↦ ap (λ (t : List A). cond (q x) (x ∷ t) t) (filter-and p q xs)
      | false ↦ filter-and p q xs
    ]

pub filter-ext : {A : Type 0} (p q : A → Bool) (xs : List A) → ((x : A) → p x ≡ q x) → filter p xs ≡ filter q xs
filter-ext p q [] h = refl
filter-ext {A} p q (x ∷ xs) h =
    subst (λ (b : Bool). cond (p x) (x ∷ filter p xs) (filter p xs) ≡ cond b (x ∷ filter q xs) (filter q xs)) (h x) (ap (λ (t : List A). cond (p x) (x ∷ t) t) (filter-ext p q xs h))

pub filter-all : {A : Type 0} (p : A → Bool) (xs : List A) → ((x : A) → In xs x → p x ≡ true) → filter p xs ≡ xs
filter-all p [] h = refl
filter-all {A} p (x ∷ xs) h =
    ap (λ (b : Bool). cond b (x ∷ filter p xs) (filter p xs)) (h x (0, refl))
    ∙ ap (λ (l : List A). x ∷ l) (filter-all p xs (λ z at. h z (suc at.0, at.1)))

-- what is kept stood there and passes
pub In-kept : {A : Type 0} (p : A → Bool) (xs : List A) (x : A) → In (filter p xs) x → In xs x × (p x ≡ true)
In-kept p [] x h = absurd (none_at h.0 x h.1)
In-kept {A} p (y ∷ ys) x h = go (p y) refl h.0 h.1 (λ rest. In-kept p ys x rest)
  where
    go : (b : Bool) → p y ≡ b → (k : ℕ) → At (cond b (y ∷ filter p ys) (filter p ys)) k x → (In (filter p ys) x → In ys x × (p x ≡ true)) → In (y ∷ ys) x × (p x ≡ true)
    go true e zero at rest = ((0, at), ap p (sym (some_is y x at)) ∙ e)
    go true e (suc k) at rest = (let r = rest (k, at) in ((suc r.0.0, r.0.1), r.1))
    go false e k at rest = (let r = rest (k, at) in ((suc r.0.0, r.0.1), r.1))

-- what stood there and passes is kept
pub kept-in : {A : Type 0} (p : A → Bool) (xs : List A) (x : A) → In xs x → p x ≡ true → In (filter p xs) x
kept-in p [] x h is = absurd (none_at h.0 x h.1)
kept-in {A} p (y ∷ ys) x h is = go (p y) refl h.0 h.1 (λ at. kept-in p ys x at is)
  where
    rest : (b : Bool) → In (filter p ys) x → In (cond b (y ∷ filter p ys) (filter p ys)) x
    rest true r = (suc r.0, r.1)
    rest false r = r

    go : (b : Bool) → p y ≡ b → (k : ℕ) → At (y ∷ ys) k x → (In ys x → In (filter p ys) x) → In (cond b (y ∷ filter p ys) (filter p ys)) x
    go true e zero at more = (0, at)
    go false e zero at more = absurd (let f : true ≡ false = sym is ∙ ap p (sym (some_is y x at)) ∙ e in cc)
    go b e (suc k) at more = rest b (more (k, at))

-- ---- two lists side by side

module _ {A B : Type 0} where
  pub both-at : (Q : A → B → Type 0) (xs : List A) (ys : List B) (i : ℕ) (x : A) (y : B) → Both Q xs ys → At xs i x → At ys i y → Q x y
  both-at Q [] ys i x y both p q = absurd (none_at i x p)
  both-at Q (a ∷ xs) [] i x y both p q = absurd (none_at i y q)
  both-at Q (a ∷ xs) (b ∷ ys) zero x y both p q =
      subst (λ (t : A × B). Q t.0 t.1) (λ i. (some_is a x p i, some_is b y q i)) both.0
  both-at Q (a ∷ xs) (b ∷ ys) (suc i) x y both p q = both-at Q xs ys i x y both.1 p q

  -- what is beside an item
  pub beside-left : (Q : A → B → Type 0) (xs : List A) (ys : List B) (i : ℕ) (x : A) → Both Q xs ys → At xs i x → (y : B) × At ys i y × Q x y
  beside-left Q [] ys i x both p = absurd (none_at i x p)
  beside-left Q (a ∷ xs) [] i x both p = absurd both
  beside-left Q (a ∷ xs) (b ∷ ys) zero x both p = (b, refl, subst (λ (z : A). Q z b) (some_is a x p) both.0)
  beside-left Q (a ∷ xs) (b ∷ ys) (suc i) x both p = (let r = beside-left Q xs ys i x both.1 p in (r.0, r.1, r.2))

  pub beside-right : (Q : A → B → Type 0) (xs : List A) (ys : List B) (i : ℕ) (y : B) → Both Q xs ys → At ys i y → (x : A) × At xs i x × Q x y
  beside-right Q [] [] i y both p = absurd (none_at i y p)
  beside-right Q [] (b ∷ ys) i y both p = absurd both
  beside-right Q (a ∷ xs) [] i y both p = absurd both
  beside-right Q (a ∷ xs) (b ∷ ys) zero y both p = (a, refl, subst (λ (z : B). Q a z) (some_is b y p) both.0)
  beside-right Q (a ∷ xs) (b ∷ ys) (suc i) y both p = (let r = beside-right Q xs ys i y both.1 p in (r.0, r.1, r.2))

  pub both-all : (Q P : A → B → Type 0) (xs : List A) (ys : List B) → Both Q xs ys → ((i : ℕ) (x : A) (y : B) → At xs i x → At ys i y → Q x y → P x y) → Both P xs ys
  both-all Q P [] [] both h = tt
  both-all Q P [] (b ∷ ys) both h = absurd both
  both-all Q P (a ∷ xs) [] both h = absurd both
  both-all Q P (a ∷ xs) (b ∷ ys) both h = (h 0 a b refl refl both.0, both-all Q P xs ys both.1 (λ i x y p q r. h (suc i) x y p q r))

  pub both-map : (Q P : A → B → Type 0) (f : A → A) (g : B → B) (xs : List A) (ys : List B) → Both Q xs ys → ((i : ℕ) (x : A) (y : B) → At xs i x → At ys i y → Q x y → P (f x) (g y)) → Both P (map f xs) (map g ys)
  both-map Q P f g [] [] both h = tt
  both-map Q P f g [] (b ∷ ys) both h = absurd both
  both-map Q P f g (a ∷ xs) [] both h = absurd both
  both-map Q P f g (a ∷ xs) (b ∷ ys) both h = (h 0 a b refl refl both.0, both-map Q P f g xs ys both.1 (λ i x y p q r. h (suc i) x y p q r))

  pub both-left : (Q P : A → B → Type 0) (f : A → A) (xs : List A) (ys : List B) → Both Q xs ys → ((i : ℕ) (x : A) (y : B) → At xs i x → At ys i y → Q x y → P (f x) y) → Both P (map f xs) ys
  both-left Q P f [] [] both h = tt
  both-left Q P f [] (b ∷ ys) both h = absurd both
  both-left Q P f (a ∷ xs) [] both h = absurd both
  both-left Q P f (a ∷ xs) (b ∷ ys) both h = (h 0 a b refl refl both.0, both-left Q P f xs ys both.1 (λ i x y p q r. h (suc i) x y p q r))

  pub both-snoc : (Q : A → B → Type 0) (xs : List A) (ys : List B) (x : A) (y : B) → Both Q xs ys → Q x y → Both Q (xs ++ x ∷ []) (ys ++ y ∷ [])
  both-snoc Q [] [] x y both q = (q, tt)
  both-snoc Q [] (b ∷ ys) x y both q = absurd both
  both-snoc Q (a ∷ xs) [] x y both q = absurd both
  both-snoc Q (a ∷ xs) (b ∷ ys) x y both q = (both.0, both-snoc Q xs ys x y both.1 q)

  -- those that two tests keep, which agree
  pub both-filter : (Q P : A → B → Type 0) (s : A → Bool) (t : B → Bool) (xs : List A) (ys : List B) → Both Q xs ys → ((i : ℕ) (x : A) (y : B) → At xs i x → At ys i y → Q x y → s x ≡ t y) → ((i : ℕ) (x : A) (y : B) → At xs i x → At ys i y → Q x y → s x ≡ true → P x y) → Both P (filter s xs) (filter t ys)
  both-filter Q P s t [] [] both same keep = tt
  both-filter Q P s t [] (b ∷ ys) both same keep = absurd both
  both-filter Q P s t (a ∷ xs) [] both same keep = absurd both
  both-filter Q P s t (a ∷ xs) (b ∷ ys) both same keep =
      let rest = both-filter Q P s t xs ys both.1 (λ i x y p q r. same (suc i) x y p q r) (λ i x y p q r. keep (suc i) x y p q r) in
      subst (λ (u : Bool). Both P (cond (s a) (a ∷ filter s xs) (filter s xs)) (cond u (b ∷ filter t ys) (filter t ys))) (same 0 a b refl refl both.0)
      (go (s a) (λ e. keep 0 a b refl refl both.0 e) rest)
    where
      go : (u : Bool) → (u ≡ true → P a b) → Both P (filter s xs) (filter t ys) → Both P (cond u (a ∷ filter s xs) (filter s xs)) (cond u (b ∷ filter t ys) (filter t ys))
      go true k rest = (k refl, rest)
      go false k rest = rest
