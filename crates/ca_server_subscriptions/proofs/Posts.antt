-- A post to subscriptions on a record, beside the queues or in them.
use Rattle.std.proofs.Common.{◌≡◌, ℕ, zero, suc, ◌≤◌, ◌+◌, inl, inr, Bool, true, false, cond, List, [], ◌∷◌, ◌++◌, length, drop, filter, map, refl, sym, ap, ◌∙◌, subst, arith}
use Rattle.std.specs.List.{fold, list_any}
use Rattle.std.proofs.lemmas.Bool.{or_parts}
use Rattle.std.proofs.lemmas.List.{append-nil, drop_all}
use Rattle.ca_text.specs.Place.{At}
use Rattle.ca_text.proofs.Places.{At-append, At-last, At-mapped, At-snoc, some_is}
use Rattle.ca_queue.specs.declared.entry.SubKey.{SubKey}
use Rattle.ca_queue.specs.Circuit.{HasAt, queue_posted}
use Rattle.ca_queue.specs.Keys.{AreApart}
use Rattle.ca_model.specs.Speech.{Stored}
use Rattle.ca_server_subscriptions.proofs.Dropping.{filtered-later}
use Rattle.ca_server_subscriptions.proofs.Owing.{apart-some, has-posted, map-both, order-some}
use Rattle.ca_server_subscriptions.proofs.Placing.{Entry, Q, alike-posted, placed-alike}
use Rattle.ca_server_subscriptions.proofs.Receivers.{drop-at, receiver-has}
use Rattle.ca_server_subscriptions.specs.ByRecord.{ArePlacedIn, Receiver, is_masked, receiver_of, receivers_of}
use Rattle.ca_server_subscriptions.specs.Subscribed.{ArePlaced, Standings, is_on, keys_in}
use Rattle.ca_server_subscriptions.specs.declared.waiting.Addressee.{Addressee}
use Rattle.ca_server_subscriptions.specs.Owing.{AreCopies, AreEmpty, AreInOrder, AreSwitched, HasOnly, IsOwing, addressee_of, with_owed}

-- a post to nobody
pub nobody : (mask : ℕ) (rs : List Receiver) → list_any (is_masked mask) rs ≡ false → filter (is_masked mask) rs ≡ []
nobody mask [] none = refl
nobody mask (r ∷ rs) none = (let parts = or_parts (is_masked mask r) (list_any (is_masked mask) rs) none in rw parts.0 (nobody mask rs parts.1))

-- whom it is for
pub view-posted : (rs : List Receiver) (v : Stored) (qs : List Q) → with_owed (map addressee_of rs) v qs ≡ fold (λ (zs : List Q) (r : Receiver). map (queue_posted r.key v) zs) qs rs
view-posted [] v qs = refl
view-posted (r ∷ rs) v qs = view-posted rs v (map (queue_posted r.key v) qs)

-- subscriptions stay where they are
pub placed-all : (es : Standings) (v : Stored) (rs : List Receiver) (qs : List Q) → ArePlaced es qs → ArePlaced es (fold (λ (zs : List Q) (r : Receiver). map (queue_posted r.key v) zs) qs rs)
placed-all es v [] qs p = p
placed-all es v (r ∷ rs) qs p = placed-all es v rs (map (queue_posted r.key v) qs) (placed-alike es qs (map (queue_posted r.key v) qs) (alike-posted r.key v qs) p)

-- ---- it waits beside them

keys-apart : (es : Standings) (name : List ℕ) → AreApart (keys_in es) → AreApart (map (λ (r : Receiver). r.key) (receivers_of name es))
keys-apart es name apart =
    subst (λ (ks : List SubKey). AreApart ks) (sym (map-both (λ (r : Receiver). r.key) receiver_of (filter (λ (e : Entry). is_on name e.1.0) es)))
    (apart-some (λ (e : Entry). e.0) (λ (e : Entry). is_on name e.1.0) es apart)

pub owes : (on empty : Bool) (owed : List Addressee) (rs : List Receiver) (mask : ℕ) (qs : List Q) → AreSwitched on qs → empty ≡ true → AreEmpty qs → ArePlacedIn rs qs → AreInOrder (map addressee_of rs) → owed ≡ map addressee_of (filter (is_masked mask) rs)
    → IsOwing on empty owed qs
owes on empty owed rs mask qs switched is none (es, name, p, are) order all = subst (λ (bs : List Addressee). IsOwing on empty bs qs) (sym all) (record {
  switched = switched;
  quiet = λ e. none;
  only_one = λ i a at.
      let m = At-mapped addressee_of (filter (is_masked mask) rs) i a at in
      let f = filtered-later (is_masked mask) rs i m.0 m.1 in
      let has = receiver-has es qs name f.0 m.0 p (subst (λ (xs : List Receiver). At xs f.0 m.0) are f.2) in
      (is, subst (λ (x : Addressee). HasOnly qs x.queue x.key) (sym m.2) (has, λ j also. p.one j m.0.queue m.0.key also has));
  apart =
      subst (λ (ks : List SubKey). AreApart ks) (sym (map-both (λ (a : Addressee). a.key) addressee_of (filter (is_masked mask) rs)))
      (apart-some (λ (r : Receiver). r.key) (is_masked mask) rs (subst (λ (xs : List Receiver). AreApart (map (λ (r : Receiver). r.key) xs)) (sym are) (keys-apart es name p.apart)));
  ordered = order-some addressee_of (is_masked mask) rs order;
})

-- one more is looked at
pub owes-next : (rs : List Receiver) (i : ℕ) (r : Receiver) (mask : ℕ) (owed next whole : List Addressee) → At rs i r
    → owed ++ map addressee_of (filter (is_masked mask) (drop i rs)) ≡ whole → next ≡ cond (is_masked mask r) (owed ++ addressee_of r ∷ []) owed
    → next ++ map addressee_of (filter (is_masked mask) (drop (i + 1) rs)) ≡ whole
owes-next rs i r mask owed next whole at was did = by (is_masked mask r) refl
  where
    tail : List Receiver
    tail = drop (suc i) rs

    more : suc i ≡ i + 1
    more = omega arith

    turned : next ++ map addressee_of (filter (is_masked mask) tail) ≡ whole → next ++ map addressee_of (filter (is_masked mask) (drop (i + 1) rs)) ≡ whole
    turned is = subst (λ (n : ℕ). next ++ map addressee_of (filter (is_masked mask) (drop n rs)) ≡ whole) more is

    parts : owed ++ map addressee_of (filter (is_masked mask) (r ∷ tail)) ≡ whole
    parts = ap (λ (xs : List Receiver). owed ++ map addressee_of (filter (is_masked mask) xs)) (sym (drop-at rs i r at)) ∙ was

    shift : (xs ys : List Addressee) (a : Addressee) → (xs ++ a ∷ []) ++ ys ≡ xs ++ a ∷ ys
    shift [] ys a = refl
    shift (x ∷ xs) ys a = ap (λ (zs : List Addressee). x ∷ zs) (shift xs ys a)

    by : (b : Bool) → is_masked mask r ≡ b → next ++ map addressee_of (filter (is_masked mask) (drop (i + 1) rs)) ≡ whole
    by true is = turned
        ((λ t. (did ∙ ap (λ (b : Bool). cond b (owed ++ addressee_of r ∷ []) owed) is) t ++ map addressee_of (filter (is_masked mask) tail))
        ∙ shift owed (map addressee_of (filter (is_masked mask) tail)) (addressee_of r)
        ∙ ap (λ (b : Bool). owed ++ map addressee_of (cond b (r ∷ filter (is_masked mask) tail) (filter (is_masked mask) tail))) (sym is)
        ∙ parts)
    by false is = turned
        ((λ t. (did ∙ ap (λ (b : Bool). cond b (owed ++ addressee_of r ∷ []) owed) is) t ++ map addressee_of (filter (is_masked mask) tail))
        ∙ ap (λ (b : Bool). owed ++ map addressee_of (cond b (r ∷ filter (is_masked mask) tail) (filter (is_masked mask) tail))) (sym is)
        ∙ parts)

-- all were looked at
pub owes-all : (rs : List Receiver) (i mask : ℕ) (owed whole : List Addressee) → length rs ≤ i → owed ++ map addressee_of (filter (is_masked mask) (drop i rs)) ≡ whole → owed ≡ whole
owes-all rs i mask owed whole past is =
    sym (append-nil owed)
    ∙ ap (λ (xs : List Receiver). owed ++ map addressee_of (filter (is_masked mask) xs)) (sym (drop_all i rs past))
    ∙ is

-- ---- whether they are in order

-- those from a place on are, and none is in an earlier queue than the least
abbrev pub InOrderFrom : List Receiver → ℕ → ℕ → Type 0
InOrderFrom rs place least =
    AreInOrder (map addressee_of (drop place rs)) × ((i : ℕ) (a : Addressee) → At (map addressee_of (drop place rs)) i a → least ≤ a.queue) × (place ≤ length rs)

pub order-none : (rs : List Receiver) (place least : ℕ) → place ≡ length rs → InOrderFrom rs place least
order-none rs place least is =
    let none : map addressee_of (drop place rs) ≡ [] = ap (λ (n : ℕ). map addressee_of (drop n rs)) is ∙ ap (map addressee_of) (all rs) in (
      subst AreInOrder (sym none) tt,
      λ i a at. nothing i a (subst (λ (xs : List Addressee). At xs i a) none at),
      omega (arith, is),
    )
  where
    all : (xs : List Receiver) → drop (length xs) xs ≡ []
    all [] = refl
    all (x ∷ xs) = all xs

    nothing : {A : Type 0} (i : ℕ) (a : Addressee) → (let xs : List Addressee = [] in At xs i a) → A
    nothing i a at = absurd cc

pub order-next : (rs : List Receiver) (place before least : ℕ) (r : Receiver) → suc before ≡ place → At rs before r → r.queue ≤ least → InOrderFrom rs place least → InOrderFrom rs before r.queue
order-next rs place before least r is at le (order, most, within) =
    let parts : map addressee_of (drop before rs) ≡ addressee_of r ∷ map addressee_of (drop place rs) = ap (map addressee_of) (drop-at rs before r at) ∙ ap (λ (n : ℕ). addressee_of r ∷ map addressee_of (drop n rs)) is in
    let later : (i : ℕ) (a : Addressee) → At (map addressee_of (drop place rs)) i a → r.queue ≤ a.queue = (λ i a at-a. (let more = most i a at-a in omega (arith, le, more))) in (
      subst AreInOrder (sym parts) (later, order),
      λ i a at-a. first i a (subst (λ (xs : List Addressee). At xs i a) parts at-a) later,
      omega (arith, is, within),
    )
  where
    first : (i : ℕ) (a : Addressee) → At (addressee_of r ∷ map addressee_of (drop place rs)) i a → ((j : ℕ) (b : Addressee) → At (map addressee_of (drop place rs)) j b → r.queue ≤ b.queue) → r.queue ≤ a.queue
    first zero a at-a later = (let one : addressee_of r ≡ a = some_is (addressee_of r) a at-a in subst (λ (x : Addressee). r.queue ≤ x.queue) one (omega arith))
    first (suc i) a at-a later = later i a at-a

pub order-all : (rs : List Receiver) (place least : ℕ) → place ≡ 0 → InOrderFrom rs place least → AreInOrder (map addressee_of rs)
order-all rs place least is (order, most, within) = subst (λ (n : ℕ). AreInOrder (map addressee_of (drop n rs))) is order

-- ---- copies are put into the queues

pub length-snoc : {A : Type 0} (ys : List A) (z : A) → length (ys ++ z ∷ []) ≡ length ys + 1
length-snoc [] z = refl
length-snoc (y ∷ ys) z = (let rest = length-snoc ys z in omega (arith, rest))

pub copies-none : {A : Type 0} (x : A) (xs : List A) (n : ℕ) → xs ≡ [] → AreCopies (length xs) x xs × (length xs ≤ n)
copies-none x xs n none = subst (λ (ys : List _). AreCopies (length ys) x ys × (length ys ≤ n)) (sym none) ((refl, λ i y at. absurd cc), omega arith)

pub copies-more : {A : Type 0} (x u : A) (xs ys : List A) → ys ≡ xs ++ u ∷ [] → u ≡ x → AreCopies (length xs) x xs → AreCopies (length ys) x ys
copies-more x u xs ys is one are = (
  refl,
  λ i y at. elim (At-snoc xs u i y (subst (λ (zs : List _). At zs i y) is at)) [ inl old ↦ are.1 i y old | inr last ↦ last.1 ∙ one ],
)

-- the last is one, and the others are one fewer
pub copies-less : {A : Type 0} (n : ℕ) (x y : A) (xs ys : List A) → xs ≡ ys ++ y ∷ [] → AreCopies n x xs → (y ≡ x) × AreCopies (length ys) x ys × (length ys + 1 ≡ n)
copies-less n x y xs ys is (all, are) = (
  are (length ys) y (subst (λ (zs : List _). At zs (length ys) y) (sym is) (At-last ys y)),
  (refl, λ i z at. are i z (subst (λ (zs : List _). At zs i z) (sym is) (At-append ys (y ∷ []) i z at))),
  (let more = length-snoc ys y in let long : length xs ≡ length (ys ++ y ∷ []) = ap length is in omega (arith, all, more, long)),
)

pub has-rest : (a : Addressee) (owed : List Addressee) (v : Stored) (qs : List Q) → ((i : ℕ) (b : Addressee) → At (a ∷ owed) i b → HasAt qs b.queue b.key) → (i : ℕ) (b : Addressee) → At owed i b → HasAt (map (queue_posted a.key v) qs) b.queue b.key
has-rest a owed v qs has i b at = has-posted a.key v qs b.queue b.key (has (suc i) b at)
