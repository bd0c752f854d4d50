-- The ids that a client gives on one circuit: what it sends gives ids that it holds then, of
-- indices that it held not.
use Rattle.std.proofs.Common.{◌≡◌, ℕ, zero, suc, ◌+◌, ◌%◌, ◌<◌, ◌≤◌, ◌⊎◌, inl, inr, true, List, [], ◌∷◌, ◌++◌, length, Option, Some, None, refl, sym, ap, ◌∙◌, subst, arith}
use Rattle.std.specs.List.{cons_option}
use Rattle.std.specs.Prelude.{filter_map}
use Rattle.ca_text.specs.Command.{command_number}
use Rattle.ca_text.specs.Limits.{arena_slots}
use Rattle.ca_text.specs.Place.{At}
use Rattle.ca_text.proofs.Places.{At-parts, At-within, some_is}
use Rattle.ca_arena.specs.declared.handle.Handle.{Handle}
use Rattle.ca_ids.specs.Table.{MayGive, Table, held, under}
use Rattle.ca_ids.specs.Wire.{wire_of}
use Rattle.ca_ids.proofs.Wires.{wire_of-index}
use Rattle.ca_monitor.specs.Subscriptions.{Subscription}
use Rattle.ca_requests.specs.Requests.{Asked, Request, command_of, was_sent_on}
use Rattle.ca_wire.specs.Fields.{Fields}
use Rattle.ca_model.specs.Answers.{Sending}
use Rattle.ca_model.specs.Client.{Channel, Client, is_on_in}
use Rattle.ca_model.specs.Sends.{SameIndex}
use Rattle.ca_model.specs.Speech.{Cid, Gives, Id, Ioid, SubId}
use Rattle.ca_model.proofs.Standings.{at-filter-map}
use Rattle.ca_model.proofs.Tables.{given-none, one-at-index, one-value, place, under-at}
use Rattle.ca_laws_parts.specs.Held.{AreFew, IsHeld, has_id, is_asked}
use Rattle.ca_laws_parts.proofs.Rests.{FreesCid, FreesIoid, FreesSub, Rests, RestsBut}

-- An id, which this message gave, is held on the circuit of this handle; a request asks by the
-- command of the message.
abbrev pub HeldBy : (on : Handle) → Client → Fields → Id → Type 0
HeldBy on x m (Cid n) = IsHeld (is_on_in is_asked on) x.channels n
HeldBy on x m (Ioid n) = (q : Handle) × (r : Request) × (under x.requests q ≡ Some r) × (wire_of q ≡ n) × (was_sent_on on r ≡ true) × (m.command ≡ command_number (command_of r.asked))
HeldBy on x m (SubId n) = IsHeld (has_id x.channels on) x.subscriptions n

-- No id of this index is held there.
abbrev pub IsIdle : (on : Handle) → Client → Id → Type 0
IsIdle on x id = (other : Id) (m : Fields) → HeldBy on x m other → SameIndex other id → ⊥

-- It is held by what the message frees that was read.
abbrev pub GoneBy : (on : Handle) → Client → (read m : Fields) → Id → Type 0
GoneBy on x read m (Cid n) = (h : Handle) × (v : Channel) × (under x.channels h ≡ Some v) × (wire_of h ≡ n) × (is_on_in is_asked on v ≡ true) × FreesCid on x read h
GoneBy on x read m (Ioid n) =
    (q : Handle) × (r : Request) × (under x.requests q ≡ Some r) × (wire_of q ≡ n) × (was_sent_on on r ≡ true) × (m.command ≡ command_number (command_of r.asked)) × FreesIoid on x read q r
GoneBy on x read m (SubId n) = (g : Handle) × (d : Subscription) × (under x.subscriptions g ≡ Some d) × (wire_of g ≡ n) × (has_id x.channels on d ≡ true) × FreesSub on x read g d

pub rests-held : (on : Handle) (x y : Client) (m : Fields) (id : Id) → Rests on x y → HeldBy on x m id → HeldBy on y m id
rests-held on x y m (Cid n) r held = (let w = r.channels held.0 held.1 held.2 held.4 in (held.0, w.0, w.1, held.3, w.2))
rests-held on x y m (Ioid n) r held = (let w = r.requests held.0 held.1 held.2 held.4 in (held.0, w.0, w.1, held.3, w.2, held.5 ∙ ap (λ (a : Asked). command_number (command_of a)) (sym w.3)))
rests-held on x y m (SubId n) r held = (let w = r.subscriptions held.0 held.1 held.2 held.4 in (held.0, w.0, w.1, held.3, w.2))

pub but-held : (on c : Handle) (x y : Client) (read m : Fields) (id : Id) → RestsBut on c read x y → HeldBy on x m id
    → HeldBy on y m id ⊎ ((c ≡ on) × GoneBy on x read m id)
but-held on c x y read m (Cid n) r held = elim (r.channels held.0 held.1 held.2 held.4) [
  | inl w ↦ inl (held.0, w.0, w.1, held.3, w.2)
  | inr gone ↦ inr (gone.0, (held.0, held.1, held.2, held.3, held.4, gone.1))
]
but-held on c x y read m (Ioid n) r held = elim (r.requests held.0 held.1 held.2 held.4) [
  | inl w ↦ inl (held.0, w.0, w.1, held.3, w.2, held.5 ∙ ap (λ (a : Asked). command_number (command_of a)) (sym w.3))
  | inr gone ↦ inr (gone.0, (held.0, held.1, held.2, held.3, held.4, held.5, gone.1))
]
but-held on c x y read m (SubId n) r held = elim (r.subscriptions held.0 held.1 held.2 held.4) [
  | inl w ↦ inl (held.0, w.0, w.1, held.3, w.2)
  | inr gone ↦ inr (gone.0, (held.0, held.1, held.2, held.3, held.4, gone.1))
]

-- What is sent on the circuit of this handle from the one client to the other.
pub record Given (on : Handle) (x y : Client) (sent : List Sending) : Type 0 where
  pub held : (i : ℕ) (s : Sending) (id : Id) → At sent i s → s.circuit ≡ on → Gives s.message id → HeldBy on y s.message id
  pub idle : (i : ℕ) (s : Sending) (id : Id) → At sent i s → s.circuit ≡ on → Gives s.message id → IsIdle on x id
  pub once : (i j : ℕ) (s r : Sending) (a b : Id) → i < j → At sent i s → At sent j r → s.circuit ≡ on → r.circuit ≡ on → Gives s.message a
      → Gives r.message b → SameIndex a b → ⊥

-- no id is given
abbrev pub GivesNone : List Sending → Type 0
GivesNone sent = (i : ℕ) (s : Sending) (id : Id) → At sent i s → Gives s.message id → ⊥

pub given-nothing : (on : Handle) (x y : Client) (sent : List Sending) → GivesNone sent → Given on x y sent
given-nothing on x y sent none = record {
  held = λ i s id at here gives. absurd (none i s id at gives);
  idle = λ i s id at here gives. absurd (none i s id at gives);
  once = λ i j s r a b lt at_s at_r here there gives also same. none i s a at_s gives;
}

no-element : {A : Type 0} (i : ℕ) (x : A) → At [] i x → ⊥
no-element i x e = cc

pub none-given : GivesNone []
none-given i s id at gives = no-element i s at

pub gives-of : (ss rs : List Sending) → ss ≡ rs → GivesNone rs → GivesNone ss
gives-of ss rs is none = subst (λ (l : List Sending). GivesNone l) (sym is) none

pub gives-both : (ss rs : List Sending) → GivesNone ss → GivesNone rs → GivesNone (ss ++ rs)
gives-both ss rs a b i s id at gives = elim (At-parts ss rs i s at) [
  | inl first ↦ a i s id first gives
  | inr later ↦ b later.0 s id later.2 gives
]

pub only-one : (s r : Sending) (i : ℕ) → At (s ∷ []) i r → (i ≡ 0) × (r ≡ s)
only-one s r zero at = (refl, sym (some_is s r at))
only-one s r (suc i) at = absurd (no-element i r at)

-- one message
pub given-one : (on : Handle) (x y : Client) (s : Sending)
    → (s.circuit ≡ on → (id : Id) → Gives s.message id → HeldBy on y s.message id × IsIdle on x id) → Given on x y (s ∷ [])
given-one on x y s each = record {
  held = λ i r id at here gives. (let one = (only-one s r i at).1 in subst (λ (v : Sending). HeldBy on y v.message id) (sym one) (each (ap (λ (v : Sending). v.circuit) (sym one) ∙ here) id (subst (λ (v : Sending). Gives v.message id) one gives)).0);
  idle = λ i r id at here gives. (let one = (only-one s r i at).1 in (each (ap (λ (v : Sending). v.circuit) (sym one) ∙ here) id (subst (λ (v : Sending). Gives v.message id) one gives)).1);
  once = λ i j r v a b lt at_r at_v here there gives also same. (let p = (only-one s r i at_r).0 in let q = (only-one s v j at_v).0 in omega (arith, lt, p, q));
}

-- one after another
pub given-then : (on : Handle) (x y z : Client) (ss rs : List Sending) → Rests on x y → Rests on y z → Given on x y ss → Given on y z rs
    → Given on x z (ss ++ rs)
given-then on x y z ss rs first_rests then_rests a b = record {
  held = λ i s id at here gives. elim (At-parts ss rs i s at) [
    | inl first ↦ rests-held on y z s.message id then_rests (a.held i s id first here gives)
    | inr later ↦ b.held later.0 s id later.2 here gives
  ];
  idle = λ i s id at here gives. elim (At-parts ss rs i s at) [
    | inl first ↦ a.idle i s id first here gives
    | inr later ↦ λ other m was same. b.idle later.0 s id later.2 here gives other m (rests-held on x y m other first_rests was) same
  ];
  once = λ i j s r c d lt at_s at_r here there gives also same. elim (At-parts ss rs i s at_s) [
    | inl first ↦ elim (At-parts ss rs j r at_r) [
      | inl too ↦ a.once i j s r c d lt first too here there gives also same
      | inr later ↦ b.idle later.0 r d later.2 there also c s.message (a.held i s c first here gives) same
    ]
    | inr late ↦ elim (At-parts ss rs j r at_r) [
      | inl too ↦ (let p : i ≡ length ss + late.0 = late.1 in let q : j < length ss = At-within ss j r too in omega (arith, p, q, lt))
      | inr later ↦ (let p : i ≡ length ss + late.0 = late.1 in let q : j ≡ length ss + later.0 = later.1 in b.once late.0 later.0 s r c d (omega (arith, p, q, lt)) late.2 later.2 here there gives also same)
    ]
  ];
}

-- ---- which id a message gives

pub gives-no-id : (m : Fields) (n : ℕ) → m.command ≡ n → (n ≡ 18 → ⊥) → (n ≡ 15 → ⊥) → (n ≡ 19 → ⊥) → (n ≡ 1 → ⊥) → (id : Id) → Gives m id → ⊥
gives-no-id m n is no18 no15 no19 no1 (Cid k) gives = no18 (sym is ∙ gives.0)
gives-no-id m n is no18 no15 no19 no1 (Ioid k) gives = elim gives.0 [
  | inl reads ↦ no15 (sym is ∙ reads)
  | inr puts ↦ no19 (sym is ∙ puts)
]
gives-no-id m n is no18 no15 no19 no1 (SubId k) gives = no1 (sym is ∙ gives.0)

pub gives-cid : (m : Fields) (id : Id) → m.command ≡ 18 → Gives m id → id ≡ Cid m.p1
gives-cid m (Cid k) is gives = ap (λ (n : ℕ). Cid n) (sym gives.1)
gives-cid m (Ioid k) is gives = absurd (elim gives.0 [
  | inl reads ↦ (let e : ◌≡◌ {A = ℕ} 18 15 = sym is ∙ reads in omega (arith, e))
  | inr puts ↦ (let e : ◌≡◌ {A = ℕ} 18 19 = sym is ∙ puts in omega (arith, e))
])
gives-cid m (SubId k) is gives = absurd (let e : ◌≡◌ {A = ℕ} 18 1 = sym is ∙ gives.0 in omega (arith, e))

pub gives-ioid : (m : Fields) (id : Id) → (m.command ≡ 15) ⊎ (m.command ≡ 19) → Gives m id → id ≡ Ioid m.p2
gives-ioid m (Ioid k) is gives = ap (λ (n : ℕ). Ioid n) (sym gives.1)
gives-ioid m (Cid k) is gives = absurd (elim is [
  | inl reads ↦ (let e : ◌≡◌ {A = ℕ} 15 18 = sym reads ∙ gives.0 in omega (arith, e))
  | inr puts ↦ (let e : ◌≡◌ {A = ℕ} 19 18 = sym puts ∙ gives.0 in omega (arith, e))
])
gives-ioid m (SubId k) is gives = absurd (elim is [
  | inl reads ↦ (let e : ◌≡◌ {A = ℕ} 15 1 = sym reads ∙ gives.0 in omega (arith, e))
  | inr puts ↦ (let e : ◌≡◌ {A = ℕ} 19 1 = sym puts ∙ gives.0 in omega (arith, e))
])

pub gives-sub : (m : Fields) (id : Id) → m.command ≡ 1 → Gives m id → id ≡ SubId m.p2
gives-sub m (SubId k) is gives = ap (λ (n : ℕ). SubId n) (sym gives.1)
gives-sub m (Cid k) is gives = absurd (let e : ◌≡◌ {A = ℕ} 1 18 = sym is ∙ gives.0 in omega (arith, e))
gives-sub m (Ioid k) is gives = absurd (elim gives.0 [
  | inl reads ↦ (let e : ◌≡◌ {A = ℕ} 1 15 = sym is ∙ reads in omega (arith, e))
  | inr puts ↦ (let e : ◌≡◌ {A = ℕ} 1 19 = sym is ∙ puts in omega (arith, e))
])

-- ---- indices

module _ {T : Type 0} (t : Table T) (few : length t ≤ arena_slots) where
  slot-of : (g : Handle) (v : T) → under t g ≡ Some v → g.index < arena_slots
  slot-of g v is = (let in_it : g.index < length t = At-within t g.index (place g v) (under-at t g v is) in omega (arith, in_it, few))

  same-slot : (g h : Handle) (v : T) (n : ℕ) → under t g ≡ Some v → h.index < arena_slots → wire_of g ≡ n → n % arena_slots ≡ wire_of h % arena_slots
      → g.index ≡ h.index
  same-slot g h v n is slot wire same =
      let a : wire_of g % 65536 ≡ g.index = wire_of-index g (let lt : g.index < arena_slots = slot-of g v is in omega (arith, lt)) in
      let b : wire_of h % 65536 ≡ h.index = wire_of-index h (omega (arith, slot)) in
      sym a ∙ ap (λ (k : ℕ). k % 65536) wire ∙ same ∙ b

  pub same-holder : (g h : Handle) (v w : T) (n : ℕ) → under t g ≡ Some v → under t h ≡ Some w → wire_of g ≡ n
      → n % arena_slots ≡ wire_of h % arena_slots → (g ≡ h) × (v ≡ w)
  same-holder g h v w n is there wire same =
      let one : g ≡ h = one-at-index t g h v w is there (same-slot g h v n is (slot-of h w there) wire same) in
      (one, one-value t h v w (subst (λ (k : Handle). under t k ≡ Some v) one is) there)

  pub new-holder : (g h : Handle) (v : T) (n : ℕ) → under t g ≡ Some v → MayGive t h → wire_of g ≡ n → n % arena_slots ≡ wire_of h % arena_slots → ⊥
  new-holder g h v n is may wire same = given-none t g h v may is (same-slot g h v n is may.slot wire same)

-- what has no id here leaves its index idle
pub idle-channel : (on : Handle) (x : Client) (h : Handle) (v : Channel) → AreFew x → under x.channels h ≡ Some v
    → (is_on_in is_asked on v ≡ true → ⊥) → IsIdle on x (Cid (wire_of h))
idle-channel on x h v few there away (Cid n) m held same =
    let one = same-holder x.channels few.channels held.0 h held.1 v n held.2 there held.3 same in
    away (subst (λ (c : Channel). is_on_in is_asked on c ≡ true) one.1 held.4)
idle-channel on x h v few there away (Ioid n) m held same = absurd same
idle-channel on x h v few there away (SubId n) m held same = absurd same

pub idle-subscription : (on : Handle) (x : Client) (g : Handle) (d : Subscription) → AreFew x → under x.subscriptions g ≡ Some d
    → (has_id x.channels on d ≡ true → ⊥) → IsIdle on x (SubId (wire_of g))
idle-subscription on x g d few there away (SubId n) m held same =
    let one = same-holder x.subscriptions few.subscriptions held.0 g held.1 d n held.2 there held.3 same in
    away (subst (λ (z : Subscription). has_id x.channels on z ≡ true) one.1 held.4)
idle-subscription on x g d few there away (Cid n) m held same = absurd same
idle-subscription on x g d few there away (Ioid n) m held same = absurd same

pub idle-new-request : (on : Handle) (x : Client) (q : Handle) → AreFew x → MayGive x.requests q → IsIdle on x (Ioid (wire_of q))
idle-new-request on x q few may (Ioid n) m held same = new-holder x.requests few.requests held.0 q held.1 n held.2 may held.3 same
idle-new-request on x q few may (Cid n) m held same = absurd same
idle-new-request on x q few may (SubId n) m held same = absurd same

pub idle-new-subscription : (on : Handle) (x : Client) (g : Handle) → AreFew x → MayGive x.subscriptions g → IsIdle on x (SubId (wire_of g))
idle-new-subscription on x g few may (SubId n) m held same = new-holder x.subscriptions few.subscriptions held.0 g held.1 n held.2 may held.3 same
idle-new-subscription on x g few may (Cid n) m held same = absurd same
idle-new-subscription on x g few may (Ioid n) m held same = absurd same

-- ---- places of a list that was filtered

pub filter-map-order : {A B : Type 0} (f : A → Option B) (xs : List A) (i j : ℕ) (y z : B) → i < j → At (filter_map f xs) i y
    → At (filter_map f xs) j z
    → (k l : ℕ) × (a b : A) × (k < l) × At xs k a × At xs l b × (f a ≡ Some y) × (f b ≡ Some z)
filter-map-order f [] i j y z lt at_y at_z = absurd (no-element i y at_y)
filter-map-order {A} {B} f (x ∷ xs) i j y z lt at_y at_z = go (f x) refl i j lt at_y at_z (λ a b less u v. filter-map-order f xs a b y z less u v)
  where
    go : (o : Option B) → f x ≡ o → (i j : ℕ) → i < j → At (cons_option o (filter_map f xs)) i y → At (cons_option o (filter_map f xs)) j z
        → ((i j : ℕ) → i < j → At (filter_map f xs) i y → At (filter_map f xs) j z → (k l : ℕ) × (a b : A) × (k < l) × At xs k a × At xs l b × (f a ≡ Some y) × (f b ≡ Some z))
        → (k l : ℕ) × (a b : A) × (k < l) × At (x ∷ xs) k a × At (x ∷ xs) l b × (f a ≡ Some y) × (f b ≡ Some z)
    go None is i j lt u v rest = (let r = rest i j lt u v in (suc r.0, suc r.1, r.2, r.3, (let e : r.0 < r.1 = r.4 in omega (arith, e)), r.5, r.6, r.7, r.8))
    go (Some w) is zero zero lt u v rest = absurd (omega (arith, lt))
    go (Some w) is (suc i) zero lt u v rest = absurd (omega (arith, lt))
    go (Some w) is zero (suc j) lt u v rest = (let r = at-filter-map f xs j z v in (0, suc r.0, x, r.1, omega arith, refl, r.2, is ∙ ap (λ (b : B). Some b) (some_is w y u), r.3))
    go (Some w) is (suc i) (suc j) lt u v rest = (let r = rest i j (omega (arith, lt)) u v in (suc r.0, suc r.1, r.2, r.3, (let e : r.0 < r.1 = r.4 in omega (arith, e)), r.5, r.6, r.7, r.8))
