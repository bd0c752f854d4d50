-- Where puts of a server's records came, as events go by.
use Rattle.std.proofs.Common.{◌≡◌, ℕ, zero, suc, ◌+◌, ◌⊎◌, inl, inr, Bool, true, false, cond, not, List, [], ◌∷◌, ◌++◌, length, Option, Some, None, refl, sym, ap, subst, ◌∙◌}
use Rattle.std.specs.Prelude.{drop, filter, map, option_to_list, slice_set, take}
use Rattle.std.specs.List.{flat_map}
use Rattle.std.specs.Str.{bytes_eq}
use Rattle.ca_arena.specs.declared.handle.Handle.{Handle}
use Rattle.ca_records.specs.Record.{RecordState}
use Rattle.ca_text.specs.Place.{At}
use Rattle.ca_text.proofs.Places.{some_is, At-after, At-map, At-mapped, At-parts, At-set}
use Rattle.ca_model.specs.Due.{Action, Applies}
use Rattle.ca_model.specs.Due as action
use Rattle.ca_model.specs.Server.{Server}
use Rattle.ca_model.specs.Speech.{In}
use Rattle.ca_model.specs.ServerEvents.{next_busy, records_after, server_after, without_puts}
use Rattle.ca_model.specs.ServerEvents as event
use Rattle.ca_model.specs.World.{Joined, PutPlace, RecordSide, ServerSide, World, numbered, record_begun}
use Rattle.ca_laws_parts.specs.Kept.{put_places, puts_of}
use Rattle.ca_laws_parts.proofs.Leaving.{flat-in}
use Rattle.ca_laws_parts.proofs.WritesLists.{In-append, In-kept, At-take, none_at}
use Rattle.ca_laws_parts.proofs.Waited.{core-back, waits-back}

-- ---- lists

pub In-right : {A : Type 0} (xs ys : List A) (x : A) → In ys x → In (xs ++ ys) x
In-right xs ys x h = (length xs + h.0, At-after xs ys h.0 x h.1)

pub In-parts : {A : Type 0} (xs ys : List A) (x : A) → In (xs ++ ys) x → In xs x ⊎ In ys x
In-parts xs ys x h = elim (At-parts xs ys h.0 x h.1) [ inl a ↦ inl (h.0, a) | inr b ↦ inr (b.0, b.2) ]

pub In-map : {A B : Type 0} (f : A → B) (xs : List A) (x : A) → In xs x → In (map f xs) (f x)
In-map f xs x h = (h.0, At-map f xs h.0 x h.1)

pub In-mapped : {A B : Type 0} (f : A → B) (xs : List A) (y : B) → In (map f xs) y → (x : A) × In xs x × (y ≡ f x)
In-mapped f xs y h = (let b = At-mapped f xs h.0 y h.1 in (b.0, (h.0, b.1), b.2))

pub In-flat : {A B : Type 0} (f : A → List B) (xs : List A) (x : A) (y : B) → In xs x → In (f x) y → In (flat_map f xs) y
In-flat f [] x y h g = absurd (none_at h.0 x h.1)
In-flat {A} {B} f (z ∷ xs) x y h g = go h.0 h.1 (λ rest. In-flat f xs x y rest g)
  where
    go : (k : ℕ) → At (z ∷ xs) k x → (In xs x → In (flat_map f xs) y) → In (flat_map f (z ∷ xs)) y
    go zero at more = In-append (f z) (flat_map f xs) y (subst (λ (v : A). In (f v) y) (sym (some_is z x at)) g)
    go (suc k) at more = In-right (f z) (flat_map f xs) y (more (k, at))

In-drop : {A : Type 0} (n : ℕ) (xs : List A) (x : A) → In (drop n xs) x → In xs x
In-drop zero xs x h = h
In-drop (suc n) [] x h = absurd (none_at h.0 x h.1)
In-drop (suc n) (y ∷ xs) x h = (let r = In-drop n xs x h in (suc r.0, r.1))

-- ---- puts

-- a record has a put that came there: it is busy with it, or it waits
abbrev pub HasPut : RecordSide → PutPlace → Type 0
HasPut r q = (r.busy ≡ Some q) ⊎ In r.waiting q

abbrev pub PutIn : List RecordSide → PutPlace → Type 0
PutIn rs q = (r : RecordSide) × In rs r × HasPut r q

busy-in : (o : Option PutPlace) (q : PutPlace) → In (option_to_list o) q → o ≡ Some q
busy-in None q h = absurd (none_at h.0 q h.1)
busy-in (Some p) q h = go h.0 h.1
  where
    go : (k : ℕ) → At (p ∷ []) k q → Some p ≡ Some q
    go zero at = at
    go (suc k) at = absurd (none_at k q at)

in-busy : (o : Option PutPlace) (q : PutPlace) → o ≡ Some q → In (option_to_list o) q
in-busy o q is = subst (λ (x : Option PutPlace). In (option_to_list x) q) (sym is) (0, refl)

pub places-have : (rs : List RecordSide) (q : PutPlace) → In (put_places rs) q → PutIn rs q
places-have rs q h =
    let r = flat-in puts_of rs q h in (
      r.0,
      r.1,
      elim (In-parts (option_to_list r.0.busy) r.0.waiting q r.2) [ inl busy ↦ inl (busy-in r.0.busy q busy) | inr waits ↦ inr waits ],
    )

pub have-places : (rs : List RecordSide) (q : PutPlace) → PutIn rs q → In (put_places rs) q
have-places rs q h =
    In-flat puts_of rs h.0 q h.1
    (elim h.2 [
      | inl busy ↦ In-append (option_to_list h.0.busy) h.0.waiting q (in-busy h.0.busy q busy)
      | inr waits ↦ In-right (option_to_list h.0.busy) h.0.waiting q waits
    ])

-- ---- from one list of records to the next

abbrev pub PutsBack : (Extra : PutPlace → Type 0) → (old new : List RecordSide) → Type 0
PutsBack Extra old new = (q : PutPlace) → PutIn new q → PutIn old q ⊎ Extra q

pub puts-then : (Extra : PutPlace → Type 0) (a b c : List RecordSide) → PutsBack Extra a b → PutsBack Extra b c → PutsBack Extra a c
puts-then Extra a b c f g q h = elim (g q h) [ inl old ↦ f q old | inr new ↦ inr new ]

pub puts-map : (Extra : PutPlace → Type 0) (f : RecordSide → RecordSide) (rs : List RecordSide) → ((r : RecordSide) (q : PutPlace) → HasPut (f r) q → HasPut r q) → PutsBack Extra rs (map f rs)
puts-map Extra f rs back q h =
    let b = In-mapped f rs h.0 h.1 in
    inl (b.0, b.1, back b.0 q (subst (λ (z : RecordSide). HasPut z q) b.2 h.2))

pub puts-without : (Extra : PutPlace → Type 0) (gone : ℕ → Bool) (rs : List RecordSide) → PutsBack Extra rs (map (without_puts gone) rs)
puts-without Extra gone rs =
    puts-map Extra (without_puts gone) rs (λ r q h. elim h [ inl busy ↦ inl busy | inr waits ↦ inr (In-kept (λ (p : PutPlace). not (gone p.circuit)) r.waiting q waits).0 ])

pub puts-filter : (Extra : PutPlace → Type 0) (test : RecordSide → Bool) (rs : List RecordSide) → PutsBack Extra rs (filter test rs)
puts-filter Extra test rs q h = inl (h.0, (In-kept test rs h.0 h.1).0, h.2)

first-of : (ps : List PutPlace) (q : PutPlace) → event.first_of ps ≡ Some q → In ps q
first-of [] q is = absurd (none-some q is)
  where
    none-some : (x : PutPlace) → let a : Option PutPlace = None in let b : Option PutPlace = Some x in a ≡ b → ⊥
    none-some x e = cc
first-of (p ∷ ps) q is = (0, is)

pub puts-next : (Extra : PutPlace → Type 0) (name : List ℕ) (rs : List RecordSide) → PutsBack Extra rs (event.with_record name next_busy rs)
puts-next Extra name rs = puts-map Extra (λ (r : RecordSide). cond (bytes_eq r.name name) (next_busy r) r) rs (λ r q h. go (bytes_eq r.name name) r q h)
  where
    go : (b : Bool) (r : RecordSide) (q : PutPlace) → HasPut (cond b (next_busy r) r) q → HasPut r q
    go true r q (inl busy) = inr (first-of r.waiting q busy)
    go true r q (inr waits) = inr (In-drop 1 r.waiting q waits)
    go false r q h = h

begun-none : (n : ℕ) (s : RecordState) (q : PutPlace) → HasPut (record_begun n s) q → ⊥
begun-none n s q (inl busy) = none-some q busy
  where
    none-some : (x : PutPlace) → let a : Option PutPlace = None in let b : Option PutPlace = Some x in a ≡ b → ⊥
    none-some x e = cc
begun-none n s q (inr waits) = none_at waits.0 q waits.1

pub puts-added : (Extra : PutPlace → Type 0) (n behind : ℕ) (s : RecordState) (rs : List RecordSide) → PutsBack Extra rs (take behind rs ++ record_begun n s ∷ drop behind rs)
puts-added Extra n behind s rs q h = elim (In-parts (take behind rs) (record_begun n s ∷ drop behind rs) h.0 h.1) [
  | inl before ↦ inl (h.0, (before.0, At-take behind rs before.0 h.0 before.1), h.2)
  | inr later ↦ go later.0 later.1
]
  where
    go : (k : ℕ) → At (record_begun n s ∷ drop behind rs) k h.0 → PutIn rs q ⊎ Extra q
    go zero at = absurd (begun-none n s q (subst (λ (z : RecordSide). HasPut z q) (sym (some_is (record_begun n s) h.0 at)) h.2))
    go (suc k) at = inl (h.0, In-drop behind rs h.0 (k, at), h.2)

pub puts-begun : (n : ℕ) (ss : List RecordState) (q : PutPlace) → PutIn (numbered n record_begun ss) q → ⊥
puts-begun n [] q h = none_at h.1.0 h.0 h.1.1
puts-begun n (s ∷ ss) q h = go h.1.0 h.1.1 (λ rest. puts-begun (n + 1) ss q (h.0, rest, h.2))
  where
    go : (k : ℕ) → At (record_begun n s ∷ numbered (n + 1) record_begun ss) k h.0 → (In (numbered (n + 1) record_begun ss) h.0 → ⊥) → ⊥
    go zero at more = begun-none n s q (subst (λ (z : RecordSide). HasPut z q) (sym (some_is (record_begun n s) h.0 at)) h.2)
    go (suc k) at more = more (k, at)

-- a message makes a record busy, or comes to wait
pub puts-acted : (old : Server) (h : Handle) (p : PutPlace) (did : Action) (rs : List RecordSide) → PutsBack (λ (q : PutPlace). q ≡ p) rs (records_after old h p did rs)
puts-acted old h p did rs q x = elim x.2 [
  | inr waits ↦ elim (waits-back old h p did rs q (x.0, x.1, waits)) [ inl is ↦ inr is | inr was ↦ inl (was.0, was.1, inr was.2) ]
  | inl busy ↦ go did x.1 busy
]
  where
    go : (did : Action) → In (records_after old h p did rs) x.0 → x.0.busy ≡ Some q → PutIn rs q ⊎ (q ≡ p)
    go (Applies name value true) there busy =
        let f : RecordSide → RecordSide = λ (r : RecordSide). cond (bytes_eq r.name name) (record r { busy = Some p }) r in
        let b = In-mapped f rs x.0 there in
        of (bytes_eq b.0.name name) b.0 b.1 (ap (λ (z : RecordSide). z.busy) (sym b.2) ∙ busy)
      where
        of : (t : Bool) (r : RecordSide) → In rs r → (cond t (record r { busy = Some p }) r).busy ≡ Some q → PutIn rs q ⊎ (q ≡ p)
        of true r at is = inr (sym (some_is p q is))
        of false r at is = inl (r, at, inl is)
    go (Applies name value false) there busy = inl (x.0, there, inl busy)
    go (action.Waits name value) there busy =
        let f : RecordSide → RecordSide = λ (r : RecordSide). cond (bytes_eq r.name name) (record r { waiting = r.waiting ++ p ∷ [] }) r in
        let b = In-mapped f rs x.0 there in
        inl (b.0, b.1, inl (of (bytes_eq b.0.name name) b.0 (ap (λ (z : RecordSide). z.busy) (sym b.2) ∙ busy)))
      where
        of : (t : Bool) (r : RecordSide) → (cond t (record r { waiting = r.waiting ++ p ∷ [] }) r).busy ≡ Some q → r.busy ≡ Some q
        of true r is = is
        of false r is = is
    go (action.Clears sid) there busy =
        let b = core-back (event.without_channel h sid) old.records rs there.0 x.0 there.1 in
        inl (b.1, b.2, inl (ap (λ (z : RecordSide). z.busy) (sym b.3) ∙ busy))
    go action.Nothing there busy = inl (x.0, there, inl busy)
    go action.Greets there busy = inl (x.0, there, inl busy)
    go (action.Names n) there busy = inl (x.0, there, inl busy)
    go (action.Opens n) there busy = inl (x.0, there, inl busy)
    go (action.Adds n) there busy = inl (x.0, there, inl busy)
    go (action.Drops n) there busy = inl (x.0, there, inl busy)
    go (action.Switches n) there busy = inl (x.0, there, inl busy)

-- ---- servers of a world

abbrev pub ServersBack : (Extra : PutPlace → Type 0) → (w new : World) → Type 0
ServersBack Extra w new = (i : ℕ) (z : ServerSide) → At new.servers i z → ((y : ServerSide) × At w.servers i y × PutsBack Extra y.records z.records) ⊎ ((q : PutPlace) → PutIn z.records q → ⊥)

pub servers-same : (Extra : PutPlace → Type 0) (w new : World) → new.servers ≡ w.servers → ServersBack Extra w new
servers-same Extra w new is i z at = inl (z, subst (λ (l : List ServerSide). At l i z) is at, λ q h. inl h)

pub servers-set : (Extra : PutPlace → Type 0) (w new : World) (k : ℕ) (y next : ServerSide) → At w.servers k y → new.servers ≡ slice_set w.servers k next → PutsBack Extra y.records next.records → ServersBack Extra w new
servers-set Extra w new k y next at is back i z there = elim (At-set w.servers k next i z (subst (λ (l : List ServerSide). At l i z) is there)) [
  | inl own ↦ inl (y, subst (λ (m : ℕ). At w.servers m y) (sym own.0) at, subst (λ (x : ServerSide). PutsBack Extra y.records x.records) (sym own.1) back)
  | inr old ↦ inl (z, old.0, λ q h. inl h)
]

-- an event at server k after which circuits end
pub servers-after : (Extra : PutPlace → Type 0) (w mid : World) (k : ℕ) (y side : ServerSide) (ends : Joined → Option (List ℕ)) (core : Server) → At w.servers k y → ServersBack Extra w mid → PutsBack Extra y.records side.records → ServersBack Extra w (server_after k side ends core mid)
servers-after Extra w mid k y side ends core at back puts i z there = elim (At-set mid.servers k _ i z there) [
  | inl own ↦ inl (
    y,
    subst (λ (m : ℕ). At w.servers m y) (sym own.0) at,
    subst (λ (x : ServerSide). PutsBack Extra y.records x.records) (sym own.1)
        (puts-then Extra y.records side.records (map (without_puts (event.ends_at ends mid.circuits)) side.records) puts (puts-without Extra (event.ends_at ends mid.circuits) side.records)),
  )
  | inr old ↦ back i z old.0
]
