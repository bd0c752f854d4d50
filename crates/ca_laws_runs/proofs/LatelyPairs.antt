-- Puts of a server's core beside the places at which they came, place by place,
-- as its records change.
use Rattle.std.proofs.Common.{◌≡◌, ℕ, zero, suc, ◌⊎◌, inl, inr, Bool, true, false, cond, not, List, [], ◌∷◌, ◌++◌, length, Some, refl, sym, ap, subst, ◌∙◌, arith}
use Rattle.std.specs.Prelude.{drop, filter, map, take}
use Rattle.std.specs.Str.{bytes_eq}
use Rattle.ca_arena.specs.declared.handle.Handle.{Handle}
use Rattle.ca_records.specs.declared.puts.Put.{Put}
use Rattle.ca_records.specs.declared.puts.Stamp.{Stamp}
use Rattle.ca_records.specs.Puts.{Record, WaitingPut, finished, new_record, removed, with_record, withdrawn}
use Rattle.ca_records.specs.Puts as puts
use Rattle.ca_records.specs.Record.{RecordState}
use Rattle.ca_text.specs.Place.{At}
use Rattle.ca_text.proofs.Places.{some_is, At-mapped}
use Rattle.ca_model.specs.ServerEvents.{first_of, next_busy, places_where, with_core, without_puts}
use Rattle.ca_model.specs.ServerEvents as event
use Rattle.ca_model.specs.World.{PutPlace, RecordSide, record_begun}
use Rattle.ca_laws_parts.proofs.WritesLists.{none_at}
use Rattle.ca_laws_runs.proofs.Pairs.{core-at, none-some}

-- ---- pairs

-- The put makes a record busy, and it came at this place.
pub record IsBusyAt (cs : List Record) (rs : List RecordSide) (q : PutPlace) (b : Put) : Type 0 where
  pub k : ℕ
  pub c : Record
  pub r : RecordSide
  pub in_cs : At cs k c
  pub in_rs : At rs k r
  pub core : c.busy ≡ Some b
  pub side : r.busy ≡ Some q

-- The put waits for a record, and it came at the place that waits beside it.
pub record IsWaitingAt (cs : List Record) (rs : List RecordSide) (q : PutPlace) (b : Put) : Type 0 where
  pub k : ℕ
  pub c : Record
  pub r : RecordSide
  pub in_cs : At cs k c
  pub in_rs : At rs k r
  pub j : ℕ
  pub x : WaitingPut
  pub core : At c.waiting j x
  pub side : At r.waiting j q
  pub is : x.put ≡ b

-- beside each other stand records of one name
abbrev pub AreNamed : List Record → List RecordSide → Type 0
AreNamed cs rs = (k : ℕ) (c : Record) (r : RecordSide) → At cs k c → At rs k r → c.state.name ≡ r.name

-- ---- two lists

pub kept-beside : {A B : Type 0} (s : A → Bool) (t : B → Bool) (xs : List A) (ys : List B)
    → ((i : ℕ) (x : A) (y : B) → At xs i x → At ys i y → s x ≡ t y)
    → (k : ℕ) (x : A) (y : B) → At (filter s xs) k x → At (filter t ys) k y → (i : ℕ) × At xs i x × At ys i y
kept-beside s t [] ys same k x y at there = absurd (none_at k x at)
kept-beside s t (a ∷ xs) [] same k x y at there = absurd (none_at k y there)
kept-beside {A} {B} s t (a ∷ xs) (b ∷ ys) same k x y at there =
    go (s a) k (subst (λ (u : Bool). At (cond u (b ∷ filter t ys) (filter t ys)) k y) (sym (same 0 a b refl refl)) there) at
    (λ l p q. kept-beside s t xs ys (λ i z v in_xs in_ys. same (suc i) z v in_xs in_ys) l x y p q)
  where
    later : ((i : ℕ) × At xs i x × At ys i y) → (i : ℕ) × At (a ∷ xs) i x × At (b ∷ ys) i y
    later (i, p, q) = (suc i, p, q)

    go : (u : Bool) (k : ℕ) → At (cond u (b ∷ filter t ys) (filter t ys)) k y → At (cond u (a ∷ filter s xs) (filter s xs)) k x
        → ((l : ℕ) → At (filter s xs) l x → At (filter t ys) l y → (i : ℕ) × At xs i x × At ys i y) → (i : ℕ) × At (a ∷ xs) i x × At (b ∷ ys) i y
    go true zero q p rest = (0, p, q)
    go true (suc k) q p rest = later (rest k p q)
    go false k q p rest = later (rest k p q)

-- what is left of the waiting puts of a channel, on both sides
left-beside : (test : Put → Bool) (ws : List WaitingPut) (ps : List PutPlace) (k : ℕ) (x : WaitingPut) (q : PutPlace)
    → At (filter (λ (p : WaitingPut). not (test p.put)) ws) k x → At (places_where (λ (p : Put). not (test p)) ws ps) k q
    → (i : ℕ) × At ws i x × At ps i q
left-beside test [] ps k x q at there = absurd (none_at k x at)
left-beside test (w ∷ ws) [] k x q at there = absurd (none_at k q there)
left-beside test (w ∷ ws) (p ∷ ps) k x q at there = go (not (test w.put)) k at there (λ l a b. left-beside test ws ps l x q a b)
  where
    later : ((i : ℕ) × At ws i x × At ps i q) → (i : ℕ) × At (w ∷ ws) i x × At (p ∷ ps) i q
    later (i, a, b) = (suc i, a, b)

    go : (u : Bool) (k : ℕ)
        → At (cond u (w ∷ filter (λ (z : WaitingPut). not (test z.put)) ws) (filter (λ (z : WaitingPut). not (test z.put)) ws)) k x
        → At (cond u (p ∷ places_where (λ (z : Put). not (test z)) ws ps) (places_where (λ (z : Put). not (test z)) ws ps)) k q
        → ((l : ℕ) → At (filter (λ (z : WaitingPut). not (test z.put)) ws) l x → At (places_where (λ (z : Put). not (test z)) ws ps) l q → (i : ℕ) × At ws i x × At ps i q) → (i : ℕ) × At (w ∷ ws) i x × At (p ∷ ps) i q
    go true zero a b rest = (0, a, b)
    go true (suc k) a b rest = later (rest k a b)
    go false k a b rest = later (rest k a b)

-- one more in both, at one place
put-beside : {A B : Type 0} (n : ℕ) (xs : List A) (ys : List B) (a : A) (b : B) → length xs ≡ length ys → (k : ℕ) (x : A) (y : B)
    → At (take n xs ++ a ∷ drop n xs) k x → At (take n ys ++ b ∷ drop n ys) k y
    → ((i : ℕ) × At xs i x × At ys i y) ⊎ ((a ≡ x) × (b ≡ y))
put-beside zero xs ys a b same zero x y p q = inr (some_is a x p, some_is b y q)
put-beside zero xs ys a b same (suc k) x y p q = inl (k, p, q)
put-beside (suc n) [] [] a b same zero x y p q = inr (some_is a x p, some_is b y q)
put-beside (suc n) [] [] a b same (suc k) x y p q = absurd (none_at k x p)
put-beside (suc n) [] (d ∷ ys) a b same k x y p q = absurd (omega (arith, same))
put-beside (suc n) (c ∷ xs) [] a b same k x y p q = absurd (omega (arith, same))
put-beside (suc n) (c ∷ xs) (d ∷ ys) a b same zero x y p q = inl (0, p, q)
put-beside (suc n) (c ∷ xs) (d ∷ ys) a b same (suc k) x y p q = elim (put-beside n xs ys a b (omega (arith, same)) k x y p q) [
  | inl r ↦ inl (suc r.0, r.1, r.2)
  | inr r ↦ inr r
]

last-beside : {A B : Type 0} (xs : List A) (ys : List B) (a : A) (b : B) → length xs ≡ length ys → (k : ℕ) (x : A) (y : B) → At (xs ++ a ∷ []) k x
    → At (ys ++ b ∷ []) k y → ((At xs k x) × At ys k y) ⊎ ((a ≡ x) × (b ≡ y))
last-beside [] [] a b same zero x y p q = inr (some_is a x p, some_is b y q)
last-beside [] [] a b same (suc k) x y p q = absurd (none_at k x p)
last-beside [] (d ∷ ys) a b same k x y p q = absurd (omega (arith, same))
last-beside (c ∷ xs) [] a b same k x y p q = absurd (omega (arith, same))
last-beside (c ∷ xs) (d ∷ ys) a b same zero x y p q = inl (p, q)
last-beside (c ∷ xs) (d ∷ ys) a b same (suc k) x y p q = last-beside xs ys a b (omega (arith, same)) k x y p q

-- ---- from one pair of lists to the next

-- Each put was there, beside the place where it was, or it is one of these; and one
-- that waited may be busy.
module _ (Own : PutPlace → Put → Type 0) where
  pub record Lines (cs ds : List Record) (rs ss : List RecordSide) : Type 0 where
    pub busy : (q : PutPlace) (b : Put) → IsBusyAt ds ss q b → IsBusyAt cs rs q b ⊎ (IsWaitingAt cs rs q b ⊎ Own q b)
    pub waits : (q : PutPlace) (b : Put) → IsWaitingAt ds ss q b → IsWaitingAt cs rs q b ⊎ Own q b

  pub lines-self : (cs : List Record) (rs : List RecordSide) → Lines cs cs rs rs
  lines-self cs rs = record { busy = λ q b p. inl p; waits = λ q b p. inl p }

  pub lines-then : (cs ds es : List Record) (rs ss ts : List RecordSide) → Lines cs ds rs ss → Lines ds es ss ts → Lines cs es rs ts
  lines-then cs ds es rs ss ts f g = record {
    busy = λ q b p. elim (g.busy q b p) [
      | inl was ↦ f.busy q b was
      | inr (inl was) ↦ elim (f.waits q b was) [ inl old ↦ inr (inl old) | inr own ↦ inr (inr own) ]
      | inr (inr own) ↦ inr (inr own)
    ];
    waits = λ q b p. elim (g.waits q b p) [ inl was ↦ f.waits q b was | inr own ↦ inr own ];
  }

  -- cores whose puts are as they were
  pub lines-cores : (g : Record → Record) (cs : List Record) (rs : List RecordSide) → ((c : Record) → (g c).busy ≡ c.busy)
      → ((c : Record) → (g c).waiting ≡ c.waiting) → Lines cs (map g cs) rs rs
  lines-cores g cs rs busy waiting = record {
    busy = λ q b p. (let c = At-mapped g cs p.k p.c p.in_cs in inl (record { k = p.k; c = c.0; r = p.r; in_cs = c.1; in_rs = p.in_rs; core = sym (busy c.0) ∙ ap (λ (z : Record). z.busy) (sym c.2) ∙ p.core; side = p.side }));
    waits = λ q b p. (let c = At-mapped g cs p.k p.c p.in_cs in inl (record { k = p.k; c = c.0; r = p.r; in_cs = c.1; in_rs = p.in_rs; j = p.j; x = p.x; core = subst (λ (l : List WaitingPut). At l p.j p.x) (ap (λ (z : Record). z.waiting) c.2 ∙ waiting c.0) p.core; side = p.side; is = p.is }));
  }

  pub lines-are : (cs ds : List Record) (rs : List RecordSide) → ds ≡ cs → Lines cs ds rs rs
  lines-are cs ds rs is = subst (λ (l : List Record). Lines cs l rs rs) (sym is) (lines-self cs rs)

  -- the record of a name changes, on both sides
  pub lines-with : (name : List ℕ) (f : Record → Record) (g : RecordSide → RecordSide) (cs : List Record) (rs : List RecordSide) → AreNamed cs rs
      → ((k : ℕ) (c : Record) (r : RecordSide) (q : PutPlace) (b : Put) → At cs k c → At rs k r → (f c).busy ≡ Some b → (g r).busy ≡ Some q → IsBusyAt cs rs q b ⊎ (IsWaitingAt cs rs q b ⊎ Own q b))
      → ((k : ℕ) (c : Record) (r : RecordSide) (j : ℕ) (x : WaitingPut) (q : PutPlace) → At cs k c → At rs k r → At (f c).waiting j x → At (g r).waiting j q → IsWaitingAt cs rs q x.put ⊎ Own q x.put)
      → Lines cs (with_record name f cs) rs (event.with_record name g rs)
  lines-with name f g cs rs named busy waits = record {
    busy = λ q b p.
        let c = At-mapped change cs p.k p.c p.in_cs in
        let r = At-mapped turn rs p.k p.r p.in_rs in
        let same : c.0.state.name ≡ r.0.name = named p.k c.0 r.0 c.1 r.1 in
        go-busy (bytes_eq r.0.name name) p.k c.0 r.0 q b c.1 r.1
        (subst (λ (t : Bool). (cond t (f c.0) c.0).busy ≡ Some b) (ap (λ (n : List ℕ). bytes_eq n name) same) (ap (λ (z : Record). z.busy) (sym c.2) ∙ p.core))
        (ap (λ (z : RecordSide). z.busy) (sym r.2) ∙ p.side);
    waits = λ q b p.
        let c = At-mapped change cs p.k p.c p.in_cs in
        let r = At-mapped turn rs p.k p.r p.in_rs in
        let same : c.0.state.name ≡ r.0.name = named p.k c.0 r.0 c.1 r.1 in
        subst (λ (z : Put). IsWaitingAt cs rs q z ⊎ Own q z) p.is
        (go-waits (bytes_eq r.0.name name) p.k c.0 r.0 p.j p.x q c.1 r.1
        (subst (λ (t : Bool). At (cond t (f c.0) c.0).waiting p.j p.x) (ap (λ (n : List ℕ). bytes_eq n name) same) (subst (λ (z : Record). At z.waiting p.j p.x) c.2 p.core))
        (subst (λ (z : RecordSide). At z.waiting p.j q) r.2 p.side));
  }
    where
      change : Record → Record
      change c = cond (bytes_eq c.state.name name) (f c) c

      turn : RecordSide → RecordSide
      turn r = cond (bytes_eq r.name name) (g r) r

      go-busy : (t : Bool) (k : ℕ) (c : Record) (r : RecordSide) (q : PutPlace) (b : Put) → At cs k c → At rs k r → (cond t (f c) c).busy ≡ Some b
          → (cond t (g r) r).busy ≡ Some q → IsBusyAt cs rs q b ⊎ (IsWaitingAt cs rs q b ⊎ Own q b)
      go-busy true k c r q b in_cs in_rs e d = busy k c r q b in_cs in_rs e d
      go-busy false k c r q b in_cs in_rs e d = inl (record { k = k; c = c; r = r; in_cs = in_cs; in_rs = in_rs; core = e; side = d })

      go-waits : (t : Bool) (k : ℕ) (c : Record) (r : RecordSide) (j : ℕ) (x : WaitingPut) (q : PutPlace) → At cs k c → At rs k r
          → At (cond t (f c) c).waiting j x → At (cond t (g r) r).waiting j q → IsWaitingAt cs rs q x.put ⊎ Own q x.put
      go-waits true k c r j x q in_cs in_rs e d = waits k c r j x q in_cs in_rs e d
      go-waits false k c r j x q in_cs in_rs e d = inl (record { k = k; c = c; r = r; in_cs = in_cs; in_rs = in_rs; j = j; x = x; core = e; side = d; is = refl })

  -- the waiting puts of a channel go
  pub lines-cleared : (h : Handle) (sid : ℕ) (cs : List Record) (rs : List RecordSide)
      → Lines cs (withdrawn (event.is_of_channel h sid) cs) rs (with_core (event.without_channel h sid) cs rs)
  lines-cleared h sid cs rs = record {
    busy = λ q b p.
        let c = At-mapped (puts.without_puts (event.is_of_channel h sid)) cs p.k p.c p.in_cs in
        let r = core-at (event.without_channel h sid) cs rs p.k p.r p.in_rs in
        inl (record { k = p.k; c = c.0; r = r.1; in_cs = c.1; in_rs = r.3; core = ap (λ (z : Record). z.busy) (sym c.2) ∙ p.core; side = ap (λ (z : RecordSide). z.busy) (sym r.4) ∙ p.side });
    waits = λ q b p.
        let c = At-mapped (puts.without_puts (event.is_of_channel h sid)) cs p.k p.c p.in_cs in
        let r = core-at (event.without_channel h sid) cs rs p.k p.r p.in_rs in
        let same : r.0 ≡ c.0 = some_is r.0 c.0 (sym r.2 ∙ c.1) in
        let i = left-beside (event.is_of_channel h sid) c.0.waiting r.1.waiting p.j p.x q (subst (λ (z : Record). At z.waiting p.j p.x) c.2 p.core)
        (subst (λ (z : Record). At (places_where (λ (v : Put). not (event.is_of_channel h sid v)) z.waiting r.1.waiting) p.j q) same (subst (λ (z : RecordSide). At z.waiting p.j q) r.4 p.side)) in
        inl (record { k = p.k; c = c.0; r = r.1; in_cs = c.1; in_rs = r.3; j = i.0; x = p.x; core = i.1; side = i.2; is = p.is });
  }

  -- the record of a name goes
  pub lines-removed : (name : List ℕ) (cs : List Record) (rs : List RecordSide) → AreNamed cs rs
      → Lines cs (removed name cs) rs (filter (λ (r : RecordSide). not (bytes_eq r.name name)) rs)
  lines-removed name cs rs named = record {
    busy = λ q b p. (let i = at p.k p.c p.r p.in_cs p.in_rs in inl (record { k = i.0; c = p.c; r = p.r; in_cs = i.1; in_rs = i.2; core = p.core; side = p.side }));
    waits = λ q b p. (let i = at p.k p.c p.r p.in_cs p.in_rs in inl (record { k = i.0; c = p.c; r = p.r; in_cs = i.1; in_rs = i.2; j = p.j; x = p.x; core = p.core; side = p.side; is = p.is }));
  }
    where
      at : (k : ℕ) (c : Record) (r : RecordSide) → At (removed name cs) k c → At (filter (λ (r : RecordSide). not (bytes_eq r.name name)) rs) k r
          → (i : ℕ) × At cs i c × At rs i r
      at k c r in_cs in_rs =
          kept-beside (λ (c : Record). not (bytes_eq c.state.name name)) (λ (r : RecordSide). not (bytes_eq r.name name)) cs rs (λ i x y a b. ap (λ (n : List ℕ). not (bytes_eq n name)) (named i x y a b)) k c r in_cs in_rs

  -- a record is added
  pub lines-added : (number behind : ℕ) (s : RecordState) (cs : List Record) (rs : List RecordSide) → length cs ≡ length rs
      → Lines cs (take behind cs ++ new_record s ∷ drop behind cs) rs (take behind rs ++ record_begun number s ∷ drop behind rs)
  lines-added number behind s cs rs long = record {
    busy = λ q b p. elim (put-beside behind cs rs (new_record s) (record_begun number s) long p.k p.c p.r p.in_cs p.in_rs) [
      | inl i ↦ inl (record { k = i.0; c = p.c; r = p.r; in_cs = i.1; in_rs = i.2; core = p.core; side = p.side })
      | inr new_it ↦ absurd (none-some b (ap (λ (z : Record). z.busy) new_it.0 ∙ p.core))
    ];
    waits = λ q b p. elim (put-beside behind cs rs (new_record s) (record_begun number s) long p.k p.c p.r p.in_cs p.in_rs) [
      | inl i ↦ inl (record { k = i.0; c = p.c; r = p.r; in_cs = i.1; in_rs = i.2; j = p.j; x = p.x; core = p.core; side = p.side; is = p.is })
      | inr new_it ↦ absurd (none_at p.j p.x (subst (λ (z : Record). At z.waiting p.j p.x) (sym new_it.0) p.core))
    ];
  }

  -- circuits end: two tests agree on what waits side by side
  pub lines-gone : (test : Put → Bool) (gone : ℕ → Bool) (cs : List Record) (rs : List RecordSide)
      → ((q : PutPlace) (b : Put) → IsWaitingAt cs rs q b → test b ≡ gone q.circuit) → Lines cs (withdrawn test cs) rs (map (without_puts gone) rs)
  lines-gone test gone cs rs agree = record {
    busy = λ q b p.
        let c = At-mapped (puts.without_puts test) cs p.k p.c p.in_cs in
        let r = At-mapped (without_puts gone) rs p.k p.r p.in_rs in
        inl (record { k = p.k; c = c.0; r = r.0; in_cs = c.1; in_rs = r.1; core = ap (λ (z : Record). z.busy) (sym c.2) ∙ p.core; side = ap (λ (z : RecordSide). z.busy) (sym r.2) ∙ p.side });
    waits = λ q b p.
        let c = At-mapped (puts.without_puts test) cs p.k p.c p.in_cs in
        let r = At-mapped (without_puts gone) rs p.k p.r p.in_rs in
        let i = kept-beside (λ (x : WaitingPut). not (test x.put)) (λ (v : PutPlace). not (gone v.circuit)) c.0.waiting r.0.waiting
        (λ i x v a d. ap (λ (t : Bool). not t) (agree v x.put (record { k = p.k; c = c.0; r = r.0; in_cs = c.1; in_rs = r.1; j = i; x = x; core = a; side = d; is = refl })))
        p.j p.x q (subst (λ (z : Record). At z.waiting p.j p.x) c.2 p.core) (subst (λ (z : RecordSide). At z.waiting p.j q) r.2 p.side) in
        inl (record { k = p.k; c = c.0; r = r.0; in_cs = c.1; in_rs = r.1; j = i.0; x = p.x; core = i.1; side = i.2; is = p.is });
  }

  -- a busy put is finished, and the next that waits is applied
  pub lines-finished : (name : List ℕ) (stamp : Stamp) (cs : List Record) (rs : List RecordSide) → AreNamed cs rs
      → Lines cs (with_record name (λ (q : Record). finished stamp q q.waiting) cs) rs (event.with_record name next_busy rs)
  lines-finished name stamp cs rs named =
      lines-with name (λ (q : Record). finished stamp q q.waiting) next_busy cs rs named
      (λ k c r q b in_cs in_rs core side. inr (inl (first k c r q b in_cs in_rs c.waiting refl r.waiting refl core side)))
      (λ k c r j x q in_cs in_rs core side. inl (rest k c r j x q in_cs in_rs c.waiting refl r.waiting refl core side))
    where
      first : (k : ℕ) (c : Record) (r : RecordSide) (q : PutPlace) (b : Put) → At cs k c → At rs k r → (ws : List WaitingPut) → c.waiting ≡ ws
          → (ps : List PutPlace) → r.waiting ≡ ps → (finished stamp c ws).busy ≡ Some b → first_of ps ≡ Some q → IsWaitingAt cs rs q b
      first k c r q b in_cs in_rs [] w_is ps p_is core side = absurd (none-some b core)
      first k c r q b in_cs in_rs (x ∷ ws) w_is [] p_is core side = absurd (none-some q side)
      first k c r q b in_cs in_rs (x ∷ ws) w_is (p ∷ ps) p_is core side = record {
        k = k;
        c = c;
        r = r;
        in_cs = in_cs;
        in_rs = in_rs;
        j = 0;
        x = x;
        core = subst (λ (l : List WaitingPut). At l 0 x) (sym w_is) refl;
        side = subst (λ (l : List PutPlace). At l 0 q) (sym p_is) side;
        is = some_is x.put b core;
      }

      rest : (k : ℕ) (c : Record) (r : RecordSide) (j : ℕ) (x : WaitingPut) (q : PutPlace) → At cs k c → At rs k r → (ws : List WaitingPut)
          → c.waiting ≡ ws → (ps : List PutPlace) → r.waiting ≡ ps → At (finished stamp c ws).waiting j x → At (drop 1 ps) j q
          → IsWaitingAt cs rs q x.put
      rest k c r j x q in_cs in_rs [] w_is ps p_is core side = absurd (none_at j x core)
      rest k c r j x q in_cs in_rs (z ∷ ws) w_is [] p_is core side = absurd (none_at j q side)
      rest k c r j x q in_cs in_rs (z ∷ ws) w_is (p ∷ ps) p_is core side = record {
        k = k;
        c = c;
        r = r;
        in_cs = in_cs;
        in_rs = in_rs;
        j = suc j;
        x = x;
        core = subst (λ (l : List WaitingPut). At l (suc j) x) (sym w_is) core;
        side = subst (λ (l : List PutPlace). At l (suc j) q) (sym p_is) side;
        is = refl;
      }

  -- a put makes a record busy, or waits after the others
  pub lines-busied : (name : List ℕ) (f : Record → Record) (own : PutPlace) (b : Put) (cs : List Record) (rs : List RecordSide) → AreNamed cs rs
      → ((c : Record) → (f c).busy ≡ Some b) → ((c : Record) → (f c).waiting ≡ c.waiting) → Own own b
      → Lines cs (with_record name f cs) rs (event.with_record name (λ (r : RecordSide). record r { busy = Some own }) rs)
  lines-busied name f own b cs rs named busy waiting is =
      lines-with name f (λ (r : RecordSide). record r { busy = Some own }) cs rs named
      (λ k c r q d in_cs in_rs core side. inr (inr (subst (λ (z : PutPlace × Put). Own z.0 z.1) (λ i. (some_is own q side i, some_is b d (sym (busy c) ∙ core) i)) is)))
      (λ k c r j x q in_cs in_rs core side. inl (record { k = k; c = c; r = r; in_cs = in_cs; in_rs = in_rs; j = j; x = x; core = subst (λ (l : List WaitingPut). At l j x) (waiting c) core; side = side; is = refl }))

  pub lines-waiting : (name : List ℕ) (x : WaitingPut) (own : PutPlace) (cs : List Record) (rs : List RecordSide) → AreNamed cs rs
      → ((k : ℕ) (c : Record) (r : RecordSide) → At cs k c → At rs k r → length c.waiting ≡ length r.waiting) → Own own x.put
      → Lines cs (with_record name (puts.with_waiting x) cs) rs (event.with_record name (λ (r : RecordSide). record r { waiting = r.waiting ++ own ∷ [] }) rs)
  lines-waiting name x own cs rs named long is =
      lines-with name (puts.with_waiting x) (λ (r : RecordSide). record r { waiting = r.waiting ++ own ∷ [] }) cs rs named
      (λ k c r q d in_cs in_rs core side. inl (record { k = k; c = c; r = r; in_cs = in_cs; in_rs = in_rs; core = core; side = side }))
      (λ k c r j z q in_cs in_rs core side. elim (last-beside c.waiting r.waiting x own (long k c r in_cs in_rs) j z q core side) [
        | inl old ↦ inl (record { k = k; c = c; r = r; in_cs = in_cs; in_rs = in_rs; j = j; x = z; core = old.0; side = old.1; is = refl })
        | inr new_it ↦ inr (subst (λ (v : PutPlace × Put). Own v.0 v.1) (λ i. (new_it.1 i, ap (λ (p : WaitingPut). p.put) new_it.0 i)) is)
      ])
