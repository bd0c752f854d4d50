-- Puts of a server's core beside the places at which they came, as its records change.
use Rattle.std.proofs.Common.{◌≡◌, ℕ, zero, suc, ◌⊎◌, inl, inr, Bool, true, false, cond, not, List, [], ◌∷◌, ◌++◌, Option, Some, None, refl, sym, ap, subst, ◌∙◌}
use Rattle.std.specs.Prelude.{drop, filter, map, take}
use Rattle.std.specs.Str.{bytes_eq}
use Rattle.ca_records.specs.declared.puts.Put.{Put}
use Rattle.ca_records.specs.Puts.{Record, WaitingPut, new_record, with_record, withdrawn}
use Rattle.ca_records.specs.Puts as puts
use Rattle.ca_records.specs.Record.{RecordState}
use Rattle.ca_text.specs.Place.{At}
use Rattle.ca_text.proofs.Places.{some_is}
use Rattle.ca_model.specs.Speech.{In}
use Rattle.ca_model.specs.ServerEvents.{places_where, with_core, without_puts}
use Rattle.ca_model.specs.ServerEvents as event
use Rattle.ca_model.specs.World.{PutPlace, RecordSide, record_begun}
use Rattle.ca_laws_parts.proofs.WritesLists.{At-take, In-kept, none_at}
use Rattle.ca_laws_parts.proofs.Puts.{In-mapped, In-parts}
use Rattle.ca_laws_runs.specs.Pairs.{BusyPair, CoreWaits, SideWaits}

pub none-some : {A : Type 0} (x : A) → let a : Option A = None in let b : Option A = Some x in a ≡ b → ⊥
none-some x e = cc

pub In-drop : {A : Type 0} (n : ℕ) (xs : List A) (x : A) → In (drop n xs) x → In xs x
In-drop zero xs x h = h
In-drop (suc n) [] x h = absurd (none_at h.0 x h.1)
In-drop (suc n) (y ∷ xs) x h = (let r = In-drop n xs x h in (suc r.0, r.1))

-- ---- one record

-- The record has no put; or it was there with this name and with the same busy put, and all that
-- waits for it waited for it then.
abbrev pub CoreWas : List Record → Record → Type 0
CoreWas cs d = ((d.busy ≡ None) × ((x : WaitingPut) → In d.waiting x → ⊥))
    ⊎ ((c : Record) × In cs c × (d.state.name ≡ c.state.name) × (d.busy ≡ c.busy) × ((x : WaitingPut) → In d.waiting x → In c.waiting x))

abbrev pub SideWas : List RecordSide → RecordSide → Type 0
SideWas rs s = ((s.busy ≡ None) × ((q : PutPlace) → In s.waiting q → ⊥))
    ⊎ ((r : RecordSide) × In rs r × (s.name ≡ r.name) × (s.busy ≡ r.busy) × ((q : PutPlace) → In s.waiting q → In r.waiting q))

-- So it is of all.
abbrev pub CoresKeep : (cs ds : List Record) → Type 0
CoresKeep cs ds = (d : Record) → In ds d → CoreWas cs d

abbrev pub SidesKeep : (rs ss : List RecordSide) → Type 0
SidesKeep rs ss = (s : RecordSide) → In ss s → SideWas rs s

pub cores-same : (cs : List Record) → CoresKeep cs cs
cores-same cs d h = inr (d, h, refl, refl, λ x at. at)

pub sides-same : (rs : List RecordSide) → SidesKeep rs rs
sides-same rs s h = inr (s, h, refl, refl, λ q at. at)

pub cores-are : (cs ds : List Record) → ds ≡ cs → CoresKeep cs ds
cores-are cs ds is = subst (λ (l : List Record). CoresKeep cs l) (sym is) (cores-same cs)

pub cores-then : (a b c : List Record) → CoresKeep a b → CoresKeep b c → CoresKeep a c
cores-then a b c f g d h = elim (g d h) [
  | inl none ↦ inl none
  | inr was ↦ elim (f was.0 was.1) [
    | inl none ↦ inl (was.3 ∙ none.0, λ x at. none.1 x (was.4 x at))
    | inr there ↦ inr (there.0, there.1, was.2 ∙ there.2, was.3 ∙ there.3, λ x at. there.4 x (was.4 x at))
  ]
]

pub sides-then : (a b c : List RecordSide) → SidesKeep a b → SidesKeep b c → SidesKeep a c
sides-then a b c f g d h = elim (g d h) [
  | inl none ↦ inl none
  | inr was ↦ elim (f was.0 was.1) [
    | inl none ↦ inl (was.3 ∙ none.0, λ x at. none.1 x (was.4 x at))
    | inr there ↦ inr (there.0, there.1, was.2 ∙ there.2, was.3 ∙ there.3, λ x at. there.4 x (was.4 x at))
  ]
]

-- ---- changes of records that take puts out

pub cores-map : (f : Record → Record) (cs : List Record) → ((c : Record) → (f c).state.name ≡ c.state.name) → ((c : Record) → (f c).busy ≡ c.busy) → ((c : Record) (x : WaitingPut) → In (f c).waiting x → In c.waiting x) → CoresKeep cs (map f cs)
cores-map f cs name busy waits d h =
    let b = In-mapped f cs d h in
    inr (b.0, b.1, ap (λ (z : Record). z.state.name) b.2 ∙ name b.0, ap (λ (z : Record). z.busy) b.2 ∙ busy b.0, λ x at. waits b.0 x (subst (λ (z : Record). In z.waiting x) b.2 at))

pub sides-map : (f : RecordSide → RecordSide) (rs : List RecordSide) → ((r : RecordSide) → (f r).name ≡ r.name) → ((r : RecordSide) → (f r).busy ≡ r.busy) → ((r : RecordSide) (q : PutPlace) → In (f r).waiting q → In r.waiting q) → SidesKeep rs (map f rs)
sides-map f rs name busy waits s h =
    let b = In-mapped f rs s h in
    inr (b.0, b.1, ap (λ (z : RecordSide). z.name) b.2 ∙ name b.0, ap (λ (z : RecordSide). z.busy) b.2 ∙ busy b.0, λ q at. waits b.0 q (subst (λ (z : RecordSide). In z.waiting q) b.2 at))

pub cores-withdrawn : (test : Put → Bool) (cs : List Record) → CoresKeep cs (withdrawn test cs)
cores-withdrawn test cs = cores-map (puts.without_puts test) cs (λ c. refl) (λ c. refl) (λ c x at. (In-kept (λ (p : WaitingPut). not (test p.put)) c.waiting x at).0)

pub sides-without : (gone : ℕ → Bool) (rs : List RecordSide) → SidesKeep rs (map (without_puts gone) rs)
sides-without gone rs = sides-map (without_puts gone) rs (λ r. refl) (λ r. refl) (λ r q at. (In-kept (λ (p : PutPlace). not (gone p.circuit)) r.waiting q at).0)

-- the record of a name changes, but not its puts
pub cores-with : (name : List ℕ) (f : Record → Record) (cs : List Record) → ((c : Record) → (f c).state.name ≡ c.state.name) → ((c : Record) → (f c).busy ≡ c.busy) → ((c : Record) → (f c).waiting ≡ c.waiting) → CoresKeep cs (with_record name f cs)
cores-with name f cs names busy waits =
    cores-map (λ (c : Record). cond (bytes_eq c.state.name name) (f c) c) cs (λ c. one c (bytes_eq c.state.name name)) (λ c. two c (bytes_eq c.state.name name)) (λ c x at. three c x (bytes_eq c.state.name name) at)
  where
    one : (c : Record) (b : Bool) → (cond b (f c) c).state.name ≡ c.state.name
    one c true = names c
    one c false = refl

    two : (c : Record) (b : Bool) → (cond b (f c) c).busy ≡ c.busy
    two c true = busy c
    two c false = refl

    three : (c : Record) (x : WaitingPut) (b : Bool) → In (cond b (f c) c).waiting x → In c.waiting x
    three c x true at = subst (λ (l : List WaitingPut). In l x) (waits c) at
    three c x false at = at

pub cores-filter : (test : Record → Bool) (cs : List Record) → CoresKeep cs (filter test cs)
cores-filter test cs d h = inr (d, (In-kept test cs d h).0, refl, refl, λ x at. at)

pub sides-filter : (test : RecordSide → Bool) (rs : List RecordSide) → SidesKeep rs (filter test rs)
sides-filter test rs s h = inr (s, (In-kept test rs s h).0, refl, refl, λ q at. at)

pub cores-added : (behind : ℕ) (s : RecordState) (cs : List Record) → CoresKeep cs (take behind cs ++ new_record s ∷ drop behind cs)
cores-added behind s cs d h = elim (In-parts (take behind cs) (new_record s ∷ drop behind cs) d h) [
  | inl before ↦ inr (d, (before.0, At-take behind cs before.0 d before.1), refl, refl, λ x at. at)
  | inr later ↦ go later.0 later.1
]
  where
    go : (k : ℕ) → At (new_record s ∷ drop behind cs) k d → CoreWas cs d
    go zero at = (let is : new_record s ≡ d = some_is (new_record s) d at in inl (ap (λ (z : Record). z.busy) (sym is), λ x in_it. none_at in_it.0 x (subst (λ (z : Record). At z.waiting in_it.0 x) (sym is) in_it.1)))
    go (suc k) at = inr (d, In-drop behind cs d (k, at), refl, refl, λ x at. at)

pub sides-added : (number behind : ℕ) (s : RecordState) (rs : List RecordSide) → SidesKeep rs (take behind rs ++ record_begun number s ∷ drop behind rs)
sides-added number behind s rs d h = elim (In-parts (take behind rs) (record_begun number s ∷ drop behind rs) d h) [
  | inl before ↦ inr (d, (before.0, At-take behind rs before.0 d before.1), refl, refl, λ x at. at)
  | inr later ↦ go later.0 later.1
]
  where
    go : (k : ℕ) → At (record_begun number s ∷ drop behind rs) k d → SideWas rs d
    go zero at = (let is : record_begun number s ≡ d = some_is (record_begun number s) d at in inl (ap (λ (z : RecordSide). z.busy) (sym is), λ x in_it. none_at in_it.0 x (subst (λ (z : RecordSide). At z.waiting in_it.0 x) (sym is) in_it.1)))
    go (suc k) at = inr (d, In-drop behind rs d (k, at), refl, refl, λ x at. at)

-- ---- side by side

pub core-at : (f : Record → RecordSide → RecordSide) (cs : List Record) (rs : List RecordSide) (k : ℕ) (z : RecordSide) → At (with_core f cs rs) k z → (c : Record) × (r : RecordSide) × At cs k c × At rs k r × (z ≡ f c r)
core-at f [] [] k z at = absurd (none_at k z at)
core-at f [] (r ∷ rs) k z at = absurd (none_at k z at)
core-at f (c ∷ cs) [] k z at = absurd (none_at k z at)
core-at f (c ∷ cs) (r ∷ rs) zero z at = (c, r, refl, refl, sym (some_is (f c r) z at))
core-at f (c ∷ cs) (r ∷ rs) (suc k) z at = core-at f cs rs k z at

-- a place that the test leaves, beside its put
pub places-at : (test : Put → Bool) (ws : List WaitingPut) (ps : List PutPlace) (q : PutPlace) → In (places_where test ws ps) q → (i : ℕ) × (x : WaitingPut) × At ws i x × At ps i q × (test x.put ≡ true)
places-at test [] [] q h = absurd (none_at h.0 q h.1)
places-at test [] (p ∷ ps) q h = absurd (none_at h.0 q h.1)
places-at test (x ∷ ws) [] q h = absurd (none_at h.0 q h.1)
places-at test (x ∷ ws) (p ∷ ps) q h = go (test x.put) refl h (λ rest. places-at test ws ps q rest)
  where
    later : ((i : ℕ) × (y : WaitingPut) × At ws i y × At ps i q × (test y.put ≡ true)) → (i : ℕ) × (y : WaitingPut) × At (x ∷ ws) i y × At (p ∷ ps) i q × (test y.put ≡ true)
    later (i, y, a, b, is) = (suc i, y, a, b, is)

    first : test x.put ≡ true → (k : ℕ) → At (p ∷ places_where test ws ps) k q → (In (places_where test ws ps) q → (i : ℕ) × (y : WaitingPut) × At ws i y × At ps i q × (test y.put ≡ true)) → (i : ℕ) × (y : WaitingPut) × At (x ∷ ws) i y × At (p ∷ ps) i q × (test y.put ≡ true)
    first is zero at more = (0, x, refl, at, is)
    first is (suc k) at more = later (more (k, at))

    go : (b : Bool) → test x.put ≡ b → In (cond b (p ∷ places_where test ws ps) (places_where test ws ps)) q → (In (places_where test ws ps) q → (i : ℕ) × (y : WaitingPut) × At ws i y × At ps i q × (test y.put ≡ true))
        → (i : ℕ) × (y : WaitingPut) × At (x ∷ ws) i y × At (p ∷ ps) i q × (test y.put ≡ true)
    go true is h more = first is h.0 h.1 more
    go false is h more = later (more h)

pub sides-core : (h : _) (sid : ℕ) (cs : List Record) (rs : List RecordSide) → SidesKeep rs (with_core (event.without_channel h sid) cs rs)
sides-core h sid cs rs z at =
    let b = core-at (event.without_channel h sid) cs rs at.0 z at.1 in
    inr (
      b.1,
      (at.0, b.3),
      ap (λ (r : RecordSide). r.name) b.4,
      ap (λ (r : RecordSide). r.busy) b.4,
      λ q in_it. (let p = places-at (λ (p : Put). not (event.is_of_channel h sid p)) b.0.waiting b.1.waiting q (subst (λ (r : RecordSide). In r.waiting q) b.4 in_it) in (p.0, p.3)),
    )

-- ---- pairs

-- From one pair of lists to the next: each put was there, beside the place where it was,
-- or it is one of these.
module _ (Own : PutPlace → Put → Type 0) where
  pub record Follows (cs ds : List Record) (rs ss : List RecordSide) : Type 0 where
    pub busy : (q : PutPlace) (b : Put) → BusyPair ds ss q b → BusyPair cs rs q b ⊎ Own q b
    pub core : (b : Put) → CoreWaits ds b → CoreWaits cs b ⊎ ((q : PutPlace) × Own q b)
    pub side : (q : PutPlace) → SideWaits ss q → SideWaits rs q ⊎ ((b : Put) × Own q b)

  pub follows-then : (cs ds es : List Record) (rs ss ts : List RecordSide) → Follows cs ds rs ss → Follows ds es ss ts → Follows cs es rs ts
  follows-then cs ds es rs ss ts f g = record {
    busy = λ q b p. elim (g.busy q b p) [ inl was ↦ f.busy q b was | inr own ↦ inr own ];
    core = λ b p. elim (g.core b p) [ inl was ↦ f.core b was | inr own ↦ inr own ];
    side = λ q p. elim (g.side q p) [ inl was ↦ f.side q was | inr own ↦ inr own ];
  }

  pub follows-keep : (cs ds : List Record) (rs ss : List RecordSide) → CoresKeep cs ds → SidesKeep rs ss → Follows cs ds rs ss
  follows-keep cs ds rs ss cores sides = record {
    busy = λ q b p. elim (cores p.c p.in_cs) [
      | inl none ↦ absurd (none-some b (sym none.0 ∙ p.core))
      | inr was ↦ elim (sides p.r p.in_rs) [
        | inl none ↦ absurd (none-some q (sym none.0 ∙ p.side))
        | inr there ↦ inl (record { c = was.0; r = there.0; in_cs = was.1; in_rs = there.1; name = sym was.2 ∙ p.name ∙ there.2; core = sym was.3 ∙ p.core; side = sym there.3 ∙ p.side })
      ]
    ];
    core = λ b p. elim (cores p.0 p.1) [
      | inl none ↦ absurd (none.1 p.2.0 p.2.1)
      | inr was ↦ inl (was.0, was.1, (p.2.0, was.4 p.2.0 p.2.1, p.2.2))
    ];
    side = λ q p. elim (sides p.0 p.1) [
      | inl none ↦ absurd (none.1 q p.2)
      | inr there ↦ inl (there.0, there.1, there.4 q p.2)
    ];
  }

  -- the record of one name changes, on both sides
  pub follows-with : (name : List ℕ) (f : Record → Record) (g : RecordSide → RecordSide) (cs : List Record) (rs : List RecordSide) → ((c : Record) → (f c).state.name ≡ c.state.name) → ((r : RecordSide) → (g r).name ≡ r.name)
      → ((c : Record) (r : RecordSide) (q : PutPlace) (b : Put) → In cs c → In rs r → c.state.name ≡ r.name → (f c).busy ≡ Some b → (g r).busy ≡ Some q → BusyPair cs rs q b ⊎ Own q b)
      → ((c : Record) (x : WaitingPut) → In cs c → In (f c).waiting x → CoreWaits cs x.put ⊎ ((q : PutPlace) × Own q x.put))
      → ((r : RecordSide) (q : PutPlace) → In rs r → In (g r).waiting q → SideWaits rs q ⊎ ((b : Put) × Own q b))
      → Follows cs (with_record name f cs) rs (event.with_record name g rs)
  follows-with name f g cs rs cnames rnames busy core side = record {
    busy = λ q b p.
        let c = In-mapped change cs p.c p.in_cs in
        let r = In-mapped turn rs p.r p.in_rs in
        let same : c.0.state.name ≡ r.0.name = sym (one c.0 (bytes_eq c.0.state.name name)) ∙ ap (λ (z : Record). z.state.name) (sym c.2) ∙ p.name ∙ ap (λ (z : RecordSide). z.name) r.2 ∙ two r.0 (bytes_eq r.0.name name) in
        pair (bytes_eq r.0.name name) c.0 r.0 q b c.1 r.1 same
        (subst (λ (t : Bool). (cond t (f c.0) c.0).busy ≡ Some b) (ap (λ (n : List ℕ). bytes_eq n name) same) (ap (λ (z : Record). z.busy) (sym c.2) ∙ p.core))
        (ap (λ (z : RecordSide). z.busy) (sym r.2) ∙ p.side);
    core = λ b p. (let c = In-mapped change cs p.0 p.1 in subst (λ (z : Put). CoreWaits cs z ⊎ ((q : PutPlace) × Own q z)) p.2.2 (left (bytes_eq c.0.state.name name) c.0 p.2.0 c.1 (subst (λ (z : Record). In z.waiting p.2.0) c.2 p.2.1)));
    side = λ q p. (let r = In-mapped turn rs p.0 p.1 in right (bytes_eq r.0.name name) r.0 q r.1 (subst (λ (z : RecordSide). In z.waiting q) r.2 p.2));
  }
    where
      change : Record → Record
      change c = cond (bytes_eq c.state.name name) (f c) c

      turn : RecordSide → RecordSide
      turn r = cond (bytes_eq r.name name) (g r) r

      one : (c : Record) (t : Bool) → (cond t (f c) c).state.name ≡ c.state.name
      one c true = cnames c
      one c false = refl

      two : (r : RecordSide) (t : Bool) → (cond t (g r) r).name ≡ r.name
      two r true = rnames r
      two r false = refl

      pair : (t : Bool) (c : Record) (r : RecordSide) (q : PutPlace) (b : Put) → In cs c → In rs r → c.state.name ≡ r.name → (cond t (f c) c).busy ≡ Some b → (cond t (g r) r).busy ≡ Some q → BusyPair cs rs q b ⊎ Own q b
      pair true c r q b in_cs in_rs same e d = busy c r q b in_cs in_rs same e d
      pair false c r q b in_cs in_rs same e d = inl (record { c = c; r = r; in_cs = in_cs; in_rs = in_rs; name = same; core = e; side = d })

      left : (t : Bool) (c : Record) (x : WaitingPut) → In cs c → In (cond t (f c) c).waiting x → CoreWaits cs x.put ⊎ ((q : PutPlace) × Own q x.put)
      left true c x in_cs h = core c x in_cs h
      left false c x in_cs h = inl (c, in_cs, (x, h, refl))

      right : (t : Bool) (r : RecordSide) (q : PutPlace) → In rs r → In (cond t (g r) r).waiting q → SideWaits rs q ⊎ ((b : Put) × Own q b)
      right true r q in_rs h = side r q in_rs h
      right false r q in_rs h = inl (r, in_rs, h)
