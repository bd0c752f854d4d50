-- Records are removed and added, and a server's life begins.
use Rattle.std.proofs.Common.{◌≡◌, ℕ, zero, suc, ◌+◌, ◌<◌, inl, inr, Bool, true, false, cond, not, List, [], ◌∷◌, ◌++◌, length, take, drop, refl, sym, ap, subst, ◌∙◌, append-nil, arith}
use Rattle.std.specs.Prelude.{filter, map}
use Rattle.std.specs.List.{flat_map}
use Rattle.std.specs.Str.{bytes_eq}
use Rattle.ca_text.specs.Place.{At}
use Rattle.ca_text.proofs.Places.{some_is, At-append, At-one, At-snoc}
use Rattle.ca_dbr.specs.Elements.{Elements}
use Rattle.ca_records.specs.declared.puts.Put.{Put}
use Rattle.ca_records.specs.Puts.{Record, new_record, removed}
use Rattle.ca_records.specs.Record.{RecordState}
use Rattle.ca_model.specs.Speech.{In}
use Rattle.ca_model.specs.History.{Circuit, Entry, Added, Applied, Removed, Waits, Withdrawn}
use Rattle.ca_model.specs.ServerEvents.{removal_entries}
use Rattle.ca_model.specs.World.{PutPlace, RecordSide, numbered, record_begun}
use Rattle.ca_laws_parts.specs.Both.{Both}
use Rattle.ca_laws_parts.specs.Agrees.{Agree, Agrees, AreOthers, IsOf, Lack}
use Rattle.ca_laws_parts.proofs.WritesLists.{In-last, In-snoc, length-more, beside-right, both-all, both-filter, both-snoc, none_at}
use Rattle.ca_laws_parts.proofs.Once.{once-begins, once-told}
use Rattle.ca_laws_parts.proofs.Records.{agrees-new, agrees-spared, append-one, withdrawing}
use Rattle.ca_laws_parts.proofs.WritesLives.{below-all, bytes-other, bytes-same, others-apart, waits-there}
use Rattle.ca_laws_parts.proofs.WritesFinishes.{waits-one}
use Rattle.ca_laws_parts.proofs.Leaving.{had-waited, numbers-withdrawn, once-withdrawn}

-- ---- removals

-- none of these has the name
none-named : (name : List ℕ) (number : ℕ) (rs : List RecordSide) → Lack name number rs → filter (λ (r : RecordSide). bytes_eq r.name name) rs ≡ []
none-named name number [] lack = refl
none-named name number (r ∷ rs) lack =
    ap (λ (b : Bool). cond b (r ∷ filter (λ (q : RecordSide). bytes_eq q.name name) rs) (filter (λ (q : RecordSide). bytes_eq q.name name) rs)) (bytes-other r.name name lack.0.0)
    ∙ none-named name number rs lack.1

-- one of them has it
one-named : (rs : List RecordSide) (i : ℕ) (r : RecordSide) → AreOthers rs → At rs i r → filter (λ (q : RecordSide). bytes_eq q.name r.name) rs ≡ r ∷ []
one-named [] i r others at = absurd (none_at i r at)
one-named (x ∷ rs) zero r others at =
    subst (λ (z : RecordSide). filter (λ (q : RecordSide). bytes_eq q.name z.name) (x ∷ rs) ≡ z ∷ []) (some_is x r at)
    (ap (λ (b : Bool). cond b (x ∷ filter (λ (q : RecordSide). bytes_eq q.name x.name) rs) (filter (λ (q : RecordSide). bytes_eq q.name x.name) rs)) (bytes-same x.name)
    ∙ ap (λ (l : List RecordSide). x ∷ l) (none-named x.name x.number rs others.0))
one-named (x ∷ rs) (suc i) r others at =
    let other : x.name ≡ r.name → ⊥ = λ e. elim (others-apart (x ∷ rs) (suc i) 0 r x others at refl) [
      | inl same ↦ (let z : suc i ≡ 0 = same in absurd (omega (arith, z)))
      | inr apart ↦ apart.0 e
    ] in
    ap (λ (b : Bool). cond b (x ∷ filter (λ (q : RecordSide). bytes_eq q.name r.name) rs) (filter (λ (q : RecordSide). bytes_eq q.name r.name) rs)) (bytes-other x.name r.name other)
    ∙ one-named rs i r others.1 at

pub removal-is : (rs : List RecordSide) (i : ℕ) (r : RecordSide) → AreOthers rs → At rs i r → removal_entries r.name rs ≡ Removed r.number ∷ withdrawing r.waiting
removal-is rs i r others at =
    ap (λ (l : List RecordSide). flat_map (λ (q : RecordSide). Removed q.number ∷ withdrawing q.waiting) l) (one-named rs i r others at)
    ∙ ap (λ (l : List Entry). Removed r.number ∷ l) (append-nil (withdrawing r.waiting))

lack-kept : (name : List ℕ) (number : ℕ) (t : RecordSide → Bool) (rs : List RecordSide) → Lack name number rs → Lack name number (filter t rs)
lack-kept name number t [] lack = tt
lack-kept name number t (r ∷ rs) lack = go (t r) (lack-kept name number t rs lack.1)
  where
    go : (b : Bool) → Lack name number (filter t rs) → Lack name number (cond b (r ∷ filter t rs) (filter t rs))
    go true rest = (lack.0, rest)
    go false rest = rest

others-kept : (t : RecordSide → Bool) (rs : List RecordSide) → AreOthers rs → AreOthers (filter t rs)
others-kept t [] others = tt
others-kept t (r ∷ rs) others = go (t r) (others-kept t rs others.1)
  where
    go : (b : Bool) → AreOthers (filter t rs) → AreOthers (cond b (r ∷ filter t rs) (filter t rs))
    go true rest = (lack-kept r.name r.number t rs others.0, rest)
    go false rest = rest

module _ (Is : PutPlace → Put → Type 0) where
  -- another record's puts are not withdrawn
  spared-withdrawing : (y : List Entry) (c : Record) (r : RecordSide) (ws : List PutPlace) → ((p : PutPlace) → In ws p → In r.waiting p → ⊥) → Agrees Is y c r → Agrees Is (y ++ withdrawing ws) c r
  spared-withdrawing y c r [] apart a = subst (λ (l : List Entry). Agrees Is l c r) (sym (append-nil y)) a
  spared-withdrawing y c r (w ∷ ws) apart a =
      let e : Entry = Withdrawn w.circuit w.place in
      subst (λ (l : List Entry). Agrees Is l c r) (append-one y e (withdrawing ws))
      (spared-withdrawing (y ++ e ∷ []) c r ws (λ p h. apart p (suc h.0, h.1)) (agrees-spared Is y c r e (apart w (0, refl)) a))

module _ (Came : (Circuit → (k i : ℕ) → Type 0) → PutPlace → (i : ℕ) → Elements → Type 0) (Lost : PutPlace → (i : ℕ) → Type 0) (Is : PutPlace → Put → Type 0) where
  -- A record is removed, and the puts that wait for it are withdrawn.
  pub agree-removed : (y : List Entry) (cs : List Record) (rs : List RecordSide) (n i : ℕ) (r : RecordSide) → At rs i r → Agree Came Lost Is y cs rs n → Agree Came Lost Is (y ++ removal_entries r.name rs) (removed r.name cs) (filter (λ (q : RecordSide). not (bytes_eq q.name r.name)) rs) n
  agree-removed y cs rs n i r in_rs a =
      let gone : Entry = Removed r.number in
      let there = beside-right (Agrees Is y) cs rs i r a.each in_rs in
      let more : List Entry = y ++ gone ∷ [] in
      let all : List Entry = more ++ withdrawing r.waiting in
      let same : all ≡ y ++ removal_entries r.name rs = append-one y gone (withdrawing r.waiting) ∙ ap (λ (l : List Entry). y ++ l) (sym (removal-is rs i r a.others in_rs)) in
      subst (λ (l : List Entry). Agree Came Lost Is l (removed r.name cs) (filter (λ (q : RecordSide). not (bytes_eq q.name r.name)) rs) n) same (record {
        once = once-withdrawn Came Lost more r.waiting (λ w h applied. (let s = waits-there Is y there.0 r w there.2 h in elim (In-snoc y gone (Applied w.circuit w.place applied.0 applied.1 applied.2) applied.3) [
          | inl old ↦ s.1.unapplied (applied.0, applied.1, applied.2, old)
          | inr new ↦ (let x : Applied w.circuit w.place applied.0 applied.1 applied.2 ≡ Removed r.number = new in cc)
        ])) (λ w h. (let s = waits-there Is y there.0 r w there.2 h in let len : length more ≡ length y + 1 = length-more y gone in let b = had-waited y w r.number s.0.value s.1 in (
          r.number,
          s.0.value,
          (b.0, b.1, (let lt : b.0 < length y = b.2 in omega (arith, lt, len)), At-append y (gone ∷ []) b.0 (Waits w.circuit w.place r.number b.1) b.3, b.4),
          inl (In-last y gone),
        ))) (once-told Came Lost y gone a.once tt);
        each = both-filter (Agrees Is y) (Agrees Is all) (λ (c : Record). not (bytes_eq c.state.name r.name)) (λ (q : RecordSide). not (bytes_eq q.name r.name)) cs rs a.each
            (λ j c q in_cs at g. ap (λ (nm : List ℕ). not (bytes_eq nm r.name)) g.name)
            (λ j c q in_cs at g stays. elim (others-apart rs i j r q a.others in_rs at) [
              | inl one ↦
                  let is : r ≡ q = At-one rs j r q (subst (λ (k : ℕ). At rs k r) one in_rs) at in
                  let hit : bytes_eq c.state.name r.name ≡ true = ap (λ (nm : List ℕ). bytes_eq nm r.name) (g.name ∙ ap (λ (z : RecordSide). z.name) (sym is)) ∙ bytes-same r.name in
                  absurd (let f : not true ≡ true = ap (λ (b : Bool). not b) (sym hit) ∙ stays in cc)
              | inr other ↦
                  spared-withdrawing Is more c q r.waiting
                  (λ p mine too. other.1 (let s = waits-there Is y c q p g too in let t = waits-there Is y there.0 r p there.2 mine in waits-one Came Lost y q.number r.number p s.0.value t.0.value a.once s.1 t.1))
                  (agrees-spared Is y c q gone other.1 g)
            ]);
        others = others-kept (λ (q : RecordSide). not (bytes_eq q.name r.name)) rs a.others;
        numbers = numbers-withdrawn more r.waiting n (λ k e h of_it. elim (In-snoc y gone e h) [
          | inl old ↦ a.numbers k e old of_it
          | inr new ↦ below-all Came Lost Is y cs rs n i r k in_rs a (subst (λ (z : Entry). IsOf k z) new of_it)
        ]);
      })

-- ---- additions

-- no record here has this name, or this number or a later one
lack-more : (name : List ℕ) (number : ℕ) (rs : List RecordSide) (r : RecordSide) (k : ℕ) → (r.name ≡ name → ⊥) → (r.number ≡ number → ⊥) → Lack name number rs → Lack name number (take k rs ++ r ∷ drop k rs)
lack-more name number rs r zero a b lack = ((a, b), lack)
lack-more name number [] r (suc k) a b lack = ((a, b), tt)
lack-more name number (q ∷ rs) r (suc k) a b lack = (lack.0, lack-more name number rs r k a b lack.1)

others-more : (rs : List RecordSide) (r : RecordSide) (k : ℕ) → Lack r.name r.number rs → AreOthers rs → AreOthers (take k rs ++ r ∷ drop k rs)
others-more rs r zero lack others = (lack, others)
others-more [] r (suc k) lack others = (tt, tt)
others-more (q ∷ rs) r (suc k) lack others =
    (lack-more q.name q.number rs r k (λ e. lack.0.0 (sym e)) (λ e. lack.0.1 (sym e)) others.0, others-more rs r k lack.1 others.1)

both-more : {A B : Type 0} (Q : A → B → Type 0) (xs : List A) (ys : List B) (x : A) (y : B) (k : ℕ) → Both Q xs ys → Q x y → Both Q (take k xs ++ x ∷ drop k xs) (take k ys ++ y ∷ drop k ys)
both-more Q xs ys x y zero both q = (q, both)
both-more Q [] [] x y (suc k) both q = (q, tt)
both-more Q [] (b ∷ ys) x y (suc k) both q = absurd both
both-more Q (a ∷ xs) [] x y (suc k) both q = absurd both
both-more Q (a ∷ xs) (b ∷ ys) x y (suc k) both q = (both.0, both-more Q xs ys x y k both.1 q)

pub lack-of : (name : List ℕ) (number : ℕ) (rs : List RecordSide) → ((i : ℕ) (r : RecordSide) → At rs i r → (r.name ≡ name → ⊥) × (r.number ≡ number → ⊥)) → Lack name number rs
lack-of name number [] h = tt
lack-of name number (r ∷ rs) h = (h 0 r refl, lack-of name number rs (λ i q at. h (suc i) q at))

module _ (Came : (Circuit → (k i : ℕ) → Type 0) → PutPlace → (i : ℕ) → Elements → Type 0) (Lost : PutPlace → (i : ℕ) → Type 0) (Is : PutPlace → Put → Type 0) where
  -- what was there agrees with the log in which a record was added
  still-agree : (y : List Entry) (cs : List Record) (rs : List RecordSide) (n : ℕ) (s : RecordState) → Agree Came Lost Is y cs rs n → Both (Agrees Is (y ++ Added n s ∷ [])) cs rs
  still-agree y cs rs n s a =
      both-all (Agrees Is y) (Agrees Is (y ++ Added n s ∷ [])) cs rs a.each
      (λ i c r in_cs in_rs g. agrees-spared Is y c r (Added n s) (λ is. (let lt : r.number < n = below-all Came Lost Is y cs rs n i r r.number in_rs a refl in omega (arith, lt, is))) g)

  new-agrees : (y : List Entry) (cs : List Record) (rs : List RecordSide) (n : ℕ) (s : RecordState) → Agree Came Lost Is y cs rs n → Agrees Is (y ++ Added n s ∷ []) (new_record s) (record_begun n s)
  new-agrees y cs rs n s a = agrees-new Is y n s (λ e h of_it. (let lt : n < n = a.numbers n e h of_it in omega (arith, lt)))

  lack-new : (y : List Entry) (cs : List Record) (rs : List RecordSide) (n : ℕ) (name : List ℕ) → ((i : ℕ) (r : RecordSide) → At rs i r → r.name ≡ name → ⊥) → Agree Came Lost Is y cs rs n → Lack name n rs
  lack-new y cs rs n name none a =
      lack-of name n rs (λ i r at. (none i r at, λ is. (let lt : r.number < n = below-all Came Lost Is y cs rs n i r r.number at a refl in omega (arith, lt, is))))

  numbers-new : (y : List Entry) (n : ℕ) (s : RecordState) → ((i : ℕ) (e : Entry) → In y e → IsOf i e → i < n) → (i : ℕ) (e : Entry) → In (y ++ Added n s ∷ []) e → IsOf i e → i < n + 1
  numbers-new y n s below i e h of_it = elim (In-snoc y (Added n s) e h) [
    | inl old ↦ (let lt : i < n = below i e old of_it in omega (arith, lt))
    | inr new ↦ (let is : n ≡ i = subst (λ (z : Entry). IsOf i z) new of_it in omega (arith, is))
  ]

  -- A record is added after n others.
  pub agree-added : (y : List Entry) (cs : List Record) (rs : List RecordSide) (n : ℕ) (s : RecordState) (behind : ℕ) → ((i : ℕ) (r : RecordSide) → At rs i r → r.name ≡ s.name → ⊥) → Agree Came Lost Is y cs rs n → Agree Came Lost Is (y ++ Added n s ∷ []) (take behind cs ++ new_record s ∷ drop behind cs) (take behind rs ++ record_begun n s ∷ drop behind rs) (n + 1)
  agree-added y cs rs n s behind none a = record {
    once = once-told Came Lost y (Added n s) a.once tt;
    each = both-more (Agrees Is (y ++ Added n s ∷ [])) cs rs (new_record s) (record_begun n s) behind (still-agree y cs rs n s a) (new-agrees y cs rs n s a);
    others = others-more rs (record_begun n s) behind (lack-new y cs rs n s.name none a) a.others;
    numbers = numbers-new y n s a.numbers;
  }

  -- and after all others
  agree-added-last : (y : List Entry) (cs : List Record) (rs : List RecordSide) (n : ℕ) (s : RecordState) → ((i : ℕ) (r : RecordSide) → At rs i r → r.name ≡ s.name → ⊥) → Agree Came Lost Is y cs rs n → Agree Came Lost Is (y ++ Added n s ∷ []) (cs ++ new_record s ∷ []) (rs ++ record_begun n s ∷ []) (n + 1)
  agree-added-last y cs rs n s none a = record {
    once = once-told Came Lost y (Added n s) a.once tt;
    each = both-snoc (Agrees Is (y ++ Added n s ∷ [])) cs rs (new_record s) (record_begun n s) (still-agree y cs rs n s a) (new-agrees y cs rs n s a);
    others = others-snoc rs (lack-new y cs rs n s.name none a) a.others;
    numbers = numbers-new y n s a.numbers;
  }
    where
      lack-snoc : (name : List ℕ) (number : ℕ) (qs : List RecordSide) (r : RecordSide) → (r.name ≡ name → ⊥) → (r.number ≡ number → ⊥) → Lack name number qs → Lack name number (qs ++ r ∷ [])
      lack-snoc name number [] r u v lack = ((u, v), tt)
      lack-snoc name number (q ∷ qs) r u v lack = (lack.0, lack-snoc name number qs r u v lack.1)

      others-snoc : (qs : List RecordSide) → Lack s.name n qs → AreOthers qs → AreOthers (qs ++ record_begun n s ∷ [])
      others-snoc [] lack others = (tt, tt)
      others-snoc (q ∷ qs) lack others =
          (lack-snoc q.name q.number qs (record_begun n s) (λ e. lack.0.0 (sym e)) (λ e. lack.0.1 (sym e)) others.0, others-snoc qs lack.1 others.1)

  -- ---- a life begins

  agree-more : (y : List Entry) (cs : List Record) (rs : List RecordSide) (n : ℕ) (ss : List RecordState) → ((i j : ℕ) (r : RecordSide) (s : RecordState) → At rs i r → At ss j s → r.name ≡ s.name → ⊥) → ((i j : ℕ) (r s : RecordState) → At ss i r → At ss j s → r.name ≡ s.name → i ≡ j) → Agree Came Lost Is y cs rs n → Agree Came Lost Is (y ++ numbered n Added ss) (cs ++ map new_record ss) (rs ++ numbered n record_begun ss) (n + length ss)
  agree-more y cs rs n [] none apart a =
      subst (λ (l : List Entry). Agree Came Lost Is l (cs ++ []) (rs ++ []) (n + 0)) (sym (append-nil y))
      (subst (λ (l : List Record). Agree Came Lost Is y l (rs ++ []) (n + 0)) (sym (append-nil cs))
      (subst (λ (l : List RecordSide). Agree Came Lost Is y cs l (n + 0)) (sym (append-nil rs))
      (let z : n + 0 ≡ n = omega arith in rw z a)))
  agree-more y cs rs n (s ∷ ss) none apart a =
      let one = agree-added-last y cs rs n s (λ i r at e. none i 0 r s at refl e) a in
      let rest = agree-more (y ++ Added n s ∷ []) (cs ++ new_record s ∷ []) (rs ++ record_begun n s ∷ []) (n + 1) ss
      (λ i j r q at there e. elim (At-snoc rs (record_begun n s) i r at) [
        | inl old ↦ none i (suc j) r q old there e
        | inr new ↦ (let k : 0 ≡ suc j = apart 0 (suc j) s q refl there (ap (λ (z : RecordSide). z.name) (sym new.1) ∙ e) in omega (arith, k))
      ])
      (λ i j r q at there e. (let k : suc i ≡ suc j = apart (suc i) (suc j) r q at there e in omega (arith, k)))
      one in
      let len : n + 1 + length ss ≡ n + suc (length ss) = omega arith in
      subst (λ (m : ℕ). Agree Came Lost Is (y ++ numbered n Added (s ∷ ss)) (cs ++ map new_record (s ∷ ss)) (rs ++ numbered n record_begun (s ∷ ss)) m) len
      (subst (λ (l : List Entry). Agree Came Lost Is l (cs ++ map new_record (s ∷ ss)) (rs ++ numbered n record_begun (s ∷ ss)) (n + 1 + length ss)) (append-one y (Added n s) (numbered (n + 1) Added ss))
      (subst (λ (l : List Record). Agree Came Lost Is ((y ++ Added n s ∷ []) ++ numbered (n + 1) Added ss) l (rs ++ numbered n record_begun (s ∷ ss)) (n + 1 + length ss)) (append-one cs (new_record s) (map new_record ss))
      (subst (λ (l : List RecordSide). Agree Came Lost Is ((y ++ Added n s ∷ []) ++ numbered (n + 1) Added ss) ((cs ++ new_record s ∷ []) ++ map new_record ss) l (n + 1 + length ss)) (append-one rs (record_begun n s) (numbered (n + 1) record_begun ss)) rest)))

  -- A life begins with records of different names.
  pub agree-begun : (ss : List RecordState) → ((i j : ℕ) (r s : RecordState) → At ss i r → At ss j s → r.name ≡ s.name → i ≡ j) → Agree Came Lost Is (numbered 0 Added ss) (map new_record ss) (numbered 0 record_begun ss) (length ss)
  agree-begun ss apart =
      let none : Agree Came Lost Is [] [] [] 0 = record { once = once-begins Came Lost; each = tt; others = tt; numbers = λ r e h of_it. absurd (none_at h.0 e h.1) } in
      let z : 0 + length ss ≡ length ss = omega arith in
      subst (λ (m : ℕ). Agree Came Lost Is (numbered 0 Added ss) (map new_record ss) (numbered 0 record_begun ss) m) z
      (agree-more [] [] [] 0 ss (λ i j r s at there e. none_at i r at) apart none)
