-- The requests of each circuit and of each channel, as the table and the lines change.
use Rattle.std.proofs.Common.{◌≡◌, ◌≢◌, ◌⊎◌, ◌<◌, slice_index_or, slice_set, ℕ, zero, suc, ◌==◌, ◌&&◌, inl, inr, Bool, true, false, List, [], ◌∷◌, ◌++◌, length, map, Option, Some, None, Ok, option_map, if◌then◌else◌, refl, sym, ap, ◌∙◌, subst, filter, arith, length-append}
use Rattle.std.proofs.lemmas.Bool.{cases_eq, cases_lt, eq-eqb, eqb-true, ne_eqb}
use Rattle.std.proofs.lemmas.List.{append-nil, get_or-set_other, get_or-set_same, get_or_append_left, get_or_past, get_or_push}
use Rattle.std.proofs.lemmas.List.Elements.{filter-append}
use Rattle.std.proofs.lemmas.Option.{get_or_from_slice_get, slice_get-get_or}
use Rattle.ca_arena.specs.declared.handle.Handle.{Handle}
use Rattle.ca_arena.specs.Arena.{Place, place_at, value_for}
use Rattle.ca_text.specs.Place.{At}
use Rattle.ca_text.proofs.Places.{At-append, At-last, some_is}
use Rattle.ca_ids.specs.Table.{MayGive, Table, kept_of, same_handle, under, with_freed, with_held}
use Rattle.ca_ids.specs.Holding.{Fills}
use Rattle.ca_requests.specs.Calls.{Issued, MayIssue}
use Rattle.ca_requests.specs.Layout.{AreGiven, issued_of}
use Rattle.ca_requests.specs.Lines.{AreAllListed, AreLines, AreOf, AreRequests, Hands, IsAt, RequestList, MayBeOf, Notes, Readies, ReadyAll, belongs, channel_of, circuit_of, handed_to, line_at, no_line, room_beside, told_of}
use Rattle.ca_requests.specs.Requests.{Draining, Open, Request, Stage, asks_on, in_order_of_issue, is_open, is_open_in, over_on, was_sent_on}
use Rattle.ca_requests.proofs.Orders.{filter-narrow, given-filter, given-grows, given-push}
use Rattle.ca_requests.proofs.Tables.{Dims, Grows, Keeps, Stays, any, by_value, dims-freed, dims-over, first_of, given-new, grows-freed, grows-held, grows-map, keeps-freed, keeps-map, none-freed, none-over, opens, opens-any, place-beside, place-held, second_of, stays-freed, stays-over, true_or_false, under-beside, under-held}

-- ---- handles

pub one-handle : (a b : Handle) → same_handle a b ≡ true → a ≡ b
one-handle a b same =
    let i : a.index ≡ b.index = eqb-true _ _ (first_of (a.index == b.index) (a.generation == b.generation) same) in
    let g : a.generation ≡ b.generation = eqb-true _ _ (second_of (a.index == b.index) (a.generation == b.generation) same) in
    ap (λ (n : ℕ). let h : Handle = record { index = n; generation = a.generation } in h) i
    ∙ ap (λ (n : ℕ). let h : Handle = record { index = b.index; generation = n } in h) g

pub same-itself : (a : Handle) → same_handle a a ≡ true
same-itself a = rw (eq-eqb a.index a.index refl, eq-eqb a.generation a.generation refl) refl

pub other-index : (a b : Handle) → a.index ≢ b.index → same_handle a b ≡ false
other-index a b other = ap (λ (x : Bool). x && a.generation == b.generation) (ne_eqb a.index b.index other)

-- what is open once a request is issued is that one, or was open
held-parted : (t : Table Request) (q : Handle) (r : Request) (h : Handle) → MayGive t q → is_open any (with_held q r t) h ≡ true → (h ≡ q) ⊎ (is_open any t h ≡ true)
held-parted t q r h may opened =
    elim (cases_eq h.index q.index) [
      | inl here ↦
          let place : Place Request = record { generation = q.generation; value = Some r } in
          let there : place_at (with_held q r t) h.index ≡ place = ap (place_at (with_held q r t)) here ∙ place-held t q r may in
          by_test here (q.generation == h.generation) refl (ap (λ (p : Place Request). opens any (value_for h.generation p)) (sym there) ∙ opened)
      | inr other ↦ inr (ap (λ (p : Place Request). opens any (value_for h.generation p)) (sym (place-beside t q r h.index may other)) ∙ opened)
    ]
  where
    by_test : h.index ≡ q.index → (b : Bool) → (q.generation == h.generation) ≡ b → opens any (if b then Some r else None) ≡ true → (h ≡ q) ⊎ (is_open any t h ≡ true)
    by_test here true same h' = inl (sym (one-handle q h (rw (eq-eqb q.index h.index (sym here), same) refl)))
    by_test here false other h' =
        let bad : false ≡ true = h' in
        absurd cc

-- what is listed and passes a test is in the list of those that do, and each there passes it
pub at-filter : (p : Handle → Bool) (xs : List Handle) (n : ℕ) (q : Handle) → At xs n q → p q ≡ true → (m : ℕ) × At (filter p xs) m q
at-filter p [] n q at passes = absurd cc
at-filter p (x ∷ xs) zero q at passes =
    let same : x ≡ q = some_is x q at in
    let here : p x ≡ true = ap p same ∙ passes in
    rw here (0, at)
at-filter p (x ∷ xs) (suc n) q at passes =
    let rest = at-filter p xs n q at passes in
    elim (true_or_false (p x)) [ inl first ↦ rw first (suc rest.0, rest.1) | inr fails ↦ rw fails rest ]

pub filter-at : (p : Handle → Bool) (xs : List Handle) (n : ℕ) (q : Handle) → At (filter p xs) n q → p q ≡ true
filter-at p [] n q at = absurd cc
filter-at p (x ∷ xs) n q at = by_test (p x) refl n at (λ m there. filter-at p xs m q there)
  where
    by_test : (b : Bool) → p x ≡ b → (m : ℕ) → At (if b then x ∷ filter p xs else filter p xs) m q → ((k : ℕ) → At (filter p xs) k q → p q ≡ true) → p q ≡ true
    by_test true first zero here rest = ap p (sym (some_is x q here)) ∙ first
    by_test true first (suc m) there rest = rest m there
    by_test false fails m there rest = rest m there

-- ---- a line loses some that are over

filtered-same : (t : Table Request) (xs : List Handle) (which : Request → Bool) → in_order_of_issue which t (filter (is_open any t) xs) ≡ in_order_of_issue which t xs
filtered-same t xs which = filter-narrow (is_open which t) (is_open any t) xs (λ q h. opens-any which (under t q) h)

module _ (whose : Request → Handle) where
  of-filter : (t : Table Request) (c : Handle) (p : Handle → Bool) (xs : List Handle) → AreOf whose t c xs → AreOf whose t c (filter p xs)
  of-filter t c p [] all = tt
  of-filter t c p (q ∷ xs) all =
      let rest = of-filter t c p xs all.1 in
      elim (true_or_false (p q)) [ inl passes ↦ rw passes (all.0, rest) | inr fails ↦ rw fails rest ]

-- the line of this owner with these requests, and room for that many
abbrev pub line : Handle → List Handle → ℕ → RequestList
line c xs n = record { owner = c; handles = xs; room = n }

pub readies-same : (t : Table Request) (l : RequestList) → Readies t l l
readies-same t l = record { same = λ which. refl; given = λ h. h; owned = λ h. h; also = λ h. h; placed = λ i h. h }

pub readies-filtered : (t : Table Request) (c : Handle) (xs ys : List Handle) (m n : ℕ) → ys ≡ filter (is_open any t) xs → Readies t (line c xs m) (line c ys n)
readies-filtered t c xs ys m n is = record {
  same = λ which. ap (in_order_of_issue which t) is ∙ filtered-same t xs which;
  given = λ h. subst (λ (zs : List Handle). AreGiven t zs) (sym is) (given-filter t (is_open any t) xs h);
  owned = λ h. subst (λ (zs : List Handle). AreOf circuit_of t c zs) (sym is) (of-filter circuit_of t c (is_open any t) xs h);
  also = λ h. subst (λ (zs : List Handle). AreOf channel_of t c zs) (sym is) (of-filter channel_of t c (is_open any t) xs h);
  placed = λ i h. elim h [ inl none ↦ inl (is ∙ ap (filter (is_open any t)) none) | inr at ↦ inr at ];
}

pub readies-emptied : (t : Table Request) (c d : Handle) (xs ys : List Handle) (m n : ℕ) → ys ≡ filter (is_open any t) xs → ys ≡ [] → Readies t (line c xs m) (line d ys n)
readies-emptied t c d xs ys m n is none = record {
  same = λ which. ap (in_order_of_issue which t) is ∙ filtered-same t xs which;
  given = λ h. subst (λ (zs : List Handle). AreGiven t zs) (sym none) tt;
  owned = λ h. subst (λ (zs : List Handle). AreOf circuit_of t d zs) (sym none) tt;
  also = λ h. subst (λ (zs : List Handle). AreOf channel_of t d zs) (sym none) tt;
  placed = λ i h. inl none;
}

-- the last one is over, and goes
is-closed : (t : Table Request) (h : Handle) (which : Request → Bool) → is_open any t h ≡ false → is_open which t h ≡ false
is-closed t h which closed = elim (true_or_false (is_open which t h)) [
  | inl opened ↦
      let bad : false ≡ true = sym closed ∙ opens-any which (under t h) opened in
      absurd cc
  | inr fails ↦ fails
]

given-front : (t : Table Request) (xs : List Handle) (h : Handle) → AreGiven t (xs ++ h ∷ []) → AreGiven t xs
given-front t [] h given = tt
given-front t (x ∷ xs) h given = (given.0, given-front t xs h given.1)

of-front : (whose : Request → Handle) (t : Table Request) (c : Handle) (xs : List Handle) (h : Handle) → AreOf whose t c (xs ++ h ∷ []) → AreOf whose t c xs
of-front whose t c [] h all = tt
of-front whose t c (x ∷ xs) h all = (all.0, of-front whose t c xs h all.1)

not-empty : (xs : List Handle) (h : Handle) → xs ++ h ∷ [] ≡ [] → xs ≡ []
not-empty [] h none = refl
not-empty (x ∷ xs) h none = absurd cc

pub readies-shorter : (t : Table Request) (c : Handle) (xs : List Handle) (h : Handle) (m n : ℕ) → is_open any t h ≡ false → Readies t (line c (xs ++ h ∷ []) m) (line c xs n)
readies-shorter t c xs h m n closed = record {
  same = λ which.
      let p = is_open which t in
      let none : filter p (h ∷ []) ≡ [] = (let no = is-closed t h which closed in rw no refl) in
      sym (filter-append p xs (h ∷ []) ∙ ap (λ (ys : List Handle). filter p xs ++ ys) none ∙ append-nil (filter p xs));
  given = λ all. given-front t xs h all;
  owned = λ all. of-front circuit_of t c xs h all;
  also = λ all. of-front channel_of t c xs h all;
  placed = λ i here. elim here [ inl none ↦ inl (not-empty xs h none) | inr at ↦ inr at ];
}

-- no room is beside one that is there
pub alone : (o : Option Handle) (n : ℕ) → 0 < room_beside o n → o ≡ None
alone None n room = refl
alone (Some h) n room = absurd (omega (arith, room))

pub empty-of : (xs : List Handle) → length xs ≡ 0 → xs ≡ []
empty-of [] none = refl
empty-of (x ∷ xs) none = absurd (omega (arith, none))

pub readies-on : (t : Table Request) (a b c : RequestList) → Readies t a b → Readies t b c → Readies t a c
readies-on t a b c first next = record {
  same = λ which. next.same which ∙ first.same which;
  given = λ h. next.given (first.given h);
  owned = λ h. next.owned (first.owned h);
  also = λ h. next.also (first.also h);
  placed = λ i h. next.placed i (first.placed i h);
}

-- a line that has more room
pub readies-alike : (t : Table Request) (a b d : RequestList) → Readies t a b → d.owner ≡ b.owner → d.handles ≡ b.handles → Readies t a d
readies-alike t a b d r owner handles = record {
  same = λ which. ap (in_order_of_issue which t) handles ∙ r.same which;
  given = λ h. subst (λ (ys : List Handle). AreGiven t ys) (sym handles) (r.given h);
  owned = λ h. subst (λ (c : Handle). AreOf circuit_of t c d.handles) (sym owner) (subst (λ (ys : List Handle). AreOf circuit_of t b.owner ys) (sym handles) (r.owned h));
  also = λ h. subst (λ (c : Handle). AreOf channel_of t c d.handles) (sym owner) (subst (λ (ys : List Handle). AreOf channel_of t b.owner ys) (sym handles) (r.also h));
  placed = λ i h. elim (r.placed i h) [ inl none ↦ inl (handles ∙ none) | inr at ↦ inr (ap (λ (c : Handle). c.index) owner ∙ at) ];
}

-- one of the lines lost some, or came to another owner
pub readies-one : (t : Table Request) (old xs : List RequestList) (k : ℕ) (x y : RequestList) → ((i : ℕ) → line_at xs i ≡ line_at old i) → k < length xs → x ≡ slice_index_or xs k x → Readies t x y → ReadyAll t old (slice_set xs k y)
readies-one t old xs k x y same within found ready = λ i. elim (cases_eq i k) [
  | inl here ↦
      let new : line_at (slice_set xs k y) i ≡ y = ap (line_at (slice_set xs k y)) here ∙ get_or-set_same xs k y no_line within in
      let at : At xs k x = slice_get-get_or xs k x within ∙ ap (λ (l : RequestList). Some l) (sym found) in
      let was : x ≡ line_at old i = sym (get_or_from_slice_get xs k x no_line at) ∙ same k ∙ ap (line_at old) (sym here) in
      subst (λ (l : RequestList). Readies t l (line_at (slice_set xs k y) i)) was (subst (λ (l : RequestList). Readies t x l) (sym new) ready)
  | inr other ↦
      let new : line_at (slice_set xs k y) i ≡ line_at old i = get_or-set_other xs k i y no_line other ∙ same i in
      subst (λ (l : RequestList). Readies t (line_at old i) l) (sym new) (readies-same t (line_at old i))
]

-- what is open and named was
narrow : (t u : Table Request) → Keeps t u → (which : Request → Bool) (q : Handle) → is_open which u q ≡ true → is_open which t q ≡ true
narrow t u keeps which q h = subst (λ (o : Option Request). opens which o ≡ true) (keeps q (opens-any which (under u q) h)) h

order-beside : (t : Table Request) (q : Handle) (r : Request) (xs : List Handle) (which : Request → Bool) → MayGive t q → AreGiven t xs → filter (is_open which (with_held q r t)) xs ≡ filter (is_open which t) xs
order-beside t q r [] which may given = refl
order-beside t q r (h ∷ xs) which may given =
    let same : is_open which (with_held q r t) h ≡ is_open which t h = ap (opens which) (under-beside t q r h may given.0) in
    let rest : filter (is_open which (with_held q r t)) xs ≡ filter (is_open which t) xs = order-beside t q r xs which may given.1 in
    ap (λ (b : Bool). let ys : List Handle = if b then h ∷ filter (is_open which (with_held q r t)) xs else filter (is_open which (with_held q r t)) xs in ys) same
    ∙ ap (λ (ys : List Handle). let zs : List Handle = if is_open which t h then h ∷ ys else ys in zs) rest

-- what is open once a request is issued is that one, or was open
issued-all : (t : Table Request) (q : Handle) (r : Request) (listed : List Handle) → MayGive t q → AreAllListed t listed → AreAllListed (with_held q r t) (listed ++ q ∷ [])
issued-all t q r listed may all = λ h opened.
    elim (held-parted t q r h may opened) [
      | inl new ↦ (length listed, subst (λ (k : Handle). At (listed ++ q ∷ []) (length listed) k) (sym new) (At-last listed q))
      | inr was ↦ (let there = all h was in (there.0, At-append listed (q ∷ []) there.0 h there.1))
    ]

open-stage : (s : Stage) → is_open_in s ≡ true → s ≡ Open
open-stage Open h = refl
open-stage Draining h = absurd cc

none-kept : (n : Handle → Bool) (q : Handle) → n q ≡ false → filter n (q ∷ []) ≡ []
none-kept n q h = rw h refl

module _ (whose : Request → Handle) where
  lines-tidied : (t : Table Request) (listed : List Handle) (lines : List RequestList) → AreLines whose t listed lines → AreLines whose t (filter (is_open any t) listed) lines
  lines-tidied t listed lines old = record {
    same = λ c. old.same c ∙ sym (filtered-same t listed (belongs whose c));
    given = old.given;
    owned = old.owned;
    placed = old.placed;
  }

  -- ---- the table thins

  of-thins : (t u : Table Request) → Keeps t u → (c : Handle) (xs : List Handle) → AreOf whose t c xs → AreOf whose u c xs
  of-thins t u keeps c [] all = tt
  of-thins t u keeps c (q ∷ xs) all = (
    λ h. subst (λ (o : Option Request). opens (belongs whose c) o ≡ true) (sym (keeps q h)) (all.0 (narrow t u keeps any q h)),
    of-thins t u keeps c xs all.1,
  )

  lines-thin : (t u : Table Request) (listed : List Handle) (lines : List RequestList) → Keeps t u → Grows t u → AreLines whose t listed lines → AreLines whose u listed lines
  lines-thin t u listed lines keeps grows old = record {
    same = λ c.
        let p = is_open (belongs whose c) t in
        let n = is_open (belongs whose c) u in
        let xs = (line_at lines c.index).handles in
        sym (filter-narrow n p xs (narrow t u keeps (belongs whose c)))
        ∙ ap (λ (ys : List Handle). filter n ys) (old.same c)
        ∙ filter-narrow n p listed (narrow t u keeps (belongs whose c));
    given = λ i. given-grows t u (line_at lines i).handles grows (old.given i);
    owned = λ i. of-thins t u keeps (line_at lines i).owner (line_at lines i).handles (old.owned i);
    placed = old.placed;
  }

  -- ---- a request is issued

  of-beside : (t : Table Request) (q : Handle) (r : Request) (c : Handle) (xs : List Handle) → MayGive t q → AreGiven t xs → AreOf whose t c xs → AreOf whose (with_held q r t) c xs
  of-beside t q r c [] may given all = tt
  of-beside t q r c (h ∷ xs) may given all =
      let same = under-beside t q r h may given.0 in (
        λ opened. subst (λ (o : Option Request). opens (belongs whose c) o ≡ true) (sym same) (all.0 (subst (λ (o : Option Request). opens any o ≡ true) same opened)),
        of-beside t q r c xs may given.1 all.1,
      )

  of-push : (t : Table Request) (c q : Handle) (xs : List Handle) → AreOf whose t c xs → (is_open any t q ≡ true → is_open (belongs whose c) t q ≡ true) → AreOf whose t c (xs ++ q ∷ [])
  of-push t c q [] all last = (last, tt)
  of-push t c q (x ∷ xs) all last = (all.0, of-push t c q xs all.1 last)

  issued-same : (t : Table Request) (q : Handle) (r : Request) (listed : List Handle) (lines next : List RequestList) → MayGive t q → AreGiven t listed → AreLines whose t listed lines → Notes (whose r) q lines next → (c : Handle) → in_order_of_issue (belongs whose c) (with_held q r t) (line_at next c.index).handles ≡ in_order_of_issue (belongs whose c) (with_held q r t) (listed ++ q ∷ [])
  issued-same t q r listed lines next may given old notes c =
      let n = is_open (belongs whose c) (with_held q r t) in
      let xs = (line_at lines c.index).handles in
      let mine : filter n xs ≡ filter n listed =
      order-beside t q r xs (belongs whose c) may (old.given c.index)
      ∙ old.same c
      ∙ sym (order-beside t q r listed (belongs whose c) may given) in
      elim (cases_eq c.index (whose r).index) [
        | inl here ↦
            let is : (line_at next c.index).handles ≡ xs ++ q ∷ [] =
            ap (λ (i : ℕ). (line_at next i).handles) here ∙ notes.handles ∙ ap (λ (i : ℕ). (line_at lines i).handles ++ q ∷ []) (sym here) in
            ap (λ (ys : List Handle). filter n ys) is
            ∙ filter-append n xs (q ∷ [])
            ∙ ap (λ (ys : List Handle). ys ++ filter n (q ∷ [])) mine
            ∙ sym (filter-append n listed (q ∷ []))
        | inr other ↦
            let is : (line_at next c.index).handles ≡ xs = ap (λ (l : RequestList). l.handles) (notes.others c.index other) in
            let away : n q ≡ false =
            ap (opens (belongs whose c)) (under-held t q r may) ∙ ap (λ (b : Bool). b && is_open_in r.stage) (other-index (whose r) c (λ same. other (sym same))) in
            let none : filter n (q ∷ []) ≡ [] = none-kept n q away in
            let more : filter n (listed ++ q ∷ []) ≡ filter n listed =
            filter-append n listed (q ∷ []) ∙ ap (λ (ys : List Handle). filter n listed ++ ys) none ∙ append-nil (filter n listed) in
            ap (λ (ys : List Handle). filter n ys) is ∙ mine ∙ sym more
      ]

  issued-lines : (t : Table Request) (q : Handle) (r : Request) (listed : List Handle) (lines next : List RequestList) → MayGive t q → r.stage ≡ Open → AreGiven t listed → AreLines whose t listed lines → Notes (whose r) q lines next → AreLines whose (with_held q r t) (listed ++ q ∷ []) next
  issued-lines t q r listed lines next may begins given old notes =
      let u = with_held q r t in
      let grows = grows-held t q r may in
      let k = (whose r).index in
      let xs = (line_at lines k).handles in
      let itself : is_open any u q ≡ true → is_open (belongs whose (whose r)) u q ≡ true = λ opened.
      ap (opens (belongs whose (whose r))) (under-held t q r may)
      ∙ ap (λ (b : Bool). b && is_open_in r.stage) (same-itself (whose r))
      ∙ ap is_open_in begins in
      let before : AreOf whose t (whose r) xs = subst (λ (c : Handle). AreOf whose t c xs) notes.own (old.owned k) in
      let after : AreOf whose u (whose r) (xs ++ q ∷ []) = of-push u (whose r) q xs (of-beside t q r (whose r) xs may (old.given k) before) itself in
      record {
        same = issued-same t q r listed lines next may given old notes;
        given = λ i.
            elim (cases_eq i k) [
              | inl here ↦
                  let there : AreGiven u (line_at next k).handles =
                  subst (λ (ys : List Handle). AreGiven u ys) (sym notes.handles)
                  (given-push u xs q (given-grows t u xs grows (old.given k)) (given-new t q r may)) in
                  subst (λ (j : ℕ). AreGiven u (line_at next j).handles) (sym here) there
              | inr other ↦
                  subst (λ (l : RequestList). AreGiven u l.handles) (sym (notes.others i other)) (given-grows t u (line_at lines i).handles grows (old.given i))
            ];
        owned = λ i.
            elim (cases_eq i k) [
              | inl here ↦
                  let there : AreOf whose u (line_at next k).owner (line_at next k).handles =
                  subst (λ (c : Handle). AreOf whose u c (line_at next k).handles) (sym notes.owner)
                  (subst (λ (ys : List Handle). AreOf whose u (whose r) ys) (sym notes.handles) after) in
                  subst (λ (j : ℕ). AreOf whose u (line_at next j).owner (line_at next j).handles) (sym here) there
              | inr other ↦
                  subst (λ (l : RequestList). AreOf whose u l.owner l.handles) (sym (notes.others i other))
                  (of-beside t q r (line_at lines i).owner (line_at lines i).handles may (old.given i) (old.owned i))
            ];
        placed = λ i.
            elim (cases_eq i k) [
              | inl here ↦ inr (ap (λ (j : ℕ). (line_at next j).owner.index) here ∙ ap (λ (c : Handle). c.index) notes.owner ∙ sym here)
              | inr other ↦ subst (λ (l : RequestList). IsAt i l) (sym (notes.others i other)) (old.placed i)
            ];
      }

  -- ---- those of an owner are handed out

  -- what is one owner's is not another's
  none-of : (t : Table Request) (c d : Handle) (xs : List Handle) → AreOf whose t d xs → same_handle d c ≡ false → filter (is_open (belongs whose c) t) xs ≡ []
  none-of t c d [] all other = refl
  none-of t c d (q ∷ xs) all other =
      let rest = none-of t c d xs all.1 other in
      elim (true_or_false (is_open (belongs whose c) t q)) [
        | inl named ↦ absurd (both (under t q) (all.0 (opens-any (belongs whose c) (under t q) named)) named)
        | inr not_named ↦ rw not_named rest
      ]
    where
      both : (o : Option Request) → opens (belongs whose d) o ≡ true → opens (belongs whose c) o ≡ true → ⊥
      both None on_d on_c =
          let bad : false ≡ true = on_d in
          absurd cc
      both (Some r) on_d on_c =
          let at_d : (whose r) ≡ d = one-handle (whose r) d (first_of (same_handle (whose r) d) (is_open_in r.stage) on_d) in
          let at_c : same_handle (whose r) c ≡ true = first_of (same_handle (whose r) c) (is_open_in r.stage) on_c in
          let bad : same_handle d c ≡ true = subst (λ (h : Handle). same_handle h c ≡ true) at_d at_c in
          absurd cc

  pub told-open : (t : Table Request) (listed : List Handle) (lines : List RequestList) (c : Handle) → AreLines whose t listed lines → filter (is_open (belongs whose c) t) (told_of c (line_at lines c.index)) ≡ filter (is_open (belongs whose c) t) listed
  told-open t listed lines c old =
      let l = line_at lines c.index in
      elim (true_or_false (same_handle l.owner c)) [
        | inl own ↦
            ap (λ (b : Bool). filter (is_open (belongs whose c) t) (if b then l.handles else [])) own ∙ old.same c
        | inr other ↦
            ap (λ (b : Bool). filter (is_open (belongs whose c) t) (if b then l.handles else [])) other
            ∙ sym (none-of t c l.owner l.handles (old.owned c.index) other)
            ∙ old.same c
      ]

  -- of an owner none of whose requests is open
  no-open : (u : Table Request) (c : Handle) (which : Request → Bool) (xs : List Handle) → AreOf whose u c xs → ((q : Handle) → is_open (belongs whose c) u q ≡ false) → filter (is_open which u) xs ≡ []
  no-open u c which [] all none = refl
  no-open u c which (q ∷ xs) all none =
      elim (true_or_false (is_open which u q)) [
        | inl named ↦
            let bad : is_open (belongs whose c) u q ≡ true = all.0 (opens-any which (under u q) named) in
            let worse : false ≡ true = sym (none q) ∙ bad in
            absurd cc
        | inr not_named ↦ rw not_named (no-open u c which xs all.1 none)
      ]

  -- of an index of which no other owner has an open request
  pub may-be-of : (t : Table Request) (listed : List Handle) (lines : List RequestList) (c : Handle) → ((q : Handle) (r : Request) → under t q ≡ Some r → r.stage ≡ Open → (whose r).index ≡ c.index → whose r ≡ c) → AreLines whose t listed lines → MayBeOf t c (line_at lines c.index)
  may-be-of t listed lines c alone old = λ other. elim (old.placed c.index) [
    | inl none ↦ ap (filter (is_open any t)) none
    | inr at ↦ no-open t l.owner any l.handles (old.owned c.index) (λ q. closed other at q (true_or_false (is_open (belongs whose l.owner) t q)))
  ]
    where
      l : RequestList
      l = line_at lines c.index

      found : (q : Handle) (o : Option Request) → under t q ≡ o → opens (belongs whose l.owner) o ≡ true → l.owner.index ≡ c.index → l.owner ≡ c
      found q None there opened at = absurd cc
      found q (Some r) there opened at =
          let own : whose r ≡ l.owner = one-handle (whose r) l.owner (first_of (same_handle (whose r) l.owner) (is_open_in r.stage) opened) in
          sym own ∙ alone q r there (open-stage r.stage (second_of (same_handle (whose r) l.owner) (is_open_in r.stage) opened)) (ap (λ (h : Handle). h.index) own ∙ at)

      closed : same_handle l.owner c ≡ false → l.owner.index ≡ c.index → (q : Handle) → (is_open (belongs whose l.owner) t q ≡ true) ⊎ (is_open (belongs whose l.owner) t q ≡ false) → is_open (belongs whose l.owner) t q ≡ false
      closed other at q (inr not_open) = not_open
      closed other at q (inl opened) =
          let same : same_handle l.owner c ≡ true = ap (λ (h : Handle). same_handle h c) (found q (under t q) refl opened at) ∙ same-itself c in
          let bad : false ≡ true = sym other ∙ same in
          absurd cc

  lines-handed : (u : Table Request) (listed : List Handle) (lines next : List RequestList) (c : Handle) → ((q : Handle) → is_open (belongs whose c) u q ≡ false) → Hands c lines next → AreLines whose u listed lines → AreLines whose u listed next
  lines-handed u listed lines next c none hands old =
      let k = c.index in
      let l = line_at lines k in
      elim (true_or_false (same_handle l.owner c)) [
        | inl own ↦
            let empty : (line_at next k).handles ≡ [] = hands.handles ∙ ap (λ (b : Bool). let ys : List Handle = if b then [] else l.handles in ys) own in
            let mine : AreOf whose u c l.handles = subst (λ (d : Handle). AreOf whose u d l.handles) (one-handle l.owner c own) (old.owned k) in
            record {
              same = λ d. elim (cases_eq d.index k) [
                | inl here ↦
                    let left : in_order_of_issue (belongs whose d) u (line_at next d.index).handles ≡ [] =
                    ap (λ (i : ℕ). in_order_of_issue (belongs whose d) u (line_at next i).handles) here ∙ ap (λ (ys : List Handle). in_order_of_issue (belongs whose d) u ys) empty in
                    let was : in_order_of_issue (belongs whose d) u (line_at lines d.index).handles ≡ [] =
                    ap (λ (i : ℕ). in_order_of_issue (belongs whose d) u (line_at lines i).handles) here ∙ no-open u c (belongs whose d) l.handles mine none in
                    left ∙ sym was ∙ old.same d
                | inr other ↦
                    ap (λ (m : RequestList). in_order_of_issue (belongs whose d) u m.handles) (hands.others d.index other) ∙ old.same d
              ];
              given = λ i. elim (cases_eq i k) [
                | inl here ↦
                    subst (λ (j : ℕ). AreGiven u (line_at next j).handles) (sym here) (subst (λ (ys : List Handle). AreGiven u ys) (sym empty) tt)
                | inr other ↦ subst (λ (m : RequestList). AreGiven u m.handles) (sym (hands.others i other)) (old.given i)
              ];
              owned = λ i. elim (cases_eq i k) [
                | inl here ↦
                    subst (λ (j : ℕ). AreOf whose u (line_at next j).owner (line_at next j).handles) (sym here)
                    (subst (λ (ys : List Handle). AreOf whose u (line_at next k).owner ys) (sym empty) tt)
                | inr other ↦ subst (λ (m : RequestList). AreOf whose u m.owner m.handles) (sym (hands.others i other)) (old.owned i)
              ];
              placed = λ i. elim (cases_eq i k) [
                | inl here ↦ inl (ap (λ (j : ℕ). (line_at next j).handles) here ∙ empty)
                | inr other ↦ subst (λ (m : RequestList). IsAt i m) (sym (hands.others i other)) (old.placed i)
              ];
            }
        | inr other_circuit ↦
            let same : (line_at next k).handles ≡ l.handles = hands.handles ∙ ap (λ (b : Bool). let ys : List Handle = if b then [] else l.handles in ys) other_circuit in
            record {
              same = λ d. elim (cases_eq d.index k) [
                | inl here ↦
                    ap (λ (i : ℕ). in_order_of_issue (belongs whose d) u (line_at next i).handles) here
                    ∙ ap (λ (ys : List Handle). in_order_of_issue (belongs whose d) u ys) same
                    ∙ ap (λ (i : ℕ). in_order_of_issue (belongs whose d) u (line_at lines i).handles) (sym here)
                    ∙ old.same d
                | inr other ↦
                    ap (λ (m : RequestList). in_order_of_issue (belongs whose d) u m.handles) (hands.others d.index other) ∙ old.same d
              ];
              given = λ i. elim (cases_eq i k) [
                | inl here ↦
                    subst (λ (j : ℕ). AreGiven u (line_at next j).handles) (sym here) (subst (λ (ys : List Handle). AreGiven u ys) (sym same) (old.given k))
                | inr other ↦ subst (λ (m : RequestList). AreGiven u m.handles) (sym (hands.others i other)) (old.given i)
              ];
              owned = λ i. elim (cases_eq i k) [
                | inl here ↦
                    subst (λ (j : ℕ). AreOf whose u (line_at next j).owner (line_at next j).handles) (sym here)
                    (subst (λ (d : Handle). AreOf whose u d (line_at next k).handles) (sym hands.owner)
                    (subst (λ (ys : List Handle). AreOf whose u l.owner ys) (sym same) (old.owned k)))
                | inr other ↦ subst (λ (m : RequestList). AreOf whose u m.owner m.handles) (sym (hands.others i other)) (old.owned i)
              ];
              placed = λ i. elim (cases_eq i k) [
                | inl here ↦
                    let there : IsAt k (line_at next k) = elim (old.placed k) [
                      | inl none ↦ inl (same ∙ none)
                      | inr at ↦ inr (ap (λ (d : Handle). d.index) hands.owner ∙ at)
                    ] in
                    subst (λ (j : ℕ). IsAt j (line_at next j)) (sym here) there
                | inr other ↦ subst (λ (m : RequestList). IsAt i m) (sym (hands.others i other)) (old.placed i)
              ];
            }
      ]

-- ---- the lines of circuits, and those of channels

pub requests-readied : (t : Table Request) (listed : List Handle) (lines next mine own : List RequestList) → ReadyAll t lines next → ReadyAll t mine own → AreRequests t listed lines mine → AreRequests t listed next own
requests-readied t listed lines next mine own ready also old = record {
  given = old.given;
  all = old.all;
  circuits = record {
    same = λ c. (ready c.index).same (was_sent_on c) ∙ old.circuits.same c;
    given = λ i. (ready i).given (old.circuits.given i);
    owned = λ i. (ready i).owned (old.circuits.owned i);
    placed = λ i. (ready i).placed i (old.circuits.placed i);
  };
  channels = record {
    same = λ h. (also h.index).same (asks_on h) ∙ old.channels.same h;
    given = λ i. (also i).given (old.channels.given i);
    owned = λ i. (also i).also (old.channels.owned i);
    placed = λ i. (also i).placed i (old.channels.placed i);
  };
}

pub requests-tidied : (t : Table Request) (listed : List Handle) (lines mine : List RequestList) → AreRequests t listed lines mine → AreRequests t (filter (is_open any t) listed) lines mine
requests-tidied t listed lines mine old = record {
  given = given-filter t (is_open any t) listed old.given;
  all = λ q opened. (let was = old.all q opened in at-filter (is_open any t) listed was.0 q was.1 opened);
  circuits = lines-tidied circuit_of t listed lines old.circuits;
  channels = lines-tidied channel_of t listed mine old.channels;
}

pub requests-thin : (t u : Table Request) (listed : List Handle) (lines mine : List RequestList) → Keeps t u → Grows t u → AreRequests t listed lines mine → AreRequests u listed lines mine
requests-thin t u listed lines mine keeps grows old = record {
  given = given-grows t u listed grows old.given;
  all = λ q opened. old.all q (narrow t u keeps any q opened);
  circuits = lines-thin circuit_of t u listed lines keeps grows old.circuits;
  channels = lines-thin channel_of t u listed mine keeps grows old.channels;
}

pub requests-map : (f : Place Request → Place Request) (t u : Table Request) (listed : List Handle) (lines mine : List RequestList) → Dims f → Stays f → u ≡ map f t → AreRequests t listed lines mine → AreRequests u listed lines mine
requests-map f t u listed lines mine dims stays is old =
    subst (λ (w : Table Request). AreRequests w listed lines mine) (sym is)
    (requests-thin t (map f t) listed lines mine (keeps-map f t dims stays) (grows-map f t dims) old)

pub requests-freed : (t u : Table Request) (listed : List Handle) (lines mine : List RequestList) (h : Handle) → u ≡ with_freed h t → AreRequests t listed lines mine → AreRequests u listed lines mine
requests-freed t u listed lines mine h is old =
    subst (λ (w : Table Request). AreRequests w listed lines mine) (sym is)
    (requests-thin t (with_freed h t) listed lines mine (keeps-freed t h) (grows-freed t h) old)

pub requests-issued : (t u : Table Request) (listed after : List Handle) (lines next mine own : List RequestList) (r : Request) (q : Handle) → Fills t q r (Ok tt) u → r.stage ≡ Open → after ≡ listed ++ q ∷ [] → Notes r.circuit q lines next → Notes r.channel q mine own → AreRequests t listed lines mine → AreRequests u after next own
requests-issued t u listed after lines next mine own r q gives begins is notes also old =
    let made : AreRequests (with_held q r t) (listed ++ q ∷ []) next own = record {
      given = given-push (with_held q r t) listed q (given-grows t (with_held q r t) listed (grows-held t q r gives.0) old.given) (given-new t q r gives.0);
      all = λ h opened. issued-all t q r listed gives.0 old.all h opened;
      circuits = issued-lines circuit_of t q r listed lines next gives.0 begins old.given old.circuits notes;
      channels = issued-lines channel_of t q r listed mine own gives.0 begins old.given old.channels also;
    } in
    subst (λ (w : Table Request). AreRequests w after next own) (sym gives.1)
    (subst (λ (ys : List Handle). AreRequests (with_held q r t) ys next own) (sym is) made)

pub requests-handed : (t u : Table Request) (listed : List Handle) (lines next mine : List RequestList) (c : Handle) → u ≡ map (by_value (kept_of (was_sent_on c))) t → Hands c lines next → AreRequests t listed lines mine → AreRequests u listed next mine
requests-handed t u listed lines next mine c is hands old =
    let f = by_value (kept_of (was_sent_on c)) in
    let thin : AreRequests (map f t) listed lines mine = requests-map f t (map f t) listed lines mine (dims-freed (was_sent_on c)) (stays-freed (was_sent_on c)) refl old in
    let made : AreRequests (map f t) listed next mine = record {
      given = thin.given;
      all = thin.all;
      circuits = lines-handed circuit_of (map f t) listed lines next c (none-freed (was_sent_on c) t) hands thin.circuits;
      channels = thin.channels;
    } in
    subst (λ (w : Table Request). AreRequests w listed next mine) (sym is) made

pub requests-over : (t u : Table Request) (listed : List Handle) (lines mine own : List RequestList) (h : Handle) → u ≡ map (by_value (option_map (over_on h))) t → Hands h mine own → AreRequests t listed lines mine → AreRequests u listed lines own
requests-over t u listed lines mine own h is hands old =
    let f = by_value (option_map (over_on h)) in
    let thin : AreRequests (map f t) listed lines mine = requests-map f t (map f t) listed lines mine (dims-over h) (stays-over h) refl old in
    let made : AreRequests (map f t) listed lines own = record {
      given = thin.given;
      all = thin.all;
      circuits = thin.circuits;
      channels = lines-handed channel_of (map f t) listed mine own h (none-over h t) hands thin.channels;
    } in
    subst (λ (w : Table Request). AreRequests w listed lines own) (sym is) made

-- what is handed out of a circuit's line, or of a channel's
pub told-circuit : (t : Table Request) (listed : List Handle) (lines mine : List RequestList) (c : Handle) → AreRequests t listed lines mine → filter (is_open (was_sent_on c) t) (told_of c (line_at lines c.index)) ≡ filter (is_open (was_sent_on c) t) listed
told-circuit t listed lines mine c old = told-open circuit_of t listed lines c old.circuits

pub told-channel : (t : Table Request) (listed : List Handle) (lines mine : List RequestList) (h : Handle) → AreRequests t listed lines mine → filter (is_open (asks_on h) t) (told_of h (line_at mine h.index)) ≡ filter (is_open (asks_on h) t) listed
told-channel t listed lines mine h old = told-open channel_of t listed mine h old.channels

-- ---- the places of lines

pub told-nowhere : (c : Handle) → told_of c no_line ≡ []
told-nowhere c = by_test (same_handle no_line.owner c)
  where
    by_test : (b : Bool) → ◌≡◌ {A = List Handle} (if b then [] else []) []
    by_test true = refl
    by_test false = refl

pub handed-nowhere : (c : Handle) → handed_to c no_line ≡ []
handed-nowhere c = by_test (same_handle no_line.owner c)
  where
    by_test : (b : Bool) → ◌≡◌ {A = List Handle} (if b then [] else []) []
    by_test true = refl
    by_test false = refl

pub line-pushed : (lines : List RequestList) (i : ℕ) → line_at (lines ++ no_line ∷ []) i ≡ line_at lines i
line-pushed lines i =
    elim (cases_lt i (length lines)) [
      | inl within ↦ get_or_append_left lines (no_line ∷ []) no_line i within
      | inr past ↦ elim (cases_eq (length lines) i) [
        | inl last ↦ get_or_push lines no_line no_line i last ∙ sym (get_or_past lines i no_line past)
        | inr beyond ↦
            get_or_past (lines ++ no_line ∷ []) i no_line (omega (arith, length-append lines (no_line ∷ []), past, beyond))
            ∙ sym (get_or_past lines i no_line past)
      ]
    ]

-- ---- who may issue

pub circuit-may : (x : Issued) (t : Table Request) (listed : List Handle) (lines mine : List RequestList) (h c : Handle) → issued_of t listed ≡ x → MayIssue h c x → AreRequests t listed lines mine → MayBeOf t c (line_at lines c.index)
circuit-may x t listed lines mine h c is may old =
    may-be-of circuit_of t listed lines c (λ q r there. may.on_circuit q r (ap (λ (y : Issued). under y.table q) (sym is) ∙ there)) old.circuits

pub channel-may : (x : Issued) (t : Table Request) (listed : List Handle) (lines mine : List RequestList) (h c : Handle) → issued_of t listed ≡ x → MayIssue h c x → AreRequests t listed lines mine → MayBeOf t h (line_at mine h.index)
channel-may x t listed lines mine h c is may old =
    may-be-of channel_of t listed mine h (λ q r there. may.on_channel q r (ap (λ (y : Issued). under y.table q) (sym is) ∙ there)) old.channels
