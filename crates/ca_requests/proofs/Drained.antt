-- The requests of a list are over, one after another: of those on a channel that are open, all are.
use Rattle.std.proofs.Common.{◌≡◌, ℕ, zero, suc, ◌==◌, ◌&&◌, inl, inr, Bool, true, false, List, [], ◌∷◌, map, Option, Some, None, if◌then◌else◌, option_map, refl, sym, ap, ◌∙◌, filter, slice_set}
use Rattle.std.proofs.Math.Seq.{map-set_same}
use Rattle.std.proofs.lemmas.Bool.{cases_eq, eq-eqb}
use Rattle.std.proofs.lemmas.List.{get_or-set_other, get_or-set_same}
use Rattle.std.proofs.lemmas.Option.{get_or_from_slice_get}
use Rattle.ca_arena.specs.declared.handle.Handle.{Handle}
use Rattle.ca_arena.specs.Arena.{Place, blank, place_at, value_for}
use Rattle.ca_arena.proofs.Places.{value_for-some, within_from_value}
use Rattle.ca_text.specs.Place.{At}
use Rattle.ca_text.proofs.Places.{some_is}
use Rattle.ca_ids.specs.Table.{Table, same_handle, under, with_changed}
use Rattle.ca_requests.specs.Layout.{drained, each_drained}
use Rattle.ca_requests.specs.Lines.{AreRequests, RequestList}
use Rattle.ca_requests.specs.Requests.{Draining, Open, Request, Stage, asks_on, channel_over, is_open, is_open_in, over_on}
use Rattle.ca_requests.proofs.Lined.{at-filter, filter-at, one-handle, other-index, same-itself}
use Rattle.ca_requests.proofs.Tables.{and-false, by_value, first_of, opens, opens-any, true_or_false}

-- ---- what is found once one is over

-- a place of this handle with this request
abbrev place : Handle → Request → Place Request
place h r = record { generation = h.generation; value = Some r }

place-of : (t : Table Request) (h : Handle) (r : Request) → under t h ≡ Some r → place_at t h.index ≡ place h r
place-of t h r found =
    let there = value_for-some h.generation (place_at t h.index) r found in
    λ i. record { generation = there.0 i; value = there.1 i }

found-in : (x q : Handle) (r : Request) → x.index ≡ q.index → value_for q.generation (place x (drained r)) ≡ (if same_handle x q then option_map drained (value_for q.generation (place x r)) else value_for q.generation (place x r))
found-in x q r here = rw (eq-eqb x.index q.index here) (by_test (x.generation == q.generation))
  where
    by_test : (b : Bool) → ◌≡◌ {A = Option Request} (if b then Some (drained r) else None) (if b then option_map drained (if b then Some r else None) else (if b then Some r else None))
    by_test true = refl
    by_test false = refl

under-drained : (t : Table Request) (x q : Handle) → under (with_changed drained x t) q ≡ (if same_handle x q then option_map drained (under t q) else under t q)
under-drained t x q = by_value_of (under t x) refl
  where
    by_value_of : (o : Option Request) → under t x ≡ o → under (with_changed drained x t) q ≡ (if same_handle x q then option_map drained (under t q) else under t q)
    by_value_of None none =
        elim (true_or_false (same_handle x q)) [
          | inl same ↦
              let nothing : under t q ≡ None = ap (under t) (sym (one-handle x q same)) ∙ none in
              rw (none, same, nothing) refl
          | inr other ↦ rw (none, other) refl
        ]
    by_value_of (Some r) found =
        let was : place_at t x.index ≡ place x r = place-of t x r found in
        let within = within_from_value t x.index r (ap (λ (p : Place Request). p.value) was) in
        elim (cases_eq q.index x.index) [
          | inl here ↦
              let new : place_at (slice_set t x.index (place x (drained r))) q.index ≡ place x (drained r) =
              ap (place_at (slice_set t x.index (place x (drained r)))) here ∙ get_or-set_same t x.index (place x (drained r)) blank within in
              let old : place_at t q.index ≡ place x r = ap (place_at t) here ∙ was in
              rw (found, old) (ap (value_for q.generation) new ∙ found-in x q r (sym here))
          | inr other ↦
              rw (found, other-index x q (λ e. other (sym e)))
              (ap (value_for q.generation) (get_or-set_other t x.index q.index (place x (drained r)) blank other))
        ]

-- what is open then was, and is another
still-open : (t : Table Request) (x q : Handle) (which : Request → Bool) → is_open which (with_changed drained x t) q ≡ true → (is_open which t q ≡ true) × (same_handle x q ≡ false)
still-open t x q which opened = by_test (same_handle x q) refl (under t q) refl (sym (ap (opens which) (under-drained t x q)) ∙ opened)
  where
    by_test : (b : Bool) → same_handle x q ≡ b → (o : Option Request) → under t q ≡ o → opens which (if b then option_map drained o else o) ≡ true → (is_open which t q ≡ true) × (same_handle x q ≡ false)
    by_test true same None there h = absurd cc
    by_test true same (Some r) there h =
        let bad : false ≡ true = sym (and-false (which (drained r))) ∙ h in
        absurd cc
    by_test false other o there h = (ap (opens which) there ∙ h, other)

-- ---- all that are open on a channel are over

-- what is found is on this channel
abbrev IsOn : Handle → Table Request → Handle → Type 0
IsOn channel t q = (r : Request) → under t q ≡ Some r → asks_on channel r ≡ true

still-on : (channel : Handle) (t : Table Request) (x q : Handle) → IsOn channel t q → IsOn channel (with_changed drained x t) q
still-on channel t x q on = λ r found. by_test (same_handle x q) (under t q) refl r (sym (under-drained t x q) ∙ found)
  where
    by_test : (b : Bool) (o : Option Request) → under t q ≡ o → (r : Request) → (if b then option_map drained o else o) ≡ Some r → asks_on channel r ≡ true
    by_test true None there r h = absurd cc
    by_test true (Some s) there r h = ap (asks_on channel) (sym (some_is (drained s) r h)) ∙ on s there
    by_test false o there r h = on r (there ∙ h)

over-twice : (channel : Handle) (r : Request) → asks_on channel r ≡ true → over_on channel (drained r) ≡ over_on channel r
over-twice channel r on = rw on refl

over-same : (channel : Handle) (t : Table Request) (x : Handle) → IsOn channel t x → channel_over channel (with_changed drained x t) ≡ channel_over channel t
over-same channel t x on = by_value_of (under t x) refl
  where
    by_value_of : (o : Option Request) → under t x ≡ o → channel_over channel (with_changed drained x t) ≡ channel_over channel t
    by_value_of None none = rw none refl
    by_value_of (Some r) found =
        let f = by_value (option_map (over_on channel)) in
        let same : f (place x (drained r)) ≡ f (place_at t x.index) =
        ap (λ (s : Request). place x s) (over-twice channel r (on r found)) ∙ ap f (sym (place-of t x r found)) in
        rw found (map-set_same f t x.index (place x (drained r)) blank same)

map-same : (f : Place Request → Place Request) (t : Table Request) → ((i : ℕ) (p : Place Request) → At t i p → f p ≡ p) → map f t ≡ t
map-same f [] same = refl
map-same f (p ∷ t) same =
    ap (λ (q : Place Request). q ∷ map f t) (same 0 p refl) ∙ ap (λ (u : Table Request). p ∷ u) (map-same f t (λ i q at. same (suc i) q at))

over-closed : (channel : Handle) (r : Request) → (asks_on channel r && is_open_in r.stage) ≡ false → over_on channel r ≡ r
over-closed channel r closed = by_test (asks_on channel r) refl r.stage refl
  where
    by_test : (b : Bool) → asks_on channel r ≡ b → (s : Stage) → r.stage ≡ s → over_on channel r ≡ r
    by_test false away s at = rw away refl
    by_test true on Draining at = rw on (ap (λ (s : Stage). let q : Request = record r { stage = s } in q) (sym at))
    by_test true on Open at =
        let bad : true ≡ false = sym (ap (λ (s : Stage). is_open_in s) at) ∙ sym (ap (λ (b : Bool). b && is_open_in r.stage) on) ∙ closed in
        absurd cc

none-open : (channel : Handle) (t : Table Request) → ((q : Handle) → is_open (asks_on channel) t q ≡ true → ⊥) → channel_over channel t ≡ t
none-open channel t none = map-same (by_value (option_map (over_on channel))) t same
  where
    same : (i : ℕ) (p : Place Request) → At t i p → by_value (option_map (over_on channel)) p ≡ p
    same i p at = by_value_of p.value refl
      where
        h : Handle
        h = record { index = i; generation = p.generation }

        here : under t h ≡ p.value
        here = ap (value_for p.generation) (get_or_from_slice_get t i p blank at) ∙ ap (λ (b : Bool). if b then p.value else None) (eq-eqb p.generation p.generation refl)

        by_value_of : (o : Option Request) → p.value ≡ o → by_value (option_map (over_on channel)) p ≡ p
        by_value_of None is = λ i. record { generation = p.generation; value = (ap (option_map (over_on channel)) is ∙ sym is) i }
        by_value_of (Some r) is =
            let closed : (asks_on channel r && is_open_in r.stage) ≡ false =
            elim (true_or_false (asks_on channel r && is_open_in r.stage)) [
              | inl opened ↦ absurd (none h (ap (opens (asks_on channel)) (here ∙ is) ∙ opened))
              | inr no_more ↦ no_more
            ] in
            let value : option_map (over_on channel) p.value ≡ p.value =
            ap (option_map (over_on channel)) is ∙ ap (λ (s : Request). Some s) (over-closed channel r closed) ∙ sym is in
            λ i. record { generation = p.generation; value = value i }

all-over : (channel : Handle) (xs : List Handle) (t : Table Request) → ((q : Handle) → is_open (asks_on channel) t q ≡ true → (n : ℕ) × At xs n q) → ((n : ℕ) (q : Handle) → At xs n q → IsOn channel t q) → each_drained xs t ≡ channel_over channel t
all-over channel [] t all own = sym (none-open channel t (λ q opened. nowhere (all q opened).0 q (all q opened).1))
  where
    nowhere : (n : ℕ) (q : Handle) → At [] n q → ⊥
    nowhere n q at = cc
all-over channel (x ∷ xs) t all own =
    let u = with_changed drained x t in
    all-over channel xs u
    (λ q opened. (let was = still-open t x q (asks_on channel) opened in there q was.1 (all q was.0).0 (all q was.0).1))
    (λ n q at. still-on channel t x q (own (suc n) q at))
    ∙ over-same channel t x (own 0 x refl)
  where
    there : (q : Handle) → same_handle x q ≡ false → (n : ℕ) → At (x ∷ xs) n q → (m : ℕ) × At xs m q
    there q other zero at =
        let same : same_handle x q ≡ true = ap (same_handle x) (sym (some_is x q at)) ∙ same-itself x in
        absurd cc
    there q other (suc m) at = (m, at)

-- the open requests on a channel, once they are over
pub over-each : (t u : Table Request) (listed : List Handle) (lines mine : List RequestList) (channel : Handle) (xs : List Handle) → AreRequests t listed lines mine → xs ≡ filter (is_open (asks_on channel) t) listed → u ≡ each_drained xs t → u ≡ channel_over channel t
over-each t u listed lines mine channel xs old are is =
    let p = is_open (asks_on channel) t in
    is
    ∙ ap (λ (ys : List Handle). each_drained ys t) are
    ∙ all-over channel (filter p listed) t
    (λ q opened. (let was = old.all q (opens-any (asks_on channel) (under t q) opened) in at-filter p listed was.0 q was.1 opened))
    (λ n q at r found. first_of (asks_on channel r) (is_open_in r.stage) (sym (ap (opens (asks_on channel)) found) ∙ filter-at p listed n q at))
