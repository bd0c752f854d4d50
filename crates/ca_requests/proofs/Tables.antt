-- What a change to a table of requests leaves at each place: the generation given last never falls,
-- and what is open was open.
use Rattle.std.proofs.Common.{◌≡◌, ◌≢◌, ℕ, ◌≤◌, ◌⊎◌, ◌==◌, ◌&&◌, inl, inr, Bool, true, false, [], ◌∷◌, ◌++◌, length, map, Option, Some, None, if◌then◌else◌, option_map, refl, sym, ap, ◌∙◌, subst, arith, slice_index_or, slice_set, unwrap_or, length-append}
use Rattle.std.proofs.Math.ListN.{get_or-map}
use Rattle.std.proofs.lemmas.Bool.{cases_eq, cases_lt, eq-eqb, ne_eqb}
use Rattle.std.proofs.lemmas.List.{get_or-set_other, get_or-set_same, get_or_append_left, get_or_past, get_or_push}
use Rattle.ca_arena.specs.declared.handle.Handle.{Handle}
use Rattle.ca_arena.specs.Arena.{Place, blank, place_at, value_for}
use Rattle.ca_arena.proofs.Places.{value_for-some, value_for-vacant, within_from_value}
use Rattle.ca_ids.specs.Table.{MayGive, Table, kept_of, under, with_freed, with_held}
use Rattle.ca_requests.specs.Layout.{WasGiven}
use Rattle.ca_requests.specs.Requests.{Draining, Request, asks_on, is_open, is_open_in, over_on}

pub true_or_false : (b : Bool) → (b ≡ true) ⊎ (b ≡ false)
true_or_false true = inl refl
true_or_false false = inr refl

-- the first of two that hold
pub first_of : (a b : Bool) → (a && b) ≡ true → a ≡ true
first_of true b h = refl
first_of false b h = absurd cc

pub second_of : (a b : Bool) → (a && b) ≡ true → b ≡ true
second_of true b h = h
second_of false b h = absurd cc

-- every request
abbrev pub any : Request → Bool
any q = true

-- what is found is open, and the test names it
abbrev pub opens : (Request → Bool) → Option Request → Bool
opens which o = unwrap_or (option_map (λ (r : Request). which r && is_open_in r.stage) o) false

-- what is open, and named, is open
pub opens-any : (which : Request → Bool) (o : Option Request) → opens which o ≡ true → opens any o ≡ true
opens-any which None h = absurd cc
opens-any which (Some r) h = second_of (which r) (is_open_in r.stage) h

-- ---- the generation given last

-- no index has an earlier generation
abbrev pub Grows : Table Request → Table Request → Type 0
Grows old new = (i : ℕ) → (place_at old i).generation ≤ (place_at new i).generation

-- each place is as it was, or has no value now
pub record Thins (old new : Table Request) (i : ℕ) : Type 0 where
  pub generation : (place_at new i).generation ≡ (place_at old i).generation
  pub value : ((place_at new i).value ≡ None) ⊎ (place_at new i ≡ place_at old i)

same-place : (old new : Table Request) (i : ℕ) → place_at new i ≡ place_at old i → Thins old new i
same-place old new i same = record { generation = ap (λ (p : Place Request). p.generation) same; value = inr same }

thins-set : (t : Table Request) (h : Handle) (r : Request) (i : ℕ) → under t h ≡ Some r → Thins t (slice_set t h.index (record { generation = h.generation; value = None })) i
thins-set t h r i found =
    let there = value_for-some h.generation (place_at t h.index) r found in
    let within = within_from_value t h.index r there.1 in
    let place : Place Request = record { generation = h.generation; value = None } in
    elim (cases_eq i h.index) [
      | inl here ↦
          let new : place_at (slice_set t h.index place) i ≡ place =
          ap (place_at (slice_set t h.index place)) here ∙ get_or-set_same t h.index place blank within in
          record {
            generation = ap (λ (p : Place Request). p.generation) new ∙ sym there.0 ∙ ap (λ (j : ℕ). (place_at t j).generation) (sym here);
            value = inl (ap (λ (p : Place Request). p.value) new);
          }
      | inr other ↦ same-place t (slice_set t h.index place) i (get_or-set_other t h.index i place blank other)
    ]

pub thins-freed : (t : Table Request) (h : Handle) (i : ℕ) → Thins t (with_freed h t) i
thins-freed t h i = by_value (under t h) refl
  where
    by_value : (o : Option Request) → under t h ≡ o → Thins t (with_freed h t) i
    by_value None none = rw none (same-place t t i refl)
    by_value (Some r) found = rw found (thins-set t h r i found)

pub opens-thinned : (old new : Table Request) (q : Handle) → Thins old new q.index → is_open any new q ≡ true → is_open any old q ≡ true
opens-thinned old new q thins h =
    elim thins.value [
      | inl none ↦
          let nothing : value_for q.generation (place_at new q.index) ≡ None = value_for-vacant q.generation (place_at new q.index) none in
          let bad : false ≡ true = sym (ap (opens any) nothing) ∙ h in
          absurd cc
      | inr same ↦ subst (λ (p : Place Request). opens any (value_for q.generation p) ≡ true) same h
    ]

pub grows-freed : (t : Table Request) (h : Handle) → Grows t (with_freed h t)
grows-freed t h = λ i. omega (arith, (thins-freed t h i).generation)

pub open-freed : (t : Table Request) (h q : Handle) → is_open any (with_freed h t) q ≡ true → is_open any t q ≡ true
open-freed t h q = opens-thinned t (with_freed h t) q (thins-freed t h q.index)

-- ---- each place changed

-- a place that keeps its generation, and what is open at it was open
pub record Dims (f : Place Request → Place Request) : Type 0 where
  pub blank_stays : f blank ≡ blank
  pub generation : (p : Place Request) → (f p).generation ≡ p.generation
  pub value : (p : Place Request) (g : ℕ) → opens any (value_for g (f p)) ≡ true → opens any (value_for g p) ≡ true

place-map : (f : Place Request → Place Request) (t : Table Request) (i : ℕ) → Dims f → place_at (map f t) i ≡ f (place_at t i)
place-map f t i dims = ap (λ (p : Place Request). slice_index_or (map f t) i p) (sym dims.blank_stays) ∙ get_or-map f t i blank

pub grows-map : (f : Place Request → Place Request) (t : Table Request) → Dims f → Grows t (map f t)
grows-map f t dims = λ i.
    omega (arith, ap (λ (p : Place Request). p.generation) (place-map f t i dims), dims.generation (place_at t i))

pub open-map : (f : Place Request → Place Request) (t : Table Request) (q : Handle) → Dims f → is_open any (map f t) q ≡ true → is_open any t q ≡ true
open-map f t q dims h =
    dims.value (place_at t q.index) q.generation (subst (λ (p : Place Request). opens any (value_for q.generation p) ≡ true) (place-map f t q.index dims) h)

-- of a place that changes its value by g
abbrev pub by_value : (Option Request → Option Request) → Place Request → Place Request
by_value g p = record p { value = g p.value }

dims-value : (g : Option Request → Option Request) → g None ≡ None → ((o : Option Request) → opens any (g o) ≡ true → opens any o ≡ true) → Dims (by_value g)
dims-value g none keeps = record {
  blank_stays = ap (λ (o : Option Request). let p : Place Request = record { generation = 0; value = o } in p) none;
  generation = λ p. refl;
  value = λ p n h. by_test (p.generation == n) p.value h;
}
  where
    by_test : (b : Bool) (o : Option Request) → opens any (if b then g o else None) ≡ true → opens any (if b then o else None) ≡ true
    by_test true o h = keeps o h
    by_test false o h = h

pub dims-freed : (named : Request → Bool) → Dims (by_value (kept_of named))
dims-freed named = dims-value (kept_of named) refl keeps
  where
    keeps : (o : Option Request) → opens any (kept_of named o) ≡ true → opens any o ≡ true
    keeps None h = h
    keeps (Some r) h =
        elim (true_or_false (named r)) [
          | inl meant ↦
              let bad : opens any (if true then None else Some r) ≡ true = rw meant at h in
              let worse : false ≡ true = bad in
              absurd cc
          | inr other ↦ rw other at h
        ]

pub dims-over : (channel : Handle) → Dims (by_value (option_map (over_on channel)))
dims-over channel = dims-value (option_map (over_on channel)) refl keeps
  where
    keeps : (o : Option Request) → opens any (option_map (over_on channel) o) ≡ true → opens any o ≡ true
    keeps None h = h
    keeps (Some r) h =
        elim (true_or_false (asks_on channel r)) [
          | inl meant ↦
              let worse : false ≡ true = rw meant at h in
              absurd cc
          | inr other ↦ rw other at h
        ]

-- ---- a request is issued

pub place-held : (t : Table Request) (q : Handle) (r : Request) → MayGive t q → place_at (with_held q r t) q.index ≡ record { generation = q.generation; value = Some r }
place-held t q r may =
    let place : Place Request = record { generation = q.generation; value = Some r } in
    elim (cases_eq q.index (length t)) [
      | inl last ↦ rw (eq-eqb q.index (length t) last) (get_or_push t place blank q.index (sym last))
      | inr other ↦ rw (ne_eqb q.index (length t) other) (get_or-set_same t q.index place blank (omega (arith, may.index)))
    ]

pub place-beside : (t : Table Request) (q : Handle) (r : Request) (i : ℕ) → MayGive t q → i ≢ q.index → place_at (with_held q r t) i ≡ place_at t i
place-beside t q r i may other =
    let place : Place Request = record { generation = q.generation; value = Some r } in
    elim (cases_eq q.index (length t)) [
      | inl last ↦
          rw (eq-eqb q.index (length t) last)
          (elim (cases_lt i (length t)) [
            | inl within ↦ get_or_append_left t (place ∷ []) blank i within
            | inr past ↦
                get_or_past (t ++ place ∷ []) i blank (omega (arith, length-append t (place ∷ []))) ∙ sym (get_or_past t i blank past)
          ])
      | inr no_last ↦ rw (ne_eqb q.index (length t) no_last) (get_or-set_other t q.index i place blank other)
    ]

pub grows-held : (t : Table Request) (q : Handle) (r : Request) → MayGive t q → Grows t (with_held q r t)
grows-held t q r may = λ i.
    elim (cases_eq i q.index) [
      | inl here ↦
          let new : (place_at (with_held q r t) i).generation ≡ q.generation =
          ap (λ (j : ℕ). (place_at (with_held q r t) j).generation) here ∙ ap (λ (p : Place Request). p.generation) (place-held t q r may) in
          let old : (place_at t i).generation ≡ (place_at t q.index).generation = ap (λ (j : ℕ). (place_at t j).generation) here in
          omega (arith, may.next)
      | inr other ↦ omega (arith, ap (λ (p : Place Request). p.generation) (place-beside t q r i may other))
    ]

-- the new one is open if it begins so
pub open-held : (t : Table Request) (q : Handle) (r : Request) → MayGive t q → is_open any (with_held q r t) q ≡ is_open_in r.stage
open-held t q r may =
    ap (λ (p : Place Request). opens any (value_for q.generation p)) (place-held t q r may)
    ∙ ap (λ (b : Bool). opens any (if b then Some r else None)) (eq-eqb q.generation q.generation refl)

-- the others are as they were
pub open-beside : (t : Table Request) (q : Handle) (r : Request) (h : Handle) → MayGive t q → WasGiven t h → is_open any (with_held q r t) h ≡ is_open any t h
open-beside t q r h may given =
    elim (cases_eq h.index q.index) [
      | inl here ↦
          let new : place_at (with_held q r t) h.index ≡ record { generation = q.generation; value = Some r } =
          ap (place_at (with_held q r t)) here ∙ place-held t q r may in
          let late : q.generation ≢ h.generation = λ same. absurd (omega (arith, may.next, ap (λ (j : ℕ). (place_at t j).generation) here)) in
          let after : value_for h.generation (place_at (with_held q r t) h.index) ≡ None =
          ap (value_for h.generation) new ∙ ap (λ (b : Bool). if b then Some r else None) (ne_eqb q.generation h.generation late) in
          let vacant : (place_at t h.index).value ≡ None = ap (λ (j : ℕ). (place_at t j).value) here ∙ may.free in
          let before : value_for h.generation (place_at t h.index) ≡ None = value_for-vacant h.generation (place_at t h.index) vacant in
          ap (opens any) after ∙ sym (ap (opens any) before)
      | inr other ↦ ap (λ (p : Place Request). opens any (value_for h.generation p)) (place-beside t q r h.index may other)
    ]

pub given-new : (t : Table Request) (q : Handle) (r : Request) → MayGive t q → WasGiven (with_held q r t) q
given-new t q r may = omega (arith, ap (λ (p : Place Request). p.generation) (place-held t q r may))

-- ---- what is found

-- what is open after was found before
abbrev pub Keeps : Table Request → Table Request → Type 0
Keeps t u = (q : Handle) → is_open any u q ≡ true → under u q ≡ under t q

pub keeps-freed : (t : Table Request) (h : Handle) → Keeps t (with_freed h t)
keeps-freed t h = λ q opened. found q opened (thins-freed t h q.index)
  where
    found : (q : Handle) → is_open any (with_freed h t) q ≡ true → Thins t (with_freed h t) q.index → under (with_freed h t) q ≡ under t q
    found q opened thins =
        elim thins.value [
          | inl none ↦
              let nothing : value_for q.generation (place_at (with_freed h t) q.index) ≡ None = value_for-vacant q.generation (place_at (with_freed h t) q.index) none in
              let bad : false ≡ true = sym (ap (opens any) nothing) ∙ opened in
              absurd cc
          | inr same ↦ ap (value_for q.generation) same
        ]

-- what is open at a place after a change is as it was
abbrev pub Stays : (Place Request → Place Request) → Type 0
Stays f = (p : Place Request) (g : ℕ) → opens any (value_for g (f p)) ≡ true → value_for g (f p) ≡ value_for g p

stays-value : (g : Option Request → Option Request) → ((o : Option Request) → opens any (g o) ≡ true → g o ≡ o) → Stays (by_value g)
stays-value g keeps = λ p n h. by_test (p.generation == n) p.value h
  where
    by_test : (b : Bool) (o : Option Request) → opens any (if b then g o else None) ≡ true → ◌≡◌ {A = Option Request} (if b then g o else None) (if b then o else None)
    by_test true o h = keeps o h
    by_test false o h = refl

pub stays-freed : (named : Request → Bool) → Stays (by_value (kept_of named))
stays-freed named = stays-value (kept_of named) keeps
  where
    keeps : (o : Option Request) → opens any (kept_of named o) ≡ true → kept_of named o ≡ o
    keeps None h = refl
    keeps (Some r) h =
        elim (true_or_false (named r)) [
          | inl meant ↦
              let bad : opens any (if true then None else Some r) ≡ true = rw meant at h in
              let worse : false ≡ true = bad in
              absurd cc
          | inr other ↦ rw other refl
        ]

pub stays-over : (channel : Handle) → Stays (by_value (option_map (over_on channel)))
stays-over channel = stays-value (option_map (over_on channel)) keeps
  where
    keeps : (o : Option Request) → opens any (option_map (over_on channel) o) ≡ true → option_map (over_on channel) o ≡ o
    keeps None h = refl
    keeps (Some r) h =
        elim (true_or_false (asks_on channel r)) [
          | inl meant ↦
              let worse : false ≡ true = rw meant at h in
              absurd cc
          | inr other ↦ rw other refl
        ]

pub keeps-map : (f : Place Request → Place Request) (t : Table Request) → Dims f → Stays f → Keeps t (map f t)
keeps-map f t dims stays = λ q h.
    ap (value_for q.generation) (place-map f t q.index dims)
    ∙ stays (place_at t q.index) q.generation (subst (λ (p : Place Request). opens any (value_for q.generation p) ≡ true) (place-map f t q.index dims) h)

-- of those whose ids are free none is open
pub none-freed : (named : Request → Bool) (t : Table Request) (q : Handle) → is_open named (map (by_value (kept_of named)) t) q ≡ false
none-freed named t q =
    ap (λ (p : Place Request). opens named (value_for q.generation p)) (place-map (by_value (kept_of named)) t q.index (dims-freed named))
    ∙ by_test ((place_at t q.index).generation == q.generation) (place_at t q.index).value
  where
    by_test : (b : Bool) (o : Option Request) → opens named (if b then kept_of named o else None) ≡ false
    by_test false o = refl
    by_test true None = refl
    by_test true (Some r) =
        elim (true_or_false (named r)) [ inl meant ↦ rw meant refl | inr other ↦ rw (other, other) refl ]

pub and-false : (b : Bool) → (b && false) ≡ false
and-false true = refl
and-false false = refl

-- of those that are over none is open
pub none-over : (channel : Handle) (t : Table Request) (q : Handle) → is_open (asks_on channel) (map (by_value (option_map (over_on channel))) t) q ≡ false
none-over channel t q =
    ap (λ (p : Place Request). opens (asks_on channel) (value_for q.generation p)) (place-map (by_value (option_map (over_on channel))) t q.index (dims-over channel))
    ∙ by_test ((place_at t q.index).generation == q.generation) (place_at t q.index).value
  where
    by_test : (b : Bool) (o : Option Request) → opens (asks_on channel) (if b then option_map (over_on channel) o else None) ≡ false
    by_test false o = refl
    by_test true None = refl
    by_test true (Some r) =
        elim (true_or_false (asks_on channel r)) [
          | inl meant ↦
              ap (λ (b : Bool). let s : Request = if b then record r { stage = Draining } else r in opens (asks_on channel) (Some s)) meant
              ∙ and-false (asks_on channel r)
          | inr other ↦
              ap (λ (b : Bool). let s : Request = if b then record r { stage = Draining } else r in opens (asks_on channel) (Some s)) other
              ∙ ap (λ (b : Bool). b && is_open_in r.stage) other
        ]

pub under-held : (t : Table Request) (q : Handle) (r : Request) → MayGive t q → under (with_held q r t) q ≡ Some r
under-held t q r may =
    ap (value_for q.generation) (place-held t q r may)
    ∙ ap (λ (b : Bool). if b then Some r else None) (eq-eqb q.generation q.generation refl)

-- what was given before is found as it was
pub under-beside : (t : Table Request) (q : Handle) (r : Request) (h : Handle) → MayGive t q → WasGiven t h → under (with_held q r t) h ≡ under t h
under-beside t q r h may given =
    elim (cases_eq h.index q.index) [
      | inl here ↦
          let new : place_at (with_held q r t) h.index ≡ record { generation = q.generation; value = Some r } =
          ap (place_at (with_held q r t)) here ∙ place-held t q r may in
          let late : q.generation ≢ h.generation = λ same. absurd (omega (arith, may.next, ap (λ (j : ℕ). (place_at t j).generation) here)) in
          let after : value_for h.generation (place_at (with_held q r t) h.index) ≡ None =
          ap (value_for h.generation) new ∙ ap (λ (b : Bool). if b then Some r else None) (ne_eqb q.generation h.generation late) in
          let vacant : (place_at t h.index).value ≡ None = ap (λ (j : ℕ). (place_at t j).value) here ∙ may.free in
          let before : value_for h.generation (place_at t h.index) ≡ None = value_for-vacant h.generation (place_at t h.index) vacant in
          after ∙ sym before
      | inr other ↦ ap (value_for h.generation) (place-beside t q r h.index may other)
    ]
