-- The puts that wait on a circuit, record by record.
use Rattle.std.proofs.Common.{◌≡◌, ℕ, zero, suc, ◌+◌, ◌≤◌, ◌==◌, Bool, true, false, not, List, [], ◌∷◌, ◌++◌, length, refl, sym, ap, ◌∙◌, arith}
use Rattle.std.specs.Prelude.{◌≢◌, OnErr, Result, Ok, Err, filter, if◌then◌else◌, map, slice_set, Vec}
use Rattle.std.specs.declared.alloc.Global.{Global}
use Rattle.std.proofs.lemmas.List.{map-append}
use Rattle.ca_text.specs.Place.{At}
use Rattle.ca_text.proofs.Places.{At-map, some_is}
use Rattle.ca_model.specs.History.{Entry}
use Rattle.ca_model.specs.History as history
use Rattle.ca_model.specs.ServerEvents.{withdrawals, without_puts}
use Rattle.ca_model.specs.World as model
use Rattle.ca_world_data.specs.declared.server.PutPlace.{PutPlace}
use Rattle.ca_world_data.specs.declared.server.RecordSide.{RecordSide}
use Rattle.ca_world_data.specs.Seen.{place_of, record_of}
use Rattle.ca_world_data.specs.Withdrawing.{all_withdrawn, withdrawn_of}
use Rattle.ca_world_data.proofs.Worlds.{set-map}

told-of : (k : ℕ) (ps : List PutPlace) → map (λ (p : model.PutPlace). history.Withdrawn p.circuit p.place) (filter (λ (p : model.PutPlace). p.circuit == k) (map place_of ps)) ≡ withdrawn_of k ps
told-of k [] = refl
told-of k (p ∷ ps) = go (p.circuit == k) (told-of k ps)
  where
    rest : List model.PutPlace
    rest = filter (λ (p : model.PutPlace). p.circuit == k) (map place_of ps)

    go : (b : Bool) → map (λ (p : model.PutPlace). history.Withdrawn p.circuit p.place) rest ≡ withdrawn_of k ps
        → map (λ (p : model.PutPlace). history.Withdrawn p.circuit p.place) (if b then place_of p ∷ rest else rest) ≡ (if b then history.Withdrawn p.circuit p.place ∷ withdrawn_of k ps else withdrawn_of k ps)
    go true same = ap (λ (t : List Entry). history.Withdrawn p.circuit p.place ∷ t) same
    go false same = same

pub told-all : (k : ℕ) (rs : List RecordSide) → withdrawals (λ (n : ℕ). n == k) (map record_of rs) ≡ all_withdrawn k rs
told-all k [] = refl
told-all k (r ∷ rs) =
    map-append (λ (p : model.PutPlace). history.Withdrawn p.circuit p.place) (filter (λ (p : model.PutPlace). p.circuit == k) (map place_of r.waiting.items)) _
    ∙ (λ t. told-of k r.waiting.items t ++ told-all k rs t)

-- a record without those
pub filter-places : (test : model.PutPlace → Bool) (ps : List PutPlace) → map place_of (filter (λ (p : PutPlace). test (place_of p)) ps) ≡ filter test (map place_of ps)
filter-places test [] = refl
filter-places test (p ∷ ps) = go (test (place_of p)) (filter-places test ps)
  where
    go : (b : Bool) → map place_of (filter (λ (p : PutPlace). test (place_of p)) ps) ≡ filter test (map place_of ps) → map place_of (if b then p ∷ filter (λ (p : PutPlace). test (place_of p)) ps else filter (λ (p : PutPlace). test (place_of p)) ps) ≡ (if b then place_of p ∷ filter test (map place_of ps) else filter test (map place_of ps))
    go true same = ap (λ (t : List model.PutPlace). place_of p ∷ t) same
    go false same = same

abbrev without : ℕ → model.RecordSide → model.RecordSide
without k = without_puts (λ (n : ℕ). n == k)

-- the records from this place on without them
abbrev pub withdrawn_from : ℕ → ℕ → List model.RecordSide → List model.RecordSide
withdrawn_from zero k rs = map (without k) rs
withdrawn_from (suc i) k (r ∷ rs) = r ∷ withdrawn_from i k rs
withdrawn_from (suc i) k [] = []

pub withdrawn-over : (i k : ℕ) (rs : List model.RecordSide) → length rs ≤ i → withdrawn_from i k rs ≡ rs
withdrawn-over zero k [] le = refl
withdrawn-over zero k (r ∷ rs) le = absurd (omega (arith, le))
withdrawn-over (suc i) k [] le = refl
withdrawn-over (suc i) k (r ∷ rs) le = ap (λ (t : List model.RecordSide). r ∷ t) (withdrawn-over i k rs (omega (arith, le)))

withdrawn-here : (i k : ℕ) (rs : List model.RecordSide) (r : model.RecordSide) → At rs i r → withdrawn_from (i + 1) k (slice_set rs i (without k r)) ≡ withdrawn_from i k rs
withdrawn-here i k [] r at = absurd cc
withdrawn-here zero k (q ∷ rs) r at = ap (λ (z : model.RecordSide). without k z ∷ map (without k) rs) (sym (some_is q r at))
withdrawn-here (suc i) k (q ∷ rs) r at = (let e : suc i + 1 ≡ suc (i + 1) = omega arith in rw e (ap (λ (t : List model.RecordSide). q ∷ t) (withdrawn-here i k rs r at)))

pub withdrawn-next : (i k : ℕ) (rs : List RecordSide) (r got : RecordSide) (w : Vec PutPlace Global) → At rs i r → r ≡ got → w.items ≡ filter (λ (p : PutPlace). not (p.circuit == k)) got.waiting.items
    → withdrawn_from (i + 1) k (map record_of (slice_set rs i (record got { waiting = w }))) ≡ withdrawn_from i k (map record_of rs)
withdrawn-next i k rs r got w at is kept =
    let one : record_of (record got { waiting = w }) ≡ without k (record_of got) =
    (λ t. record (record_of got) { waiting = (ap (map place_of) kept ∙ filter-places (λ (p : model.PutPlace). not (p.circuit == k)) got.waiting.items) t }) in
    ap (withdrawn_from (i + 1) k) (set-map record_of rs i (record got { waiting = w }) ∙ ap (slice_set (map record_of rs) i) (one ∙ (λ t. without k (record_of (sym is t)))))
    ∙ withdrawn-here i k (map record_of rs) (record_of r) (At-map record_of rs i r at)

-- ---- some are withdrawn

-- what is so of an error whatever it is
pub on-err : {A E : Type 0} {P : Type 0} (r : Result A E) → P → OnErr r P
on-err (Ok x) p = tt
on-err (Err e) p = p

-- a put of the circuit is among them
pub some-put : (k i : ℕ) (ps : List PutPlace) (p : PutPlace) → At ps i p → (p.circuit == k) ≡ true → withdrawn_of k ps ≢ []
some-put k i [] p at is none = absurd cc
some-put k zero (q ∷ ps) p at is none = go (q.circuit == k) (ap (λ (z : PutPlace). z.circuit == k) (some_is q p at) ∙ is) none
  where
    go : (b : Bool) → b ≡ true → (if b then history.Withdrawn q.circuit q.place ∷ withdrawn_of k ps else withdrawn_of k ps) ≡ [] → ⊥
    go true here none = absurd cc
    go false here none = absurd cc
some-put k (suc i) (q ∷ ps) p at is none = some-put k i ps p at is (go (q.circuit == k) none)
  where
    go : (b : Bool) → (if b then history.Withdrawn q.circuit q.place ∷ withdrawn_of k ps else withdrawn_of k ps) ≡ [] → withdrawn_of k ps ≡ []
    go true none = absurd cc
    go false none = none

none-before : (xs ys : List Entry) → xs ++ ys ≡ [] → xs ≡ []
none-before [] ys none = refl
none-before (x ∷ xs) ys none = absurd cc

none-behind : (xs ys : List Entry) → xs ++ ys ≡ [] → ys ≡ []
none-behind [] ys none = none
none-behind (x ∷ xs) ys none = absurd cc

-- a record with one is among them
pub some-record : (k i : ℕ) (rs : List RecordSide) (r : RecordSide) → At rs i r → withdrawn_of k r.waiting.items ≢ [] → all_withdrawn k rs ≢ []
some-record k i [] r at some none = absurd cc
some-record k zero (q ∷ rs) r at some none =
    some (ap (λ (z : RecordSide). withdrawn_of k z.waiting.items) (sym (some_is q r at)) ∙ none-before (withdrawn_of k q.waiting.items) (all_withdrawn k rs) none)
some-record k (suc i) (q ∷ rs) r at some none = some-record k i rs r at some (none-behind (withdrawn_of k q.waiting.items) (all_withdrawn k rs) none)
