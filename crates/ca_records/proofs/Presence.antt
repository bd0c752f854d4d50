-- The records at places, and the list of them.
use Rattle.std.proofs.Common.{◌≡◌, ◌≢◌, ℕ, zero, suc, ◌+◌, List, [], ◌∷◌, ◌++◌, length, Bool, true, false, Option, None, Some, slice_set, refl, ap, arith}
use Rattle.std.specs.Str.{bytes_eq}
use Rattle.std.proofs.lemmas.List.Sums.{sum_by-cons}
use Rattle.std.proofs.lemmas.Slice.Eq.{bytes_eq-Decides}
use Rattle.ca_text.specs.Place.{At}
use Rattle.ca_text.proofs.Places.{some_is}
use Rattle.ca_records.specs.Puts.{Record, record_named, removed, waiting_in, with_record}
use Rattle.ca_records.specs.Store.{present}

-- whether a record has a name
abbrev pub has_name : List ℕ → Record → Bool
has_name name r = bytes_eq r.state.name name

pub has-name : (name : List ℕ) (r : Record) → r.state.name ≡ name → has_name name r ≡ true
has-name name r e = (bytes_eq-Decides r.state.name name).1 e

-- no record at these places has this name
abbrev pub Lack : List ℕ → List (Option Record) → Type 0
Lack name slots = (j : ℕ) (b : Record) → At slots j (Some b) → has_name name b ≡ false

-- no record but the one at this place has this name
abbrev pub LackBut : List ℕ → ℕ → List (Option Record) → Type 0
LackBut name place slots = (j : ℕ) (b : Record) → At slots j (Some b) → j ≢ place → has_name name b ≡ false

lack-rest : (name : List ℕ) (slot : Option Record) (slots : List (Option Record)) → Lack name (slot ∷ slots) → Lack name slots
lack-rest name slot slots lack = λ j b at. lack (suc j) b at

lack-first : (name : List ℕ) (slot : Option Record) (slots : List (Option Record)) → LackBut name zero (slot ∷ slots) → Lack name slots
lack-first name slot slots lack = λ j b at. lack (suc j) b at (λ h. cc)

lack-but-rest : (name : List ℕ) (place : ℕ) (slot : Option Record) (slots : List (Option Record)) → LackBut name (suc place) (slot ∷ slots) → LackBut name place slots
lack-but-rest name place slot slots lack = λ j b at other. lack (suc j) b at (λ h. other (omega (arith, h)))

-- ---- no record has the name

pub named-none : (name : List ℕ) (slots : List (Option Record)) → Lack name slots → record_named (present slots) name ≡ None
named-none name [] lack = refl
named-none name (None ∷ slots) lack = named-none name slots (lack-rest name None slots lack)
named-none name (Some r ∷ slots) lack =
    let here : has_name name r ≡ false = lack zero r refl in rw here (named-none name slots (lack-rest name (Some r) slots lack))

with-none : (name : List ℕ) (f : Record → Record) (slots : List (Option Record)) → Lack name slots → present slots ≡ with_record name f (present slots)
with-none name f [] lack = refl
with-none name f (None ∷ slots) lack = with-none name f slots (lack-rest name None slots lack)
with-none name f (Some r ∷ slots) lack =
    let here : has_name name r ≡ false = lack zero r refl in
    let rest : present slots ≡ with_record name f (present slots) = with-none name f slots (lack-rest name (Some r) slots lack) in
    rw here (ap (λ rs. r ∷ rs) rest)

removed-none : (name : List ℕ) (slots : List (Option Record)) → Lack name slots → present slots ≡ removed name (present slots)
removed-none name [] lack = refl
removed-none name (None ∷ slots) lack = removed-none name slots (lack-rest name None slots lack)
removed-none name (Some r ∷ slots) lack =
    let here : has_name name r ≡ false = lack zero r refl in
    let rest : present slots ≡ removed name (present slots) = removed-none name slots (lack-rest name (Some r) slots lack) in
    rw here (ap (λ rs. r ∷ rs) rest)

-- ---- one record has the name

pub named-one : (name : List ℕ) (slots : List (Option Record)) (place : ℕ) (r : Record) → At slots place (Some r) → has_name name r ≡ true → LackBut name place slots → record_named (present slots) name ≡ Some r
named-one name [] place r at is lack = absurd cc
named-one name (slot ∷ slots) zero r at is lack =
    let here : slot ≡ Some r = some_is slot (Some r) at in
    rw (here, is) refl
named-one name (None ∷ slots) (suc place) r at is lack = named-one name slots place r at is (lack-but-rest name place None slots lack)
named-one name (Some b ∷ slots) (suc place) r at is lack =
    let here : has_name name b ≡ false = lack zero b refl (λ h. cc) in
    rw here (named-one name slots place r at is (lack-but-rest name place (Some b) slots lack))

pub with-one : (name : List ℕ) (f : Record → Record) (slots : List (Option Record)) (place : ℕ) (r : Record) → At slots place (Some r) → has_name name r ≡ true → LackBut name place slots → present (slice_set slots place (Some (f r))) ≡ with_record name f (present slots)
with-one name f [] place r at is lack = absurd cc
with-one name f (slot ∷ slots) zero r at is lack =
    let here : slot ≡ Some r = some_is slot (Some r) at in
    let rest : present slots ≡ with_record name f (present slots) = with-none name f slots (lack-first name slot slots lack) in
    rw (here, is) (ap (λ rs. f r ∷ rs) rest)
with-one name f (None ∷ slots) (suc place) r at is lack = with-one name f slots place r at is (lack-but-rest name place None slots lack)
with-one name f (Some b ∷ slots) (suc place) r at is lack =
    let here : has_name name b ≡ false = lack zero b refl (λ h. cc) in
    let rest : present (slice_set slots place (Some (f r))) ≡ with_record name f (present slots) = with-one name f slots place r at is (lack-but-rest name place (Some b) slots lack) in
    rw here (ap (λ rs. b ∷ rs) rest)

pub removed-one : (name : List ℕ) (slots : List (Option Record)) (place : ℕ) (r : Record) → At slots place (Some r) → has_name name r ≡ true → LackBut name place slots → present (slice_set slots place None) ≡ removed name (present slots)
removed-one name [] place r at is lack = absurd cc
removed-one name (slot ∷ slots) zero r at is lack =
    let here : slot ≡ Some r = some_is slot (Some r) at in
    let rest : present slots ≡ removed name (present slots) = removed-none name slots (lack-first name slot slots lack) in
    rw (here, is) rest
removed-one name (None ∷ slots) (suc place) r at is lack = removed-one name slots place r at is (lack-but-rest name place None slots lack)
removed-one name (Some b ∷ slots) (suc place) r at is lack =
    let here : has_name name b ≡ false = lack zero b refl (λ h. cc) in
    let rest : present (slice_set slots place None) ≡ removed name (present slots) = removed-one name slots place r at is (lack-but-rest name place (Some b) slots lack) in
    rw here (ap (λ rs. b ∷ rs) rest)

-- ---- a record comes

pub present-snoc : (slots : List (Option Record)) (r : Record) → present (slots ++ Some r ∷ []) ≡ present slots ++ r ∷ []
present-snoc [] r = refl
present-snoc (None ∷ slots) r = present-snoc slots r
present-snoc (Some b ∷ slots) r = ap (λ rs. b ∷ rs) (present-snoc slots r)

-- the records before a free place and after it
pub record Around (slots : List (Option Record)) (place : ℕ) (r : Record) : Type 0 where
  pub before : List Record
  pub after : List Record
  pub were : present slots ≡ before ++ after
  pub are : present (slice_set slots place (Some r)) ≡ before ++ r ∷ after

pub around : (slots : List (Option Record)) (place : ℕ) (r : Record) → At slots place None → Around slots place r
around [] place r at = absurd cc
around (slot ∷ slots) zero r at =
    let here : slot ≡ None = some_is slot None at in
    record { before = []; after = present slots; were = rw here refl; are = refl }
around (None ∷ slots) (suc place) r at =
    let rest = around slots place r at in record { before = rest.before; after = rest.after; were = rest.were; are = rest.are }
around (Some b ∷ slots) (suc place) r at =
    let rest = around slots place r at in
    record { before = b ∷ rest.before; after = rest.after; were = ap (λ rs. b ∷ rs) rest.were; are = ap (λ rs. b ∷ rs) rest.are }

-- ---- how many puts wait

pub waiting-set : (slots : List (Option Record)) (place : ℕ) (r next : Record) → At slots place (Some r) → waiting_in (present (slice_set slots place (Some next))) + length r.waiting ≡ waiting_in (present slots) + length next.waiting
waiting-set [] place r next at = absurd cc
waiting-set (slot ∷ slots) zero r next at =
    let here : slot ≡ Some r = some_is slot (Some r) at in
    rw here (omega (arith, sum_by-cons (λ (q : Record). length q.waiting) next (present slots), sum_by-cons (λ (q : Record). length q.waiting) r (present slots)))
waiting-set (None ∷ slots) (suc place) r next at = waiting-set slots place r next at
waiting-set (Some b ∷ slots) (suc place) r next at =
    omega (arith, waiting-set slots place r next at, sum_by-cons (λ (q : Record). length q.waiting) b (present (slice_set slots place (Some next))), sum_by-cons (λ (q : Record). length q.waiting) b (present slots))

pub waiting-gone : (slots : List (Option Record)) (place : ℕ) (r : Record) → At slots place (Some r) → waiting_in (present (slice_set slots place None)) + length r.waiting ≡ waiting_in (present slots)
waiting-gone [] place r at = absurd cc
waiting-gone (slot ∷ slots) zero r at =
    let here : slot ≡ Some r = some_is slot (Some r) at in rw here (omega (arith, sum_by-cons (λ (q : Record). length q.waiting) r (present slots)))
waiting-gone (None ∷ slots) (suc place) r at = waiting-gone slots place r at
waiting-gone (Some b ∷ slots) (suc place) r at =
    omega (arith, waiting-gone slots place r at, sum_by-cons (λ (q : Record). length q.waiting) b (present (slice_set slots place None)), sum_by-cons (λ (q : Record). length q.waiting) b (present slots))

pub waiting-came : (slots : List (Option Record)) (place : ℕ) (r : Record) → At slots place None → waiting_in (present (slice_set slots place (Some r))) ≡ waiting_in (present slots) + length r.waiting
waiting-came [] place r at = absurd cc
waiting-came (slot ∷ slots) zero r at =
    let here : slot ≡ None = some_is slot None at in rw here (omega (arith, sum_by-cons (λ (q : Record). length q.waiting) r (present slots)))
waiting-came (None ∷ slots) (suc place) r at = waiting-came slots place r at
waiting-came (Some b ∷ slots) (suc place) r at =
    omega (arith, waiting-came slots place r at, sum_by-cons (λ (q : Record). length q.waiting) b (present (slice_set slots place (Some r))), sum_by-cons (λ (q : Record). length q.waiting) b (present slots))
