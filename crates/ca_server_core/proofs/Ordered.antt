-- Records are in the order of their places.
use Rattle.std.proofs.Common.{◌≡◌, ◌∙◌, ℕ, zero, suc, ◌<◌, ◌≤◌, Bool, true, false, List, [], ◌∷◌, Option, Some, None, ap, arith, cond, refl, sym}
use Rattle.std.specs.Str.{bytes_eq}
use Rattle.std.proofs.lemmas.Bool.{both_ways}
use Rattle.std.proofs.lemmas.Slice.Eq.{bytes_eq-Decides}
use Rattle.ca_text.specs.Place.{At}
use Rattle.ca_text.proofs.Places.{some_is}
use Rattle.ca_records.specs.Puts.{Record, record_named}
use Rattle.ca_records.specs.Store.{Finds, HasAt, Store, present, records_of}
use Rattle.ca_server_core.specs.ForHistories.{AreNamedApart}

-- how many of the first p places have a record
abbrev pub before : ℕ → List (Option Record) → ℕ
before zero slots = 0
before (suc p) [] = 0
before (suc p) (Some r ∷ slots) = suc (before p slots)
before (suc p) (None ∷ slots) = before p slots

before-at : (slots : List (Option Record)) (p : ℕ) (r : Record) → At slots p (Some r) → At (present slots) (before p slots) r
before-at [] p r at = absurd cc
before-at (Some x ∷ slots) zero r at = some_is (Some x) (Some r) at
before-at (None ∷ slots) zero r at = absurd cc
before-at (Some x ∷ slots) (suc p) r at = before-at slots p r at
before-at (None ∷ slots) (suc p) r at = before-at slots p r at

before-less : (slots : List (Option Record)) (p q : ℕ) (r : Record) → At slots p (Some r) → p < q → before p slots < before q slots
before-less [] p q r at less = absurd cc
before-less (x ∷ slots) p zero r at less = absurd (omega (arith, less))
before-less (Some x ∷ slots) zero (suc q) r at less = omega arith
before-less (None ∷ slots) zero (suc q) r at less = absurd cc
before-less (Some x ∷ slots) (suc p) (suc q) r at less =
    let h : before p slots < before q slots = before-less slots p q r at (omega (arith, less)) in omega (arith, h)
before-less (None ∷ slots) (suc p) (suc q) r at less = before-less slots p q r at (omega (arith, less))

before-most : (slots : List (Option Record)) (p q : ℕ) → q ≤ p → before q slots ≤ before p slots
before-most slots p zero le = (let z : before zero slots ≡ 0 = refl in omega (arith, z))
before-most slots zero (suc q) le = absurd (omega (arith, le))
before-most [] (suc p) (suc q) le = omega arith
before-most (Some x ∷ slots) (suc p) (suc q) le = (let h : before q slots ≤ before p slots = before-most slots p q (omega (arith, le)) in omega (arith, h))
before-most (None ∷ slots) (suc p) (suc q) le = before-most slots p q (omega (arith, le))

-- where the record that is found is among the others
pub stands-before : (s : Store) (name : List ℕ) (p : ℕ) → Finds s name p → AreNamedApart (records_of s) → (i : ℕ) (r : Record) → At (records_of s) i r → r.state.name ≡ name → i ≡ before p s.slots
stands-before s name p f apart i r at named = apart i (before p s.slots) r f.r at (before-at s.slots p f.r f.at) (named ∙ sym f.named)

pub less-before : (s : Store) (name other : List ℕ) (p q : ℕ) → Finds s name p → Finds s other q → AreNamedApart (records_of s) → (i j : ℕ) (r t : Record) → At (records_of s) i r → At (records_of s) j t → r.state.name ≡ name → t.state.name ≡ other → p < q → i < j
less-before s name other p q f g apart i j r t at to is_r is_t less =
    let is_i : i ≡ before p s.slots = stands-before s name p f apart i r at is_r in
    let is_j : j ≡ before q s.slots = stands-before s other q g apart j t to is_t in
    let h : before p s.slots < before q s.slots = before-less s.slots p q f.r f.at less in
    omega (arith, is_i, is_j, h)

pub most-before : (s : Store) (name other : List ℕ) (p q : ℕ) → Finds s name p → Finds s other q → AreNamedApart (records_of s) → (i j : ℕ) (r t : Record) → At (records_of s) i r → At (records_of s) j t → r.state.name ≡ name → t.state.name ≡ other → q ≤ p → j ≤ i
most-before s name other p q f g apart i j r t at to is_r is_t most =
    let is_i : i ≡ before p s.slots = stands-before s name p f apart i r at is_r in
    let is_j : j ≡ before q s.slots = stands-before s other q g apart j t to is_t in
    let h : before q s.slots ≤ before p s.slots = before-most s.slots p q most in
    omega (arith, is_i, is_j, h)

-- a record of a name is found under it
pub named-some : (rs : List Record) (name : List ℕ) (i : ℕ) (r : Record) → At rs i r → r.state.name ≡ name → record_named rs name ≡ None → ⊥
named-some [] name i r at named none = absurd cc
named-some (x ∷ rs) name i r at named none = go (bytes_eq x.state.name name) refl none i at (λ k to rest. named-some rs name k r to named rest)
  where
    go : (b : Bool) → bytes_eq x.state.name name ≡ b → cond b (Some x) (record_named rs name) ≡ None → (i : ℕ) → At (x ∷ rs) i r → ((k : ℕ) → At rs k r → record_named rs name ≡ None → ⊥) → ⊥
    go true is e i at rest = absurd cc
    go false is e zero at rest = both_ways (bytes_eq x.state.name name) is ((bytes_eq-Decides x.state.name name).1 (ap (λ (y : Record). y.state.name) (some_is x r at) ∙ named))
    go false is e (suc i) at rest = rest i at e

-- so is the record at a place
pub named-there : (s : Store) (p : ℕ) (r : Record) → HasAt s p r → record_named (records_of s) r.state.name ≡ None → ⊥
named-there s p r at none = named-some (records_of s) r.state.name (before p s.slots) r (before-at s.slots p r at) refl none
