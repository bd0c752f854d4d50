-- The names of records stay apart.
use Rattle.std.proofs.Common.{◌≡◌, ℕ, zero, suc, Bool, true, false, cond, List, [], ◌∷◌, ◌++◌, Option, Some, None, refl, sym, ap, subst, ◌∙◌}
use Rattle.std.specs.Prelude.{drop, filter, map, take}
use Rattle.std.specs.Str.{bytes_eq}
use Rattle.std.proofs.lemmas.Slice.Eq.{bytes_eq-Decides}
use Rattle.ca_text.specs.Place.{At}
use Rattle.ca_text.proofs.Places.{some_is, At-mapped}
use Rattle.ca_records.specs.Puts.{Record, record_named}
use Rattle.ca_records.specs.Record.{RecordState}
use Rattle.ca_server.specs.Counts.{AreApart}

-- none of these records has this name
abbrev pub Lacks : List ℕ → List Record → Type 0
Lacks name [] = Unit {0}
Lacks name (r ∷ rs) = (r.state.name ≡ name → ⊥) × Lacks name rs

-- none has the name of one before it
abbrev pub Distinct : List Record → Type 0
Distinct [] = Unit {0}
Distinct (r ∷ rs) = Lacks r.state.name rs × Distinct rs

state : Record → RecordState
state r = r.state

-- ---- both forms

lacks-of : (name : List ℕ) (rs : List Record) → ((k : ℕ) (r : Record) → At rs k r → r.state.name ≡ name → ⊥) → Lacks name rs
lacks-of name [] none = tt
lacks-of name (r ∷ rs) none = (none zero r refl, lacks-of name rs (λ k q at. none (suc k) q at))

lacks-at : (name : List ℕ) (rs : List Record) (k : ℕ) (r : Record) → Lacks name rs → At rs k r → r.state.name ≡ name → ⊥
lacks-at name [] k r lacks at is = absurd cc
lacks-at name (q ∷ rs) zero r lacks at is = lacks.0 (ap (λ (x : Record). x.state.name) (some_is q r at) ∙ is)
lacks-at name (q ∷ rs) (suc k) r lacks at is = lacks-at name rs k r lacks.1 at is

-- places of records whose names are equal are equal
abbrev Once : List Record → Type 0
Once rs = (i j : ℕ) (a b : Record) → At rs i a → At rs j b → a.state.name ≡ b.state.name → i ≡ j

no-suc : (k : ℕ) → zero ≡ suc k → ⊥
no-suc k e = cc

distinct-once : (rs : List Record) → Once rs → Distinct rs
distinct-once [] once = tt
distinct-once (r ∷ rs) once = (
  lacks-of r.state.name rs (λ k q at is. no-suc k (once zero (suc k) r q refl at (sym is))),
  distinct-once rs (λ i j a b p q is. (let e : suc i ≡ suc j = once (suc i) (suc j) a b p q is in cc)),
)

once-distinct : (rs : List Record) → Distinct rs → Once rs
once-distinct [] d i j a b p q is = absurd cc
once-distinct (r ∷ rs) d zero zero a b p q is = refl
once-distinct (r ∷ rs) d zero (suc j) a b p q is = absurd (lacks-at r.state.name rs j b d.0 q (sym is ∙ ap (λ (x : Record). x.state.name) (sym (some_is r a p))))
once-distinct (r ∷ rs) d (suc i) zero a b p q is = absurd (lacks-at r.state.name rs i a d.0 p (is ∙ ap (λ (x : Record). x.state.name) (sym (some_is r b q))))
once-distinct (r ∷ rs) d (suc i) (suc j) a b p q is = ap suc (once-distinct rs d.1 i j a b p q is)

mapped-back : (rs : List Record) (k : ℕ) (r : Record) → At rs k r → At (map (λ (x : Record). x.state) rs) k r.state
mapped-back [] k r at = absurd cc
mapped-back (q ∷ rs) zero r at = ap (λ (x : Record). Some x.state) (some_is q r at)
mapped-back (q ∷ rs) (suc k) r at = mapped-back rs k r at

pub distinct : (rs : List Record) → AreApart rs → Distinct rs
distinct rs apart = distinct-once rs (λ i j a b p q is. apart i j a.state b.state (mapped-back rs i a p) (mapped-back rs j b q) is)

pub apart : (rs : List Record) → Distinct rs → AreApart rs
apart rs d i j a b p q is =
    let x = At-mapped (λ (x : Record). x.state) rs i a p in
    let y = At-mapped (λ (x : Record). x.state) rs j b q in
    once-distinct rs d i j x.0 y.0 x.1 y.1 (ap (λ (s : RecordState). s.name) (sym x.2) ∙ is ∙ ap (λ (s : RecordState). s.name) y.2)

-- ---- what keeps them

-- a change of each record that leaves its name
lacks-map : (f : Record → Record) → ((r : Record) → (f r).state.name ≡ r.state.name) → (name : List ℕ) (rs : List Record) → Lacks name rs → Lacks name (map f rs)
lacks-map f same name [] l = tt
lacks-map f same name (r ∷ rs) l = (λ is. l.0 (sym (same r) ∙ is), lacks-map f same name rs l.1)

pub distinct-map : (f : Record → Record) → ((r : Record) → (f r).state.name ≡ r.state.name) → (rs : List Record) → Distinct rs → Distinct (map f rs)
distinct-map f same [] d = tt
distinct-map f same (r ∷ rs) d =
    (subst (λ (n : List ℕ). Lacks n (map f rs)) (sym (same r)) (lacks-map f same r.state.name rs d.0), distinct-map f same rs d.1)

-- fewer records
lacks-filter : (t : Record → Bool) (name : List ℕ) (rs : List Record) → Lacks name rs → Lacks name (filter t rs)
lacks-filter t name [] l = tt
lacks-filter t name (r ∷ rs) l = go (t r) (lacks-filter t name rs l.1)
  where
    go : (b : Bool) → Lacks name (filter t rs) → Lacks name (cond b (r ∷ filter t rs) (filter t rs))
    go true rest = (l.0, rest)
    go false rest = rest

pub distinct-filter : (t : Record → Bool) (rs : List Record) → Distinct rs → Distinct (filter t rs)
distinct-filter t [] d = tt
distinct-filter t (r ∷ rs) d = go (t r) (distinct-filter t rs d.1)
  where
    go : (b : Bool) → Distinct (filter t rs) → Distinct (cond b (r ∷ filter t rs) (filter t rs))
    go true rest = (lacks-filter t r.state.name rs d.0, rest)
    go false rest = rest

-- what has this name, or has not
pub is-named : (name : List ℕ) (r : Record) → bytes_eq r.state.name name ≡ true → r.state.name ≡ name
is-named name r e = (bytes_eq-Decides r.state.name name).0 e

both : (b : Bool) → b ≡ true → b ≡ false → ⊥
both b p q = cc

pub not-named : (name : List ℕ) (r : Record) → (r.state.name ≡ name → ⊥) → bytes_eq r.state.name name ≡ false
not-named name r other = go (bytes_eq r.state.name name) refl
  where
    go : (b : Bool) → bytes_eq r.state.name name ≡ b → bytes_eq r.state.name name ≡ false
    go true e = absurd (other (is-named name r e))
    go false e = e

none-some : (r : Record) → (let found : Option Record = Some r in found ≡ None) → ⊥
none-some r e = cc

pub lacks-named : (name : List ℕ) (rs : List Record) → record_named rs name ≡ None → Lacks name rs
lacks-named name [] none = tt
lacks-named name (r ∷ rs) none = go (bytes_eq r.state.name name) refl none (λ is. lacks-named name rs is)
  where
    go : (b : Bool) → bytes_eq r.state.name name ≡ b → cond b (Some r) (record_named rs name) ≡ None → (record_named rs name ≡ None → Lacks name rs) → (r.state.name ≡ name → ⊥) × Lacks name rs
    go true e is rest = absurd (none-some r is)
    go false e is rest = (λ same. both (bytes_eq r.state.name name) ((bytes_eq-Decides r.state.name name).1 same) e, rest is)

-- one record more, whose name no other has
lacks-added : (n : ℕ) (q : Record) (name : List ℕ) (rs : List Record) → (q.state.name ≡ name → ⊥) → Lacks name rs → Lacks name (take n rs ++ q ∷ drop n rs)
lacks-added zero q name rs other l = (other, l)
lacks-added (suc n) q name [] other l = (other, tt)
lacks-added (suc n) q name (r ∷ rs) other l = (l.0, lacks-added n q name rs other l.1)

pub distinct-added : (n : ℕ) (q : Record) (rs : List Record) → Lacks q.state.name rs → Distinct rs → Distinct (take n rs ++ q ∷ drop n rs)
distinct-added zero q rs l d = (l, d)
distinct-added (suc n) q [] l d = (tt, tt)
distinct-added (suc n) q (r ∷ rs) l d = (lacks-added n q r.state.name rs (λ is. l.0 (sym is)) d.0, distinct-added n q rs l.1 d.1)
