-- Histories that break a part of what is said of names, of requests that are sent, and of writes.
use Rattle.std.proofs.Common.{◌≡◌, ℕ, zero, suc, List, [], ◌∷◌, refl, sym, ap, subst, ◌∙◌, arith}
use Rattle.ca_text.proofs.Places.{some_is}
use Rattle.std.specs.Prelude.{not, true, take}
use Rattle.ca_text.specs.Place.{At}
use Rattle.ca_records.specs.Record.{RecordState}
use Rattle.ca_model.specs.History.{Circuit, Entry, Line, Added, Removed, Opened}
use Rattle.ca_model.specs.Channels.{Has, OfCircuits}
use Rattle.ca_model_examples.specs.Worlds.{AnyDue, circuit, temp, temp_name, world}
use Rattle.ca_model_examples.specs.Parts.{Part, Holds, BreaksOnly, IsSafeNow, InCircuit}
use Rattle.ca_model_examples.specs.Parts as part
use Rattle.ca_model_examples.specs.Unsafe.{removed_again, added_again, opened, silent, temp_removed, temp_there}
use Rattle.ca_model_examples.proofs.Lists.{each-at, none-at}
use Rattle.ca_model_examples.proofs.Quiet.{any, none, quiet, holds, its, whole, is_removed}

pub zero-one : ◌≡◌ {A = ℕ} 0 1 → ⊥
zero-one e = omega (arith, e)

abbrev nothing : Circuit
nothing = circuit [] [] [] []

-- what a part says of the only circuit
pub its-part : (p : Part) (c : Circuit) (x : List Line) (y : List Entry) → c.client ≡ 0 → c.server ≡ 0 → OfCircuits (world (c ∷ []) x y) (InCircuit AnyDue p) → InCircuit AnyDue p 0 c x y
its-part p c x y e f all = its AnyDue (world (c ∷ []) x y) (InCircuit AnyDue p) all 0 c x y (refl, subst (λ (k : ℕ). At (x ∷ []) k x) (sym e) refl, subst (λ (k : ℕ). At (y ∷ []) k y) (sym f) refl)

-- ---- names

abbrev removed-of : Entry → ℕ
removed-of (Removed r) = r
removed-of e = 0

opened-each : (p : Part) → Holds AnyDue p (silent opened temp_there)
opened-each part.Acts = quiet AnyDue part.Acts nothing opened temp_there refl refl refl refl refl
opened-each p = quiet AnyDue p nothing opened temp_there refl refl refl refl refl

pub opened-safe : IsSafeNow (silent opened temp_there)
opened-safe = whole AnyDue _ opened-each

twice-rest : (p : Part) → (p ≡ part.OneName → ⊥) → Holds AnyDue p (silent (Opened 0 temp_name ∷ opened) temp_there)
twice-rest part.OneName ne = absurd (ne refl)
twice-rest p ne = quiet AnyDue p nothing (Opened 0 temp_name ∷ opened) temp_there refl refl refl refl refl

pub opened-twice : BreaksOnly part.OneName (silent (Opened 0 temp_name ∷ opened) temp_there)
opened-twice = (twice-rest, λ h. zero-one (its-part part.OneName nothing _ temp_there refl refl h.0 0 1 0 temp_name temp_name refl refl))

abbrev number-of : Entry → ℕ
number-of (Added r s) = r
number-of e = 0

record-at : (i r : ℕ) (a : RecordState) → At (Added 0 temp ∷ Added 1 temp ∷ []) i (Added r a) → i ≡ r
record-at i r a at = each-at (λ (k : ℕ) (e : Entry). e ≡ Added r a → k ≡ r) (Added 0 temp ∷ Added 1 temp ∷ []) ((λ e. ap number-of e), ((λ e. ap number-of e), tt)) i _ at refl

two-rest : (p : Part) → (p ≡ part.OneAtOnce → ⊥) → Holds AnyDue p (silent opened (Added 0 temp ∷ Added 1 temp ∷ []))
two-rest part.OneAtOnce ne = absurd (ne refl)
two-rest part.OneRecord ne = holds AnyDue part.OneRecord nothing opened (Added 0 temp ∷ Added 1 temp ∷ []) refl refl (λ i j r a b p q. record-at i r a p ∙ sym (record-at j r b q)) tt tt
two-rest p ne = quiet AnyDue p nothing opened (Added 0 temp ∷ Added 1 temp ∷ []) refl refl refl refl refl

pub two-of-a-name : BreaksOnly part.OneAtOnce (silent opened (Added 0 temp ∷ Added 1 temp ∷ []))
two-of-a-name = (two-rest, λ h. its-part part.OneAtOnce nothing opened _ refl refl h.0 1 1 0 temp refl (temp, (0, refl), refl, λ r. none is_removed (Added 0 temp ∷ []) refl r.0 _ r.1 refl))

-- a record that was added first is removed once
pub was-there : (y : List Entry) → not (any is_removed y) ≡ true → (i r : ℕ) → At (Added 0 temp ∷ Removed 0 ∷ y) i (Removed r) → (name : List ℕ) × Has (take i (Added 0 temp ∷ Removed 0 ∷ y)) r name
was-there y t zero r at = absurd cc
was-there y t (suc zero) r at =
    subst (λ (q : ℕ). (name : List ℕ) × Has (Added 0 temp ∷ []) q name) (ap removed-of (some_is (Removed 0) (Removed r) at)) (temp_name, (temp, (0, refl), refl, λ g. none is_removed (Added 0 temp ∷ []) refl g.0 _ g.1 refl))
was-there y t (suc (suc i)) r at = absurd (none is_removed y t i _ at refl)

removed-each : (p : Part) → Holds AnyDue p (silent opened temp_removed)
removed-each part.WasThere = holds AnyDue part.WasThere nothing opened temp_removed refl refl (was-there [] refl) tt tt
removed-each p = quiet AnyDue p nothing opened temp_removed refl refl refl refl refl

pub removed-safe : IsSafeNow (silent opened temp_removed)
removed-safe = whole AnyDue _ removed-each

number-in : (i q : ℕ) (a : RecordState) → At temp_removed i (Added q a) → 0 ≡ q
number-in i q a at = each-at (λ (k : ℕ) (e : Entry). e ≡ Added q a → 0 ≡ q) temp_removed ((λ e. ap number-of e), ((λ e. absurd cc), tt)) i _ at refl

-- TEMP is added again after it was removed
apart : (i r q : ℕ) (s : RecordState) → At (Added 0 temp ∷ Removed 0 ∷ Added 0 temp ∷ []) i (Added r s) → Has (take i (Added 0 temp ∷ Removed 0 ∷ Added 0 temp ∷ [])) q s.name → ⊥
apart zero r q s at has = none-at has.1.0 _ has.1.1
apart (suc zero) r q s at has = cc
apart (suc (suc zero)) r q s at has = has.3 (1, subst (λ (n : ℕ). At (Added 0 temp ∷ Removed 0 ∷ []) 1 (Removed n)) (number-in has.1.0 q has.0 has.1.1) refl)
apart (suc (suc (suc i))) r q s at has = none-at i _ at

again-rest : (p : Part) → (p ≡ part.OneRecord → ⊥) → Holds AnyDue p (silent opened added_again)
again-rest part.OneRecord ne = absurd (ne refl)
again-rest part.WasThere ne = holds AnyDue part.WasThere nothing opened added_again refl refl (was-there (Added 0 temp ∷ []) refl) tt tt
again-rest part.OneAtOnce ne = holds AnyDue part.OneAtOnce nothing opened added_again refl refl (λ i r q s at has. apart i r q s at has) tt tt
again-rest p ne = quiet AnyDue p nothing opened added_again refl refl refl refl refl

pub added-again : BreaksOnly part.OneRecord (silent opened added_again)
added-again = (again-rest, λ h. (let e = its-part part.OneRecord nothing opened added_again refl refl h.0 0 2 0 temp temp refl refl in omega (arith, e)))

gone-rest : (p : Part) → (p ≡ part.WasThere → ⊥) → Holds AnyDue p (silent opened removed_again)
gone-rest part.WasThere ne = absurd (ne refl)
gone-rest p ne = quiet AnyDue p nothing opened removed_again refl refl refl refl refl

pub removed-again : BreaksOnly part.WasThere (silent opened removed_again)
removed-again = (gone-rest, λ h. (let g = its-part part.WasThere nothing opened removed_again refl refl h.0 2 0 refl in g.1.3 (1, refl)))
