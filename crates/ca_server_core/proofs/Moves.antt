-- Bytes that come on a circuit of a server, and that are handed over.
use Rattle.std.proofs.Common.{◌≡◌, ℕ, ◌≤◌, zero, suc, inl, inr, cond, List, [], ◌∷◌, length, Option, Some, None, is_some, slice_set, Result, Ok, Err, refl, sym, ap, ◌∙◌, subst, arith}
use Rattle.std.specs.Prelude.{option_map}
use Rattle.ca_arena.specs.declared.handle.Handle.{Handle}
use Rattle.ca_arena.specs.Arena.{Place}
use Rattle.ca_ids.specs.Table.{Table, under, with_changed}
use Rattle.ca_text.specs.declared.refusal.Refusal.{Refusal}
use Rattle.ca_text.specs.declared.refusal.Refusal.TheVariants as refusal
use Rattle.ca_text.specs.Place.{At}
use Rattle.ca_text.proofs.Places.{some_is}
use Rattle.ca_model.specs.Ends.{Why}
use Rattle.ca_model.specs.Server.{Ended, Open, Server, ServerCircuit, ServerEnd}
use Rattle.ca_model.specs.ServerSteps.{Gives, HasEnd, Sends, output_of}
use Rattle.ca_server_circuit.specs.Circuits.{GivesAt, SendsAt}
use Rattle.ca_server_core.specs.Circuits.{GivesIn, SendsIn}
use Rattle.ca_server_circuit.proofs.Tables.{place, under-at}

set-same : {A : Type 0} (xs : List A) (i : ℕ) (x : A) → At xs i x → slice_set xs i x ≡ xs
set-same [] i x at = refl
set-same (y ∷ xs) zero x at = ap (λ z. z ∷ xs) (sym (some_is y x at))
set-same (y ∷ xs) (suc i) x at = ap (λ ys. y ∷ ys) (set-same xs i x at)

-- what holds an id is put there again
pub changed-nothing : (t : Table ServerCircuit) (h : Handle) (c : ServerCircuit) → under t h ≡ Some c → with_changed (λ (x : ServerCircuit). c) h t ≡ t
changed-nothing t h c is =
    ap (λ (o : Option ServerCircuit). let p : Place ServerCircuit = record { generation = h.generation; value = option_map (λ (x : ServerCircuit). c) o } in cond (is_some o) (slice_set t h.index p) t) is
    ∙ set-same t h.index (place h c) (under-at t h c is)

not-ended : (e : ServerEnd) (w : Why) (left : List ℕ) → Open e ≡ Ended w left → ⊥
not-ended e w left is = cc

not-there : (c : ServerCircuit) → (let none : Option ServerCircuit = None in none ≡ Some c) → ⊥
not-there c is = cc

module _ (y : Server) (h : Handle) (after : Table ServerCircuit) where
  abbrev moved : Server
  moved = record y { circuits = after }

  -- the circuits are the same
  unmoved : (c new : ServerCircuit) → under y.circuits h ≡ Some c → new ≡ c → after ≡ with_changed (λ (x : ServerCircuit). new) h y.circuits → moved ≡ y
  unmoved c new there same changed =
      ap (λ (t : Table ServerCircuit). let z : Server = record y { circuits = t } in z)
      (changed ∙ ap (λ (x : ServerCircuit). with_changed (λ (z : ServerCircuit). x) h y.circuits) same ∙ changed-nothing y.circuits h c there)

  no-end : (w : Why) (left : List ℕ) → under y.circuits h ≡ Some (Ended w left) → (e : ServerEnd) → HasEnd y h e → ⊥
  no-end w left there e has = not-ended e w left (some_is (Open e) (Ended w left) (sym has ∙ there))

  pub gives-of : (bytes : List ℕ) (r : Result (Unit {0}) Refusal) → GivesIn y.circuits h y.moment bytes r after → Gives y h bytes r moved
  gives-of bytes r (inl g) = by g.0 g.1 r g.2 g.3 g.4
    where
      closed : (r : Result (Unit {0}) Refusal) → r ≡ Err refusal.CircuitClosed → ((e : ServerEnd) → HasEnd y h e → ⊥) → moved ≡ y → Gives y h bytes r moved
      closed r is none same = subst (λ (q : Result (Unit {0}) Refusal). Gives y h bytes q moved) (sym is) (none, same)

      by : (c new : ServerCircuit) (r : Result (Unit {0}) Refusal) → under y.circuits h ≡ Some c → GivesAt y.moment bytes c r new → after ≡ with_changed (λ (x : ServerCircuit). new) h y.circuits → Gives y h bytes r moved
      by (Open e) new (Ok u) there did changed =
          (e, there, ap (λ (t : Table ServerCircuit). let z : Server = record y { circuits = t } in z) (changed ∙ ap (λ (x : ServerCircuit). with_changed (λ (z : ServerCircuit). x) h y.circuits) did))
      by (Open e) new (Err refusal.OutOfMemory) there did changed = ((e, there), did.0, unmoved (Open e) new there did.1 changed)
      by (Open e) new (Err _) there did changed = absurd did
      by (Ended w left) new r there did changed = closed r did.0 (no-end w left there) (unmoved (Ended w left) new there did.1 changed)
  gives-of bytes r (inr none) =
      subst (λ (q : Result (Unit {0}) Refusal). Gives y h bytes q moved) (sym none.1)
      ((λ e has. not-there (Open e) (sym none.0 ∙ has)), ap (λ (t : Table ServerCircuit). let z : Server = record y { circuits = t } in z) none.2)

  zero-of : (n : ℕ) (o : Option ServerCircuit) → output_of o ≡ [] → n ≤ length (output_of o) → n ≡ 0
  zero-of n o none le = omega (arith, le, ap length none)

  pub sends-of : (n : ℕ) → n ≤ length (output_of (under y.circuits h)) → SendsIn y.circuits h n after → Sends y h n moved
  sends-of n le (inl g) = by g.0 g.1 g.2 g.3 g.4
    where
      by : (c new : ServerCircuit) → under y.circuits h ≡ Some c → SendsAt n c new → after ≡ with_changed (λ (x : ServerCircuit). new) h y.circuits → Sends y h n moved
      by (Open e) new there did changed =
          inl (e, there, subst (λ (o : Option ServerCircuit). n ≤ length (output_of o)) there le, ap (λ (t : Table ServerCircuit). let z : Server = record y { circuits = t } in z) (changed ∙ ap (λ (x : ServerCircuit). with_changed (λ (z : ServerCircuit). x) h y.circuits) did))
      by (Ended w left) new there did changed =
          inr (no-end w left there, zero-of n (under y.circuits h) (ap (λ (o : Option ServerCircuit). output_of o) there) le, unmoved (Ended w left) new there did changed)
  sends-of n le (inr none) =
      inr ((λ e has. not-there (Open e) (sym none.0 ∙ has)), zero-of n (under y.circuits h) (ap (λ (o : Option ServerCircuit). output_of o) none.0) le, ap (λ (t : Table ServerCircuit). let z : Server = record y { circuits = t } in z) none.1)

-- the same along the view of the fields
pub gives-at : (v y : Server) (h : Handle) (bytes : List ℕ) (r : Result (Unit {0}) Refusal) (after : Table ServerCircuit) → v ≡ y → GivesIn v.circuits h v.moment bytes r after → (let new : Server = record v { circuits = after } in Gives y h bytes r new)
gives-at v y h bytes r after is g = (let new : Server = record v { circuits = after } in subst (λ (x : Server). Gives x h bytes r new) is (gives-of v h after bytes r g))

pub sends-at : (v y : Server) (h : Handle) (n : ℕ) (after : Table ServerCircuit) → v ≡ y → n ≤ length (output_of (under y.circuits h)) → SendsIn v.circuits h n after → (let new : Server = record v { circuits = after } in Sends y h n new)
sends-at v y h n after is le g =
    let new : Server = record v { circuits = after } in
    subst (λ (x : Server). Sends x h n new) is (sends-of v h after n (subst (λ (x : Server). n ≤ length (output_of (under x.circuits h))) (sym is) le) g)
