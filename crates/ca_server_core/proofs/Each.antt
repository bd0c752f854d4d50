-- A table each of whose values is changed by its handle, and puts that are taken out in turn.
use Rattle.std.proofs.Common.{◌≡◌, ℕ, zero, suc, ◌+◌, Bool, true, false, cond, not, ◌||◌, List, [], ◌∷◌, filter, length, Option, Some, None, refl, sym, ap, ◌∙◌, subst, arith}
use Rattle.std.specs.Prelude.{option_map}
use Rattle.ca_arena.specs.declared.handle.Handle.{Handle}
use Rattle.ca_arena.specs.Arena.{Place}
use Rattle.ca_ids.specs.Table.{Table, same_handle, under, with_changed, with_each, with_each_from}
use Rattle.ca_records.specs.declared.puts.Put.{Put}
use Rattle.ca_records.specs.Puts.{Record, WaitingPut, withdrawn}
use Rattle.ca_text.specs.Place.{At}
use Rattle.ca_text.proofs.Places.{some_is}
use Rattle.ca_model.specs.Server.{ServerCircuit}
use Rattle.ca_server_circuit.proofs.Cleared.{is-same, same-is}
use Rattle.ca_server_core.proofs.Finished.{one-changes}
use Rattle.ca_server_circuit.proofs.Tables.{at-under, handle-is, place, under-at}

module _ {T : Type 0} where
  at-each : (f : Handle → T → T) (n : ℕ) (t : Table T) (j : ℕ) (h : Handle) (c : T) → h.index ≡ n + j → At t j (place h c) → At (with_each_from n f t) j (place h (f h c))
  at-each f n [] j h c is at = absurd cc
  at-each f n (p ∷ t) zero h c is at =
      let same : p ≡ place h c = some_is p (place h c) at in
      let mine : (record { index = n; generation = h.generation }) ≡ h = handle-is (record { index = n; generation = h.generation }) h (omega (arith, is)) refl in
      ap (λ (q : Place T). let r : Place T = record { generation = q.generation; value = option_map (f (record { index = n; generation = q.generation })) q.value } in Some r) same
      ∙ ap (λ (g : Handle). Some (place h (f g c))) mine
  at-each f n (p ∷ t) (suc j) h c is at = at-each f (n + 1) t j h c (omega (arith, is)) at

  back-each : (f : Handle → T → T) (n : ℕ) (t : Table T) (j : ℕ) (h : Handle) (d : T) → h.index ≡ n + j → At (with_each_from n f t) j (place h d) → (c : T) × At t j (place h c) × (d ≡ f h c)
  back-each f n [] j h d is at = absurd cc
  back-each f n (p ∷ t) zero h d is at = by p.value refl (some_is _ (place h d) at)
    where
      own : Handle
      own = record { index = n; generation = p.generation }

      by : (o : Option T) → p.value ≡ o → (let q : Place T = record { generation = p.generation; value = option_map (f (record { index = n; generation = p.generation })) o } in q ≡ place h d) → (c : T) × At (p ∷ t) zero (place h c) × (d ≡ f h c)
      by None has e = absurd (nothing (ap (λ (q : Place T). q.value) e))
        where
          nothing : (let none : Option T = None in none ≡ Some d) → ⊥
          nothing z = cc
      by (Some c) has e =
          let generation : p.generation ≡ h.generation = ap (λ (q : Place T). q.generation) e in
          let mine : own ≡ h = handle-is own h (omega (arith, is)) generation in
          let whole : p ≡ place h c = (λ i. record { generation = generation i; value = has i }) in
          (c, ap (λ (q : Place T). Some q) whole, some_is d (f own c) (sym (ap (λ (q : Place T). q.value) e)) ∙ ap (λ (g : Handle). f g c) mine)
  back-each f n (p ∷ t) (suc j) h d is at = back-each f (n + 1) t j h d (omega (arith, is)) at

  pub under-each : (f : Handle → T → T) (t : Table T) (h : Handle) (c : T) → under t h ≡ Some c → under (with_each f t) h ≡ Some (f h c)
  under-each f t h c is = at-under (with_each f t) h (f h c) (at-each f 0 t h.index h c (omega arith) (under-at t h c is))

  pub each-back : (f : Handle → T → T) (t : Table T) (h : Handle) (d : T) → under (with_each f t) h ≡ Some d → (c : T) × (under t h ≡ Some c) × (d ≡ f h c)
  each-back f t h d is =
      let b = back-each f 0 t h.index h d (omega arith) (under-at (with_each f t) h d is) in
      (b.0, at-under t h b.0 b.1, b.2)

  each-long : (n : ℕ) (f : Handle → T → T) (t : Table T) → length (with_each_from n f t) ≡ length t
  each-long n f [] = refl
  each-long n f (p ∷ t) = ap (λ (m : ℕ). suc m) (each-long (n + 1) f t)

  pub each-length : (f : Handle → T → T) (t : Table T) → length (with_each f t) ≡ length t
  each-length f t = each-long 0 f t

abbrev Circuits : Type 0
Circuits = Table ServerCircuit

abbrev Change : Type 0
Change = Handle → ServerCircuit → ServerCircuit

-- two changes that agree on all that is held
ext-from : (f g : Change) (n : ℕ) (t : Circuits) → ((j : ℕ) (h : Handle) (c : ServerCircuit) → h.index ≡ n + j → At t j (place h c) → f h c ≡ g h c) → with_each_from n f t ≡ with_each_from n g t
ext-from f g n [] same = refl
ext-from f g n (p ∷ t) same =
    ap (λ (o : Option ServerCircuit). let q : Place ServerCircuit = record { generation = p.generation; value = o } in q ∷ with_each_from (n + 1) f t) (by p.value refl)
    ∙ ap (λ (u : Circuits). let q : Place ServerCircuit = record { generation = p.generation; value = option_map (g (record { index = n; generation = p.generation })) p.value } in q ∷ u)
    (ext-from f g (n + 1) t (λ j h c is at. same (suc j) h c (omega (arith, is)) at))
  where
    own : Handle
    own = record { index = n; generation = p.generation }

    by : (o : Option ServerCircuit) → p.value ≡ o → option_map (f (record { index = n; generation = p.generation })) o ≡ option_map (g (record { index = n; generation = p.generation })) o
    by None has = refl
    by (Some c) has =
        let whole : p ≡ place own c = (λ i. record { generation = p.generation; value = has i }) in
        ap (λ (x : ServerCircuit). Some x) (same 0 own c (omega arith) (ap (λ (q : Place ServerCircuit). Some q) whole))

pub each-ext : (f g : Change) (t : Circuits) → ((h : Handle) (c : ServerCircuit) → under t h ≡ Some c → f h c ≡ g h c) → with_each f t ≡ with_each g t
each-ext f g t same =
    ext-from f g 0 t (λ j h c is at. same h c (at-under t h c (subst (λ (k : ℕ). At t k (place h c)) (omega (arith, is)) at)))

fuse-from : (f g : Change) (n : ℕ) (t : Circuits) → with_each_from n g (with_each_from n f t) ≡ with_each_from n (λ h c. g h (f h c)) t
fuse-from f g n [] = refl
fuse-from f g n (p ∷ t) =
    ap (λ (o : Option ServerCircuit). let q : Place ServerCircuit = record { generation = p.generation; value = o } in q ∷ with_each_from (n + 1) g (with_each_from (n + 1) f t)) (by p.value)
    ∙ ap (λ (u : Circuits). let q : Place ServerCircuit = record { generation = p.generation; value = option_map (λ (c : ServerCircuit). g (record { index = n; generation = p.generation }) (f (record { index = n; generation = p.generation }) c)) p.value } in q ∷ u)
    (fuse-from f g (n + 1) t)
  where
    by : (o : Option ServerCircuit) → option_map (g (record { index = n; generation = p.generation })) (option_map (f (record { index = n; generation = p.generation })) o)
        ≡ option_map (λ (c : ServerCircuit). g (record { index = n; generation = p.generation }) (f (record { index = n; generation = p.generation }) c)) o
    by None = refl
    by (Some c) = refl

pub each-fuse : (f g : Change) (t : Circuits) → with_each g (with_each f t) ≡ with_each (λ h c. g h (f h c)) t
each-fuse f g t = fuse-from f g 0 t

-- one more is changed
pub each-one-more : (f g : Change) (t : Circuits) (h : Handle) (c d : ServerCircuit) → under t h ≡ Some c → g h c ≡ d → ((k : Handle) (x : ServerCircuit) → under t k ≡ Some x → (k ≡ h → ⊥) → f k x ≡ g k x) → with_changed (λ (x : ServerCircuit). d) h (with_each f t) ≡ with_each g t
each-one-more f g t h c d there own others =
    one-changes only (with_each f t) h (f h c) d (under-each f t h c there) (ap (λ (b : Bool). cond b d (f h c)) (is-same h h refl))
    (λ k x at other. ap (λ (b : Bool). cond b d x) (not-it k h other (same_handle k h) refl))
    ∙ each-fuse f only t
    ∙ each-ext (λ k x. only k (f k x)) g t (λ k x at. by k x at (same_handle k h) refl)
  where
    only : Change
    only k x = cond (same_handle k h) d x

    not-it : (k h : Handle) → (k ≡ h → ⊥) → (b : Bool) → same_handle k h ≡ b → same_handle k h ≡ false
    not-it k h other true hit = absurd (other (same-is k h hit))
    not-it k h other false miss = miss

    both : {A : Type 0} (b : Bool) → b ≡ true → b ≡ false → A
    both true p q = absurd cc
    both false p q = absurd cc

    by : (k : Handle) (x : ServerCircuit) → under t k ≡ Some x → (b : Bool) → same_handle k h ≡ b → cond (same_handle k h) d (f k x) ≡ g k x
    by k x at true hit =
        let same : k ≡ h = same-is k h hit in
        let value : c ≡ x = some_is c x (sym there ∙ ap (λ (j : Handle). under t j) (sym same) ∙ at) in
        ap (λ (b : Bool). cond b d (f k x)) hit ∙ sym own ∙ ap (λ (y : ServerCircuit). g h y) value ∙ ap (λ (j : Handle). g j x) (sym same)
    by k x at false miss =
        ap (λ (b : Bool). cond b d (f k x)) miss ∙ others k x at (λ e. both (same_handle k h) (is-same k h e) miss)

-- ---- puts that are taken out

puts-fuse : (a b : Put → Bool) (ws : List WaitingPut) → filter (λ (w : WaitingPut). not (a w.put)) (filter (λ (w : WaitingPut). not (b w.put)) ws) ≡ filter (λ (w : WaitingPut). not (b w.put || a w.put)) ws
puts-fuse a b [] = refl
puts-fuse a b (w ∷ ws) = by (b w.put) (puts-fuse a b ws)
  where
    by : (x : Bool) → filter (λ (w : WaitingPut). not (a w.put)) (filter (λ (w : WaitingPut). not (b w.put)) ws) ≡ filter (λ (w : WaitingPut). not (b w.put || a w.put)) ws
        → filter (λ (w : WaitingPut). not (a w.put)) (cond (not x) (w ∷ filter (λ (w : WaitingPut). not (b w.put)) ws) (filter (λ (w : WaitingPut). not (b w.put)) ws))
        ≡ cond (not (x || a w.put)) (w ∷ filter (λ (w : WaitingPut). not (b w.put || a w.put)) ws) (filter (λ (w : WaitingPut). not (b w.put || a w.put)) ws)
    by true rest = rest
    by false rest = ap (λ (xs : List WaitingPut). cond (not (a w.put)) (w ∷ xs) xs) rest

pub withdrawn-both : (a b : Put → Bool) (rs : List Record) → withdrawn a (withdrawn b rs) ≡ withdrawn (λ (p : Put). b p || a p) rs
withdrawn-both a b [] = refl
withdrawn-both a b (r ∷ rs) = (λ i. (let q : Record = record r { waiting = puts-fuse a b r.waiting i } in q ∷ withdrawn-both a b rs i))
