-- A put is finished: its reply goes out, and the next that waits is applied.
use Rattle.std.proofs.Common.{◌≡◌, ℕ, zero, suc, ◌+◌, inl, inr, cond, List, [], ◌∷◌, Option, Some, None, is_some, slice_set, Ok, refl, sym, ap, ◌∙◌, subst, arith}
use Rattle.std.specs.Prelude.{option_map}
use Rattle.ca_arena.specs.declared.handle.Handle.{Handle}
use Rattle.ca_arena.specs.Arena.{Place}
use Rattle.ca_ids.specs.Table.{Table, under, with_changed, with_each, with_each_from}
use Rattle.ca_records.specs.declared.puts.Put.{Put}
use Rattle.ca_records.specs.declared.puts.Finished.{Finished}
use Rattle.ca_records.specs.declared.puts.Stamp.{Stamp}
use Rattle.ca_records.specs.Puts.{Record, WaitingPut, finished, with_record}
use Rattle.ca_records.specs.Store.{Store, records_of}
use Rattle.ca_records.specs.Writes as writes
use Rattle.ca_text.specs.Place.{At}
use Rattle.ca_text.proofs.Places.{some_is}
use Rattle.ca_model.specs.Ends as why
use Rattle.ca_model.specs.Server.{Ended, Open, ServerCircuit}
use Rattle.ca_server_circuit.specs.Finishing.{RepliesAt, with_reply}
use Rattle.ca_server_core.specs.Finishing.{RepliesIn}
use Rattle.ca_server_circuit.specs.Sound.{EndIsSound}
use Rattle.ca_server_core.specs.Sound.{IsSound}
use Rattle.ca_server_core.proofs.Closing.{end-stays, sound-ended}
use Rattle.ca_server_core.proofs.Servers.{became, stayed}
use Rattle.ca_server_core.proofs.Sounds.{sound-changed}
use Rattle.ca_server_circuit.proofs.Stays.{Keeps, record-keeps}
use Rattle.ca_server_circuit.proofs.Tables.{at-under, handle-is, place, under-at}

-- ---- the records

-- circuits stay sound beside records on which no new put waits
pub sound-kept : (rs qs : List Record) (t : Table ServerCircuit) → Keeps rs qs (λ (w : WaitingPut). Unit {0}) (λ (q : Record) (w : WaitingPut). ⊥) → IsSound rs t → IsSound qs t
sound-kept rs qs t k i = record {
  ends = λ h e at. end-stays rs qs h e (λ (w : WaitingPut). Unit {0}) (λ (q : Record) (w : WaitingPut). ⊥) k (λ q w n hit. n) (i.ends h e at);
  waits = λ j q l w at at'. elim (k.1 j q l w at at') [
    | inl old ↦ (let o = old.0 in i.waits o.0 o.1 o.2 w o.3 o.4)
    | inr n ↦ absurd n
  ];
}

finished-name : (p : Stamp) (r : Record) (ws : List WaitingPut) → (finished p r ws).state.name ≡ r.state.name
finished-name p r [] = refl
finished-name p r (w ∷ ws) = refl

finished-waits : (p : Stamp) (r : Record) (ws : List WaitingPut) (k : ℕ) (w : WaitingPut) → At (finished p r ws).waiting k w → (j : ℕ) × At ws j w
finished-waits p r [] k w at = (k, at)
finished-waits p r (x ∷ ws) k w at = (suc k, at)

pub finished-keeps : (p : Stamp) (name : List ℕ) (rs : List Record) → Keeps rs (with_record name (λ (q : Record). finished p q q.waiting) rs) (λ (w : WaitingPut). Unit {0}) (λ (q : Record) (w : WaitingPut). ⊥)
finished-keeps p name rs =
    record-keeps name (λ (q : Record). finished p q q.waiting) (λ (q : Record) (w : WaitingPut). ⊥) (λ r. finished-name p r r.waiting) (λ r k w e at. inl (finished-waits p r r.waiting k w at, tt)) rs

-- the records after the put of one was finished
pub finished-records : (s u : Store) (name : List ℕ) (f : Finished) → writes.Finishes s name (Ok f) u → records_of u ≡ with_record name (λ (q : Record). finished s.stamp q q.waiting) (records_of s)
finished-records s u name f did =
    did.3.becomes.records (λ (q : Record). finished s.stamp q q.waiting) refl ∙ ap (λ (n : List ℕ). with_record n (λ (q : Record). finished s.stamp q q.waiting) (records_of s)) did.3.named

pub finished-sound : (s u : Store) (t : Table ServerCircuit) (name : List ℕ) (f : Finished) → writes.Finishes s name (Ok f) u → IsSound (records_of s) t → IsSound (records_of u) t
finished-sound s u t name f did i =
    subst (λ (rs : List Record). IsSound rs t) (sym (finished-records s u name f did)) (sound-kept (records_of s) _ t (finished-keeps s.stamp name (records_of s)) i)

-- ---- the circuit of the put

pub replied-sound : (s u : Store) (t after : Table ServerCircuit) (p : Put) → RepliesIn t p s after u → IsSound (records_of s) t → IsSound (records_of u) after
replied-sound s u t after p (inr none) i =
    subst (λ (x : Table ServerCircuit). IsSound (records_of u) x) (sym none.1) (subst (λ (x : Store). IsSound (records_of x) t) (sym none.2) i)
replied-sound s u t after p (inl g) i = by g.0 g.1 g.2 g.3 g.4
  where
    by : (c new : ServerCircuit) → under t p.circuit ≡ Some c → RepliesAt p c s new u → after ≡ with_changed (λ (x : ServerCircuit). new) p.circuit t → IsSound (records_of u) after
    by (Open e) new there (inl sent) changed =
        let o = i.ends p.circuit e there in
        let sound : EndIsSound (records_of s) p.circuit (with_reply p e) = record { live = o.live; room = o.room; served = o.served; puts = o.puts; on = o.on; few = o.few } in
        subst (λ (x : Table ServerCircuit). IsSound (records_of u) x) (sym (became t after p.circuit new (Open (with_reply p e)) changed sent.1))
        (subst (λ (x : Store). IsSound (records_of x) (with_changed (λ (z : ServerCircuit). Open (with_reply p e)) p.circuit t)) (sym sent.2) (sound-changed (records_of s) t p.circuit e (with_reply p e) i there sound))
    by (Open e) new there (inr (inl lack)) changed =
        subst (λ (x : Table ServerCircuit). IsSound (records_of u) x) (sym (became t after p.circuit new (Ended why.OutOfMemory e.link.output) changed lack.1))
        (subst (λ (rs : List Record). IsSound rs (with_changed (λ (z : ServerCircuit). Ended why.OutOfMemory e.link.output) p.circuit t)) (sym lack.2.records) (sound-ended (records_of s) t p.circuit why.OutOfMemory e.link.output i))
    by (Open e) new there (inr (inr quiet)) changed =
        subst (λ (x : Table ServerCircuit). IsSound (records_of u) x) (sym (stayed t after p.circuit new (Open e) there changed quiet.1)) (subst (λ (x : Store). IsSound (records_of x) t) (sym quiet.2) i)
    by (Ended w left) new there did changed =
        subst (λ (x : Table ServerCircuit). IsSound (records_of u) x) (sym (stayed t after p.circuit new (Ended w left) there changed did.0)) (subst (λ (x : Store). IsSound (records_of x) t) (sym did.1) i)

-- ---- one circuit of a table changes

zero-on : (n : ℕ) → n + 0 ≡ n
zero-on n = omega arith

one-on : (n i : ℕ) → n + suc i ≡ n + 1 + i
one-on n i = omega arith

-- a table in which nothing from an index on changes
each-kept : (f : Handle → ServerCircuit → ServerCircuit) (n : ℕ) (t : Table ServerCircuit) → ((i : ℕ) (p : Place ServerCircuit) (c : ServerCircuit) → At t i p → p.value ≡ Some c → f (record { index = n + i; generation = p.generation }) c ≡ c) → with_each_from n f t ≡ t
each-kept f n [] same = refl
each-kept f n (p ∷ t) same =
    ap (λ (o : Option ServerCircuit). let q : Place ServerCircuit = record { generation = p.generation; value = o } in q ∷ with_each_from (n + 1) f t) (by p.value (λ c is. subst (λ (k : ℕ). f (record { index = k; generation = p.generation }) c ≡ c) (zero-on n) (same 0 p c refl is)))
    ∙ ap (λ (u : Table ServerCircuit). p ∷ u) (each-kept f (n + 1) t (λ i q c at is. subst (λ (k : ℕ). f (record { index = k; generation = q.generation }) c ≡ c) (one-on n i) (same (suc i) q c at is)))
  where
    by : (o : Option ServerCircuit) → ((c : ServerCircuit) → o ≡ Some c → f (record { index = n; generation = p.generation }) c ≡ c) → option_map (f (record { index = n; generation = p.generation })) o ≡ o
    by None h = refl
    by (Some c) h = ap (λ (x : ServerCircuit). Some x) (h c refl)

-- of these only the one at a place changes
each-one : (f : Handle → ServerCircuit → ServerCircuit) (n : ℕ) (t : Table ServerCircuit) (j : ℕ) (h : Handle) (c d : ServerCircuit) → h.index ≡ n + j → At t j (place h c) → f h c ≡ d
    → ((i : ℕ) (p : Place ServerCircuit) (x : ServerCircuit) → At t i p → p.value ≡ Some x → (i ≡ j → ⊥) → f (record { index = n + i; generation = p.generation }) x ≡ x) → with_each_from n f t ≡ slice_set t j (place h d)
each-one f n [] j h c d is at there other = absurd cc
each-one f n (p ∷ t) zero h c d is at there other =
    let same : p ≡ place h c = some_is p (place h c) at in
    let mine : h ≡ (record { index = n; generation = h.generation }) = handle-is h (record { index = n; generation = h.generation }) (omega (arith, is)) refl in
    ap (λ (q : Place ServerCircuit). let r : Place ServerCircuit = record { generation = q.generation; value = option_map (f (record { index = n; generation = q.generation })) q.value } in r ∷ with_each_from (n + 1) f t) same
    ∙ ap (λ (x : ServerCircuit). place h x ∷ with_each_from (n + 1) f t) (ap (λ (g : Handle). f g c) (sym mine) ∙ there)
    ∙ ap (λ (u : Table ServerCircuit). place h d ∷ u) (each-kept f (n + 1) t (λ i q x at is_x. subst (λ (k : ℕ). f (record { index = k; generation = q.generation }) x ≡ x) (one-on n i) (other (suc i) q x at is_x (λ e. omega (arith, e)))))
each-one f n (p ∷ t) (suc j) h c d is at there other =
    ap (λ (o : Option ServerCircuit). let q : Place ServerCircuit = record { generation = p.generation; value = o } in q ∷ with_each_from (n + 1) f t) (by p.value (λ x is_x. subst (λ (k : ℕ). f (record { index = k; generation = p.generation }) x ≡ x) (zero-on n) (other 0 p x refl is_x (λ e. omega (arith, e)))))
    ∙ ap (λ (u : Table ServerCircuit). p ∷ u) (each-one f (n + 1) t j h c d (omega (arith, is)) at there (λ i q x at is_x ne. subst (λ (k : ℕ). f (record { index = k; generation = q.generation }) x ≡ x) (one-on n i) (other (suc i) q x at is_x (λ e. ne (omega (arith, e))))))
  where
    by : (o : Option ServerCircuit) → ((x : ServerCircuit) → o ≡ Some x → f (record { index = n; generation = p.generation }) x ≡ x) → option_map (f (record { index = n; generation = p.generation })) o ≡ o
    by None same = refl
    by (Some x) same = ap (λ (y : ServerCircuit). Some y) (same x refl)

changed-there : (t : Table ServerCircuit) (h : Handle) (c d : ServerCircuit) → under t h ≡ Some c → with_changed (λ (x : ServerCircuit). d) h t ≡ slice_set t h.index (place h d)
changed-there t h c d is =
    ap (λ (o : Option ServerCircuit). let p : Place ServerCircuit = record { generation = h.generation; value = option_map (λ (x : ServerCircuit). d) o } in cond (is_some o) (slice_set t h.index p) t) is

pub one-changes : (f : Handle → ServerCircuit → ServerCircuit) (t : Table ServerCircuit) (h : Handle) (c d : ServerCircuit) → under t h ≡ Some c → f h c ≡ d → ((g : Handle) (x : ServerCircuit) → under t g ≡ Some x → (g ≡ h → ⊥) → f g x ≡ x) → with_changed (λ (x : ServerCircuit). d) h t ≡ with_each f t
one-changes f t h c d is there other = changed-there t h c d is ∙ sym (each-one f 0 t h.index h c d (omega arith) (under-at t h c is) there by)
  where
    by : (i : ℕ) (p : Place ServerCircuit) (x : ServerCircuit) → At t i p → p.value ≡ Some x → (i ≡ h.index → ⊥) → f (record { index = 0 + i; generation = p.generation }) x ≡ x
    by i p x at is_x ne =
        let g : Handle = record { index = i; generation = p.generation } in
        let whole : p ≡ place g x = ap (λ (o : Option ServerCircuit). let q : Place ServerCircuit = record { generation = p.generation; value = o } in q) is_x in
        let back : i ≡ 0 + i = omega arith in
        subst (λ (k : ℕ). f (record { index = k; generation = p.generation }) x ≡ x) back
        (other g x (at-under t g x (subst (λ (q : Place ServerCircuit). At t i q) whole at)) (λ one. ne (ap (λ (k : Handle). k.index) one)))
