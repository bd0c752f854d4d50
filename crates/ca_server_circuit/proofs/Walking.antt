-- The walk over the channels of a circuit that ends: its puts that wait are
-- taken out of the records.
use Rattle.std.proofs.Common.{◌≡◌, ℕ, zero, suc, ◌+◌, ◌<◌, ◌≤◌, ◌==◌, Bool, true, false, not, List, length, cond, Some, None, refl, sym, ap, ◌∙◌, subst, arith}
use Rattle.std.specs.Str.{bytes_eq}
use Rattle.std.proofs.lemmas.Bool.{eq-eqb, eqb-true}
use Rattle.std.proofs.lemmas.Option.{get_or_from_slice_get}
use Rattle.std.proofs.lemmas.Slice.Eq.{bytes_eq-Decides}
use Rattle.ca_arena.specs.declared.handle.Handle.{Handle}
use Rattle.ca_arena.specs.Arena.{Place, blank, place_at}
use Rattle.ca_ids.specs.Table.{Table, held_at, same_handle, under}
use Rattle.ca_records.specs.declared.puts.Put.{Put}
use Rattle.ca_records.specs.Puts.{Record, WaitingPut, record_named, without_puts}
use Rattle.ca_records.specs.Store.{Becomes, Finds, HasAt, Store, records_of}
use Rattle.ca_records.specs.Writes.{is_of}
use Rattle.ca_records.specs.Writes as writes
use Rattle.ca_text.specs.Place.{At}
use Rattle.ca_text.proofs.Places.{At-mapped, At-set-other, At-within, some_is}
use Rattle.ca_model.specs.Server.{OpenChannel}
use Rattle.ca_server_circuit.specs.Clearing.{ArePuts}
use Rattle.ca_server_circuit.specs.Ending.{ArePutsFrom, KeepsPlaces, Walks, WithdrawsAll}
use Rattle.ca_server_circuit.proofs.Cleared.{none-of}
use Rattle.ca_server_circuit.proofs.Stays.{at-filtered}
use Rattle.ca_server_circuit.proofs.Tables.{at-find, handle-is, none-some, place, under-at}
use Rattle.ca_server_circuit.proofs.Taken.{one-record}

both : (b : Bool) → b ≡ true → b ≡ false → ⊥
both b p q = cc

next : (a b : ℕ) → a ≤ b → (b ≡ a → ⊥) → a + 1 ≤ b
next zero zero le other = absurd (other refl)
next zero (suc b) le other = omega arith
next (suc a) zero le other = absurd (omega (arith, le))
next (suc a) (suc b) le other = (let r : a + 1 ≤ b = next a b (omega (arith, le)) (λ e. other (ap (λ (x : ℕ). suc x) e)) in omega (arith, r))

-- what is open at an index
at-index : (t : Table OpenChannel) (n : ℕ) (w : Handle) (c : OpenChannel) → under t w ≡ Some c → w.index ≡ n → held_at n (place_at t n) ≡ Some (w, c)
at-index t n w c is same =
    let at : At t n (place w c) = subst (λ (i : ℕ). At t i (place w c)) same (under-at t w c is) in
    ap (λ (p : Place OpenChannel). held_at n p) (get_or_from_slice_get t n (place w c) blank at)
    ∙ ap (λ (h : Handle). let x : Handle × OpenChannel = (h, c) in Some x) (handle-is (record { index = n; generation = w.generation }) w (sym same) refl)

-- ---- the places of records

pub keeps-same : (s : Store) → KeepsPlaces s s
keeps-same s place r at = (r, at, refl)

pub keeps-both : (s u v : Store) → KeepsPlaces s u → KeepsPlaces u v → KeepsPlaces s v
keeps-both s u v a b place r at = (let x = a place r at in let y = b place x.0 x.1 in (y.0, y.1, y.2 ∙ x.2))

pub keeps-becomes : (s u : Store) (at_place : ℕ) (r next : Record) → Becomes s at_place r next u → next.state ≡ r.state → KeepsPlaces s u
keeps-becomes s u at_place r next w same place q at = by (place == at_place) refl
  where
    by : (b : Bool) → (place == at_place) ≡ b → (x : Record) × HasAt u place x × (x.state ≡ q.state)
    by true hit =
        let here : place ≡ at_place = eqb-true place at_place hit in
        let one : q ≡ r = one-record s at_place q r (subst (λ (n : ℕ). HasAt s n q) here at) w.at in
        (next, subst (λ (n : ℕ). HasAt u n next) (sym here) w.there, same ∙ ap (λ (x : Record). x.state) (sym one))
    by false miss = (
      q,
      subst (λ (x : Store). HasAt x place q) (sym w.leaves)
          (At-set-other s.slots at_place place (Some q) (Some next) at (λ e. both (place == at_place) (eq-eqb place at_place e) miss)),
      refl,
    )

-- ---- the whole walk

pub walks-all : (n : ℕ) (h : Handle) (t : Table OpenChannel) (s u : Store) → ArePuts h (records_of s) t → length t ≤ n → Walks 0 n h t s u → WithdrawsAll h s u
walks-all n h t s u puts all a = record {
  records = none-of (λ (p : Put). same_handle p.circuit h) (records_of u) (λ i k r w at at'. by i k r w at at' (same_handle w.put.circuit h) refl) ∙ a.rest;
  rules = a.rules;
  stamp = a.stamp;
  places = a.places;
}
  where
    first : ArePutsFrom 0 h (records_of s) t
    first i r k w at at' hit = (let p = puts i r k w at at' hit in (p.0, p.1, p.2, p.3, omega arith))

    by : (i k : ℕ) (r : Record) (w : WaitingPut) → At (records_of u) i r → At r.waiting k w → (b : Bool) → same_handle w.put.circuit h ≡ b → same_handle w.put.circuit h ≡ false
    by i k r w at at' false miss = miss
    by i k r w at at' true hit =
        let p = a.left first i r k w at at' hit in
        let within : w.put.channel.index < length t = At-within t w.put.channel.index (place w.put.channel p.0) (under-at t w.put.channel p.0 p.1) in
        let late : n ≤ w.put.channel.index = p.4 in
        absurd (omega (arith, within, late, all))

-- ---- one channel

-- no put waits for a channel of this index
pub walks-past : (n : ℕ) (h : Handle) (t : Table OpenChannel) (s : Store) → ((w : Handle) (c : OpenChannel) (i : ℕ) (r : Record) → under t w ≡ Some c → w.index ≡ n → c.retired ≡ false → At (records_of s) i r → c.name ≡ r.state.name → ⊥) → Walks n (n + 1) h t s s
walks-past n h t s none = record {
  rest = refl;
  rules = refl;
  stamp = refl;
  places = keeps-same s;
  left = λ from i r k w at at' hit. (let p = from i r k w at at' hit in (p.0, p.1, p.2, p.3, next n w.put.channel.index p.4 (λ same. none w.put.channel p.0 i r p.1 same p.3 at p.2)));
}

-- the channel of an index is this one
one-there : (n : ℕ) (t : Table OpenChannel) (g : Handle) (o : OpenChannel) → Some (g, o) ≡ held_at n (place_at t n) → (w : Handle) (c : OpenChannel) → under t w ≡ Some c → w.index ≡ n → c ≡ o
one-there n t g o is w c at same = (let e : (w, c) ≡ (g, o) = some_is (w, c) (g, o) (sym (is ∙ at-index t n w c at same)) in ap (λ (x : Handle × OpenChannel). x.1) e)

pub walks-unnamed : (n : ℕ) (h : Handle) (t : Table OpenChannel) (s : Store) (g : Handle) (o : OpenChannel) → Some (g, o) ≡ held_at n (place_at t n) → record_named (records_of s) o.name ≡ None → Walks n (n + 1) h t s s
walks-unnamed n h t s g o is none =
    walks-past n h t s (λ w c i r at same live there named.
    (let mine : r.state.name ≡ o.name = sym named ∙ ap (λ (x : OpenChannel). x.name) (one-there n t g o is w c at same) in
    let f = at-find (λ (x : Record). bytes_eq x.state.name o.name) (records_of s) i r there ((bytes_eq-Decides r.state.name o.name).1 mine) in
    none-some f.0 (sym none ∙ f.1)))

-- the puts of this channel's record are taken out
pub walks-on : (n : ℕ) (h : Handle) (t : Table OpenChannel) (s u : Store) (g : Handle) (o : OpenChannel) (at_place : ℕ) → Some (g, o) ≡ held_at n (place_at t n) → Finds s o.name at_place → writes.Withdraws s at_place h None u → Walks n (n + 1) h t s u
walks-on n h t s u g o at_place is f w = record {
  rest = w.rest;
  rules = ap (λ (x : Store). x.rules) w.becomes.leaves;
  stamp = ap (λ (x : Store). x.stamp) w.becomes.leaves;
  places = keeps-becomes s u at_place w.r (without_puts (is_of h None) w.r) w.becomes refl;
  left = λ from i q k v at at' hit. left from i q k v at at' hit;
}
  where
    test : Put → Bool
    test p = is_of h None p

    named : w.r.state.name ≡ o.name
    named = ap (λ (x : Record). x.state.name) (one-record s at_place w.r f.r w.becomes.at f.at) ∙ f.named

    left : ArePutsFrom n h (records_of s) t → ArePutsFrom (n + 1) h (records_of u) t
    left from i q k v at at' hit =
        let were = w.becomes.records (without_puts (is_of h None)) refl in
        let there = subst (λ (rs : List Record). At rs i q) were at in
        let m = At-mapped (λ (x : Record). cond (bytes_eq x.state.name w.r.state.name) (without_puts (is_of h None) x) x) (records_of s) i q there in
        by from i q k v hit m.0 m.1 (bytes_eq m.0.state.name w.r.state.name) refl m.2 at'
      where
        by : ArePutsFrom n h (records_of s) t → (i : ℕ) (q : Record) (k : ℕ) (v : WaitingPut) → same_handle v.put.circuit h ≡ true → (x : Record) → At (records_of s) i x → (b : Bool) → bytes_eq x.state.name w.r.state.name ≡ b
            → q ≡ cond (bytes_eq x.state.name w.r.state.name) (without_puts (is_of h None) x) x → At q.waiting k v → (c : OpenChannel) × (under t v.put.channel ≡ Some c) × (c.name ≡ q.state.name) × (c.retired ≡ false) × (n + 1 ≤ v.put.channel.index)
        by from i q k v hit x here true e is_q waits =
            let is_x : q ≡ without_puts (is_of h None) x = is_q ∙ ap (λ (b : Bool). cond b (without_puts (is_of h None) x) x) e in
            let kept = at-filtered (λ (y : WaitingPut). not (is_of h None y.put)) x.waiting k v (subst (λ (y : Record). At y.waiting k v) is_x waits) in
            absurd (both (not (same_handle v.put.circuit h)) kept.2 (ap (λ (b : Bool). not b) hit))
        by from i q k v hit x here false e is_q waits =
            let is_x : q ≡ x = is_q ∙ ap (λ (b : Bool). cond b (without_puts (is_of h None) x) x) e in
            let p = from i x k v here (subst (λ (y : Record). At y.waiting k v) is_x waits) hit in (
              p.0,
              p.1,
              p.2 ∙ ap (λ (y : Record). y.state.name) (sym is_x),
              p.3,
              next n v.put.channel.index p.4 (λ same.
                  (let mine : x.state.name ≡ w.r.state.name = sym p.2 ∙ ap (λ (y : OpenChannel). y.name) (one-there n t g o is v.put.channel p.0 p.1 same) ∙ sym named in
                  both (bytes_eq x.state.name w.r.state.name) ((bytes_eq-Decides x.state.name w.r.state.name).1 mine) e)),
            )
