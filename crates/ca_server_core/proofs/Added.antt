-- A server that serves one more record.
use Rattle.std.proofs.Common.{◌≡◌, ℕ, zero, suc, ◌+◌, ◌⊎◌, inl, inr, Bool, true, false, cond, List, [], ◌∷◌, ◌++◌, length, take, drop, Some, Ok, refl, sym, ap, ◌∙◌, subst}
use Rattle.std.proofs.lemmas.List.{drop_at, take_at}
use Rattle.std.specs.Str.{bytes_eq}
use Rattle.ca_beacon.specs.Clock.{Clock}
use Rattle.ca_ids.specs.Table.{Table}
use Rattle.ca_records.specs.Puts.{Record, WaitingPut, new_record, record_named}
use Rattle.ca_records.specs.Record.{RecordState}
use Rattle.ca_records.specs.Store.{Enters, Store, records_of}
use Rattle.ca_records.specs.Writes as writes
use Rattle.ca_text.specs.Place.{At}
use Rattle.ca_text.proofs.Places.{At-after, At-append, At-parts, some_is}
use Rattle.ca_model.specs.Server.{Server, ServerCircuit}
use Rattle.ca_model.specs.ServerCalls.{AddsRecord}
use Rattle.ca_server_core.specs.Sound.{IsSound}
use Rattle.ca_server_core.proofs.Finished.{sound-kept}
use Rattle.ca_server_core.proofs.Servers.{same-parts, server_of}
use Rattle.ca_server_circuit.proofs.Stays.{Keeps, Waited}

-- a record is found still among one more
named-in : (before after : List Record) (r : Record) (n : List ℕ) (x : Record) → record_named (before ++ after) n ≡ Some x → (q : Record) × (record_named (before ++ r ∷ after) n ≡ Some q)
named-in [] after r n x is = by (bytes_eq r.state.name n) refl
  where
    by : (b : Bool) → bytes_eq r.state.name n ≡ b → (q : Record) × (record_named (r ∷ after) n ≡ Some q)
    by true e = (r, ap (λ (b : Bool). cond b (Some r) (record_named after n)) e)
    by false e = (x, ap (λ (b : Bool). cond b (Some r) (record_named after n)) e ∙ is)
named-in (y ∷ before) after r n x is = by (bytes_eq y.state.name n) refl is (λ h. named-in before after r n x h)
  where
    by : (b : Bool) → bytes_eq y.state.name n ≡ b → cond (bytes_eq y.state.name n) (Some y) (record_named (before ++ after) n) ≡ Some x
        → (record_named (before ++ after) n ≡ Some x → (q : Record) × (record_named (before ++ r ∷ after) n ≡ Some q))
        → (q : Record) × (record_named (y ∷ before ++ r ∷ after) n ≡ Some q)
    by true e h rest = (y, ap (λ (b : Bool). cond b (Some y) (record_named (before ++ r ∷ after) n)) e)
    by false e h rest =
        let q = rest (sym (ap (λ (b : Bool). cond b (Some y) (record_named (before ++ after) n)) e) ∙ h) in
        (q.0, ap (λ (b : Bool). cond b (Some y) (record_named (before ++ r ∷ after) n)) e ∙ q.1)

nothing-waits : {A : Type 0} (k : ℕ) (w : WaitingPut) → (let none : List WaitingPut = [] in At none k w) → A
nothing-waits k w at = absurd cc

added-keeps : (before after : List Record) (r : Record) → r.waiting ≡ [] → Keeps (before ++ after) (before ++ r ∷ after) (λ (w : WaitingPut). Unit {0}) (λ (q : Record) (w : WaitingPut). ⊥)
added-keeps before after r none = ((λ n x is. named-in before after r n x is), (λ i q k w at at'. inl (waits i q k w (At-parts before (r ∷ after) i q at) at', tt)))
  where
    later : (l : ℕ) (q : Record) (k : ℕ) (w : WaitingPut) → At (r ∷ after) l q → At q.waiting k w → Waited (before ++ after) q w
    later zero q k w at at' = nothing-waits k w (subst (λ (ws : List WaitingPut). At ws k w) (ap (λ (x : Record). x.waiting) (sym (some_is r q at)) ∙ none) at')
    later (suc l) q k w at at' = (length before + l, q, k, At-after before after l q at, at', refl)

    waits : (i : ℕ) (q : Record) (k : ℕ) (w : WaitingPut) → At before i q ⊎ ((l : ℕ) × (i ≡ length before + l) × At (r ∷ after) l q) → At q.waiting k w → Waited (before ++ after) q w
    waits i q k w (inl at) at' = (i, q, k, At-append before after i q at, at', refl)
    waits i q k w (inr at) at' = later at.0 q k w at.2 at'

module _ (s u : Store) (state : RecordState) (place : ℕ) (added : writes.Adds s state (Ok place) u) where
  abbrev e : Enters s place (new_record state) u
  e = added.1

  pub sound-added : (t : Table ServerCircuit) → IsSound (records_of s) t → IsSound (records_of u) t
  sound-added t i =
      subst (λ (rs : List Record). IsSound rs t) (sym e.are)
      (sound-kept (e.before ++ e.after) (e.before ++ new_record state ∷ e.after) t (added-keeps e.before e.after (new_record state) refl) (subst (λ (rs : List Record). IsSound rs t) e.were i))

  -- each record is found still
  pub named-added : (n : List ℕ) (x : Record) → record_named (records_of s) n ≡ Some x → (q : Record) × (record_named (records_of u) n ≡ Some q)
  named-added n x is =
      let q = named-in e.before e.after (new_record state) n x (ap (λ (rs : List Record). record_named rs n) (sym e.were) ∙ is) in
      (q.0, ap (λ (rs : List Record). record_named rs n) e.are ∙ q.1)

  rules-same : u.rules ≡ s.rules
  rules-same = elim e.leaves [
    | inl slot ↦ ap (λ (x : Store). x.rules) slot.1
    | inr more ↦ ap (λ (x : Store). x.rules) more.1
  ]

  stamp-same : u.stamp ≡ s.stamp
  stamp-same = elim e.leaves [
    | inl slot ↦ ap (λ (x : Store). x.stamp) slot.1
    | inr more ↦ ap (λ (x : Store). x.stamp) more.1
  ]

  records-are : records_of u ≡ take (length e.before) (records_of s) ++ new_record state ∷ drop (length e.before) (records_of s)
  records-are =
      e.are
      ∙ ap (λ (xs : List Record). xs ++ new_record state ∷ e.after) (sym (ap (λ (rs : List Record). take (length e.before) rs) e.were ∙ take_at e.before e.after (length e.before) refl))
      ∙ ap (λ (ys : List Record). take (length e.before) (records_of s) ++ new_record state ∷ ys) (sym (ap (λ (rs : List Record). drop (length e.before) rs) e.were ∙ drop_at e.before e.after (length e.before) refl))

  pub adds-ok : (y : Server) (port now n : ℕ) (b : Clock) (t : Table ServerCircuit) → server_of port s now t b n ≡ y → (behind : ℕ) × AddsRecord y state behind (Ok tt) (server_of port u now t b n)
  adds-ok y port now n b t is =
      subst (λ (x : Server). (behind : ℕ) × AddsRecord x state behind (Ok tt) (server_of port u now t b n)) is
      (length e.before, (added.0, same-parts port now b u.rules s.rules (records_of u) _ u.stamp s.stamp t t n n rules-same records-are stamp-same refl refl))
