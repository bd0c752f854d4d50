-- The elements of a put.
use Rattle.std.proofs.Common.{◌≡◌, ℕ, ◌≤◌, ◌==◌, ◌||◌, Bool, true, false, not, nat_lt, List, [], ◌∷◌, ◌++◌, length, Option, None, refl, sym, ap, ◌∙◌, subst, arith}
use Rattle.std.proofs.lemmas.Bool.{le-ltb, ne_eqb}
use Rattle.ca_text.specs.declared.refusal.Refusal.{Refusal}
use Rattle.ca_text.specs.declared.refusal.Refusal.TheVariants as refusal
use Rattle.ca_text.specs.Status.{bad_count, no_write_access}
use Rattle.ca_dbr.specs.declared.data_type.BaseType.{BaseType}
use Rattle.ca_dbr.specs.declared.data_type.DataType.{DataType}
use Rattle.ca_dbr.specs.declared.data_type.Form.TheVariants as form
use Rattle.ca_dbr.specs.declared.value.Meta.{Meta}
use Rattle.ca_dbr.specs.Elements.{Elements}
use Rattle.ca_dbr.specs.Reading.{IsLong, ReadRefused, Reads, ReadsElements, least_size}
use Rattle.ca_dbr.specs.Types.{base_number, type_number}
use Rattle.ca_records.specs.Faults.{first_fault}
use Rattle.ca_records.specs.Record.{RecordState}
use Rattle.ca_records.specs.Rules.{may_write}
use Rattle.ca_wire.specs.Fields.{Fields}
use Rattle.ca_model.specs.Due.{PutReads}
use Rattle.ca_model.specs.Faults.{early_put_fault}
use Rattle.ca_dbr.proofs.OneReading.{base_number-small}
use Rattle.ca_server_circuit.specs.Putting.{early}
use Rattle.ca_server_circuit.proofs.Types.{base-of-number, plain-is}

abbrev plain : BaseType → DataType
plain b = record { base = b; form = form.Plain }

no-items : (xs : List ℕ) → length xs ≡ 0 → xs ≡ []
no-items [] none = refl
no-items (x ∷ xs) none = absurd (omega (arith, none))

-- what is read of a plain type is read from the front
plain-reads : (b : BaseType) (count : ℕ) (bytes : List ℕ) (e : Elements) (meta : Meta) → Reads (plain b) count bytes e meta → ReadsElements b count bytes e
plain-reads b count bytes e meta reads =
    let none : reads.padding ≡ [] = no-items reads.padding reads.padded in
    let same : reads.body ≡ bytes = sym (reads.parts ∙ ap (λ (p : List ℕ). p ++ reads.body) none) in
    subst (λ (x : List ℕ). ReadsElements b count x e) same reads.elements

-- what is read of enough bytes of a plain type is refused for memory alone
pub never-refused : (b : BaseType) (number count : ℕ) (bytes : List ℕ) (r : Refusal) → base_number b ≡ number → least_size b count ≤ length bytes → (r ≡ refusal.OutOfMemory → ⊥) → ReadRefused number count bytes r → ⊥
never-refused b number count bytes refusal.BadType is long other over = (let small = base_number-small b in absurd (omega (arith, small, is, over)))
never-refused b number count bytes refusal.Short is long other refused =
    let one : refused.0 ≡ plain b = plain-is refused.0 b (refused.1 ∙ sym is) in
    refused.2 (subst (λ (t : DataType). IsLong t count bytes) (sym one) (long-plain b count bytes long))
  where
    long-plain : (b : BaseType) (count : ℕ) (bytes : List ℕ) → least_size b count ≤ length bytes → IsLong (plain b) count bytes
    long-plain b count bytes long = omega (arith, long)
never-refused b number count bytes refusal.OutOfMemory is long other refused = other refl
never-refused b number count bytes _ is long other refused = absurd refused

abbrev two : (forbidden bad : Bool) → Option ℕ
two forbidden bad = first_fault ((forbidden, no_write_access) ∷ (bad, bad_count) ∷ [])

module _ (r : RecordState) (rights : ℕ) (m : Fields) (b : BaseType) (typed : base_number b ≡ m.data_type) where
  abbrev few : Bool
  few = m.count == 0 || (nat_lt r.count m.count || nat_lt (length m.payload) (least_size b m.count))

  pub no-early : may_write rights ≡ true → (m.count ≡ 0 → ⊥) → m.count ≤ r.count → least_size b m.count ≤ length m.payload → early r rights m ≡ None
  no-early right some within long =
      ap (λ (o : Option BaseType). early_put_fault r rights m o) (base-of-number b m.data_type typed)
      ∙ ap (λ (x : Bool). two (not x) few) right
      ∙ ap (λ (x : Bool). two false (x || (nat_lt r.count m.count || nat_lt (length m.payload) (least_size b m.count)))) (ne_eqb m.count 0 some)
      ∙ ap (λ (x : Bool). two false (x || nat_lt (length m.payload) (least_size b m.count))) (le-ltb r.count m.count within)
      ∙ ap (λ (x : Bool). two false x) (le-ltb (length m.payload) (least_size b m.count) long)

  pub put-reads : (t : DataType) (e : Elements) (meta : Meta) → type_number t ≡ base_number b → Reads t m.count m.payload e meta → PutReads m e
  put-reads t e meta numbered reads = record {
    base = b;
    typed = base-of-number b m.data_type typed;
    reads = plain-reads b m.count m.payload e meta (subst (λ (x : DataType). Reads x m.count m.payload e meta) (plain-is t b numbered) reads);
  }
