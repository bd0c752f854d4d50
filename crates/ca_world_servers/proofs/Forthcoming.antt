-- The write that a message may be, from what is read before its step.
use Rattle.std.proofs.Common.{◌≡◌, ℕ, ◌+◌, ◌<◌, Bool, true, false, List, [], ◌∷◌, Option, Some, None, Ok, Err, refl, sym, ap, subst, ◌∙◌, arith, inl, inr}
use Rattle.std.specs.Prelude.{◌==◌, find, if◌then◌else◌, option_map}
use Rattle.std.proofs.lemmas.Bool.{eqb-true}
use Rattle.ca_arena.specs.declared.handle.Handle.{Handle}
use Rattle.ca_dbr.specs.declared.data_type.BaseType.{BaseType}
use Rattle.ca_dbr.specs.declared.data_type.DataType.{DataType}
use Rattle.ca_dbr.specs.declared.data_type.Form.TheVariants as form
use Rattle.ca_dbr.specs.declared.value.Meta.{Meta}
use Rattle.ca_dbr.specs.declared.value.Value.{Value}
use Rattle.ca_dbr.specs.Conversion.{Fails}
use Rattle.ca_display.specs.Conversion.{converted_by}
use Rattle.ca_dbr.specs.Elements.{Elements, base_of, elements}
use Rattle.ca_dbr.specs.Held.{display_of, Kind, kind_of}
use Rattle.ca_dbr.specs.Reading.{ReadRefused, Reads, ReadsElements}
use Rattle.ca_dbr.specs.Types.{base_number, type_number}
use Rattle.ca_dbr.proofs.OneReading.{base_number-small, reads-one, type_number-one}
use Rattle.ca_ids.specs.Table.{under}
use Rattle.ca_records.specs.Puts.{Record, record_named}
use Rattle.ca_records.specs.Record.{RecordState}
use Rattle.ca_records.specs.Given.{given_as}
use Rattle.ca_records.proofs.Placings.{given-refused}
use Rattle.ca_text.proofs.Places.{some_is}
use Rattle.ca_text.specs.declared.refusal.Refusal.{Refusal}
use Rattle.ca_text.specs.declared.refusal.Refusal.TheVariants as refusal
use Rattle.ca_wire.specs.Fields.{Fields}
use Rattle.ca_model.specs.Due.{KnownRecord, Knows, PutTaken, Serves}
use Rattle.ca_model.specs.Images.{base_type_of, base_types}
use Rattle.ca_model.specs.Server.{Server, ServerEnd}
use Rattle.ca_model.specs.ServerSteps.{HasEnd, known_record, knows}
use Rattle.ca_server_core.specs.Asking.{NamesUnder, state_in}
use Rattle.ca_world_servers.specs.declared.coming.Coming.{Coming}
use Rattle.ca_world_servers.specs.Coming.{Foresees, GivesElements, GivesValue, busies_by}
use Rattle.ca_world_servers.proofs.Served.{served-name, unserved}

abbrev plain : BaseType → DataType
plain b = record { base = b; form = form.Plain }

abbrev blank : Meta
blank = record { status = 0; severity = 0; seconds = 0; nanos = 0 }

-- elements alone are read as a plain type
as-plain : (b : BaseType) (count : ℕ) (bytes : List ℕ) (e : Elements) → ReadsElements b count bytes e → Reads (plain b) count bytes e blank
as-plain b count bytes e reads = record {
  padding = [];
  body = bytes;
  parts = refl;
  padded = refl;
  elements = reads;
  meta = record { status = omega arith; severity = omega arith; seconds = omega arith; nanos = omega arith };
  only = refl;
}

is-plain : (b : BaseType) (t : DataType) → type_number t ≡ base_number b → t ≡ plain b
is-plain b t is = type_number-one t (plain b) (let e : base_number b + 0 ≡ base_number b = omega arith in is ∙ sym e)

module _ (m : Fields) (number count : ℕ) (bytes : List ℕ) (numbered : number ≡ m.data_type) (counted : count ≡ m.count) (carried : bytes ≡ m.payload) where
  -- what was read is all that the message gives
  pub gives-read : (t : DataType) (e : Elements) (meta : Meta) → type_number t ≡ number → Reads t count bytes e meta → GivesElements m (Some e)
  gives-read t e meta is reads b f based others =
      let one : t ≡ plain b = is-plain b t (is ∙ numbered ∙ sym based) in
      let here : Reads (plain b) count bytes e meta = subst (λ (x : DataType). Reads x count bytes e meta) one reads in
      let there : Reads (plain b) m.count m.payload e meta = subst (λ (x : ℕ × List ℕ). Reads (plain b) x.0 x.1 e meta) (λ t. (counted t, carried t)) here in
      ap Some (reads-one (plain b) m.count m.payload e f meta blank there (as-plain b m.count m.payload f others)).0

  -- what is refused gives nothing
  pub gives-none : (r : Refusal) → (r ≡ refusal.OutOfMemory → ⊥) → ReadRefused number count bytes r → GivesElements m None
  gives-none r other refused b e based reads =
      let here : Reads (plain b) count bytes e blank = subst (λ (x : ℕ × List ℕ). Reads (plain b) x.0 x.1 e blank) (λ t. (sym counted t, sym carried t)) (as-plain b m.count m.payload e reads) in
      absurd (go r other refused b e (numbered ∙ sym based) here)
    where
      go : (r : Refusal) → (r ≡ refusal.OutOfMemory → ⊥) → ReadRefused number count bytes r → (b : BaseType) (e : Elements) → number ≡ base_number b → Reads (plain b) count bytes e blank → ⊥
      go refusal.BadType other refused b e is reads = (let small = base_number-small b in absurd (omega (arith, small, is, refused)))
      go refusal.Short other refused b e is reads =
          let one : refused.0 ≡ plain b = is-plain b refused.0 (refused.1 ∙ is) in
          refused.3 e blank (subst (λ (x : DataType). Reads x count bytes e blank) (sym one) reads)
      go refusal.OutOfMemory other refused b e is reads = other refl
      go _ other refused b e is reads = absurd refused

-- no elements are of a type that is none
pub gives-untyped : (m : Fields) (number : ℕ) → number ≡ m.data_type → 6 < number → GivesElements m None
gives-untyped m number is over b e based reads = (let small = base_number-small b in absurd (omega (arith, small, is, based, over)))

-- ---- values

pub value-none : (m : Fields) (k : Kind) → GivesElements m None → GivesValue m k None
value-none m k none b e v based reads is = (let wrong = none b e based reads in absurd cc)

pub value-made : (m : Fields) (k : Kind) (g w : Elements) → GivesElements m (Some g) → given_as g k ≡ Ok w → GivesValue m k (Some w)
value-made m k g w gives made b e v based reads is =
    let one = gives b e based reads in
    let same : g ≡ e = cc in
    let both : given_as g k ≡ Ok v = subst (λ (x : Elements). given_as x k ≡ Ok v) (sym same) is in
    let there = sym made ∙ both in
    let w_is : w ≡ v = cc in
    ap Some w_is

value-failed : (m : Fields) (k : Kind) (g : Elements) (r : Refusal) → GivesElements m (Some g) → given_as g k ≡ Err r → GivesValue m k None
value-failed m k g r gives fails b e v based reads is =
    let one = gives b e based reads in
    let same : g ≡ e = cc in
    let both : given_as g k ≡ Ok v = subst (λ (x : Elements). given_as x k ≡ Ok v) (sym same) is in
    let there = sym fails ∙ both in
    absurd cc

-- what is refused for another reason than being out of memory gives nothing
pub value-refused : (m : Fields) (a : Value) (old : Elements) (r : Refusal) → GivesElements m (Some (elements a)) → (r ≡ refusal.OutOfMemory → ⊥) → Fails (converted_by (display_of old) (elements a) (base_of old)) r → GivesValue m (kind_of old) None
value-refused m a old r gives other (inl fails) = value-failed m (kind_of old) (elements a) r gives (given-refused a old r fails)
value-refused m a old r gives other (inr short) = absurd (other short.0)

-- ---- writes

-- what a search finds passes its test
find-holds : {A : Type 0} (test : A → Bool) (xs : List A) (x : A) → find test xs ≡ Some x → test x ≡ true
find-holds test [] x e = absurd cc
find-holds test (y ∷ ys) x e = go (test y) refl (find-holds test ys x) e
  where
    go : (b : Bool) → test y ≡ b → (find test ys ≡ Some x → test x ≡ true) → (if b then Some y else find test ys) ≡ Some x → test x ≡ true
    go true is later e = subst (λ (z : _). test z ≡ true) (some_is y x e) is
    go false is later e = later e

typed-number : (n : ℕ) (b : BaseType) → base_type_of n ≡ Some b → base_number b ≡ n
typed-number n b is = eqb-true (base_number b) n (find-holds (λ (c : BaseType). base_number c == n) base_types b is)

-- a write that is taken writes what its message gives
taken-gives : (m : Fields) (kind : Kind) (found : Option Elements) → GivesValue m kind found → (k : Knows) (c : Serves k m.p1) (v : Elements) → PutTaken k m c v → kind_of c.known.state.value ≡ kind → found ≡ Some v
taken-gives m kind found gives k c v taken is =
    gives taken.reads.base taken.elements v (typed-number m.data_type taken.reads.base taken.reads.typed) taken.reads.reads (subst (λ (x : Kind). given_as taken.elements x ≡ Ok v) is taken.is)

state-known : (o : Option Record) (k : KnownRecord) → option_map known_record o ≡ Some k → state_in o ≡ Some k.state
state-known None k is = absurd cc
state-known (Some r) k is = ap (λ (z : KnownRecord). Some z.state) (some_is (known_record r) k is)

module _ (core : Server) (h : Handle) (m : Fields) where
  -- no channel is served
  pub none-named : NamesUnder (under core.circuits h) m.p1 None → Foresees core h m None
  none-named none e has c v taken =
      unserved core h m none e has c

  -- it is to the record of this name
  module _ (name : List ℕ) (named : NamesUnder (under core.circuits h) m.p1 (Some name)) where
    served-state : (e : ServerEnd) → HasEnd core h e → (c : Serves (knows core e) m.p1) → state_in (record_named core.records name) ≡ Some c.known.state
    served-state e has c =
        state-known (record_named core.records name) c.known (ap (λ (n : List ℕ). option_map known_record (record_named core.records n)) (sym (served-name core h m name named e has c)) ∙ c.named)

    -- the record is not there
    pub none-known : (let none : Option RecordState = None in none ≡ state_in (record_named core.records name)) → Foresees core h m None
    none-known none e has c v taken = (let there = served-state e has c in absurd cc)

    -- it is this
    module _ (s : RecordState) (known : Some s ≡ state_in (record_named core.records name)) where
      same-state : (e : ServerEnd) → HasEnd core h e → (c : Serves (knows core e) m.p1) → s ≡ c.known.state
      same-state e has c = some_is s c.known.state (known ∙ served-state e has c)

      kinds : (e : ServerEnd) → HasEnd core h e → (c : Serves (knows core e) m.p1) → kind_of c.known.state.value ≡ kind_of s.value
      kinds e has c = ap (λ (z : RecordState). kind_of z.value) (sym (same-state e has c))

      pub none-given : GivesValue m (kind_of s.value) None → Foresees core h m None
      none-given gives e has c v taken = (let wrong = taken-gives m (kind_of s.value) None gives (knows core e) c v taken (kinds e has c) in absurd cc)

      pub write-given : (w : Coming) → w.name.items ≡ name → w.busies ≡ busies_by m s → GivesValue m (kind_of s.value) (Some w.held) → Foresees core h m (Some w)
      write-given w is busy gives e has c v taken = (
        served-name core h m name named e has c ∙ sym is,
        sym (some_is w.held v (taken-gives m (kind_of s.value) (Some w.held) gives (knows core e) c v taken (kinds e has c))),
        busy ∙ ap (λ (z : RecordState). busies_by m z) (same-state e has c),
      )
