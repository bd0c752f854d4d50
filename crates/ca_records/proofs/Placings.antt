-- A value in place of what a record holds, whose display data stay.
use Rattle.std.proofs.Common.{◌≡◌, ◌≢◌, ℕ, ◌≤◌, Bool, true, false, List, Option, Some, None, Result, Ok, Err, refl, sym, ap, subst, ◌∙◌, arith}
use Rattle.ca_text.specs.declared.refusal.Refusal.{Refusal}
use Rattle.ca_text.specs.declared.refusal.Refusal.TheVariants as refusal
use Rattle.ca_dbr.specs.declared.data_type.BaseType.{BaseType}
use Rattle.ca_dbr.specs.declared.value.Meta.{Meta}
use Rattle.ca_dbr.specs.declared.value.Value.{Value}
use Rattle.ca_dbr.specs.DisplayData.{DisplayData}
use Rattle.ca_dbr.specs.Elements.{Elements, IsValue, base_of, count_of, elements}
use Rattle.ca_dbr.specs.Held.{IsHeldValue, Kind, bare, display_of, displayed_by, kind_of}
use Rattle.ca_dbr.specs.Reading.{IsMeta}
use Rattle.ca_dbr.proofs.Helds.{bare-alone, display_of-elements}
use Rattle.ca_display.specs.Holding.{HoldsOver}
use Rattle.ca_display.proofs.Holdings.{base_of-shown, count_of-shown, display_of-shown, held-shown}
use Rattle.ca_text.proofs.Places.{At-one, some_is}
use Rattle.ca_records.specs.Calls.{PostFault}
use Rattle.ca_records.specs.Faults.{put_fault}
use Rattle.ca_records.specs.Given.{given_as, in_display}
use Rattle.ca_records.specs.Judging.{converted_as}
use Rattle.ca_records.specs.Layout.{MayNotHave}
use Rattle.ca_records.specs.Over.{TakesOver, in_place_of}
use Rattle.ca_records.specs.Puts.{Record, record_named}
use Rattle.ca_records.specs.Record.{HoldsValue, IsRecord, RecordState}
use Rattle.ca_records.specs.Store.{Finds, HasAt, Store, display_at, display_in, records_of}
use Rattle.ca_records.proofs.Givens.{data-held, in_display-ok}

abbrev kind : BaseType → Option DisplayData → Kind
kind b o = record { base = b; display = o }

-- ---- its type

pub placed-kind : (old : Elements) (v : Value) → base_of (elements v) ≡ base_of old → kind_of (in_place_of old (elements v)) ≡ kind_of old
placed-kind old v based = λ i. kind ((base_of-shown (display_of old) (elements v) ∙ based) i) (display_of-shown (display_of old) v i)

pub placed-other : (old : Elements) (v : Value) → base_of (elements v) ≢ base_of old → kind_of (in_place_of old (elements v)) ≢ kind_of old
placed-other old v other = λ same. other (sym (base_of-shown (display_of old) (elements v)) ∙ ap (λ (k : Kind). k.base) same)

-- ---- a record with it

module _ (s : RecordState) (is : IsRecord s) where
  pub placed-held : (e : Elements) → IsValue e → IsHeldValue (in_place_of s.value e)
  placed-held e valued = held-shown (display_of s.value) e (data-held s.value is.valued) valued

  pub placed-record : (e h : Elements) (meta : Meta) → HoldsValue s.count (in_place_of s.value e) → IsValue e → IsMeta meta → h ≡ in_place_of s.value e → IsRecord (record s { value = h; meta = meta })
  placed-record e h meta holds valued fits same = record {
    name = is.name;
    value = subst (λ (x : Elements). HoldsValue s.count x) (sym same) holds;
    valued = subst (λ (x : Elements). IsHeldValue x) (sym same) (placed-held e valued);
    meta = fits;
  }

  -- one element that is read over it
  one-holds : (e : Elements) → count_of e ≡ 1 → HoldsValue s.count (in_place_of s.value e)
  one-holds e one =
      let counted : count_of (in_place_of s.value e) ≡ 1 = count_of-shown (display_of s.value) e ∙ one in
      let some = is.value.one in
      let within = is.value.within in
      record { one = omega (arith, counted); within = omega (arith, counted, some, within); limit = is.value.limit }

  pub over-record : (number : ℕ) (bytes : List ℕ) (h : Elements) (meta : Meta) → HoldsOver number bytes s.value true h → IsMeta meta → IsRecord (record s { value = h; meta = meta })
  over-record number bytes h meta over fits =
      let e = over.1.0 in placed-record e h meta (one-holds e over.1.1.counted) over.1.1.valued fits over.1.2

  pub over-not : (number : ℕ) (bytes : List ℕ) (h : Elements) → HoldsOver number bytes s.value false h → IsRecord (record s { value = h })
  over-not number bytes h over = subst (λ (x : Elements). IsRecord (record s { value = x })) (sym over.1) is

  pub takes-over : (number : ℕ) (bytes : List ℕ) (h : Elements) (meta : Elements → Meta) → HoldsOver number bytes s.value true h → TakesOver number bytes meta s true (record s { value = h; meta = meta h })
  takes-over number bytes h meta over =
      let can = over.0 in
      let some : 1 ≤ s.count = (let one = is.value.one in let within = is.value.within in omega (arith, one, within)) in
      (over.1.0, record { typed = can.typed; long = can.long; reads = over.1.1; some = some }, ap (λ (x : Elements). record s { value = x; meta = meta x }) over.1.2)

-- ---- what is given to it

fault-display : (o : Option DisplayData) (r : Result Elements Refusal) (crowded : Bool) → put_fault (in_display o r) crowded ≡ put_fault r crowded
fault-display None r crowded = refl
fault-display (Some d) (Ok e) crowded = refl
fault-display (Some d) (Err r) crowded = refl

alone : (a : Value) → bare (elements a) ≡ elements a
alone a = bare-alone (elements a) (display_of-elements a)

-- what it is judged by
pub fault-given : (a : Value) (old : Elements) (crowded : Bool) → put_fault (given_as (elements a) (kind_of old)) crowded ≡ put_fault (converted_as (elements a) (kind_of old)) crowded
fault-given a old crowded =
    ap (λ (x : Elements). put_fault (in_display (display_of old) (converted_as x (kind_of old))) crowded) (alone a) ∙ fault-display (display_of old) (converted_as (elements a) (kind_of old)) crowded

-- what it comes to
pub given-placed : (a : Value) (old f : Elements) → converted_as (elements a) (kind_of old) ≡ Ok f → given_as (elements a) (kind_of old) ≡ Ok (in_place_of old f)
given-placed a old f made =
    ap (λ (x : Elements). in_display (display_of old) (converted_as x (kind_of old))) (alone a)
    ∙ ap (λ (r : Result Elements Refusal). in_display (display_of old) r) made
    ∙ in_display-ok (display_of old) f

refused-display : (o : Option DisplayData) (r : Refusal) → in_display o (Err r) ≡ Err r
refused-display None r = refl
refused-display (Some d) r = refl

-- and why it does not
pub given-refused : (a : Value) (old : Elements) (r : Refusal) → converted_as (elements a) (kind_of old) ≡ Err r → given_as (elements a) (kind_of old) ≡ Err r
given-refused a old r made =
    ap (λ (x : Elements). in_display (display_of old) (converted_as x (kind_of old))) (alone a)
    ∙ ap (λ (x : Result Elements Refusal). in_display (display_of old) x) made
    ∙ refused-display (display_of old) r

-- ---- what is posted to it

refused-as : (records : List Record) (name : List ℕ) (r : Record) (e : Elements) (fault : Refusal) → record_named records name ≡ Some r → MayNotHave r.state e fault → PostFault records name e fault
refused-as records name r e refusal.BadType named why = (r, named, why)
refused-as records name r e refusal.BadCount named why = (r, named, why.0, why.1)
refused-as records name r e _ named why = absurd why

module _ (s : Store) (name : List ℕ) (place : ℕ) (found : Finds s name place) (r : Record) (at : HasAt s place r) where
  named-so : record_named (records_of s) name ≡ Some r
  named-so = found.found ∙ ap Some (some_is found.r r (At-one s.slots place (Some found.r) (Some r) found.at at))

  -- the display data of its record
  pub posted-so : (e : Elements) → displayed_by (display_at (records_of s) name) e ≡ in_place_of r.state.value e
  posted-so e = ap (λ (o : Option Record). displayed_by (display_in o) e) named-so

  pub post-refused : (e : Elements) (fault : Refusal) → MayNotHave r.state (in_place_of r.state.value e) fault → PostFault (records_of s) name (displayed_by (display_at (records_of s) name) e) fault
  post-refused e fault why = subst (λ (x : Elements). PostFault (records_of s) name x fault) (sym (posted-so e)) (refused-as (records_of s) name r (in_place_of r.state.value e) fault named-so why)
