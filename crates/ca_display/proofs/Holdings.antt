-- What a record holds, by its value and its display data.
use Rattle.std.proofs.Common.{◌≡◌, ℕ, Bool, true, false, List, Option, Some, None, IfSome, refl, sym, ap}
use Rattle.ca_dbr.specs.declared.value.Value.{Value}
use Rattle.ca_dbr.specs.DisplayData.{DisplayData, IsData}
use Rattle.ca_dbr.specs.Elements.{Elements, displayed, elements, base_of, count_of, IsValue}
use Rattle.ca_dbr.specs.Held.{IsHeldValue, bare, display_of, displayed_by}
use Rattle.ca_dbr.specs.Reading.{CanReadOver, ReadsOver}
use Rattle.ca_dbr.proofs.Helds.{bare-alone, display_of-elements, held-valued}
use Rattle.ca_display.specs.Holding.{HoldsOver}

pub base_of-shown : (o : Option DisplayData) (e : Elements) → base_of (displayed_by o e) ≡ base_of e
base_of-shown None e = refl
base_of-shown (Some d) e = refl

pub count_of-shown : (o : Option DisplayData) (e : Elements) → count_of (displayed_by o e) ≡ count_of e
count_of-shown None e = refl
count_of-shown (Some d) e = refl

pub display_of-shown : (o : Option DisplayData) (v : Value) → display_of (displayed_by o (elements v)) ≡ o
display_of-shown None v = display_of-elements v
display_of-shown (Some d) v = refl

pub bare-shown : (o : Option DisplayData) (v : Value) → bare (displayed_by o (elements v)) ≡ elements v
bare-shown None v = bare-alone (elements v) (display_of-elements v)
bare-shown (Some d) v = bare-alone (elements v) (display_of-elements v)

-- with the display data of what has it
pub whole-shown : (o : Option DisplayData) (v : Value) (e : Elements) → displayed_by (display_of (displayed_by o (elements v))) e ≡ displayed_by o e
whole-shown o v e = ap (λ (x : Option DisplayData). displayed_by x e) (display_of-shown o v)

pub held-shown : (o : Option DisplayData) (e : Elements) → IfSome o IsData → IsValue e → IsHeldValue (displayed_by o e)
held-shown None e known valued = held-valued e valued
held-shown (Some d) e known valued = (known, valued)

-- one element that is read over the value
pub holds-over : (number : ℕ) (bytes : List ℕ) (o : Option DisplayData) (v w : Value) (result : Bool) → ReadsOver number bytes (elements v) result (elements w) → HoldsOver number bytes (displayed_by o (elements v)) result (displayed_by o (elements w))
holds-over number bytes None v w true read = (read.0, (elements w, read.1, sym (ap (λ (x : Option DisplayData). displayed_by x (elements w)) (display_of-elements v))))
holds-over number bytes (Some d) v w true read =
    let can : CanReadOver number bytes (displayed d (elements v)) = record { typed = read.0.typed; no_text = read.0.no_text; one = read.0.one; long = read.0.long } in
    (can, (elements w, read.1, refl))
holds-over number bytes None v w false read = read
holds-over number bytes (Some d) v w false read =
    (λ can. read.0 (record { typed = can.typed; no_text = can.no_text; one = can.one; long = can.long }), ap (λ (x : Elements). displayed d x) read.1)
