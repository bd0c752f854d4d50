-- What is given to a record: it is of the record's type, and as many elements.
use Rattle.std.proofs.Common.{◌≡◌, ◌≢◌, Option, Some, None, Result, Ok, IfSome, refl, sym, ap, subst, ◌∙◌}
use Rattle.ca_text.specs.declared.refusal.Refusal.{Refusal}
use Rattle.ca_dbr.specs.declared.data_type.BaseType.{BaseType}
use Rattle.ca_dbr.specs.declared.value.Value.{Value}
use Rattle.ca_dbr.specs.DisplayData.{DisplayData, IsData}
use Rattle.ca_dbr.specs.Elements.{Elements, strings, ints, floats, enums, chars, longs, doubles, displayed, elements, base_of, count_of, IsValue}
use Rattle.ca_dbr.specs.Conversion.{converted}
use Rattle.ca_dbr.specs.Held.{IsHeldValue, Kind, bare, display_of, displayed_by, kind_of}
use Rattle.ca_display.proofs.Holdings.{base_of-shown, count_of-shown}
use Rattle.ca_display.proofs.Shown.{display_converted-is}
use Rattle.ca_display.proofs.Values.{display_converted-display, display_converted-valued}
use Rattle.ca_dbr.proofs.Helds.{bare-alone, converted-display, count_of-bare, display_of-bare, display_of-elements, display_of-valued, held-valued}
use Rattle.ca_dbr.proofs.Shows.{converted-based, converted-counted, with_data-made}
use Rattle.ca_dbr.proofs.Valued.{converted-valued}
use Rattle.ca_display.specs.Conversion.{converted_by}
use Rattle.ca_records.specs.Given.{given_as, in_display}

-- ---- with display data, or without

display_of-displayed : (o : Option DisplayData) (e : Elements) → display_of e ≡ None → display_of (displayed_by o e) ≡ o
display_of-displayed None e none = none
display_of-displayed (Some d) e none = refl

held-displayed : (o : Option DisplayData) (e : Elements) → IfSome o IsData → IsValue e → IsHeldValue (displayed_by o e)
held-displayed None e shown valued = held-valued e valued
held-displayed (Some d) e shown valued = (shown, valued)

pub data-held : (v : Elements) → IsHeldValue v → IfSome (display_of v) IsData
data-held (strings xs) h = tt
data-held (ints xs) h = tt
data-held (floats xs) h = tt
data-held (enums xs) h = tt
data-held (chars xs) h = tt
data-held (longs xs) h = tt
data-held (doubles xs) h = tt
data-held (displayed d e) h = h.0

-- ---- types

abbrev kind : BaseType → Option DisplayData → Kind
kind b o = record { base = b; display = o }

-- elements of a record's type, in place of its own
pub kind_of-displayed : (e v : Elements) → display_of e ≡ None → base_of e ≡ base_of v → kind_of (displayed_by (display_of v) e) ≡ kind_of v
kind_of-displayed e v none based = λ i. kind ((base_of-shown (display_of v) e ∙ based) i) (display_of-displayed (display_of v) e none i)

-- both without display data
pub kind_of-alone : (e v : Elements) → display_of e ≡ None → display_of v ≡ None → base_of e ≡ base_of v → kind_of e ≡ kind_of v
kind_of-alone e v none own based = λ i. kind (based i) ((none ∙ sym own) i)

pub other-kind : (e v : Elements) → base_of e ≢ base_of v → kind_of e ≢ kind_of v
other-kind e v other same = other (ap (λ (k : Kind). k.base) same)

-- ---- what is given

made-of : (o : Option DisplayData) (r : Result Elements Refusal) (f : Elements) → in_display o r ≡ Ok f → (g : Elements) × (r ≡ Ok g) × (f ≡ displayed_by o g)
made-of None r f h = (f, h, refl)
made-of (Some d) r f h = with_data-made d r f h

-- elements in a type, by display data if there are some
converted_by-is : (o : Option DisplayData) (e : Elements) (b : BaseType) (f : Elements) → converted_by o e b ≡ Ok f → (base_of f ≡ b) × (count_of f ≡ count_of e) × (display_of f ≡ display_of e)
converted_by-is None e b f h = (converted-based e b f h, converted-counted e b f h, converted-display e b f h)
converted_by-is (Some d) e b f h = (let is = display_converted-is d e b f h in (is.0, is.1, display_converted-display d e b f h))

converted_by-valued : (o : Option DisplayData) (e : Elements) (b : BaseType) (f : Elements) → IfSome o IsData → IsValue e → converted_by o e b ≡ Ok f → IsValue f
converted_by-valued None e b f known valued h = converted-valued e b f valued h
converted_by-valued (Some d) e b f known valued h = display_converted-valued d f known e b valued h

pub given-counted : (e : Elements) (k : Kind) (f : Elements) → given_as e k ≡ Ok f → count_of f ≡ count_of e
given-counted e k f h =
    let made = made-of k.display (converted_by k.display (bare e) k.base) f h in
    ap count_of made.2 ∙ count_of-shown k.display made.0 ∙ (converted_by-is k.display (bare e) k.base made.0 made.1).1 ∙ count_of-bare e

pub given-kind : (e : Elements) (k : Kind) (f : Elements) → given_as e k ≡ Ok f → kind_of f ≡ k
given-kind e k f h =
    let made = made-of k.display (converted_by k.display (bare e) k.base) f h in
    let is = converted_by-is k.display (bare e) k.base made.0 made.1 in
    let based : base_of f ≡ k.base = ap base_of made.2 ∙ base_of-shown k.display made.0 ∙ is.0 in
    let none : display_of made.0 ≡ None = is.2 ∙ display_of-bare e in
    let shown : display_of f ≡ k.display = ap display_of made.2 ∙ display_of-displayed k.display made.0 none in
    λ i. kind (based i) (shown i)

-- a record may hold it
pub given-held : (e v f : Elements) → IsValue e → IsHeldValue v → given_as e (kind_of v) ≡ Ok f → IsHeldValue f
given-held e v f valued held h =
    let made = made-of (display_of v) (converted_by (display_of v) (bare e) (base_of v)) f h in
    let one : IsValue (bare e) = subst (λ (x : Elements). IsValue x) (sym (bare-alone e (display_of-valued e valued))) valued in
    let known = data-held v held in
    subst (λ (x : Elements). IsHeldValue x) (sym made.2) (held-displayed (display_of v) made.0 known (converted_by-valued (display_of v) (bare e) (base_of v) made.0 known one made.1))

-- without display data: what it is converted to
pub given-alone : (e v : Elements) → display_of e ≡ None → display_of v ≡ None → given_as e (kind_of v) ≡ converted e (base_of v)
given-alone e v none own =
    ap (λ (o : Option DisplayData). in_display o (converted_by o (bare e) (base_of v))) own
    ∙ ap (λ (x : Elements). converted x (base_of v)) (bare-alone e none)

-- the same of values of the program
pub given-judged : (a w : Value) (v : Elements) (b : BaseType) → elements w ≡ v → b ≡ base_of (elements w) → converted (elements a) b ≡ given_as (elements a) (kind_of v)
given-judged a w v b held is =
    ap (λ (x : BaseType). converted (elements a) x) (is ∙ ap base_of held)
    ∙ sym (given-alone (elements a) v (display_of-elements a) (ap display_of (sym held) ∙ display_of-elements w))

pub in_display-ok : (o : Option DisplayData) (e : Elements) → in_display o (Ok e) ≡ Ok (displayed_by o e)
in_display-ok None e = refl
in_display-ok (Some d) e = refl

-- elements of its own type stay as they are
pub converted_by-own : (o : Option DisplayData) (e : Elements) → display_of e ≡ None → converted_by o e (base_of e) ≡ Ok e
converted_by-own None (strings xs) none = refl
converted_by-own None (ints xs) none = refl
converted_by-own None (floats xs) none = refl
converted_by-own None (enums xs) none = refl
converted_by-own None (chars xs) none = refl
converted_by-own None (longs xs) none = refl
converted_by-own None (doubles xs) none = refl
converted_by-own (Some d) (strings xs) none = refl
converted_by-own (Some d) (ints xs) none = refl
converted_by-own (Some d) (floats xs) none = refl
converted_by-own (Some d) (enums xs) none = refl
converted_by-own (Some d) (chars xs) none = refl
converted_by-own (Some d) (longs xs) none = refl
converted_by-own (Some d) (doubles xs) none = refl
converted_by-own o (displayed d e) none = absurd cc

pub given-own : (e v : Elements) → display_of e ≡ None → base_of e ≡ base_of v → given_as e (kind_of v) ≡ Ok (displayed_by (display_of v) e)
given-own e v none based =
    ap (λ (x : Elements). in_display (display_of v) (converted_by (display_of v) x (base_of v))) (bare-alone e none)
    ∙ ap (λ (r : Result Elements Refusal). in_display (display_of v) r) (subst (λ (b : BaseType). converted_by (display_of v) e b ≡ Ok e) based (converted_by-own (display_of v) e none))
    ∙ in_display-ok (display_of v) e
