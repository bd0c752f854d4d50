-- Puts that wait, as contracts see them, and display data that are set.
use Rattle.std.proofs.Common.{◌≡◌, ◌⊎◌, inl, inr, Bool, true, false, not, List, [], ◌∷◌, ◌++◌, filter, map, Option, Some, refl, ap, ◌∙◌, ℕ, ◌<◌, get_or, length, subst, sym, arith}
use Rattle.std.proofs.lemmas.List.{length-map}
use Rattle.ca_dbr.specs.declared.data_type.BaseType.{BaseType}
use Rattle.ca_dbr.specs.DisplayData.{DisplayData, IsData}
use Rattle.ca_dbr.specs.Elements.{Elements, strings, ints, floats, enums, chars, longs, doubles, displayed, elements, base_of, IsValue}
use Rattle.ca_dbr.specs.Held.{IsHeldValue, Kind, bare, display_of, displayed_by}
use Rattle.ca_dbr.proofs.Helds.{bare-alone, count_of-bare, display_of-valued}
use Rattle.ca_display.proofs.Holdings.{bare-shown, base_of-shown, count_of-shown}
use Rattle.ca_text.specs.Place.{At}
use Rattle.ca_text.proofs.Places.{At-map}
use Rattle.ca_records.proofs.Copies.{at_get}
use Rattle.std.specs.List.{AllByRecursion}
use Rattle.ca_records.specs.declared.puts.QueuedPut.{QueuedPut}
use Rattle.ca_records.specs.Layout.{AreFit, IsFit, waiting_on, waiting_put}
use Rattle.ca_records.specs.declared.puts.Put.{Put}
use Rattle.ca_records.specs.Puts.{Record, WaitingPut, shown_by, without_puts}
use Rattle.ca_records.specs.Record.{IsRecord, RecordState}

pub true_or_false : (b : Bool) → (b ≡ true) ⊎ (b ≡ false)
true_or_false true = inl refl
true_or_false false = inr refl

-- the waiting puts that stay, of those that the code keeps
pub waiting_put-filter : (o : Option DisplayData) (t : Put → Bool) (xs : List QueuedPut) → map (waiting_put o) (filter (λ (w : QueuedPut). not (t w.put)) xs) ≡ filter (λ (w : WaitingPut). not (t w.put)) (map (waiting_put o) xs)
waiting_put-filter o t [] = refl
waiting_put-filter o t (x ∷ xs) = elim (true_or_false (t x.put)) [
  | inl h ↦ rw h (waiting_put-filter o t xs)
  | inr h ↦ rw h (ap (λ ws. waiting_put o x ∷ ws) (waiting_put-filter o t xs))
]

pub all-filter : {A : Type 0} (P : A → Type 0) (t : A → Bool) (xs : List A) → AllByRecursion P xs → AllByRecursion P (filter t xs)
all-filter P t [] all = tt
all-filter P t (x ∷ xs) all = elim (true_or_false (t x)) [
  | inl h ↦ rw h (all.0, all-filter P t xs all.1)
  | inr h ↦ rw h (all-filter P t xs all.1)
]

pub all-snoc : {A : Type 0} (P : A → Type 0) (xs : List A) (y : A) → AllByRecursion P xs → P y → AllByRecursion P (xs ++ y ∷ [])
all-snoc P [] y all p = (p, tt)
all-snoc P (x ∷ xs) y all p = (all.0, all-snoc P xs y all.1 p)

pub withdraws-fit : (s : RecordState) (t : Put → Bool) (xs ys : List QueuedPut) → AreFit s (waiting_on s xs) → ys ≡ filter (λ (w : QueuedPut). not (t w.put)) xs → AreFit s (waiting_on s ys)
withdraws-fit s t xs ys fit kept =
    rw (kept, waiting_put-filter (display_of s.value) t xs) (all-filter (λ (w : WaitingPut). IsFit s w.value) (λ (w : WaitingPut). not (t w.put)) (waiting_on s xs) fit)

pub withdraws : (s : RecordState) (busy : Option Put) (t : Put → Bool) (xs ys : List QueuedPut) → ys ≡ filter (λ (w : QueuedPut). not (t w.put)) xs → let r : Record = record { state = s; busy = busy; waiting = waiting_on s ys } in let q : Record = record { state = s; busy = busy; waiting = waiting_on s xs } in r ≡ without_puts t q
withdraws s busy t xs ys kept =
    ap (λ (ws : List WaitingPut). let r : Record = record { state = s; busy = busy; waiting = ws } in r) (ap (λ (zs : List QueuedPut). waiting_on s zs) kept ∙ waiting_put-filter (display_of s.value) t xs)

-- what waits at a place, as it was looked at
pub waits-at : (o : Option DisplayData) (items : List QueuedPut) (ws : List WaitingPut) (place : ℕ) (w : QueuedPut) → map (waiting_put o) items ≡ ws → place < length ws → w ≡ get_or items place w → (value : Elements) × (let p : WaitingPut = record { put = w.put; value = value } in At ws place p)
waits-at o items ws place w are within read =
    let same : length (map (waiting_put o) items) ≡ length items = length-map items (waiting_put o) in
    let inside : place < length items = omega (arith, within, same, ap length are) in
    let there : At items place w = subst (λ (t : QueuedPut). At items place t) (sym read) (at_get items place w inside) in
    (displayed_by o (elements w.value), subst (λ (t : List WaitingPut). At t place (waiting_put o w)) are (At-map (waiting_put o) items place w there))

-- ---- display data

-- it waits for the same as before while the display data stay
pub waits-alike : (s t : RecordState) (ws : List QueuedPut) → display_of t.value ≡ display_of s.value → waiting_on t ws ≡ waiting_on s ws
waits-alike s t ws same = ap (λ (o : Option DisplayData). map (waiting_put o) ws) same

-- a record shown by other display data
abbrev shown_state : DisplayData → RecordState → RecordState
shown_state d s = record s { value = displayed d (bare s.value) }

waiting-shown : (o : Option DisplayData) (d : DisplayData) (ws : List QueuedPut) → map (waiting_put (Some d)) ws ≡ map (λ (p : WaitingPut). record p { value = displayed d (bare p.value) }) (map (waiting_put o) ws)
waiting-shown o d [] = refl
waiting-shown o d (w ∷ ws) =
    λ i. (let p : WaitingPut = record { put = w.put; value = displayed d (sym (bare-shown o w.value) i) } in p) ∷ waiting-shown o d ws i

base_of-bare : (e : Elements) → base_of (bare e) ≡ base_of e
base_of-bare (strings xs) = refl
base_of-bare (ints xs) = refl
base_of-bare (floats xs) = refl
base_of-bare (enums xs) = refl
base_of-bare (chars xs) = refl
base_of-bare (longs xs) = refl
base_of-bare (doubles xs) = refl
base_of-bare (displayed d e) = base_of-bare e

bare-valued : (e : Elements) → IsHeldValue e → IsValue (bare e)
bare-valued (strings xs) is = is
bare-valued (ints xs) is = is
bare-valued (floats xs) is = is
bare-valued (enums xs) is = is
bare-valued (chars xs) is = is
bare-valued (longs xs) is = is
bare-valued (doubles xs) is = is
bare-valued (displayed d e) is = subst (λ (x : Elements). IsValue x) (sym (bare-alone e (display_of-valued e is.1))) is.1

shown-one : (s : RecordState) (d : DisplayData) (w : QueuedPut) → IsData d → IsFit s (displayed_by (display_of s.value) (elements w.value)) → IsFit (shown_state d s) (displayed d (elements w.value))
shown-one s d w known fit =
    let o = display_of s.value in
    let counted = count_of-shown o (elements w.value) in
    let one = fit.holds.one in
    let within = fit.holds.within in
    let based : base_of (elements w.value) ≡ base_of (bare s.value) = sym (base_of-shown o (elements w.value)) ∙ ap (λ (k : Kind). k.base) fit.based ∙ sym (base_of-bare s.value) in
    record {
      holds = record { one = omega (arith, one, counted); within = omega (arith, within, counted); limit = fit.holds.limit };
      valued = (known, subst (λ (x : Elements). IsValue x) (bare-shown o w.value) (bare-valued (displayed_by o (elements w.value)) fit.valued));
      based = ap (λ (b : BaseType). let k : Kind = record { base = b; display = Some d } in k) based;
    }

pub shown-fit : (s : RecordState) (d : DisplayData) (ws : List QueuedPut) → IsData d → AreFit s (waiting_on s ws) → AreFit (shown_state d s) (map (waiting_put (Some d)) ws)
shown-fit s d [] known fit = tt
shown-fit s d (w ∷ ws) known fit = (shown-one s d w known fit.0, shown-fit s d ws known fit.1)

pub shown-record : (s : RecordState) (d : DisplayData) → IsData d → IsRecord s → IsRecord (shown_state d s)
shown-record s d known is =
    let counted = count_of-bare s.value in
    let one = is.value.one in
    let within = is.value.within in
    record {
      name = is.name;
      value = record { one = omega (arith, one, counted); within = omega (arith, within, counted); limit = is.value.limit };
      valued = (known, bare-valued s.value is.valued);
      meta = is.meta;
    }

pub shown-whole : (s t : RecordState) (busy : Option Put) (d : DisplayData) (ws : List QueuedPut) → t ≡ shown_state d s → let r : Record = record { state = t; busy = busy; waiting = waiting_on t ws } in let q : Record = record { state = s; busy = busy; waiting = waiting_on s ws } in r ≡ shown_by d q
shown-whole s t busy d ws is =
    ap (λ (x : RecordState). let r : Record = record { state = x; busy = busy; waiting = waiting_on x ws } in r) is
    ∙ ap (λ (ps : List WaitingPut). let r : Record = record { state = shown_state d s; busy = busy; waiting = ps } in r) (waiting-shown (display_of s.value) d ws)
