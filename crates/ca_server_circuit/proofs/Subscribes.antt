-- The faults of an EVENT_ADD.
use Rattle.std.proofs.Common.{◌≡◌, ℕ, ◌<◌, ◌%◌, ◌==◌, ◌||◌, inl, inr, Bool, true, false, not, nat_lt, [], ◌∷◌, length, Option, Some, None, Result, Ok, Err, refl, sym, ap, ◌∙◌}
use Rattle.std.specs.Prelude.{◌↔◌, IsTrue, is_some, option_map}
use Rattle.std.proofs.lemmas.Bool.{lt-ltb}
use Rattle.ca_text.specs.declared.refusal.Refusal.{Refusal}
use Rattle.ca_text.specs.Status.{add_fail, bad_count, bad_type, no_convert, no_read_access}
use Rattle.ca_dbr.specs.declared.data_type.BaseType.{BaseType}
use Rattle.ca_dbr.specs.Conversion.{HasConversion, IsFault, converted}
use Rattle.ca_dbr.specs.DisplayData.{DisplayData}
use Rattle.ca_dbr.specs.Elements.{Elements, base_of}
use Rattle.ca_dbr.specs.Held.{display_of}
use Rattle.ca_dbr.proofs.Faults.{converted-fault, converted-none}
use Rattle.ca_display.specs.declared.image_type.ImageType.{ImageType}
use Rattle.ca_display.specs.Types.{base_in}
use Rattle.ca_records.specs.Faults.{first_fault, lacks_conversion}
use Rattle.ca_records.specs.Record.{RecordState}
use Rattle.ca_records.specs.Rules.{may_read}
use Rattle.ca_wire.specs.Fields.{Fields}
use Rattle.ca_wire.specs.Messages.{mask_in}
use Rattle.ca_model.specs.Faults.{subscribed_count, subscription_fault, too_many}
use Rattle.ca_model.specs.Images.{image_type_of, lacks_conversion_to, lacks_type}
use Rattle.ca_server_circuit.specs.Showing.{LacksImage}

-- the faults in order, by their tests
abbrev six : (lacking forbidden header_only many lacks crowded : Bool) → Option ℕ
six lacking forbidden header_only many lacks crowded =
    first_fault ((lacking, bad_type) ∷ (forbidden, no_read_access) ∷ (header_only, add_fail) ∷ (many, bad_count) ∷ (lacks, no_convert) ∷ (crowded, add_fail) ∷ [])

-- whether there is a conversion decides what is told
lacks-none : (e : Elements) (b : BaseType) → (HasConversion (base_of e) b → ⊥) → lacks_conversion (converted e b) ≡ true
lacks-none e b none = ap (λ (r : Result Elements Refusal). lacks_conversion r) (converted-none e b none)

lacks-not : (e : Elements) (b : BaseType) → HasConversion (base_of e) b → lacks_conversion (converted e b) ≡ false
lacks-not e b has = by (converted e b) refl
  where
    fault : (why : Refusal) → IsFault why → lacks_conversion (Err why) ≡ false
    fault why (inl text) = ap (λ (w : Refusal). lacks_conversion (Err w)) text
    fault why (inr range) = ap (λ (w : Refusal). lacks_conversion (Err w)) range

    by : (r : Result Elements Refusal) → converted e b ≡ r → lacks_conversion (converted e b) ≡ false
    by (Ok f) is = ap (λ (r : Result Elements Refusal). lacks_conversion r) is
    by (Err why) is = ap (λ (r : Result Elements Refusal). lacks_conversion r) is ∙ fault why (converted-fault e b has why is)

converts-so : (e : Elements) (b : BaseType) (r : Bool) → (IsTrue r ↔ HasConversion (base_of e) b) → lacks_conversion (converted e b) ≡ not r
converts-so e b true has = lacks-not e b (has.0 refl)
converts-so e b false has = lacks-none e b (λ h. never (has.1 h))
  where
    never : false ≡ true → ⊥
    never is = cc

-- what there is of display data decides it
pub not-some : {A B : Type 0} (f : A → B) (o : Option A) (p : Option B) → option_map f o ≡ p → is_some o ≡ false → p ≡ None
not-some f None p is none = sym is
not-some f (Some x) p is none = absurd cc

pub is-some : {A B : Type 0} (f : A → B) (o : Option A) (p : Option B) → option_map f o ≡ p → is_some o ≡ true → p ≡ None → ⊥
is-some f None p is some none = absurd cc
is-some {A} {B} f (Some x) p is some none = never (is ∙ none)
  where
    never : ◌≡◌ {A = Option B} (Some (f x)) None → ⊥
    never e = cc

pub converts-plain : (o : Option DisplayData) (e : Elements) (b : BaseType) (r : Bool) → o ≡ None → (IsTrue r ↔ HasConversion (base_of e) b) → lacks_conversion_to o e b ≡ not r
converts-plain o e b r none has = ap (λ (p : Option DisplayData). lacks_conversion_to p e b) none ∙ converts-so e b r has

pub converts-display : (o : Option DisplayData) (e : Elements) (b : BaseType) → (o ≡ None → ⊥) → lacks_conversion_to o e b ≡ false
converts-display None e b some = absurd (some refl)
converts-display (Some d) e b some = refl

module _ (r : RecordState) (rights : ℕ) (in_use : Bool) (others : ℕ) (m : Fields) where
  abbrev told : Option ℕ → Type 0
  told o = subscription_fault r rights in_use others m (image_type_of m.data_type) ≡ o

  abbrev full : Bool
  full = not (nat_lt others 288)

  module _ (t : ImageType) (typed : image_type_of m.data_type ≡ Some t) where
    abbrev short : Bool
    short = nat_lt (length m.payload) 16

    abbrev blank : Bool
    blank = mask_in m % 16 == 0

    abbrev many : Bool
    many = too_many r t (subscribed_count r m)

    abbrev lacks : Bool
    lacks = lacks_conversion_to (display_of r.value) r.value (base_in t)

    at-type : (b : Bool) → lacks_type (display_of r.value) t ≡ b → told (six b (not (may_read rights)) (short || (blank || in_use)) many lacks full)
    at-type b has =
        ap (λ (o : Option ImageType). subscription_fault r rights in_use others m o) typed ∙ ap (λ (x : Bool). six x (not (may_read rights)) (short || (blank || in_use)) many lacks full) has

    module _ (has : lacks_type (display_of r.value) t ≡ false) where
      start : (b : Bool) → may_read rights ≡ b → told (six false (not b) (short || (blank || in_use)) many lacks full)
      start b right = at-type false has ∙ ap (λ (x : Bool). six false (not x) (short || (blank || in_use)) many lacks full) right

      pub event-right : may_read rights ≡ false → told (Some no_read_access)
      event-right right = start false right

      pub event-short : may_read rights ≡ true → length m.payload < 16 → told (Some add_fail)
      event-short right lt = start true right ∙ ap (λ (x : Bool). six false false (x || (blank || in_use)) many lacks full) (lt-ltb (length m.payload) 16 lt)

      past : may_read rights ≡ true → short ≡ false → (b : Bool) → blank ≡ b → told (six false false (b || in_use) many lacks full)
      past right whole b e =
          start true right ∙ ap (λ (x : Bool). six false false (x || (blank || in_use)) many lacks full) whole ∙ ap (λ (x : Bool). six false false (x || in_use) many lacks full) e

      pub event-blank : may_read rights ≡ true → short ≡ false → blank ≡ true → told (Some add_fail)
      event-blank right whole e = past right whole true e

      used : may_read rights ≡ true → short ≡ false → blank ≡ false → (b : Bool) → in_use ≡ b → told (six false false b many lacks full)
      used right whole e b u = past right whole false e ∙ ap (λ (x : Bool). six false false x many lacks full) u

      pub event-used : may_read rights ≡ true → short ≡ false → blank ≡ false → in_use ≡ true → told (Some add_fail)
      event-used right whole e u = used right whole e true u

      pub event-many : may_read rights ≡ true → short ≡ false → blank ≡ false → in_use ≡ false → many ≡ true → told (Some bad_count)
      event-many right whole e u f = used right whole e false u ∙ ap (λ (x : Bool). six false false false x lacks full) f

      lacking : may_read rights ≡ true → short ≡ false → blank ≡ false → in_use ≡ false → many ≡ false → (b : Bool) → lacks ≡ b → told (six false false false false b full)
      lacking right whole e u f b g =
          used right whole e false u ∙ ap (λ (x : Bool). six false false false x lacks full) f ∙ ap (λ (x : Bool). six false false false false x full) g

      pub event-lacks : may_read rights ≡ true → short ≡ false → blank ≡ false → in_use ≡ false → many ≡ false → lacks ≡ true → told (Some no_convert)
      event-lacks right whole e u f g = lacking right whole e u f true g

      pub event-last : may_read rights ≡ true → short ≡ false → blank ≡ false → in_use ≡ false → many ≡ false → lacks ≡ false → (b : Bool) → full ≡ b → told (six false false false false false b)
      event-last right whole e u f g b c = lacking right whole e u f false g ∙ ap (λ (x : Bool). six false false false false false x) c

  pub event-type : LacksImage r.value m.data_type → told (Some bad_type)
  event-type lacking = by (image_type_of m.data_type) refl
    where
      by : (o : Option ImageType) → image_type_of m.data_type ≡ o → told (Some bad_type)
      by None none = ap (λ (o : Option ImageType). subscription_fault r rights in_use others m o) none
      by (Some t) typed = at-type t typed true (lacking t typed)
