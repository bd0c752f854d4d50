-- How large an update is at most.
use Rattle.std.proofs.Common.{◌≡◌, ℕ, ◌+◌, ◌<◌, ◌≤◌, Option, Some, None, Result, Ok, Err, length, replicate, refl, sym, ap, ◌∙◌, subst, arith}
use Rattle.std.specs.Prelude.{MatchOption, MatchResult}
use Rattle.std.specs.Result.{result_ok}
use Rattle.std.proofs.lemmas.List.{length-replicate}
use Rattle.ca_text.specs.declared.refusal.Refusal.{Refusal}
use Rattle.ca_text.specs.declared.refusal.Refusal.TheVariants as refusal
use Rattle.ca_text.proofs.Places.{some_is}
use Rattle.ca_dbr.specs.declared.data_type.DataType.{DataType}
use Rattle.ca_dbr.specs.DisplayData.{DisplayData}
use Rattle.ca_dbr.specs.Elements.{Elements}
use Rattle.ca_dbr.specs.Held.{IsHeldValue, display_of}
use Rattle.ca_dbr.specs.Types.{size_of_image, type_number}
use Rattle.ca_display.specs.declared.image_type.ImageType.{ImageType}
use Rattle.ca_display.specs.declared.image_type.ImageType.TheVariants as any
use Rattle.ca_display.specs.Image.{size_in}
use Rattle.ca_display.specs.Types.{image_number}
use Rattle.ca_wire.specs.declared.requests.Wanted.{Wanted}
use Rattle.ca_wire.specs.Fields.{Fields}
use Rattle.ca_wire.proofs.Padding.{length-padded}
use Rattle.ca_model.specs.Images.{image_of, lacks_type, shown_in}
use Rattle.ca_model.specs.Speech.{Stored}
use Rattle.ca_model.specs.Updates.{update_count, update_in}
use Rattle.ca_model.proofs.Showing.{length-image_of}
use Rattle.ca_server_subscriptions.specs.Pumping.{GivesAt}
use Rattle.ca_server_subscriptions.specs.Subscribed.{Subscribed}
use Rattle.ca_server_circuit.specs.Concerned.{ShowsWithin, SizesAt}
use Rattle.ca_server_subscriptions.proofs.Imaging.{has-type, image_type-of-number, image_type-past, lacks-above}
use Rattle.ca_server_circuit.specs.Showing.{HasImage, LacksImage}

-- ---- that of what a record shows

module _ (held : Elements) (number count : ℕ) where
  abbrev Sized : Option ℕ → Type 0
  Sized o = MatchOption o (LacksImage held number) (λ size. HasImage held number count size)

  pub sized-plain : (r : Result ℕ Refusal) (o : Option ℕ) → o ≡ result_ok r → display_of held ≡ None
      → MatchResult r (λ size. (t : DataType) × (type_number t ≡ number) × (size ≡ size_of_image t count)) (λ e. (e ≡ refusal.BadType) × (20 < number)) → Sized o
  sized-plain (Ok size) o is none sized = subst Sized (sym is) (record {
    t = any.Data sized.0;
    typed = image_type-of-number (any.Data sized.0) number sized.1;
    has = ap (λ (p : Option DisplayData). lacks_type p (any.Data sized.0)) none;
    sized = sized.2;
  })
  sized-plain (Err e) o is none lacks = subst Sized (sym is) (λ t typed. lacks-above (display_of held) number t none lacks.1 typed)

  pub sized-display : (r : Result ℕ Refusal) (o : Option ℕ) → o ≡ result_ok r → (display_of held ≡ None → ⊥)
      → MatchResult r (λ size. (t : ImageType) × (image_number t ≡ number) × (size ≡ size_in t count)) (λ e. (e ≡ refusal.BadType) × (34 < number)) → Sized o
  sized-display (Ok size) o is some sized = subst Sized (sym is) (record {
    t = sized.0;
    typed = image_type-of-number sized.0 number sized.1;
    has = has-type (display_of held) number sized.0 sized.1 (λ over none. some none);
    sized = sized.2;
  })
  sized-display (Err e) o is some lacks = subst Sized (sym is) (λ t typed. absurd (never t (sym (image_type-past number lacks.1) ∙ typed)))
    where
      never : (t : ImageType) → (let none : Option ImageType = None in none ≡ Some t) → ⊥
      never t e = cc

-- ---- that of an update

module _ (w : Wanted) (v : Stored) (valued : IsHeldValue v.value) where
  -- its image, or as many zeros, and their padding
  in-type : (t : ImageType) (r : Result Elements Refusal) → shown_in v.value (update_count w v) t ≡ r → length (update_in w v t r).payload ≤ size_in t (update_count w v) + 7
  in-type t (Ok e) shows =
      let len = length-image_of t (update_count w v) v.value e v.meta valued shows in
      let all = length-padded (image_of v.value t e v.meta) in
      omega (arith, len, all)
  in-type t (Err r) shows =
      let len = length-replicate {A = ℕ} (size_in t (update_count w v)) 0 in
      let all = length-padded (replicate (size_in t (update_count w v)) 0) in
      omega (arith, len, all)

  pub shows-within : (u : ImageType) (n size : ℕ) → image_number u ≡ w.data_type → n ≡ update_count w v → size ≡ size_in u n → ShowsWithin w v (size + 7)
  shows-within u n size numbered count is m (t, typed, shows) =
      let same : u ≡ t = some_is u t (sym (image_type-of-number u w.data_type numbered) ∙ typed) in
      let one : size ≡ size_in t (update_count w v) = is ∙ (λ i. size_in (same i) (count i)) in
      let payload : length m.payload ≡ length (update_in w v t (shown_in v.value (update_count w v) t)).payload = ap (λ (x : Fields). length x.payload) shows in
      let within = in-type t (shown_in v.value (update_count w v) t) refl in
      omega (arith, one, payload, within)

-- ---- that of one which waits

module _ (s : Subscribed) (place index : ℕ) where
  pub sizes-none : GivesAt s place index None → SizesAt s place index None
  sizes-none gives x v waits = (let wrong = gives x v waits in absurd cc)

  pub sizes-one : (w : Wanted) (v : Stored) (n : ℕ) → GivesAt s place index (Some (w, v)) → ShowsWithin w v n → SizesAt s place index (Some n)
  sizes-one w v n gives within x u waits = (n, refl, subst (λ (y : Wanted × Stored). ShowsWithin y.0 y.1 n) (given (w, v) (x.wanted, u) (gives x u waits)) within)
    where
      given : (a b : Wanted × Stored) → Some a ≡ Some b → a ≡ b
      given a b is = some_is a b is
