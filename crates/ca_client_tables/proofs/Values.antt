-- The bytes of a value, as the payload of a write.
use Rattle.std.proofs.Common.{◌≡◌, ◌∙◌, ◌++◌, ℕ, ◌+◌, List, [], ◌∷◌, Result, Ok, Err, ap, append-nil, arith, refl, replicate, subst, sym}
use Rattle.ca_text.specs.declared.refusal.Refusal.{Refusal}
use Rattle.ca_text.specs.declared.refusal.Refusal.TheVariants as refusal
use Rattle.ca_dbr.specs.declared.data_type.DataType.{DataType}
use Rattle.ca_dbr.specs.declared.data_type.Form.{Form}
use Rattle.ca_dbr.specs.declared.data_type.Form.TheVariants as form
use Rattle.ca_dbr.specs.declared.value.Meta.{Meta}
use Rattle.ca_dbr.specs.Elements.{Elements, base_of, bytes_of}
use Rattle.ca_dbr.specs.Image.{Types, Writes, image, meta_bytes}
use Rattle.ca_dbr.specs.Types.{base_number, form_number, padding_size}
use Rattle.ca_link.specs.Calls.{QueuesMade}
use Rattle.ca_link.specs.Link.{LinkState, with_sent}
use Rattle.ca_wire.specs.Fields.{Fields}
use Rattle.ca_wire.specs.Made.{Makes, with_payload}

-- ---- the bytes of a value

plain-form : (f : Form) (n : ℕ) → n + form_number f ≡ n → f ≡ form.Plain
plain-form form.Plain n is = refl
plain-form form.Status n is = absurd (omega (arith, is))
plain-form form.Time n is = absurd (omega (arith, is))

plain-image : (t : DataType) (e : Elements) (m : Meta) → Types (base_number (base_of e)) e t → image t e m ≡ bytes_of e
plain-image t e m types =
    let number : base_number t.base ≡ base_number (base_of e) = ap base_number types.based in
    let plain : t.form ≡ form.Plain = plain-form t.form (base_number t.base) (types.numbered ∙ sym number) in
    ap (λ (f : Form). meta_bytes f m ++ (replicate (padding_size f t.base) 0 ++ bytes_of e)) plain

written-bytes : (e : Elements) (m : Meta) (old new : List ℕ) (r : Result (Unit {0}) Refusal) → Writes (base_number (base_of e)) e m old r new → Makes (Ok (bytes_of e)) old r new
written-bytes e m old new (Ok u) did =
    (bytes_of e, refl, did.2 ∙ ap (λ (xs : List ℕ). old ++ xs) (plain-image did.0 e m did.1))
written-bytes e m old new (Err refusal.OutOfMemory) did = ([], did.2 ∙ sym (append-nil old))
written-bytes e m old new (Err refusal.BadType) did =
    let plain : DataType = record { base = base_of e; form = form.Plain } in
    absurd (did.0 plain (record { numbered = omega arith; based = refl }))
written-bytes e m old new (Err _) did = absurd did

pub makes-bytes : (n : ℕ) (e : Elements) (m : Meta) (old new : List ℕ) (r : Result (Unit {0}) Refusal) → n ≡ base_number (base_of e) → Writes n e m old r new → Makes (Ok (bytes_of e)) old r new
makes-bytes n e m old new r is did = written-bytes e m old new r (subst (λ (k : ℕ). Writes k e m old r new) is did)

abbrev taken : Result (List ℕ) Refusal → List ℕ
taken (Ok xs) = xs
taken (Err e) = []

bytes-are : (a b : List ℕ) → ◌≡◌ {A = Result (List ℕ) Refusal} (Ok a) (Ok b) → b ≡ a
bytes-are a b is = sym (ap taken is)

pub queued-made : (m : Fields) (bytes : List ℕ) (old new : LinkState) → QueuesMade m (Ok bytes) old (Ok tt) new → new ≡ with_sent (with_payload bytes m ∷ []) old
queued-made m bytes old new did =
    did.1.2 ∙ ap (λ (xs : List ℕ). with_sent (with_payload xs m ∷ []) old) (bytes-are bytes did.1.0 did.1.1)

pub not-queued : (m : Fields) (bytes : List ℕ) (old new : LinkState) (e : Refusal) → QueuesMade m (Ok bytes) old (Err e) new → new ≡ old
not-queued m bytes old new refusal.OutOfMemory did = did.1
not-queued m bytes old new _ did = did.1
