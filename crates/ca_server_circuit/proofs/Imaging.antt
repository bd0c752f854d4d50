-- The image of what is shown, made in its place.
use Rattle.std.proofs.Common.{◌≡◌, ℕ, inl, inr, List, [], length, Some, Result, Ok, Err, refl, sym, ap, ◌∙◌}
use Rattle.std.specs.Prelude.{IfOk, replicate}
use Rattle.std.proofs.lemmas.Bool.{both_ways}
use Rattle.ca_text.specs.declared.refusal.Refusal.{Refusal}
use Rattle.ca_text.specs.declared.refusal.Refusal.TheVariants as refusal
use Rattle.ca_text.specs.Status.{get_fail, normal}
use Rattle.ca_dbr.specs.declared.value.Meta.{Meta}
use Rattle.ca_dbr.specs.Elements.{Elements, count_of}
use Rattle.ca_dbr.specs.Held.{IsHeldValue}
use Rattle.ca_display.specs.declared.image_type.ImageType.{ImageType}
use Rattle.ca_display.specs.Image.{size_in}
use Rattle.ca_display.specs.Types.{image_number}
use Rattle.ca_link.specs.Calls.{IsOpen, QueuesMade}
use Rattle.ca_link.specs.Link.{LinkState}
use Rattle.ca_records.specs.Record.{RecordState}
use Rattle.ca_wire.specs.declared.requests.Wanted.{Wanted}
use Rattle.ca_wire.specs.Fields.{Fields}
use Rattle.ca_wire.specs.Made.{with_payload}
use Rattle.ca_wire.specs.Messages.{status_reply, update, value_reply}
use Rattle.ca_model.specs.Faults.{read_count}
use Rattle.ca_model.specs.Images.{image_of, image_type_of, shown_in}
use Rattle.ca_model.specs.Speech.{Stored}
use Rattle.ca_model.specs.Updates.{ShowsTo, update_count}
use Rattle.ca_model.proofs.Showing.{shown_in-is}
use Rattle.ca_server_subscriptions.specs.Imaging.{shown_image}
use Rattle.ca_server_subscriptions.proofs.Imaging as imaging
use Rattle.ca_server_subscriptions.proofs.Imaging.{image-not, image-sized, image_type-of-number}
use Rattle.ca_server_circuit.specs.declared.read.ReadSize.{ReadSize}
use Rattle.ca_server_circuit.specs.Showing.{IsInOrder, ShowsRead, status_for}
use Rattle.ca_server_circuit.proofs.Pumps.{fails-update, shows-update}

-- ---- what a link that was to be given such a message has

module _ (head : Fields) (made : Result (List ℕ) Refusal) (old new : LinkState) where
  pub queued-not : (why : Refusal) → QueuesMade head made old (Err why) new → new ≡ old
  queued-not refusal.OutOfMemory did = did.1
  queued-not _ did = did.1

  pub why-not : (why : Refusal) → (why ≡ refusal.OutOfMemory → ⊥) → IsOpen old → QueuesMade head made old (Err why) new → made ≡ Err why
  why-not refusal.OutOfMemory memory free did = absurd (memory refl)
  why-not _ memory free did = elim did.0 [
    | inl shut ↦ absurd (both_ways old.input.closed free shut.1)
    | inr is ↦ is.1
  ]

-- ---- a read

module _ (r : RecordState) (m : Fields) (a : ReadSize) (order : IsInOrder r m a) (e : Elements) (e-is : e ≡ r.value) (meta : Meta) (meta-is : meta ≡ r.meta) where
  abbrev t : ImageType
  t = order.image.t

  shown-so : (x : Result Elements Refusal) → shown_in e a.count t ≡ x → shown_in r.value (read_count r m) t ≡ x
  shown-so x is = ap (λ (k : ℕ). shown_in r.value k t) (sym order.count) ∙ ap (λ (h : Elements). shown_in h a.count t) (sym e-is) ∙ is

  pub read-sized : IsHeldValue e → IfOk (shown_image m.data_type a.count e meta) (λ bytes. length bytes ≡ a.size)
  read-sized valued = image-sized m.data_type a.count e meta t order.image.typed a.size valued order.image.sized

  pub read-made : (head : Fields) → head ≡ value_reply m a.count [] → (bytes : List ℕ) → shown_image m.data_type a.count e meta ≡ Ok bytes → ShowsRead r m (with_payload bytes head)
  read-made head is bytes made =
      let x = imaging.image-of m.data_type a.count e meta t order.image.typed bytes made in
      let kind = shown_in-is t a.count x.0 e x.1 in
      record {
        t = t;
        typed = order.image.typed;
        shows = inl (
          x.0,
          shown-so (Ok x.0) x.1,
          ap (λ (h : Fields). with_payload bytes h) is ∙ ap (λ (k : ℕ). value_reply m k bytes) (sym kind.1) ∙ ap (λ (b : List ℕ). value_reply m (count_of x.0) b) x.2
              ∙ ap (λ (h : Elements). value_reply m (count_of x.0) (image_of h t x.0 meta)) e-is ∙ ap (λ (y : Meta). value_reply m (count_of x.0) (image_of r.value t x.0 y)) meta-is,
        );
      }

  pub read-failed : (why : Refusal) → shown_image m.data_type a.count e meta ≡ Err why → (status : ℕ) → status ≡ status_for why → (reply : Fields) → reply ≡ status_reply m status → ShowsRead r m reply
  read-failed why made status status-is reply is = record {
    t = t;
    typed = order.image.typed;
    shows = inr (why, shown-so (Err why) (image-not m.data_type a.count e meta t order.image.typed why made), is ∙ ap (λ (k : ℕ). status_reply m k) status-is);
  }

-- ---- an update

module _ (w : Wanted) (v : Stored) (t : ImageType) (numbered : image_number t ≡ w.data_type) (n : ℕ) (n-is : n ≡ update_count w v) (e : Elements) (e-is : e ≡ v.value) (meta : Meta) (meta-is : meta ≡ v.meta) where
  typed : image_type_of w.data_type ≡ Some t
  typed = image_type-of-number t w.data_type numbered

  update-so : (x : Result Elements Refusal) → shown_in e n t ≡ x → shown_in v.value (update_count w v) t ≡ x
  update-so x is = ap (λ (k : ℕ). shown_in v.value k t) (sym n-is) ∙ ap (λ (h : Elements). shown_in h n t) (sym e-is) ∙ is

  pub update-sized : (size : ℕ) → IsHeldValue e → size ≡ size_in t n → IfOk (shown_image w.data_type n e meta) (λ bytes. length bytes ≡ size)
  update-sized size valued is = image-sized w.data_type n e meta t typed size valued is

  pub update-made : (head : Fields) → head ≡ update w.data_type n normal w.id [] → (bytes : List ℕ) → shown_image w.data_type n e meta ≡ Ok bytes → ShowsTo w v (with_payload bytes head)
  update-made head is bytes made =
      let x = imaging.image-of w.data_type n e meta t typed bytes made in
      shows-update w v t typed x.0 (with_payload bytes head) (update-so (Ok x.0) x.1)
      (ap (λ (h : Fields). with_payload bytes h) is ∙ ap (λ (k : ℕ). update w.data_type k normal w.id bytes) n-is ∙ ap (λ (b : List ℕ). update w.data_type (update_count w v) normal w.id b) x.2
      ∙ ap (λ (h : Elements). update w.data_type (update_count w v) normal w.id (image_of h t x.0 meta)) e-is ∙ ap (λ (y : Meta). update w.data_type (update_count w v) normal w.id (image_of v.value t x.0 y)) meta-is)

  pub update-failed : (why : Refusal) → shown_image w.data_type n e meta ≡ Err why → (m : Fields) → m ≡ update w.data_type (update_count w v) get_fail w.id (replicate (size_in t (update_count w v)) 0) → ShowsTo w v m
  update-failed why made m is = fails-update w v t typed why m (update-so (Err why) (image-not w.data_type n e meta t typed why made)) is
