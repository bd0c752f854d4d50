-- Messages whose payload is made in its place.
use Rattle.std.proofs.Common.{◌≡◌, ℕ, ◌+◌, ◌-◌, ◌%◌, ◌≤◌, ◌<◌, List, ◌++◌, length, replicate, Result, Ok, Err, IfOk, refl, sym, ap, ◌∙◌, subst, append_assoc, arith, ◌⊎◌, inl, inr}
use Rattle.std.specs.Result.{IsErrAnd}
use Rattle.ca_text.specs.declared.refusal.Refusal.{Refusal}
use Rattle.ca_text.specs.declared.refusal.Refusal.TheVariants.{OutOfMemory}
use Rattle.ca_wire.specs.declared.header.Header.{Header}
use Rattle.ca_wire.specs.Header.{header_spelling}
use Rattle.ca_wire.specs.Fields.{Fields, IsPayload, padded}
use Rattle.ca_wire.specs.Made.{Extends, Makes, PutsMade, WritesMade, with_payload}
use Rattle.ca_wire.specs.Message.{header_of, spelling}
use Rattle.std.proofs.lemmas.List.{length-append, length-replicate}
use Rattle.ca_wire.proofs.Headers.{length-header_spelling}
use Rattle.ca_wire.proofs.Padding.{length-padded}

pub same-error : {A : Type 0} (r : Result A Refusal) (e : Refusal) → IsErrAnd r (λ x. x ≡ e) → r ≡ Err e
same-error (Ok x) e is = absurd is
same-error (Err x) e is = ap (λ (y : Refusal). Err y) is

pub extends-more : (old mid more : List ℕ) → mid ≡ old ++ more → (new : List ℕ) → Extends mid new → Extends old new
extends-more old mid more e new x =
    (more ++ x.0, x.1 ∙ ap (λ (t : List ℕ). t ++ x.0) e ∙ append_assoc old more x.0)

-- out of memory, after a beginning
pub lacks-memory : (m : Fields) (made : Result (List ℕ) Refusal) (old new : List ℕ) (r : Result (Unit {0}) Refusal) → r ≡ Err OutOfMemory → Extends old new → WritesMade m made old r new
lacks-memory m made old new r is x = subst (λ (s : Result (Unit {0}) Refusal). WritesMade m made old s new) (sym is) (refl, x)

made-refused : (m : Fields) (made : Result (List ℕ) Refusal) (old mid new : List ℕ) (e : Refusal) → ((new : List ℕ) → Extends mid new → Extends old new) → Makes made mid (Err e) new → WritesMade m made old (Err e) new
made-refused m made old mid new OutOfMemory more x = (refl, more new x)
made-refused m made old mid new _ more x = ((x.0, refl), more new x.1)

-- the payload was refused, after the header
pub refused-after : (m : Fields) (made : Result (List ℕ) Refusal) (old mid header new : List ℕ) (e : Refusal) (r : Result (Unit {0}) Refusal) → r ≡ Err e → mid ≡ old ++ header → Makes made mid (Err e) new → WritesMade m made old r new
refused-after m made old mid header new e r is at x =
    subst (λ (s : Result (Unit {0}) Refusal). WritesMade m made old s new) (sym is) (made-refused m made old mid new e (extends-more old mid header at) x)

-- the padded size, as it is computed
pub padded_size : (size n : ℕ) → size ≤ n → n < size + 8 → n % 8 ≡ 0 → n ≡ size + (8 - size % 8) % 8
padded_size size n low high multiple = omega arith

header-made : (m : Fields) (bytes : List ℕ) (size n : ℕ) (h : Header) → length bytes ≡ size → n ≡ size + (8 - size % 8) % 8 → h ≡ record (header_of m) { size = n } → h ≡ header_of (with_payload bytes m)
header-made m bytes size n h long e f =
    let same : n ≡ length (padded bytes) = e ∙ ap (λ (k : ℕ). k + (8 - k % 8) % 8) (sym long) ∙ sym (length-padded bytes) in
    f ∙ ap (λ (k : ℕ). record (header_of m) { size = k }) same

spelling-made : (m : Fields) (bytes : List ℕ) (size n : ℕ) (h : Header) → length bytes ≡ size → n ≡ size + (8 - size % 8) % 8 → h ≡ record (header_of m) { size = n } → header_spelling h ++ (bytes ++ replicate ((8 - size % 8) % 8) 0) ≡ spelling (with_payload bytes m)
unfolding spelling
spelling-made m bytes size n h long e f =
    ap (λ (k : ℕ). header_spelling h ++ (bytes ++ replicate ((8 - k % 8) % 8) 0)) (sym long)
    ∙ ap (λ (g : Header). header_spelling g ++ padded bytes) (header-made m bytes size n h long e f)

-- header, payload and padding, one after another
pub made-whole : (m : Fields) (made : Result (List ℕ) Refusal) (old mid put new : List ℕ) (size n : ℕ) (h : Header) → IfOk made (λ bytes. length bytes ≡ size) → n ≡ size + (8 - size % 8) % 8 → h ≡ record (header_of m) { size = n }
    → mid ≡ old ++ header_spelling h → Makes made mid (Ok tt) put → new ≡ put ++ replicate ((8 - size % 8) % 8) 0 → PutsMade m made old (Ok tt) new
made-whole m made old mid put new size n h sized e f at x last =
    let bytes = x.0 in
    let long : length bytes ≡ size = subst (λ (r : Result (List ℕ) Refusal). IfOk r (λ b. length b ≡ size)) x.1 sized in
    let zeros : List ℕ = replicate ((8 - size % 8) % 8) 0 in (
      bytes,
      x.1,
      last ∙ ap (λ (t : List ℕ). t ++ zeros) (x.2 ∙ ap (λ (t : List ℕ). t ++ bytes) at) ∙ append_assoc (old ++ header_spelling h) bytes zeros ∙ append_assoc old (header_spelling h) (bytes ++ zeros)
          ∙ ap (λ (t : List ℕ). old ++ t) (spelling-made m bytes size n h long e f),
    )

-- a header that is quoted, with an empty text
pub quotation-payload : (h : Header) → IsPayload (header_spelling h ++ replicate 8 0)
quotation-payload h = quotation_of (header_spelling h) (length-header_spelling h)
  where
    quotation_of : (head : List ℕ) → (length head ≡ 16) ⊎ (length head ≡ 24) → IsPayload (head ++ replicate 8 0)
    quotation_of head (inl e) = record { aligned = omega (arith, length-append head (replicate 8 0), length-replicate {A = ℕ} 8 0, e); within = omega (arith, length-append head (replicate 8 0), length-replicate {A = ℕ} 8 0, e) }
    quotation_of head (inr e) = record { aligned = omega (arith, length-append head (replicate 8 0), length-replicate {A = ℕ} 8 0, e); within = omega (arith, length-append head (replicate 8 0), length-replicate {A = ℕ} 8 0, e) }
