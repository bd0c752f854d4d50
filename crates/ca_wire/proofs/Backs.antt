-- The message at the front of bytes is read back.
use Rattle.std.proofs.Common.{◌≡◌, ℕ, ◌+◌, ◌≤◌, List, ◌++◌, length, take, drop, ap, ◌∙◌, subst, arith}
use Rattle.std.proofs.lemmas.List.{take-append-drop}
use Rattle.ca_text.specs.declared.refusal.Refusal.{Refusal}
use Rattle.ca_wire.specs.declared.header.Header.{Header}
use Rattle.ca_wire.specs.declared.reading.Head.{Head}
use Rattle.ca_wire.specs.declared.reading.One.{One}
use Rattle.ca_wire.specs.declared.reading.One.TheVariants.{Whole, More, Bad}
use Rattle.ca_wire.specs.Fields.{Fields}
use Rattle.ca_wire.specs.Front.{FrontFits}
use Rattle.ca_wire.specs.Message.{header_of, IsMessage, spelling}
use Rattle.ca_wire.specs.Reading.{IsOne, IsWhole}
use Rattle.ca_wire.proofs.Messages.{one-again, spelling-spells, spells-front}
use Rattle.ca_wire.proofs.Taking.{whole-spells}

front_one : (bytes : List ℕ) (room : ℕ) (one : One) → FrontFits bytes room → IsOne bytes one → (head : Head) × (one ≡ Whole head) × (head.header.size ≤ room)
front_one bytes room one f is =
    let w = one-again f.m (spelling f.m) f.rest one (spelling-spells f.m f.good) (subst (λ (b : List ℕ). IsOne b one) f.begins is) in
    let size : w.0.header.size ≡ length f.m.payload = ap (λ (h : Header). h.size) w.2 in
    (w.0, w.1, omega (arith, size, f.fits))

pub front-fits : (bytes : List ℕ) (room : ℕ) (head : Head) → FrontFits bytes room → IsWhole bytes head → head.header.size ≤ room
front-fits bytes room head f is =
    let w = front_one bytes room (Whole head) f is in
    let same : head ≡ w.0 = cc in
    let size : head.header.size ≡ w.0.header.size = ap (λ (h : Head). h.header.size) same in
    omega (arith, size, w.2)

pub front-more : (bytes : List ℕ) (room : ℕ) → FrontFits bytes room → IsOne bytes More → ⊥
front-more bytes room f is = absurd (let w = front_one bytes room More f is in never w.0 w.1)
  where
    never : (head : Head) → let x : One = More in x ≡ Whole head → ⊥
    never head e = cc

pub front-bad : (bytes : List ℕ) (room : ℕ) (e : Refusal) → FrontFits bytes room → IsOne bytes (Bad e) → ⊥
front-bad bytes room e f is = absurd (let w = front_one bytes room (Bad e) f is in never w.0 w.1)
  where
    never : (head : Head) → let x : One = Bad e in x ≡ Whole head → ⊥
    never head e = cc

pub front-same : (bytes rest : List ℕ) (head : Head) (m made : Fields) → IsMessage m → bytes ≡ spelling m ++ rest → IsWhole bytes head → header_of made ≡ head.header → made.payload ≡ take head.header.size (drop head.start bytes) → made ≡ m
front-same bytes rest head m made good begins whole same payload =
    let n : ℕ = head.start + head.header.size in
    let r = spells-front made m (take n bytes) (spelling m) (drop n bytes) rest (whole-spells bytes head made whole same payload) (spelling-spells m good) (take-append-drop n bytes ∙ begins) in
    r.0
