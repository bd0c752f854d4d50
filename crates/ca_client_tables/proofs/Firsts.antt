-- The first message of a circuit, where it came.
use Rattle.std.proofs.Common.{◌≡◌, ◌∙◌, ℕ, ◌+◌, ◌≤◌, Fits, List, ap, arith, drop, inl, inr, length, length-drop, refl, sym, take, w64}
use Rattle.std.proofs.lemmas.List.{length-take-le, take-append-drop}
use Rattle.ca_link.specs.Link.{LinkState, TakesFirst}
use Rattle.ca_wire.specs.declared.header.Header.{Header}
use Rattle.ca_wire.specs.declared.reading.Head.{Head}
use Rattle.ca_wire.specs.Message.{header_of}
use Rattle.ca_wire.specs.Reading.{IsWhole}
use Rattle.ca_wire.proofs.Headers.{length-extended, length-short}
use Rattle.ca_wire.proofs.Taking.{whole-spells}
use Rattle.ca_client_tables.specs.First.{first_at, payload_at}

-- the end of a message that is there
pub end-fits : (bytes : List ℕ) (head : Head) → IsWhole bytes head → Fits w64 (head.start + head.header.size)
end-fits bytes head whole =
    let room = whole.room in
    let within = whole.within in
    let long : length (take head.start bytes) ≡ head.start = length-take-le head.start bytes (omega arith) in
    let few : head.start ≤ 24 = elim whole.header.form [
      | inl p ↦ omega (arith, long, ap length p.are, length-short head.header)
      | inr p ↦ omega (arith, long, ap length p.are, length-extended p.count16 head.header)
    ] in
    omega (arith, few, within)

-- its payload has the size in its header
pub payload-long : (bytes : List ℕ) (head : Head) → IsWhole bytes head → length (payload_at bytes head) ≡ head.header.size
payload-long bytes head whole =
    let room = whole.room in
    length-take-le head.header.size (drop head.start bytes) (omega (arith, length-drop head.start bytes))

-- its header is the one that was read
header-first : (bytes : List ℕ) (head : Head) → IsWhole bytes head → header_of (first_at bytes head) ≡ head.header
header-first bytes head whole =
    let h = head.header in
    let made : ℕ → Header = λ n. record { command = h.command; data_type = h.data_type; size = n; count = h.count; p1 = h.p1; p2 = h.p2 } in
    ap made (payload-long bytes head whole)

-- it is taken with what is after it
pub takes-first : (l : LinkState) (head : Head) → IsWhole l.input.bytes head → TakesFirst l (first_at l.input.bytes head) (drop (head.start + head.header.size) l.input.bytes)
takes-first l head whole = (
  take (head.start + head.header.size) l.input.bytes,
  whole-spells l.input.bytes head (first_at l.input.bytes head) whole (header-first l.input.bytes head whole) refl,
  sym (take-append-drop (head.start + head.header.size) l.input.bytes),
)
