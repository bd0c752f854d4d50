-- A message with a payload of eight bytes, its header in 16, at the front.
use Rattle.std.proofs.Common.{◌≡◌, ℕ, ◌^◌, ◌<◌, ◌≤◌, List, ◌++◌, length, take, drop, refl, sym, ap, ◌∙◌, inl, inr, arith}
use Rattle.std.proofs.lemmas.List.{take-append-drop, length-drop, length-take, length-take-le}
use Rattle.ca_text.specs.Command.{command_number}
use Rattle.ca_text.specs.declared.command.Command.{Command}
use Rattle.ca_wire.specs.declared.header.Header.{Header}
use Rattle.ca_wire.specs.declared.reading.Head.{Head}
use Rattle.ca_wire.specs.declared.requests.Wanted.{Wanted}
use Rattle.ca_wire.specs.Header.{number16, short_header}
use Rattle.ca_wire.specs.Message.{Spells, header_of}
use Rattle.ca_wire.specs.Reading.{BeginsScalar, IsWhole, scalar_in, scalar_header}
use Rattle.ca_wire.proofs.Headers.{length-extended, short-behind}
use Rattle.ca_wire.proofs.Numbers.{number16-front}
use Rattle.ca_wire.proofs.Taking.{whole-spells}

front-is : (bytes : List ℕ) (c : Command) (w : Wanted) → BeginsScalar bytes c w → bytes ≡ short_header (scalar_header c w) ++ drop 16 bytes
front-is bytes c w begins =
    elim begins.header.form [
      | inl p ↦ sym (take-append-drop 16 bytes) ∙ ap (λ (t : List ℕ). t ++ drop 16 bytes) p.are
      | inr p ↦ absurd (omega (arith, ap length p.are, length-extended p.count16 (scalar_header c w), length-take 16 bytes))
    ]

behind : (bytes : List ℕ) (c : Command) (w : Wanted) (n : ℕ) (rest : List ℕ) → BeginsScalar bytes c w → n < 2 ^ 16 → bytes ≡ number16 n ++ rest
    → (n ≡ command_number c) × ((back : List ℕ) × (rest ≡ number16 8 ++ back))
behind bytes c w n rest begins small e =
    let r = number16-front n (command_number c) rest _ small begins.header.fits.command (sym e ∙ front-is bytes c w begins ∙ short-behind (scalar_header c w) (drop 16 bytes)) in
    (r.0, (_, r.1))

pub short-command : (bytes : List ℕ) (c : Command) (w : Wanted) (n : ℕ) (rest : List ℕ) → BeginsScalar bytes c w → n < 2 ^ 16 → bytes ≡ number16 n ++ rest → n ≡ command_number c
short-command bytes c w n rest begins small e = (behind bytes c w n rest begins small e).0

pub short-size : (bytes : List ℕ) (c : Command) (w : Wanted) (n k : ℕ) (rest back : List ℕ) → BeginsScalar bytes c w → n < 2 ^ 16 → k < 2 ^ 16 → bytes ≡ number16 n ++ rest → rest ≡ number16 k ++ back → k ≡ 8
short-size bytes c w n k rest back begins small few e f =
    let r = (behind bytes c w n rest begins small e).1 in
    (number16-front k 8 back r.0 few (omega arith) (sym f ∙ r.1)).0

-- its 24 bytes spell it
pub short-spells : (bytes : List ℕ) (c : Command) (w : Wanted) → BeginsScalar bytes c w → Spells (take 24 bytes) (scalar_in bytes c w)
short-spells bytes c w begins =
    let head : Head = record { header = scalar_header c w; start = 16 } in
    let whole : IsWhole bytes head = record { header = begins.header; room = begins.room; aligned = refl; within = omega arith } in
    let room : 24 ≤ length bytes = begins.room in
    let eight : length (take 8 (drop 16 bytes)) ≡ 8 = length-take-le 8 (drop 16 bytes) (omega (arith, room, length-drop 16 bytes)) in
    let made : ℕ → Header = λ n. record { command = command_number c; data_type = w.data_type; size = n; count = w.count; p1 = w.sid; p2 = w.id } in
    let same : header_of (scalar_in bytes c w) ≡ scalar_header c w = ap made eight in
    whole-spells bytes head (scalar_in bytes c w) whole same refl
