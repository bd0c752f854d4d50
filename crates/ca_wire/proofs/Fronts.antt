-- What the bytes at the front say.
use Rattle.std.proofs.Common.{◌≡◌, ℕ, ◌^◌, [], ◌+◌, ◌%◌, ◌<◌, ◌≤◌, List, ◌++◌, length, take, drop, sym, ap, ◌∙◌, inl, inr, append_assoc, arith}
use Rattle.std.proofs.lemmas.List.{take_at, take-append-drop, length-append, length-take}
use Rattle.ca_text.specs.Command.{command_number}
use Rattle.ca_text.specs.declared.command.Command.{Command}
use Rattle.ca_text.specs.Limits.{payload_limit}
use Rattle.ca_text.specs.declared.refusal.Refusal.{Refusal}
use Rattle.ca_wire.specs.declared.header.Header.{Header}
use Rattle.ca_wire.specs.declared.reading.Head.{Head}
use Rattle.ca_wire.specs.Header.{number16, number32, short_header, extended_header, HeaderFits}
use Rattle.ca_wire.specs.declared.requests.Wanted.{Wanted}
use Rattle.ca_wire.specs.Message.{header_of}
use Rattle.ca_wire.specs.Messages.{on_channel}
use Rattle.ca_wire.specs.Stream.{NoneBegins, Faults, BadAt, NotBad}
use Rattle.ca_wire.specs.Reading.{NoHeader, BeginsHeaderOnly, BeginsHeader}
use Rattle.ca_wire.proofs.Headers.{Narrow, narrowed, narrow-short, short-behind, extended-behind, length-short, length-extended, short-front, header-front, header-long}
use Rattle.ca_wire.proofs.Numbers.{number16-front}

-- six numbers in a row
pub six-numbers : (h : Header) (bytes a b c d e f : List ℕ) → bytes ≡ number16 h.command ++ a → a ≡ number16 h.size ++ b → b ≡ number16 h.data_type ++ c → c ≡ number16 h.count ++ d → d ≡ number32 h.p1 ++ e → e ≡ number32 h.p2 ++ f
    → bytes ≡ short_header h ++ f
six-numbers h bytes a b c d e f i j k l m n =
    i ∙ ap (λ (t : List ℕ). number16 h.command ++ t) (j ∙ ap (λ (t : List ℕ). number16 h.size ++ t) (k ∙ ap (λ (t : List ℕ). number16 h.data_type ++ t) (l ∙ ap (λ (t : List ℕ). number16 h.count ++ t) (m ∙ ap (λ (t : List ℕ). number32 h.p1 ++ t) n))))
    ∙ sym (short-behind h f)

pub none-below : (bytes : List ℕ) → length bytes < 16 → NoHeader bytes
none-below bytes few h front back s e = omega (arith, header-long front h s, ap length e, length-append front back)

pub begins-short : (h : Header) (bytes rest : List ℕ) → HeaderFits h → h.size < 65535 → h.count < 65536 → bytes ≡ short_header h ++ rest → BeginsHeader bytes (record { header = h; start = 16 })
begins-short h bytes rest fits size count e =
    record {
      header = record {
        fits = fits;
        form = inl (record { size = size; count = count; are = ap (λ (t : List ℕ). take 16 t) e ∙ take_at (short_header h) rest 16 (length-short h) });
      };
      room = omega (arith, ap length e, length-append (short_header h) rest, length-short h);
    }

pub begins-extended : (count16 : ℕ) (h : Header) (bytes rest : List ℕ) → HeaderFits h → count16 < 65536 → bytes ≡ short_header (narrowed count16 h) ++ (number32 h.size ++ (number32 h.count ++ rest)) → BeginsHeader bytes (record { header = h; start = 24 })
begins-extended count16 h bytes rest fits count e =
    let all : bytes ≡ extended_header count16 h ++ rest = e ∙ sym (extended-behind count16 h rest) in
    record {
      header = record {
        fits = fits;
        form = inr (record { count16 = count16; count = count; are = ap (λ (t : List ℕ). take 24 t) all ∙ take_at (extended_header count16 h) rest 24 (length-extended count16 h) });
      };
      room = omega (arith, ap length all, length-append (extended_header count16 h) rest, length-extended count16 h);
    }

-- the size says extended, and fewer than 24 bytes are there
pub none-extended : (g : Header) (bytes rest : List ℕ) → Narrow g → g.size ≡ 65535 → length rest < 8 → bytes ≡ short_header g ++ rest → NoHeader bytes
none-extended g bytes rest narrow size few e h front back s f =
    elim s.form [
      | inl p ↦
          let r = short-front g h rest back narrow (narrow-short h s.fits p.size p.count) (sym e ∙ f ∙ ap (λ (t : List ℕ). t ++ back) p.are) in
          let same : g.size ≡ h.size = ap (λ (k : Header). k.size) r.0 in
          let below = p.size in
          omega arith
      | inr p ↦ omega (arith, ap length e, length-append (short_header g) rest, length-short g, ap length f, length-append front back, ap length p.are, length-extended p.count16 h)
    ]

-- where no header is, no message is, and nothing is bad
pub no-header : (bytes : List ℕ) → NoHeader bytes → NoneBegins bytes × NotBad bytes
no-header bytes none =
    (λ m front back s e. none (header_of m) s.head (m.payload ++ back) s.header (e ∙ ap (λ (t : List ℕ). t ++ back) s.are ∙ append_assoc s.head m.payload back), λ e b. none b.header b.head b.back b.spells b.are)

parted : (bytes : List ℕ) (head : Head) → take head.start bytes ++ drop head.start bytes ≡ bytes
parted bytes head = take-append-drop head.start bytes

pub bad-header : (bytes : List ℕ) (head : Head) (e : Refusal) → BeginsHeader bytes head → Faults head.header e → BadAt bytes e
bad-header bytes head e begins faults =
    record { header = head.header; head = take head.start bytes; back = drop head.start bytes; spells = begins.header; are = sym (parted bytes head); faults = faults }

pub faultless : (h : Header) (e : Refusal) → h.size % 8 ≡ 0 → h.size ≤ payload_limit → Faults h e → ⊥
faultless h e aligned within faults =
    elim faults [
      | inl f ↦ f.1 aligned
      | inr f ↦ omega (arith, f.2)
    ]

-- a good header, and fewer bytes of payload than it names
pub not-whole : (bytes : List ℕ) (head : Head) → BeginsHeader bytes head → head.header.size % 8 ≡ 0 → head.header.size ≤ payload_limit → length bytes < head.start + head.header.size → NoneBegins bytes × NotBad bytes
not-whole bytes head begins aligned within few = (
  λ m front back s e.
      let all : take head.start bytes ++ drop head.start bytes ≡ s.head ++ (m.payload ++ back) = parted bytes head ∙ e ∙ ap (λ (t : List ℕ). t ++ back) s.are ∙ append_assoc s.head m.payload back in
      let r = header-front (take head.start bytes) s.head _ _ head.header (header_of m) begins.header s.header all in
      let size : head.header.size ≡ length m.payload = ap (λ (h : Header). h.size) r.0 in
      let room = begins.room in
      omega (arith, ap length r.1, length-take head.start bytes, ap length e, ap length s.are, length-append front back, length-append s.head m.payload),
  λ e b.
      let all : take head.start bytes ++ drop head.start bytes ≡ b.head ++ b.back = parted bytes head ∙ b.are in
      let r = header-front (take head.start bytes) b.head _ _ head.header b.header begins.header b.spells all in
      let size : head.header.size ≡ b.header.size = ap (λ (h : Header). h.size) r.0 in
      faultless b.header e (rw (← size) aligned) (rw (← size) within) b.faults,
)

-- ---- a message without payload, in 16 bytes

header_only-front : (bytes : List ℕ) (c : Command) (w : Wanted) → BeginsHeaderOnly bytes c w → bytes ≡ short_header (header_of (on_channel c w [])) ++ drop 16 bytes
header_only-front bytes c w begins =
    elim begins.header.form [
      | inl p ↦ sym (take-append-drop 16 bytes) ∙ ap (λ (t : List ℕ). t ++ drop 16 bytes) p.are
      | inr p ↦ absurd (omega (arith, ap length p.are, length-extended p.count16 (header_of (on_channel c w [])), length-take 16 bytes))
    ]

header_only-behind : (bytes : List ℕ) (c : Command) (w : Wanted) (n : ℕ) (rest : List ℕ) → BeginsHeaderOnly bytes c w → n < 2 ^ 16 → bytes ≡ number16 n ++ rest
    → (n ≡ command_number c) × ((back : List ℕ) × (rest ≡ number16 0 ++ back))
header_only-behind bytes c w n rest begins small e =
    let r = number16-front n (command_number c) rest _ small begins.header.fits.command (sym e ∙ header_only-front bytes c w begins ∙ short-behind (header_of (on_channel c w [])) (drop 16 bytes)) in
    (r.0, (_, r.1))

pub header_only-command : (bytes : List ℕ) (c : Command) (w : Wanted) (n : ℕ) (rest : List ℕ) → BeginsHeaderOnly bytes c w → n < 2 ^ 16 → bytes ≡ number16 n ++ rest → n ≡ command_number c
header_only-command bytes c w n rest begins small e = (header_only-behind bytes c w n rest begins small e).0

pub header_only-size : (bytes : List ℕ) (c : Command) (w : Wanted) (n k : ℕ) (rest back : List ℕ) → BeginsHeaderOnly bytes c w → n < 2 ^ 16 → k < 2 ^ 16 → bytes ≡ number16 n ++ rest → rest ≡ number16 k ++ back → k ≡ 0
header_only-size bytes c w n k rest back begins small few e f =
    let r = (header_only-behind bytes c w n rest begins small e).1 in
    (number16-front k 0 back r.0 few (omega arith) (sym f ∙ r.1)).0
