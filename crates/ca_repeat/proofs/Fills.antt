-- A beacon with its sender's address.
use Rattle.std.proofs.Common.{◌≡◌, ℕ, ◌<◌, ◌^◌, List, ◌++◌, length, take, drop, refl, sym, ap, ◌∙◌, inl, inr, append_assoc, arith}
use Rattle.std.proofs.lemmas.List.{length-append}
use Rattle.std.proofs.Math.Seq.{drop-append_seam, take-append_seam}
use Rattle.ca_wire.specs.declared.header.Header.{Header}
use Rattle.ca_wire.specs.Header.{number16, number32, short_header, extended_header, HeaderFits, HeaderSpells}
use Rattle.ca_wire.specs.Fields.{Fields}
use Rattle.ca_wire.specs.Message.{IsMessage, header_of}
use Rattle.ca_wire.proofs.Numbers.{length-number16, length-number32}
use Rattle.ca_wire.proofs.Headers.{extended-behind, length-extended, length-short, narrowed, short-behind}
use Rattle.ca_wire.proofs.Messages.{spells-behind}
use Rattle.ca_repeat.specs.declared.first.FirstMessage.TheVariants.{BlankBeacon}
use Rattle.ca_repeat.specs.First.{StandsFirst, passed}

-- the twelve bytes before the second parameter
abbrev twelve : Header → List ℕ
twelve h = number16 h.command ++ (number16 h.size ++ (number16 h.data_type ++ (number16 h.count ++ number32 h.p1)))

-- the header with another second parameter
abbrev with_p2 : Header → ℕ → Header
with_p2 h ip = record { command = h.command; data_type = h.data_type; size = h.size; count = h.count; p1 = h.p1; p2 = ip }

regrouped : (a b c d e f : List ℕ) → (a ++ (b ++ (c ++ (d ++ e)))) ++ f ≡ a ++ (b ++ (c ++ (d ++ (e ++ f))))
regrouped a b c d e f = simp append_assoc

length-twelve : (h : Header) → length (twelve h) ≡ 12
length-twelve h =
    simp length-append (omega (arith, length-number16 h.command, length-number16 h.size, length-number16 h.data_type, length-number16 h.count, length-number32 h.p1))

short-twelve : (h : Header) (x : List ℕ) → short_header h ++ x ≡ twelve h ++ (number32 h.p2 ++ x)
short-twelve h x =
    short-behind h x ∙ sym (regrouped (number16 h.command) (number16 h.size) (number16 h.data_type) (number16 h.count) (number32 h.p1) (number32 h.p2 ++ x))

take-front : (a b : List ℕ) (n : ℕ) → length a ≡ n → take n (a ++ b) ≡ a
take-front a b n e = ap (λ (k : ℕ). take k (a ++ b)) (sym e) ∙ take-append_seam a b

drop-front : (a b : List ℕ) (n : ℕ) → length a ≡ n → drop n (a ++ b) ≡ b
drop-front a b n e = ap (λ (k : ℕ). drop k (a ++ b)) (sym e) ∙ drop-append_seam a b

fill-short : (h : Header) (x bytes : List ℕ) (ip : ℕ) → bytes ≡ short_header h ++ x → take 12 bytes ++ (number32 ip ++ drop 16 bytes) ≡ short_header (with_p2 h ip) ++ x
fill-short h x bytes ip e =
    let before : take 12 bytes ≡ twelve h = ap (take 12) (e ∙ short-twelve h x) ∙ take-front (twelve h) (number32 h.p2 ++ x) 12 (length-twelve h) in
    let long : length (twelve h ++ number32 h.p2) ≡ 16 = omega (arith, length-append (twelve h) (number32 h.p2), length-twelve h, length-number32 h.p2) in
    let behind : drop 16 bytes ≡ x =
    ap (drop 16) (e ∙ short-twelve h x ∙ sym (append_assoc (twelve h) (number32 h.p2) x)) ∙ drop-front (twelve h ++ number32 h.p2) x 16 long in
    ap (λ (t : List ℕ). t ++ (number32 ip ++ drop 16 bytes)) before
    ∙ ap (λ (t : List ℕ). twelve h ++ (number32 ip ++ t)) behind
    ∙ sym (short-twelve (with_p2 h ip) x)

fits-p2 : (h : Header) (ip : ℕ) → ip < 2 ^ 32 → HeaderFits h → HeaderFits (with_p2 h ip)
fits-p2 h ip below fits =
    record { command = fits.command; data_type = fits.data_type; size = fits.size; count = fits.count; p1 = fits.p1; p2 = below }

-- a header with another second parameter, in the same form
record Refilled (head : List ℕ) (h : Header) (ip : ℕ) (x filled : List ℕ) : Type 0 where
  pub new : List ℕ
  pub spells : HeaderSpells new (with_p2 h ip)
  pub long : length new ≡ length head
  pub are : filled ≡ new ++ x

refilled : (head : List ℕ) (h : Header) (ip : ℕ) (x bytes : List ℕ) → ip < 2 ^ 32 → HeaderSpells head h → bytes ≡ head ++ x → Refilled head h ip x (take 12 bytes ++ (number32 ip ++ drop 16 bytes))
refilled head h ip x bytes below s e =
    elim s.form [
      | inl short ↦ record {
        new = short_header (with_p2 h ip);
        spells = record { fits = fits-p2 h ip below s.fits; form = inl (record { size = short.size; count = short.count; are = refl }) };
        long = length-short (with_p2 h ip) ∙ sym (ap length short.are ∙ length-short h);
        are = fill-short h x bytes ip (e ∙ ap (λ (t : List ℕ). t ++ x) short.are);
      }
      | inr long ↦ record {
        new = extended_header long.count16 (with_p2 h ip);
        spells = record { fits = fits-p2 h ip below s.fits; form = inr (record { count16 = long.count16; count = long.count; are = refl }) };
        long = length-extended long.count16 (with_p2 h ip) ∙ sym (ap length long.are ∙ length-extended long.count16 h);
        are =
            fill-short (narrowed long.count16 h) (number32 h.size ++ (number32 h.count ++ x)) bytes ip (e ∙ ap (λ (t : List ℕ). t ++ x) long.are ∙ extended-behind long.count16 h x)
            ∙ sym (extended-behind long.count16 (with_p2 h ip) x);
      }
    ]

pub fills : (bytes behind : List ℕ) (m : Fields) (ip : ℕ) → StandsFirst bytes m behind → ip < 2 ^ 32 → StandsFirst (passed BlankBeacon ip bytes) (record m { p2 = ip }) behind × (length (passed BlankBeacon ip bytes) ≡ length bytes)
fills bytes behind m ip s below =
    let spells = s.spells in
    let new = refilled spells.head (header_of m) ip (m.payload ++ behind) bytes below spells.header (s.are ∙ spells-behind m s.front behind spells) in
    let good : IsMessage (record m { p2 = ip }) = record { header = fits-p2 (header_of m) ip below spells.good.header; payload = spells.good.payload } in (
      record {
        front = new.new ++ m.payload;
        spells = record { good = good; head = new.new; header = new.spells; are = refl };
        are = new.are ∙ sym (append_assoc new.new m.payload behind);
      },
      omega (arith, ap length new.are, length-append new.new (m.payload ++ behind), ap length (s.are ∙ spells-behind m s.front behind spells), length-append spells.head (m.payload ++ behind), new.long),
    )
