-- The bytes of small messages.
use Rattle.std.proofs.Common.{◌≡◌, ℕ, ◌<◌, List, [], ◌++◌, length, refl, sym, ap, ◌∙◌, arith}
use Rattle.std.proofs.lemmas.List.{append-nil}
use Rattle.std.proofs.Common.{inl}
use Rattle.ca_wire.specs.Header.{short_header}
use Rattle.ca_wire.specs.Fields.{Fields}
use Rattle.ca_wire.specs.Message.{IsMessage, Spells, header_of, spelling}
use Rattle.ca_wire.proofs.Headers.{spelling-short}

pub spelling-small : (m : Fields) → length m.payload < 65535 → m.count < 65535 → spelling m ≡ short_header (header_of m) ++ m.payload
unfolding spelling
spelling-small m size count = ap (λ (t : List ℕ). t ++ m.payload) (spelling-short (header_of m) size count)

-- a message with no payload is its header
pub spelling-header_only : (m : Fields) → m.payload ≡ [] → m.count < 65535 → spelling m ≡ short_header (header_of m)
spelling-header_only m none count =
    spelling-small m (omega (arith, ap length none)) count ∙ ap (λ (t : List ℕ). short_header (header_of m) ++ t) none ∙ append-nil (short_header (header_of m))

-- the short form is read as the message, also at the count that it is not written with
pub short-spells : (m : Fields) → IsMessage m → m.payload ≡ [] → m.count < 65536 → Spells (short_header (header_of m)) m
short-spells m good none count =
    record {
      good = good;
      head = short_header (header_of m);
      header = record { fits = good.header; form = inl (record { size = omega (arith, ap length none); count = count; are = refl }) };
      are = sym (ap (λ (t : List ℕ). short_header (header_of m) ++ t) none ∙ append-nil (short_header (header_of m)));
    }
