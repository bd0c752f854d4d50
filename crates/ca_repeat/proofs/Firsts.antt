-- What a datagram begins with.
use Rattle.std.proofs.Common.{◌≡◌, ◌≢◌, ◌⊎◌, ◌++◌, ◌∷◌, refl, subst, false, ℕ, ◌+◌, ◌≤◌, List, [], length, take, drop, inl, inr, sym, ap, ◌∙◌, arith}
use Rattle.std.specs.Prelude.{◌==◌}
use Rattle.std.proofs.lemmas.Bool.{ne_eqb}
use Rattle.ca_wire.specs.Header.{number32}
use Rattle.ca_wire.proofs.Numbers.{length-number32}
use Rattle.ca_repeat.specs.declared.first.FirstMessage.{FirstMessage}
use Rattle.std.proofs.lemmas.List.{take-append-drop, length-append}
use Rattle.ca_wire.specs.declared.reading.Head.{Head}
use Rattle.ca_wire.specs.Fields.{Fields}
use Rattle.ca_wire.specs.Stream.{NoneBegins}
use Rattle.ca_wire.specs.Reading.{IsWhole}
use Rattle.ca_wire.proofs.Messages.{spells-front, spells-long}
use Rattle.ca_dgram.proofs.Readings.{fields_at, spells-fields_at}
use Rattle.ca_repeat.specs.declared.first.FirstMessage.TheVariants.{Registration, BlankBeacon, Other}
use Rattle.ca_repeat.specs.First.{IsBlank, IsFirst, StandsFirst, passed}

pub whole-first : (bytes : List ℕ) (head : Head) → IsWhole bytes head → StandsFirst bytes (fields_at bytes head) (drop (head.start + head.header.size) bytes)
whole-first bytes head whole =
    record { front = take (head.start + head.header.size) bytes; spells = spells-fields_at bytes head whole; are = sym (take-append-drop (head.start + head.header.size) bytes) }

-- one message alone is first
one-first : (bytes x y : List ℕ) (m n : Fields) → StandsFirst bytes m x → StandsFirst bytes n y → m ≡ n
one-first bytes x y m n s t = (spells-front m n s.front t.front x y s.spells t.spells (sym s.are ∙ t.are)).0

pub register-first : (bytes : List ℕ) (head : Head) → IsWhole bytes head → head.header.command ≡ 24 → IsFirst bytes (Registration (head.start + head.header.size))
register-first bytes head whole e = (whole.room, inr (fields_at bytes head, whole-first bytes head whole, e))

pub blank-first : (bytes : List ℕ) (head : Head) → IsWhole bytes head → head.header.command ≡ 13 → head.header.p2 ≡ 0 → IsFirst bytes BlankBeacon
blank-first bytes head whole e f = (fields_at bytes head, drop (head.start + head.header.size) bytes, whole-first bytes head whole, e, f)

pub none-first : (bytes : List ℕ) → bytes ≢ [] → NoneBegins bytes → IsFirst bytes Other
none-first bytes some none = (
  λ behind r. elim r [
    | inl e ↦ some e.0
    | inr s ↦ none s.0 s.1.front behind s.1.spells s.1.are
  ],
  λ b. none b.0 b.2.front b.1 b.2.spells b.2.are,
)

pub other-first : (bytes : List ℕ) (head : Head) → bytes ≢ [] → IsWhole bytes head → head.header.command ≢ 24 → (head.header.command ≢ 13) ⊎ (head.header.p2 ≢ 0) → IsFirst bytes Other
other-first bytes head some whole command blank = (
  λ behind r. elim r [
    | inl e ↦ some e.0
    | inr s ↦ command (ap (λ (m : Fields). m.command) (one-first bytes _ behind (fields_at bytes head) s.0 (whole-first bytes head whole) s.1) ∙ s.2)
  ],
  λ b.
      let same : fields_at bytes head ≡ b.0 = one-first bytes _ b.1 (fields_at bytes head) b.0 (whole-first bytes head whole) b.2 in
      elim blank [
        | inl c ↦ c (ap (λ (m : Fields). m.command) same ∙ b.3)
        | inr p ↦ p (ap (λ (m : Fields). m.p2) same ∙ b.4)
      ],
)

pub blank-long : (bytes : List ℕ) → IsBlank bytes → 16 ≤ length bytes
blank-long bytes b = omega (arith, spells-long b.0 b.2.front b.2.spells, ap length b.2.are, length-append b.2.front b.1)

pub some-bytes : (bytes : List ℕ) → length bytes ≢ 0 → bytes ≢ []
some-bytes bytes some e = some (ap length e)

other-some : (bytes : List ℕ) → IsFirst bytes Other → length bytes ≡ 0 → ⊥
other-some [] first e = first.0 [] (inl (refl, refl))
other-some (b ∷ bytes) first e = absurd (omega (arith, e))

-- what is handed on of a beacon or of any other datagram has bytes
pub blank-left : (first : FirstMessage) (bytes : List ℕ) (ip : ℕ) → first ≡ BlankBeacon → false ≡ (length (passed first ip bytes) == 0)
blank-left first bytes ip is =
    let some : length (passed BlankBeacon ip bytes) ≡ 0 → ⊥ =
    λ e. absurd (omega (arith, e, length-append (take 12 bytes) (number32 ip ++ drop 16 bytes), length-append (number32 ip) (drop 16 bytes), length-number32 ip)) in
    sym (ap (λ (f : FirstMessage). length (passed f ip bytes) == 0) is ∙ ne_eqb (length (passed BlankBeacon ip bytes)) 0 some)

pub other-left : (first : FirstMessage) (bytes : List ℕ) (ip : ℕ) → first ≡ Other → IsFirst bytes first → false ≡ (length (passed first ip bytes) == 0)
other-left first bytes ip is stands =
    sym (ap (λ (f : FirstMessage). length (passed f ip bytes) == 0) is ∙ ne_eqb (length bytes) 0 (other-some bytes (subst (IsFirst bytes) is stands)))
