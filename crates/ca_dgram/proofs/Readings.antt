-- How a datagram is read.
use Rattle.std.proofs.Common.{◌≡◌, ◌≢◌, ℕ, ◌<◌, ◌+◌, ◌-◌, ◌%◌, ◌≤◌, List, [], ◌∷◌, ◌++◌, length, take, drop, Result, Ok, Err, MatchResult, refl, sym, ap, ◌∙◌, subst, arith}
use Rattle.std.specs.Result.{IsErrAnd}
use Rattle.std.proofs.lemmas.List.{take-append-drop, length-take-le, length-drop}
use Rattle.ca_text.specs.declared.refusal.Refusal.{Refusal}
use Rattle.ca_text.specs.declared.refusal.Refusal.TheVariants.{OutOfMemory, TooLarge}
use Rattle.ca_wire.specs.declared.header.Header.{Header}
use Rattle.ca_wire.specs.declared.reading.Head.{Head}
use Rattle.ca_wire.specs.Fields.{Fields, padded}
use Rattle.ca_wire.specs.Message.{IsMade, Spells}
use Rattle.ca_wire.specs.Stream.{BadAt, Begins, NoneBegins}
use Rattle.ca_wire.specs.declared.reading.One.{One}
use Rattle.ca_wire.specs.declared.reading.One.TheVariants.{Whole, More, Bad}
use Rattle.ca_wire.specs.Reading.{IsOne, IsWhole}
use Rattle.ca_text.specs.Limits.{payload_limit}
use Rattle.ca_wire.proofs.Headers.{header-long, header-short}
use Rattle.ca_wire.proofs.Messages.{spells-good}
use Rattle.ca_wire.proofs.Padding.{padded-none}
use Rattle.ca_wire.proofs.Taking.{whole-spells}
use Rattle.ca_dgram.specs.Datagram.{IsDatagram, Reads, SpellsFront}

-- the message of a header and the payload after it
abbrev pub fields_at : List ℕ → Head → Fields
fields_at bytes head = record { command = head.header.command; data_type = head.header.data_type; count = head.header.count; p1 = head.header.p1; p2 = head.header.p2; payload = take head.header.size (drop head.start bytes) }

length-fields_at : (bytes : List ℕ) (head : Head) → IsWhole bytes head → length (take head.header.size (drop head.start bytes)) ≡ head.header.size
length-fields_at bytes head whole =
    let room = whole.room in
    length-take-le head.header.size (drop head.start bytes) (omega (arith, length-drop head.start bytes))

pub spells-fields_at : (bytes : List ℕ) (head : Head) → IsWhole bytes head → SpellsFront bytes head (fields_at bytes head)
spells-fields_at bytes head whole =
    let h = head.header in
    let made : ℕ → Header = λ n. record { command = h.command; data_type = h.data_type; size = n; count = h.count; p1 = h.p1; p2 = h.p2 } in
    whole-spells bytes head (fields_at bytes head) whole (ap made (length-fields_at bytes head whole)) refl

whole-start : (bytes : List ℕ) (head : Head) → IsWhole bytes head → length (take head.start bytes) ≡ head.start
whole-start bytes head whole =
    let room = whole.room in
    length-take-le head.start bytes (omega arith)

pub whole-long : (bytes : List ℕ) (head : Head) → IsWhole bytes head → 16 ≤ head.start
whole-long bytes head whole = omega (arith, whole-start bytes head whole, header-long (take head.start bytes) head.header whole.header)

pub whole-short : (bytes : List ℕ) (head : Head) → IsWhole bytes head → head.start + head.header.size ≤ 24 + payload_limit
whole-short bytes head whole =
    let within = whole.within in
    omega (arith, whole-start bytes head whole, header-short (take head.start bytes) head.header whole.header)

-- what begins with a complete message has one
pub whole-some : (bytes : List ℕ) (head : Head) → IsWhole bytes head → NoneBegins bytes → ⊥
whole-some bytes head whole none =
    none (fields_at bytes head) (take (head.start + head.header.size) bytes) (drop (head.start + head.header.size) bytes) (spells-fields_at bytes head whole) (sym (take-append-drop (head.start + head.header.size) bytes))

-- what begins with a bad header begins with no message
pub bad-none : (bytes : List ℕ) (e : Refusal) → BadAt bytes e → NoneBegins bytes
bad-none bytes e bad m front back s are = spells-good m front back e s (subst (λ (t : List ℕ). BadAt t e) are bad)

-- where no complete message is found, none begins
pub not_whole-none : (bytes : List ℕ) (one : One) → IsOne bytes one → ((head : Head) → one ≡ Whole head → ⊥) → NoneBegins bytes
not_whole-none bytes (Whole head) is not = absurd (not head refl)
not_whole-none bytes More is not = is.0
not_whole-none bytes (Bad e) is not = bad-none bytes e is

-- the message that is made of them is padded already
pub made-front : (bytes : List ℕ) (head : Head) (r : Result Fields Refusal) → IsWhole bytes head → IsMade (fields_at bytes head) r → MatchResult r (SpellsFront bytes head) (λ e. e ≡ OutOfMemory)
made-front bytes head (Ok made) whole is =
    let aligned = whole.aligned in
    let padding : padded (fields_at bytes head).payload ≡ (fields_at bytes head).payload = padded-none _ (ap (λ (n : ℕ). n % 8) (length-fields_at bytes head whole) ∙ aligned) in
    let same : made ≡ fields_at bytes head = is.1 ∙ ap (λ (t : List ℕ). record (fields_at bytes head) { payload = t }) padding in
    subst (λ (m : Fields). SpellsFront bytes head m) (sym same) (spells-fields_at bytes head whole)
made-front bytes head (Err OutOfMemory) whole is = refl
made-front bytes head (Err TooLarge) whole is =
    let within = whole.within in
    absurd (omega (arith, length-fields_at bytes head whole, is))
made-front bytes head (Err _) whole is = absurd is

-- the payload as it was cut out
pub made-cut : (bytes items : List ℕ) (head : Head) (r : Result Fields Refusal) → IsWhole bytes head → items ≡ take (head.start + head.header.size - head.start) (drop head.start bytes)
    → IsMade (record { command = head.header.command; data_type = head.header.data_type; count = head.header.count; p1 = head.header.p1; p2 = head.header.p2; payload = items }) r → MatchResult r (SpellsFront bytes head) (λ e. e ≡ OutOfMemory)
made-cut bytes items head r whole e made =
    let n : head.start + head.header.size - head.start ≡ head.header.size = omega arith in
    let cut : items ≡ take head.header.size (drop head.start bytes) = e ∙ ap (λ (k : ℕ). take k (drop head.start bytes)) n in
    made-front bytes head r whole (subst (λ (t : List ℕ). IsMade (record { command = head.header.command; data_type = head.header.data_type; count = head.header.count; p1 = head.header.p1; p2 = head.header.p2; payload = t }) r) cut made)

-- one message more
pub begins-snoc : (bytes rest front back : List ℕ) (ms : List Fields) (m : Fields) → Begins bytes ms rest → Spells front m → rest ≡ front ++ back → Begins bytes (ms ++ m ∷ []) back
begins-snoc bytes rest front back [] m begins s e = (front, back, s, begins ∙ e, refl)
begins-snoc bytes rest front back (n ∷ ms) m begins s e =
    (begins.0, begins.1, begins.2, begins.3, begins-snoc begins.1 rest front back ms m begins.4 s e)

-- where more messages are after the first ones, a message begins the bytes
pub begins-some : (bytes rest : List ℕ) (ms : List Fields) → Begins bytes ms rest → (NoneBegins rest → ⊥) → NoneBegins bytes → ⊥
begins-some bytes rest [] begins some none = some (subst NoneBegins begins none)
begins-some bytes rest (m ∷ ms) begins some none = none m begins.0 begins.1 begins.2 begins.3

-- bytes that a message begins have one at least
pub some-read : (bytes : List ℕ) (ms : List Fields) → IsDatagram bytes ms → (NoneBegins bytes → ⊥) → ms ≢ []
some-read bytes [] is some e = some (subst NoneBegins (sym is.stream.reads) is.stream.partial)
some-read bytes (m ∷ ms) is some e = omega (arith, ap length e)

-- as many messages as these are some
pub counted-some : (n : ℕ) (ms : List Fields) → n ≡ length ms → 0 < n → ms ≢ []
counted-some n [] is some e = omega (arith, is)
counted-some n (m ∷ ms) is some e = omega (arith, ap length e)

pub reads-refused : (bytes : List ℕ) (e : Refusal) (r : Result (List Fields) Refusal) → IsErrAnd r (λ f. f ≡ e) → e ≡ OutOfMemory → (ms : List Fields) → IsDatagram bytes ms → ms ≢ [] → Reads bytes r
reads-refused bytes e (Ok x) is memory ms read some = absurd is
reads-refused bytes e (Err f) is memory ms read some = subst (λ (x : Refusal). Reads bytes (Err x)) (sym (is ∙ memory)) (ms, read, some)

-- the message at the front is one more
pub begins-next : (bytes rest behind : List ℕ) (ms ns : List Fields) (m : Fields) (head : Head) → Begins bytes ms rest → SpellsFront rest head m → behind ≡ drop (head.start + head.header.size) rest → ns ≡ ms ++ m ∷ [] → Begins bytes ns behind
begins-next bytes rest behind ms ns m head begins s e f =
    let next : Begins bytes (ms ++ m ∷ []) behind = begins-snoc bytes rest (take (head.start + head.header.size) rest) behind ms m begins s (sym (take-append-drop (head.start + head.header.size) rest) ∙ ap (λ (t : List ℕ). take (head.start + head.header.size) rest ++ t) (sym e)) in
    subst (λ (ks : List Fields). Begins bytes ks behind) (sym f) next

-- one message more was counted
pub counts-next : (bytes rest behind : List ℕ) (head : Head) (ms : List Fields) → Begins bytes ms rest → IsWhole rest head → behind ≡ drop (head.start + head.header.size) rest → Begins bytes (ms ++ fields_at rest head ∷ []) behind
counts-next bytes rest behind head ms begins whole e = begins-next bytes rest behind ms (ms ++ fields_at rest head ∷ []) (fields_at rest head) head begins (spells-fields_at rest head whole) e refl
