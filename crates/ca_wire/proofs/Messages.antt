-- No text begins with two messages.
use Rattle.std.proofs.Common.{◌≡◌, ℕ, ◌+◌, ◌≤◌, List, [], ◌∷◌, ◌++◌, length, take, drop, refl, sym, ap, ◌∙◌, append_assoc, append-nil, arith}
use Rattle.std.proofs.lemmas.List.{take-append-drop, length-append}
use Rattle.ca_text.specs.declared.refusal.Refusal.{Refusal}
use Rattle.ca_wire.specs.declared.header.Header.{Header}
use Rattle.ca_wire.specs.declared.reading.Head.{Head}
use Rattle.ca_wire.specs.declared.reading.One.{One}
use Rattle.ca_wire.specs.declared.reading.One.TheVariants.{Whole, More, Bad}
use Rattle.ca_wire.specs.Header.{header_spelling}
use Rattle.ca_wire.specs.Fields.{Fields}
use Rattle.ca_wire.specs.Message.{header_of, IsMessage, spelling, Spells}
use Rattle.ca_wire.specs.Stream.{BadAt, NoneBegins}
use Rattle.ca_wire.specs.Reading.{IsOne}
use Rattle.ca_wire.proofs.Numbers.{fronts}
use Rattle.ca_wire.proofs.Headers.{header-front, header-long, header-spells, header_spelling-long, header_spelling-short}
use Rattle.ca_wire.proofs.Fronts.{faultless}

message-same : (m n : Fields) → header_of m ≡ header_of n → m.payload ≡ n.payload → m ≡ n
message-same m n h p =
    let made : Header → List ℕ → Fields = λ g t. record { command = g.command; data_type = g.data_type; count = g.count; p1 = g.p1; p2 = g.p2; payload = t } in
    ap (λ (g : Header). made g m.payload) h ∙ ap (λ (t : List ℕ). made (header_of n) t) p

-- the header, and what is after it
pub spells-behind : (m : Fields) (a x : List ℕ) (s : Spells a m) → a ++ x ≡ s.head ++ (m.payload ++ x)
spells-behind m a x s = ap (λ (t : List ℕ). t ++ x) s.are ∙ append_assoc s.head m.payload x

pub spells-front : (m n : Fields) (a b x y : List ℕ) → Spells a m → Spells b n → a ++ x ≡ b ++ y → (m ≡ n) × (a ≡ b) × (x ≡ y)
spells-front m n a b x y s t e =
    let all = sym (spells-behind m a x s) ∙ e ∙ spells-behind n b y t in
    let r = header-front s.head t.head (m.payload ++ x) (n.payload ++ y) (header_of m) (header_of n) s.header t.header all in
    let size : length m.payload ≡ length n.payload = ap (λ (h : Header). h.size) r.0 in
    let q = fronts m.payload n.payload x y size r.2 in
    (message-same m n r.0 q.0, s.are ∙ ap (λ (t : List ℕ). t ++ m.payload) r.1 ∙ ap (λ (p : List ℕ). t.head ++ p) q.0 ∙ sym t.are, q.1)

-- what begins with a message is not bad
pub spells-good : (m : Fields) (a x : List ℕ) (e : Refusal) → Spells a m → BadAt (a ++ x) e → ⊥
spells-good m a x e s bad =
    let r = header-front s.head bad.head (m.payload ++ x) bad.back (header_of m) bad.header s.header bad.spells (sym (spells-behind m a x s) ∙ bad.are) in
    let size : length m.payload ≡ bad.header.size = ap (λ (h : Header). h.size) r.0 in
    faultless bad.header e (rw (← size) s.good.payload.aligned) (rw (← size) s.good.payload.within) bad.faults

pub spelling-spells : (m : Fields) → IsMessage m → Spells (spelling m) m
unfolding spelling
spelling-spells m good = record { good = good; head = header_spelling (header_of m); header = header-spells (header_of m) good.header; are = refl }

pub spelling-front : (m n : Fields) (x y : List ℕ) → IsMessage m → IsMessage n → spelling m ++ x ≡ spelling n ++ y → (m ≡ n) × (x ≡ y)
spelling-front m n x y p q e =
    let r = spells-front m n (spelling m) (spelling n) x y (spelling-spells m p) (spelling-spells n q) e in
    (r.0, r.2)

-- what begins with a message has one
pub spells-whole : (m : Fields) (a x : List ℕ) → Spells a m → NoneBegins (a ++ x) → ⊥
spells-whole m a x s none = none m a x s refl

pub spelling-whole : (m : Fields) (x : List ℕ) → IsMessage m → NoneBegins (spelling m ++ x) → ⊥
spelling-whole m x good none = spells-whole m (spelling m) x (spelling-spells m good) none

pub spelling-good : (m : Fields) (x : List ℕ) (e : Refusal) → IsMessage m → BadAt (spelling m ++ x) e → ⊥
spelling-good m x e good bad = spells-good m (spelling m) x e (spelling-spells m good) bad

pub spells-long : (m : Fields) (a : List ℕ) → Spells a m → 16 + length m.payload ≤ length a
spells-long m a s = omega (arith, ap length s.are, length-append s.head m.payload, header-long s.head (header_of m) s.header)

pub length-spelling : (m : Fields) → length (spelling m) ≡ length (header_spelling (header_of m)) + length m.payload
unfolding spelling
length-spelling m = length-append (header_spelling (header_of m)) m.payload

pub spelling-short : (m : Fields) → length (spelling m) ≤ 24 + length m.payload
spelling-short m = omega (arith, length-spelling m, header_spelling-short (header_of m))

pub spelling-long : (m : Fields) → 16 + length m.payload ≤ length (spelling m)
spelling-long m = omega (arith, length-spelling m, header_spelling-long (header_of m))

nothing : (xs : List ℕ) → length xs ≡ 0 → xs ≡ []
nothing [] e = refl
nothing (x ∷ xs) e = absurd (omega arith)

-- a message with no payload is its header
pub spelling-header_only : (m : Fields) (h : Header) → h ≡ header_of m → h.size ≡ 0 → header_spelling h ≡ spelling m
unfolding spelling
spelling-header_only m h same none =
    let empty : m.payload ≡ [] = nothing m.payload (sym (ap (λ (g : Header). g.size) same) ∙ none) in
    ap header_spelling same ∙ sym (append-nil (header_spelling (header_of m))) ∙ ap (λ (t : List ℕ). header_spelling (header_of m) ++ t) (sym empty)

-- what begins with a message has a complete one at its front
pub one-again : (m : Fields) (a rest : List ℕ) (one : One) → Spells a m → IsOne (a ++ rest) one → (head : Head) × (one ≡ Whole head) × (head.header ≡ header_of m)
one-again m a rest (Whole head) s is =
    let r = header-front (take head.start (a ++ rest)) s.head (drop head.start (a ++ rest)) (m.payload ++ rest) head.header (header_of m) is.header s.header (take-append-drop head.start (a ++ rest) ∙ spells-behind m a rest s) in
    (head, refl, r.0)
one-again m a rest More s is = absurd (is.0 m a rest s refl)
one-again m a rest (Bad e) s is = absurd (spells-good m a rest e s is)
