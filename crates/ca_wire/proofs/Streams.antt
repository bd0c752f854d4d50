-- The one reading of a stream.
use Rattle.std.proofs.Common.{◌≡◌, ℕ, List, [], ◌∷◌, ◌++◌, refl, sym, ap, ◌∙◌, append_assoc}
use Rattle.std.proofs.lemmas.List.{append-nil}
use Rattle.std.specs.List.{AllByRecursion}
use Rattle.ca_wire.specs.Fields.{Fields}
use Rattle.ca_wire.specs.Message.{IsMessage, spelling, spelled}
use Rattle.ca_wire.specs.Stream.{Held, Begins, NoneBegins}
use Rattle.ca_wire.specs.Traces.{Call, Gave, Took, Trace, given_by, taken_by}
use Rattle.ca_wire.proofs.Messages.{spells-front, spelling-spells}

begins-same : (ms : List Fields) (a b rest : List ℕ) → a ≡ b → Begins a ms rest → Begins b ms rest
begins-same ms a b rest e begins = rw (← e) begins

pub trace-begins : (old : Held) (calls : List Call) (held : Held) → Trace old calls held → Begins (old.bytes ++ given_by calls) (taken_by calls) held.bytes
trace-begins old [] held t = append-nil old.bytes ∙ ap (λ (h : Held). h.bytes) (sym t)
trace-begins old (Gave bytes ∷ calls) held t =
    let mid : t.0.bytes ≡ old.bytes ++ bytes = ap (λ (h : Held). h.bytes) t.1.1 in
    begins-same (taken_by calls) (t.0.bytes ++ given_by calls) (old.bytes ++ (bytes ++ given_by calls)) held.bytes (ap (λ (b : List ℕ). b ++ given_by calls) mid ∙ append_assoc old.bytes bytes (given_by calls)) (trace-begins t.0 calls held t.2)
trace-begins old (Took m ∷ calls) held t =
    let step = t.1 in
    (step.front, t.0.bytes ++ given_by calls, step.spells, ap (λ (b : List ℕ). b ++ given_by calls) step.bytes ∙ append_assoc step.front t.0.bytes (given_by calls), trace-begins t.0 calls held t.2)

-- one stream of bytes has one list of messages and one rest
pub streams-one : (bytes : List ℕ) (ms ns : List Fields) (x y : List ℕ) → Begins bytes ms x → Begins bytes ns y → NoneBegins x → NoneBegins y → (ms ≡ ns) × (x ≡ y)
streams-one bytes [] [] x y p q px py = (refl, sym p ∙ q)
streams-one bytes [] (n ∷ ns) x y p q px py = absurd (px n q.0 q.1 q.2 (sym p ∙ q.3))
streams-one bytes (m ∷ ms) [] x y p q px py = absurd (py m p.0 p.1 p.2 (sym q ∙ p.3))
streams-one bytes (m ∷ ms) (n ∷ ns) x y p q px py =
    let r = spells-front m n p.0 q.0 p.1 q.1 p.2 q.2 (sym p.3 ∙ q.3) in
    let s = streams-one p.1 ms ns x y p.4 (begins-same ns q.1 p.1 y (sym r.2) q.4) px py in
    (ap (λ (k : Fields). k ∷ ms) r.0 ∙ ap (λ (t : List Fields). n ∷ t) s.0, s.1)

-- messages that were spelled are read again, in order
pub spelled-begins : (ms : List Fields) (rest : List ℕ) → AllByRecursion IsMessage ms → Begins (spelled ms ++ rest) ms rest
spelled-begins [] rest good = refl
spelled-begins (m ∷ ms) rest good =
    (spelling m, spelled ms ++ rest, spelling-spells m good.0, append_assoc (spelling m) (spelled ms) rest, spelled-begins ms rest good.1)

-- bytes are spelled by one list of messages, and a rest that no message begins
pub spelled-one : (ms ns : List Fields) (x y : List ℕ) → AllByRecursion IsMessage ms → AllByRecursion IsMessage ns → NoneBegins x → NoneBegins y → spelled ms ++ x ≡ spelled ns ++ y → (ms ≡ ns) × (x ≡ y)
spelled-one ms ns x y p q px py e =
    streams-one (spelled ms ++ x) ms ns x y (spelled-begins ms x p) (begins-same ns (spelled ns ++ y) (spelled ms ++ x) y (sym e) (spelled-begins ns y q)) px py
