-- The replies that are due for a message leave the meaning of ids as it was.
use Rattle.std.proofs.Common.{◌≡◌, ℕ, ◌<◌, inl, inr, List, [], ◌∷◌, length, sym, ap, ◌∙◌, arith}
use Rattle.ca_text.specs.declared.command.Command.TheVariants as command
use Rattle.ca_text.specs.Place.{At}
use Rattle.ca_wire.specs.Fields.{Fields}
use Rattle.ca_wire.specs.Header.{HeaderFits}
use Rattle.ca_wire.specs.Message.{header_of}
use Rattle.ca_model.specs.Due.{Action, Due, Knows}
use Rattle.ca_model.specs.Speech.{In, Is}
use Rattle.ca_model.specs.History.{Create, Clear, Request, Subscribe, Cancel, Read, Put, Write, Intent, On, OfCircuit, Sent, Circuit}
use Rattle.ca_model.specs.Channels.{Suits}
use Rattle.ca_laws_parts.specs.Flows.{Ends, IsCidOf, IsLast}
use Rattle.ca_laws_parts.specs.Replies.{IsCidAt}
use Rattle.ca_laws_parts.specs.CircuitSteps.{Answers}
use Rattle.ca_laws_parts.proofs.Replies.{due-few}
use Rattle.ca_laws_parts.proofs.CircuitTold.{reply-speaks}

-- what suits a CREATE_CHAN is to create a channel: a reply that is no CREATE_CH_FAIL is not its
-- last, and it ends nothing
creates-last : (intent : Intent) (m q : Fields) → Suits intent m → m.command ≡ 18 → (q.command ≡ 26 → ⊥) → IsLast q intent → ⊥
creates-last (On a Create) m q suits is other final = other final
creates-last (On a Clear) m q suits is other final = (let e : ◌≡◌ {A = ℕ} 12 18 = sym suits ∙ is in omega (arith, e))
creates-last (On a (Request Read n)) m q suits is other final = (let e : ◌≡◌ {A = ℕ} 15 18 = sym suits ∙ is in omega (arith, e))
creates-last (On a (Request Put n)) m q suits is other final = (let e : ◌≡◌ {A = ℕ} 19 18 = sym suits ∙ is in omega (arith, e))
creates-last (On a (Request Write n)) m q suits is other final = (let e : ◌≡◌ {A = ℕ} 4 18 = sym suits ∙ is in omega (arith, e))
creates-last (On a (Subscribe n)) m q suits is other final = (let e : ◌≡◌ {A = ℕ} 1 18 = sym suits ∙ is in omega (arith, e))
creates-last (On a (Cancel n)) m q suits is other final = (let e : ◌≡◌ {A = ℕ} 2 18 = sym suits ∙ is in omega (arith, e))
creates-last OfCircuit m q suits is other final = suits Create is

creates-ends : (intent other : Intent) (m : Fields) → Suits intent m → m.command ≡ 18 → Ends intent other → ⊥
creates-ends (On a Create) other m suits is ends = ends
creates-ends (On a Clear) other m suits is ends = (let e : ◌≡◌ {A = ℕ} 12 18 = sym suits ∙ is in omega (arith, e))
creates-ends (On a (Request Read n)) other m suits is ends = ends
creates-ends (On a (Request Put n)) other m suits is ends = ends
creates-ends (On a (Request Write n)) other m suits is ends = ends
creates-ends (On a (Subscribe n)) other m suits is ends = ends
creates-ends (On a (Cancel n)) other m suits is ends = (let e : ◌≡◌ {A = ℕ} 2 18 = sym suits ∙ is in omega (arith, e))
creates-ends OfCircuit other m suits is ends = ends

not-one : (x y m : Fields) (ms : List Fields) → ms ≡ x ∷ y ∷ [] → ms ≡ m ∷ [] → ⊥
not-one x y m ms a b = cc

first-is : (x y m q : Fields) → x ∷ y ∷ [] ≡ m ∷ q ∷ [] → x ≡ m
first-is x y m q e = cc

second-is : (x y m q : Fields) → x ∷ y ∷ [] ≡ m ∷ q ∷ [] → y ≡ q
second-is x y m q e = cc

pub due-answers : (c : Circuit) (now : List ℕ) (s : Sent) (k : Knows) (replies : List Fields) (action : Action) → At c.up (length c.handled) s → Suits s.intent s.message → HeaderFits (header_of s.message) → Due k s.message replies action
    → (Is command.Write s.message → (cid : ℕ) → IsCidAt k s.message.p1 cid → IsCidOf c.up (length c.handled) s.intent cid)
    → ((m : Fields) → replies ≡ m ∷ [] → In now (length c.handled) → ⊥)
    → ((p : ℕ) (r : Sent) → At c.up p r → p < length c.handled → Ends s.intent r.intent → In now p → ⊥)
    → Answers c now s replies
due-answers c now s k replies action at suits fits due writes gone over = record {
  speaks = λ i m there id h. reply-speaks c.up (length c.handled) s k replies action at fits due writes i m there id h;
  last = λ m is final in_it. gone m is in_it;
  over = λ m is p r there lt ends in_it. over p r there lt ends in_it;
  more = λ m q is. elim (due-few k s.message replies action due) [
    | inl none ↦ absurd (no-two m q (sym none ∙ is))
    | inr (inl one) ↦ absurd (not-one m q one.0 replies is one.1)
    | inr (inr two) ↦
        let same : two.0 ∷ two.1 ∷ [] ≡ m ∷ q ∷ [] = sym two.2 ∙ is in
        let first : m.command ≡ 22 = ap (λ (x : Fields). x.command) (sym (first-is two.0 two.1 m q same)) ∙ two.3 in
        let second : q.command ≡ 18 = ap (λ (x : Fields). x.command) (sym (second-is two.0 two.1 m q same)) ∙ two.4 in (
          creates-last s.intent s.message m suits two.5 (λ e. (let f : ◌≡◌ {A = ℕ} 22 26 = sym first ∙ e in omega (arith, f))),
          creates-last s.intent s.message q suits two.5 (λ e. (let f : ◌≡◌ {A = ℕ} 18 26 = sym second ∙ e in omega (arith, f))),
          λ other ends. creates-ends s.intent other s.message suits two.5 ends,
        )
  ];
  few = λ m q r rest is. elim (due-few k s.message replies action due) [
    | inl none ↦ no-more m q r rest (sym none ∙ is)
    | inr (inl one) ↦ not-three-one one.0 m q r rest (sym one.1 ∙ is)
    | inr (inr two) ↦ not-three two.0 two.1 m q r rest (sym two.2 ∙ is)
  ];
}
  where
    no-two : (m q : Fields) → [] ≡ m ∷ q ∷ [] → ⊥
    no-two m q e = cc

    no-more : (m q r : Fields) (rest : List Fields) → [] ≡ m ∷ q ∷ r ∷ rest → ⊥
    no-more m q r rest e = cc

    not-three-one : (x m q r : Fields) (rest : List Fields) → x ∷ [] ≡ m ∷ q ∷ r ∷ rest → ⊥
    not-three-one x m q r rest e = cc

    not-three : (x y m q r : Fields) (rest : List Fields) → x ∷ y ∷ [] ≡ m ∷ q ∷ r ∷ rest → ⊥
    not-three x y m q r rest e = cc
