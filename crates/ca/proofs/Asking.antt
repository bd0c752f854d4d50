-- Which words ask for no line.
use Rattle.std.proofs.Common.{◌≡◌, ℕ, ◌+◌, List, [], ◌∷◌, Option, None, sym, ap, ◌∙◌, subst, codes, arith, length}
use Rattle.clap.specs.Words.{Text}
use Rattle.ca.specs.declared.line.CommandLine.TheVariants.{Answer, Repeater, Replay}
use Rattle.ca.specs.declared.answer.line.AnswerLine.{AnswerLine}
use Rattle.ca.specs.declared.repeater.line.RepeaterLine.{RepeaterLine}
use Rattle.ca.specs.declared.replay.line.ReplayLine.{ReplayLine}
use Rattle.ca.specs.AnswerWords.{IsWanted, Wants, file_in}
use Rattle.ca.specs.Lines.{IsLine}
use Rattle.ca.specs.RepeaterWords.{Asks, IsAsked}
use Rattle.ca.specs.ReplayWords.{IsNamed, Names}

-- a number that tells the first words of lines apart
abbrev mark : List Text → ℕ
mark [] = 0
mark ([] ∷ words) = 0
mark ((c ∷ word) ∷ words) = c + length word

differ : (words : List Text) (a b : ℕ) → mark words ≡ a → mark words ≡ b → (a ≡ b → ⊥) → ⊥
differ words a b p q apart = apart (sym p ∙ q)

no-answer-repeater : (words rest other : List Text) → words ≡ codes "answer" ∷ rest → words ≡ codes "repeater" ∷ other → ⊥
no-answer-repeater words rest other a b = differ words 102 121 (ap mark a) (ap mark b) (λ e. omega (arith, e))

no-answer-replay : (words rest other : List Text) → words ≡ codes "answer" ∷ rest → words ≡ codes "replay" ∷ other → ⊥
no-answer-replay words rest other a b = differ words 102 119 (ap mark a) (ap mark b) (λ e. omega (arith, e))

no-repeater-replay : (words rest other : List Text) → words ≡ codes "repeater" ∷ rest → words ≡ codes "replay" ∷ other → ⊥
no-repeater-replay words rest other a b = differ words 121 119 (ap mark a) (ap mark b) (λ e. omega (arith, e))

tail-is : {A : Type 0} {x y : A} {xs ys : List A} → x ∷ xs ≡ y ∷ ys → xs ≡ ys
tail-is e = cc

-- words after `answer` that ask for none
pub answer-none : (words rest : List Text) (r : Option AnswerLine) → words ≡ codes "answer" ∷ rest → IsWanted rest r → r ≡ None → IsLine words None
answer-none words rest r are none is (Answer line) asks =
    (subst (λ (x : Option AnswerLine). IsWanted rest x) is none) (file_in line) (subst (λ (t : List Text). Wants t (file_in line)) (tail-is (sym asks.1 ∙ are)) asks.2)
answer-none words rest r are none is (Repeater line) asks = no-answer-repeater words rest asks.0 are asks.1
answer-none words rest r are none is (Replay line) asks = no-answer-replay words rest asks.0 are asks.1

-- words after `repeater` that ask for none
pub repeater-none : (words rest : List Text) (r : Option RepeaterLine) → words ≡ codes "repeater" ∷ rest → IsAsked rest r → r ≡ None → IsLine words None
repeater-none words rest r are none is (Answer line) asks = no-answer-repeater words asks.0 rest asks.1 are
repeater-none words rest r are none is (Repeater line) asks =
    (subst (λ (x : Option RepeaterLine). IsAsked rest x) is none) line (subst (λ (t : List Text). Asks t line) (tail-is (sym asks.1 ∙ are)) asks.2)
repeater-none words rest r are none is (Replay line) asks = no-repeater-replay words rest asks.0 are asks.1

-- words after `replay` that name nothing
pub replay-none : (words rest : List Text) (r : Option ReplayLine) → words ≡ codes "replay" ∷ rest → IsNamed rest r → r ≡ None → IsLine words None
replay-none words rest r are none is (Answer line) asks = no-answer-replay words asks.0 rest asks.1 are
replay-none words rest r are none is (Repeater line) asks = no-repeater-replay words asks.0 rest asks.1 are
replay-none words rest r are none is (Replay line) asks =
    (subst (λ (x : Option ReplayLine). IsNamed rest x) is none) line.file.now line.seed (subst (λ (t : List Text). Names t line.file.now line.seed) (tail-is (sym asks.1 ∙ are)) asks.2)

-- another first word
pub other-none : (words : List Text) → ((rest : List Text) → words ≡ codes "answer" ∷ rest → ⊥) → ((rest : List Text) → words ≡ codes "repeater" ∷ rest → ⊥) → ((rest : List Text) → words ≡ codes "replay" ∷ rest → ⊥) → IsLine words None
other-none words a b c (Answer line) asks = a asks.0 asks.1
other-none words a b c (Repeater line) asks = b asks.0 asks.1
other-none words a b c (Replay line) asks = c asks.0 asks.1
