-- Which words clap takes by the grammar of `answer`.
use Rattle.std.proofs.Common.{◌≡◌, true, false, List, [], Option, None, refl, subst, sym, ap, ◌∙◌, codes}
use Rattle.clap.specs.Words.{App, Row, Text, fault_of, first_of, is_simple, is_simple_and_free, matches_of}
use Rattle.clap.proofs.OnLiterals.{clap_on_literals}
use Rattle.ca.specs.AnswerWords.{IsWanted, Wants, answer_app}
use Rattle.ca.specs.Words.{has_escape}

is-simple : is_simple answer_app ≡ true
unfolding clap_on_literals
is-simple = refl

is-free : is_simple_and_free answer_app ≡ true
unfolding clap_on_literals
is-free = refl

-- what a parse that ended well says of the words
pub wants-given : (app : App) (words : List Text) (rows : List Row) (Q : Type 0) (o : Option Text) → app ≡ answer_app → has_escape words ≡ false → (is_simple_and_free app ≡ true → fault_of app words ≡ []) → (is_simple app ≡ true → (rows ≡ matches_of app words) × Q)
    → o ≡ first_of (codes "records") rows → Wants words o
wants-given app words rows Q o is free faultless met first =
    let fault : fault_of answer_app words ≡ [] = subst (λ (a : App). fault_of a words ≡ []) is (faultless (ap is_simple_and_free is ∙ is-free)) in
    let rows_are : rows ≡ matches_of answer_app words = (met (ap is_simple is ∙ is-simple)).0 ∙ ap (λ (a : App). matches_of a words) is in
    (free, fault, sym (first ∙ ap (λ (rs : List Row). first_of (codes "records") rs) rows_are))

-- words among which options end ask for nothing
pub escape-wants : (words : List Text) → has_escape words ≡ true → IsWanted words None
escape-wants words some file wanted = let none = wanted.0 in absurd cc
