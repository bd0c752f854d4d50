-- Which words clap takes by the grammar of `replay`.
use Rattle.std.proofs.Common.{◌≡◌, true, false, List, [], Option, None, Some, refl, subst, ap, ◌∙◌, codes}
use Rattle.clap.specs.Words.{App, Row, Text, fault_of, first_of, is_simple, is_simple_and_free, matches_of}
use Rattle.clap.proofs.OnLiterals.{clap_on_literals}
use Rattle.ca.specs.declared.replay.line.ReplayLine.{ReplayLine}
use Rattle.ca.specs.ReplayWords.{IsMeant, IsNamed, given, replay_app}
use Rattle.ca.specs.Words.{has_escape}

is-simple : is_simple replay_app ≡ true
unfolding clap_on_literals
is-simple = refl

is-free : is_simple_and_free replay_app ≡ true
unfolding clap_on_literals
is-free = refl

means-names : (words : List Text) (r : Option ReplayLine) → has_escape words ≡ false → fault_of replay_app words ≡ [] → IsMeant (given (codes "file") words) (given (codes "seed") words) r → IsNamed words r
means-names words None free fault means = λ file seed named. means file seed named.2
means-names words (Some line) free fault means = (free, fault, means)

-- what a parse that ended well says of the words
pub taken-names : (app : App) (words : List Text) (rows : List Row) (Q : Type 0) (r : Option ReplayLine) (file seed : Option Text) → has_escape words ≡ false → app ≡ replay_app → (is_simple_and_free app ≡ true → fault_of app words ≡ []) → (is_simple app ≡ true → (rows ≡ matches_of app words) × Q)
    → file ≡ first_of (codes "file") rows → seed ≡ first_of (codes "seed") rows → IsMeant file seed r → IsNamed words r
taken-names app words rows Q r file seed free is faultless met f s means =
    let fault : fault_of replay_app words ≡ [] = subst (λ (a : App). fault_of a words ≡ []) is (faultless (ap is_simple_and_free is ∙ is-free)) in
    let rows_are : rows ≡ matches_of replay_app words = (met (ap is_simple is ∙ is-simple)).0 ∙ ap (λ (a : App). matches_of a words) is in
    let f_is : file ≡ given (codes "file") words = f ∙ ap (λ (rs : List Row). first_of (codes "file") rs) rows_are in
    let s_is : seed ≡ given (codes "seed") words = s ∙ ap (λ (rs : List Row). first_of (codes "seed") rs) rows_are in
    means-names words r free fault (subst (λ (x : Option Text). IsMeant x (given (codes "seed") words) r) f_is (subst (λ (y : Option Text). IsMeant file y r) s_is means))

-- words among which options end name nothing
pub escape-names : (words : List Text) → has_escape words ≡ true → IsNamed words None
escape-names words some file seed named = let none = named.0 in absurd cc
