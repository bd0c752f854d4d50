-- Which words clap takes by the repeater's grammar.
use Rattle.std.proofs.Common.{◌≡◌, true, false, List, [], Option, None, Some, refl, subst, ap, ◌∙◌, codes}
use Rattle.clap.specs.Words.{App, Row, Text, fault_of, first_of, is_simple, is_simple_and_free, matches_of}
use Rattle.clap.proofs.OnLiterals.{clap_on_literals}
use Rattle.ca.specs.declared.repeater.line.RepeaterLine.{RepeaterLine}
use Rattle.ca.specs.RepeaterWords.{IsAsked, IsMeant, given, repeater_app}
use Rattle.ca.specs.Words.{has_escape}

is-simple : is_simple repeater_app ≡ true
unfolding clap_on_literals
is-simple = refl

is-free : is_simple_and_free repeater_app ≡ true
unfolding clap_on_literals
is-free = refl

means-asks : (words : List Text) (r : Option RepeaterLine) → has_escape words ≡ false → fault_of repeater_app words ≡ [] → IsMeant (given (codes "port") words) (given (codes "datagrams") words) r → IsAsked words r
means-asks words None free fault means = λ line asks. means line asks.2
means-asks words (Some line) free fault means = (free, fault, means)

-- what a parse that ended well says of the words
pub taken-asks : (app : App) (words : List Text) (rows : List Row) (Q : Type 0) (r : Option RepeaterLine) (port datagrams : Option Text) → has_escape words ≡ false → app ≡ repeater_app → (is_simple_and_free app ≡ true → fault_of app words ≡ []) → (is_simple app ≡ true → (rows ≡ matches_of app words) × Q)
    → port ≡ first_of (codes "port") rows → datagrams ≡ first_of (codes "datagrams") rows → IsMeant port datagrams r → IsAsked words r
taken-asks app words rows Q r port datagrams free is faultless met p d means =
    let fault : fault_of repeater_app words ≡ [] = subst (λ (a : App). fault_of a words ≡ []) is (faultless (ap is_simple_and_free is ∙ is-free)) in
    let rows_are : rows ≡ matches_of repeater_app words = (met (ap is_simple is ∙ is-simple)).0 ∙ ap (λ (a : App). matches_of a words) is in
    let p_is : port ≡ given (codes "port") words = p ∙ ap (λ (rs : List Row). first_of (codes "port") rs) rows_are in
    let d_is : datagrams ≡ given (codes "datagrams") words = d ∙ ap (λ (rs : List Row). first_of (codes "datagrams") rs) rows_are in
    means-asks words r free fault (subst (λ (x : Option Text). IsMeant x (given (codes "datagrams") words) r) p_is (subst (λ (y : Option Text). IsMeant port y r) d_is means))

-- words among which options end ask for nothing
pub escape-asks : (words : List Text) → has_escape words ≡ true → IsAsked words None
escape-asks words some line asks = let none = asks.0 in absurd cc
