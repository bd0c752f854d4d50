use Rattle.std.proofs.Common.{◌≡◌, ℕ, List, true, refl, subst}
use Rattle.std.specs.Str.{IsUtf8, chars, is_utf8}
use lib.Utf8.{encode}
use Rattle.std.proofs.lemmas.Str.{IsUtf8-from_is_utf8}
use Rattle.ca_world_script.specs.Events.{verb_word}
use Rattle.ca_world_script.specs.declared.verb.Verb.{Verb}
use Rattle.ca_world_script.specs.declared.verb.Verb.TheVariants as verb
use Rattle.ca_world_script.proofs.verb.Verb.of.Goals as goal

-- the word of each verb is text
is-text : (v : Verb) → is_utf8 (verb_word v) ≡ true
unfolding is_utf8 chars encode
is-text verb.Open = refl
is-text _ = refl

pub returns-in_default : goal.returns-in_default
returns-in_default c v is = c.in_default.ensures.cases.0 (subst (λ (word : List ℕ). IsUtf8 word) is (IsUtf8-from_is_utf8 (verb_word v) (is-text v)))
