-- Which words of a line are no rule.
use Rattle.std.proofs.Common.{◌≡◌, ◌<◌, ℕ, Bool, true, false, List, [], ◌∷◌, Option, length, subst, sym, arith}
use Rattle.ca_records.specs.Rules.{Rule}
use Rattle.ca_script.specs.Lines.{IsNamed, IsPattern, SaysRule, rights_word}
use Rattle.ca_script.proofs.Refusals.{NoWord}

rights-is-some : (reads writes : Bool) → 0 < length (rights_word reads writes)
rights-is-some true true = omega arith
rights-is-some true false = omega arith
rights-is-some false true = omega arith
rights-is-some false false = omega arith

-- what is left after three words of a rule
pub behind-three : (words a b c : List (List ℕ)) (user host name : List ℕ) → words ≡ user ∷ a → a ≡ host ∷ b → b ≡ name ∷ c → (r : Rule) → SaysRule words r → c ≡ rights_word r.reads r.writes ∷ []
behind-three words a b c user host name first second third r h =
    cc (h.are)

-- where the rights should stand is no word
pub no-rights-word : (words a b c : List (List ℕ)) (user host name : List ℕ) → words ≡ user ∷ a → a ≡ host ∷ b → b ≡ name ∷ c → NoWord c → (r : Rule) → SaysRule words r → ⊥
no-rights-word words a b c user host name first second third nay r h =
    nay (rights_word r.reads r.writes) [] (behind-three words a b c user host name first second third r h) (rights-is-some r.reads r.writes)

-- the words that were read are this rule
pub rule-said : (words a b c d : List (List ℕ)) (user host name word : List ℕ) (u h n : Option (List ℕ)) (reads writes : Bool) (r : Rule) → (words ≡ user ∷ a) × (0 < length user) → (a ≡ host ∷ b) × (0 < length host) → (b ≡ name ∷ c) × (0 < length name) → c ≡ word ∷ d → d ≡ [] → word ≡ rights_word reads writes → IsNamed (user, host) → IsPattern user u → IsPattern host h → IsPattern name n → (let to : Rule = record { user = u; host = h; record_name = n; reads = reads; writes = writes } in r ≡ to) → SaysRule words r
rule-said words a b c d user host name word u h n reads writes r first second third fourth last rights named of_user of_host of_name is =
    let are : words ≡ user ∷ host ∷ name ∷ rights_word reads writes ∷ [] = cc (first.0, second.0, third.0) in
    let said : SaysRule words (record { user = u; host = h; record_name = n; reads = reads; writes = writes }) = record {
      user = user;
      host = host;
      name = name;
      are = are;
      some = (first.1, second.1, third.1);
      fits = named;
      patterns = (of_user, of_host, of_name);
    } in
    subst (λ (q : Rule). SaysRule words q) (sym is) said
