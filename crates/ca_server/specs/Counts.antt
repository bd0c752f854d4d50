-- Vocabulary: what a call of a server makes of the writes that were applied, and
-- of the puts that wait.
use Rattle.std.specs.Prelude.{ℕ, ◌≡◌, ◌≤◌, ◌+◌, List, [], ◌∷◌, Some, map}
use Rattle.ca_records.specs.Puts.{Record, WaitingPut, record_named}
use Rattle.ca_records.specs.Records as records
use Rattle.ca_model.specs.Server.{Server}
use Rattle.ca_model.specs.ServerCalls.{waiting}

-- no two records have one name
abbrev pub AreApart : List Record → Type 0
AreApart rs = records.AreApart (map (λ (r : Record). r.state) rs)

-- A call by which no write is applied, and no put comes to wait.
pub record CountsNothing (old new : Server) : Type 0 where
  pub applied : new.applied ≡ old.applied
  pub waits : waiting new ≤ waiting old
  pub apart : AreApart old.records → AreApart new.records

-- A call by which one write at most is applied or comes to wait.
pub record CountsOne (old new : Server) : Type 0 where
  pub applied : old.applied ≤ new.applied
  pub most : new.applied + waiting new ≤ old.applied + waiting old + 1
  pub apart : AreApart old.records → AreApart new.records

-- A finish of the busy put of the record of this name: the put that waits for it next is
-- applied, if there is one.
pub record CountsNext (old : Server) (name : List ℕ) (new : Server) : Type 0 where
  pub idle : (r : Record) → record_named old.records name ≡ Some r → r.waiting ≡ []
      → new.applied ≡ old.applied
  pub next : (r : Record) (p : WaitingPut) (ps : List WaitingPut)
      → record_named old.records name ≡ Some r → r.waiting ≡ p ∷ ps → new.applied ≡ old.applied + 1
  pub most : new.applied + waiting new ≤ old.applied + waiting old
  pub apart : AreApart old.records → AreApart new.records
