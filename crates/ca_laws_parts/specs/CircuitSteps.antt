-- Working: what a server's replies to its next message have to be.
use Rattle.std.specs.Prelude.{ℕ, ◌≡◌, ◌<◌, List, [], ◌∷◌, length}
use Rattle.ca_text.specs.Place.{At}
use Rattle.ca_wire.specs.Fields.{Fields}
use Rattle.ca_wire.specs.Messages.{disconnect}
use Rattle.ca_model.specs.Speech.{Id, In, Speaks}
use Rattle.ca_model.specs.History.{Circuit, Intent, Removal, Reply, Sent, Told, Update}
use Rattle.ca_laws_parts.specs.Flows.{Concerns, Ends, IsLast}

-- a reply to the client's message at this place
abbrev pub replied : (place : ℕ) → Fields → Told
replied place m = record { message = m; place = place; cause = Reply }

-- the SERVER_DISCONN for the channel that was created at this place, and an update of the EVENT_ADD
-- there with this post
abbrev pub removal_of : (place cid : ℕ) → Told
removal_of place cid = record { message = disconnect cid; place = place; cause = Removal }

abbrev pub update_of : (place number : ℕ) → Fields → Told
update_of place number m = record { message = m; place = place; cause = Update number }

-- The replies to the message s, which is handled next, if the server keeps something for
-- these places then. They speak of what s concerns. One reply that is the last leaves nothing
-- that is kept for s, and nothing for what s ends; two are those to a CREATE_CHAN, and end
-- nothing; there are no more.
pub record Answers (c : Circuit) (now : List ℕ) (s : Sent) (replies : List Fields) : Type 0 where
  pub speaks : (i : ℕ) (m : Fields) → At replies i m → (id : Id) → Speaks m id
      → Concerns c.up (length c.handled) id
  pub last : (m : Fields) → replies ≡ m ∷ [] → IsLast m s.intent → In now (length c.handled) → ⊥
  pub over : (m : Fields) → replies ≡ m ∷ [] → (p : ℕ) (r : Sent) → At c.up p r
      → p < length c.handled → Ends s.intent r.intent
      → In now p → ⊥
  pub more : (m q : Fields) → replies ≡ m ∷ q ∷ []
      → (IsLast m s.intent → ⊥) × (IsLast q s.intent → ⊥)
      × ((other : Intent) → Ends s.intent other → ⊥)
  pub few : (m q r : Fields) (rest : List Fields) → replies ≡ m ∷ q ∷ r ∷ rest → ⊥
