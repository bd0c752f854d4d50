-- Working: one queue whose entries carry numbers, and the numbers that were taken from it.
use Rattle.std.specs.Prelude.{ℕ, ◌≡◌, ◌<◌, ◌+◌, ◌++◌, List, [], ◌∷◌, map}
use Rattle.ca_text.specs.Place.{At}
use Rattle.ca_queue.specs.declared.entry.SubKey.{SubKey}
use Rattle.ca_queue.specs.Queue.{Queue}
use Rattle.ca_queue.specs.Waiting.{entries_of}

-- the numbers rise
abbrev pub Rises : List ℕ → Type 0
Rises ns = (i j a b : ℕ) → i < j → At ns i a → At ns j b → a < b

-- they end in this one
pub record EndsIn (ns : List ℕ) (last : ℕ) : Type 0 where
  pub front : List ℕ
  pub is : ns ≡ front ++ last ∷ []

-- The numbers of one subscription, by how its entries carry them (stamp): those that were
-- taken, and then those that wait. They rise, and end in the newest: the next post has
-- the number after that.
pub record Rising {E : Type 0} (stamp : ℕ → E) (key : SubKey) (gone : List ℕ) (next : ℕ)
    (q : Queue E) : Type 0 where
  pub wait : List ℕ
  pub are : entries_of key q.waiting ≡ map stamp wait
  pub rise : Rises (gone ++ wait)
  pub newest : ℕ
  pub ends : EndsIn (gone ++ wait) newest
  pub next_is : next ≡ newest + 1
