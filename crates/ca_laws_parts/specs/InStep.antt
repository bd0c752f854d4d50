-- Working: the queues of a server's end beside those of its circuit's numbers.
use Rattle.std.specs.Prelude.{ℕ, ◌≡◌, List, map}
use Rattle.ca_queue.specs.declared.entry.SubKey.{SubKey}
use Rattle.ca_queue.specs.Images.{queue_images}
use Rattle.ca_queue.specs.Keys.{AreApart}
use Rattle.ca_queue.specs.Queue.{Queue}
use Rattle.ca_model.specs.Server.{ServerEnd, key_of}
use Rattle.ca_model.specs.Speech.{Stored}
use Rattle.ca_model.specs.History.{Cause, Update}
use Rattle.ca_model.specs.World.{Joined, Standing}

-- an update that waits: the value that it carries, the place of its EVENT_ADD, and
-- the number of its post
pub record Numbered : Type 0 where
  pub value : Stored
  pub place : ℕ
  pub number : ℕ

-- as the server's core has it, and as the circuit does
abbrev pub value_in : Numbered → Stored
value_in n = n.value

abbrev pub number_in : Numbered → ℕ × Cause
number_in n = (n.place, Update n.number)

-- The same updates wait in both, in the same order: each value has its number beside it.
pub record InStep (values : List (Queue Stored)) (numbers : List (Queue (ℕ × Cause))) : Type 0 where
  pub both : List (Queue Numbered)
  pub values_are : values ≡ map (queue_images value_in) both
  pub numbers_are : numbers ≡ map (queue_images number_in) both

-- the keys of the subscriptions that are on a circuit, in the order of their EVENT_ADDs
abbrev pub keys_standing : Joined → List SubKey
keys_standing j = map (λ (s : Standing). s.key) j.standing

-- So are an open end and its circuit: the same subscriptions are in both, each once.
pub record EndInStep (e : ServerEnd) (j : Joined) : Type 0 where
  pub queues : InStep e.queues j.queues
  pub keys : map key_of e.subscriptions ≡ keys_standing j
  pub apart : AreApart (keys_standing j)
