-- Working: the updates that were sent on a circuit, whether its ends are open or not, beside the
-- log of its server's life.
use Rattle.std.specs.Prelude.{ℕ, ◌≡◌, ◌<◌, false, List, []}
use Rattle.ca_text.specs.Place.{At}
use Rattle.ca_wire.specs.Messages.{mask_in}
use Rattle.ca_model.specs.History.{Circuit, Entry, Sent, Step, Told, Update}
use Rattle.ca_model.specs.Speech.{Stored}
use Rattle.ca_model.specs.Updates.{Shows}
use Rattle.ca_model.specs.Causes.{Acted}
use Rattle.ca_model.specs.Posts.{matching}
use Rattle.ca_model.specs.World.{Joined, World}
use Rattle.ca_laws_runs.specs.Known.{IsWithin}

-- The update t, of the number a, is about a message that was handled. It shows that post of the
-- record on which the message acted.
pub record IsShown (log : List Entry) (c : Circuit) (t : Told) (a : ℕ) : Type 0 where
  pub s : Sent
  pub sent : At c.up t.place s
  pub h : Step
  pub handled : At c.handled t.place h
  pub within : IsWithin log c h
  pub shows : (r : ℕ) → Acted c log t.place r
      → (v : Stored) × At (matching log h.logged r (mask_in s.message)) a v
      × Shows s.message v t.message

-- So it is of each update that was sent; those about one message rise; and nothing waits at
-- an end that has ended.
pub record SentOn (log : List Entry) (c : Joined) : Type 0 where
  pub shown : (j a : ℕ) (t : Told) → At c.lists.down j t → t.cause ≡ Update a
      → IsShown log c.lists t a
  pub rise : (i j a b : ℕ) (t u : Told) → i < j → At c.lists.down i t → At c.lists.down j u
      → t.place ≡ u.place
      → t.cause ≡ Update a → u.cause ≡ Update b → a < b
  pub over : c.lists.server_open ≡ false → c.queues ≡ []

-- So it is on each circuit.
abbrev pub AllSent : World → Type 0
AllSent w =
    (n : ℕ) (c : Joined) (log : List Entry) → At w.circuits n c
    → At w.server_logs c.lists.server log → SentOn log c
