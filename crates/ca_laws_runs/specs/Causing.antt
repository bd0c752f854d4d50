-- Working: the causes of what servers sent, by the lists of each circuit and the log
-- of its server's life.
use Rattle.std.specs.Prelude.{ℕ, ◌≡◌, ◌≤◌, List}
use Rattle.ca_text.specs.declared.command.Command.TheVariants as command
use Rattle.ca_text.specs.Place.{At}
use Rattle.ca_model.specs.History.{Circuit, Entry, Line, Removal, Reply, Sent, Step, Told, Update}
use Rattle.ca_model.specs.Speech.{Creates, In, Is}
use Rattle.ca_model.specs.Channels.{Created, OfCircuits}
use Rattle.ca_model.specs.Causes.{Acted, HasCause}
use Rattle.ca_model.specs.World.{Joined, Standing, World, told}

-- The message at place k is an EVENT_ADD that was handled on a record, and no reply is about it.
pub record IsTaken (log : List Entry) (c : Circuit) (k : ℕ) : Type 0 where
  pub s : Sent
  pub sent : At c.up k s
  pub asks : Is command.EventAdd s.message
  pub h : Step
  pub handled : At c.handled k h
  pub r : ℕ
  pub acted : Acted c log k r
  pub unrefused : (j : ℕ) (t : Told) → At c.down j t → t.place ≡ k → t.cause ≡ Reply → ⊥

-- Each channel that was created is one of a record that the server had then. Each update,
-- and each subscription that stands, is of an EVENT_ADD that was taken; and each
-- SERVER_DISCONN has its cause.
pub record SourcesOn (log : List Entry) (c : Joined) : Type 0 where
  pub made : (j sid : ℕ) (t : Told) → At c.lists.down j t → t.cause ≡ Reply → Creates t.message sid
      → (r : ℕ) × Created c.lists log j t.place sid r
  pub updates : (j a : ℕ) (t : Told) → At c.lists.down j t → t.cause ≡ Update a
      → IsTaken log c.lists t.place
  pub removals : (j : ℕ) (t : Told) → At c.lists.down j t → t.cause ≡ Removal
      → HasCause c.lists log t Removal
  pub stands : (st : Standing) → In c.standing st → IsTaken log c.lists st.place

-- So it is on each circuit, open or not.
abbrev pub AllSources : World → Type 0
AllSources w =
    (n : ℕ) (c : Joined) (log : List Entry) → At w.circuits n c
    → At w.server_logs c.lists.server log → SourcesOn log c

-- Each message of the server has its cause, and was sent in the step that handled what it
-- is about, or after it.
abbrev pub AreCaused : ℕ → Circuit → List Line → List Entry → Type 0
AreCaused n c x y = (j : ℕ) (t : Told) → At c.down j t
    → HasCause c y t t.cause × ((h : Step) × At c.handled t.place h × (h.sent ≤ j))

-- And in the words of the statement, on all circuits with the logs that each joins.
abbrev pub MessagesAreCaused : World → Type 0
MessagesAreCaused w = OfCircuits (told w) AreCaused
