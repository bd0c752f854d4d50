-- Working: the messages by which what stands and what is open on a circuit came.
use Rattle.std.specs.Prelude.{ℕ, ◌≡◌, ◌<◌, length, true}
use Rattle.ca_text.specs.declared.command.Command.TheVariants as command
use Rattle.ca_text.specs.Place.{At}
use Rattle.ca_model.specs.Due.{key_in}
use Rattle.ca_model.specs.History.{Sent}
use Rattle.ca_model.specs.Speech.{In, Is}
use Rattle.ca_model.specs.World.{Creation, Joined, Standing, World}

-- Each subscription that stands came by an EVENT_ADD with its key, and each open channel by a
-- CREATE_CHAN; both were handled.
pub record Messages (c : Joined) : Type 0 where
  pub subs : (st : Standing) → In c.standing st
      → (s : Sent) × At c.lists.up st.place s × Is command.EventAdd s.message
      × (key_in s.message ≡ st.key) × (st.place < length c.lists.handled)
  pub channels : (x : Creation) → In c.creations x
      → (s : Sent) × At c.lists.up x.place s × Is command.CreateChannel s.message
      × (x.place < length c.lists.handled)

-- So it is on each circuit whose end at its server is open.
abbrev pub AllMessages : World → Type 0
AllMessages w = (n : ℕ) (c : Joined) → At w.circuits n c → c.lists.server_open ≡ true → Messages c
