-- Working: which command a reply answers.
use Rattle.std.specs.Prelude.{ℕ, ◌≡◌}
use Rattle.ca_text.specs.declared.command.Command.TheVariants as command
use Rattle.ca_text.specs.Place.{At}
use Rattle.ca_wire.specs.Fields.{Fields}
use Rattle.ca_wire.specs.Messages.{cancel_reply, error_reply}
use Rattle.ca_model.specs.History.{Reply, Sent, Told}
use Rattle.ca_model.specs.Speech.{Is}
use Rattle.ca_model.specs.World.{Joined, World}

-- A CREATE_CH_FAIL answers a CREATE_CHAN, a CLEAR_CHANNEL one of the client, and an EVENT_ADD an
-- EVENT_CANCEL, which it confirms. An ERROR quotes what it answers. No reply is a SERVER_DISCONN.
pub record Answers (m r : Fields) : Type 0 where
  pub failed : Is command.CreateChannelFail r → Is command.CreateChannel m
  pub cleared : Is command.ClearChannel r → Is command.ClearChannel m
  pub confirms : Is command.EventAdd r → Is command.EventCancel m
  pub copies : Is command.EventAdd r → r ≡ cancel_reply m
  pub refuses : Is command.Error r → (cid status : ℕ) × (r ≡ error_reply cid status m)
  pub never : Is command.ServerDisconnect r → ⊥

-- So it is of each reply of a server, whether its end is open or not.
abbrev pub AllAnswer : World → Type 0
AllAnswer w =
    (n i : ℕ) (c : Joined) (t : Told) → At w.circuits n c → At c.lists.down i t → t.cause ≡ Reply
    → (s : Sent) × At c.lists.up t.place s × Answers s.message t.message
