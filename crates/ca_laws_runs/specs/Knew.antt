-- Working: what a server's core knows is what the log of its life says.
use Rattle.std.specs.Prelude.{ℕ, ◌≡◌, ◌<◌, ◌≤◌, ◌⊎◌, true, List, length}
use Rattle.ca_queue.specs.declared.entry.SubKey.{SubKey}
use Rattle.ca_text.specs.declared.command.Command.TheVariants as command
use Rattle.ca_text.specs.Place.{At}
use Rattle.ca_wire.specs.Fields.{Fields}
use Rattle.ca_model.specs.Due.{key_in}
use Rattle.ca_model.specs.History.{Entry, Sent}
use Rattle.ca_model.specs.Server.{ServerEnd}
use Rattle.ca_model.specs.ServerSteps.{HasEnd, knows}
use Rattle.ca_model.specs.Speech.{Clears, In, Is}
use Rattle.ca_model.specs.Known.{IsRecordOf}
use Rattle.ca_model.specs.World.{Joined, ServerSide, Standing, World}

-- The record of each name, as each server knows it at any end, is what the log of its
-- life says of that name.
abbrev pub KnowRecords : World → Type 0
KnowRecords w =
    (i : ℕ) (y : ServerSide) (e : ServerEnd) (log : List Entry) (name : List ℕ) → At w.servers i y
    → At w.server_logs y.life log
    → IsRecordOf log name ((knows y.core e).record_of name)

-- The message ends a subscription of this key: its cancel, or its channel's clear.
abbrev pub EndsKey : SubKey → Fields → Type 0
EndsKey key m = (Is command.EventCancel m × (key_in m ≡ key)) ⊎ Clears m key.sid

-- No message that was handled since ended a subscription that stands.
pub record UnendedOn (c : Joined) : Type 0 where
  pub few : length c.lists.handled ≤ length c.lists.up
  pub unended : (st : Standing) (l : ℕ) (m : Sent) → In c.standing st → st.place < l
      → l < length c.lists.handled → At c.lists.up l m
      → EndsKey st.key m.message → ⊥

-- So it is of each open end of a world.
abbrev pub AllUnended : World → Type 0
AllUnended w =
    (n : ℕ) (c : Joined) (y : ServerSide) (e : ServerEnd) → At w.circuits n c
    → At w.servers c.server y → c.lists.server_open ≡ true
    → HasEnd y.core c.at_server e → UnendedOn c
