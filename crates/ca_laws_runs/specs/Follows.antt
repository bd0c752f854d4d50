-- Working: each subscription of an open end beside the log of its server's life:
-- the posts that it sees.
use Rattle.std.specs.Prelude.{ℕ, ◌≡◌, ◌≤◌, false, true, List, Some, length, option_map, slice_get}
use Rattle.std.specs.Prelude.{unwrap_or}
use Rattle.ca_arena.specs.declared.handle.Handle.{Handle}
use Rattle.ca_ids.specs.Table.{under}
use Rattle.ca_ids.specs.Wire.{wire_of}
use Rattle.ca_text.specs.declared.command.Command.TheVariants as command
use Rattle.ca_text.specs.Place.{At}
use Rattle.ca_model.specs.Due.{subscription_in}
use Rattle.ca_model.specs.History.{Entry, Sent, Step}
use Rattle.ca_model.specs.Server.{OpenChannel, ServerEnd, Subscription}
use Rattle.ca_model.specs.ServerSteps.{HasEnd}
use Rattle.ca_model.specs.Speech.{In, Is, Stored}
use Rattle.ca_model.specs.Posts.{matching}
use Rattle.ca_model.specs.ServerEvents.{number_of}
use Rattle.ca_model.specs.World.{Joined, RecordSide, ServerSide, Standing, World}
use Rattle.ca_laws_parts.specs.Both.{Both}
use Rattle.ca_laws_runs.specs.Entries.{titles}
use Rattle.ca_laws_runs.specs.Holds.{Holds}

-- how long the log was when the message at this place was handled
abbrev pub logged_at : List Step → (place : ℕ) → ℕ
logged_at handled place =
    unwrap_or (option_map (λ (h : Step). h.logged) (slice_get handled place)) 0

-- The posts that a subscription sees whose EVENT_ADD was handled at this place: those of the
-- record that has its name.
abbrev pub posts_by : List Entry → List RecordSide → List Step → Subscription → (place : ℕ)
    → List Stored
posts_by log rs handled sub place =
    matching log (logged_at handled place) (number_of sub.name rs) sub.mask

-- A subscription began by an EVENT_ADD that was handled, on a channel that is open and of a
-- record that is there.
pub record Stands (log : List Entry) (rs : List RecordSide) (e : ServerEnd) (c : Joined)
    (sub : Subscription) (st : Standing) : Type 0 where
  pub s : Sent
  pub sent : At c.lists.up st.place s
  pub asks : Is command.EventAdd s.message
  pub by : sub ≡ subscription_in s.message sub.name
  pub h : Step
  pub handled : At c.lists.handled st.place h
  pub within : h.logged ≤ length log
  pub number : ℕ
  pub there : In (titles rs) (sub.name, number)
  pub g : Handle
  pub ch : OpenChannel
  pub channel : under e.channels g ≡ Some ch
  pub sid : wire_of g ≡ sub.wanted.sid
  pub name : ch.name ≡ sub.name
  pub stays : ch.retired ≡ false

-- So it is of each subscription of an end, and its updates are counted and numbered by those posts.
pub record Follows (log : List Entry) (rs : List RecordSide) (e : ServerEnd)
    (c : Joined) : Type 0 where
  pub placed : Both (Stands log rs e c) e.subscriptions c.standing
  pub holds : Holds (posts_by log rs c.lists.handled) e.subscriptions e.queues c

-- And so it is of each open end of a world.
abbrev pub AllFollow : World → Type 0
AllFollow w =
    (n : ℕ) (c : Joined) (y : ServerSide) (e : ServerEnd) (log : List Entry) → At w.circuits n c
    → At w.servers c.server y → c.lists.server_open ≡ true
    → HasEnd y.core c.at_server e → At w.server_logs y.life log → Follows log y.records e c
