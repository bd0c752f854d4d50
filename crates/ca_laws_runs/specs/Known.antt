-- Working: each EVENT_ADD that was handled at an open end: on which record it acted, and whether it
-- stands or what ended it.
use Rattle.std.specs.Prelude.{ℕ, ◌≡◌, ◌<◌, ◌≤◌, ◌⊎◌, false, true, List, Some, length, take}
use Rattle.ca_arena.specs.declared.handle.Handle.{Handle}
use Rattle.ca_ids.specs.Table.{under}
use Rattle.ca_ids.specs.Wire.{wire_of}
use Rattle.ca_text.specs.declared.command.Command.TheVariants as command
use Rattle.ca_text.specs.Limits.{arena_slots}
use Rattle.ca_text.specs.Place.{At}
use Rattle.ca_model.specs.Due.{key_in}
use Rattle.ca_model.specs.History.{Circuit, Entry, Removed, Reply, Sent, Step, Told}
use Rattle.ca_model.specs.Server.{OpenChannel, ServerEnd, Subscription, key_of}
use Rattle.ca_model.specs.ServerSteps.{HasEnd}
use Rattle.ca_model.specs.Speech.{Ends, In, Is, name_in}
use Rattle.ca_model.specs.Channels.{Has}
use Rattle.ca_model.specs.Causes.{Acted}
use Rattle.ca_model.specs.World.{Creation, Joined, RecordSide, ServerSide, Standing, World}
use Rattle.ca_laws_runs.specs.Entries.{titles}
use Rattle.ca_laws_parts.specs.Both.{Both}

-- An open channel was created by a CREATE_CHAN that was handled and has its name. Unless it is
-- retired, the record that had that name then has it still.
pub record IsOrigin (log : List Entry) (rs : List RecordSide) (c : Joined) (sid : ℕ)
    (ch : OpenChannel) : Type 0 where
  pub x : Creation
  pub noted : In c.creations x
  pub under_sid : x.sid ≡ sid
  pub s : Sent
  pub sent : At c.lists.up x.place s
  pub h : Step
  pub handled : At c.lists.handled x.place h
  pub name : ch.name ≡ name_in s.message
  pub within : h.logged ≤ length log
  pub still : ch.retired ≡ false → (r : ℕ) → Has (take h.logged log) r ch.name
      → In (titles rs) (ch.name, r)

-- The message at place k was refused, by a reply.
abbrev pub IsRefused : Circuit → (k : ℕ) → Type 0
IsRefused c k = (j : ℕ) × (t : Told) × At c.down j t × (t.place ≡ k) × (t.cause ≡ Reply)

-- A subscription stands that came by the EVENT_ADD at place k.
abbrev pub IsStanding : List Standing → (k : ℕ) → Type 0
IsStanding ss k = (i : ℕ) × (st : Standing) × At ss i st × (st.place ≡ k)

-- The subscription of the EVENT_ADD s at place k was cancelled or cleared, or the record on which
-- it acted was removed.
abbrev pub IsOver : List Entry → Circuit → (k : ℕ) → Sent → Type 0
IsOver log c k s =
    ((l : ℕ) × (m : Sent) × (k < l) × (l < length c.handled) × At c.up l m
    × Ends s.message m.message)
    ⊎ ((r : ℕ) → Acted c log k r → In log (Removed r))

-- The step in which a message was handled was within what was sent and logged.
pub record IsWithin (log : List Entry) (c : Circuit) (h : Step) : Type 0 where
  pub sent : h.sent ≤ length c.down
  pub logged : h.logged ≤ length log

-- The record on which the EVENT_ADD of a subscription that stands acted is the
-- one that has its name.
pub record IsOnRecord (log : List Entry) (rs : List RecordSide) (c : Circuit) (sub : Subscription)
    (st : Standing) : Type 0 where
  pub key : key_of sub ≡ st.key
  pub s : Sent
  pub sent : At c.up st.place s
  pub named : key_in s.message ≡ st.key
  pub h : Step
  pub handled : At c.handled st.place h
  pub acted : (r : ℕ) → Acted c log st.place r → In (titles rs) (sub.name, r)

-- What is to be known of an open end and its circuit.
pub record KnownOn (log : List Entry) (rs : List RecordSide) (e : ServerEnd)
    (c : Joined) : Type 0 where
  pub few : length e.channels ≤ arena_slots
  pub came : length c.lists.handled ≤ length c.lists.up
  pub origins : (g : Handle) (ch : OpenChannel) → under e.channels g ≡ Some ch
      → IsOrigin log rs c (wire_of g) ch
  pub within : (k : ℕ) (h : Step) → At c.lists.handled k h → IsWithin log c.lists h
  pub adds : (k : ℕ) (s : Sent) (h : Step) → At c.lists.up k s → At c.lists.handled k h
      → Is command.EventAdd s.message
      → IsRefused c.lists k ⊎ (IsStanding c.standing k ⊎ IsOver log c.lists k s)
  pub subs : Both (IsOnRecord log rs c.lists) e.subscriptions c.standing

-- So it is of each open end of a world.
abbrev pub AllKnown : World → Type 0
AllKnown w =
    (n : ℕ) (c : Joined) (y : ServerSide) (e : ServerEnd) (log : List Entry) → At w.circuits n c
    → At w.servers c.server y
    → c.lists.server_open ≡ true → HasEnd y.core c.at_server e → At w.server_logs y.life log
    → KnownOn log y.records e c
