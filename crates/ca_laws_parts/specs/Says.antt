-- Working: the replies of all circuits of a world, and what they say of writes.
use Rattle.std.specs.Prelude.{ℕ, ◌≡◌, ◌<◌, ◌⊎◌, true, List, length}
use Rattle.ca_dbr.specs.declared.value.Outcome.TheVariants.{Failed}
use Rattle.ca_text.specs.declared.status.Status.{Status}
use Rattle.ca_text.specs.Place.{At}
use Rattle.ca_requests.specs.Meaning.{Means}
use Rattle.ca_model.specs.ServerSteps.{Pumps, Update}
use Rattle.ca_model.specs.Server.{Server}
use Rattle.ca_model.specs.History.{Entry, Reply, Sent, Told}
use Rattle.ca_model.specs.Updates.{Shows}
use Rattle.ca_model.specs.Channels.{OfClients, Suits}
use Rattle.ca_model.specs.Headline.{CompletesOnce}
use Rattle.ca_model.specs.Known.{IsDue}
use Rattle.ca_model.specs.ServerEvents.{stamped}
use Rattle.ca_model.specs.World.{Joined, ServerSide, World, port_of, rules_of, told}
use Rattle.ca_laws_parts.specs.Lives.{SayWhatIsSo}

-- The reply is about a message that the client sent; and that was handled, or the
-- reply fails nothing.
abbrev pub IsAbout : Joined → Told → Type 0
IsAbout c t =
    ((s : Sent) × At c.lists.up t.place s)
    × ((t.place < length c.lists.handled) ⊎ ((s : Status) → Means t.message (Failed s) → ⊥))

-- Each reply of a server says what is so by the log of its life.
pub record Says (w : World) : Type 0 where
  pub so : (n : ℕ) (c : Joined) (y : List Entry) → At w.circuits n c
      → At w.server_logs c.lists.server y → SayWhatIsSo y n c.lists
  pub about : (n i : ℕ) (c : Joined) (t : Told) → At w.circuits n c → At c.lists.down i t
      → t.cause ≡ Reply → IsAbout c t

-- An update that leaves a queue has its number in front there, and so it is none of the replies.
abbrev pub AreNumbered : World → Type 0
AreNumbered w =
    (k : ℕ) (j : Joined) (y : ServerSide) (updates : List Update) (core : Server)
    → At w.circuits k j
    → At w.servers j.server y → j.lists.server_open ≡ true → Pumps y.core j.at_server updates core
    → (i : ℕ) (t : Told) → At (stamped updates j).lists.down i t → t.cause ≡ Reply
    → At j.lists.down i t

-- ---- what callers are told

-- each message of a client is of the kind that its intent says
abbrev pub AllAsked : World → Type 0
AllAsked w =
    (n k : ℕ) (c : Joined) (s : Sent) → At w.circuits n c → At c.lists.up k s
    → Suits s.intent s.message

-- a notice in a client's log says what the reply to its own message means, or that this is lost;
-- and each request is at one place
abbrev pub CompleteOnce : World → Type 0
CompleteOnce w =
    OfClients (told w) (CompletesOnce (IsDue (port_of w) (rules_of w)) Shows Means (told w))
