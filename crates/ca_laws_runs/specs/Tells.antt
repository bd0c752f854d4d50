-- Working: what a client's notices tell of the message that it read.
use Rattle.std.specs.Prelude.{ℕ, ◌≡◌, ◌⊎◌, Some, length, List}
use Rattle.ca_dbr.specs.declared.value.Outcome.TheVariants as outcome
use Rattle.ca_link.specs.Link.{TakesFirst}
use Rattle.ca_requests.specs.Meaning.{Means}
use Rattle.ca_text.specs.declared.command.Command.TheVariants as command
use Rattle.ca_text.specs.Place.{At}
use Rattle.ca_wire.specs.Fields.{Fields}
use Rattle.ca_model.specs.Answers.{Notice}
use Rattle.ca_model.specs.Answers as notice
use Rattle.ca_model.specs.Client.{Connection, connection_at}
use Rattle.ca_model.specs.ClientEnds.{after_taking}
use Rattle.ca_model.specs.Hears.{Effect, Hears}
use Rattle.ca_model.specs.History.{Ask, Create, Intent, On, Sent, Told}
use Rattle.ca_model.specs.Speech.{Is}
use Rattle.ca_model.specs.ClientEvents.{channel_number, meant_by}
use Rattle.ca_model.specs.World.{ClientSide, Joined, Names, World}

-- a message meant so goes on the channel of this number
abbrev pub IsOnChannel : (number : ℕ) → Intent → Type 0
IsOnChannel number intent = (ask : Ask) × (intent ≡ On number ask)

-- A notice that a client makes of message m, which is about its message s: it says what m means, of
-- what was meant by s; or that a SERVER_DISCONN for its channel came.
abbrev pub TellsOwn : Names → Fields → Sent → Notice → Type 0
TellsOwn n m s (notice.Live h) = (s.intent ≡ On (channel_number n h) Create) × Means m outcome.Done
TellsOwn n m s (notice.Lost h) =
    IsOnChannel (channel_number n h) s.intent × Is command.ServerDisconnect m
TellsOwn n m s (notice.Completed q o) =
    ((meant_by n.requests q ≡ s.intent) × Means m o)
    ⊎ ((o ≡ outcome.Disconnected) × Is command.ServerDisconnect m)
TellsOwn n m s (notice.Update g o) = (meant_by n.subscriptions g ≡ s.intent) × Means m o
TellsOwn n m s (notice.SubscriptionEnded g status) =
    (meant_by n.subscriptions g ≡ s.intent) × Means m (outcome.Failed status)
TellsOwn n m s (notice.WriteRefused h status) =
    IsOnChannel (channel_number n h) s.intent × Means m (outcome.Failed status)

-- So it is of the message that the client's end of circuit k takes next.
abbrev pub NoticesTell : World → (k : ℕ) → Type 0
NoticesTell w k =
    (j : Joined) (x : ClientSide) (d : Connection) (m : Fields) (rest : List ℕ) (t : Told)
    (s : Sent) (e : Effect) → At w.circuits k j → At w.clients j.client x
    → connection_at x.core j.at_client ≡ Some d → TakesFirst d.link m rest
    → At j.lists.down (length j.lists.heard) t → At j.lists.up t.place s
    → Hears (after_taking j.at_client rest x.core) j.at_client m e → (i : ℕ) (o : Notice)
    → At e.notices i o → TellsOwn x.names m s o
