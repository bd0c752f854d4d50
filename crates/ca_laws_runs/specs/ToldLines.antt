-- Statement: what the lines of a client's log tell: parts of what is said of them, each by itself,
-- as the statement says it of this world.
use Rattle.std.specs.Prelude.{ℕ, ◌≡◌, ◌≢◌, List}
use Rattle.ca_dbr.specs.declared.value.Outcome.{Outcome}
use Rattle.ca_dbr.specs.declared.value.Outcome.TheVariants.{Disconnected}
use Rattle.ca_requests.specs.Meaning.{Means}
use Rattle.ca_text.specs.Place.{At}
use Rattle.ca_model.specs.History.{Create, Intent, Line, Noticed, On, Reply, Subscribe, Update}
use Rattle.ca_model.specs.History.{Updated}
use Rattle.ca_model.specs.Updates.{Shows}
use Rattle.ca_model.specs.Channels.{OfClients}
use Rattle.ca_model.specs.Headline.{Reads, Sees}
use Rattle.ca_model.specs.Known.{IsDue}
use Rattle.ca_model.specs.World.{World, port_of, rules_of, told}

-- Line i of this log was told when a message was read.
abbrev pub IsToldOf : World → (life : ℕ) → List Line → (i : ℕ) → Intent → Outcome → Type 0
IsToldOf w life x i intent o =
    Reads (IsDue (port_of w) (rules_of w)) Shows Means (told w) life x i intent o

-- Each update that a subscriber saw is an update of its own.
abbrev pub UpdatesAreOwn : World → Type 0
UpdatesAreOwn w =
    OfClients (told w)
    (λ (life : ℕ) (x : List Line). (i : ℕ) (intent : Intent) (o : Outcome)
    → At x i (Updated intent o)
    → (by : IsToldOf w life x i intent o) × (a : ℕ) × (by.t.cause ≡ Update a))

-- An intent to create a channel, or to subscribe.
abbrev pub IsToLast : Intent → Type 0
IsToLast (On channel Create) = Unit {0}
IsToLast (On channel (Subscribe number)) = Unit {0}
IsToLast intent = ⊥

-- Each notice of a channel or a subscription that does not tell Disconnected says what the reply to
-- its own message means.
abbrev pub LastingAreTold : World → Type 0
LastingAreTold w =
    OfClients (told w)
    (λ (life : ℕ) (x : List Line). (i : ℕ) (intent : Intent) (o : Outcome)
    → At x i (Noticed intent o)
    → IsToLast intent → o ≢ Disconnected → (by : IsToldOf w life x i intent o)
    × (by.t.cause ≡ Reply))

-- Each subscriber saw updates of its own, of each EVENT_ADD in order and with none left out.
abbrev pub SubscribersSee : World → Type 0
SubscribersSee w = OfClients (told w) (Sees (IsDue (port_of w) (rules_of w)) Shows Means (told w))
