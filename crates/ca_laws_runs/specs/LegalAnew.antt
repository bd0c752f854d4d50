-- Statement: which subscriptions of a channel are sent as it becomes live, and since: two parts of
-- what is said of a circuit, each by itself.
use Rattle.std.specs.Prelude.{ℕ, ◌<◌, ◌≤◌, List, take}
use Rattle.ca_dbr.specs.declared.value.Outcome.{Outcome}
use Rattle.ca_model.specs.History.{Circuit, Create, Entry, Line, Noticed, On, Step, Subscribe}
use Rattle.ca_model.specs.Speech.{In}
use Rattle.ca_model.specs.Channels.{IsHeld, Meant, OfCircuits}
use Rattle.ca_model.specs.Legal.{BecomesLive, IsStanding}
use Rattle.ca_model.specs.World.{World, told}

-- Each time that a channel becomes live, each of its subscriptions that stands then has an
-- EVENT_ADD, before the channel is created again.
abbrev pub AddsWhatStands : Circuit → List Line → Type 0
AddsWhatStands c x = (channel k number : ℕ) (h : Step) → BecomesLive c channel k h
    → IsStanding (take h.logged x) (On channel (Subscribe number))
    → (l : ℕ) × (h.sent ≤ l) × Meant c l (On channel (Subscribe number))
    × ((p : ℕ) → k < p → p < l → Meant c p (On channel Create) → ⊥)

-- And it has none if its caller or a refusal had ended it then.
abbrev pub AddsNoneEnded : Circuit → List Line → Type 0
AddsNoneEnded c x = (channel k l number : ℕ) (h : Step) → BecomesLive c channel k h → k < l
    → Meant c l (On channel (Subscribe number))
    → IsHeld (take h.logged x) (On channel (Subscribe number))
    × ((o : Outcome) → In (take h.logged x) (Noticed (On channel (Subscribe number)) o) → ⊥)

-- So it is on each circuit of a world.
abbrev pub LiveChannelsAreSubscribedTo : World → Type 0
LiveChannelsAreSubscribedTo w =
    OfCircuits (told w)
    (λ (n : ℕ) (c : Circuit) (x : List Line) (y : List Entry). AddsWhatStands c x)

abbrev pub EndedSubscriptionsAreNotAdded : World → Type 0
EndedSubscriptionsAreNotAdded w =
    OfCircuits (told w)
    (λ (n : ℕ) (c : Circuit) (x : List Line) (y : List Entry). AddsNoneEnded c x)
