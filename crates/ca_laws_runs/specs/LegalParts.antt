-- Statement: of what is sent on a circuit: parts of what is said of that, each by itself.
use Rattle.std.specs.Prelude.{ℕ, ◌≡◌, ◌<◌, ◌≤◌, ◌%◌, List, [], take}
use Rattle.ca_text.specs.declared.command.Command.TheVariants as command
use Rattle.ca_text.specs.Limits.{arena_slots}
use Rattle.ca_text.specs.Place.{At}
use Rattle.ca_dbr.specs.declared.value.Outcome.{Outcome}
use Rattle.ca_wire.specs.Fields.{Fields}
use Rattle.ca_model.specs.History.{Circuit, Create, Entry, Line, Noticed, On, Sent, Step}
use Rattle.ca_model.specs.History.{Subscribe}
use Rattle.ca_model.specs.Sends.{Conduct, HasChannel, IsConnected, IsOnChannel, IsOpenAt}
use Rattle.ca_model.specs.Sends.{IsUncancelled, ReadsBetween}
use Rattle.ca_model.specs.Speech.{Clears, Creates, In, Is, sid_in}
use Rattle.ca_model.specs.Channels.{IsHeld, Meant, OfCircuits}
use Rattle.ca_model.specs.Legal.{WasCalled, client_conduct, server_conduct}
use Rattle.ca_model.specs.World.{World, told}

-- A SID is given only if no open channel has its index.
abbrev pub GivesFreeSids : Conduct → Type 0
GivesFreeSids e =
    (i k a b : ℕ) (m r : Fields) → i < k → At e.sent i m → At e.sent k r → Creates m a → Creates r b
    → a % arena_slots ≡ b % arena_slots → (j : ℕ) × (c : Fields) × ReadsBetween e i k j c
    × Clears c a

-- A confirmation answers the EVENT_CANCEL that was read just before.
abbrev pub ConfirmsAtOnce : Conduct → Type 0
ConfirmsAtOnce e = (k : ℕ) (m : Fields) → At e.sent k m → Is command.EventAdd m → m.payload ≡ []
    → (j : ℕ) × (r : Fields) × At e.came j r × At e.read j k × Is command.EventCancel r
    × (r.p1 ≡ m.p1)
    × (r.p2 ≡ m.p2)

-- A SERVER_DISCONN is for a channel that is open, and the first for it.
abbrev pub EndsOpenChannels : Conduct → Type 0
EndsOpenChannels e = (k : ℕ) (m : Fields) → At e.sent k m → Is command.ServerDisconnect m
    → (i sid : ℕ) × IsOpenAt e k i m.p1 sid × IsConnected e i k m.p1

-- So it is on each circuit of a world.
abbrev pub ServersGiveFreeSids : World → Type 0
ServersGiveFreeSids w =
    OfCircuits (told w)
    (λ (n : ℕ) (c : Circuit) (x : List Line) (y : List Entry). GivesFreeSids (server_conduct c))

abbrev pub ServersConfirmAtOnce : World → Type 0
ServersConfirmAtOnce w =
    OfCircuits (told w)
    (λ (n : ℕ) (c : Circuit) (x : List Line) (y : List Entry). ConfirmsAtOnce (server_conduct c))

abbrev pub ServersEndOpenChannels : World → Type 0
ServersEndOpenChannels w =
    OfCircuits (told w)
    (λ (n : ℕ) (c : Circuit) (x : List Line) (y : List Entry). EndsOpenChannels (server_conduct c))

-- Two EVENT_ADDs of one subscription are for different creations of its channel.
abbrev pub SubscriptionsAreAddedApart : World → Type 0
SubscriptionsAreAddedApart w =
    OfCircuits (told w) (λ (n : ℕ) (c : Circuit) (x : List Line) (y : List Entry).
    (k l channel number : ℕ) → k < l → Meant c k (On channel (Subscribe number))
    → Meant c l (On channel (Subscribe number))
    → (p : ℕ) × (k < p) × (p < l) × Meant c p (On channel Create))

-- What a client sent for a channel was called.
abbrev pub MessagesWereCalled : World → Type 0
MessagesWereCalled w =
    OfCircuits (told w) (λ (n : ℕ) (c : Circuit) (x : List Line) (y : List Entry).
    (k : ℕ) (s : Sent) → At c.up k s → WasCalled c x k s.intent s.message)

-- A message on a channel goes out under the SID of one that the client has; and a
-- CLEAR_CHANNEL has its CID.
abbrev pub SendsOnChannels : Conduct → Type 0
SendsOnChannels e = (k : ℕ) (m : Fields) → At e.sent k m → IsOnChannel m
    → (i j cid : ℕ) × HasChannel e k i j cid (sid_in m) × (Is command.ClearChannel m → m.p2 ≡ cid)

abbrev pub ClientsSendOnChannels : World → Type 0
ClientsSendOnChannels w =
    OfCircuits (told w)
    (λ (n : ℕ) (c : Circuit) (x : List Line) (y : List Entry). SendsOnChannels (client_conduct c))

-- An EVENT_CANCEL is for an EVENT_ADD on that channel that was not cancelled.
abbrev pub CancelsWhatWasAdded : Conduct → Type 0
CancelsWhatWasAdded e = (k : ℕ) (m : Fields) → At e.sent k m → Is command.EventCancel m
    → (l : ℕ) × (add : Fields) × At e.sent l add × Is command.EventAdd add × (l < k)
    × (add.p1 ≡ m.p1)
    × (add.p2 ≡ m.p2) × IsUncancelled e l k add

abbrev pub ClientsCancelWhatWasAdded : World → Type 0
ClientsCancelWhatWasAdded w =
    OfCircuits (told w)
    (λ (n : ℕ) (c : Circuit) (x : List Line) (y : List Entry). CancelsWhatWasAdded
    (client_conduct c))

-- What was subscribed to was held as the client read what it had read by then: its caller had ended
-- neither it nor its channel, and no notice had told of its end.
abbrev pub AddsWereHeld : World → Type 0
AddsWereHeld w = OfCircuits (told w) (λ (n : ℕ) (c : Circuit) (x : List Line) (y : List Entry).
    (l a m j : ℕ) (h : Step) → Meant c l (On a (Subscribe m)) → At c.heard j h → h.sent ≤ l
    → IsHeld (take h.logged x) (On a (Subscribe m))
    × ((o : Outcome) → In (take h.logged x) (Noticed (On a (Subscribe m)) o) → ⊥))
