-- Statement: of what a client called and what it was told: parts of what is said of its
-- log, each by itself.
use Rattle.std.specs.Prelude.{ℕ, ◌≡◌, List}
use Rattle.ca_dbr.specs.declared.value.Outcome.{Outcome}
use Rattle.ca_dbr.specs.declared.value.Outcome.TheVariants.{Failed}
use Rattle.ca_text.specs.declared.status.Status.{Status}
use Rattle.ca_text.specs.Place.{At}
use Rattle.ca_model.specs.History.{Called, Intent, Line, Noticed, On, Put, Read, Request, Subscribe}
use Rattle.ca_model.specs.History.{Wish, World, Write}
use Rattle.ca_model.specs.Speech.{In}
use Rattle.ca_model.specs.Channels.{IsRequest, Stands}

-- A call is accepted once.
abbrev pub CallsOnce : World → (life : ℕ) → List Line → Type 0
CallsOnce w life x =
    (i l : ℕ) (intent : Intent) (a b : Wish) → At x i (Called intent a)
    → At x l (Called intent b) → i ≡ l

-- A request that was sent is at one place of one circuit.
abbrev pub StandsOnce : World → (life : ℕ) → List Line → Type 0
StandsOnce w life x =
    (intent : Intent) (n k m l : ℕ) → IsRequest intent → Stands w life intent n k
    → Stands w life intent m l → (n ≡ m) × (k ≡ l)

-- An accepted request was sent.
abbrev pub SendsCalled : World → (life : ℕ) → List Line → Type 0
SendsCalled w life x =
    (intent : Intent) (a : Wish) → IsRequest intent → In x (Called intent a) → (n k : ℕ)
    × Stands w life intent n k

-- An intent that a client's core keeps until it is answered: to read, to put with
-- notification, or to subscribe.
abbrev pub IsAwaited : Intent → Type 0
IsAwaited (On channel (Request Read number)) = Unit {0}
IsAwaited (On channel (Request Put number)) = Unit {0}
IsAwaited (On channel (Subscribe number)) = Unit {0}
IsAwaited intent = ⊥

-- Of each of these one notice tells at most.
abbrev pub TellsOnce : World → (life : ℕ) → List Line → Type 0
TellsOnce w life x =
    (i l : ℕ) (intent : Intent) (o p : Outcome) → IsAwaited intent → At x i (Noticed intent o)
    → At x l (Noticed intent p) → i ≡ l

-- A notice of a plain write says that it failed.
abbrev pub WritesTellFailed : World → (life : ℕ) → List Line → Type 0
WritesTellFailed w life x =
    (i channel number : ℕ) (o : Outcome) → At x i (Noticed (On channel (Request Write number)) o)
    → (s : Status) × (o ≡ Failed s)
