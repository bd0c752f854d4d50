-- Vocabulary: the parts of the statement, one by one, and what it is for a history to break one of
-- them and no other.
use Rattle.std.specs.Prelude.{ℕ, ◌≡◌, List, Option}
use Rattle.ca_wire.specs.Fields.{Fields}
use Rattle.ca_wire.specs.Messages.{mask_in}
use Rattle.ca_requests.specs.Meaning.{Means}
use Rattle.ca_model.specs.History.{Circuit, Entry, Line, Sent, Step, World}
use Rattle.ca_model.specs.Channels.{OfCircuits, OfClients}
use Rattle.ca_model.specs.Headline.{ActsOnRecord, AnswersOwn, CompletesOnce, Follows}
use Rattle.ca_model.specs.Causes.{Accepted}
use Rattle.ca_model.specs.Headline.{NotTwice, Safe, Sees}
use Rattle.ca_model.specs.Legal.{IdsAreApart, IsSent, LegalCircuit}
use Rattle.ca_model.specs.Posts.{matching}
use Rattle.ca_model.specs.Updates.{Shows}
use Rattle.ca_model_examples.specs.Worlds.{AnyDue}

-- The fields of `Safe`, down to those of `KeepNames`, `AreSteps` and `Follows`.
pub data Part : Type 0 where
  -- 1. ActsOnRecord
  Acts Retired Refused Live OneName OneRecord OneAtOnce WasThere : Part
  -- 2. AnswersOwn, with the steps of the server and those of the client; CompletesOnce
  Asked Caused DisconnectedOnce Own Answered HandledEach HandledWithin HandledRise HeardEach
      HeardWithin HeardRise : Part
  Told Lost CompletedOnce OneCall SentOnce AtOne : Part
  -- 3. NotTwice
  AppliedOnce OwnWrite CameToWait Dropped Finished Done Failed : Part
  -- 4. Follows, of each accepted EVENT_ADD; Sees
  Rising Matches ShowsPost Newest SeesOwn SeesInOrder : Part

-- What a field of a record says.
abbrev pub FieldOf : {R T : Type 0} → (R → T) → Type 0
FieldOf {R} {T} field = T

-- What is due for a message is left open.
module _ (Due : ℕ → Circuit → List Entry → Fields → List Fields → Option Fields → List Entry
    → Type 0) where
  abbrev OfActs : ℕ → Circuit → List Line → List Entry → Type 0
  OfActs n c x y = ActsOnRecord Due Shows Means n c x y

  abbrev OfAnswers : ℕ → Circuit → List Line → List Entry → Type 0
  OfAnswers n c x y = AnswersOwn Due Shows Means n c x y

  abbrev OfFollows : Circuit → List Entry → (k r : ℕ) → Sent → Step → Type 0
  OfFollows c y k r s h =
      Follows Due Shows Means c y k r s (matching y h.logged r (mask_in s.message))

  abbrev Completes : World → ℕ → List Line → Type 0
  Completes w life x = CompletesOnce Due Shows Means w life x

  abbrev OfUpdates : World → ℕ → List Line → Type 0
  OfUpdates w life x = Sees Due Shows Means w life x

  -- What a part says of each circuit, of the log of each life of a client, and of the world.
  abbrev pub InCircuit : Part → ℕ → Circuit → List Line → List Entry → Type 0
  InCircuit Acts n c x y = FieldOf (λ (p : OfActs n c x y). p.acts)
  InCircuit Retired n c x y = FieldOf (λ (p : OfActs n c x y). p.retired)
  InCircuit Refused n c x y = FieldOf (λ (p : OfActs n c x y). p.refused)
  InCircuit Live n c x y = FieldOf (λ (p : OfActs n c x y). p.live)
  InCircuit OneName n c x y = FieldOf (λ (p : OfActs n c x y). p.names.one_name)
  InCircuit OneRecord n c x y = FieldOf (λ (p : OfActs n c x y). p.names.one_record)
  InCircuit OneAtOnce n c x y = FieldOf (λ (p : OfActs n c x y). p.names.one_at_once)
  InCircuit WasThere n c x y = FieldOf (λ (p : OfActs n c x y). p.names.was_there)
  InCircuit Asked n c x y = FieldOf (λ (p : OfAnswers n c x y). p.asked)
  InCircuit Caused n c x y = FieldOf (λ (p : OfAnswers n c x y). p.caused)
  InCircuit DisconnectedOnce n c x y = FieldOf (λ (p : OfAnswers n c x y). p.removed)
  InCircuit Own n c x y = FieldOf (λ (p : OfAnswers n c x y). p.own)
  InCircuit Answered n c x y = FieldOf (λ (p : OfAnswers n c x y). p.answered)
  InCircuit HandledEach n c x y = FieldOf (λ (p : OfAnswers n c x y). p.in_order.0.one_each)
  InCircuit HandledWithin n c x y = FieldOf (λ (p : OfAnswers n c x y). p.in_order.0.within)
  InCircuit HandledRise n c x y = FieldOf (λ (p : OfAnswers n c x y). p.in_order.0.rise)
  InCircuit HeardEach n c x y = FieldOf (λ (p : OfAnswers n c x y). p.in_order.1.one_each)
  InCircuit HeardWithin n c x y = FieldOf (λ (p : OfAnswers n c x y). p.in_order.1.within)
  InCircuit HeardRise n c x y = FieldOf (λ (p : OfAnswers n c x y). p.in_order.1.rise)
  InCircuit Rising n c x y =
      (k r : ℕ) (s : Sent) (h : Step) → Accepted c y k r s h
      → FieldOf (λ (p : OfFollows c y k r s h). p.rising)
  InCircuit Matches n c x y =
      (k r : ℕ) (s : Sent) (h : Step) → Accepted c y k r s h
      → FieldOf (λ (p : OfFollows c y k r s h). p.matches)
  InCircuit ShowsPost n c x y =
      (k r : ℕ) (s : Sent) (h : Step) → Accepted c y k r s h
      → FieldOf (λ (p : OfFollows c y k r s h). p.shows)
  InCircuit Newest n c x y =
      (k r : ℕ) (s : Sent) (h : Step) → Accepted c y k r s h
      → FieldOf (λ (p : OfFollows c y k r s h). p.newest)
  InCircuit part n c x y = Unit {0}

  abbrev pub InLife : Part → World → ℕ → List Line → Type 0
  InLife Told w life x = FieldOf (λ (p : Completes w life x). p.told)
  InLife Lost w life x = FieldOf (λ (p : Completes w life x). p.lost)
  InLife CompletedOnce w life x = FieldOf (λ (p : Completes w life x). p.once)
  InLife OneCall w life x = FieldOf (λ (p : Completes w life x). p.one_call)
  InLife SentOnce w life x = FieldOf (λ (p : Completes w life x). p.sent)
  InLife AtOne w life x = FieldOf (λ (p : Completes w life x). p.at_one)
  InLife SeesOwn w life x = FieldOf (λ (p : OfUpdates w life x). p.own)
  InLife SeesInOrder w life x = FieldOf (λ (p : OfUpdates w life x). p.in_order)
  InLife part w life x = Unit {0}

  abbrev pub InWorld : Part → World → Type 0
  InWorld AppliedOnce w = FieldOf (λ (p : NotTwice Due Shows Means w). p.once)
  InWorld OwnWrite w = FieldOf (λ (p : NotTwice Due Shows Means w). p.own)
  InWorld CameToWait w = FieldOf (λ (p : NotTwice Due Shows Means w). p.waits)
  InWorld Dropped w = FieldOf (λ (p : NotTwice Due Shows Means w). p.dropped)
  InWorld Finished w = FieldOf (λ (p : NotTwice Due Shows Means w). p.finished)
  InWorld Done w = FieldOf (λ (p : NotTwice Due Shows Means w). p.done)
  InWorld Failed w = FieldOf (λ (p : NotTwice Due Shows Means w). p.failed)
  InWorld part w = Unit {0}

  -- A part is true of a world.
  abbrev pub Holds : Part → World → Type 0
  Holds part w = OfCircuits w (InCircuit part) × OfClients w (InLife part w) × InWorld part w

-- A history breaks this part of what is safe, and no other.
abbrev pub BreaksOnly : Part → World → Type 0
BreaksOnly part w = ((p : Part) → (p ≡ part → ⊥) → Holds AnyDue p w) × (Holds AnyDue part w → ⊥)

-- And one that differs in one place is safe.
abbrev pub IsSafeNow : World → Type 0
IsSafeNow w = Safe AnyDue Shows Means w

-- ---- what is legal

-- The fields of `Legal`, down to those of `LegalClient` and `LegalServer`.
pub data Sending : Type 0 where
  OnChannel Cancels Ids Sids Updates Confirmations Disconnects : Sending
  HasCall ToldRemoved Apart Anew Ended HasAdd IdsApart : Sending

-- What a part says of each circuit, of the log of each life of a client, and of the world.
abbrev pub SentSo : Sending → ℕ → Circuit → List Line → List Entry → Type 0
SentSo OnChannel n c x y = FieldOf (λ (p : LegalCircuit n c x y). p.client.on_channel)
SentSo Cancels n c x y = FieldOf (λ (p : LegalCircuit n c x y). p.client.cancels)
SentSo Ids n c x y = FieldOf (λ (p : LegalCircuit n c x y). p.client.ids)
SentSo Sids n c x y = FieldOf (λ (p : LegalCircuit n c x y). p.server.sids)
SentSo Updates n c x y = FieldOf (λ (p : LegalCircuit n c x y). p.server.updates)
SentSo Confirmations n c x y = FieldOf (λ (p : LegalCircuit n c x y). p.server.confirmations)
SentSo Disconnects n c x y = FieldOf (λ (p : LegalCircuit n c x y). p.server.disconnects)
SentSo HasCall n c x y = FieldOf (λ (p : LegalCircuit n c x y). p.called)
SentSo ToldRemoved n c x y = FieldOf (λ (p : LegalCircuit n c x y). p.told)
SentSo Apart n c x y = FieldOf (λ (p : LegalCircuit n c x y). p.apart)
SentSo Anew n c x y = FieldOf (λ (p : LegalCircuit n c x y). p.renewed)
SentSo Ended n c x y = FieldOf (λ (p : LegalCircuit n c x y). p.ended)
SentSo HasAdd n c x y = Unit {0}
SentSo IdsApart n c x y = Unit {0}

abbrev pub CalledSo : Sending → World → ℕ → List Line → Type 0
CalledSo HasAdd w life x = IsSent w life x
CalledSo p w life x = Unit {0}

abbrev pub HeldSo : Sending → World → Type 0
HeldSo IdsApart w = IdsAreApart w
HeldSo p w = Unit {0}

abbrev pub MaySend : Sending → World → Type 0
MaySend part w = OfCircuits w (SentSo part) × OfClients w (CalledSo part w) × HeldSo part w

-- In a history this part of what is legal is broken, and no other.
abbrev pub SendsWrong : Sending → World → Type 0
SendsWrong part w = ((p : Sending) → (p ≡ part → ⊥) → MaySend p w) × (MaySend part w → ⊥)
