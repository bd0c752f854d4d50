-- Working: the clause of what is answered, of a world: its parts, and the whole.
use Rattle.std.specs.Prelude.{ℕ, ◌≡◌, ◌≤◌, List}
use Rattle.ca_text.specs.Place.{At}
use Rattle.ca_requests.specs.Meaning.{Means}
use Rattle.ca_model.specs.History.{Circuit, Entry, Line, Removal, Sent, Step, Told}
use Rattle.ca_model.specs.Speech.{Id, Speaks}
use Rattle.ca_model.specs.Updates.{Shows}
use Rattle.ca_model.specs.Channels.{AreSteps, OfCircuits, Suits}
use Rattle.ca_model.specs.Headline.{Answered, AnswersOwn}
use Rattle.ca_model.specs.Causes.{HasCause, TakesOwn}
use Rattle.ca_model.specs.Known.{IsDue}
use Rattle.ca_model.specs.World.{World, port_of, rules_of, told}

-- Of a circuit: each message of the client is what was meant, and each of the server has its cause,
-- handled before; no creation has two SERVER_DISCONNs; an id is taken for what the cause is about;
-- and steps are in order.
pub record MeansOwn (c : Circuit) (x : List Line) (y : List Entry) : Type 0 where
  pub asked : (k : ℕ) (s : Sent) → At c.up k s → Suits s.intent s.message
  pub caused : (j : ℕ) (t : Told) → At c.down j t → HasCause c y t t.cause
      × ((h : Step) × At c.handled t.place h × (h.sent ≤ j))
  pub removed : (i j : ℕ) (t u : Told) → At c.down i t → At c.down j u → t.place ≡ u.place
      → t.cause ≡ Removal → u.cause ≡ Removal → i ≡ j
  pub own : (j : ℕ) (t : Told) (id : Id) → At c.down j t → Speaks t.message id
      → TakesOwn c j t.place id
  pub in_order : AreSteps c.handled c.up c.down y × AreSteps c.heard c.down c.up x

abbrev pub MessagesMeanOwn : World → Type 0
MessagesMeanOwn w =
    OfCircuits (told w) (λ (n : ℕ) (c : Circuit) (x : List Line) (y : List Entry). MeansOwn c x y)

-- Each message that was handled is answered.
abbrev pub AllAreAnswered : World → Type 0
AllAreAnswered w = OfCircuits (told w) (λ (n : ℕ) (c : Circuit) (x : List Line) (y : List Entry).
    (k : ℕ) (h : Step) → At c.handled k h
    → Answered (IsDue (port_of w) (rules_of w)) Shows Means n c y k h)

-- With that it is the whole clause.
abbrev pub AnswersAreOwn : World → Type 0
AnswersAreOwn w = OfCircuits (told w) (AnswersOwn (IsDue (port_of w) (rules_of w)) Shows Means)
