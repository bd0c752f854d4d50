-- Working: the late reply to a put: the one reply that comes after the step of its message.
use Rattle.std.specs.Prelude.{ℕ, ◌≡◌, ◌<◌, ◌+◌, ◌⊎◌, true, List, Some, length}
use Rattle.ca_text.specs.Place.{At}
use Rattle.ca_wire.specs.Fields.{Fields}
use Rattle.ca_model.specs.Due.{late_reply}
use Rattle.ca_model.specs.History.{Circuit, Entry, Line, Step}
use Rattle.ca_model.specs.Channels.{IsFinished, IsReply, OfCircuits}
use Rattle.ca_model.specs.World.{World, told}
use Rattle.ca_laws_runs.specs.FollowsAnswering.{IsAnswered}

-- Beside the replies in its step the message at place k gets one late reply at most, and that
-- is the one due: it comes only once its put is finished; and then it is there if the
-- server's end is open.
pub record IsLately (n : ℕ) (c : Circuit) (y : List Entry) (k : ℕ) (h : Step)
    (a : IsAnswered n c y k h) : Type 0 where
  pub place : ℕ
  pub only : (j : ℕ) (m : Fields) → IsReply c k j m
      → (j < h.sent + length a.replies)
      ⊎ ((j ≡ place) × (late_reply a.s.message a.did ≡ Some m) × IsFinished n c y k a.s)
  pub comes : (m : Fields) → late_reply a.s.message a.did ≡ Some m → IsFinished n c y k a.s
      → c.server_open ≡ true → IsReply c k place m

-- So each message that was handled was answered, and then late.
abbrev pub AnsweredLately : (n : ℕ) → Circuit → List Entry → (k : ℕ) → Step → Type 0
AnsweredLately n c y k h = (a : IsAnswered n c y k h) × IsLately n c y k h a

-- And so was each message on any circuit, whether its ends are open or not.
abbrev pub AreAnsweredLately : World → Type 0
AreAnsweredLately w =
    OfCircuits (told w)
    (λ (n : ℕ) (c : Circuit) (x : List Line) (y : List Entry). (k : ℕ) (h : Step) → At c.handled k h
    → AnsweredLately n c y k h)
