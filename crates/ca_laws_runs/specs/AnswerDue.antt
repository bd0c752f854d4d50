-- Working: how each message that a server handled was answered, and that this was due by the
-- statement's own words.
use Rattle.std.specs.Prelude.{ℕ, List, take}
use Rattle.ca_records.specs.Rules.{Rule}
use Rattle.ca_text.specs.Place.{At}
use Rattle.ca_model.specs.Due.{late_reply}
use Rattle.ca_model.specs.History.{Circuit, Entry, Line, Step}
use Rattle.ca_model.specs.Channels.{OfCircuits, before}
use Rattle.ca_model.specs.Known.{IsDue}
use Rattle.ca_model.specs.World.{World, port_of, rules_of, told}
use Rattle.ca_laws_runs.specs.FollowsAnswering.{AnsweredSo}

-- The message at place k was answered, and its replies, the late one and what its step logged are
-- those that were due, by what its server knew then, on this port and with these rules.
abbrev pub AnsweredDue : (ports : ℕ → ℕ) → (rules : ℕ → List Rule) → (n : ℕ) → Circuit → List Entry
    → (k : ℕ) → Step → Type 0
AnsweredDue ports rules n c y k h = (a : AnsweredSo n c y k h)
    × IsDue ports rules n (before c k h) (take h.logged y) a.0.s.message a.0.replies
    (late_reply a.0.s.message a.0.did) a.0.logs

-- So it is of each message that was handled on any circuit.
abbrev pub AreAnsweredDue : World → Type 0
AreAnsweredDue w =
    OfCircuits (told w)
    (λ (n : ℕ) (c : Circuit) (x : List Line) (y : List Entry). (k : ℕ) (h : Step) → At c.handled k h
    → AnsweredDue (port_of w) (rules_of w) n c y k h)
