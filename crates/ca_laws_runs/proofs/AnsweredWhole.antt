-- Each message that was handled is answered, in the words of the statement.
use Rattle.std.proofs.Common.{◌≡◌, ℕ, List, Option, subst}
use Rattle.std.specs.Prelude.{take}
use Rattle.ca_records.specs.Rules.{Rule}
use Rattle.ca_requests.specs.Meaning.{Means}
use Rattle.ca_text.specs.Place.{At}
use Rattle.ca_text.proofs.Places.{At-map, At-one}
use Rattle.ca_model.specs.Due.{late_reply}
use Rattle.ca_model.specs.History.{Circuit, Entry, Line, Step}
use Rattle.ca_model.specs.Updates.{Shows}
use Rattle.ca_model.specs.Channels.{before}
use Rattle.ca_model.specs.Headline.{Answered}
use Rattle.ca_model.specs.Known.{IsDue}
use Rattle.ca_model.specs.Events.{Event}
use Rattle.ca_model.specs.Runs.{Runs}
use Rattle.ca_model.specs.World.{IsSetting, Setting, World, circuit_of, port_of, rules_of}
use Rattle.ca_laws_runs.proofs.StepWhole.{run-serves}
use Rattle.ca_laws_parts.specs.Lives.{CameOn, LostOn}
use Rattle.ca_laws_parts.specs.Once.{Once}
use Rattle.ca_laws_runs.specs.AnswerDue.{AnsweredDue}
use Rattle.ca_laws_runs.specs.FollowsAnswering.{IsAnswered}
use Rattle.ca_laws_runs.specs.Lately.{IsLately}
use Rattle.ca_laws_runs.specs.Promised.{AllAreAnswered}
use Rattle.ca_laws_runs.proofs.ActsOn.{of-circuits}
use Rattle.ca_laws_runs.proofs.DueRuns.{run-due}
use Rattle.ca_laws_runs.proofs.LatelyDue.{IsDone, is-lately}
use Rattle.ca_laws_runs.proofs.LatelyHeads.{run-says}
use Rattle.ca_laws_runs.proofs.LatelyRuns.{run-late}

-- by what was due, and the reply that came late
answered-of : (ports : ℕ → ℕ) (rules : ℕ → List Rule) (n : ℕ) (c : Circuit) (y : List Entry) (k : ℕ) (h : Step) (a : IsAnswered n c y k h)
    → IsDue ports rules n (before c k h) (take h.logged y) a.s.message a.replies (late_reply a.s.message a.did) a.logs
    → IsLately n c y k h a → Answered (IsDue ports rules) Shows Means n c y k h
answered-of ports rules n c y k h a due l = record {
  s = a.s;
  at = a.at;
  replies = a.replies;
  late = late_reply a.s.message a.did;
  logs = a.logs;
  due = due;
  now = a.now;
  logged = a.logged;
  within = a.within;
  besides = a.besides;
  place = l.place;
  only = l.only;
  comes = l.comes;
  next = a.next;
}

pub run-are-answered : (s : Setting) (es : List Event) (stopped : Option Event) (w : World) → IsSetting s → Runs s es stopped w → AllAreAnswered w
run-are-answered s es stopped w ok runs =
    of-circuits s es stopped w ok runs
    (λ (n : ℕ) (c : Circuit) (x : List Line) (y : List Entry). (k : ℕ) (h : Step) → At c.handled k h → Answered (IsDue (port_of w) (rules_of w)) Shows Means n c y k h)
    (λ n j x y at lx ly k h there.
    let r = run-due s es stopped w ok runs n (circuit_of j) (At-map circuit_of w.circuits n j at) in
    let same : r.1 ≡ y = At-one w.server_logs j.lists.server r.1 y r.2.2 ly in
    let once : Once (CameOn w.circuits j.lists.server) (LostOn w.circuits) y = (run-serves s es stopped w ok runs).stands.sound.writes.logs j.lists.server y ly in
    let known : AnsweredDue (port_of w) (rules_of w) n (circuit_of j) y k h = subst (λ (l : List Entry). AnsweredDue (port_of w) (rules_of w) n (circuit_of j) l k h) same (r.3 k h there) in
    let a : IsAnswered n (circuit_of j) y k h = known.0.0 in
    answered-of (port_of w) (rules_of w) n (circuit_of j) y k h a known.1
    (is-lately n j y w.circuits at once k h there a (run-late IsDone s ok (λ done v folds. run-says s done v ok folds) es stopped w runs n j y at ly k h a.s there a.at) known.0.1))
