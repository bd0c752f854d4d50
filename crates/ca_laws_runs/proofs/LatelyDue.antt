-- After every run the late reply to a message is the one that was due, in the
-- words of the statement.
use Rattle.std.proofs.Common.{◌≡◌, ℕ, ◌<◌, ◌+◌, ◌⊎◌, inl, inr, List, length, Option, Some, sym, ap, subst, ◌∙◌}
use Rattle.std.specs.List.{FoldsTo}
use Rattle.ca_text.specs.declared.command.Command.TheVariants as command
use Rattle.ca_text.specs.Place.{At}
use Rattle.ca_text.specs.Status.{normal}
use Rattle.ca_text.proofs.Places.{some_is, At-map, At-one}
use Rattle.ca_wire.specs.Fields.{Fields}
use Rattle.ca_wire.specs.Messages.{status_reply}
use Rattle.ca_model.specs.Due.{late_reply}
use Rattle.ca_model.specs.History.{Circuit, Entry, Finished, Line, Step}
use Rattle.ca_model.specs.Speech.{In, Is}
use Rattle.ca_model.specs.Channels.{IsFinished, IsReply}
use Rattle.ca_model.specs.Events.{Event}
use Rattle.ca_model.specs.Runs.{Happens, Runs}
use Rattle.ca_model.specs.World.{IsSetting, Joined, Setting, World, circuit_of, opening}
use Rattle.ca_laws_runs.proofs.StepWhole.{run-serves}
use Rattle.ca_laws_parts.specs.Lives.{CameOn, LostOn}
use Rattle.ca_laws_parts.specs.Once.{Once}
use Rattle.ca_laws_runs.specs.FollowsAnswering.{AnsweredSo, IsAnswered}
use Rattle.ca_laws_runs.specs.Lately.{AnsweredLately, AreAnsweredLately, IsLately}
use Rattle.ca_laws_runs.proofs.ActsOn.{of-circuits}
use Rattle.ca_laws_runs.proofs.AnsweringRuns.{run-answered}
use Rattle.ca_laws_runs.proofs.LatelyKeeps.{IsKnownLate, delayed-did, finished-delayed, late-is}
use Rattle.ca_laws_runs.proofs.LatelyRuns.{AnswersAt, run-late}

-- the reply that tells a put done
abbrev pub IsDone : Fields → Fields → Type 0
IsDone request reply = reply ≡ status_reply request normal

-- of one circuit
module _ (n : ℕ) (j : Joined) (y : List Entry) (cs : List Joined) (on : At cs n j) (once : Once (CameOn cs j.lists.server) (LostOn cs) y) where
  late-due : (k : ℕ) (h : Step) (a : IsAnswered n (circuit_of j) y k h) → At j.lists.handled k h → In y (Finished n k)
      → late_reply a.s.message a.did ≡ Some (status_reply a.s.message normal)
  late-due k h a there done =
      late-is a.s.message a.did
      (delayed-did cs j.lists.server y once n k j on h there _ a.did a.logs a.logs_are a.logged a.besides (finished-delayed cs j.lists.server y once n k j on h there done))

  -- beside the replies in its step, one late reply
  pub is-lately : (k : ℕ) (h : Step) → At j.lists.handled k h → (a : IsAnswered n (circuit_of j) y k h) → IsKnownLate IsDone n j.lists y k a.s
      → ((i : ℕ) (m : Fields) → IsReply (circuit_of j) k i m → (i < h.sent + length a.replies) ⊎ (Is command.WriteNotify m × (m.p1 ≡ normal) × Is command.WriteNotify a.s.message × IsFinished n (circuit_of j) y k a.s))
      → IsLately n (circuit_of j) y k h a
  is-lately k h there a l rest = record {
    place = l.place;
    only = λ i m reply. elim (rest i m reply) [
      | inl early ↦ inl early
      | inr late ↦
          let done : In y (Finished n k) = (late.3.0, late.3.1) in
          let one = l.one i m reply done in
          inr (one.0, late-due k h a there done ∙ ap (λ (x : Fields). Some x) (sym one.1), late.3)
    ];
    comes = λ m due fin opened.
        let done : In y (Finished n k) = (fin.0, fin.1) in
        let r = l.comes fin.0 fin.1 fin.3 opened in
        let one = l.one l.place r.0 r.1 done in
        let is : r.0 ≡ m = one.1 ∙ some_is (status_reply a.s.message normal) m (sym (late-due k h a there done) ∙ due) in
        subst (λ (x : Fields). IsReply (circuit_of j) k l.place x) is r.1;
  }

  pub as-late : (k : ℕ) (h : Step) → At j.lists.handled k h → ((a : IsAnswered n (circuit_of j) y k h) → IsKnownLate IsDone n j.lists y k a.s)
      → AnsweredSo n (circuit_of j) y k h → AnsweredLately n (circuit_of j) y k h
  as-late k h there late_of (a, rest) = (a, is-lately k h there a (late_of a) rest)

pub lately : (s : Setting) (es : List Event) (stopped : Option Event) (w : World) → IsSetting s → Runs s es stopped w
    → ((done : List Event) (v : World) → FoldsTo Happens (opening s) done v → AnswersAt IsDone v) → AreAnsweredLately w
lately s es stopped w ok runs says =
    of-circuits s es stopped w ok runs
    (λ (n : ℕ) (c : Circuit) (x : List Line) (y : List Entry). (k : ℕ) (h : Step) → At c.handled k h → AnsweredLately n c y k h)
    (λ n j x y at lx ly k h there.
    let r = run-answered s es stopped w ok runs n (circuit_of j) (At-map circuit_of w.circuits n j at) in
    let same : r.1 ≡ y = At-one w.server_logs j.lists.server r.1 y r.2.2 ly in
    let once : Once (CameOn w.circuits j.lists.server) (LostOn w.circuits) y = (run-serves s es stopped w ok runs).stands.sound.writes.logs j.lists.server y ly in
    as-late n j y w.circuits at once k h there (λ a. run-late IsDone s ok says es stopped w runs n j y at ly k h a.s there a.at)
    (subst (λ (l : List Entry). AnsweredSo n (circuit_of j) l k h) same (r.3 k h there)))
