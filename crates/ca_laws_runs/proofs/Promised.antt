-- From what was shown of every run: its world is safe, and legal.
use Rattle.std.proofs.Common.{ℕ, List, Option}
use Rattle.ca_text.specs.Place.{At}
use Rattle.ca_model.specs.History.{Circuit, Entry, Line, Sent, Told}
use Rattle.ca_model.specs.Speech.{Id, Speaks}
use Rattle.ca_model.specs.Channels.{OfCircuits, Suits}
use Rattle.ca_model.specs.Causes.{TakesOwn}
use Rattle.ca_model.specs.Worlds.{IsLegalWorld, IsSafeWorld, Promise}
use Rattle.ca_model.specs.Events.{Event}
use Rattle.ca_model.specs.Runs.{AreEvents, Runs}
use Rattle.ca_model.specs.World.{IsSetting, Setting, World, told}
use Rattle.ca_laws_runs.proofs.AddsAnew.{run-adds-renewed}
use Rattle.ca_laws_runs.proofs.CauseOnce.{run-removed-once}
use Rattle.ca_laws_runs.proofs.Completing.{run-complete}
use Rattle.ca_laws_runs.proofs.Joint.{run-asked, run-takes}
use Rattle.ca_laws_runs.proofs.LegalApart.{run-apart}
use Rattle.ca_laws_runs.proofs.LegalCancels.{run-cancels}
use Rattle.ca_laws_runs.proofs.LegalEnded.{run-none-ended}
use Rattle.ca_laws_runs.proofs.LegalIds.{run-ids}
use Rattle.ca_laws_runs.proofs.LegalIdsApart.{run-ids-apart}
use Rattle.ca_laws_runs.proofs.OnceSentRuns.{is-sent}
use Rattle.ca_laws_runs.proofs.OrderKeeps.{run-steps}
use Rattle.ca_laws_runs.proofs.OriginsRuns.{run-traced}
use Rattle.ca_laws_runs.proofs.SeeingRuns.{run-sees}
use Rattle.ca_laws_runs.specs.Promised.{AllAreAnswered, AnswersAreOwn, MessagesMeanOwn}
use Rattle.ca_laws_runs.proofs.ActsOn.{of-circuits}
use Rattle.ca_laws_runs.proofs.ActsWhole.{both-of, run-act-on-records}
use Rattle.ca_laws_runs.proofs.AnsweredWhole.{run-are-answered}
use Rattle.ca_laws_runs.proofs.CausingRuns.{run-causes}
use Rattle.ca_laws_runs.proofs.LegalCut.{run-channels}
use Rattle.ca_laws_runs.proofs.LegalTold.{run-told}
use Rattle.ca_laws_runs.proofs.LegalUpdates.{run-legal}
use Rattle.ca_laws_runs.proofs.OwnWrites.{run-not-twice}
use Rattle.ca_laws_runs.proofs.AllCalled.{run-called}
use Rattle.ca_laws_runs.proofs.FollowsWhole.{run-record}

-- ---- what is answered

pub run-mean-own : (s : Setting) (es : List Event) (stopped : Option Event) (w : World) → IsSetting s → AreEvents es → Runs s es stopped w → MessagesMeanOwn w
run-mean-own s es stopped w ok are runs n c at =
    let asked : OfCircuits (told w) (λ (m : ℕ) (d : Circuit) (x : List Line) (y : List Entry). (k : ℕ) (q : Sent) → At d.up k q → Suits q.intent q.message) =
    of-circuits s es stopped w ok runs (λ (m : ℕ) (d : Circuit) (x : List Line) (y : List Entry). (k : ℕ) (q : Sent) → At d.up k q → Suits q.intent q.message)
    (λ m j x y on lx ly k q there. run-asked s es stopped w ok are runs m k j q on there) in
    let takes : OfCircuits (told w) (λ (m : ℕ) (d : Circuit) (x : List Line) (y : List Entry). (i : ℕ) (t : Told) (id : Id) → At d.down i t → Speaks t.message id → TakesOwn d i t.place id) =
    of-circuits s es stopped w ok runs (λ (m : ℕ) (d : Circuit) (x : List Line) (y : List Entry). (i : ℕ) (t : Told) (id : Id) → At d.down i t → Speaks t.message id → TakesOwn d i t.place id)
    (λ m j x y on lx ly i t id there speaks. run-takes s es stopped w ok are runs m i j t id on there speaks) in
    let a =
    both-of w _ _ (both-of w _ _ asked (run-causes s es stopped w ok runs))
    (both-of w _ _ (run-removed-once s es stopped w ok runs) (both-of w _ _ takes (run-steps s es stopped w ok are runs))) n c at in
    (a.0, a.1, a.2, record { asked = a.3.0.0; caused = a.3.0.1; removed = a.3.1.0; own = a.3.1.1.0; in_order = a.3.1.1.1 })

pub answer-own : (w : World) → MessagesMeanOwn w → AllAreAnswered w → AnswersAreOwn w
answer-own w means answered n c at =
    let a = both-of w _ _ means answered n c at in
    let m = a.3.0 in
    (a.0, a.1, a.2, record { asked = m.asked; caused = m.caused; removed = m.removed; own = m.own; answered = a.3.1; in_order = m.in_order })

-- ---- the whole

pub run-answers-own : (s : Setting) (es : List Event) (stopped : Option Event) (w : World) → IsSetting s → AreEvents es → Runs s es stopped w → AnswersAreOwn w
run-answers-own s es stopped w ok are runs = answer-own w (run-mean-own s es stopped w ok are runs) (run-are-answered s es stopped w ok runs)

run-safe : (s : Setting) (es : List Event) (stopped : Option Event) (w : World) → IsSetting s → AreEvents es → Runs s es stopped w → IsSafeWorld w
run-safe s es stopped w ok are runs = record {
  acts = run-act-on-records s es stopped w ok are runs;
  own = (run-answers-own s es stopped w ok are runs, run-complete s es stopped w ok are runs);
  applied = run-not-twice s es stopped w ok are runs;
  sees = (run-record s es stopped w ok runs, run-sees s es stopped w ok are runs);
}

pub run-legal-world : (s : Setting) (es : List Event) (stopped : Option Event) (w : World) → IsSetting s → AreEvents es → Runs s es stopped w → IsLegalWorld w
run-legal-world s es stopped w ok are runs = record {
  circuits = λ n c at.
      let a =
      both-of w _ _ (both-of w _ _ (both-of w _ _ (run-channels s es stopped w ok are runs) (run-cancels s es stopped w ok are runs)) (both-of w _ _ (run-ids s es stopped w ok are runs) (run-legal s es stopped w ok are runs)))
      (both-of w _ _ (both-of w _ _ (both-of w _ _ (run-called s es stopped w ok are runs) (run-told s es stopped w ok runs)) (run-apart s es stopped w ok runs)) (both-of w _ _ (run-adds-renewed s es stopped w ok are runs) (run-none-ended s es stopped w ok are runs))) n c at in (
        a.0,
        a.1,
        a.2,
        record {
          client = record { on_channel = a.3.0.0.0; cancels = a.3.0.0.1; ids = a.3.0.1.0 };
          server = a.3.0.1.1;
          called = a.3.1.0.0.0;
          told = a.3.1.0.0.1;
          apart = a.3.1.0.1;
          renewed = a.3.1.1.0;
          ended = a.3.1.1.1;
        },
      );
  subscriptions = is-sent s es stopped w runs;
  ids = run-ids-apart s es stopped w ok are runs;
}

-- What is promised of every run.
pub promised : Promise
promised s es stopped w ok are runs = (run-safe s es stopped w ok are runs, run-legal-world s es stopped w ok are runs, run-traced s es stopped w ok runs)
