-- After every run what a client is told is what became of its calls, each once, and of its
-- channels: the whole clause.
use Rattle.std.proofs.Common.{List, Option}
use Rattle.ca_model.specs.Events.{Event}
use Rattle.ca_model.specs.Runs.{AreEvents, Runs}
use Rattle.ca_model.specs.World.{IsSetting, Setting, World}
use Rattle.ca_laws_parts.specs.Says.{CompleteOnce}
use Rattle.ca_laws_runs.proofs.LostLive.{run-lost-were-live}
use Rattle.ca_laws_runs.proofs.LostRuns.{run-notices}
use Rattle.ca_laws_runs.proofs.OnceRuns.{called-once, stands-once}
use Rattle.ca_laws_runs.proofs.OnceSentRuns.{sends-called}
use Rattle.ca_laws_runs.proofs.ToldTwice.{run-told-once}

pub run-complete : (s : Setting) (es : List Event) (stopped : Option Event) (w : World) → IsSetting s → AreEvents es → Runs s es stopped w → CompleteOnce w
run-complete s es stopped w ok are runs life x at = record {
  told = run-notices s es stopped w ok are runs life x at;
  lost = run-lost-were-live s es stopped w ok are runs life x at;
  once = run-told-once s es stopped w ok are runs life x at;
  one_call = called-once s es stopped w runs life x at;
  sent = sends-called s es stopped w runs life x at;
  at_one = stands-once s es stopped w runs life x at;
}
