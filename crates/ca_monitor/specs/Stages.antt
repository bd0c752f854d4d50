-- Vocabulary: the stages of the code as those of the vocabulary.
use Rattle.std.specs.Prelude.{◌≡◌, refl}
use Rattle.ca_monitor.specs.declared.stage.SubscriptionStage.{SubscriptionStage}
use Rattle.ca_monitor.specs.declared.stage.SubscriptionStage.TheVariants as code
use Rattle.ca_monitor.specs.Subscriptions as monitor

abbrev pub stage_of : SubscriptionStage → monitor.Stage
stage_of code.Stands = monitor.Stands
stage_of (code.Cancelled circuit) = monitor.Cancelled circuit
stage_of (code.Ended circuit) = monitor.Ended circuit

abbrev pub stage_from : monitor.Stage → SubscriptionStage
stage_from monitor.Stands = code.Stands
stage_from (monitor.Cancelled circuit) = code.Cancelled circuit
stage_from (monitor.Ended circuit) = code.Ended circuit

pub stage_again : (s : SubscriptionStage) → stage_from (stage_of s) ≡ s
stage_again code.Stands = refl
stage_again (code.Cancelled circuit) = refl
stage_again (code.Ended circuit) = refl
