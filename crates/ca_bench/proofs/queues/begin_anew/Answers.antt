use Rattle.std.proofs.Common.{ap, ◌∙◌}
use Rattle.ca_queue.specs.Keys.{is_among}
use Rattle.ca_queue.proofs.Keys.{none_left}
use Rattle.ca_bench.proofs.Anew.{others_anew}
use Rattle.ca_bench.proofs.queues.begin_anew.Goals as goal

pub add-requires : goal.add-requires
add-requires c =
    ap (λ q. is_among c.args.key q.subscriptions) c.cancel.ensures.cancels ∙ none_left c.args.key c.args.queue.now.0.subscriptions

pub returns-clause-others : goal.returns-clause-others
returns-clause-others c =
    λ k had.
    others_anew k c.args.key c.args.queue.now.0 c.cancel.new.self.0 c.add.new.self.0 c.cancel.ensures.cancels c.in_ok-add.ensures.adds had
