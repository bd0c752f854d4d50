use Rattle.std.proofs.Common.{ap, ◌∙◌}
use Rattle.ca_queue.specs.Keys.{is_among}
use Rattle.ca_queue.proofs.Keys.{none_left}
use Rattle.ca_tests.proofs.Anew.{others_anew}
use Rattle.ca_tests.proofs.drawn.begin_anew.Goals as goal

pub add-requires : goal.add-requires
add-requires g c =
    ap (λ q. is_among c.args.key q.subscriptions) c.cancel.ensures.cancels ∙ none_left c.args.key (g.Q.Queues.contents c.args.queue.now).subscriptions

pub returns-clause-others : goal.returns-clause-others
returns-clause-others g c =
    λ k had.
    others_anew k c.args.key (g.Q.Queues.contents c.args.queue.now) (g.Q.Queues.contents c.cancel.new.self) (g.Q.Queues.contents c.add.new.self) c.cancel.ensures.cancels c.in_ok-add.ensures.adds had
