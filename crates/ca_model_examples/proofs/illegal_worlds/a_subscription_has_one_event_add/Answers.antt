use Rattle.ca_model_examples.proofs.Illegal.{adds-legal, adds-uncalled, added-twice, called-legal, called-unsent, cancelled-later-legal, added-cancelled, again-legal, not-added-again, cancelled-between}
use Rattle.ca_model_examples.proofs.illegal_worlds.a_subscription_has_one_event_add.Goals as goal

pub returns : goal.returns
returns c = record { two = adds-legal; uncalled = adds-uncalled; one_twice = added-twice; called = called-legal; unsent = called-unsent; cancelled_later = cancelled-later-legal; cancelled_before = added-cancelled; again = again-legal; not_again = not-added-again; cancelled_between = cancelled-between }
