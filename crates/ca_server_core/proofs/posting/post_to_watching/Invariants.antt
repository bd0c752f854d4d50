use Rattle.ca_server_core.proofs.Reached.{Walk}
use Rattle.ca_server_core.proofs.posting.post_to_watching.Given as goal

abbrev pub invariant-posting : goal.invariant-posting
invariant-posting l = Walk l.fn.place l.fn.mask l.fn.watchers l.fn.circuits l.fn.records l.left l.watchers l.circuits l.records

abbrev pub decreases-posting : goal.decreases-posting
decreases-posting l = l.left
