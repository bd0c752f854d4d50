use Rattle.ca_client.specs.Replies.{Replies}
use Rattle.ca_client.proofs.stepping.step_all.Given as goal

abbrev pub invariant-loop-replies : goal.invariant-loop-replies
invariant-loop-replies l = Replies l.circuit l.replies l.fn.state l.state
