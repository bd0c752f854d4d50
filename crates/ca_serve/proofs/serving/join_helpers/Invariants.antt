use Rattle.ca_serve.proofs.serving.join_helpers.Given as goal

abbrev pub decreases-loop-helper : goal.decreases-loop-helper
decreases-loop-helper g l = goal.left-loop-helper g l
