use Rattle.ca_serve.proofs.ringing.Rings.ring_all.Given as goal

abbrev pub decreases-loop-wake : goal.decreases-loop-wake
decreases-loop-wake l = goal.left-loop-wake l
