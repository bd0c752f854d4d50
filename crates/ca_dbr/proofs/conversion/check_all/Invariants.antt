use Rattle.ca_dbr.proofs.Gathering.{Faultless}
use Rattle.ca_dbr.proofs.conversion.check_all.Given as goal

abbrev pub invariant-loop-item : goal.invariant-loop-item
invariant-loop-item g l = Faultless g.C.Conversion.gives l.items l.item-index
