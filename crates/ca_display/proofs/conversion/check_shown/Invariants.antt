use Rattle.ca_dbr.proofs.Gathering.{Faultless}
use Rattle.ca_dbr.specs.Data.{data_of}
use Rattle.ca_display.proofs.conversion.check_shown.Given as goal

abbrev pub invariant-loop-item : goal.invariant-loop-item
invariant-loop-item g l = Faultless (g.S.DisplayShown.gives (data_of l.display)) l.items l.item-index
