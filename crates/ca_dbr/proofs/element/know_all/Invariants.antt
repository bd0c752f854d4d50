use Rattle.std.proofs.Common.{All, take}
use Rattle.ca_dbr.proofs.element.know_all.Given as goal

abbrev pub invariant-loop-item : goal.invariant-loop-item
invariant-loop-item g l = All g.E.ImageElement.fits (take l.item-index l.items)
