use Rattle.ca_dbr.proofs.OneReading.{reads-image, reads-one, length-image, type_number-one}
use Rattle.ca_dbr.proofs.Valued.{type_at-number}
use Rattle.ca_dbr.proofs.laws.one_reading.Goals as goal

pub returns-clause-again : goal.returns-clause-again
returns-clause-again c = reads-image

pub returns-clause-only : goal.returns-clause-only
returns-clause-only c = reads-one

pub returns-clause-size : goal.returns-clause-size
returns-clause-size c = length-image

pub returns-clause-numbers : goal.returns-clause-numbers
returns-clause-numbers c = type_number-one

pub returns-clause-named : goal.returns-clause-named
returns-clause-named c = type_at-number
