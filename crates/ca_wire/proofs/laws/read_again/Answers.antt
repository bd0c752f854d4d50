use Rattle.ca_wire.specs.Message.{spelling}
use Rattle.ca_wire.proofs.Messages.{spelling-spells, one-again}
use Rattle.ca_wire.proofs.laws.read_again.Goals as goal

pub returns-clause-spells : goal.returns-clause-spells
returns-clause-spells c = spelling-spells

pub returns-clause-again : goal.returns-clause-again
returns-clause-again c m one rest good is = one-again m (spelling m) rest one (spelling-spells m good) is
