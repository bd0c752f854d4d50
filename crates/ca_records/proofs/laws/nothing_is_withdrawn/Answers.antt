use Rattle.ca_records.proofs.Withdrawals.{withdrawn-none}
use Rattle.ca_records.proofs.laws.nothing_is_withdrawn.Goals as goal

pub returns : goal.returns
returns c = withdrawn-none
