use Rattle.ca_repeat.proofs.Fills.{fills}
use Rattle.ca_repeat.proofs.laws.filled_beacon_names_its_sender.Goals as goal

pub returns : goal.returns
returns c bytes behind m ip = fills bytes behind m ip
