use Rattle.ca_laws_parts.proofs.WritesEnding.{life-ended}
use Rattle.ca_laws_parts.proofs.write_laws.ends_of_circuits_withdraw_puts.Goals as goal

pub returns : goal.returns
returns c cs server life y ds rs n ends lost are_open agree a = life-ended cs server life y ds rs n ends lost are_open agree a
