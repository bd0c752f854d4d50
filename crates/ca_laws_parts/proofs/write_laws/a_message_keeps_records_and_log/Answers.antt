use Rattle.ca_laws_parts.proofs.Step.{life-step}
use Rattle.ca_laws_parts.proofs.write_laws.a_message_keeps_records_and_log.Goals as goal

pub returns : goal.returns
returns c cs i l log rs n old h e p s replies did new t grows due makes a = life-step cs i l log rs n old h e p s replies did new t grows due makes a
