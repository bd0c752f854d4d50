use Rattle.ca_laws_runs.proofs.HeldWhole.{after-tells}
use Rattle.ca_laws_runs.proofs.heard_laws.each_notice_tells_of_its_own_message.Goals as goal

pub returns : goal.returns
returns c = after-tells
