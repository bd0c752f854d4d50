use Rattle.ca_world.proofs.ClientHearings.{bad-none, whole-one}
use Rattle.ca_world.proofs.client_datagram.begins_message.Goals as goal

pub returns-in-Whole-clause-begins : goal.returns-in-Whole-clause-begins
returns-in-Whole-clause-begins c = λ held none. whole-one c.args.bytes.now c.in-Whole.field-0 c.in-Whole.ensures none

pub returns-in-Bad-clause-none : goal.returns-in-Bad-clause-none
returns-in-Bad-clause-none c = λ held. bad-none c.args.bytes.now c.in-Bad.field-0 c.in-Bad.ensures
