use Rattle.ca_model_examples.proofs.ClientOnly.{only-live}
use Rattle.ca_model_examples.proofs.ClientWorked.{greets, live-and-read}
use Rattle.ca_model_examples.proofs.client_rows.a_channel_becomes_live.Goals as goal

pub returns-clause-greets : goal.returns-clause-greets
returns-clause-greets c = greets

pub returns-clause-live : goal.returns-clause-live
returns-clause-live c = live-and-read

pub returns-clause-only : goal.returns-clause-only
returns-clause-only c = only-live
