use Rattle.ca_model_examples.proofs.ClientHears.{replies-by-command}
use Rattle.ca_model_examples.proofs.client_hears.a_reply_fits_its_request.Goals as goal

pub returns : goal.returns
returns c = replies-by-command
