use Rattle.ca_laws_parts.proofs.ClientCalls.{clients-send-legally}
use Rattle.ca_laws_parts.proofs.client_calls.what_a_client_sends_is_legal.Goals as goal

pub returns : goal.returns
returns c = clients-send-legally
