use Rattle.ca_laws_parts.proofs.ServerServerCalls.{servers-send-legally}
use Rattle.ca_laws_parts.proofs.server_calls.what_a_server_sends_is_legal.Goals as goal

pub returns : goal.returns
returns c = servers-send-legally
