use Rattle.ca_laws_parts.proofs.Saying.{adds-sent, requests-once}
use Rattle.ca_laws_parts.proofs.client_calls.which_call_sends_what.Goals as goal

pub returns : goal.returns
returns c = record { requests = requests-once; subscriptions = adds-sent }
