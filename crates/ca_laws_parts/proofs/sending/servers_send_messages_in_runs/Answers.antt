use Rattle.ca_laws_parts.proofs.Causes.{is-reply, runs-caused}
use Rattle.ca_laws_parts.proofs.ServerSpeaking.{event-servers, opening-servers, runs-hear, runs-servers}
use Rattle.ca_laws_parts.proofs.sending.servers_send_messages_in_runs.Goals as goal

pub returns : goal.returns
returns c = record { begins = opening-servers; event = event-servers; run = runs-servers; hears = runs-hear; caused = runs-caused; reply = is-reply }
