use Rattle.ca_laws_parts.proofs.OtherEvents.{keeps-add, keeps-handing-out, keeps-open, keeps-post, keeps-server-restart}
use Rattle.ca_laws_parts.proofs.other_laws.quiet_events_keep_each_circuit.Goals as goal

pub returns : goal.returns
returns c = record { opened = keeps-open; handed_out = keeps-handing-out; post = keeps-post; add = keeps-add; server_restart = keeps-server-restart }
