use Rattle.ca_laws_parts.proofs.Every.{opening-says}
use Rattle.ca_laws_parts.proofs.SaysRuns.{event-says-so, run-says}
use Rattle.ca_laws_parts.proofs.writes_in_runs.each_event_keeps_what_replies_say.Goals as goal

pub returns : goal.returns
returns c = record { begins = opening-says; event = event-says-so; run = run-says }
