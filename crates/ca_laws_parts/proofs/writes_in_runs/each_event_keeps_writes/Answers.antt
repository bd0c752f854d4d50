use Rattle.ca_laws_parts.proofs.Every.{event-sound, opening-sound, run-sound}
use Rattle.ca_laws_parts.proofs.writes_in_runs.each_event_keeps_writes.Goals as goal

pub returns : goal.returns
returns c = record { begins = opening-sound; event = event-sound; run = run-sound }
