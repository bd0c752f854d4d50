use Rattle.ca_laws_parts.proofs.KeptRuns.{channels-event, channels-run, opening-channels}
use Rattle.ca_laws_parts.proofs.kept.channels_are_those_that_were_created.Goals as goal

pub returns : goal.returns
returns c = record { begins = opening-channels; event = channels-event; run = channels-run }
