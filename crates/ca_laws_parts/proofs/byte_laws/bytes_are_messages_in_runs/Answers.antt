use Rattle.ca_laws_parts.proofs.BytesRuns.{event-stands, opening-stands, runs-stand, runs-take}
use Rattle.ca_laws_parts.proofs.byte_laws.bytes_are_messages_in_runs.Goals as goal

pub returns : goal.returns
returns c = record { begins = opening-stands; event = event-stands; run = runs-stand; takes = runs-take }
