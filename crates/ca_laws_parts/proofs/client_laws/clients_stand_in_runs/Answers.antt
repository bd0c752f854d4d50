use Rattle.ca_laws_parts.proofs.RunsEvents.{stands-happens, stands-runs}
use Rattle.ca_laws_parts.proofs.client_laws.clients_stand_in_runs.Goals as goal

pub returns : goal.returns
returns c = record { runs = stands-runs; event = stands-happens }
