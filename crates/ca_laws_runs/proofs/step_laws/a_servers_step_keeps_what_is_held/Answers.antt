use Rattle.ca_laws_runs.proofs.StepWhole.{reached-beside, reached-gone, reached-own, reached-unhandled}
use Rattle.ca_laws_runs.proofs.step_laws.a_servers_step_keeps_what_is_held.Goals as goal

pub returns : goal.returns
returns c = record { unhandled = reached-unhandled; others = reached-beside; gone = reached-gone; own = reached-own }
