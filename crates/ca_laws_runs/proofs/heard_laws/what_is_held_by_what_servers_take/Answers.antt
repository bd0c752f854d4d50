use Rattle.ca_laws_runs.proofs.HeldWhole.{after-own, run-own}
use Rattle.ca_laws_runs.proofs.heard_laws.what_is_held_by_what_servers_take.Goals as goal

pub returns : goal.returns
returns c = record { event = after-own; run = run-own }
