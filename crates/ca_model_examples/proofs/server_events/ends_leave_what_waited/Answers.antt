use Rattle.ca_model_examples.proofs.ServerHappens.{cut-happens, lack-happens, lacks-not-so, restart-happens}
use Rattle.ca_model_examples.proofs.server_events.ends_leave_what_waited.Goals as goal

pub returns : goal.returns
returns c = record { cut = cut-happens; restart = restart-happens; lacks_memory = lack-happens; lacks_not_so = lacks-not-so }
