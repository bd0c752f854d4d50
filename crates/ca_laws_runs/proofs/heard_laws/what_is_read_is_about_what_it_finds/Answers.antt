use Rattle.ca_laws_runs.proofs.HeldWhole.{after-reads}
use Rattle.ca_laws_runs.proofs.heard_laws.what_is_read_is_about_what_it_finds.Goals as goal

pub returns : goal.returns
returns c = after-reads
