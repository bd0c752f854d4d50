use Rattle.ca_server.proofs.Finishing.{finish-refused, finishes}
use Rattle.ca_server.proofs.counts.a_finish_applies_the_next_put.Goals as goal

pub returns : goal.returns
returns c = record { ok = finishes; err = finish-refused }
