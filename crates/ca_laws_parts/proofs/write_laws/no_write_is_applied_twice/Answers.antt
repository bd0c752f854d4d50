use Rattle.ca_laws_parts.proofs.Going.{applied-once, dropped-as, finished-once, own-message}
use Rattle.ca_laws_parts.proofs.write_laws.no_write_is_applied_twice.Goals as goal

pub returns : goal.returns
returns c = record { once = applied-once; own = own-message; dropped = dropped-as; finished = finished-once }
