use Rattle.ca_client_tables.proofs.Quieted.{quiet-zero}
use Rattle.ca_client_tables.proofs.searches.Searches.boost.Goals as goal

pub invariant_of-self : goal.invariant_of-self
invariant_of-self c = quiet-zero c.boost.new.places.entries
