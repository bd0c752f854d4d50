use Rattle.ca_search.specs.Searches.{passed}
use Rattle.ca_client_core.proofs.Passing.{client-passed}
use Rattle.ca_client_core.proofs.client.ClientCore.pass_searches.Goals as goal

pub invariant_of-self : goal.invariant_of-self
invariant_of-self c = record {
  client = client-passed c.self.inside.channels (passed c.self.inside.moment) c.self.inside.searches.entries c.pass.new.self.entries c.pass.ensures c.self.invariant.client;
  placed = c.self.invariant.placed;
  listed = c.self.invariant.listed;
}
