use Rattle.ca_client_tables.specs.Ending.{again, gone, sought}
use Rattle.ca_client_tables.specs.OnCircuits.{indices_of}
use Rattle.ca_client_tables.proofs.ByCircuit.{ended-listed, may-after}
use Rattle.ca_client_tables.proofs.channels.end_channels.Goals as goal

pub search_again-requires-clause-on : goal.search_again-requires-clause-on
search_again-requires-clause-on c =
    may-after c.args.circuit gone (sought c.channels.inside.table c.args.searches.now.entries) (sought c.let_cleared_go.new.channels c.let_cleared_go.new.searches.entries) (indices_of c.candidates-on.result) c.let_cleared_go.ensures.steps c.candidates-on.ensures

pub invariant_of-channels : goal.invariant_of-channels
invariant_of-channels c complete =
    ended-listed c.args.circuit gone (again c.args.moment) (sought c.channels.inside.table c.args.searches.now.entries) (sought c.let_cleared_go.new.channels c.let_cleared_go.new.searches.entries) (sought c.search_again.new.channels c.search_again.new.searches.entries) c.channels.inside.circuits c.let_cleared_go.ensures.steps c.search_again.ensures.steps (c.channels.invariant complete)
