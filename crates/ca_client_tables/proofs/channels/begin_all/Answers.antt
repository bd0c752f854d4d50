use Rattle.ca_client_tables.specs.OnCircuits.{indices_of}
use Rattle.ca_client_tables.proofs.OnLists.{creating-covers, creating-listed}
use Rattle.ca_client_tables.proofs.channels.begin_all.Goals as goal

pub begin_each-requires : goal.begin_each-requires
begin_each-requires c = creating-covers c.args.circuit c.channels.inside.table (indices_of c.candidates-on.result) c.candidates-on.ensures

pub invariant_of-channels : goal.invariant_of-channels
invariant_of-channels c complete =
    creating-listed c.args.circuit c.channels.inside.table c.begin_each.new.table c.channels.inside.circuits c.begin_each.ensures (c.channels.invariant complete)
