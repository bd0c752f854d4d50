use Rattle.std.proofs.lemmas.Bool.{and_parts}
use Rattle.ca_model.specs.Client.{Channel}
use Rattle.ca_lists.proofs.Listed.{listed-stood}
use Rattle.ca_client_tables.specs.Forms.{standing_of}
use Rattle.ca_client_tables.specs.OnCircuits.{circuit_of}
use Rattle.ca_client_tables.proofs.channels.set_standing.Goals as goal

pub invariant_of-channels : goal.invariant_of-channels
invariant_of-channels c complete =
    let both = and_parts c.channels.inside.complete c.list.result complete in
    listed-stood circuit_of (λ (here : Channel). record here { standing = standing_of c.args.standing }) c.channels.inside.table c.put.new.table c.args.handle c.list.new.circuits c.put.ensures
    (λ w o on. c.list.ensures.own both.1 o on)
    (c.list.ensures.kept c.channels.inside.table (c.channels.invariant both.0))
