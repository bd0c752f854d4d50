use Rattle.ca_server_circuit.specs.Removing.{without_record}
use Rattle.ca_server_circuit.proofs.Indexes.{front-change, indexed-retired}
use Rattle.ca_server_circuit.proofs.channels.ServedChannels.retire.Goals as goal

pub invariant_of-self : goal.invariant_of-self
invariant_of-self c =
    let t = c.self.inside.table in
    let indexed = indexed-retired t c.self.inside.cids c.args.channel c.self.invariant.0 in
    let front = front-change without_record t c.args.channel c.self.inside.front c.self.invariant.1 in
    rw (c.retire.ensures, c.leave.ensures) (indexed, front)
