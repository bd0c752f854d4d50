use Rattle.std.proofs.Common.{◌<◌, List, length, refl, arith}
use Rattle.ca_world_data.specs.declared.joined.Joined.{Joined}
use Rattle.ca_world_data.proofs.Worlds.{found}
use Rattle.ca_world_data.proofs.ends.ends_at.Goals as goal

pub returns : goal.returns
returns c =
    let ks : List Joined = c.args.circuits.now in
    let j : Joined = c.index-circuits-circuit.result in
    let within : c.args.circuit < length ks = omega (arith, c.if-circuit-circuits.false) in
    record {
      j = j;
      at = found ks c.args.circuit j j within c.index-circuits-circuit.is;
      is = refl;
      client = omega (arith, c.if-joined-clients.false);
      server = omega (arith, c.if-joined-servers.false);
    }
