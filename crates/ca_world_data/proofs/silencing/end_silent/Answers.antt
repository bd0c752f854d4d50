use Rattle.std.proofs.Common.{List, subst}
use Rattle.std.specs.Prelude.{MatchOption, map}
use Rattle.ca_client_core.specs.Ticked.{left_of}
use Rattle.ca_world_data.specs.declared.joined.Joined.{Joined}
use Rattle.ca_world_data.specs.Found.{IsAt, IsNowhere}
use Rattle.ca_world_data.specs.Seen.{joined_of}
use Rattle.ca_world_data.proofs.Silences.{silent-by}
use Rattle.ca_world_data.proofs.silencing.end_silent.Goals as goal

pub returns-clause-circuits : goal.returns-clause-circuits
returns-clause-circuits c =
    silent-by c.args.client (left_of c.args.left) c.args.side.now.circuits.items c.circuit_of-number.result (map joined_of c.args.circuits.now.items) (map joined_of c.end_at.new.circuits.items) c.requires.numbered
    (subst (λ (ks : List Joined). MatchOption c.circuit_of-number.result (IsNowhere (map joined_of ks) c.args.client c.args.left.circuit) (IsAt (map joined_of ks) c.args.client c.args.left.circuit)) c.deref-2.ensures.value c.circuit_of-number.ensures)
    c.end_at.ensures
