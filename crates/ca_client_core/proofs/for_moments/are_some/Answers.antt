use Rattle.std.proofs.Common.{◌≡◌, length, rules}
use Rattle.ca_client_core.proofs.Rounds.{nil-is}
use Rattle.ca_client_core.proofs.for_moments.are_some.Goals as goal

pub returns-then-is_empty : goal.returns-then-is_empty
returns-then-is_empty c = (let empty : length c.args.ends.now ≡ 0 = search rules in nil-is c.args.ends.now empty)
