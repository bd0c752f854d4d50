use Rattle.std.proofs.Common.{map, rules}
use Rattle.ca_world_data.proofs.Counting.{queue_in}
use Rattle.ca_world_servers.specs.Losing.{is_lost}
use Rattle.ca_world_servers.proofs.Losings.{cancels-it, cancels-none}
use Rattle.ca_world_servers.proofs.losing.cancel_on.Goals as goal

pub returns-then-not-is_on : goal.returns-then-not-is_on
returns-then-not-is_on c = cancels-none (is_lost c.args.lost.now) c.args.key (map queue_in c.args.queues.now) (search rules)

pub returns : goal.returns
returns c = cancels-it (is_lost c.args.lost.now) c.args.key (map queue_in c.args.queues.now) (map queue_in c.cancel_in.new.queues) (search rules) c.cancel_in.ensures
