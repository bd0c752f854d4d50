use Rattle.std.proofs.Common.{rules}
use Rattle.std.proofs.lemmas.List.Sorted.{IsPartitionPoint-from_clause}
use Rattle.ca_server_subscriptions.proofs.Channels.{is_ahead, stands-there}
use Rattle.ca_server_subscriptions.proofs.by_channel.place_in_channel.Goals as goal

pub returns : goal.returns
returns c =
    let es = c.args.standing.now.entries in
    let key = c.args.key in
    let point = c.partition_point.ensures in
    stands-there es c.args.place key c.requires.here c.requires.apart c.args.line.now c.partition_point.result c.requires.line point.bound
    (λ parted. IsPartitionPoint-from_clause (is_ahead es c.args.place key c.requires.here c.requires.apart) _ _ point.partitioned parted (λ a r q k. search rules))
