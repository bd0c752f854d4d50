use Rattle.std.proofs.Common.{rules, refl}
use Rattle.std.specs.Prelude.{remove}
use Rattle.std.proofs.lemmas.List.Sorted.{IsPartitionPoint-from_clause}
use Rattle.ca_server_subscriptions.specs.ByRecord.{Receiver}
use Rattle.ca_server_subscriptions.specs.Order.{is_before}
use Rattle.ca_server_subscriptions.proofs.Orders.{line-left, line-within}
use Rattle.ca_server_subscriptions.proofs.record_subscriptions.place_on_record.Goals as goal

pub returns-clause-within : goal.returns-clause-within
returns-clause-within c =
    line-within c.args.receivers.now c.args.standing.now.entries c.args.place c.requires c.partition_point.result c.partition_point.ensures.bound
    (λ parted. IsPartitionPoint-from_clause (λ (x : Receiver). is_before c.args.standing.now.entries c.args.place x.key) _ _ c.partition_point.ensures.partitioned parted (λ a r q k. search rules))

pub returns-clause-place : goal.returns-clause-place
returns-clause-place c =
    line-left c.args.receivers.now c.args.standing.now.entries c.args.place c.requires c.partition_point.result c.partition_point.ensures.bound
    (λ parted. IsPartitionPoint-from_clause (λ (x : Receiver). is_before c.args.standing.now.entries c.args.place x.key) _ _ c.partition_point.ensures.partitioned parted (λ a r q k. search rules))
    (remove c.args.receivers.now c.partition_point.result) refl
