use Rattle.std.proofs.Common.{rules}
use Rattle.std.proofs.lemmas.List.Sorted.{IsPartitionPoint-from_clause}
use Rattle.ca_server_circuit.proofs.Lines.{has_lower, is-its-place}
use Rattle.ca_server_circuit.proofs.record_channels.place_of.Goals as goal

pub returns-clause-place : goal.returns-clause-place
returns-clause-place c =
    is-its-place c.args.index c.args.channels.now c.partition_point.result c.partition_point.ensures.bound
    (λ parted. IsPartitionPoint-from_clause (has_lower c.args.index) _ _ c.partition_point.ensures.partitioned parted (λ a r q k. search rules))
