use Rattle.std.proofs.Common.{◌≡◌, ◌==◌, map}
use Rattle.ca_model.specs.ServerEvents.{without_puts}
use Rattle.ca_world_data.specs.Seen.{record_of}
use Rattle.ca_world_data.proofs.Withdrawals.{withdrawn_from}
use Rattle.ca_world_data.proofs.withdrawing.withdraw.Given as goal

-- with those that are left all are without them
abbrev pub invariant-loop-record : goal.invariant-loop-record
invariant-loop-record l =
    record {
      records : withdrawn_from l.record-index l.circuit (map record_of l.records) ≡ map (without_puts (λ n. n == l.circuit)) (map record_of l.initial.records);
    }
