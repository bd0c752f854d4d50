use Rattle.ca_records.specs.Store.{records_of}
use Rattle.ca_server_core.proofs.Covered.{covers-none}
use Rattle.ca_server_core.proofs.Listed.{listed-empty}
use Rattle.ca_server_core.proofs.Sounds.{sound-new}
use Rattle.ca_server_core.proofs.Led.{leads-none}
use Rattle.ca_server_core.proofs.server.ServerCore.new.Goals as goal

pub invariant_of-result : goal.invariant_of-result
invariant_of-result c =
    rw c.new.ensures
    (record {
      sound = sound-new (records_of c.in_ok-records.records) c.args.records.now c.in_ok-records.ensures.list;
      covered = covers-none _;
      listed = listed-empty _ c.new-3.result c.new-3.ensures;
      led = record { leads = leads-none _; listed = listed-empty _ c.new-4.result c.new-4.ensures };
    })
