use Rattle.ca_client_tables.proofs.Settling.{settled-more}
use Rattle.ca_client_tables.proofs.receiving.settle.Goals as goal

pub loop-received-preserved : goal.loop-received-preserved
loop-received-preserved c =
    settled-more c.args.moment c.args.done.now c.loop-received.received-index _ c.args.searches.now.entries c.loop-received.searches.entries c.settle_one-anomaly.new.searches.entries c.loop-received.anomaly c.settle_one-anomaly.result c.loop-received-test.true c.loop-received.invariant (c.settle_one-anomaly.ensures c.args.moment)
