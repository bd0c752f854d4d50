use Rattle.ca_dbr.specs.Held.{display_of}
use Rattle.ca_records.proofs.Waiters.{waits-at}
use Rattle.ca_records.proofs.for_histories.waiting_put.Goals as goal

pub returns : goal.returns
returns c = waits-at (display_of c.args.served.now.state.value) c.waiting.result.now.items c.args.served.now.waiting c.args.place c.index.result.now c.waiting.ensures c.requires c.index.ensures
