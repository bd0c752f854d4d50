use Rattle.std.proofs.Common.{arith, map}
use Rattle.ca_client_core.specs.ForHistories.{sending_of}
use Rattle.ca_client_core.proofs.Awaited.{all-listed, one-more-listed}
use Rattle.ca_client_core.proofs.for_accepts.list_creations.Goals as goal

pub loop-index-preserved : goal.loop-index-preserved
loop-index-preserved c = record {
  listed =
      one-more-listed c.args.circuit c.args.channels.now c.loop-index.index (map sending_of c.args.sent.now.items) (map sending_of c.loop-index.sent.items) (map sending_of c.list_creation.new.sent.items) (omega arith) c.loop-index.invariant.listed c.in_ok-list_creation.ensures;
}

pub returns : goal.returns
returns c = all-listed c.args.circuit c.args.channels.now c.loop-index.index (map sending_of c.args.sent.now.items) (map sending_of c.loop-index.sent.items) (omega arith) c.loop-index.invariant.listed
