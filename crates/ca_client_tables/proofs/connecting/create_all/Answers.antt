use Rattle.std.proofs.Common.{arith}
use Rattle.ca_client_tables.specs.OnCircuits.{indices_of}
use Rattle.ca_client_tables.proofs.OnLists.{created-first, created-last, created-more}
use Rattle.ca_client_tables.proofs.connecting.create_all.Goals as goal

pub loop-place-init : goal.loop-place-init
loop-place-init c = created-first c.args.circuit c.args.channels.now (indices_of c.on-on.result) c.args.link.now c.on-on.ensures

pub loop-place-preserved : goal.loop-place-preserved
loop-place-preserved c =
    created-more c.args.circuit c.args.channels.now (indices_of c.on-on.result) c.loop-place.place c.at.result c.args.link.now c.loop-place.link c.create_at.new.link (omega arith) c.at.ensures c.loop-place.invariant c.in_ok-create_at.ensures

pub returns : goal.returns
returns c =
    created-last c.args.circuit c.args.channels.now (indices_of c.on-on.result) c.loop-place.place c.args.link.now c.loop-place.link (omega arith) c.loop-place.invariant
