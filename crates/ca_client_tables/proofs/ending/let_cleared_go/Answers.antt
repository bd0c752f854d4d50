use Rattle.std.proofs.Common.{arith, refl}
use Rattle.ca_model.specs.Client.{is_cleared}
use Rattle.ca_client_tables.specs.Ending.{gone, gone_at, sought}
use Rattle.ca_client_tables.specs.OnCircuits.{indices_of}
use Rattle.ca_client_tables.proofs.ByCircuit.{all-left, gone-only, gone-twice, next-left, none-left}
use Rattle.ca_client_tables.proofs.ending.let_cleared_go.Goals as goal

pub loop-place-init : goal.loop-place-init
loop-place-init c = record {
  left =
      all-left gone is_cleared (gone_at c.args.circuit) c.args.circuit (sought c.args.channels.now c.args.searches.now.entries) (indices_of c.args.on) refl (gone-only c.args.circuit) c.requires.on;
  client = c.requires.client;
}

pub let_go_at-requires : goal.let_go_at-requires
let_go_at-requires c = c.loop-place.invariant.client

pub loop-place-preserved : goal.loop-place-preserved
loop-place-preserved c = record {
  left =
      next-left gone is_cleared (gone_at c.args.circuit) c.args.circuit (sought c.args.channels.now c.args.searches.now.entries) (sought c.loop-place.channels c.loop-place.searches.entries) (sought c.let_go_at.new.channels c.let_go_at.new.searches.entries) (indices_of c.args.on) c.loop-place.place c.at.result (gone-twice c.args.circuit) refl (omega arith) c.at.ensures c.let_go_at.ensures.steps c.loop-place.invariant.left;
  client = c.let_go_at.ensures.client;
}

pub returns-clause-steps : goal.returns-clause-steps
returns-clause-steps c =
    none-left gone is_cleared (gone_at c.args.circuit) c.args.circuit (sought c.args.channels.now c.args.searches.now.entries) (sought c.loop-place.channels c.loop-place.searches.entries) (indices_of c.args.on) c.loop-place.place (omega arith) c.loop-place.invariant.left

pub returns-clause-client : goal.returns-clause-client
returns-clause-client c = c.loop-place.invariant.client
