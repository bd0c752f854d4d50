use Rattle.std.proofs.Common.{arith, refl}
use Rattle.ca_client_tables.specs.Ending.{again, back_at, is_kept, sought}
use Rattle.ca_client_tables.specs.OnCircuits.{indices_of}
use Rattle.ca_client_tables.proofs.ByCircuit.{all-left, back-only, back-twice, next-left, none-left}
use Rattle.ca_client_tables.proofs.ending.search_again.Goals as goal

pub loop-place-init : goal.loop-place-init
loop-place-init c = record {
  left =
      all-left (again c.args.moment) is_kept (back_at c.args.circuit) c.args.circuit (sought c.args.channels.now c.args.searches.now.entries) (indices_of c.args.on) refl (back-only c.args.circuit) c.requires.on;
  client = c.requires.client;
}

pub search_again_at-requires : goal.search_again_at-requires
search_again_at-requires c = c.loop-place.invariant.client

pub loop-place-preserved : goal.loop-place-preserved
loop-place-preserved c = record {
  left =
      next-left (again c.args.moment) is_kept (back_at c.args.circuit) c.args.circuit (sought c.args.channels.now c.args.searches.now.entries) (sought c.loop-place.channels c.loop-place.searches.entries) (sought c.search_again_at.new.channels c.search_again_at.new.searches.entries) (indices_of c.args.on) c.loop-place.place c.at.result (back-twice c.args.circuit) refl (omega arith) c.at.ensures c.search_again_at.ensures.steps c.loop-place.invariant.left;
  client = c.search_again_at.ensures.client;
}

pub returns-clause-steps : goal.returns-clause-steps
returns-clause-steps c =
    none-left (again c.args.moment) is_kept (back_at c.args.circuit) c.args.circuit (sought c.args.channels.now c.args.searches.now.entries) (sought c.loop-place.channels c.loop-place.searches.entries) (indices_of c.args.on) c.loop-place.place (omega arith) c.loop-place.invariant.left

pub returns-clause-client : goal.returns-clause-client
returns-clause-client c = c.loop-place.invariant.client
