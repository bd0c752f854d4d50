use Rattle.std.proofs.Common.{◌∙◌, ℕ, ◌<◌, List, arith, length, map, sym, subst}
use Rattle.ca_text.specs.Place.{At}
use Rattle.ca_model.specs.World.{Joined}
use Rattle.ca_world_data.specs.declared.client.ClientSide.{ClientSide}
use Rattle.ca_world_data.specs.Indexed.{AreIndexed}
use Rattle.ca_world_data.specs.Logs.{lines_in}
use Rattle.ca_world_data.specs.Seen.{joined_of}
use Rattle.ca_world_data.proofs.Indexes.{numbers-set}
use Rattle.ca_world_data.proofs.Worlds.{found}
use Rattle.ca_world.proofs.Moments.{far-all, far-few, far-next, far-none, far-stopped}
use Rattle.ca_world.proofs.tick.tick_all.Goals as goal

pub loop-client-init : goal.loop-client-init
loop-client-init c = record {
  far = far-none c.args.moment c.args.clients.now.items (lines_in c.args.logs.now.items) (map joined_of c.args.circuits.now.items) c.requires.numbered;
}

pub index_mut-requires : goal.index_mut-requires
index_mut-requires c = omega (arith, c.loop-client-test.true, c.len-client-end.ensures, c.loop-client.invariant.far.many)

pub tick_client-requires-clause-numbered : goal.tick_client-requires-clause-numbered
tick_client-requires-clause-numbered c =
    let now : List ClientSide = c.loop-client.clients.items in
    let n : ℕ = c.loop-client.client in
    let x : ClientSide = c.index_mut.result.now in
    let within : n < length now = omega (arith, c.loop-client-test.true, c.len-client-end.ensures, c.loop-client.invariant.far.many) in
    let at : At now n x = found now n x x within c.index_mut.ensures.value in
    c.loop-client.invariant.far.numbered n x at

pub tick_client-requires-clause-few : goal.tick_client-requires-clause-few
tick_client-requires-clause-few c =
    let now : List ClientSide = c.loop-client.clients.items in
    let n : ℕ = c.loop-client.client in
    let x : ClientSide = c.index_mut.result.now in
    let within : n < length now = omega (arith, c.loop-client-test.true, c.len-client-end.ensures, c.loop-client.invariant.far.many) in
    let at : At now n x = found now n x x within c.index_mut.ensures.value in
    far-few c.args.moment n c.args.clients.now.items now (lines_in c.args.logs.now.items) (lines_in c.loop-client.logs.items) (map joined_of c.args.circuits.now.items) (map joined_of c.loop-client.circuits.items) x c.loop-client.invariant.far at c.requires.few

pub loop-client-preserved : goal.loop-client-preserved
loop-client-preserved c =
    let now : List ClientSide = c.loop-client.clients.items in
    let n : ℕ = c.loop-client.client in
    let x : ClientSide = c.index_mut.result.now in
    let within : n < length now = omega (arith, c.loop-client-test.true, c.len-client-end.ensures, c.loop-client.invariant.far.many) in
    let at : At now n x = found now n x x within c.index_mut.ensures.value in
    record {
      far = far-next c.args.moment n c.args.clients.now.items now (lines_in c.args.logs.now.items) (lines_in c.loop-client.logs.items) (lines_in c.tick_client.new.logs.items)
          (map joined_of c.args.circuits.now.items) (map joined_of c.loop-client.circuits.items) (map joined_of c.tick_client.new.circuits.items)
          x c.tick_client.new.side tt c.loop-client.invariant.far at c.in_ok-tick_client.ensures.ticks c.in_ok-tick_client.ensures.kept;
    }

pub returns-in_err-tick_client-clause-ticks : goal.returns-in_err-tick_client-clause-ticks
returns-in_err-tick_client-clause-ticks c =
    let now : List ClientSide = c.loop-client.clients.items in
    let n : ℕ = c.loop-client.client in
    let x : ClientSide = c.index_mut.result.now in
    let within : n < length now = omega (arith, c.loop-client-test.true, c.len-client-end.ensures, c.loop-client.invariant.far.many) in
    let at : At now n x = found now n x x within c.index_mut.ensures.value in
    far-stopped c.args.moment n c.args.clients.now.items now (lines_in c.args.logs.now.items) (lines_in c.loop-client.logs.items) (lines_in c.tick_client.new.logs.items)
    (map joined_of c.args.circuits.now.items) (map joined_of c.loop-client.circuits.items) (map joined_of c.tick_client.new.circuits.items)
    x c.tick_client.new.side _ c.from_residual.result c.from_residual.ensures.0 c.loop-client.invariant.far at c.in_err-tick_client.ensures.ticks

pub returns-in_err-tick_client-clause-numbers : goal.returns-in_err-tick_client-clause-numbers
returns-in_err-tick_client-clause-numbers c =
    let now : List ClientSide = c.loop-client.clients.items in
    let n : ℕ = c.loop-client.client in
    let x : ClientSide = c.index_mut.result.now in
    let within : n < length now = omega (arith, c.loop-client-test.true, c.len-client-end.ensures, c.loop-client.invariant.far.many) in
    let at : At now n x = found now n x x within c.index_mut.ensures.value in
    numbers-set (λ (z : ClientSide). z.circuits.items) now n x c.tick_client.new.side at c.in_err-tick_client.ensures.kept ∙ c.loop-client.invariant.far.numbers

pub returns-in_err-tick_client-clause-indexed : goal.returns-in_err-tick_client-clause-indexed
returns-in_err-tick_client-clause-indexed c cs ss h =
    subst (λ (z : List Joined). AreIndexed cs ss z) (sym c.in_err-tick_client.ensures.ticks.3) (c.loop-client.invariant.far.indexed cs ss h)

pub returns-clause-ticks : goal.returns-clause-ticks
returns-clause-ticks c =
    far-all c.args.moment c.loop-client.client c.args.clients.now.items c.loop-client.clients.items (lines_in c.args.logs.now.items) (lines_in c.loop-client.logs.items) (map joined_of c.args.circuits.now.items) (map joined_of c.loop-client.circuits.items) tt
    c.loop-client.invariant.far (omega (arith, c.loop-client-test.false, c.len-client-end.ensures))

pub returns-clause-numbers : goal.returns-clause-numbers
returns-clause-numbers c = c.loop-client.invariant.far.numbers

pub returns-clause-indexed : goal.returns-clause-indexed
returns-clause-indexed c = c.loop-client.invariant.far.indexed
