use Rattle.std.proofs.Common.{ℕ, ◌<◌, length, List, arith, subst}
use Rattle.ca_text.specs.Place.{At}
use Rattle.ca_text.proofs.Places.{At-map}
use Rattle.ca_model.specs.Events.{GiveUp}
use Rattle.ca_model.specs.World.{World}
use Rattle.ca_world_data.specs.declared.client.ClientSide.{ClientSide}
use Rattle.ca_world_data.specs.Does.{Does}
use Rattle.ca_world_data.specs.Logs.{lines_in}
use Rattle.ca_world_data.specs.Seen.{client_of}
use Rattle.ca_world_data.proofs.Worlds.{found}
use Rattle.ca_world.specs.Whole.{seen}
use Rattle.ca_world.proofs.Collecting.{gives-up, logged_in}
use Rattle.ca_world.proofs.Lasting.{all-stand}
use Rattle.ca_world.proofs.world.World.give_up.Goals as goal

pub returns : goal.returns
returns c =
    let w = c.self.inside in
    let k : ℕ = c.args.client in
    let cs : List ClientSide = w.clients.items in
    let x : ClientSide = c.index.result.now in
    let within : k < length cs = omega (arith, c.if-client-len.false, c.len.ensures) in
    let at : At cs k x = found cs k x x within c.index.ensures in
    let logs = lines_in c.give_up_from.new.logs.items in
    subst (λ (z : World). Does z (GiveUp k c.args.request) c.give_up_from.result (logged_in logs (seen w))) c.self.view_is
    (gives-up (seen w) k c.args.request (client_of x) logs c.give_up_from.result (At-map client_of cs k x at) c.give_up_from.ensures)

pub invariant_of-self : goal.invariant_of-self
invariant_of-self c =
    let w = c.self.inside in
    let k : ℕ = c.args.client in
    let cs : List ClientSide = w.clients.items in
    let x : ClientSide = c.index.result.now in
    let within : k < length cs = omega (arith, c.if-client-len.false, c.len.ensures) in
    let at : At cs k x = found cs k x x within c.index.ensures in
    let logs = lines_in c.give_up_from.new.logs.items in
    all-stand w _ (GiveUp k c.args.request) tt c.give_up_from.result
    (gives-up (seen w) k c.args.request (client_of x) logs c.give_up_from.result (At-map client_of cs k x at) c.give_up_from.ensures)
    c.self.invariant c.self.invariant.indexed
