use Rattle.std.proofs.Common.{◌≤◌, List, Ok, map, refl, ap, subst, arith}
use Rattle.ca_model.specs.History.{Line}
use Rattle.ca_model.specs.Events.{Tick}
use Rattle.ca_model.specs.Runs.{Happens, TicksBefore}
use Rattle.ca_model.specs.World.{Joined, World}
use Rattle.ca_world_data.specs.declared.client.ClientSide.{ClientSide}
use Rattle.ca_world_data.specs.declared.server.ServerSide.{ServerSide}
use Rattle.ca_world_data.specs.Indexed.{client_numbers, server_numbers}
use Rattle.ca_world_data.specs.Logs.{lines_in}
use Rattle.ca_world_data.specs.Opening.{entries_in}
use Rattle.ca_world_data.specs.Seen.{client_of, joined_of, server_of}
use Rattle.ca_world_data.proofs.Indexes.{indexed-same}
use Rattle.ca_world.specs.Ticking.{world_with}
use Rattle.ca_world.specs.Whole.{seen}
use Rattle.ca_world.proofs.Lasting.{all-stand}
use Rattle.ca_world.proofs.Moments.{all-numbered, all-tell-few, has-stopped, ticks-part, ticks-whole}
use Rattle.ca_world.proofs.world.World.tick.Goals as goal

pub tick_all-requires-clause-numbered : goal.tick_all-requires-clause-numbered
tick_all-requires-clause-numbered c =
    let w = c.self.inside in
    all-numbered w.clients.items (server_numbers w.servers.items) (map joined_of w.circuits.items) c.self.invariant.indexed

pub tick_all-requires-clause-few : goal.tick_all-requires-clause-few
tick_all-requires-clause-few c = all-tell-few c.args.moment (seen c.self.inside) c.self.invariant.reached c.self.invariant.quiet

pub returns-then-moment-self : goal.returns-then-moment-self
returns-then-moment-self c =
    let w = c.self.inside in
    (λ le. omega (arith, c.if-moment-self.true, le, ap (λ (v : World). v.moment) c.self.view_is), refl)

pub returns-in-Ok : goal.returns-in-Ok
returns-in-Ok c =
    let w = c.self.inside in
    let le : w.moment ≤ c.args.moment = omega (arith, c.if-moment-self.false) in
    let cs : List ClientSide = c.tick_all.new.clients.items in
    let ks : List Joined = map joined_of c.tick_all.new.circuits.items in
    let cl : List (List Line) = lines_in c.tick_all.new.logs.items in
    subst (λ (v : World). Happens v (Tick c.args.moment) (world_with (map client_of cs) (map server_of w.servers.items) ks cl (entries_in w.server_logs.items) c.args.moment)) c.self.view_is
    (ticks-whole c.args.moment (seen w) (map client_of cs) cl ks tt le c.in-Ok.ensures.ticks)

pub returns-in-Err : goal.returns-in-Err
returns-in-Err c =
    let w = c.self.inside in
    let le : w.moment ≤ c.args.moment = omega (arith, c.if-moment-self.false) in
    let cs : List ClientSide = c.tick_all.new.clients.items in
    let ks : List Joined = map joined_of c.tick_all.new.circuits.items in
    let cl : List (List Line) = lines_in c.tick_all.new.logs.items in
    subst (λ (v : World). TicksBefore c.args.moment v (world_with (map client_of cs) (map server_of w.servers.items) ks cl (entries_in w.server_logs.items) w.moment)) c.self.view_is
    (ticks-part c.args.moment (seen w) (map client_of cs) cl ks _ le c.in-Err.ensures.ticks)

pub invariant_of-result : goal.invariant_of-result
invariant_of-result c =
    let w = c.self.inside in
    let le : w.moment ≤ c.args.moment = omega (arith, c.if-moment-self.false) in
    let cs : List ClientSide = c.tick_all.new.clients.items in
    let ss : List ServerSide = w.servers.items in
    let ks : List Joined = map joined_of c.tick_all.new.circuits.items in
    let cl : List (List Line) = lines_in c.tick_all.new.logs.items in
    all-stand w _ (Tick c.args.moment) tt (Ok tt) (ticks-whole c.args.moment (seen w) (map client_of cs) cl ks tt le c.in-Ok.ensures.ticks) c.self.invariant
    (indexed-same (client_numbers w.clients.items) (client_numbers cs) (server_numbers ss) (server_numbers ss) ks ks c.tick_all.ensures.numbers refl refl
    (c.tick_all.ensures.indexed (client_numbers w.clients.items) (server_numbers ss) c.self.invariant.indexed))

pub invariant_of-result-in-Err : goal.invariant_of-result-in-Err
invariant_of-result-in-Err c =
    let w = c.self.inside in
    let le : w.moment ≤ c.args.moment = omega (arith, c.if-moment-self.false) in
    let cs : List ClientSide = c.tick_all.new.clients.items in
    let ks : List Joined = map joined_of c.tick_all.new.circuits.items in
    let cl : List (List Line) = lines_in c.tick_all.new.logs.items in
    has-stopped c.args.moment (seen w) (world_with (map client_of cs) (map server_of w.servers.items) ks cl (entries_in w.server_logs.items) w.moment) c.self.invariant.came_about
    (ticks-part c.args.moment (seen w) (map client_of cs) cl ks _ le c.in-Err.ensures.ticks)
