use Rattle.std.proofs.Common.{ℕ, ◌<◌, [], List, inl, inr, length, refl, arith}
use Rattle.ca_text.specs.Place.{At}
use Rattle.ca_text.proofs.Places.{At-within}
use Rattle.ca_world.specs.Waiting.{joined_alone}
use Rattle.ca_world_data.specs.declared.client.ClientSide.{ClientSide}
use Rattle.ca_world_data.specs.declared.joined.Joined.{Joined}
use Rattle.ca_world_data.specs.declared.server.ServerSide.{ServerSide}
use Rattle.ca_world_data.proofs.Worlds.{ends-client, ends-here, ends-server, found, no-ends-here}
use Rattle.ca_world.proofs.Waits.{none-waits, waited-down, waited-up}
use Rattle.ca_world.proofs.circuits.count.Goals as goal

pub returns-in_default : goal.returns-in_default
returns-in_default c =
    let cs : List ClientSide = c.args.clients.now.items in
    let ss : List ServerSide = c.args.servers.now.items in
    let ks : List Joined = c.args.circuits.now.items in
    let k : ℕ = c.args.circuit in
    let none = no-ends-here cs ss ks c.deref.result.now c.deref-2.result.now c.deref-3.result.now k c.deref.ensures.value c.deref-2.ensures.value c.deref-3.ensures.value c.in_default.ensures in
    inr (none-waits cs ss ks [] [] 0 k none, refl)

pub index-joined-requires : goal.index-joined-requires
index-joined-requires c =
    let cs : List ClientSide = c.args.clients.now.items in
    let ss : List ServerSide = c.args.servers.now.items in
    let ks : List Joined = c.args.circuits.now.items in
    let k : ℕ = c.args.circuit in
    let a = ends-here cs ss ks c.deref.result.now c.deref-2.result.now c.deref-3.result.now k c.in-Some.ends c.deref.ensures.value c.deref-2.ensures.value c.deref-3.ensures.value c.in-Some.ensures in
    let within : k < length ks = At-within ks k a.j a.at in
    omega (arith, within)

pub returns-in-Up : goal.returns-in-Up
returns-in-Up c =
    let cs : List ClientSide = c.args.clients.now.items in
    let ss : List ServerSide = c.args.servers.now.items in
    let ks : List Joined = c.args.circuits.now.items in
    let k : ℕ = c.args.circuit in
    let a = ends-here cs ss ks c.deref.result.now c.deref-2.result.now c.deref-3.result.now k c.in-Some.ends c.deref.ensures.value c.deref-2.ensures.value c.deref-3.ensures.value c.in-Some.ensures in
    let j : Joined = c.index-joined.result.now in
    let within : k < length ks = At-within ks k a.j a.at in
    let at : At ks k j = found ks k j j within c.index-joined.ensures in
    let x : ClientSide = c.index.result.now in
    let client : At cs c.in-Some.ends.client x = found cs c.in-Some.ends.client x x (ends-client (length cs) (length ss) ks k c.in-Some.ends a) c.index.ensures in
    inl (waited-up cs ss ks [] [] 0 k c.in-Some.ends a (joined_alone cs ss ks) c.args.way refl c.in-Up.is j x c.count_up.result at client c.count_up.ensures)

pub returns-in-Down : goal.returns-in-Down
returns-in-Down c =
    let cs : List ClientSide = c.args.clients.now.items in
    let ss : List ServerSide = c.args.servers.now.items in
    let ks : List Joined = c.args.circuits.now.items in
    let k : ℕ = c.args.circuit in
    let a = ends-here cs ss ks c.deref.result.now c.deref-2.result.now c.deref-3.result.now k c.in-Some.ends c.deref.ensures.value c.deref-2.ensures.value c.deref-3.ensures.value c.in-Some.ensures in
    let j : Joined = c.index-joined.result.now in
    let within : k < length ks = At-within ks k a.j a.at in
    let at : At ks k j = found ks k j j within c.index-joined.ensures in
    let y : ServerSide = c.index-in-Down.result.now in
    let server : At ss c.in-Some.ends.server y = found ss c.in-Some.ends.server y y (ends-server (length cs) (length ss) ks k c.in-Some.ends a) c.index-in-Down.ensures in
    inl (waited-down cs ss ks [] [] 0 k c.in-Some.ends a (joined_alone cs ss ks) c.args.way refl c.in-Down.is j y c.count_down.result at server c.count_down.ensures)
