use Rattle.std.proofs.Common.{◌<◌, length, List, arith, subst}
use Rattle.std.specs.Prelude.{map}
use Rattle.ca_arena.specs.declared.handle.Handle.{Handle}
use Rattle.ca_text.specs.Place.{At}
use Rattle.ca_world_data.specs.declared.client.ClientSide.{ClientSide}
use Rattle.ca_world_data.specs.declared.joined.Joined.{Joined}
use Rattle.ca_world_data.specs.Seen.{joined_of}
use Rattle.ca_world_data.specs.Speaking.{IsWay}
use Rattle.ca_world_data.proofs.Rooms.{ready}
use Rattle.ca_world_data.proofs.Worlds.{found}
use Rattle.ca_world_data.proofs.way.prepare.Goals as goal

pub returns-clause-ready : goal.returns-clause-ready
returns-clause-ready c =
    let x : ClientSide = c.args.side.now in
    let hs : List Handle = x.names.channels.items in
    let h : Handle = c.index-handle.result.now in
    let within : c.args.channel < length hs = omega (arith, c.if-channel-len.false, c.len.ensures) in
    let at : At hs c.args.channel h = found hs c.args.channel h h within c.index-handle.ensures in
    ready c.args.client c.args.channel x c.reserve_names.new.side c.args.circuits.now.items c.reserve_sent.new.circuits.items c.reserve_lines.new.logs.items h c.way_of-way.result
    c.reserve_names.ensures.side c.reserve_names.ensures.numbers c.reserve_sent.ensures.same at
    (subst (λ (z : List Joined). IsWay x.core (map joined_of z) c.args.client h c.way_of-way.result) c.deref.ensures.value c.way_of-way.ensures.way)
    c.requires c.in_ok-reserve_lines.ensures.room c.in_ok-reserve_sent.ensures.room c.in_ok-reserve_names.ensures.requests c.in_ok-reserve_names.ensures.subscriptions
