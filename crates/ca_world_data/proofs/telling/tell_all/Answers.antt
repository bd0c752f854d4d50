use Rattle.std.proofs.Common.{◌<◌, ◌≤◌, ◌+◌, length, List, arith, Vec, Global}
use Rattle.std.specs.Prelude.{vec_capacity, vec_len}
use Rattle.ca_text.specs.Place.{At}
use Rattle.ca_world_data.specs.declared.history.Line.{Line}
use Rattle.ca_world_data.proofs.Calls.{room-none, room-set}
use Rattle.ca_world_data.proofs.Entering.{grown-lines}
use Rattle.ca_world_data.proofs.Worlds.{found}
use Rattle.ca_world_data.proofs.telling.tell_all.Goals as goal

pub returns-then-life-len-clause-told : goal.returns-then-life-len-clause-told
returns-then-life-len-clause-told c =
    let logs : List (Vec Line Global) = c.args.logs.now.items in
    let log : Vec Line Global = c.index_mut.result.now in
    let within : c.args.life < length logs = omega (arith, c.if-life-len.true, c.len.ensures) in
    let at : At logs c.args.life log = found logs c.args.life log log within c.index_mut.ensures.value in
    grown-lines logs c.args.life log c.tell_in.new.log _ at c.tell_in.ensures.told

pub returns-then-life-len-clause-room : goal.returns-then-life-len-clause-room
returns-then-life-len-clause-room c n room =
    let logs : List (Vec Line Global) = c.args.logs.now.items in
    let log : Vec Line Global = c.index_mut.result.now in
    let within : c.args.life < length logs = omega (arith, c.if-life-len.true, c.len.ensures) in
    let at : At logs c.args.life log = found logs c.args.life log log within c.index_mut.ensures.value in
    let was : vec_len log + (length c.args.notices + n) ≤ vec_capacity log = room log at in
    room-set logs c.args.life n c.tell_in.new.log (omega (arith, was, c.tell_in.ensures.len, c.tell_in.ensures.capacity))

pub returns-else-life-len-clause-room : goal.returns-else-life-len-clause-room
returns-else-life-len-clause-room c n room =
    let over : length c.args.logs.now.items ≤ c.args.life = omega (arith, c.if-life-len.false, c.len.ensures) in
    room-none c.args.logs.now.items c.args.life n over
