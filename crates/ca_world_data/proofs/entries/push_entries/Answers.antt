use Rattle.std.proofs.Common.{◌+◌, ◌<◌, ◌≤◌, length, List, arith, Vec, Global}
use Rattle.std.specs.Prelude.{vec_capacity, vec_len}
use Rattle.ca_text.specs.Place.{At}
use Rattle.ca_world_data.specs.declared.history.LogEntry.{LogEntry}
use Rattle.ca_world_data.proofs.Entering.{entries-room, grown-entries, no-entries-room}
use Rattle.ca_world_data.proofs.Worlds.{found}
use Rattle.ca_world_data.proofs.entries.push_entries.Goals as goal

pub returns-then-life-len-clause-logged : goal.returns-then-life-len-clause-logged
returns-then-life-len-clause-logged c =
    let logs : List (Vec LogEntry Global) = c.args.logs.now.items in
    let log : Vec LogEntry Global = c.index_mut.result.now in
    let within : c.args.life < length logs = omega (arith, c.if-life-len.true, c.len.ensures) in
    let at : At logs c.args.life log = found logs c.args.life log log within c.index_mut.ensures.value in
    grown-entries logs c.args.life log c.push_all.new.log c.args.entries.items at c.push_all.ensures.items

pub returns-then-life-len-clause-room : goal.returns-then-life-len-clause-room
returns-then-life-len-clause-room c = λ n room.
    let logs : List (Vec LogEntry Global) = c.args.logs.now.items in
    let log : Vec LogEntry Global = c.index_mut.result.now in
    let within : c.args.life < length logs = omega (arith, c.if-life-len.true, c.len.ensures) in
    let at : At logs c.args.life log = found logs c.args.life log log within c.index_mut.ensures.value in
    let had : vec_len log + (n + length c.args.entries.items) ≤ vec_capacity log = room log at in
    let has : vec_len c.push_all.new.log + n ≤ vec_capacity c.push_all.new.log = omega (arith, had, c.push_all.ensures.len, c.push_all.ensures.capacity) in
    entries-room logs c.args.life n c.push_all.new.log has

pub returns-else-life-len-clause-room : goal.returns-else-life-len-clause-room
returns-else-life-len-clause-room c = λ n room.
    let logs : List (Vec LogEntry Global) = c.args.logs.now.items in
    let over : length logs ≤ c.args.life = omega (arith, c.if-life-len.false, c.len.ensures) in
    no-entries-room logs c.args.life n over
