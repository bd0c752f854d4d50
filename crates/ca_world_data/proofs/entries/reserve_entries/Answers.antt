use Rattle.std.proofs.Common.{◌≢◌, ◌+◌, ◌<◌, ◌≤◌, length, List, arith, Vec, Global}
use Rattle.std.specs.Prelude.{vec_capacity, vec_len}
use Rattle.ca_text.specs.Place.{At}
use Rattle.ca_world_data.specs.declared.history.LogEntry.{LogEntry}
use Rattle.ca_world_data.proofs.Entering.{entries-room, no-entries-room, same-entries}
use Rattle.ca_world_data.proofs.Withdrawals.{on-err}
use Rattle.ca_world_data.proofs.Worlds.{found}
use Rattle.ca_world_data.proofs.entries.reserve_entries.Goals as goal

pub returns-in_err-reserve-clause-same : goal.returns-in_err-reserve-clause-same
returns-in_err-reserve-clause-same c =
    let logs : List (Vec LogEntry Global) = c.args.logs.now.items in
    let log : Vec LogEntry Global = c.index_mut.result.now in
    let within : c.args.life < length logs = omega (arith, c.if-life-len.true, c.len.ensures) in
    let at : At logs c.args.life log = found logs c.args.life log log within c.index_mut.ensures.value in
    same-entries logs c.args.life log c.reserve.new.self at c.reserve.ensures.items

pub returns-in_err-reserve-clause-lacks : goal.returns-in_err-reserve-clause-lacks
returns-in_err-reserve-clause-lacks c =
    let log : Vec LogEntry Global = c.index_mut.result.now in
    let some : c.args.entries ≢ 0 = λ none. omega (arith, none, c.in_err-reserve.ensures.full, log.ok.1) in
    on-err c.from_residual.result some

pub returns-in_ok-reserve-clause-same : goal.returns-in_ok-reserve-clause-same
returns-in_ok-reserve-clause-same c =
    let logs : List (Vec LogEntry Global) = c.args.logs.now.items in
    let log : Vec LogEntry Global = c.index_mut.result.now in
    let within : c.args.life < length logs = omega (arith, c.if-life-len.true, c.len.ensures) in
    let at : At logs c.args.life log = found logs c.args.life log log within c.index_mut.ensures.value in
    same-entries logs c.args.life log c.reserve.new.self at c.reserve.ensures.items

pub returns-in_ok-reserve-clause-room : goal.returns-in_ok-reserve-clause-room
returns-in_ok-reserve-clause-room c =
    let logs : List (Vec LogEntry Global) = c.args.logs.now.items in
    let room : vec_len c.reserve.new.self + c.args.entries ≤ vec_capacity c.reserve.new.self = omega (arith, c.in_ok-reserve.ensures.ok, c.in_ok-reserve.ensures.len) in
    entries-room logs c.args.life c.args.entries c.reserve.new.self room

pub returns-else-life-len-clause-room : goal.returns-else-life-len-clause-room
returns-else-life-len-clause-room c =
    let logs : List (Vec LogEntry Global) = c.args.logs.now.items in
    let over : length logs ≤ c.args.life = omega (arith, c.if-life-len.false, c.len.ensures) in
    no-entries-room logs c.args.life c.args.entries over
