use Rattle.std.proofs.Common.{◌+◌, ◌≤◌, arith}
use Rattle.std.specs.Prelude.{Vec, vec_capacity, vec_len}
use Rattle.std.specs.declared.alloc.Global.{Global}
use Rattle.ca_world_data.specs.declared.joined.CreatedChannel.{CreatedChannel}
use Rattle.ca_world_data.specs.declared.joined.Joined.{Joined}
use Rattle.ca_world_data.proofs.Steppings.{on-ok}
use Rattle.ca_world_servers.specs.Handling.{FirstIsRoomy, HasRoomToBegin}
use Rattle.ca_world_servers.proofs.handling.reserve_begin.Goals as goal

pub returns-then-command-number-clause-room : goal.returns-then-command-number-clause-room
returns-then-command-number-clause-room c =
    let list : Vec CreatedChannel Global = c.reserve.new.self in
    let new : Joined = record c.args.joined.now { creations = list } in
    on-ok (vec_len list + 1 ≤ vec_capacity list) (HasRoomToBegin c.args.command new) c.reserve.result
    (λ room. record { channel = λ is. room; subscription = λ is. absurd (omega (arith, c.if-command-number.true, c.number.ensures, is)) }) c.reserve.ensures.ok

pub returns-then-command-number-2-clause-room : goal.returns-then-command-number-2-clause-room
returns-then-command-number-2-clause-room c =
    let new : Joined = record c.args.joined.now { standing = c.reserve-then-command-number-2.new.self; queues = c.reserve_first.new.queues } in
    on-ok (FirstIsRoomy new.queues.items) (HasRoomToBegin c.args.command new) c.reserve_first.result
    (λ roomy. record {
      channel = λ is. absurd (omega (arith, c.if-command-number-2.true, c.number-2.ensures, is));
      subscription = λ is. record { standing = c.in_ok-reserve.ensures.ok; queue = roomy };
    }) c.reserve_first.ensures.roomy

pub returns-clause-room : goal.returns-clause-room
returns-clause-room c = record {
  channel = λ is. absurd (omega (arith, c.if-command-number.false, c.number.ensures, is));
  subscription = λ is. absurd (omega (arith, c.if-command-number-2.false, c.number-2.ensures, is));
}
