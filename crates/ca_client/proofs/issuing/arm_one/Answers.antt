use Rattle.std.proofs.Common.{◌∙◌, ap, subst}
use Rattle.ca_board.specs.Views.{CoreView}
use Rattle.ca_client.specs.Calls.{RecyclesEach}
use Rattle.ca_client.proofs.Tickets.{armed_on, only_each}
use Rattle.ca_client.proofs.issuing.arm_one.Goals as goal

pub arm-requires-in-Err : goal.arm-requires-in-Err
arm-requires-in-Err c =
    (only_each c.arm.new.core c.recycle_all.new.seat c.recycle_all.ensures).0 ∙ ap (λ (v : CoreView). v.board) c.in-Err.ensures.1 ∙ c.requires

pub returns-in-Err : goal.returns-in-Err
returns-in-Err c =
    armed_on c.args.seat.now c.recycle_all.new.seat c.arm-in-Err.new.core c.arm-in-Err.result c.in-Err.ensures.2
    (subst (λ (v : CoreView). RecyclesEach v c.recycle_all.new.seat) c.in-Err.ensures.1 c.recycle_all.ensures) c.arm-in-Err.ensures
