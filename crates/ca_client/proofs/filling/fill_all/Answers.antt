use Rattle.std.proofs.Common.{List, ◌<◌, arith, length}
use Rattle.ca_board.specs.declared.ticket.Ticket.{Ticket}
use Rattle.ca_client_core.specs.Notices.{Completion, completions}
use Rattle.ca_client.proofs.Filled.{fewer, filling-due, filling-end, filling-next}
use Rattle.ca_client.proofs.filling.fill_all.Goals as goal

pub fill_one-requires-clause-due : goal.fill_one-requires-clause-due
fill_one-requires-clause-due c =
    let l = c.loop-request in
    let ts : List Ticket = c.args.tickets.now.items in
    let one : Completion = (c.in-Some.request, c.in-Some.outcome) in
    filling-due ts c.args.seat.now l.seat c.args.notices.now l.notices c.next_completed.new.self l.invariant.filling one c.in-Some.ensures

pub loop-request-smaller : goal.loop-request-smaller
loop-request-smaller c =
    let one : Completion = (c.in-Some.request, c.in-Some.outcome) in
    let e = fewer c.loop-request.notices c.next_completed.new.self one c.in-Some.ensures in
    let less : length (completions c.next_completed.new.self) < length (completions c.loop-request.notices) = omega (arith, e) in
    less

pub loop-request-preserved : goal.loop-request-preserved
loop-request-preserved c =
    let l = c.loop-request in
    let ts : List Ticket = c.args.tickets.now.items in
    let one : Completion = (c.in-Some.request, c.in-Some.outcome) in
    record {
      filling = filling-next ts c.args.seat.now l.seat c.args.notices.now l.notices c.next_completed.new.self l.invariant.filling c.fill_one.new.seat one c.in-Some.ensures c.fill_one.ensures.fills;
      same = c.fill_one.ensures.board;
    }

pub returns-clause-others : goal.returns-clause-others
returns-clause-others c =
    let l = c.loop-request in
    (filling-end c.args.tickets.now.items c.args.seat.now l.seat c.args.notices.now l.notices c.next_completed.new.self l.invariant.filling c.in_default.ensures).1
