use Rattle.std.proofs.Common.{sym, subst, List}
use Rattle.ca_board.specs.declared.ticket.Ticket.{Ticket}
use Rattle.ca_board.specs.Views.{IsDue}
use Rattle.ca_client.proofs.Tickets.{ticket_at}
use Rattle.ca_client.proofs.filling.fill_one.Goals as goal

pub fill-requires-clause-due : goal.fill-requires-clause-due
fill-requires-clause-due c =
    let ts : List Ticket = c.args.tickets.now.items in
    let read = rw c.from.ensures at c.index-ticket.ensures in
    subst (λ (t : Ticket). IsDue c.args.seat.now t) (sym (ticket_at ts c.args.request.index c.index-ticket.result.now c.requires.due.0 read)) c.requires.due.1
