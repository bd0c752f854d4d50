use Rattle.std.proofs.Common.{sym}
use Rattle.ca_server_core.proofs.GoneThrough.{shows-in}
use Rattle.ca_server_core.proofs.through.show_on.Goals as goal

pub returns-clause-shown : goal.returns-clause-shown
returns-clause-shown c = λ yes.
    let did = c.if-not-show_at_once.false in
    shows-in c.args.place c.args.circuit c.args.circuits.now c.args.records.now c.in-Some.found.now c.show_at_once.new.self (sym c.in-Some.ensures.value) (c.show_at_once.ensures.watches did) (c.show_at_once.ensures.shown did) (c.show_at_once.ensures.opens did)
