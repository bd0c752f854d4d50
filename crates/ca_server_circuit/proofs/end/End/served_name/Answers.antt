use Rattle.std.proofs.Common.{sym}
use Rattle.ca_server_circuit.proofs.Peeked.{found-sid, no-sid, retired-sid}
use Rattle.ca_server_circuit.proofs.end.End.served_name.Goals as goal

pub returns-in_default : goal.returns-in_default
returns-in_default c =
    rw (← c.self.view_is) (λ x there is stays. no-sid c.self.inside.channels c.args.sid c.by_sid.ensures.limit (c.in_default.ensures.found) x there is stays)

pub returns-then-is_retired : goal.returns-then-is_retired
returns-then-is_retired c =
    rw (← c.self.view_is) (λ x there is stays. retired-sid c.self.inside.channels c.args.sid c.by_sid.ensures.limit (c.in-Some.field-0-0, c.in-Some.channel.now) (c.in-Some.ensures.found) (sym c.if-is_retired.ensures) x there is stays)

pub returns : goal.returns
returns c =
    rw (← c.self.view_is) (
    let found = found-sid c.self.inside.channels c.args.sid c.by_sid.ensures.limit (c.in-Some.field-0-0, c.in-Some.channel.now) c.name.result.now (c.in-Some.ensures.found) c.name.ensures (sym c.if-is_retired.ensures) in
    (found.0, found.1)
    )
