use Rattle.std.proofs.Common.{◌∙◌, List, ap, filter, sym}
use Rattle.ca_arena.specs.declared.handle.Handle.{Handle}
use Rattle.ca_ids.specs.Table.{kept_of}
use Rattle.ca_requests.specs.Calls.{Issued, open_of}
use Rattle.ca_requests.specs.Requests.{is_open, was_sent_on}
use Rattle.ca_requests.proofs.Lined.{requests-handed, told-circuit}
use Rattle.ca_requests.proofs.Orders.{named-open, still-map}
use Rattle.ca_requests.proofs.Tables.{by_value, dims-freed}
use Rattle.ca_requests.proofs.requests.Requests.end_circuit.Goals as goal

pub invariant_of-self : goal.invariant_of-self
invariant_of-self c =
    requests-handed c.self.inside.table c.free_all.new.table c.self.inside.listed.items c.self.inside.circuits.items c.hand_out-told.new.lines.items c.self.inside.channels.items c.args.circuit c.free_all.ensures c.hand_out-told.ensures.hands c.self.invariant

pub returns-clause-told : goal.returns-clause-told
returns-clause-told c =
    let p = is_open (was_sent_on c.args.circuit) c.self.inside.table in
    let listed = c.self.inside.listed.items in
    c.keep_open.ensures
    ∙ ap (λ (xs : List Handle). filter p xs) c.hand_out-told.ensures.told
    ∙ told-circuit c.self.inside.table listed c.self.inside.circuits.items c.self.inside.channels.items c.args.circuit c.self.invariant
    ∙ sym (named-open (was_sent_on c.args.circuit) c.self.inside.table listed)
    ∙ ap (λ (x : Issued). open_of (was_sent_on c.args.circuit) x) c.self.view_is

pub returns-clause-freed : goal.returns-clause-freed
returns-clause-freed c =
    rw (← c.self.view_is)
    (still-map (by_value (kept_of (was_sent_on c.args.circuit))) c.self.inside.table c.free_all.new.table c.self.inside.listed.items (dims-freed (was_sent_on c.args.circuit)) c.free_all.ensures)
