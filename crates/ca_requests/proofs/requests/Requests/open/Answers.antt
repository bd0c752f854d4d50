use Rattle.std.proofs.Common.{◌≡◌, ◌++◌, ◌∷◌, [], ◌∙◌, List, Ok, ap, refl, subst, sym}
use Rattle.ca_arena.specs.declared.handle.Handle.{Handle}
use Rattle.ca_requests.specs.Calls.{Issued, Issues, new_request}
use Rattle.ca_requests.specs.Forms.{asked_of}
use Rattle.ca_ids.specs.Table.{Table}
use Rattle.ca_requests.specs.Layout.{issued_of}
use Rattle.ca_requests.specs.Lines.{AreRequests, line_at}
use Rattle.ca_requests.specs.Requests.{Request}
use Rattle.ca_requests.proofs.Lined.{channel-may, circuit-may, readies-same, requests-issued, requests-readied}
use Rattle.ca_requests.proofs.Orders.{issues}
use Rattle.ca_requests.proofs.requests.Requests.open.Goals as goal

pub prepare-requires : goal.prepare-requires
prepare-requires c =
    let i = c.self.inside in
    circuit-may c.args.self.now i.table i.listed.items i.circuits.items i.channels.items c.args.channel c.args.circuit (c.self.view_is ∙ c.tidy.ensures) c.requires c.self.invariant

pub prepare-requires-2 : goal.prepare-requires-2
prepare-requires-2 c =
    let i = c.self.inside in
    channel-may c.args.self.now i.table i.listed.items i.circuits.items i.channels.items c.args.channel c.args.circuit (c.self.view_is ∙ c.tidy.ensures) c.requires c.self.invariant

pub invariant_of-self : goal.invariant_of-self
invariant_of-self c =
    let i = c.self.inside in
    requests-readied i.table i.listed.items i.circuits.items c.prepare.new.lines.items i.channels.items i.channels.items c.prepare.ensures.readies (λ k. readies-same i.table (line_at i.channels.items k)) c.self.invariant

pub invariant_of-self-in_err-prepare-2 : goal.invariant_of-self-in_err-prepare-2
invariant_of-self-in_err-prepare-2 c =
    let i = c.self.inside in
    requests-readied i.table i.listed.items i.circuits.items c.prepare.new.lines.items i.channels.items c.prepare-2.new.lines.items c.prepare.ensures.readies c.prepare-2.ensures.readies c.self.invariant

pub invariant_of-self-in_err-reserve : goal.invariant_of-self-in_err-reserve
invariant_of-self-in_err-reserve c =
    let i = c.self.inside in
    subst (λ (xs : List Handle). AreRequests i.table xs c.prepare.new.lines.items c.prepare-2.new.lines.items) (sym c.reserve.ensures.items)
    (requests-readied i.table i.listed.items i.circuits.items c.prepare.new.lines.items i.channels.items c.prepare-2.new.lines.items c.prepare.ensures.readies c.prepare-2.ensures.readies c.self.invariant)

pub invariant_of-self-in-Err : goal.invariant_of-self-in-Err
invariant_of-self-in-Err c =
    let i = c.self.inside in
    subst (λ (t : Table Request). AreRequests t c.reserve.new.self.items c.prepare.new.lines.items c.prepare-2.new.lines.items) (sym c.in-Err.ensures.1)
    (subst (λ (xs : List Handle). AreRequests i.table xs c.prepare.new.lines.items c.prepare-2.new.lines.items) (sym c.reserve.ensures.items)
    (requests-readied i.table i.listed.items i.circuits.items c.prepare.new.lines.items i.channels.items c.prepare-2.new.lines.items c.prepare.ensures.readies c.prepare-2.ensures.readies c.self.invariant))

pub invariant_of-self-in-Ok : goal.invariant_of-self-in-Ok
invariant_of-self-in-Ok c =
    let listed = c.self.inside.listed.items in
    let q = c.args.vacant in
    let r = new_request c.args.channel c.args.circuit (asked_of c.args.asked) in
    let is : c.push_reserved.new.self.items ≡ listed ++ q ∷ [] = c.push_reserved.ensures.items ∙ ap (λ (xs : List Handle). xs ++ q ∷ []) c.reserve.ensures.items in
    let ready = requests-readied c.self.inside.table listed c.self.inside.circuits.items c.prepare.new.lines.items c.self.inside.channels.items c.prepare-2.new.lines.items c.prepare.ensures.readies c.prepare-2.ensures.readies c.self.invariant in
    requests-issued c.self.inside.table c.open_at.new.self listed c.push_reserved.new.self.items c.prepare.new.lines.items c.note.new.lines.items c.prepare-2.new.lines.items c.note-in-Ok.new.lines.items r q c.in-Ok.ensures refl is c.note.ensures c.note-in-Ok.ensures ready

pub returns-in-Ok-clause-may : goal.returns-in-Ok-clause-may
returns-in-Ok-clause-may c =
    let listed = c.self.inside.listed.items in
    let q = c.args.vacant in
    let r = new_request c.args.channel c.args.circuit (asked_of c.args.asked) in
    let is : c.push_reserved.new.self.items ≡ listed ++ q ∷ [] = c.push_reserved.ensures.items ∙ ap (λ (xs : List Handle). xs ++ q ∷ []) c.reserve.ensures.items in
    (subst (λ (x : Issued). Issues x q r (Ok tt) (issued_of c.open_at.new.self c.push_reserved.new.self.items)) (c.self.view_is ∙ c.tidy.ensures)
    (issues c.self.inside.table c.open_at.new.self listed c.push_reserved.new.self.items r q c.self.invariant.given refl c.in-Ok.ensures is)).0

pub returns-in-Ok-clause-ok : goal.returns-in-Ok-clause-ok
returns-in-Ok-clause-ok c =
    let listed = c.self.inside.listed.items in
    let q = c.args.vacant in
    let r = new_request c.args.channel c.args.circuit (asked_of c.args.asked) in
    let is : c.push_reserved.new.self.items ≡ listed ++ q ∷ [] = c.push_reserved.ensures.items ∙ ap (λ (xs : List Handle). xs ++ q ∷ []) c.reserve.ensures.items in
    (subst (λ (x : Issued). Issues x q r (Ok tt) (issued_of c.open_at.new.self c.push_reserved.new.self.items)) (c.self.view_is ∙ c.tidy.ensures)
    (issues c.self.inside.table c.open_at.new.self listed c.push_reserved.new.self.items r q c.self.invariant.given refl c.in-Ok.ensures is)).1
