use Rattle.std.proofs.Common.{◌+◌, ◌≤◌, ℕ, List, length, subst, sym, ap, ◌∙◌, refl}
use Rattle.ca_dbr.specs.Octets.{AreBytes}
use Rattle.ca_wire.specs.Reading.{IsWhole}
use Rattle.ca_wire.specs.Stream.{NoneBegins, NotBad}
use Rattle.ca_model.specs.Due.{Due}
use Rattle.ca_model.specs.Server.{ServerEnd}
use Rattle.ca_server_circuit.specs.Handling.{known}
use Rattle.ca_server_circuit.specs.Stepping.{first_at}
use Rattle.ca_server_circuit.proofs.InPlace.{breaks-first, dropped-head, steps-first, whole-still}
use Rattle.ca_server_circuit.proofs.end.End.step_plain.Goals as goal

pub drop_front-requires : goal.drop_front-requires
drop_front-requires c =
    let s = c.args.records.now in
    let e = c.args.self.now in
    let head = c.in-Whole.head in
    let m = first_at e.link.input.bytes head in
    let here = c.in_bytes-2.ensures ∙ ap (λ (x : ServerEnd). x.link.input.bytes) c.self.view_is in
    let whole = subst (λ (b : List ℕ). IsWhole b head) here c.in-Whole.ensures in
    let still = whole-still s c.handle.new.records c.args.circuit e c.handle.new.self m (Due (known c.args.port s e) m) c.in-Ok.left head c.in-Ok.ensures.ok whole in
    subst (λ (x : ServerEnd). head.start + head.header.size ≤ length x.link.input.bytes) (sym c.self-in-Whole.view_is) still.room

pub returns-in-Ok : goal.returns-in-Ok
returns-in-Ok c =
    let head = c.in-Whole.head in
    let here = c.in_bytes-2.ensures ∙ ap (λ (x : ServerEnd). x.link.input.bytes) c.self.view_is in
    let whole = subst (λ (b : List ℕ). IsWhole b head) here c.in-Whole.ensures in
    let gone = dropped-head head _ c.handle.new.self _ c.self-in-Whole.view_is c.drop_front.ensures in
    steps-first c.args.port c.args.circuit c.args.records.now c.handle.new.records c.args.self.now c.handle.new.self _ head c.in-Ok.left c.requires.room whole c.in-Ok.ensures.ok gone

pub returns-in-Err : goal.returns-in-Err
returns-in-Err c =
    let head = c.in-Whole.head in
    let here = c.in_bytes-2.ensures ∙ ap (λ (x : ServerEnd). x.link.input.bytes) c.self.view_is in
    let whole = subst (λ (b : List ℕ). IsWhole b head) here c.in-Whole.ensures in
    let are = subst (λ (w : ServerEnd). AreBytes w.link.input.bytes) c.self.view_is (subst AreBytes c.in_bytes.ensures c.know_bytes.ensures) in
    breaks-first c.args.port c.args.circuit c.args.records.now c.handle.new.records c.args.self.now c.handle.new.self head c.requires.room whole are c.in-Err.ensures.memory c.in-Err.ensures.output c.in-Err.ensures.channels c.in-Err.ensures.err

pub returns-in-More : goal.returns-in-More
returns-in-More c =
    let here = c.in_bytes-2.ensures ∙ ap (λ (x : ServerEnd). x.link.input.bytes) c.self.view_is in
    (c.requires.room, subst NoneBegins here c.in-More.ensures.0, subst NotBad here c.in-More.ensures.1, refl, refl)
