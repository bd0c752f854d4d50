use Rattle.std.proofs.Common.{◌≡◌, ℕ, Option, Some, sym, ap, ◌∙◌, subst}
use Rattle.ca_arena.specs.declared.handle.Handle.{Handle}
use Rattle.ca_ids.specs.Table.{by_wire, under}
use Rattle.ca_ids.specs.Wire.{wire_of}
use Rattle.ca_model.specs.Server.{OpenChannel}
use Rattle.ca_server_circuit.specs.Cids.{IsInFront}
use Rattle.ca_server_circuit.proofs.Tables.{under-wire}
use Rattle.ca_server_circuit.proofs.channels.ServedChannels.by_sid.Goals as goal

pub returns-then-number-clause-found : goal.returns-then-number-clause-found
returns-then-number-clause-found c =
    let t = c.self.inside.table in
    let h = c.in-Some.handle in
    let o = c.in-Some.kept in
    let there : under t h ≡ Some o = subst (λ (f : Option (Handle × OpenChannel)). IsInFront t f) c.in-Some.is c.self.invariant.1 in
    let is : wire_of h ≡ c.args.sid = sym (c.number.ensures ∙ c.of.ensures) ∙ c.if-number.true ∙ c.number-in-Some.ensures in
    rw (← c.self.view_is) (sym (under-wire t h o c.self.invariant.0.limit there) ∙ ap (λ (n : ℕ). by_wire t n) is)
