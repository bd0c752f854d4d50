use Rattle.std.proofs.Common.{ℕ, false, sym, ◌∙◌, subst}
use Rattle.ca_server_circuit.proofs.Indexes.{Changes, front-close, indexed-close}
use Rattle.ca_server_circuit.proofs.Tables.{wire-under}
use Rattle.ca_server_circuit.proofs.channels.ServedChannels.close.Goals as goal

pub invariant_of-self : goal.invariant_of-self
invariant_of-self c =
    let t = c.self.inside.table in
    let s = c.self.inside.cids in
    let there = wire-under t c.new.result (c.in-Some.handle, c.in-Some.channel.now) (sym c.in-Some.ensures) in
    let changes = subst (λ (n : ℕ). Changes s c.remove.new.self n false) (c.number-2.ensures ∙ c.cid.ensures) c.remove.ensures.updates.0 in
    let front = front-close t c.in-Some.handle c.self.inside.front c.self.invariant.1 in
    rw (c.close.ensures, c.leave.ensures) (indexed-close t s c.remove.new.self c.in-Some.handle c.in-Some.channel.now c.self.invariant.0 there.0 changes, front)
