use Rattle.std.proofs.Common.{ℕ, true, ◌∙◌, subst}
use Rattle.ca_server_circuit.proofs.Indexes.{Changes, front-come, indexed-open}
use Rattle.ca_server_circuit.proofs.channels.ServedChannels.open.Goals as goal

pub invariant_of-self-in-Ok : goal.invariant_of-self-in-Ok
invariant_of-self-in-Ok c =
    let t = c.self.inside.table in
    let s = c.self.inside.cids in
    let changes = subst (λ (n : ℕ). Changes s c.insert.new.self n true) (c.number-cid.ensures ∙ c.cid.ensures) c.in_ok-insert.ensures.updates.0 in
    let front = front-come t c.in-Ok.handle c.args.channel c.copy-copy.result c.self.inside.front c.self.invariant.1 c.in-Ok.ensures.ok.0 c.copy-copy.ensures in
    rw (c.in-Ok.ensures.ok.1, c.come.ensures) (indexed-open t s c.insert.new.self c.in-Ok.handle c.args.channel c.self.invariant.0 c.in-Ok.ensures.ok.0 (rw c.self.view_is c.requires.new) changes, front)
