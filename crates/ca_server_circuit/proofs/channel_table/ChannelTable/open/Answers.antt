use Rattle.std.proofs.Common.{ℕ, List, sym, ap, ◌∙◌, subst}
use Rattle.ca_ids.specs.Table.{Table}
use Rattle.ca_model.specs.Server.{OpenChannel}
use Rattle.ca_server_circuit.specs.ByName.{AreByName, Enters, Goes}
use Rattle.ca_server_circuit.proofs.ByName.{opens, undone}
use Rattle.ca_server_circuit.proofs.channel_table.ChannelTable.open.Goals as goal

pub invariant_of-self-in-Ok : goal.invariant_of-self-in-Ok
invariant_of-self-in-Ok c =
    let old = c.self.inside.by_name in
    let new = c.add.new.self in
    let enters = subst (λ (name : List ℕ). Enters name c.in-Some.vacant old new) c.name.ensures c.in_ok-add.ensures.ok in
    subst (λ (t : Table OpenChannel). AreByName new t) (sym c.in-Ok.ensures.1)
    (opens c.self.inside.table c.in-Some.vacant c.args.channel c.in-Ok.ensures.0 old new c.self.invariant c.requires enters)

pub invariant_of-self-in-Err : goal.invariant_of-self-in-Err
invariant_of-self-in-Err c =
    let old = c.self.inside.by_name in
    let mid = c.add.new.self in
    let new = c.take_out.new.self in
    let enters = subst (λ (name : List ℕ). Enters name c.in-Some.vacant old mid) c.name.ensures c.in_ok-add.ensures.ok in
    let named = c.name-in-Err.ensures ∙ ap (λ (x : OpenChannel). x.name) c.in-Err.ensures.0 in
    let goes = subst (λ (name : List ℕ). Goes name c.in-Some.vacant mid new) named c.take_out.ensures.goes in
    subst (λ (t : Table OpenChannel). AreByName new t) (sym c.in-Err.ensures.1)
    (undone c.self.inside.table c.in-Some.vacant c.args.channel c.in-Some.ensures old mid new c.self.invariant enters goes)
