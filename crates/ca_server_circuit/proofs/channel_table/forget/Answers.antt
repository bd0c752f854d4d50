use Rattle.std.proofs.Common.{ℕ, List, sym, ◌∙◌, subst}
use Rattle.ca_ids.specs.Table.{Table}
use Rattle.ca_model.specs.Server.{OpenChannel}
use Rattle.ca_server_circuit.specs.ByName.{AreByName, Goes}
use Rattle.ca_server_circuit.proofs.ByName.{forgets, forgets-none, freed-none}
use Rattle.ca_server_circuit.proofs.channel_table.forget.Goals as goal

pub returns-in_default : goal.returns-in_default
returns-in_default c =
    subst (λ (t : Table OpenChannel). AreByName c.args.by_name.now t) (sym (freed-none c.args.table.now c.args.channel (sym c.in_default.ensures))) c.requires

pub returns-then-not-is_retired : goal.returns-then-not-is_retired
returns-then-not-is_retired c =
    let old = c.args.by_name.now in
    let new = c.take_out.new.self in
    let goes = subst (λ (name : List ℕ). Goes name c.args.channel old new) c.name.ensures c.take_out.ensures.goes in
    forgets c.args.table.now c.args.channel c.in-Some.found.now (sym c.in-Some.ensures) old new c.requires (sym c.is_retired.ensures ∙ c.if-not-is_retired.true) goes

pub returns-else-not-is_retired : goal.returns-else-not-is_retired
returns-else-not-is_retired c =
    forgets-none c.args.table.now c.args.channel c.in-Some.found.now (sym c.in-Some.ensures) c.args.by_name.now c.requires (sym c.is_retired.ensures ∙ c.if-not-is_retired.false)
