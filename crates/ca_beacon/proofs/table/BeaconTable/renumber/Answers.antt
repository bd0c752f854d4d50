use Rattle.std.proofs.Common.{◌≡◌, ◌∙◌, ◌+◌, ap, cond, inl, is_some, length, sym, true}
use Rattle.ca_beacon.proofs.Tables.{HasRoom, last_in, none-from_test, none-restored, put-restored, put-table}
use Rattle.ca_beacon.proofs.table.BeaconTable.renumber.Goals as goal

pub returns-then-is_none : goal.returns-then-is_none
returns-then-is_none c =
    let es = c.self.inside.last.entries in
    let found : c.copied-last.result ≡ last_in es c.args.server = c.copied-last.ensures ∙ c.get.ensures.value in
    none-restored es c.args.self.now c.args.server c.args.number c.self.view_is (sym found ∙ none-from_test c.copied-last.result c.if-is_none.ensures)

pub invariant_of-self : goal.invariant_of-self
invariant_of-self c =
    let es = c.self.inside.last.entries in
    let found : c.copied-last.result ≡ last_in es c.args.server = c.copied-last.ensures ∙ c.get.ensures.value in
    let room : HasRoom es c.args.server = record { room = inl (sym (ap is_some found) ∙ c.if-is_none.ensures) } in
    put-table es c.insert.new.self.entries c.args.server c.args.number c.self.invariant room c.in-Ok.ensures.updates.0 (c.in-Ok.ensures.len ∙ ap (λ o. length es + cond (is_some o) 0 1) c.in-Ok.ensures.old)

pub returns : goal.returns
returns c =
    let es = c.self.inside.last.entries in
    let found : c.copied-last.result ≡ last_in es c.args.server = c.copied-last.ensures ∙ c.get.ensures.value in
    put-restored es c.insert.new.self.entries c.args.self.now c.args.server c.args.number c.self.view_is (sym (ap is_some found) ∙ c.if-is_none.ensures) c.in-Ok.ensures.updates.0
