use Rattle.std.proofs.Common.{◌∙◌, ap, sym, ℕ}
use Rattle.std.specs.FinMap as map
use Rattle.ca_beacon.proofs.Tables.{get-held}
use Rattle.ca_beacon.proofs.table.BeaconTable.last.Goals as goal

pub returns : goal.returns
returns c =
    c.copied.ensures ∙ c.get.ensures.value ∙ sym (get-held c.self.inside.last.entries c.args.self.now c.key.result c.self.view_is)
    ∙ ap (λ (n : ℕ). map.get c.args.self.now n) c.key.ensures
