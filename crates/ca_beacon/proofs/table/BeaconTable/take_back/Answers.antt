use Rattle.std.proofs.Common.{◌≡◌, ◌∙◌, ◌+◌, Option, ap, cond, is_some, length, None, sym, ℕ}
use Rattle.std.specs.Net.Addr.{ipv4_bits}
use Rattle.ca_beacon.specs.Table.{restored, server}
use Rattle.ca_beacon.proofs.Tables.{drop-restored, drop-table}
use Rattle.ca_beacon.proofs.table.BeaconTable.take_back.Goals as goal

pub invariant_of-self : goal.invariant_of-self
invariant_of-self c =
    let es = c.self.inside.last.entries in
    drop-table es c.remove.new.self.entries c.key-server.result c.self.invariant c.remove.ensures.updates.0 (ap (λ (o : Option ℕ). length c.remove.new.self.entries + cond (is_some o) 1 0) (sym c.remove.ensures.value) ∙ c.remove.ensures.len)

pub returns-in-None : goal.returns-in-None
returns-in-None c =
    drop-restored c.self.inside.last.entries c.remove.new.self.entries c.args.self.now c.key-server.result c.self.view_is c.remove.ensures.updates.0
    ∙ ap (λ (n : ℕ). restored c.args.self.now n None) c.key-server.ensures
    ∙ ap (λ (o : Option ℕ). restored c.args.self.now (server (ipv4_bits c.args.address) c.args.port) o) (sym c.in-None.is)
