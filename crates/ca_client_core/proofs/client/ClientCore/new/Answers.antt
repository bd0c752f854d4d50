use Rattle.std.proofs.Common.{rules, ap}
use Rattle.ca_client_core.proofs.Begun.{begun-is, sound-begun}
use Rattle.ca_client_core.proofs.client.ClientCore.new.Goals as goal

pub invariant_of-result : goal.invariant_of-result
invariant_of-result c = sound-begun _ _ _ _ _ _
    c.new.ensures
    c.new-5.ensures
    (ap (λ r. r.table) c.new-2.ensures)
    c.new-3.ensures
    c.new-4.ensures.items

pub returns : goal.returns
returns c = (
  search rules,
  search rules,
  begun-is
      (record {
        peer = record { user = c.args.user.items; host = c.args.host.items };
        servers = c.args.servers.items;
        names = c.args.names.now;
        now = c.args.now;
      })
      _ _ _ _ _ _ _ _
      c.new.ensures
      c.new-5.ensures
      (ap (λ r. r.table) c.new-2.ensures)
      (ap (λ r. r.order) c.new-2.ensures)
      c.new-3.ensures
      c.in-Ok.ensures.ok
      c.new-6.ensures,
)
