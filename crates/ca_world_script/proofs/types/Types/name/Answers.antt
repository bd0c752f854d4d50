use Rattle.std.proofs.Common.{sym, subst}
use Rattle.ca_world_script.specs.Index.{added_in}
use Rattle.ca_world_script.specs.Types.{Adds}
use Rattle.ca_world_script.proofs.Index.{named-one}
use Rattle.ca_world_script.proofs.types.Types.name.Goals as goal

pub returns : goal.returns
returns c =
    subst (λ es. Adds c.args.server c.args.name.items c.args.base (added_in (λ k. (k.0, k.1.items)) c.args.self.now.named.entries) (added_in (λ k. (k.0, k.1.items)) es)) (sym c.in_ok-insert.ensures.entries)
    (named-one (λ k. (k.0, k.1.items)) c.args.self.now.named.entries (c.args.server, c.args.name) c.args.base)
