use Rattle.std.proofs.Common.{List, subst}
use Rattle.ca_arena.specs.declared.handle.Handle.{Handle}
use Rattle.ca_client_tables.specs.Listed.{KeepsLive}
use Rattle.ca_client_tables.proofs.live_channels.LiveChannels.tidy.Goals as goal

pub returns : goal.returns
returns c = subst (λ (old : List Handle). KeepsLive c.args.channels.now old c.forget.new.listed.items) c.self.view_is c.forget.ensures
