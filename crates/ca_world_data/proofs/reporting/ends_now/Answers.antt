use Rattle.std.proofs.Common.{◌≡◌, Option, subst, sym}
use Rattle.std.specs.Prelude.{is_some}
use Rattle.ca_arena.specs.declared.handle.Handle.{Handle}
use Rattle.ca_world_data.specs.EndsWith.{goes_with}
use Rattle.ca_world_data.specs.Seen.{joined_of}
use Rattle.ca_world_data.proofs.reporting.ends_now.Goals as goal

pub returns-in-Some : goal.returns-in-Some
returns-in-Some c =
    subst (λ (o : Option Handle). c.ends_under.result ≡ is_some (goes_with o c.args.server c.args.core.now (joined_of c.args.joined.now))) (sym c.in-Some.is) c.ends_under.ensures

pub returns-in-None : goal.returns-in-None
returns-in-None c =
    subst (λ (o : Option Handle). c.has_quit.result ≡ is_some (goes_with o c.args.server c.args.core.now (joined_of c.args.joined.now))) (sym c.in-None.is) c.has_quit.ensures
