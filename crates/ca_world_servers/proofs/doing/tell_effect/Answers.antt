use Rattle.std.proofs.Common.{ap, ◌∙◌}
use Rattle.ca_world_servers.specs.Effects.{wrote_by}
use Rattle.ca_world_servers.proofs.doing.tell_effect.Goals as goal

pub tell_write-requires-clause-alike : goal.tell_write-requires-clause-alike
tell_write-requires-clause-alike c = λ busies is. c.requires.alike busies (ap wrote_by c.in-Wrote.is ∙ is)

pub tell_write-requires-clause-counts : goal.tell_write-requires-clause-counts
tell_write-requires-clause-counts c = λ busies w is there. c.requires.counts busies w (ap wrote_by c.in-Wrote.is ∙ is) there

pub tell_write-requires-in-Busied-clause-alike : goal.tell_write-requires-in-Busied-clause-alike
tell_write-requires-in-Busied-clause-alike c = λ busies is. c.requires.alike busies (ap wrote_by c.in-Busied.is ∙ is)

pub tell_write-requires-in-Busied-clause-counts : goal.tell_write-requires-in-Busied-clause-counts
tell_write-requires-in-Busied-clause-counts c = λ busies w is there. c.requires.counts busies w (ap wrote_by c.in-Busied.is ∙ is) there
