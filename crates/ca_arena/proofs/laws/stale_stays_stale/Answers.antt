use Rattle.ca_arena.proofs.Runs.{IsSound-empty, sound_after}
use Rattle.ca_arena.proofs.Stale.{gone_ever_after}
use Rattle.ca_arena.proofs.laws.stale_stays_stale.Goals as goal

pub returns : goal.returns
returns g c before later now left after handle value to removes on =
    gone_ever_after now left after later handle value (sound_after _ now before IsSound-empty to) removes on
