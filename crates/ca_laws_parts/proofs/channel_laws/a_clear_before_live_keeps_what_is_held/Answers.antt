use Rattle.ca_laws_parts.specs.Flows.{Awaits}
use Rattle.ca_laws_parts.proofs.Alike.{holds-alike}
use Rattle.ca_laws_parts.proofs.Others.{cleared-away, cleared-early, cleared-left}
use Rattle.ca_laws_parts.proofs.channel_laws.a_clear_before_live_keeps_what_is_held.Goals as goal

pub returns : goal.returns
returns c = record { alike = λ kept on n x y d a h. holds-alike (Awaits d kept) on n x y d a h; away = cleared-away; doomed = cleared-early; left = cleared-left }
