use Rattle.ca_laws_parts.proofs.WritesEvents.{writes-added, writes-later, writes-opening, writes-restart}
use Rattle.ca_laws_parts.proofs.write_laws.writes_stay_as_a_world_goes_on.Goals as goal

pub returns : goal.returns
returns c = record { begins = writes-opening; stays = writes-later; added = writes-added; restarted = writes-restart }
