use Rattle.ca_laws_parts.proofs.WritesEvents.{ends-here-only, ends-only, midway-finish, midway-nothing, midway-post, midway-remove}
use Rattle.ca_laws_parts.proofs.Midway.{ended-keep}
use Rattle.ca_laws_parts.proofs.Stepped.{writes-step}
use Rattle.ca_laws_parts.proofs.write_laws.events_at_a_server_keep_writes.Goals as goal

pub returns : goal.returns
returns c = record {
  nothing = midway-nothing;
  posted = midway-post;
  finished = midway-finish;
  removed = midway-remove;
  handled = λ w k j y e s replies did recorded core lost f due makes is h. writes-step w k j y e s replies did recorded core lost f due makes is h;
  ends = λ w mid i y side log more records ends lost core m h is agree only. ended-keep w mid i y side log more records ends lost core m h is agree only;
  only = ends-only;
  closed = ends-here-only;
}
