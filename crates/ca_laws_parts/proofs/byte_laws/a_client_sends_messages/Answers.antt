use Rattle.ca_laws_parts.proofs.Fits.{ended-fits}
use Rattle.ca_laws_parts.proofs.HearSpeaks.{hears-speaks}
use Rattle.ca_laws_parts.proofs.MoreSpeaks.{connects-speaks, gives-speaks, tick-speaks}
use Rattle.ca_laws_parts.proofs.Speaks.{clear-speaks, open-speaks, put-speaks, read-speaks, subscribe-speaks, unsubscribe-speaks, write-speaks}
use Rattle.ca_laws_parts.proofs.byte_laws.a_client_sends_messages.Goals as goal

pub returns : goal.returns
returns c = record {
  opens = open-speaks;
  reads = read-speaks;
  puts = put-speaks;
  writes = write-speaks;
  subscribes = subscribe-speaks;
  unsubscribes = unsubscribe-speaks;
  clears = clear-speaks;
  hears = λ x few f c m good e h. hears-speaks x few f c m good e h;
  ends = ended-fits;
  gives = gives-speaks;
  connects = connects-speaks;
  ticks = tick-speaks;
}
