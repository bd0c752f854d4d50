use Rattle.ca_laws_parts.proofs.Ends.{answered-elsewhere, ended-elsewhere, gone-elsewhere, phase-elsewhere, request-elsewhere, subscription-elsewhere}
use Rattle.ca_laws_parts.proofs.Others.{cleared-elsewhere}
use Rattle.ca_laws_parts.proofs.channel_laws.other_circuits_keep_what_is_held.Goals as goal

pub returns : goal.returns
returns c = record {
  cleared = cleared-elsewhere;
  phase = phase-elsewhere;
  gone = gone-elsewhere;
  answered = answered-elsewhere;
  request = request-elsewhere;
  subscription = subscription-elsewhere;
  ended = ended-elsewhere;
}
