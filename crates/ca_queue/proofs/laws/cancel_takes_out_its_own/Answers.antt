use Rattle.ca_queue.proofs.Subscribers.{entries_cancelled, others_cancelled}
use Rattle.ca_queue.proofs.laws.cancel_takes_out_its_own.Goals as goal

pub returns : goal.returns
returns g c = record {
  own = λ key q. entries_cancelled key q.waiting;
  others = λ key other q differs. others_cancelled key other q.waiting differs;
}
