use Rattle.std.proofs.Common.{rules}
use Rattle.ca_requests.proofs.requests.Requests.answer.Goals.{in-Read+in_ok-outcome-in-Read, in-Read-2+in_ok-outcome-in-Read-2, in-Put}
use Rattle.ca_requests.proofs.requests.Requests.answer.Goals as goal

pub returns : goal.returns
returns c =
    elim c.match-request.branch [
      | in-Read+in_ok-outcome-in-Read w ↦ search rules
      | in-Read-2+in_ok-outcome-in-Read-2 w ↦ search rules
      | in-Put w ↦ (let said = w.status_outcome-outcome.ensures c.args.payload.now in search (rules, said))
    ]
