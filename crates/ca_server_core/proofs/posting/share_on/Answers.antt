use Rattle.std.proofs.Common.{subst}
use Rattle.std.specs.Prelude.{option_map}
use Rattle.std.specs.Arc.{arc_value}
use Rattle.ca_records.specs.Record.{RecordState}
use Rattle.ca_server_subscriptions.specs.Sharing.{IsCopy}
use Rattle.ca_server_circuit.specs.Posting.{stored_of}
use Rattle.ca_server_core.proofs.posting.share_on.Goals as goal

pub returns-in_err-found : goal.returns-in_err-found
returns-in_err-found c = rw c.from_residual.ensures (c.at.result.now, c.at.ensures.at, tt)

pub returns : goal.returns
returns c = (c.at.result.now, c.at.ensures.at, subst (λ (x : RecordState). IsCopy (stored_of x) (option_map arc_value c.share.result)) c.state-record.ensures c.share.ensures)
