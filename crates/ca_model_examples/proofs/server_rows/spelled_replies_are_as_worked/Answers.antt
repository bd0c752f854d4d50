use Rattle.ca_model_examples.proofs.ServerRows.{read-spelled, put-spelled, update-spelled, display-update-spelled, cancel-spelled, clear-spelled, error-spelled, no-cid, disconnect-spelled}
use Rattle.ca_model_examples.proofs.server_rows.spelled_replies_are_as_worked.Goals as goal

pub returns : goal.returns
returns c = record { read = read-spelled; put = put-spelled; update = update-spelled; display_update = display-update-spelled; cancel = cancel-spelled; clear = clear-spelled; error = error-spelled; no_cid = no-cid; disconnect = disconnect-spelled }
