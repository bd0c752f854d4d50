use Rattle.ca_model_examples.proofs.ServerRows.{read-faults, read-faults-in-order, display-read-faults, reads-up-to-the-limit, early-put-faults, early-put-faults-in-order, late-put-faults, late-put-faults-in-order}
use Rattle.ca_model_examples.proofs.server_rows.request_faults_are_as_worked.Goals as goal

pub returns : goal.returns
returns c = record { reads = read-faults; reads_in_order = read-faults-in-order; display_reads = display-read-faults; reads_up_to_the_limit = reads-up-to-the-limit; early_puts = early-put-faults; early_puts_in_order = early-put-faults-in-order; late_puts = late-put-faults; late_puts_in_order = late-put-faults-in-order }
