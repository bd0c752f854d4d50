use Rattle.ca_laws_parts.proofs.KeptRuns.{messages-event, messages-run, numbers-event, numbers-run, opening-messages, opening-numbers}
use Rattle.ca_laws_parts.proofs.kept.what_stands_came_by_messages.Goals as goal

pub returns : goal.returns
returns c = record { begins = opening-messages; event = messages-event; run = messages-run; numbers_begin = opening-numbers; numbers = numbers-event; numbers_run = numbers-run }
