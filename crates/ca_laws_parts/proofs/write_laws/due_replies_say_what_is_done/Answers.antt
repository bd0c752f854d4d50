use Rattle.ca_laws_parts.proofs.WritesTold.{due-done, due-failed}
use Rattle.ca_laws_parts.proofs.write_laws.due_replies_say_what_is_done.Goals as goal

pub returns : goal.returns
returns c = record { done = due-done; failed = due-failed }
