use Rattle.ca_laws_parts.proofs.BytesRuns.{hears-sent, takes-sent}
use Rattle.ca_laws_parts.proofs.Streaming.{first-next}
use Rattle.ca_laws_parts.proofs.byte_laws.ends_take_what_was_sent.Goals as goal

pub returns : goal.returns
returns c = record { first = first-next; server = takes-sent; client = hears-sent }
