use Rattle.ca_laws_runs.proofs.SidGrows.{before-past, between-sent, between-told, under-sent, under-told}
use Rattle.ca_laws_runs.proofs.sid_laws.what_clients_say_grows.Goals as goal

pub returns : goal.returns
returns c = record { past = before-past; sent = under-sent; created = between-sent; told = under-told; answered = between-told }
