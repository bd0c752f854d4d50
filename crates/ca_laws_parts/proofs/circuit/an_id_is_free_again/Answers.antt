use Rattle.ca_laws_parts.specs.Flows.{Awaits}
use Rattle.ca_laws_parts.proofs.Settled.{none-pending, read-means, settled, settled-request}
use Rattle.ca_laws_parts.proofs.circuit.an_id_is_free_again.Goals as goal

pub returns : goal.returns
returns c = record {
  request = λ kept d h t s n f at cause there is speaks. settled-request (Awaits d kept) d h t s n f at cause there is speaks;
  given = λ kept d h t s id f at cause there is gives speaks none. settled (Awaits d kept) d h t s id f at cause there is gives speaks none;
  over = λ kept d h p id none pending. none-pending (Awaits d kept) d h p id none pending;
  own = λ kept d t id k number f at speaks given. read-means (Awaits d kept) d t id k number f at speaks given;
}
