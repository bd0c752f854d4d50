use Rattle.ca_model_examples.proofs.Crossed.{never-shared, shared-safe}
use Rattle.ca_model_examples.proofs.safe_worlds.a_shared_id_is_safe_but_not_legal.Goals as goal

pub returns : goal.returns
returns c = record { safe = shared-safe; illegal = never-shared }
