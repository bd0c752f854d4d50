use Rattle.ca_model_examples.proofs.Owed.{never-besides, never-unlogged, never-unsent}
use Rattle.ca_model_examples.proofs.owed_worlds.what_is_not_as_due_is_unsafe.Goals as goal

pub returns : goal.returns
returns c = record { unsent = never-unsent; unlogged = never-unlogged; besides = never-besides }
