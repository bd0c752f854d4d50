use Rattle.ca_model_examples.proofs.Owed.{never-foreign, never-lost-for-nothing}
use Rattle.ca_model_examples.proofs.owed_worlds.an_unsaid_notice_is_unsafe.Goals as goal

pub returns : goal.returns
returns c = record { of_another = never-foreign; not_lost = never-lost-for-nothing }
