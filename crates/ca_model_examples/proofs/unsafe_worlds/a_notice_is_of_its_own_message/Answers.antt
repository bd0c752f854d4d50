use Rattle.ca_model_examples.proofs.Creations.{told-safe, told-unread, lost-safe, lost-before-live, rights-safe, rights-of-another}
use Rattle.ca_model_examples.proofs.unsafe_worlds.a_notice_is_of_its_own_message.Goals as goal

pub returns : goal.returns
returns c = record { live = told-safe; unread = told-unread; lost = lost-safe; lost_before_live = lost-before-live; rights = rights-safe; rights_of_another = rights-of-another }
