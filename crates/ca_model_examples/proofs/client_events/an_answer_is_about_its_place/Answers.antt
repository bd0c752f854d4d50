use Rattle.ca_model_examples.proofs.ClientEndEvents.{about-place}
use Rattle.ca_model_examples.proofs.client_events.an_answer_is_about_its_place.Goals as goal

pub returns : goal.returns
returns c = about-place
