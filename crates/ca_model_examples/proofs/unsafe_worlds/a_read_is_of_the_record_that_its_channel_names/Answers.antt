use Rattle.ca_model_examples.proofs.Again.{sid-again}
use Rattle.ca_model_examples.proofs.Uses.{read-answered-safe, read-of-another, read-uncreated, refused-safe, refused-too-soon, not-refused}
use Rattle.ca_model_examples.proofs.unsafe_worlds.a_read_is_of_the_record_that_its_channel_names.Goals as goal

pub returns : goal.returns
returns c = record { answered = read-answered-safe; of_another = read-of-another; uncreated = read-uncreated; sid_given_again = sid-again; refused = refused-safe; refused_too_soon = refused-too-soon; not_refused = not-refused }
