use Rattle.ca_model_examples.proofs.Illegal.{cancel-legal, cancel-uncalled, clear-answers, clear-legal, clear-too-soon, clear-uncalled, create-legal, create-other, write-legal, write-other}
use Rattle.ca_model_examples.proofs.illegal_worlds.what_goes_out_was_called.Goals as goal

pub returns : goal.returns
returns c = record {
  write = write-legal;
  write_of_another_value = write-other;
  cancel = cancel-legal;
  cancel_uncalled = cancel-uncalled;
  clear = clear-legal;
  clear_uncalled = clear-uncalled;
  clear_answers = clear-answers;
  clear_too_soon = clear-too-soon;
  create = create-legal;
  create_under_another_name = create-other;
}
