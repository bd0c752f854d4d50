use Rattle.ca_model_examples.proofs.Illegal.{add-by-other-mask, add-for-legal, add-of-other-count, add-of-other-type, read-for-legal, read-for-nothing, read-of-other-count, read-of-other-type}
use Rattle.ca_model_examples.proofs.illegal_worlds.what_goes_out_asks_for_what_its_call_did.Goals as goal

pub returns : goal.returns
returns c = record {
  read = read-for-legal;
  read_of_another_type = read-of-other-type;
  read_of_another_count = read-of-other-count;
  read_for_nothing = read-for-nothing;
  add = add-for-legal;
  add_of_another_type = add-of-other-type;
  add_of_another_count = add-of-other-count;
  add_by_another_mask = add-by-other-mask;
}
