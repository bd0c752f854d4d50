use Rattle.ca_model_examples.proofs.Names.{opened-safe, opened-twice, two-of-a-name, removed-safe, added-again, removed-again}
use Rattle.ca_model_examples.proofs.unsafe_worlds.names_are_of_one_record.Goals as goal

pub returns : goal.returns
returns c = record { opened = opened-safe; opened_twice = opened-twice; two_of_a_name = two-of-a-name; removed = removed-safe; added_again = added-again; removed_again = removed-again }
