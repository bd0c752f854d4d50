use Rattle.ca_model_examples.proofs.Writes.{made-safe, made-twice, another-value, with-an-alarm, to-a-removed-record, nobody-called, before-it-came}
use Rattle.ca_model_examples.proofs.unsafe_worlds.a_put_is_made_once.Goals as goal

pub returns : goal.returns
returns c = record { once = made-safe; twice = made-twice; another_value = another-value; alarmed = with-an-alarm; removed_record = to-a-removed-record; not_called = nobody-called; not_handled = before-it-came }
