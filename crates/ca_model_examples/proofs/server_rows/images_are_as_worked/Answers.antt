use Rattle.ca_model_examples.proofs.ServerRows.{temp-as-time-long, temp-as-string, temp-as-status-char, gain-as-time-double, wave-as-chars, written-as-time-long}
use Rattle.ca_model_examples.proofs.server_rows.images_are_as_worked.Goals as goal

pub returns : goal.returns
returns c = record { temp_as_time_long = temp-as-time-long; temp_as_string = temp-as-string; temp_as_status_char = temp-as-status-char; gain_as_time_double = gain-as-time-double; wave_as_chars = wave-as-chars; written_as_time_long = written-as-time-long }
