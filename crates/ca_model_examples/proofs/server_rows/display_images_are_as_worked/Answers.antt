use Rattle.ca_model_examples.proofs.ServerRows.{volt-as-graphic-long, volt-as-control-long, volt-as-double, volt-as-string}
use Rattle.ca_model_examples.proofs.server_rows.display_images_are_as_worked.Goals as goal

pub returns : goal.returns
returns c = record { volt_as_graphic_long = volt-as-graphic-long; volt_as_control_long = volt-as-control-long; volt_as_double = volt-as-double; volt_as_string = volt-as-string }
