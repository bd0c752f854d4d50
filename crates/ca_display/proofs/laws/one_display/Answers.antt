use Rattle.ca_display.proofs.Images.{image_number-one}
use Rattle.ca_display.proofs.Shown.{display_shown-is}
use Rattle.ca_display.proofs.Again.{display_again, length-any}
use Rattle.ca_display.proofs.laws.one_display.Goals as goal

pub returns-clause-again : goal.returns-clause-again
returns-clause-again c = display_again

pub returns-clause-size : goal.returns-clause-size
returns-clause-size c = length-any

pub returns-clause-numbers : goal.returns-clause-numbers
returns-clause-numbers c = image_number-one

pub returns-clause-shown : goal.returns-clause-shown
returns-clause-shown c = display_shown-is
