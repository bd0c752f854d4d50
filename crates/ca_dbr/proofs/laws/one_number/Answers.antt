use Rattle.ca_dbr.proofs.Texts.{number_in-text, text-number_in, number_in-number_text, length-number_text}
use Rattle.ca_dbr.proofs.laws.one_number.Goals as goal

pub returns-clause-read : goal.returns-clause-read
returns-clause-read c = number_in-text

pub returns-clause-only : goal.returns-clause-only
returns-clause-only c = text-number_in

pub returns-clause-own : goal.returns-clause-own
returns-clause-own c = λ z fits. number_in-number_text z fits.sfits

pub returns-clause-fits : goal.returns-clause-fits
returns-clause-fits c = λ z fits. length-number_text z fits.sfits
