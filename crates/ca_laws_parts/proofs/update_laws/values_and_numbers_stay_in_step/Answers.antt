use Rattle.ca_laws_parts.proofs.InStep.{pumps-numbered, step-begins, step-posted, step-pumped, step-switched, step-taken-in, step-without}
use Rattle.ca_laws_parts.proofs.Posted.{step-post}
use Rattle.ca_laws_parts.proofs.update_laws.values_and_numbers_stay_in_step.Goals as goal

pub returns : goal.returns
returns c = record {
  begins = step-begins;
  posted = step-posted;
  without = step-without;
  switched = step-switched;
  taken_in = step-taken-in;
  reached = step-post;
  pumped = step-pumped;
  numbered = pumps-numbered;
}
