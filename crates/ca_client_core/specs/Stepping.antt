-- Vocabulary: what a step of a client did, as the vocabulary has it.
use Rattle.ca_model.specs.Answers as answer
use Rattle.ca_client_core.specs.declared.stepping.Stepped.{Stepped}
use Rattle.ca_client_core.specs.declared.stepping.Stepped.TheVariants as step

abbrev pub stepped_as : Stepped → answer.Stepped
stepped_as (step.Notices told) = answer.Notices told
stepped_as step.NeedBytes = answer.NeedBytes
stepped_as (step.Closed k) = answer.Closed k
