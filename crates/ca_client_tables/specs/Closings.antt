-- Vocabulary: why an end ended, as the vocabulary has it.
use Rattle.ca_client_tables.specs.declared.why.Why.{Why}
use Rattle.ca_client_tables.specs.declared.why.Why.TheVariants as cause
use Rattle.ca_model.specs.Ends as ends

abbrev pub why_is : Why → ends.Why
why_is cause.OutOfMemory = ends.OutOfMemory
why_is cause.Misaligned = ends.Misaligned
why_is cause.TooLarge = ends.TooLarge
why_is cause.Silence = ends.Silence
why_is cause.Asked = ends.Asked
why_is cause.Cut = ends.Cut
