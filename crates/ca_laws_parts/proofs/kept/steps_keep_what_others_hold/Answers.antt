use Rattle.ca_laws_parts.proofs.KeptRuns.{step-others, step-were}
use Rattle.ca_laws_parts.proofs.kept.steps_keep_what_others_hold.Goals as goal

pub returns : goal.returns
returns c = record { others = step-others; were = step-were }
