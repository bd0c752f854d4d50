use Rattle.ca_requests.proofs.outcome.image_outcome_into.Goals as goal

pub returns-in_default-clause-ok : goal.returns-in_default-clause-ok
returns-in_default-clause-ok c = (c.if-number.false, c.in_default.not-OutOfMemory, c.in-Err.ensures.refused)
