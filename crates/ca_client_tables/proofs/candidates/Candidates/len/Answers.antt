use Rattle.std.proofs.Common.{◌∙◌, ap, length, sym}
use Rattle.ca_lists.proofs.Uptos.{upto-length}
use Rattle.ca_client_tables.specs.OnCircuits.{indices_of}
use Rattle.ca_client_tables.proofs.candidates.Candidates.len.Goals as goal

pub returns-in-All : goal.returns-in-All
returns-in-All c = sym (ap (λ s. length (indices_of s)) c.in-All.is ∙ upto-length c.in-All.places)
