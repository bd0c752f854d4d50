use Rattle.std.proofs.Common.{◌<◌, ◌∙◌, ap, length, slice_index_or, subst, sym}
use Rattle.ca_lists.proofs.Uptos.{upto-at, upto-length}
use Rattle.ca_client_tables.specs.OnCircuits.{indices_of}
use Rattle.ca_client_tables.proofs.candidates.Candidates.at.Goals as goal

pub returns-in-All : goal.returns-in-All
returns-in-All c =
    let within = subst (λ n. c.args.place < n) (ap (λ s. length (indices_of s)) c.in-All.is ∙ upto-length c.in-All.field-0) c.requires in
    sym (ap (λ s. slice_index_or (indices_of s) c.args.place 0) c.in-All.is ∙ upto-at c.in-All.field-0 c.args.place within)
