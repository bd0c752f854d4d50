use Rattle.std.proofs.Common.{◌∙◌, ap, arith, sym}
use Rattle.ca_search.specs.Searches.{wanted_at}
use Rattle.ca_client_tables.specs.Quiet.{Kept}
use Rattle.ca_client_tables.proofs.Quieted.{quiet-none}
use Rattle.ca_client_tables.proofs.searches.Searches.due.Goals as goal

pub returns-then-now-self-clause-found : goal.returns-then-now-self-clause-found
returns-then-now-self-clause-found c =
    let s = c.self.inside in
    c.new.ensures.items
    ∙ sym (quiet-none s.quiet c.args.now s.places.entries (omega (arith, c.if-now-self.true)) c.self.invariant)
    ∙ ap (λ (x : Kept). wanted_at c.args.now x.entries) c.self.view_is
