use Rattle.std.proofs.Common.{◌≡◌, arith, subst, sym}
use Rattle.ca_search.specs.Searcher.{with_all}
use Rattle.ca_search.specs.Searches.{passed}
use Rattle.ca_client_tables.specs.Quiet.{Kept}
use Rattle.ca_client_tables.proofs.Quieted.{quiet-passed}
use Rattle.ca_client_tables.proofs.searches.Searches.pass.Goals as goal

pub returns-then-now-self : goal.returns-then-now-self
returns-then-now-self c =
    let s = c.self.inside in
    subst (λ (x : Kept). x.entries ≡ with_all (passed c.args.now) x.entries) c.self.view_is
    (sym (quiet-passed s.quiet c.args.now s.places.entries (omega (arith, c.if-now-self.true)) c.self.invariant))
