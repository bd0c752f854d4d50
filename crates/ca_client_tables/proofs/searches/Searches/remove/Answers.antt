use Rattle.std.proofs.Common.{◌≡◌, ◌∙◌, ap, is_some, subst, sym}
use Rattle.ca_search.specs.Searcher.{without}
use Rattle.ca_search.proofs.Entries.{held, one-removed}
use Rattle.ca_client_tables.specs.Quiet.{AreQuiet, Kept}
use Rattle.ca_client_tables.proofs.Quieted.{quiet-without}
use Rattle.ca_client_tables.proofs.searches.Searches.remove.Goals as goal

pub invariant_of-self : goal.invariant_of-self
invariant_of-self c =
    let s = c.self.inside in
    let out : c.shift_remove.new.self.entries ≡ without c.args.cid s.places.entries = c.shift_remove.ensures.entries ∙ one-removed c.args.cid s.places.entries in
    subst (AreQuiet s.quiet) (sym out) (quiet-without s.quiet c.args.cid s.places.entries c.self.invariant)

pub returns-clause-entries : goal.returns-clause-entries
returns-clause-entries c =
    c.shift_remove.ensures.entries ∙ one-removed c.args.cid c.self.inside.places.entries ∙ ap (λ (x : Kept). without c.args.cid x.entries) c.self.view_is

pub returns-clause-out : goal.returns-clause-out
returns-clause-out c = sym (held c.args.cid c.shift_remove.new.self.entries) ∙ ap is_some c.shift_remove.ensures.updates.1
