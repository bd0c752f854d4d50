use Rattle.std.proofs.Common.{◌≡◌, ◌++◌, ◌∷◌, ◌∙◌, [], ap, false, nat_eq, subst, sym}
use Rattle.indexmap.proofs.CallerLemmas.{insert_entry-new}
use Rattle.ca_search.specs.Searcher.{holds}
use Rattle.ca_search.proofs.Entries.{not-held}
use Rattle.ca_client_tables.specs.Quiet.{Kept}
use Rattle.ca_client_tables.proofs.Quieted.{quiet-zero}
use Rattle.ca_client_tables.proofs.searches.Searches.insert.Goals as goal

pub invariant_of-self : goal.invariant_of-self
invariant_of-self c = quiet-zero c.insert.new.self.entries

pub returns : goal.returns
returns c =
    let k = c.self.inside.places in
    let fresh : holds c.args.cid k.entries ≡ false = subst (λ (x : Kept). holds c.args.cid x.entries ≡ false) (sym c.self.view_is) c.requires.fresh in
    c.in-Ok.ensures.entries
    ∙ insert_entry-new nat_eq k c.args.cid c.args.place (not-held c.args.cid k.entries fresh)
    ∙ ap (λ (x : Kept). x.entries ++ (c.args.cid, c.args.place) ∷ []) c.self.view_is
