use Rattle.std.proofs.Common.{◌∙◌, ap}
use Rattle.ca_search.specs.Searcher.{Searches, holds}
use Rattle.ca_search.proofs.Entries.{held}
use Rattle.ca_search.proofs.searcher.Searcher.has.Goals as goal

pub returns : goal.returns
returns c =
    c.contains_key.ensures ∙ held c.args.cid c.self.inside.places.entries ∙ ap (λ (s : Searches). holds c.args.cid s.channels) c.self.view_is
