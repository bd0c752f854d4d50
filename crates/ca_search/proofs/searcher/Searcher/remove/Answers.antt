use Rattle.ca_search.proofs.Entries.{one-out}
use Rattle.ca_search.proofs.searcher.Searcher.remove.Goals as goal

pub returns : goal.returns
returns c =
    one-out c.args.self.now c.self.inside.moment c.args.cid c.self.inside.places.entries c.shift_remove.new.self.entries c.self.view_is c.shift_remove.ensures.entries
