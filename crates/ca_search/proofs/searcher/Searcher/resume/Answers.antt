use Rattle.std.proofs.Common.{ap}
use Rattle.ca_search.specs.Searches.{resumed}
use Rattle.ca_search.proofs.Entries.{one-left-at, none-set, one-set}
use Rattle.ca_search.proofs.searcher.Searcher.resume.Goals as goal
use Rattle.ca_search.proofs.searcher.Searcher.resume.Goals.{in-Some, in_default}

pub returns : goal.returns
returns c =
    let s = c.self.inside in
    elim c.match-get_mut.branch [
      | in-Some w ↦
          rw (w.self-inside-is)
          (one-left-at c.args.self.now s.moment c.args.now c.max-now.result c.args.cid s.places.entries _ resumed c.self.view_is c.max-now.ensures
          (one-set (resumed c.max-now.result) c.args.cid s.places.entries _ w.in-Some.place.now w.resume.new.self (c.get_mut.follows.holds w.resume.new.self).0 w.resume.ensures w.in-Some.ensures.value))
      | in_default w ↦
          rw (w.self-inside-is)
          (one-left-at c.args.self.now s.moment c.args.now c.max-now.result c.args.cid s.places.entries _ resumed c.self.view_is c.max-now.ensures
          (none-set (resumed c.max-now.result) c.args.cid s.places.entries _ (ap (λ m. m.entries) c.get_mut.follows.holds-at-none) w.in_default.ensures.value))
    ]
