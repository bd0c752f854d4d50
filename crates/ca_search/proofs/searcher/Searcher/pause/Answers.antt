use Rattle.std.proofs.Common.{ap}
use Rattle.ca_search.specs.Searches.{paused}
use Rattle.ca_search.proofs.Entries.{one-left, none-set, one-set}
use Rattle.ca_search.proofs.searcher.Searcher.pause.Goals as goal
use Rattle.ca_search.proofs.searcher.Searcher.pause.Goals.{in-Some, in_default}

pub returns : goal.returns
returns c =
    let s = c.self.inside in
    elim c.match-get_mut.branch [
      | in-Some w ↦
          rw (w.self-inside-is)
          (one-left c.args.self.now s.moment c.args.cid s.places.entries _ paused c.self.view_is
          (one-set paused c.args.cid s.places.entries _ w.in-Some.place.now w.pause.new.self (c.get_mut.follows.holds w.pause.new.self).0 w.pause.ensures w.in-Some.ensures.value))
      | in_default w ↦
          rw (w.self-inside-is)
          (one-left c.args.self.now s.moment c.args.cid s.places.entries _ paused c.self.view_is
          (none-set paused c.args.cid s.places.entries _ (ap (λ m. m.entries) c.get_mut.follows.holds-at-none) w.in_default.ensures.value))
    ]
