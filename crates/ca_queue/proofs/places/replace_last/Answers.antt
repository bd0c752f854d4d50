use Rattle.std.proofs.Common.{add-one}
use Rattle.ca_queue.proofs.Entries.{with_last_at}
use Rattle.ca_queue.proofs.places.replace_last.Goals as goal

pub returns-clause-items : goal.returns-clause-items
returns-clause-items g c =
    with_last_at c.args.key c.args.entry c.args.entries.now.items c.last_place-place.result c.last_place-place.ensures.here (rw add-one at c.last_place-place.ensures.behind)
