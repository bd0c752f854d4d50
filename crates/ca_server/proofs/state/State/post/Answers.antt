use Rattle.ca_dbr.specs.Elements.{elements}
use Rattle.ca_dbr.specs.Held.{displayed_by}
use Rattle.ca_model.specs.Speech.{Stored}
use Rattle.ca_records.specs.Store.{display_at}
use Rattle.ca_server.proofs.CountedCalls.{posts}
use Rattle.ca_server.proofs.Counting.{counted_nothing}
use Rattle.ca_server.proofs.state.State.post.Goals as goal

pub invariant_of-self : goal.invariant_of-self
invariant_of-self g c =
    let s = c.args.self.now in
    let posted : Stored = record { value = displayed_by (display_at s.core.records c.args.name.now) (elements c.args.value); meta = c.args.meta } in
    record { counted = counted_nothing s.core c.post.new.self s.count s.book.total s.credits.items s.counted (posts s.core c.args.name.now posted c.args.mask c.post.ensures.0 c.post.result c.post.new.self c.post.ensures.1) }
