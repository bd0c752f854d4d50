use Rattle.std.proofs.Common.{refl}
use Rattle.ca_server.proofs.Counting.{counted_new}
use Rattle.ca_server.proofs.state.State.new.Goals as goal

pub invariant_of-result : goal.invariant_of-result
invariant_of-result g c =
    record { counted = counted_new c.args.port c.args.now c.args.rules.items c.args.records.now c.in_ok-new.field-0 c.args.book.total _ c.in_ok-credits.credits.items c.in_ok-new.ensures.ok c.know_apart.ensures c.requires c.in_ok-credits.ensures refl }
