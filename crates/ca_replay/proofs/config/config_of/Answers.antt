use Rattle.std.specs.Vec.Iter.{into_iter_items}
use Rattle.ca_replay.proofs.Goings.{no-taken}
use Rattle.ca_replay.proofs.config.config_of.Goals as goal

pub returns-then-not-branch-clause-err : goal.returns-then-not-branch-clause-err
returns-then-not-branch-clause-err c =
    no-taken c.args.servers.items (into_iter_items c.next-in-loop-server.new.self) (into_iter_items c.loop-server.server-iterator) c.in-Some-server.server c.loop-server.config c.add_server.new.self c.in_ok-add_server.field-0 c.in-Some-server.ensures.steps.0 c.loop-server.invariant.servers c.requires c.in_ok-add_server.ensures c.if-not-branch.true
