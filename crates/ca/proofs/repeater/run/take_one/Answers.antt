use Rattle.ca.proofs.Repeatings.{made-round}
use Rattle.ca.proofs.repeater.run.take_one.Goals as goal

pub returns-in-Ok-receive : goal.returns-in-Ok-receive
returns-in-Ok-receive g c =
    made-round g.D.Datagrams.went g.D.Datagrams.refuses g.D.Datagrams.came c.args.datagrams.now c.receive.new.self c.send_all.new.datagrams c.args.repeater.now c.receive-in-Ok.new.self c.send_all.new.repeater c.in-Ok.from _ c.in-Ok-receive.sends c.deref.result.now c.in-Ok.ensures.came c.in-Ok-receive.ensures c.deref.ensures.value c.send_all.ensures
