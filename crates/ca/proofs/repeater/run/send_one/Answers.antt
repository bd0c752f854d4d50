use Rattle.ca.proofs.Repeatings.{sends-refused}
use Rattle.ca.proofs.repeater.run.send_one.Goals as goal

pub returns-in-Err : goal.returns-in-Err
returns-in-Err g c =
    sends-refused g.D.Datagrams.went g.D.Datagrams.refuses c.args.datagrams.now c.args.repeater.now c.args.send.now c.send.new.self c.refused.new.self c.to.result c.to-in-Err.result c.bytes.result.now c.to.ensures c.bytes.ensures c.to-in-Err.ensures c.in-Err.ensures.refuses c.refused.ensures
