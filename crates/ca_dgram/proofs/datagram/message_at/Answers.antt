use Rattle.ca_dgram.proofs.Readings.{made-cut}
use Rattle.ca_dgram.proofs.datagram.message_at.Goals as goal

pub returns : goal.returns
returns c = made-cut c.args.bytes.now c.in_ok-payload.payload.items c.args.head c.new.result c.requires c.in_ok-payload.ensures.items c.new.ensures
