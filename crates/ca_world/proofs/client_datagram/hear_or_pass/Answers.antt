use Rattle.std.specs.Prelude.{map}
use Rattle.ca_world_data.specs.Seen.{client_of, joined_of}
use Rattle.ca_world.proofs.ClientHearings.{passed}
use Rattle.ca_world.proofs.client_datagram.hear_or_pass.Goals as goal

pub returns-else-begins_message-clause-hears : goal.returns-else-begins_message-clause-hears
returns-else-begins_message-clause-hears c =
    passed c.args.client (record { now = c.args.moment; from = c.args.from; bytes = c.args.bytes.now }) (client_of c.args.side.now) (client_of c.hear_datagram.new.side) (client_of c.pass.new.side) (map joined_of c.args.circuits.now.items) (map joined_of c.hear_datagram.new.circuits.items) c.in-Err.refusal c.pass.result
    (c.begins_message.ensures.none c.if-begins_message.false) c.in-Err.ensures.hears c.pass.ensures.passes
