use Rattle.std.proofs.Common.{ap}
use Rattle.ca_model.specs.Server.{ServerEnd}
use Rattle.ca_server_circuit.proofs.Created.{opened-stay}
use Rattle.ca_server_circuit.proofs.Replying.{in-err}
use Rattle.ca_server_circuit.proofs.end.End.open_channel.Goals as goal

pub returns-in_err-send-clause-channels : goal.returns-in_err-send-clause-channels
returns-in_err-send-clause-channels c =
    in-err _ (opened-stay c.self.inside.channels c.open.new.self c.args.self.now.channels c.in_ok-handle.handle _ (ap (λ (x : ServerEnd). x.channels) c.self.view_is) c.in_ok-handle.ensures.ok)

pub returns-clause-channels : goal.returns-clause-channels
returns-clause-channels c =
    opened-stay c.self.inside.channels c.open.new.self c.args.self.now.channels c.in_ok-handle.handle _ (ap (λ (x : ServerEnd). x.channels) c.self.view_is) c.in_ok-handle.ensures.ok
