use Rattle.std.proofs.Common.{subst}
use Rattle.ca_model.specs.Server.{ServerEnd}
use Rattle.ca_server_circuit.specs.Subscribing.{events_of}
use Rattle.ca_server_subscriptions.specs.Subscribed.{HasRoom}
use Rattle.ca_server_circuit.proofs.end.End.know.Goals as goal

pub returns-clause-room : goal.returns-clause-room
returns-clause-room c = subst (λ (e : ServerEnd). HasRoom (events_of e)) c.self.view_is c.know.ensures.room
