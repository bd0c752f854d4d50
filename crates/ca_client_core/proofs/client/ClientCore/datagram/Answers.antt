use Rattle.std.proofs.Common.{[], map, refl}
use Rattle.ca_client_core.specs.ForHistories.{sending_of}
use Rattle.ca_client_core.proofs.client.ClientCore.datagram.Goals as goal

pub returns-in-Ok : goal.returns-in-Ok
returns-in-Ok c = (map sending_of c.in-Ok._sent.items, c.in-Ok.ensures.0)

pub returns-in-Err : goal.returns-in-Err
returns-in-Err c = ([], (c.in-Err.ensures.1, (refl, c.in-Err.ensures.0)))
