use Rattle.std.proofs.Common.{rules, refl, map, Ok, Err}
use Rattle.ca_c.specs.Servers.{DoesDatagram}
use Rattle.ca_c.proofs.server_object.ServerObject.datagram.Goals as goal

-- the answers are those of the core, and none was taken
pub returns-in-Ok : goal.returns-in-Ok
unfolding DoesDatagram
returns-in-Ok c = (Ok (map (λ d. d.items) c.in-Ok.answers.items), (refl, c.in-Ok.ensures.ok, (refl, refl, refl, refl)))

-- nothing changed
pub returns-in-Err : goal.returns-in-Err
unfolding DoesDatagram
returns-in-Err c = (Err c.in-Err.refusal, (search rules, c.in-Err.ensures.err, refl))
