use Rattle.std.proofs.Common.{inl, refl}
use Rattle.ca_c.proofs.server.cvz_server_load.Goals as goal

-- what the box has is what was loaded
pub returns-in-Ok : goal.returns-in-Ok
returns-in-Ok c = inl (refl, (c.in-Ok.object.value, (c.put.ensures, c.in-Ok.ensures.ok)))
