use Rattle.std.proofs.Common.{inl, refl}
use Rattle.ca_c.proofs.client.cvz_client_new.Goals as goal

-- what the box has is what was begun
pub returns-in-Ok : goal.returns-in-Ok
returns-in-Ok c = inl (refl, (c.in-Ok.object.value, (c.put.ensures, c.in-Ok.ensures.ok)))
