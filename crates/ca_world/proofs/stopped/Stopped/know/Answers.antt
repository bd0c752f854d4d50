use Rattle.std.proofs.Common.{subst}
use Rattle.ca_model.specs.Worlds.{IsLegalWorld, IsSafeWorld}
use Rattle.ca_model.specs.World.{World}
use Rattle.ca_world.specs.Halted.{halted}
use Rattle.ca_laws_parts.specs.Worlds.{AllStream}
use Rattle.ca_world.proofs.Ended.{stopped-promised, stopped-streams}
use Rattle.ca_world.proofs.stopped.Stopped.know.Goals as goal

pub returns-clause-safe : goal.returns-clause-safe
returns-clause-safe c = subst (λ (v : World). IsSafeWorld v) c.self.view_is (stopped-promised (halted c.self.inside) c.self.invariant).0

pub returns-clause-legal : goal.returns-clause-legal
returns-clause-legal c = subst (λ (v : World). IsLegalWorld v) c.self.view_is (stopped-promised (halted c.self.inside) c.self.invariant).1

pub returns-clause-bytes : goal.returns-clause-bytes
returns-clause-bytes c = subst (λ (v : World). AllStream v) c.self.view_is (stopped-streams (halted c.self.inside) c.self.invariant)
