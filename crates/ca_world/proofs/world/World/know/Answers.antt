use Rattle.std.proofs.Common.{subst}
use Rattle.ca_model.specs.Worlds.{IsLegalWorld, IsSafeWorld}
use Rattle.ca_model.specs.World.{World}
use Rattle.ca_world.specs.Whole.{seen}
use Rattle.ca_world.proofs.Ended.{came-promised}
use Rattle.ca_world.proofs.world.World.know.Goals as goal

pub returns-clause-safe : goal.returns-clause-safe
returns-clause-safe c = subst (λ (v : World). IsSafeWorld v) c.self.view_is (came-promised (seen c.self.inside) c.self.invariant.came_about).0

pub returns-clause-legal : goal.returns-clause-legal
returns-clause-legal c = subst (λ (v : World). IsLegalWorld v) c.self.view_is (came-promised (seen c.self.inside) c.self.invariant.came_about).1
