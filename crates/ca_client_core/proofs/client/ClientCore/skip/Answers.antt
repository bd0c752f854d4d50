use Rattle.std.proofs.Common.{refl}
use Rattle.ca_model.specs.Hears as hears
use Rattle.ca_model.specs.Hears.{becomes}
use Rattle.ca_client_core.specs.First.{without_first}
use Rattle.ca_client_core.proofs.client.ClientCore.skip.Goals as goal

pub returns : goal.returns
returns c = (becomes (without_first c.args.circuit c.args.head.now c.args.self.now), hears.Other c.requires.other refl, c.none.ensures, c.take.ensures)
