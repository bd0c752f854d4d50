use Rattle.std.proofs.Common.{sym}
use Rattle.ca_client_tables.specs.Silences.{echo_end}
use Rattle.ca_client_core.proofs.Placing.{sound-mapped}
use Rattle.ca_client_core.proofs.client.ClientCore.echo.Goals as goal

pub invariant_of-self-2 : goal.invariant_of-self-2
invariant_of-self-2 c =
    sound-mapped c.self.inside.channels c.self.inside.searches.entries c.self.inside.requests.table c.self.inside.monitors c.self.inside.circuits c.self.inside.lives.items c.self.invariant (echo_end c.self.inside.moment) c.args.circuit c.in-Some.found.now c.echo.new.self (sym c.in-Some.ensures.value) c.in_ok-echo.ensures.ok
