use Rattle.std.proofs.Common.{subst, ap}
use Rattle.ca_wire.specs.Reading as wire
use Rattle.ca_wire.specs.Stream.{Held}
use Rattle.ca_link.specs.Link.{LinkState}
use Rattle.ca_link.proofs.Taking.{short-link}
use Rattle.ca_link.proofs.link.Link.first_of_eight_bytes.Goals as goal

pub returns : goal.returns
returns c =
    short-link c.args.command c.args.self.now c.first_of_eight_bytes.result (subst (λ (h : Held). wire.FirstScalar c.args.command h c.first_of_eight_bytes.result) (ap (λ (l : LinkState). l.input) c.self.view_is) c.first_of_eight_bytes.ensures)
