use Rattle.std.proofs.Common.{◌≡◌, subst, sym, ap}
use Rattle.ca_wire.specs.Reading as wire
use Rattle.ca_wire.specs.Stream.{Held}
use Rattle.ca_link.specs.Link.{LinkState}
use Rattle.ca_link.proofs.Taking.{header_only-link, with_input}
use Rattle.ca_link.proofs.link.Link.next_without_payload.Goals as goal

pub returns : goal.returns
returns c =
    let held : c.self.inside.input ≡ c.args.self.now.input = ap (λ (l : LinkState). l.input) c.self.view_is in
    header_only-link c.args.command c.args.self.now _ c.next_without_payload.result c.next_without_payload.new.self (subst (λ (h : Held). wire.NextsHeaderOnly c.args.command h c.next_without_payload.result c.next_without_payload.new.self) held c.next_without_payload.ensures) (ap (λ (l : LinkState). with_input l c.next_without_payload.new.self) (sym c.self.view_is))
