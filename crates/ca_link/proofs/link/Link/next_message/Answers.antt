use Rattle.std.proofs.Common.{◌≡◌, subst, sym, ap}
use Rattle.ca_wire.specs.Reading as wire
use Rattle.ca_wire.specs.Stream.{Held}
use Rattle.ca_link.specs.Link.{LinkState}
use Rattle.ca_link.proofs.Taking.{nexts-of, with_input}
use Rattle.ca_link.proofs.link.Link.next_message.Goals as goal

pub returns : goal.returns
returns c =
    let held : c.self.inside.input ≡ c.args.self.now.input = ap (λ (l : LinkState). l.input) c.self.view_is in
    nexts-of c.args.self.now _ c.next_message.result c.next_message.new.self (subst (λ (h : Held). wire.Nexts h c.next_message.result c.next_message.new.self) held c.next_message.ensures) (ap (λ (l : LinkState). with_input l c.next_message.new.self) (sym c.self.view_is))
