use Rattle.std.proofs.Common.{List, sym, ap, ◌∙◌, subst}
use Rattle.ca_server_subscriptions.specs.ByRecord.{Drops, IsInLine, Lines, Receiver, lines_in, receivers_in}
use Rattle.ca_server_subscriptions.proofs.Lines.{drops-none, drops-own, lined}
use Rattle.ca_server_subscriptions.proofs.by_record.ByRecord.shorten.Goals as goal

pub returns-in_default : goal.returns-in_default
returns-in_default c key at =
    let new = c.get_mut.follows.lender-at-none in
    subst (λ (w : Lines). Drops c.args.name.now key w (lines_in (λ k. k.items) new.entries)) c.self.view_is
    (drops-none (λ k. k.items) c.self.inside.lines new c.args.name.now key c.get_mut.follows.holds-at-none (sym c.in_default.ensures.value))

pub take_out-requires : goal.take_out-requires
take_out-requires c =
    let name = c.args.name.now in
    subst (λ (rs : List Receiver). IsInLine c.args.standing.now.entries c.args.place rs)
    (ap (λ (w : Lines). receivers_in w name) (sym c.self.view_is) ∙ lined (λ k. k.items) name c.self.inside.lines.entries c.in-Some.line.now (sym c.in-Some.ensures.value))
    c.requires

pub returns : goal.returns
returns c key at =
    let new = c.get_mut.follows.lender c.take_out.new.self in
    subst (λ (w : Lines). Drops c.args.name.now key w (lines_in (λ k. k.items) new.entries)) c.self.view_is
    (drops-own (λ k. k.items) c.self.inside.lines new c.args.name.now key c.in-Some.line.now c.take_out.new.self (sym c.in-Some.ensures.value) (c.get_mut.follows.holds c.take_out.new.self) (c.take_out.ensures key at))
