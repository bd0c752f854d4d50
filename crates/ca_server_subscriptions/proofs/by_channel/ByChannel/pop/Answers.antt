use Rattle.std.proofs.Common.{◌≡◌, None, ℕ, ◌-◌, length, take, sym, ap, ◌∙◌, arith}
use Rattle.ca_server_subscriptions.specs.ByChannel.{IdLines, id_lines, ids_in}
use Rattle.ca_server_subscriptions.proofs.Channels.{but_last, found, not-added, taken-back, written}
use Rattle.ca_server_subscriptions.proofs.by_channel.ByChannel.pop.Goals as goal

pub returns-in_default : goal.returns-in_default
returns-in_default c ids is =
    let sid = c.args.key.sid in
    let empty = ap (λ (w : IdLines). ids_in w sid) (sym c.self.view_is) ∙ found (λ line. line.items) c.self.inside.lines.entries sid None (sym c.in_default.ensures.value) in
    absurd (not-added c.args.key ids (ids_in c.args.self.now) empty is)

pub returns : goal.returns
returns c ids is =
    let key = c.args.key in
    let line = c.in-Some.line.now in
    let all = line.ok in
    let long : line.len ≡ length line.items = omega (arith, all) in
    let did = c.pop.ensures.rest ∙ ap (λ (n : ℕ). take (n - 1) line.items) long in
    written (λ line. line.items) c.self.inside.lines (c.get_mut.follows.lender c.pop.new.self) key.sid line c.pop.new.self but_last (sym c.in-Some.ensures.value) (c.get_mut.follows.holds c.pop.new.self) did
    ∙ taken-back key ids (ids_in (id_lines (λ line. line.items) c.self.inside.lines.entries)) (ap (λ (w : IdLines). ids_in w) c.self.view_is ∙ is)
