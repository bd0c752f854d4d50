use Rattle.std.proofs.Common.{None, sym, ap, ◌∙◌}
use Rattle.ca_server_subscriptions.specs.ByChannel.{IdLines, id_lines, ids_in}
use Rattle.ca_server_subscriptions.proofs.Channels.{changed, taken-out, unchanged}
use Rattle.ca_server_subscriptions.proofs.by_channel.ByChannel.drop_line.Goals as goal

pub returns-clause-stay : goal.returns-clause-stay
returns-clause-stay c =
    let empty = ap (λ (w : IdLines). ids_in w c.args.sid) c.self.view_is ∙ c.requires in
    changed (λ line. line.items) c.self.inside.lines c.swap_remove.new.self c.args.sid None (λ xs. xs) c.swap_remove.ensures.updates (sym empty)
    ∙ unchanged c.args.sid (ids_in (id_lines (λ line. line.items) c.self.inside.lines.entries))
    ∙ ap (λ (w : IdLines). ids_in w) c.self.view_is

pub returns-clause-gone : goal.returns-clause-gone
returns-clause-gone c = taken-out (λ line. line.items) c.self.inside.lines c.swap_remove.new.self c.args.sid c.swap_remove.ensures.updates
