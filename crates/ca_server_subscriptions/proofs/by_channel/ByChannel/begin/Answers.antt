use Rattle.std.proofs.Common.{Some, List, ℕ, [], ◌∷◌, ◌++◌, sym, ap, ◌∙◌}
use Rattle.ca_server_subscriptions.specs.ByChannel.{IdLines, ids_in, with_id}
use Rattle.ca_server_subscriptions.proofs.Channels.{changed}
use Rattle.ca_server_subscriptions.proofs.by_channel.ByChannel.begin.Goals as goal

pub returns-clause-ok : goal.returns-clause-ok
returns-clause-ok c =
    let key = c.args.key in
    let empty = ap (λ (w : IdLines). ids_in w key.sid) c.self.view_is ∙ c.requires in
    let own = c.in_ok-push.ensures.items ∙ ap (λ (xs : List ℕ). xs ++ key.sub ∷ []) (c.new-line.ensures.items ∙ sym empty) in
    changed (λ line. line.items) c.self.inside.lines c.insert.new.self key.sid (Some c.push.new.self) (λ xs. xs ++ key.sub ∷ []) c.in_ok-insert.ensures.updates own
    ∙ ap (λ (w : IdLines). with_id key (ids_in w)) c.self.view_is
