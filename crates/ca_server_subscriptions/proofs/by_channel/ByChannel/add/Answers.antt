use Rattle.std.proofs.Common.{None, [], ◌∷◌, ◌++◌, sym, ap, ◌∙◌}
use Rattle.ca_server_subscriptions.specs.ByChannel.{IdLines, id_lines, ids_in, with_id}
use Rattle.ca_server_subscriptions.proofs.Channels.{found, unchanged, written}
use Rattle.ca_server_subscriptions.proofs.Placing.{in-err}
use Rattle.ca_server_subscriptions.proofs.by_channel.ByChannel.add.Goals as goal

pub returns-in_err-push-clause-err : goal.returns-in_err-push-clause-err
returns-in_err-push-clause-err c =
    let sid = c.args.key.sid in
    let old = c.self.inside.lines in
    let new = c.get_mut.follows.lender c.push.new.self in
    in-err c.from_residual.result
    (written (λ line. line.items) old new sid c.in-Some.line.now c.push.new.self (λ xs. xs) (sym c.in-Some.ensures.value) (c.get_mut.follows.holds c.push.new.self) c.in_err-push.ensures.items
    ∙ unchanged sid (ids_in (id_lines (λ line. line.items) old.entries))
    ∙ ap (λ (w : IdLines). ids_in w) c.self.view_is)

pub returns-in-Some-clause-ok : goal.returns-in-Some-clause-ok
returns-in-Some-clause-ok c =
    let key = c.args.key in
    let new = c.get_mut.follows.lender c.push.new.self in
    written (λ line. line.items) c.self.inside.lines new key.sid c.in-Some.line.now c.push.new.self (λ xs. xs ++ key.sub ∷ []) (sym c.in-Some.ensures.value) (c.get_mut.follows.holds c.push.new.self) c.in_ok-push.ensures.items
    ∙ ap (λ (w : IdLines). with_id key (ids_in w)) c.self.view_is

pub begin-requires : goal.begin-requires
begin-requires c =
    ap (λ m. ids_in (id_lines (λ line. line.items) m.entries) c.args.key.sid) c.get_mut.follows.holds-at-none
    ∙ found (λ line. line.items) c.self.inside.lines.entries c.args.key.sid None (sym c.in_default.ensures.value)
