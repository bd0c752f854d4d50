use Rattle.std.proofs.Common.{List, ℕ, ◌-◌, None, Some, length, slice_get, sym, ap, ◌∙◌}
use Rattle.ca_server_subscriptions.specs.ByChannel.{IdLines, ids_in}
use Rattle.ca_server_subscriptions.proofs.Channels.{found}
use Rattle.ca_server_subscriptions.proofs.by_channel.ByChannel.last.Goals as goal

pub returns-in-Some : goal.returns-in-Some
returns-in-Some c =
    let here = found (λ line. line.items) c.self.inside.lines.entries c.args.sid (Some c.in-Some.line.now) (sym c.in-Some.ensures.value) in
    c.copied.ensures ∙ c.last.ensures.value
    ∙ ap (λ (xs : List ℕ). slice_get xs (length xs - 1)) (c.as_slice.ensures.value ∙ sym here ∙ ap (λ (w : IdLines). ids_in w c.args.sid) c.self.view_is)

pub returns-in-None : goal.returns-in-None
returns-in-None c =
    let here = found (λ line. line.items) c.self.inside.lines.entries c.args.sid None (sym c.in-None.ensures.value) in
    ap (λ (xs : List ℕ). slice_get xs (length xs - 1)) (sym here ∙ ap (λ (w : IdLines). ids_in w c.args.sid) c.self.view_is)
