use Rattle.std.proofs.Common.{sym, ◌∙◌}
use Rattle.ca_server_subscriptions.proofs.Lines.{noted}
use Rattle.ca_server_subscriptions.proofs.by_record.ByRecord.note.Goals as goal

pub returns : goal.returns
returns c =
    noted (λ k. k.items) c.self.inside.lines.entries c.args.recent c.in-Some.line.now c.note.new.self (sym c.in-Some.ensures.value) c.note.ensures ∙ c.self.view_is
