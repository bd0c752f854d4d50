use Rattle.std.proofs.Common.{◌≡◌, rules, subst, sym, true}
use Rattle.ca_client_core.specs.Replying.{ReadsReply}
use Rattle.ca_client_core.specs.declared.stepping.Reply.{Reply}
use Rattle.ca_client_core.proofs.Replied.{first-waits, reads-reply}
use Rattle.ca_client_core.proofs.client.ClientCore.read_reply.Goals as goal

pub returns-in-Message : goal.returns-in-Message
returns-in-Message c =
    let x = c.args.self.now in
    let yes : c.is_reply.result ≡ true = search rules in
    subst (λ (r : Reply). ReadsReply x c.args.circuit r c.complete.new.self) (sym c.as_reply.ensures)
    (reads-reply x c.args.circuit c.in-Message.head c.complete.result c.complete.new.self c.in-Message.ensures (c.is_reply.ensures yes) c.complete.ensures)
