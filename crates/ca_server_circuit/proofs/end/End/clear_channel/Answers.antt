use Rattle.std.proofs.Common.{◌≡◌, ℕ, [], ◌∷◌, sym, ap, ◌∙◌, subst}
use Rattle.ca_ids.specs.Table.{Table}
use Rattle.ca_link.specs.Link.{with_sent}
use Rattle.ca_records.specs.Store.{records_of}
use Rattle.ca_wire.specs.Fields.{Fields}
use Rattle.ca_wire.specs.Messages.{cleared_reply}
use Rattle.ca_model.specs.Server.{OpenChannel, ServerEnd}
use Rattle.ca_server_circuit.specs.Clearing.{without_sid}
use Rattle.ca_server_circuit.specs.Handling.{AreServed}
use Rattle.ca_server_subscriptions.specs.Subscribed.{is_of_sid, without_those}
use Rattle.ca_server_circuit.specs.Stepping.{message_of}
use Rattle.ca_server_circuit.proofs.Joining.{cleared-end}
use Rattle.ca_server_circuit.proofs.end.End.clear_channel.Goals as goal

pub withdraw-requires-clause-served : goal.withdraw-requires-clause-served
withdraw-requires-clause-served c =
    subst (λ (t : Table OpenChannel). AreServed (records_of c.args.records.now) t) (sym (ap (λ (x : ServerEnd). x.channels) c.self.view_is)) c.requires.served

pub returns-clause-ok : goal.returns-clause-ok
returns-clause-ok c =
    let m = message_of c.args.header.now [] in
    let sid : c.new-sid.result ≡ m.p1 = c.new-sid.ensures in
    let reply = c.clear_request-reply.ensures ∙ (λ i. cleared_reply (record m { p1 = sid i; p2 = c.new.ensures i })) in
    cleared-end _ c.args.self.now c.clear.new.self c.close.new.self c.send.new.link (cleared_reply m ∷ []) m.p1 c.self.view_is
    (c.in_ok-send.ensures.ok ∙ ap (λ (x : Fields). with_sent (x ∷ []) c.self.inside.link) reply)
    (c.close.ensures ∙ ap (λ (n : ℕ). without_sid n c.self.inside.channels) sid)
    (c.clear.ensures ∙ ap (λ (n : ℕ). without_those (is_of_sid n) c.self.inside.subscriptions) sid)
