use Rattle.std.proofs.Common.{◌≡◌, ◌∙◌, ℕ, ap, length, subst, sym}
use Rattle.ca_text.specs.declared.command.Command.TheVariants as command
use Rattle.ca_dbr.specs.Elements.{elements}
use Rattle.ca_ids.specs.Wire.{wire_of}
use Rattle.ca_requests.specs.Requests as request
use Rattle.ca_client_tables.specs.Ends.{with_message}
use Rattle.ca_client_core.specs.Lives.{live_of}
use Rattle.ca_client_core.specs.Puts.{put_message}
use Rattle.ca_client_core.proofs.Requesting.{asks-or}
use Rattle.ca_model.specs.Client.{Client}
use Rattle.ca_model.specs.Placed.{WasLive}
use Rattle.ca_client_core.proofs.client.ClientCore.put.Goals as goal

pub returns : goal.returns
returns c =
    let l = live_of c.args.live in
    let v = elements c.args.value.now in
    let says : c.queue_value.new.self ≡ with_message l.circuit (put_message command.WriteNotify l v (wire_of c.args.vacant)) c.args.self.now =
    c.in_ok-queue_value.ensures.ok
    ∙ ap (λ (n : ℕ). with_message l.circuit (put_message command.WriteNotify l v n) c.args.self.now) (c.new-id.ensures ∙ c.number.ensures ∙ c.of.ensures) in
    asks-or c.args.self.now c.queue_value.new.self c.issue_or_cut.new.self (length c.out_bytes-waiting.result.now) c.args.vacant c.args.channel c.args.live.circuit request.Put (put_message command.WriteNotify l v (wire_of c.args.vacant)) c.issue_or_cut.result (ap length c.out_bytes-waiting.ensures) says c.issue_or_cut.ensures

pub issue_or_cut-requires : goal.issue_or_cut-requires
issue_or_cut-requires c = subst (λ (y : Client). WasLive y c.args.channel c.args.live.circuit) (sym c.in_ok-queue_value.ensures.ok) c.requires.live
