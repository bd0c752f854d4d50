use Rattle.std.proofs.Common.{ap, length, subst, sym}
use Rattle.ca_requests.specs.Forms.{asked_of}
use Rattle.ca_client_core.proofs.Requesting.{asks-or}
use Rattle.ca_model.specs.Client.{Client}
use Rattle.ca_model.specs.Placed.{WasLive}
use Rattle.ca_client_core.proofs.client.ClientCore.ask.Goals as goal

pub returns : goal.returns
returns c =
    asks-or c.args.self.now c.queue.new.self c.issue_or_cut.new.self (length c.out_bytes-waiting.result.now) c.args.vacant c.args.channel c.args.circuit (asked_of c.args.asked) c.args.message.now c.issue_or_cut.result (ap length c.out_bytes-waiting.ensures) c.in_ok-queue.ensures.ok c.issue_or_cut.ensures

pub issue_or_cut-requires : goal.issue_or_cut-requires
issue_or_cut-requires c = subst (λ (y : Client). WasLive y c.args.channel c.args.circuit) (sym c.in_ok-queue.ensures.ok) c.requires
