use Rattle.std.proofs.Common.{ap, length}
use Rattle.ca_client_core.proofs.Adding.{subscribes-or}
use Rattle.ca_client_core.proofs.client.ClientCore.add.Goals as goal

pub returns : goal.returns
returns c =
    subscribes-or c.args.self.now c.queue.new.self c.add_or_cut.new.self (length c.out_bytes-waiting.result.now) c.args.vacant c.args.circuit c.args.added c.args.message.now c.add_or_cut.result (ap length c.out_bytes-waiting.ensures) c.in_ok-queue.ensures.ok c.add_or_cut.ensures
