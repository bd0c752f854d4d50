use Rattle.std.proofs.Common.{ℕ, List, ◌++◌, ap, ◌∙◌}
use Rattle.ca_world_script.specs.Lives.{logs_of}
use Rattle.ca_world_script.specs.Whole.{client_text}
use Rattle.ca_world_script.proofs.Ranges.{texts-more}
use Rattle.ca_world_script.proofs.report.write_report.Goals as goal

pub loop-client-preserved : goal.loop-client-preserved
loop-client-preserved c =
    let logs = logs_of c.args.logs.now in
    let more = c.in_ok-write_client.ensures.ok ∙ ap (λ (r : List ℕ). c.loop-client.text.items ++ client_text c.args.clients r logs c.loop-client.client) c.deref.ensures.value in
    record {
      text = texts-more (client_text c.args.clients c.in_ok-restarted.restarted.items logs) c.loop-client.client c.loop-client.text.items c.write_client.new.text.items c.loop-client.invariant.text more;
      out = c.loop-client.invariant.out;
    }
