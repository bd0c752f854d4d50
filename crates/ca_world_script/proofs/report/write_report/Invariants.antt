use Rattle.std.proofs.Common.{◌≡◌}
use Rattle.std.specs.List.{flat_map, range_with_len}
use Rattle.ca_world_script.specs.Lives.{logs_of}
use Rattle.ca_world_script.specs.Whole.{client_text}
use Rattle.ca_world_script.proofs.report.write_report.Given as goal

abbrev pub invariant-loop-client : goal.invariant-loop-client
invariant-loop-client l =
    record {
      text : l.text.items ≡ flat_map (client_text l.clients l.restarted.items (logs_of l.logs)) (range_with_len 0 l.client);
      out : l.out.items ≡ l.fn.out.items;
    }
