use Rattle.std.proofs.Common.{◌≡◌, ◌++◌, take}
use Rattle.std.specs.Prelude.{map}
use Rattle.std.specs.List.{flat_map}
use Rattle.ca_world_data.specs.Seen.{line_of}
use Rattle.ca_world_script.specs.Logs.{line_text}
use Rattle.ca_world_script.proofs.logs.write_log.Given as goal

abbrev pub invariant-loop-line : goal.invariant-loop-line
invariant-loop-line l = l.out.items ≡ l.fn.out.items ++ flat_map (line_text l.client (map line_of l.log)) (map line_of (take l.line-index l.log))
