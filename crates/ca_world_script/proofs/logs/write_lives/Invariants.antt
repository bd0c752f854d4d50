use Rattle.std.proofs.Common.{◌≡◌, ◌++◌, take}
use Rattle.ca_world_script.specs.Lives.{logs_of}
use Rattle.ca_world_script.specs.Logs.{lives_text}
use Rattle.ca_world_script.proofs.logs.write_lives.Given as goal

abbrev pub invariant-loop-life : goal.invariant-loop-life
invariant-loop-life l = l.out.items ≡ l.fn.out.items ++ lives_text l.client (logs_of l.logs) (take l.life-index l.lives)
