use Rattle.std.proofs.Common.{All, take, ◌<◌, ◌^◌}
use Rattle.ca_dbr.proofs.display.know_limits.Given as goal

abbrev pub invariant-loop-limit : goal.invariant-loop-limit
invariant-loop-limit l = All (λ n. n < 2 ^ 64) (take l.limit-index l.limits)
