use Rattle.std.proofs.Common.{All, take, length, ◌≡◌}
use Rattle.ca_dbr.proofs.display.know_names.Given as goal

abbrev pub invariant-loop-name : goal.invariant-loop-name
invariant-loop-name l = All (λ n. length n ≡ 26) (take l.name-index l.names)
