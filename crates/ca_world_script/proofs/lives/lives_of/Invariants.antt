use Rattle.std.proofs.Common.{◌≡◌, ◌+◌, ◌++◌, drop}
use Rattle.ca_world_script.specs.Whole.{begun, lives_of}
use Rattle.ca_world_script.proofs.lives.lives_of.Given as goal

-- those of the restarts that are left make up the rest
abbrev pub invariant-loop-place : goal.invariant-loop-place
invariant-loop-place l = l.lives.items ++ begun l.client (l.clients + l.place) (drop l.place l.restarted) ≡ lives_of l.clients l.client l.restarted
