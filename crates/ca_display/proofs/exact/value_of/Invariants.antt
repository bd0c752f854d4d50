use Rattle.std.proofs.Common.{◌≡◌, drop}
use Rattle.ca_display.specs.Exact.{number_of}
use Rattle.ca_display.proofs.exact.value_of.Given as goal

abbrev pub invariant-loop-place : goal.invariant-loop-place
invariant-loop-place l = l.number ≡ number_of (drop l.place l.digits)
