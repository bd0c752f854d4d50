use Rattle.std.proofs.Common.{◌≡◌, ◌≤◌, length, take}
use Rattle.ca_client_core.specs.Marks.{undone}
use Rattle.ca_client_core.proofs.client.ClientCore.take_back.Given as goal

abbrev pub invariant-undoing : goal.invariant-undoing
invariant-undoing l = (l.left ≤ length l.marks) × (undone (take l.left l.marks) l.self ≡ undone l.marks l.initial.self)

abbrev pub decreases-undoing : goal.decreases-undoing
decreases-undoing l = l.left
