use Rattle.std.proofs.Common.{◌≡◌, ◌≤◌, ◌+◌, take}
use Rattle.std.specs.Prelude.{vec_capacity, vec_len}
use Rattle.ca_model.specs.ClientEnds.{Ticking}
use Rattle.ca_client_core.specs.Moments.{all_ended}
use Rattle.ca_client_core.specs.Ticked.{Reports}
use Rattle.ca_client_core.proofs.client.ClientCore.end_each.Given as goal

abbrev pub invariant-loop-index : goal.invariant-loop-index
invariant-loop-index l =
    ((t : Ticking) → Reports t l.initial.self l.initial.closings.items → Reports (all_ended (take l.index l.ends) t) l.self l.closings.items)
    × (vec_len l.closings ≤ vec_len l.initial.closings + l.index)
    × (vec_capacity l.closings ≡ vec_capacity l.initial.closings)
