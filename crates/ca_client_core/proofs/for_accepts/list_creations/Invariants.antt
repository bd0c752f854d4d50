use Rattle.std.proofs.Common.{◌≡◌, ◌++◌, map, take}
use Rattle.ca_ids.specs.Table.{held}
use Rattle.ca_client_core.specs.ForAccepts.{creations_among}
use Rattle.ca_client_core.specs.ForHistories.{sending_of}
use Rattle.ca_client_core.proofs.for_accepts.list_creations.Given as goal

-- those of the channels before this index are listed
abbrev pub invariant-loop-index : goal.invariant-loop-index
invariant-loop-index l = record { listed : map sending_of l.sent.items ≡ map sending_of l.initial.sent.items ++ creations_among l.circuit (held (take l.index l.channels)) }
