-- Working: circuits that are opened once all messages of a datagram were received, each with the
-- handle that it will have. No clause of a caller needs it.
use Rattle.std.specs.Prelude.{◌≡◌, List, [], ◌∷◌, None}
use Rattle.ca_arena.specs.declared.handle.Handle.{Handle}
use Rattle.ca_ids.specs.Table.{MayGive, Table, with_held}
use Rattle.ca_model.specs.Client.{ClientCircuit}

-- each of these handles may be given, once those before it are, and none of these
-- circuits is connected
abbrev pub AreOpening : List (Handle × ClientCircuit) → Table ClientCircuit → Type 0
AreOpening [] t = Unit {0}
AreOpening (e ∷ es) t =
    MayGive t e.0 × (e.1.connection ≡ None) × AreOpening es (with_held e.0 e.1 t)
