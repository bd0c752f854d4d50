-- Working: what was sent on a circuit is taken back. No clause of a caller needs it.
use Rattle.std.specs.Prelude.{Option, false, option_map, unwrap_or}
use Rattle.ca_link.specs.declared.mark.Mark.{Mark}
use Rattle.ca_link.specs.Link.{mark_of, restored}
use Rattle.ca_model.specs.Client.{ClientCircuit, Connection}

-- the mark of an end, if there is one
abbrev pub mark_by : Option Connection → Mark
mark_by o =
    unwrap_or (option_map (λ (e : Connection). mark_of e.link) o)
    (record { waiting = 0; echoed = false })

abbrev pub mark_in : ClientCircuit → Mark
mark_in d = mark_by d.connection

-- an end as it was at this mark
abbrev pub end_restored : Mark → Connection → Connection
end_restored m e = record e { link = restored m e.link }

-- a circuit, the end of which is as it was
abbrev pub in_restored : Mark → ClientCircuit → ClientCircuit
in_restored m d = record d { connection = option_map (end_restored m) d.connection }
