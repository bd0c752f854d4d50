-- Working: the events after which the server may still send just what it might before.
use Rattle.ca_model.specs.Events.{Event}
use Rattle.ca_model.specs.Events as event

-- All but a step of a client or of a server, updates that leave their queues, a
-- finish and a removal.
abbrev pub IsCalm : Event → Type 0
IsCalm (event.ClientStep k) = ⊥
IsCalm (event.ServerStep k) = ⊥
IsCalm (event.Pump k) = ⊥
IsCalm (event.Finish i name) = ⊥
IsCalm (event.Remove i name) = ⊥
IsCalm e = Unit {0}
