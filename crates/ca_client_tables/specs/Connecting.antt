-- Working: parts of what connecting a circuit does. No clause of a caller needs it.
use Rattle.std.specs.Prelude.{ℕ, List, [], ◌∷◌, Option, filter, map, option_map, option_to_list}
use Rattle.ca_text.specs.declared.command.Command.TheVariants as command
use Rattle.ca_arena.specs.declared.handle.Handle.{Handle}
use Rattle.ca_arena.specs.Arena.{Place}
use Rattle.ca_ids.specs.Table.{Table, held}
use Rattle.ca_ids.specs.Wire.{wire_of}
use Rattle.ca_wire.specs.Fields.{Fields}
use Rattle.ca_wire.specs.Messages.{create_request, name_request, version_request}
use Rattle.ca_model.specs.Client.{Channel, is_on_in}
use Rattle.ca_model.specs.ClientEnds.{creating, is_connecting}

-- the set-up of a circuit under this priority, by this user at this host
abbrev pub greeting : ℕ → List ℕ → List ℕ → List Fields
greeting priority user host =
    version_request priority ∷ name_request command.ClientName user
    ∷ name_request command.HostName host ∷ []

-- the CREATE_CHAN of a channel
abbrev pub creation : Handle × Channel → Fields
creation e = create_request (wire_of e.0) e.1.name

-- those of the channels among these that wait for this circuit
abbrev pub creations_of : Handle → List (Handle × Channel) → List Fields
creations_of c es =
    map creation (filter (λ (e : Handle × Channel). is_on_in is_connecting c e.1) es)

abbrev pub creations_in : Handle → Table Channel → List Fields
creations_in c t = creations_of c (held t)

abbrev pub creations_at : Handle → Option (Handle × Channel) → List Fields
creations_at c o = creations_of c (option_to_list o)

-- the place of a channel, which is being created if it waited for this circuit
abbrev pub creating_at : Handle → Place Channel → Place Channel
creating_at c p = record p { value = option_map (creating c) p.value }
