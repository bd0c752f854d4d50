-- Working: of which ids the replies to a message speak, by what its server knew.
use Rattle.std.specs.Prelude.{ℕ, ◌≡◌, ◌⊎◌}
use Rattle.ca_text.specs.declared.command.Command.TheVariants as command
use Rattle.ca_wire.specs.Fields.{Fields}
use Rattle.ca_model.specs.Due.{IsUnknown, KnownChannel, Knows}
use Rattle.ca_model.specs.Speech.{Id, Cid, SubId, Gives, In, Is}

-- A WRITE under this SID is refused with this CID: that of the open channel, or none if no open
-- channel has the SID.
abbrev pub IsCidAt : Knows → (sid cid : ℕ) → Type 0
IsCidAt k sid cid =
    ((c : KnownChannel) × In k.channels c × (c.sid ≡ sid) × (c.cid ≡ cid)) ⊎ IsUnknown k sid cid

-- The id is one that the message gives; of a CLEAR_CHANNEL its CID, of an EVENT_CANCEL its
-- subscription id, and of a WRITE the CID of the channel that is open under its SID.
abbrev pub IsOfMessage : Knows → Fields → Id → Type 0
IsOfMessage k m id =
    Gives m id
    ⊎ ((Is command.ClearChannel m × (id ≡ Cid m.p2))
    ⊎ ((Is command.EventCancel m × (id ≡ SubId m.p2))
    ⊎ (Is command.Write m × ((cid : ℕ) × IsCidAt k m.p1 cid × (id ≡ Cid cid)))))
