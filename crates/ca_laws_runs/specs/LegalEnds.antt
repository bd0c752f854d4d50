-- Statement: what the ends of circuits send is what they may send: parts of what is said of
-- that, each by itself.
use Rattle.std.specs.Prelude.{ℕ, ◌≡◌, ◌≢◌, ◌<◌, ◌⊎◌, true, List, []}
use Rattle.ca_text.specs.declared.command.Command.TheVariants as command
use Rattle.ca_text.specs.Place.{At}
use Rattle.ca_wire.specs.Fields.{Fields}
use Rattle.ca_model.specs.History.{Circuit, Entry, Line, Removal, Removed, Told}
use Rattle.ca_model.specs.Sends.{Conduct, HasChannel, IsConnected, IsDisconnect, IsOnChannel}
use Rattle.ca_model.specs.Sends.{IsOpenAt, IsRefused, LegalServer, ReadsBetween}
use Rattle.ca_model.specs.Speech.{Gives, Is, SubId, sid_in}
use Rattle.ca_model.specs.Channels.{Created, IsUncleared, OfCircuits}
use Rattle.ca_model.specs.Legal.{client_conduct, server_conduct}
use Rattle.ca_model.specs.World.{World, told}

-- An update is for an EVENT_ADD that was read on a channel that is open, and neither was its record
-- removed nor the subscription cancelled or refused.
abbrev pub UpdatesWhatStands : Conduct → Type 0
UpdatesWhatStands e = (k : ℕ) (m : Fields) → At e.sent k m → Is command.EventAdd m → m.payload ≢ []
    → (i j cid : ℕ) × (add : Fields) × IsOpenAt e k i cid (sid_in add) × IsConnected e i k cid
    × ReadsBetween e i k j add × Gives add (SubId m.p2)
    × ((l : ℕ) (r : Fields) → j < l → ReadsBetween e i k l r → Is command.EventCancel r
    → r.p1 ≡ add.p1 → r.p2 ≢ add.p2)
    × (IsRefused e j add → ⊥)

-- So it is on each circuit of a world; and all that a server sends there is what it may send.
abbrev pub ServersUpdateWhatStands : World → Type 0
ServersUpdateWhatStands w =
    OfCircuits (told w)
    (λ (n : ℕ) (c : Circuit) (x : List Line) (y : List Entry). UpdatesWhatStands (server_conduct c))

abbrev pub ServersAreLegal : World → Type 0
ServersAreLegal w =
    OfCircuits (told w)
    (λ (n : ℕ) (c : Circuit) (x : List Line) (y : List Entry). LegalServer (server_conduct c))

-- A channel that was open when its record was removed has a SERVER_DISCONN, if the
-- server's end is open.
abbrev pub ServersTellOfRemovals : World → Type 0
ServersTellOfRemovals w =
    OfCircuits (told w) (λ (n : ℕ) (c : Circuit) (x : List Line) (y : List Entry).
    (j k sid r e : ℕ) → Created c y j k sid r → At y e (Removed r) → IsUncleared c k sid e
    → c.server_open ≡ true
    → (q : ℕ) × (t : Told) × At c.down q t × (t.place ≡ k) × (t.cause ≡ Removal))

-- A message on a channel goes out under the SID of one that the client has; after a SERVER_DISCONN
-- for it was read, only its CLEAR_CHANNEL does.
abbrev pub GoesByChannels : Conduct → Type 0
GoesByChannels e = (k : ℕ) (m : Fields) → At e.sent k m → IsOnChannel m
    → (i j cid : ℕ) × HasChannel e k i j cid (sid_in m)
    × ((Is command.ClearChannel m × (m.p2 ≡ cid))
    ⊎ ((Is command.ClearChannel m → ⊥)
    × ((l : ℕ) (r : Fields) → j < l → ReadsBetween e i k l r → IsDisconnect cid r → ⊥)))

abbrev pub ClientsGoByChannels : World → Type 0
ClientsGoByChannels w =
    OfCircuits (told w)
    (λ (n : ℕ) (c : Circuit) (x : List Line) (y : List Entry). GoesByChannels (client_conduct c))
