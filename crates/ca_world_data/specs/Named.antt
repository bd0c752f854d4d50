-- Working: what handles name.
use Rattle.std.specs.Prelude.{ℕ, ◌≡◌, List}
use Rattle.ca_arena.specs.declared.handle.Handle.{Handle}
use Rattle.ca_model.specs.History.{Intent}
use Rattle.ca_text.specs.Place.{At}
use Rattle.ca_model.specs.ClientEvents.{meant_by}
use Rattle.ca_model.specs.World.{ClientSide, Names}

-- each handle means what is beside it, so that none is named twice with another intent
abbrev pub MeanTheirs : List (Handle × Intent) → Type 0
MeanTheirs names = (i : ℕ) (e : Handle × Intent) → At names i e → meant_by names e.0 ≡ e.1

-- those of a client's requests and subscriptions do
abbrev pub IsMeant : Names → Type 0
IsMeant n = MeanTheirs n.requests × MeanTheirs n.subscriptions

-- and so it is of all clients
abbrev pub AreMeant : List ClientSide → Type 0
AreMeant clients = (i : ℕ) (x : ClientSide) → At clients i x → IsMeant x.names
