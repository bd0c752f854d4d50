-- Working: the message of a write, and why it is refused. No clause of a caller needs it.
use Rattle.std.specs.Prelude.{ℕ, ◌≡◌, ◌∷◌, Bool, false, [], not, Option, None, Some, Result, Ok}
use Rattle.std.specs.Prelude.{Err}
use Rattle.ca_text.specs.declared.command.Command.{Command}
use Rattle.ca_text.specs.declared.refusal.Refusal.{Refusal}
use Rattle.ca_text.specs.declared.refusal.Refusal.TheVariants as refusal
use Rattle.ca_arena.specs.declared.handle.Handle.{Handle}
use Rattle.ca_dbr.specs.Elements.{Elements, bytes_of}
use Rattle.ca_records.specs.Rules.{may_write}
use Rattle.ca_wire.specs.Fields.{Fields}
use Rattle.ca_wire.specs.Messages.{put_request}
use Rattle.ca_model.specs.Client.{Client, Native}
use Rattle.ca_model.specs.ClientCalls.{IsLive, LiveChannel, first_refusal, is_misfit, is_over}
use Rattle.ca_model.specs.ClientCalls.{put_fault, wanted_by_put}
use Rattle.ca_client_core.specs.declared.live.Live.{Live}
use Rattle.ca_client_core.specs.Lives.{live_of}
use Rattle.ca_client_tables.specs.Puts.{IsSmall}

-- why a write to a live channel is refused
abbrev pub live_put_fault : Client → (full : Bool) → Handle → Native → (rights : ℕ) → Elements
    → Option Refusal
live_put_fault x full c n rights e =
    first_refusal ((not (may_write rights), refusal.NoAccess)
    ∷ (is_misfit n e, refusal.BadCount)
    ∷ (is_over x c, refusal.OutputFull)
    ∷ (full, refusal.ArenaFull)
    ∷ [])

-- A write to this live channel may go out while an id is free; or it is refused so.
abbrev pub MayPut : Client → Handle → Elements → Result Live Refusal → Type 0
MayPut x h e (Ok l) = IsLive x h (live_of l) × (put_fault x false h e ≡ None) × IsSmall e
MayPut x h e (Err f) = put_fault x false h e ≡ Some f

-- the message of a write of these elements, under this id
abbrev pub put_message : Command → LiveChannel → Elements → ℕ → Fields
put_message c l e id = put_request c (wanted_by_put l e id) (bytes_of e)
