-- Working: a live channel of the code as the vocabulary has it, and why a call on a channel is
-- refused. No clause of a caller needs it.
use Rattle.std.specs.Prelude.{◌≡◌, ◌||◌, false, if◌then◌else◌, nat_lt, Option, None, Some}
use Rattle.std.specs.Prelude.{Result, Ok, Err}
use Rattle.ca_text.specs.declared.refusal.Refusal.{Refusal}
use Rattle.ca_text.specs.declared.refusal.Refusal.TheVariants as refusal
use Rattle.ca_arena.specs.declared.handle.Handle.{Handle}
use Rattle.ca_ids.specs.Table.{is_full}
use Rattle.ca_model.specs.Client.{Client}
use Rattle.ca_model.specs.ClientCalls.{IsLive, LiveChannel, Shape, ask_fault, typed_fault}
use Rattle.ca_client_core.specs.declared.live.Live.{Live}
use Rattle.ca_client_tables.specs.Forms.{native_of}

abbrev pub live_of : Live → LiveChannel
live_of l = record { circuit = l.circuit; native = native_of l.native; rights = l.rights }

-- a live channel, or why it is none
abbrev pub lives : Result Live Refusal → Result LiveChannel Refusal
lives (Ok l) = Ok (live_of l)
lives (Err e) = Err e

-- A read or a subscription on this live channel may go out while an id is free;
-- or it is refused so.
abbrev pub MayAsk : Client → Handle → Shape → Result Live Refusal → Type 0
MayAsk x h a (Ok l) = IsLive x h (live_of l) × (ask_fault x false h a ≡ None)
MayAsk x h a (Err e) = ask_fault x false h a ≡ Some e

-- why a read that may go out is refused: no IOID is free
abbrev pub ioid_fault : Client → Option Refusal
ioid_fault x = if is_full x.requests then Some refusal.ArenaFull else None

-- A read with display data on this live channel may go out while an id is free; or it is refused
-- so.
abbrev pub MayAskDisplay : Client → Handle → Shape → Result Live Refusal → Type 0
MayAskDisplay x h a (Ok l) =
    IsLive x h (live_of l)
    × (typed_fault (nat_lt a.data_type 21 || nat_lt 34 a.data_type) x false h a ≡ None)
MayAskDisplay x h a (Err e) =
    typed_fault (nat_lt a.data_type 21 || nat_lt 34 a.data_type) x false h a ≡ Some e
