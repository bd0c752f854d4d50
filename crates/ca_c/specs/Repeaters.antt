-- Vocabulary: what each call of C does to a repeater: the contract of the call of `RepeaterCore`
-- that it makes, with the number that it answers.
use Rattle.std.specs.Prelude.{ℕ, ℤ, pos, ◌≡◌, ◌⊎◌, ◌+◌, List, [], Option, Some, None, Result, Ok}
use Rattle.std.specs.Prelude.{Err, Vec, filter, if◌then◌else◌, is_some, not, slice_get}
use Rattle.std.specs.declared.alloc.Global.{Global}
use Rattle.ca_repeat.specs.Addresses.{same}
use Rattle.ca_repeat.specs.Fan.{Receives}
use Rattle.ca_repeat.specs.Sent.{Sent}
use Rattle.ca_repeat.specs.declared.address.UdpAddress.{UdpAddress}
use Rattle.ca_text.specs.declared.refusal.Refusal.{Refusal}
use Rattle.ca_text.specs.declared.refusal.Refusal.TheVariants as refusal
use Rattle.ca_c.specs.Answers.{Shows, code_of, refusal_code}
use Rattle.ca_c.specs.declared.client_structs.CvzAddress.{CvzAddress}
use Rattle.ca_c.specs.declared.repeater_object.RepeaterObject.{RepeaterObject}

-- what C names as an address
abbrev pub place_of : CvzAddress → UdpAddress
place_of a = record { ip = a.host; port = a.port }

abbrev pub c_address : UdpAddress → CvzAddress
c_address a = record { host = a.ip; port = a.port }

-- a repeater with no member begins; or there is no memory, and C's struct has what it had
abbrev pub Begins : ℤ → Option RepeaterObject → Option RepeaterObject → Type 0
Begins n before after =
    ((n ≡ pos 0)
    × ((s : RepeaterObject)
    × ((after ≡ Some s) × (s.core ≡ []) × (s.sends.items ≡ []) × (s.taken ≡ 0))))
    ⊎ ((n ≡ refusal_code refusal.OutOfMemory) × (after ≡ before))

-- what is sent for a datagram waits for C, and none of it was taken
abbrev pub Waits : Result (Vec Sent Global) Refusal → RepeaterObject → RepeaterObject → Type 0
Waits (Ok sends) s t = (t.sends ≡ sends) × (t.taken ≡ 0)
Waits (Err e) s t = t ≡ s

unfoldable pub DoesDatagram : RepeaterObject → ℤ → RepeaterObject → CvzAddress → (bytes : List ℕ)
    → Type 0
DoesDatagram s n t from bytes =
    (r : Result (Vec Sent Global) Refusal)
    × ((n ≡ code_of r) × Receives s.core (place_of from) bytes r t.core × Waits r s t)

abbrev pub ShowsSend : Option Sent → ℕ → (to_before to_after : CvzAddress) → (before after : List ℕ)
    → Type 0
ShowsSend (Some d) n to_before to_after before after =
    Shows d.bytes n before after × (to_after ≡ c_address d.to)
ShowsSend None n to_before to_after before after =
    (n ≡ 0) × (to_after ≡ to_before) × (after ≡ before)

-- the next of the datagrams that are to be sent is handed over, if there is one
abbrev pub DoesOutgoing : RepeaterObject → ℕ → RepeaterObject → (to_before to_after : CvzAddress)
    → (before after : List ℕ) → Type 0
DoesOutgoing s n t to_before to_after before after =
    let next : Option Sent = slice_get s.sends.items s.taken in
    ShowsSend next n to_before to_after before after
    × (t ≡ record s { taken = if is_some next then s.taken + 1 else s.taken })

-- it is no longer a member
abbrev pub DoesRefused : RepeaterObject → ℤ → RepeaterObject → CvzAddress → Type 0
DoesRefused s n t to =
    (n ≡ pos 0) × (t ≡ record s { core = filter (λ m. not (same m (place_of to))) s.core })
