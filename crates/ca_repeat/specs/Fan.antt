-- What a repeater sends for a datagram, and its members afterwards (section "CA Repeater").
use Rattle.std.specs.Prelude.{ℕ, ◌≡◌, ◌≢◌, Bool, true, false, ◌&&◌, ◌||◌, not, nat_lt}
use Rattle.std.specs.Prelude.{if◌then◌else◌, List, [], ◌∷◌, ◌++◌, length, Vec, Result, Ok, Err}
use Rattle.std.specs.declared.alloc.Global.{Global}
use Rattle.ca_text.specs.declared.refusal.Refusal.{Refusal}
use Rattle.ca_text.specs.declared.refusal.Refusal.TheVariants.{OutOfMemory}
use Rattle.ca_text.specs.Limits.{repeater_members}
use Rattle.ca_wire.specs.Message.{spelling}
use Rattle.ca_dgram.specs.Messages.{confirm_message}
use Rattle.ca_repeat.specs.declared.address.UdpAddress.{UdpAddress}
use Rattle.ca_repeat.specs.declared.first.FirstMessage.{FirstMessage}
use Rattle.ca_repeat.specs.Addresses.{is_member, loopback, same}
use Rattle.ca_repeat.specs.First.{IsFirst, passed, registers}
use Rattle.ca_repeat.specs.Sent.{Sent}

-- The registration of this sender is answered: it comes from 127.x.x.x, and the sender is a member
-- or there is room for one more.
abbrev pub admits : List UdpAddress → UdpAddress → FirstMessage → Bool
admits members from first =
    registers first && loopback from &&
    (is_member members from || nat_lt (length members) repeater_members)

abbrev pub confirmed : Bool → UdpAddress → List Sent
confirmed true to = record { to = to; bytes = spelling confirm_message } ∷ []
confirmed false to = []

-- the bytes to each of the members but the sender, in order of registration
abbrev pub to_others : List ℕ → UdpAddress → List UdpAddress → List Sent
to_others bytes from [] = []
to_others bytes from (m ∷ members) =
    if same m from then to_others bytes from members
    else record { to = m; bytes = bytes } ∷ to_others bytes from members

-- nothing is handed on if there is no byte
abbrev pub handed : List ℕ → UdpAddress → List UdpAddress → List Sent
handed [] from members = []
handed (b ∷ bytes) from members = to_others (b ∷ bytes) from members

abbrev pub enrolled : Bool → List UdpAddress → UdpAddress → List UdpAddress
enrolled true members from = members ++ from ∷ []
enrolled false members from = members

-- what is sent for a datagram: the confirmation goes out first
abbrev pub sent_for : List UdpAddress → UdpAddress → FirstMessage → List ℕ → List Sent
sent_for members from first bytes =
    confirmed (admits members from first) from ++ handed (passed first from.ip bytes) from members

-- From these members, a datagram of these bytes came from this address, with this answer, and left
-- new. Memory is asked for only if something is sent.
abbrev pub Receives : List UdpAddress → UdpAddress → List ℕ → Result (Vec Sent Global) Refusal
    → List UdpAddress → Type 0
Receives old from bytes (Ok sends) new =
    (first : FirstMessage) × IsFirst bytes first × (sends.items ≡ sent_for old from first bytes)
    × (new ≡ enrolled (admits old from first && not (is_member old from)) old from)
Receives old from bytes (Err OutOfMemory) new =
    (first : FirstMessage) × IsFirst bytes first × (sent_for old from first bytes ≢ [])
    × (new ≡ old)
Receives old from bytes (Err _) new = ⊥
