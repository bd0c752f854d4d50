-- Vocabulary: datagrams of searches: one VERSION, then SEARCH messages, at most 1,024 bytes.
use Rattle.std.specs.Prelude.{ℕ, ◌≡◌, ◌<◌, ◌≤◌, ◌++◌, List, [], ◌∷◌, length, Result, Ok, Err}
use Rattle.ca_text.specs.declared.refusal.Refusal.{Refusal}
use Rattle.ca_text.specs.declared.refusal.Refusal.TheVariants.{OutOfMemory, DatagramTooLong}
use Rattle.ca_text.specs.Limits.{datagram_limit}
use Rattle.ca_wire.specs.Message.{spelling}
use Rattle.ca_wire.specs.Messages.{search_request, version_reply}

-- the datagram up to the next search: its VERSION at least
abbrev pub begun : List ℕ → List ℕ
begun [] = spelling version_reply
begun (b ∷ bytes) = b ∷ bytes

-- the datagram with one search more
abbrev pub searched : List ℕ → ℕ → List ℕ → List ℕ
searched bytes cid name = begun bytes ++ spelling (search_request cid name)

-- Putting a search for this name into the datagram, with this answer, leaves new.
abbrev pub Searches : List ℕ → ℕ → List ℕ → Result (Unit {0}) Refusal → List ℕ → Type 0
Searches old cid name (Ok _) new = (length new ≤ datagram_limit) × (new ≡ searched old cid name)
Searches old cid name (Err DatagramTooLong) new =
    (datagram_limit < length (searched old cid name)) × (new ≡ old)
Searches old cid name (Err OutOfMemory) new =
    (length (searched old cid name) ≤ datagram_limit) × (new ≡ old)
Searches old cid name (Err _) new = ⊥
