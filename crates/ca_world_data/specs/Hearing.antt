-- Working: a datagram comes to a client.
use Rattle.std.specs.Prelude.{ℕ, ◌≡◌, List, Ok, Err, Result, map}
use Rattle.ca_text.specs.declared.refusal.Refusal.{Refusal}
use Rattle.ca_text.specs.declared.refusal.Refusal.TheVariants.{OutOfMemory}
use Rattle.ca_model.specs.Answers.{Sending}
use Rattle.ca_model.specs.ClientEnds.{Arrival, ClientReceives}
use Rattle.ca_model.specs.World.{ClientSide, Joined}
use Rattle.ca_world_data.specs.Speaking.{sent_up}

-- Client i took the datagram, and what it sent went up its circuits; or it had no memory for it,
-- and nothing is changed.
abbrev pub HearsDatagram : (i : ℕ) → Arrival → ClientSide → List Joined → Result (Unit {0}) Refusal
    → ClientSide → List Joined → Type 0
HearsDatagram i a x ks (Ok _) x' ks' =
    (sent : List Sending) × ClientReceives x.core a (Ok tt) sent x'.core
    × (x' ≡ record x { core = x'.core }) × (ks' ≡ map (sent_up i x.names sent) ks)
HearsDatagram i a x ks (Err OutOfMemory) x' ks' = (x' ≡ x) × (ks' ≡ ks)
HearsDatagram i a x ks (Err _) x' ks' = ⊥
