-- Working: bytes reach a client.
use Rattle.std.specs.Prelude.{ℕ, ◌≡◌, ◌≤◌, ◌++◌, ◌∷◌, Bool, false, List, [], Option, Some, None}
use Rattle.std.specs.Prelude.{Ok, Err, Result, drop, is_none, length, nat_lt, take}
use Rattle.ca_arena.specs.declared.handle.Handle.{Handle}
use Rattle.ca_text.specs.declared.command.Command.{Command}
use Rattle.ca_text.specs.declared.refusal.Refusal.{Refusal}
use Rattle.ca_text.specs.declared.refusal.Refusal.TheVariants as refusal
use Rattle.ca_ids.specs.Table.{under}
use Rattle.ca_wire.specs.Messages.{header_only}
use Rattle.ca_client_core.specs.ForHistories.{flow_at}
use Rattle.ca_model.specs.Answers.{Sending}
use Rattle.ca_model.specs.Client.{Client, connection_at}
use Rattle.ca_model.specs.ClientEnds.{ClientGives}
use Rattle.ca_model.specs.History.{OfCircuit, Sent}
use Rattle.ca_model.specs.ServerSteps.{Sends, output_of}
use Rattle.ca_model.specs.World as model
use Rattle.ca_world_data.specs.declared.client.ClientSide.{ClientSide}
use Rattle.ca_world_data.specs.declared.joined.Joined.{Joined}
use Rattle.ca_world_data.specs.declared.server.ServerSide.{ServerSide}
use Rattle.ca_world_data.specs.Seen.{joined_of}

-- what a client said that sends this command, or none
abbrev pub flow_said : Option Command → List Sent
flow_said (Some c) = record { message = header_only c; intent = OfCircuit } ∷ []
flow_said None = []

-- a circuit on which the client said more
abbrev pub with_said : List Sent → model.Joined → model.Joined
with_said more j = record j { lists = record j.lists { up = j.lists.up ++ more } }

-- the client may lack memory for these bytes, if the circuit is connected
abbrev pub LacksDown : Client → Handle → List ℕ → Bool → Type 0
LacksDown x c bytes more =
    is_none (connection_at x c) ≡ false → ClientGives x c bytes more (Err refusal.OutOfMemory) [] x

-- The client takes these bytes, after which more wait or none, under this handle:
-- what it sent goes up.
abbrev pub TakesDown : ClientSide → Handle → List ℕ → Bool → List Sent → Result (Unit {0}) Refusal
    → ClientSide → List Sent → Type 0
TakesDown x c bytes more up (Ok _) x' up' =
    ((sent : List Sending) × ClientGives x.core c bytes more (Ok tt) sent x'.core)
    × (x' ≡ record x { core = x'.core }) × (up' ≡ up ++ flow_said (flow_at more x.core c))
TakesDown x c bytes more up (Err refusal.OutOfMemory) x' up' =
    LacksDown x.core c bytes more × (x' ≡ x) × (up' ≡ up)
TakesDown x c bytes more up (Err _) x' up' = ⊥

-- The client takes these bytes on this circuit, after which more wait or none.
pub record GoesDown (x : ClientSide) (j : Joined) (bytes : List ℕ) (more : Bool)
    (x' : ClientSide) : Type 0 where
  pub sent : List Sending
  pub gives : ClientGives x.core j.at_client bytes more (Ok tt) sent x'.core
  pub side : x' ≡ record x { core = x'.core }

-- The first n bytes that wait at the server reach the client.
abbrev pub HandsDown : ClientSide → ServerSide → Joined → (n : ℕ) → Result (Unit {0}) Refusal
    → ClientSide → ServerSide → Joined → Type 0
HandsDown x y j n (Ok _) x' y' j' =
    (let bytes : List ℕ = output_of (under y.core.circuits j.at_server) in
    (n ≤ length bytes) × GoesDown x j (take n bytes) (nat_lt n (length bytes)) x'
    × (joined_of j' ≡ with_said (flow_said (flow_at (nat_lt n (length bytes)) x.core j.at_client))
    (joined_of j)) × Sends y.core j.at_server n y'.core × (y' ≡ record y { core = y'.core }))
HandsDown x y j n (Err refusal.OutOfMemory) x' y' j' =
    (let bytes : List ℕ = output_of (under y.core.circuits j.at_server) in
    (n ≤ length bytes) × LacksDown x.core j.at_client (take n bytes) (nat_lt n (length bytes))
    × (x' ≡ x) × (y' ≡ y) × (joined_of j' ≡ joined_of j))
HandsDown x y j n (Err refusal.BadEvent) x' y' j' =
    (n ≤ length (output_of (under y.core.circuits j.at_server)) → ⊥) × (x' ≡ x) × (y' ≡ y)
    × (joined_of j' ≡ joined_of j)
HandsDown x y j n (Err _) x' y' j' = ⊥

-- The first n bytes that the server left reach the client.
abbrev pub LeavesDown : ClientSide → Joined → (n : ℕ) → Result (Unit {0}) Refusal → ClientSide
    → Joined → Type 0
LeavesDown x j n (Ok _) x' j' =
    (n ≤ length j.left_down) × GoesDown x j (take n j.left_down) (nat_lt n (length j.left_down)) x'
    × (joined_of j' ≡ record
    (with_said (flow_said (flow_at (nat_lt n (length j.left_down)) x.core j.at_client))
    (joined_of j)) { left_down = drop n j.left_down })
LeavesDown x j n (Err refusal.OutOfMemory) x' j' =
    (n ≤ length j.left_down)
    × LacksDown x.core j.at_client (take n j.left_down) (nat_lt n (length j.left_down)) × (x' ≡ x)
    × (joined_of j' ≡ joined_of j)
LeavesDown x j n (Err refusal.BadEvent) x' j' =
    (n ≤ length j.left_down → ⊥) × (x' ≡ x) × (joined_of j' ≡ joined_of j)
LeavesDown x j n (Err _) x' j' = ⊥
