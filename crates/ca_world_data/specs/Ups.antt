-- Working: bytes reach a server.
use Rattle.std.specs.Prelude.{ℕ, ◌≡◌, ◌≢◌, ◌≤◌, Ok, Err, Result, drop, length, take}
use Rattle.ca_arena.specs.declared.handle.Handle.{Handle}
use Rattle.ca_text.specs.declared.refusal.Refusal.{Refusal}
use Rattle.ca_text.specs.declared.refusal.Refusal.TheVariants as refusal
use Rattle.ca_model.specs.Client.{out_bytes}
use Rattle.ca_model.specs.ClientEnds.{handed_over}
use Rattle.ca_model.specs.ServerSteps.{Gives}
use Rattle.ca_world_data.specs.declared.client.ClientSide.{ClientSide}
use Rattle.ca_world_data.specs.declared.joined.Joined.{Joined}
use Rattle.ca_world_data.specs.declared.server.ServerSide.{ServerSide}

-- The first n bytes that wait at the client reach the server.
abbrev pub HandsUp : ClientSide → ServerSide → (at_client at_server : Handle) → (n : ℕ)
    → Result (Unit {0}) Refusal → ClientSide → ServerSide → Type 0
HandsUp x y h g n (Ok _) x' y' =
    (n ≤ length (out_bytes x.core h)) × Gives y.core g (take n (out_bytes x.core h)) (Ok tt) y'.core
    × (y' ≡ record y { core = y'.core })
    × (x' ≡ record x { core = handed_over h n x.core })
HandsUp x y h g n (Err refusal.OutOfMemory) x' y' =
    (n ≤ length (out_bytes x.core h)) × (x' ≡ x) × (y' ≡ y) × (n ≢ 0)
HandsUp x y h g n (Err refusal.BadEvent) x' y' =
    (n ≤ length (out_bytes x.core h) → ⊥) × (x' ≡ x) × (y' ≡ y)
HandsUp x y h g n (Err _) x' y' = ⊥

-- The first n bytes that the client left reach the server.
abbrev pub LeavesUp : Joined → ServerSide → (at_server : Handle) → (n : ℕ)
    → Result (Unit {0}) Refusal → Joined → ServerSide → Type 0
LeavesUp j y g n (Ok _) j' y' =
    (n ≤ length j.left_up) × Gives y.core g (take n j.left_up) (Ok tt) y'.core
    × (y' ≡ record y { core = y'.core }) × (j' ≡ record j { left_up = drop n j.left_up })
LeavesUp j y g n (Err refusal.OutOfMemory) j' y' =
    (n ≤ length j.left_up) × (j' ≡ j) × (y' ≡ y) × (n ≢ 0)
LeavesUp j y g n (Err refusal.BadEvent) j' y' = (n ≤ length j.left_up → ⊥) × (j' ≡ j) × (y' ≡ y)
LeavesUp j y g n (Err _) j' y' = ⊥
