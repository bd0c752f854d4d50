-- Room for messages on a circuit.
use Rattle.std.proofs.Common.{◌≡◌, ℕ, zero, suc, ◌+◌, ◌≤◌, List, [], ◌∷◌, Some, length, sym, ap, subst, ◌∙◌, arith}
use Rattle.std.specs.Prelude.{map, slice_set, Vec, vec_capacity, vec_len}
use Rattle.std.specs.declared.alloc.Global.{Global}
use Rattle.ca_arena.specs.declared.handle.Handle.{Handle}
use Rattle.ca_text.specs.Place.{At}
use Rattle.ca_text.proofs.Places.{At-map, At-one, At-within, some_is}
use Rattle.ca_model.specs.History as history
use Rattle.ca_model.specs.World as model
use Rattle.ca_world_data.specs.declared.client.ClientSide.{ClientSide}
use Rattle.ca_world_data.specs.declared.history.Line.{Line}
use Rattle.ca_world_data.specs.declared.joined.Joined.{Joined}
use Rattle.ca_world_data.specs.declared.way.ChannelRoute.{ChannelRoute}
use Rattle.ca_world_data.specs.Found.{AreNumbered}
use Rattle.ca_world_data.specs.Logs.{HasRoom}
use Rattle.ca_world_data.specs.Seen.{client_of, joined_of}
use Rattle.ca_world_data.specs.Speaking.{GoesUp, HasRoomUp, IsReady, IsWay, with_up}
use Rattle.ca_world_data.proofs.Worlds.{set-map}

-- the circuit of this place has room now
pub room-up : (ks : List Joined) (k n : ℕ) (new : Joined) → vec_len new.lists.up + n ≤ vec_capacity new.lists.up → HasRoomUp n (Some k) (slice_set ks k new)
room-up [] k n new room j at = absurd cc
room-up (x ∷ ks) zero n new room j at = subst (λ (z : Joined). vec_len z.lists.up + n ≤ vec_capacity z.lists.up) (some_is new j at) room
room-up (x ∷ ks) (suc k) n new room j at = room-up ks k n new room j at

-- no circuit is there
pub room-up-none : (ks : List Joined) (k n : ℕ) → length ks ≤ k → HasRoomUp n (Some k) ks
room-up-none ks k n over j at = (let within = At-within ks k j at in absurd (omega (arith, over, within)))

-- the circuit of this place has a message more
pub goes-up : (ks : List Joined) (k : ℕ) (j new : Joined) (s : history.Sent) → At ks k j → joined_of new ≡ with_up s (joined_of j) → GoesUp (Some k) s (map joined_of ks) (map joined_of (slice_set ks k new))
goes-up ks k j new s at is i there =
    let same : i ≡ joined_of j = At-one (map joined_of ks) k i (joined_of j) there (At-map joined_of ks k j at) in
    set-map joined_of ks k new ∙ ap (slice_set (map joined_of ks) k) (is ∙ ap (with_up s) (sym same))

-- a client that is the same, with room for what a call leaves
pub ready : (i c : ℕ) (x x' : ClientSide) (ks ks' : List Joined) (logs : List (Vec Line Global)) (h : Handle) (way : ChannelRoute) → client_of x' ≡ client_of x → x'.circuits.items ≡ x.circuits.items → map joined_of ks' ≡ map joined_of ks
    → At x.names.channels.items c h → IsWay x.core (map joined_of ks) i h way → AreNumbered x.circuits.items (map joined_of ks) i → HasRoom 1 x'.life logs → HasRoomUp 1 way.circuit ks'
    → vec_len x'.names.requests + 1 ≤ vec_capacity x'.names.requests → vec_len x'.names.subscriptions + 1 ≤ vec_capacity x'.names.subscriptions → IsReady i c x' ks' logs (h, way)
ready i c x x' ks ks' logs h way side numbers circuits named is_way numbered lines messages requests subscriptions = record {
  named = subst (λ (z : model.ClientSide). At z.names.channels c h) (sym side) named;
  way = subst (λ (z : model.ClientSide × List model.Joined). IsWay z.0.core z.1 i h way) (λ t. (sym side t, sym circuits t)) is_way;
  numbered = subst (λ (z : List ℕ × List model.Joined). AreNumbered z.0 z.1 i) (λ t. (sym numbers t, sym circuits t)) numbered;
  lines = lines;
  messages = messages;
  requests = requests;
  subscriptions = subscriptions;
}
