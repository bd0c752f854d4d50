-- What a message begins on its circuit has the room that was made for its command.
use Rattle.std.proofs.Common.{◌≡◌, ℕ, ◌+◌, ◌≤◌, Bool, true, false, cond, List, sym, subst}
use Rattle.std.specs.Prelude.{Vec, vec_capacity, vec_len}
use Rattle.std.specs.declared.alloc.Global.{Global}
use Rattle.ca_queue.specs.Queue.{Queue}
use Rattle.ca_text.specs.Command.{command_number}
use Rattle.ca_text.specs.declared.command.Command.TheVariants as command
use Rattle.ca_wire.specs.Fields.{Fields}
use Rattle.ca_model.specs.Due.{Action, Adds, Applies, Clears, Drops, Due, Greets, KnownChannel, Knows, Names, Nothing, Opens, Switches, Waits}
use Rattle.ca_model.specs.Server.{Subscription}
use Rattle.ca_server_circuit.specs.Effects.{effect_due}
use Rattle.ca_server_circuit.specs.declared.effect.Effect.{Effect}
use Rattle.ca_server_circuit.specs.declared.effect.Effect.TheVariants as effect
use Rattle.ca_world_data.specs.declared.history.Cause.{Cause}
use Rattle.ca_world_data.specs.declared.joined.AddedSubscription.{AddedSubscription}
use Rattle.ca_world_data.specs.declared.joined.CreatedChannel.{CreatedChannel}
use Rattle.ca_world_data.specs.declared.joined.Joined.{Joined}
use Rattle.ca_world_servers.specs.Effects.{HasRoomBy}
use Rattle.ca_world_servers.specs.Handling.{FirstIsRoomy, HasRoomToBegin}
use Rattle.ca_world_servers.proofs.Dealt.{due-cases, idle}

-- a channel is created by a CREATE_CHAN
opens-by : (k : Knows) (m : Fields) (replies : List Fields) (c : KnownChannel) → Due k m replies (Opens c) → m.command ≡ command_number command.CreateChannel
opens-by k m replies c due = due-cases k m replies (Opens c) (m.command ≡ command_number command.CreateChannel) due (record {
  nothing = λ is. absurd cc;
  greets = λ is. absurd cc;
  names = λ p is. absurd cc;
  opens = λ n d is. n;
  clears = λ n is. absurd cc;
  adds = λ n d none is. absurd cc;
  drops = λ n is. absurd cc;
  off = λ n is. absurd cc;
  on = λ n is. absurd cc;
  writes = λ n d v taken is. absurd cc;
  puts = λ n d v taken is. absurd (put _ d.channel.name v d.known.state.slow is);
})
  where
    put : (b : Bool) (name : List ℕ) (v : _) (slow : Bool) → Opens c ≡ cond b (Waits name v) (Applies name v slow) → ⊥
    put true name v slow is = cc
    put false name v slow is = cc

-- a subscription begins by an EVENT_ADD
adds-by : (k : Knows) (m : Fields) (replies : List Fields) (s : Subscription) → Due k m replies (Adds s) → m.command ≡ command_number command.EventAdd
adds-by k m replies s due = due-cases k m replies (Adds s) (m.command ≡ command_number command.EventAdd) due (record {
  nothing = λ is. absurd cc;
  greets = λ is. absurd cc;
  names = λ p is. absurd cc;
  opens = λ n d is. absurd cc;
  clears = λ n is. absurd cc;
  adds = λ n d none is. n;
  drops = λ n is. absurd cc;
  off = λ n is. absurd cc;
  on = λ n is. absurd cc;
  writes = λ n d v taken is. absurd cc;
  puts = λ n d v taken is. absurd (put _ d.channel.name v d.known.state.slow is);
})
  where
    put : (b : Bool) (name : List ℕ) (v : _) (slow : Bool) → Adds s ≡ cond b (Waits name v) (Applies name v slow) → ⊥
    put true name v slow is = cc
    put false name v slow is = cc

pub room-by : (k : Knows) (m : Fields) (replies : List Fields) (action : Action) (j : Joined) → Due k m replies action → HasRoomToBegin m.command j → HasRoomBy (effect_due m action) j
room-by k m replies (Opens c) j due room = room.channel (opens-by k m replies c due)
room-by k m replies (Adds s) j due room = room.subscription (adds-by k m replies s due)
room-by k m replies (Applies name value true) j due room = tt
room-by k m replies (Applies name value false) j due room = tt
room-by k m replies (Waits name value) j due room = tt
room-by k m replies Nothing j due room = idle (λ (d : Effect). HasRoomBy d j) m tt tt tt
room-by k m replies Greets j due room = tt
room-by k m replies (Names p) j due room = tt
room-by k m replies (Clears sid) j due room = tt
room-by k m replies (Drops key) j due room = tt
room-by k m replies (Switches on) j due room = tt

-- so has a circuit with the same channels, subscriptions and queues
pub room-kept : (did : Effect) (j new : Joined) → new.creations ≡ j.creations → new.standing ≡ j.standing → new.queues ≡ j.queues → HasRoomBy did j → HasRoomBy did new
room-kept (effect.Created sid) j new creations standing queues room = subst (λ (v : Vec CreatedChannel Global). vec_len v + 1 ≤ vec_capacity v) (sym creations) room
room-kept (effect.Subscribed sid sub) j new creations standing queues room = record {
  standing = subst (λ (v : Vec AddedSubscription Global). vec_len v + 1 ≤ vec_capacity v) (sym standing) room.standing;
  queue = subst (λ (v : Vec (Queue (ℕ × Cause) × Bool) Global). FirstIsRoomy v.items) (sym queues) room.queue;
}
room-kept _ j new creations standing queues room = tt
