use Rattle.std.proofs.Common.{◌≡◌, ◌++◌, ℕ, ◌<◌, List, length, ap, sym, subst, arith, ◌∙◌}
use Rattle.std.specs.Prelude.{Vec, map, vec_capacity, vec_len}
use Rattle.std.specs.declared.alloc.Global.{Global}
use Rattle.ca_arena.specs.declared.handle.Handle.{Handle}
use Rattle.ca_ids.specs.Table.{under}
use Rattle.ca_text.specs.Place.{At}
use Rattle.ca_text.proofs.Places.{At-map}
use Rattle.ca_wire.specs.Fields.{Fields}
use Rattle.ca_model.specs.History as history
use Rattle.ca_model.specs.ServerEvents.{about}
use Rattle.ca_server_core.specs.ForHistories.{bytes_under}
use Rattle.ca_world.specs.Finishing.{AreBehind}
use Rattle.ca_world_data.specs.declared.history.Told.{Told}
use Rattle.ca_world_data.specs.declared.joined.Joined.{Joined}
use Rattle.ca_world_data.specs.Seen.{joined_of, told_of}
use Rattle.ca_world_data.proofs.Worlds.{found}
use Rattle.ca_world.proofs.Finishings.{header_only-alike, counts-set, finished-on, reply-behind}
use Rattle.ca_world.proofs.finish.finish_on.Goals as goal

pub post_next-requires-clause-alike : goal.post_next-requires-clause-alike
post_next-requires-clause-alike c =
    let ks : List Joined = c.args.circuits.now.items in
    let k : ℕ = c.args.put.circuit in
    let j : Joined = c.index_mut.result.now in
    let within : k < length ks = omega (arith, c.requires.within) in
    let at : At ks k j = found ks k j j within c.index_mut.ensures.value in
    header_only-alike c.args.server c.args.core.now ks k j c.take_down-down.new.joined at c.take_down-down.ensures.circuit c.requires.alike

pub post_next-requires-clause-counts : goal.post_next-requires-clause-counts
post_next-requires-clause-counts c =
    let ks : List Joined = c.args.circuits.now.items in
    let k : ℕ = c.args.put.circuit in
    let j : Joined = c.index_mut.result.now in
    let within : k < length ks = omega (arith, c.requires.within) in
    let at : At ks k j = found ks k j j within c.index_mut.ensures.value in
    counts-set ks k j c.take_down-down.new.joined at c.take_down-down.ensures.standing c.requires.counts

pub tell_reply-requires-clause-behind : goal.tell_reply-requires-clause-behind
tell_reply-requires-clause-behind c =
    let ks : List Joined = c.args.circuits.now.items in
    let k : ℕ = c.args.put.circuit in
    let i : Joined = c.index.result.now in
    let within : k < length ks = omega (arith, c.requires.within) in
    let at : At ks k i = found ks k i i within c.index.ensures in
    let sent : List (Handle × Fields) = c.finish_core.ensures.0 in (
      map (λ (s : Handle × Fields). s.1) sent,
      reply-behind c.args.core.now c.finish_core.new.core c.args.name.now k (length c.bytes_of-waited.result.now) (map joined_of ks) (joined_of i) sent c.requires.busy (At-map joined_of ks k i at) (ap (λ (l : List ℕ). length l) c.bytes_of-waited.ensures) c.finish_core.ensures.1,
    )

pub tell_reply-requires-clause-room : goal.tell_reply-requires-clause-room
tell_reply-requires-clause-room c =
    let ks : List Joined = c.args.circuits.now.items in
    let k : ℕ = c.args.put.circuit in
    let j : Joined = c.index_mut.result.now in
    let within : k < length ks = omega (arith, c.requires.within) in
    let at : At ks k j = found ks k j j within c.index_mut.ensures.value in
    subst (λ (v : Vec Told Global). vec_len v < vec_capacity v) (sym c.take_down-down.ensures.down) (c.requires.space j at)

pub returns : goal.returns
returns c =
    let ks : List Joined = c.args.circuits.now.items in
    let k : ℕ = c.args.put.circuit in
    let i : Joined = c.index.result.now in
    let j : Joined = c.index_mut.result.now in
    let within : k < length ks = omega (arith, c.requires.within) in
    let at_i : At ks k i = found ks k i i within c.index.ensures in
    let at : At ks k j = found ks k j j within c.index_mut.ensures.value in
    let after : List Joined = c.post_next.new.circuits.items in
    let one : Joined = c.index_mut-2.result.now in
    let last : k < length after = omega (arith, c.requires.within, c.post_next.ensures.len) in
    let there : At after k one = found after k one one last c.index_mut-2.ensures.value in
    let sent : List (Handle × Fields) = c.finish_core.ensures.0 in
    let replies : List Fields = map (λ (s : Handle × Fields). s.1) sent in
    let waited : ℕ = length c.bytes_of-waited.result.now in
    let behind : AreBehind waited (bytes_under (under c.finish_core.new.core.circuits i.at_server)) replies =
    reply-behind c.args.core.now c.finish_core.new.core c.args.name.now k waited (map joined_of ks) (joined_of i) sent c.requires.busy (At-map joined_of ks k i at_i) (ap (λ (l : List ℕ). length l) c.bytes_of-waited.ensures) c.finish_core.ensures.1 in
    let told : map told_of c.tell_reply.new.down.items ≡ map told_of j.lists.down.items ++ about c.args.put.place history.Reply replies =
    c.tell_reply.ensures replies behind ∙ ap (λ (v : Vec Told Global). map told_of v.items ++ about c.args.put.place history.Reply replies) c.take_down-down.ensures.down in
    finished-on c.args.server c.args.core.now c.finish_core.new.core c.args.name.now c.args.put c.args.waits sent ks after j c.take_down-down.new.joined one c.give_down.new.joined (map told_of c.tell_reply.new.down.items) c.finish_core.ensures.1
    at c.take_down-down.ensures.circuit c.post_next.ensures.numbers there told c.give_down.ensures
