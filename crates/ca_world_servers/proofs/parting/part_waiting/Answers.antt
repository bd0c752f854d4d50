use Rattle.std.proofs.Common.{◌≡◌, ◌<◌, ◌≤◌, ◌∙◌, ℕ, not, length, List, map, Some, None, Option, ap, arith}
use Rattle.std.proofs.lemmas.List.{length-map}
use Rattle.ca_records.specs.declared.puts.Put.{Put}
use Rattle.ca_records.specs.Puts.{Record, record_named}
use Rattle.ca_text.specs.Place.{At}
use Rattle.ca_text.proofs.Places.{At-map}
use Rattle.ca_server_core.specs.ForHistories.{put_in}
use Rattle.ca_world_data.specs.declared.server.PutPlace.{PutPlace}
use Rattle.ca_world_data.specs.Seen.{place_of}
use Rattle.ca_world_data.proofs.Worlds.{found}
use Rattle.ca_world_servers.proofs.Parted.{aside-kept, aside-none, aside-over, aside-told, ends-kept, ends-told}
use Rattle.ca_world_servers.proofs.parting.part_waiting.Goals as goal

pub loop-place-preserved : goal.loop-place-preserved
loop-place-preserved c =
    let ws : List PutPlace = c.args.side.now.waiting.items in
    let o : Option Record = record_named c.args.core.now.records c.args.side.now.name.items in
    let i : ℕ = c.loop-place.place in
    let put : Put = c.in-Some.put in
    let is : Some put ≡ put_in o i = c.in-Some.ensures ∙ ap (λ (n : List ℕ). put_in (record_named c.args.core.now.records n) i) c.deref.ensures.value in
    let w : PutPlace = c.index.result.now in
    let within : i < length ws = omega (arith, c.loop-place-test.true, c.len-place-end.ensures) in
    let at : At ws i w = found ws i w w within c.index.ensures in
    let seen : At (map place_of ws) i (place_of w) = At-map place_of ws i w at in
    record {
      kept =
          aside-kept _ o (map place_of ws) i put (place_of w) _ _ _ _ is seen (ap not c.is_on_channel-gone.ensures) c.in_ok-put_aside.ensures.kept
          c.loop-place.invariant.kept;
      told =
          aside-told _ o (map place_of ws) i put (place_of w) _ _ _ _ is seen c.is_on_channel-gone.ensures c.in_ok-put_aside.ensures.told c.loop-place.invariant.told;
    }

pub returns-in_default-clause-kept : goal.returns-in_default-clause-kept
returns-in_default-clause-kept c =
    let o : Option Record = record_named c.args.core.now.records c.args.side.now.name.items in
    let i : ℕ = c.loop-place.place in
    let is : None ≡ put_in o i = c.in_default.ensures ∙ ap (λ (n : List ℕ). put_in (record_named c.args.core.now.records n) i) c.deref.ensures.value in
    ends-kept _ _ _ (aside-none _ o (map place_of c.args.side.now.waiting.items) i is) c.loop-place.invariant.kept

pub returns-in_default-clause-told : goal.returns-in_default-clause-told
returns-in_default-clause-told c =
    let o : Option Record = record_named c.args.core.now.records c.args.side.now.name.items in
    let i : ℕ = c.loop-place.place in
    let is : None ≡ put_in o i = c.in_default.ensures ∙ ap (λ (n : List ℕ). put_in (record_named c.args.core.now.records n) i) c.deref.ensures.value in
    ends-told _ _ _ (aside-none _ o (map place_of c.args.side.now.waiting.items) i is) c.loop-place.invariant.told

pub returns-clause-kept : goal.returns-clause-kept
returns-clause-kept c =
    let ws : List PutPlace = c.args.side.now.waiting.items in
    let i : ℕ = c.loop-place.place in
    let over : length (map place_of ws) ≤ i = omega (arith, c.loop-place-test.false, c.len-place-end.ensures, length-map ws place_of) in
    ends-kept _ _ _ (aside-over _ (record_named c.args.core.now.records c.args.side.now.name.items) (map place_of ws) i over) c.loop-place.invariant.kept

pub returns-clause-told : goal.returns-clause-told
returns-clause-told c =
    let ws : List PutPlace = c.args.side.now.waiting.items in
    let i : ℕ = c.loop-place.place in
    let over : length (map place_of ws) ≤ i = omega (arith, c.loop-place-test.false, c.len-place-end.ensures, length-map ws place_of) in
    ends-told _ _ _ (aside-over _ (record_named c.args.core.now.records c.args.side.now.name.items) (map place_of ws) i over) c.loop-place.invariant.told
