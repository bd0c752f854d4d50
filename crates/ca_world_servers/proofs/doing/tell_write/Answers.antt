use Rattle.std.proofs.Common.{◌≡◌, ℕ, List, map, ap, ◌∙◌}
use Rattle.std.specs.Vec.{with_items}
use Rattle.std.proofs.lemmas.List.{with_items_is}
use Rattle.ca_model.specs.World.{PutPlace}
use Rattle.ca_world_data.specs.declared.server.RecordSide.{RecordSide}
use Rattle.ca_world_data.specs.Seen.{place_of, record_of}
use Rattle.ca_world_servers.specs.Effects.{busy_after}
use Rattle.ca_world_servers.proofs.Done.{room-write}
use Rattle.ca_world_servers.proofs.doing.tell_write.Goals as goal

pub returns-clause-room : goal.returns-clause-room
returns-clause-room c =
    let p : PutPlace = place_of c.args.put in
    let rs : List RecordSide = (with_items c.args.side.now.records c.busy_if.new.records).items in
    let name : List ℕ = c.deref-3.result.now in
    let left : map record_of rs ≡ busy_after c.in-Some.busies name p (map record_of c.args.side.now.records.items) =
    ap (map record_of) (with_items_is c.args.side.now.records c.busy_if.new.records (c.busy_if.auto.records ∙ c.deref_mut.ensures.len)) ∙ c.busy_if.ensures
    ∙ ap (λ (l : List RecordSide). busy_after c.in-Some.busies name p (map record_of l)) c.deref_mut.ensures.value in
    room-write c.in-Some.busies name p c.args.side.now rs c.args.logs.now.items c.push_entry.new.logs.items left c.requires.room c.push_entry.ensures.room
