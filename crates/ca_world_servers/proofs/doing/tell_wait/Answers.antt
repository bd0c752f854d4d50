use Rattle.std.proofs.Common.{◌≡◌, ℕ, List, map, ap, ◌∙◌}
use Rattle.std.specs.Vec.{with_items}
use Rattle.std.proofs.lemmas.List.{with_items_is}
use Rattle.ca_model.specs.ServerEvents.{with_record}
use Rattle.ca_model.specs.World.{PutPlace}
use Rattle.ca_world_data.specs.declared.server.RecordSide.{RecordSide}
use Rattle.ca_world_data.specs.Seen.{place_of, record_of}
use Rattle.ca_world_servers.specs.Handling.{with_waiting}
use Rattle.ca_world_servers.proofs.Done.{room-wait}
use Rattle.ca_world_servers.proofs.doing.tell_wait.Goals as goal

pub returns-clause-room : goal.returns-clause-room
returns-clause-room c =
    let p : PutPlace = place_of c.args.put in
    let rs : List RecordSide = (with_items c.args.side.now.records c.add_waiting.new.records).items in
    let name : List ℕ = c.deref-3.result.now in
    let left : map record_of rs ≡ with_record name (with_waiting p) (map record_of c.args.side.now.records.items) =
    ap (map record_of) (with_items_is c.args.side.now.records c.add_waiting.new.records (c.add_waiting.auto.records ∙ c.deref_mut.ensures.len)) ∙ c.add_waiting.ensures
    ∙ ap (λ (l : List RecordSide). with_record name (with_waiting p) (map record_of l)) c.deref_mut.ensures.value in
    room-wait name p c.args.side.now rs c.args.logs.now.items c.push_entry.new.logs.items c.requires.apart left c.requires.room c.push_entry.ensures.room
