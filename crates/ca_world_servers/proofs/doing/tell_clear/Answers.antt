use Rattle.std.proofs.Common.{◌≡◌, Option, List, map, ap, subst, ◌∙◌}
use Rattle.std.specs.Vec.{with_items}
use Rattle.std.proofs.lemmas.List.{with_items_is}
use Rattle.ca_world_data.specs.declared.server.RecordSide.{RecordSide}
use Rattle.ca_world_data.specs.Seen.{record_of}
use Rattle.ca_world_servers.specs.declared.parting.Parting.{Parting}
use Rattle.ca_world_servers.specs.Effects.{IsPartingOf}
use Rattle.ca_world_servers.specs.Parting.{places_in, with_kept}
use Rattle.ca_world_servers.proofs.Done.{fits-told, room-clear}
use Rattle.ca_world_servers.proofs.doing.tell_clear.Goals as goal

pub push_entries-requires : goal.push_entries-requires
push_entries-requires c =
    fits-told c.in-Some.parting c.args.side.now c.args.logs.now.items (subst (λ (o : Option Parting). IsPartingOf o (map record_of c.args.side.now.records.items)) c.in-Some.is c.requires.parted) c.requires.room

pub returns-clause-room : goal.returns-clause-room
returns-clause-room c =
    let rs : List RecordSide = (with_items c.args.side.now.records c.keep_waiting.new.records).items in
    let kept : map record_of rs ≡ with_kept (map places_in c.in-Some.parting.kept.items) (map record_of c.args.side.now.records.items) =
    ap (map record_of) (with_items_is c.args.side.now.records c.keep_waiting.new.records (c.keep_waiting.auto.records ∙ c.deref_mut.ensures.len)) ∙ c.keep_waiting.ensures
    ∙ ap (λ (l : List RecordSide). with_kept (map places_in c.in-Some.parting.kept.items) (map record_of l)) c.deref_mut.ensures.value in
    room-clear c.in-Some.parting c.args.side.now rs c.args.logs.now.items c.push_entries.new.logs.items (subst (λ (o : Option Parting). IsPartingOf o (map record_of c.args.side.now.records.items)) c.in-Some.is c.requires.parted) kept c.requires.room c.push_entries.ensures.room
