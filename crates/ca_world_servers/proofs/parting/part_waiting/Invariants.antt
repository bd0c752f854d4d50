use Rattle.std.proofs.Common.{◌≡◌, ◌++◌, drop, map, not}
use Rattle.ca_records.specs.declared.puts.Put.{Put}
use Rattle.ca_records.specs.Puts.{record_named}
use Rattle.ca_model.specs.ServerEvents.{is_of_channel, places_where}
use Rattle.ca_world_data.specs.Seen.{entry_of, place_of, record_of}
use Rattle.ca_world_servers.specs.Parting.{gone_of, kept_of, places_in, puts_of, withdrawn_at}
use Rattle.ca_world_servers.proofs.parting.part_waiting.Given as goal

-- the puts that are left make up the rest
abbrev pub invariant-loop-place : goal.invariant-loop-place
invariant-loop-place l =
    let puts = puts_of (record_named l.core.records l.side.name.items) in
    record {
      kept :
          places_in l.kept ++ places_where (λ (p : Put). not (is_of_channel l.circuit l.sid p)) (drop l.place puts) (drop l.place (map place_of l.side.waiting.items))
          ≡ kept_of l.core l.circuit l.sid (record_of l.side);
      told :
          map entry_of l.told.items ++ map withdrawn_at (places_where (is_of_channel l.circuit l.sid) (drop l.place puts) (drop l.place (map place_of l.side.waiting.items)))
          ≡ map entry_of l.initial.told.items ++ map withdrawn_at (gone_of l.core l.circuit l.sid (record_of l.side));
    }
