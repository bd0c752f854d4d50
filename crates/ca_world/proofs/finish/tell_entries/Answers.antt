use Rattle.std.proofs.Common.{◌+◌, ap, arith}
use Rattle.std.specs.Prelude.{option_map}
use Rattle.ca_world_data.specs.Opening.{entries_in}
use Rattle.ca_world_data.specs.Seen.{place_of}
use Rattle.ca_world.proofs.Finishings.{entries-fewer, entries-two}
use Rattle.ca_world.proofs.finish.tell_entries.Goals as goal

pub returns-in_default-clause-room : goal.returns-in_default-clause-room
returns-in_default-clause-room c n room = c.push_entry.ensures.room n (entries-fewer (n + 2) (n + 1) c.args.life c.args.logs.now.items (omega arith) room)

pub returns-in_default-value-clause-room : goal.returns-in_default-value-clause-room
returns-in_default-value-clause-room c n room = c.push_entry.ensures.room n (entries-fewer (n + 2) (n + 1) c.args.life c.args.logs.now.items (omega arith) room)

pub push_entry-requires-2 : goal.push_entry-requires-2
push_entry-requires-2 c = c.push_entry.ensures.room 1 c.requires

pub returns-clause-logged : goal.returns-clause-logged
returns-clause-logged c =
    entries-two c.args.life c.args.number (place_of c.args.put) (place_of c.in-Some.first) c.in-Some-value.applied c.unstamped-meta.result (option_map place_of c.args.next) c.args.value
    (entries_in c.args.logs.now.items) (entries_in c.push_entry.new.logs.items) (entries_in c.push_entry-2.new.logs.items)
    c.unstamped-meta.ensures (ap (option_map place_of) c.in-Some.is) c.in-Some-value.is c.push_entry.ensures.logged c.push_entry-2.ensures.logged

pub returns-clause-room : goal.returns-clause-room
returns-clause-room c n room =
    c.push_entry-2.ensures.room n (c.push_entry.ensures.room (n + 1) (entries-fewer (n + 2) (n + 1 + 1) c.args.life c.args.logs.now.items (omega arith) room))
