use Rattle.std.proofs.Common.{map, arith}
use Rattle.std.specs.VecDeque.{deque_items}
use Rattle.ca_world_data.specs.Seen.{joined_of}
use Rattle.ca_world_data.proofs.UpdateTellings.{all-told, more-told, next-told}
use Rattle.ca_world_data.proofs.updates.tell_updates.Goals as goal

pub tell_update-read-requires : goal.tell_update-read-requires
tell_update-read-requires c =
    let r = c.requires in
    next-told r.1 c.args.bytes.now (joined_of c.args.joined.now) c.telling.joined (map deque_items c.telling.rooms.items) c.telling.read (c.telling.invariant.told r.0 r.1 r.2) (omega (arith, c.telling-test.true))

pub overflow_add-read : goal.overflow_add-read
overflow_add-read c =
    let r = c.requires in
    let m = more-told r.1 c.args.bytes.now (joined_of c.args.joined.now) c.telling.joined (map deque_items c.telling.rooms.items) c.telling.read (c.telling.invariant.told r.0 r.1 r.2) (omega (arith, c.telling-test.true))
    c.tell_update-read.result c.tell_update-read.new.joined (map deque_items c.tell_update-read.new.rooms.items) c.tell_update-read.ensures in
    omega (arith, m.1)

pub telling-smaller : goal.telling-smaller
telling-smaller c =
    let r = c.requires in
    let m = more-told r.1 c.args.bytes.now (joined_of c.args.joined.now) c.telling.joined (map deque_items c.telling.rooms.items) c.telling.read (c.telling.invariant.told r.0 r.1 r.2) (omega (arith, c.telling-test.true))
    c.tell_update-read.result c.tell_update-read.new.joined (map deque_items c.tell_update-read.new.rooms.items) c.tell_update-read.ensures in
    omega (arith, m.0, c.telling-test.true)

pub telling-preserved : goal.telling-preserved
telling-preserved c =
    record {
      told = λ e us may.
          let m = more-told us c.args.bytes.now (joined_of c.args.joined.now) c.telling.joined (map deque_items c.telling.rooms.items) c.telling.read (c.telling.invariant.told e us may) (omega (arith, c.telling-test.true))
          c.tell_update-read.result c.tell_update-read.new.joined (map deque_items c.tell_update-read.new.rooms.items) c.tell_update-read.ensures in
          m.2;
    }

pub returns : goal.returns
returns c e us may = all-told us c.args.bytes.now (joined_of c.args.joined.now) c.telling.joined (map deque_items c.telling.rooms.items) c.telling.read (c.telling.invariant.told e us may) (omega (arith, c.telling-test.false))
