use Rattle.std.proofs.Common.{◌≡◌, ℕ, ◌+◌, ◌-◌, List, length, take, drop, ap, ◌∙◌, arith}
use Rattle.ca_wire.proofs.Backs.{front-bad, front-fits, front-more, front-same}
use Rattle.ca_wire.proofs.message.message_at.Goals as goal

pub unreachable-requires : goal.unreachable-requires
unreachable-requires c =
    let fits = front-fits c.args.bytes.now _ c.in-Whole.head c.requires.front c.in-Whole.ensures in
    let none : length c.args.room.items ≡ 0 = ap (λ (t : List ℕ). length t) c.requires.empty in
    omega (arith, fits, none, c.args.room.ok, c.in-Err.ensures.full)

pub unreachable-requires-in-More : goal.unreachable-requires-in-More
unreachable-requires-in-More c = front-more c.args.bytes.now _ c.requires.front c.in-More.ensures

pub unreachable-requires-in-Bad : goal.unreachable-requires-in-Bad
unreachable-requires-in-Bad c = front-bad c.args.bytes.now _ c.in-Bad.field-0 c.requires.front c.in-Bad.ensures

pub returns : goal.returns
returns c m rest good begins =
    let head = c.in-Whole.head in
    let n : head.start + head.header.size - head.start ≡ head.header.size = omega arith in
    let part = ap (λ (k : ℕ). take k (drop head.start c.args.bytes.now)) n in
    front-same c.args.bytes.now rest head m c.of_header.result good begins c.in-Whole.ensures c.of_header.ensures.header
    (c.of_header.ensures.payload ∙ c.in-Ok.ensures.items ∙ (rw c.requires.empty part))
