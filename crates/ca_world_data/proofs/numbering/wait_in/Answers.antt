use Rattle.std.proofs.Common.{◌<◌, length}
use Rattle.ca_text.specs.Place.{At}
use Rattle.ca_text.proofs.Places.{At-within}
use Rattle.ca_world_data.proofs.Counting.{waits-so}
use Rattle.ca_world_data.proofs.Worlds.{found}
use Rattle.ca_world_data.proofs.numbering.wait_in.Goals as goal

pub returns : goal.returns
returns c = λ q there.
    let ws = c.args.queues.now.items in
    let n = c.args.queue in
    let w = c.index_mut.result.now in
    let has = c.requires in
    let within : n < length ws = At-within ws n has.0 has.1 in
    let at : At ws n w = found ws n w w within c.index_mut.ensures.value in
    waits-so ws n w c.post.new.self c.args.key c.args.place c.args.number q at c.post.ensures.posts there
