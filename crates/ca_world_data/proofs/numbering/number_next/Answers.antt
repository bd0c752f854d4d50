use Rattle.ca_ids.specs.Table.{under}
use Rattle.ca_world_data.specs.Numbering.{IsPlaced}
use Rattle.ca_world_data.specs.Seen.{joined_of}
use Rattle.ca_world_data.proofs.Counting.{at-none, counted-there, placed-there}
use Rattle.ca_world_data.proofs.numbering.number_next.Goals as goal

pub returns-in_default-clause-numbers : goal.returns-in_default-clause-numbers
returns-in_default-clause-numbers c =
    at-none c.args.name.now c.args.mask c.args.place (under c.args.core.now.circuits c.args.joined.now.at_server) (joined_of c.args.joined.now) c.in_default.ensures

pub number_at-requires : goal.number_at-requires
number_at-requires c =
    placed-there c.args.name.now c.args.mask c.args.place c.in-Some.queue (under c.args.core.now.circuits c.args.joined.now.at_server) c.args.joined.now c.requires.alike c.in-Some.ensures c.requires.counts

pub returns-clause-numbers : goal.returns-clause-numbers
returns-clause-numbers c =
    let o = under c.args.core.now.circuits c.args.joined.now.at_server in
    let h : IsPlaced c.args.place c.in-Some.queue (joined_of c.args.joined.now) =
    placed-there c.args.name.now c.args.mask c.args.place c.in-Some.queue o c.args.joined.now c.requires.alike c.in-Some.ensures c.requires.counts in
    counted-there c.args.name.now c.args.mask c.args.place c.in-Some.queue o (joined_of c.args.joined.now) (joined_of c.number_at.new.joined) c.requires.alike c.in-Some.ensures h (c.number_at.ensures.numbers h)
