use Rattle.std.proofs.Common.{◌<◌, length, rules}
use Rattle.ca_requests.proofs.Lined.{readies-one}
use Rattle.ca_requests.proofs.lines.prepare.Goals as goal

pub returns-in_err-prepare-clause-readies : goal.returns-in_err-prepare-clause-readies
returns-in_err-prepare-clause-readies c =
    let xs = c.extend.new.lines.items in
    let within : c.from-index.result < length xs = search rules in
    readies-one c.args.table.now c.args.lines.now.items xs c.from-index.result c.index_mut.result.now c.prepare.new.self c.extend.ensures.same within c.index_mut.ensures.value c.prepare.ensures.readies

pub returns-clause-readies : goal.returns-clause-readies
returns-clause-readies c =
    let xs = c.extend.new.lines.items in
    let within : c.from-index.result < length xs = search rules in
    readies-one c.args.table.now c.args.lines.now.items xs c.from-index.result c.index_mut.result.now c.prepare.new.self c.extend.ensures.same within c.index_mut.ensures.value c.prepare.ensures.readies
