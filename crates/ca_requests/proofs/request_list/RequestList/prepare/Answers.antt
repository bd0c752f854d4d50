use Rattle.ca_requests.proofs.Lined.{readies-on}
use Rattle.ca_requests.proofs.request_list.RequestList.prepare.Goals as goal

pub returns-in_err-settle-clause-readies : goal.returns-in_err-settle-clause-readies
returns-in_err-settle-clause-readies c =
    readies-on c.args.table.now c.args.self.now c.own.new.self c.settle.new.self (c.own.ensures.readies c.args.table.now c.requires) c.settle.ensures.readies

pub returns-clause-readies : goal.returns-clause-readies
returns-clause-readies c =
    readies-on c.args.table.now c.args.self.now c.own.new.self c.settle.new.self (c.own.ensures.readies c.args.table.now c.requires) c.settle.ensures.readies
