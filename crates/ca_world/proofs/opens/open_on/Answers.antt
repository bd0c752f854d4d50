use Rattle.ca_world_data.specs.Logs.{lines_in}
use Rattle.ca_world_data.specs.Seen.{client_of}
use Rattle.ca_world.proofs.Widths.{opens-wide}
use Rattle.ca_world.proofs.opens.open_on.Goals as goal

pub returns-clause-opens : goal.returns-clause-opens
returns-clause-opens c =
    opens-wide c.args.name.now c.args.moment c.args.priority c.priority_of.result c.priority_of.ensures (client_of c.args.side.now) (client_of c.open_carried.new.side) (lines_in c.args.logs.now.items) (lines_in c.open_carried.new.logs.items) c.open_carried.result c.open_carried.ensures.opens
