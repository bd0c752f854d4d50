use Rattle.std.proofs.Common.{refl}
use Rattle.ca_world_data.specs.Logs.{lines_in}
use Rattle.ca_world_data.specs.Seen.{client_of, joined_of, sent_of}
use Rattle.std.specs.Prelude.{map}
use Rattle.ca_world_data.proofs.Acceptances.{connects-open}
use Rattle.ca_world_data.proofs.accepting.connect_side.Goals as goal

pub returns-in-None-clause-connects : goal.returns-in-None-clause-connects
returns-in-None-clause-connects c =
    connects-open (client_of c.args.side.now) _ (lines_in c.args.logs.now.items) (joined_of c.args.joined.now) _ (map sent_of c.args.up.items) c.in-None.ensures.0 c.in-None.ensures.1 refl c.requires.first c.requires.new refl
