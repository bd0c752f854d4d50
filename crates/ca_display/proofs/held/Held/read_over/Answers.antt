use Rattle.std.proofs.Common.{option_map}
use Rattle.std.specs.Arc.{arc_value}
use Rattle.ca_dbr.specs.Data.{data_of}
use Rattle.ca_display.proofs.Holdings.{holds-over}
use Rattle.ca_display.proofs.held.Held.read_over.Goals as goal

pub returns : goal.returns
returns c =
    rw (← c.self.view_is) (holds-over c.args.number c.args.bytes.now (option_map data_of (option_map arc_value c.self.inside.display)) c.self.inside.value c.read_over.new.self c.read_over.result c.read_over.ensures)
