use Rattle.std.proofs.Common.{option_map, sym}
use Rattle.std.specs.Arc.{arc_value}
use Rattle.ca_dbr.specs.Elements.{elements}
use Rattle.ca_dbr.specs.Data.{data_of}
use Rattle.ca_display.proofs.Holdings.{whole-shown}
use Rattle.ca_display.proofs.held.Held.set.Goals as goal

pub returns : goal.returns
returns c =
    rw (← c.self.view_is) (rw c.replace.ensures.after (sym (whole-shown (option_map data_of (option_map arc_value c.self.inside.display)) c.self.inside.value (elements c.args.value))))
