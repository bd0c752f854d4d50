use Rattle.std.proofs.Common.{option_map, sym}
use Rattle.std.specs.Arc.{arc_value}
use Rattle.ca_dbr.specs.Elements.{elements}
use Rattle.ca_dbr.specs.Data.{data_of}
use Rattle.ca_display.proofs.Holdings.{bare-shown, base_of-shown, count_of-shown, whole-shown}
use Rattle.ca_display.proofs.held.Held.value.Goals as goal

pub returns-clause-value : goal.returns-clause-value
returns-clause-value c = rw (← c.self.view_is) (whole-shown (option_map data_of (option_map arc_value c.self.inside.display)) c.self.inside.value (elements c.self.inside.value))

pub returns-clause-bare : goal.returns-clause-bare
returns-clause-bare c = rw (← c.self.view_is) (sym (bare-shown (option_map data_of (option_map arc_value c.self.inside.display)) c.self.inside.value))

pub returns-clause-base : goal.returns-clause-base
returns-clause-base c = rw (← c.self.view_is) (sym (base_of-shown (option_map data_of (option_map arc_value c.self.inside.display)) (elements c.self.inside.value)))

pub returns-clause-count : goal.returns-clause-count
returns-clause-count c = rw (← c.self.view_is) (sym (count_of-shown (option_map data_of (option_map arc_value c.self.inside.display)) (elements c.self.inside.value)))
