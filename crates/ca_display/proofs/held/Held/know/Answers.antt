use Rattle.std.proofs.Common.{option_map, subst}
use Rattle.std.specs.Arc.{arc_value}
use Rattle.ca_dbr.specs.Elements.{elements}
use Rattle.ca_dbr.specs.DisplayData.{IsData}
use Rattle.ca_dbr.specs.declared.display.Display.{Display}
use Rattle.ca_dbr.specs.Data.{data_of}
use Rattle.ca_display.proofs.Holdings.{held-shown}
use Rattle.ca_display.proofs.held.Held.know.Goals as goal

pub returns-in-None : goal.returns-in-None
returns-in-None c =
    rw (← c.self.view_is) (held-shown (option_map data_of (option_map arc_value c.self.inside.display)) (elements c.self.inside.value) (rw c.in-None.is tt) c.know.ensures.valued)

pub returns-in-Some : goal.returns-in-Some
returns-in-Some c =
    rw (← c.self.view_is) (held-shown (option_map data_of (option_map arc_value c.self.inside.display)) (elements c.self.inside.value) (rw c.in-Some.is (subst (λ (d : Display). IsData (data_of d)) c.deref.ensures c.know-in-Some.ensures)) c.know.ensures.valued)
