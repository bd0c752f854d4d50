use Rattle.ca_dbr.proofs.Shows.{shown-is}
use Rattle.ca_dbr.proofs.Valued.{shown-valued}
use Rattle.ca_dbr.proofs.laws.wanted_shown.Goals as goal

pub returns-clause-valued : goal.returns-clause-valued
returns-clause-valued c = shown-valued

pub returns-clause-wanted : goal.returns-clause-wanted
returns-clause-wanted c = shown-is
