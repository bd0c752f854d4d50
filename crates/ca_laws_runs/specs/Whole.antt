-- Working: the statement's clause of what servers act on, complete.
use Rattle.ca_requests.specs.Meaning.{Means}
use Rattle.ca_model.specs.Updates.{Shows}
use Rattle.ca_model.specs.Channels.{OfCircuits}
use Rattle.ca_model.specs.Headline.{ActsOnRecord}
use Rattle.ca_model.specs.Known.{IsDue}
use Rattle.ca_model.specs.World.{World, port_of, rules_of, told}

abbrev pub ActOnRecords : World → Type 0
ActOnRecords w = OfCircuits (told w) (ActsOnRecord (IsDue (port_of w) (rules_of w)) Shows Means)
