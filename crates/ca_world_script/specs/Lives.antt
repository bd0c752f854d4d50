-- Working: the logs of lives, as the statement has them.
use Rattle.std.specs.Prelude.{List, Vec, map}
use Rattle.std.specs.declared.alloc.Global.{Global}
use Rattle.ca_model.specs.History as history
use Rattle.ca_world_data.specs.declared.history.Line.{Line}
use Rattle.ca_world_data.specs.Seen.{line_of}

abbrev pub logs_of : List (Vec Line Global) → List (List history.Line)
logs_of logs = map (λ log. map line_of log.items) logs
