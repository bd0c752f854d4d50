-- Working: the code of a client's state, by which a proof tells its values apart.
use Rattle.std.specs.Coded.{Coded, coded_ℕ}
use Rattle.std.specs.FinMap as map
use Rattle.ca_beacon.specs.Table.{Servers}

abbrev pub servers_code : Coded Servers
servers_code = map.code coded_ℕ coded_ℕ
