use Rattle.std.proofs.Common.{◌∙◌}
use Rattle.ca_client_tables.proofs.Anomalies.{bits-back}
use Rattle.ca_client_tables.proofs.beacons.beacon_address.Goals as goal

pub returns : goal.returns
returns c = bits-back c.from_bits.result c.beacon_host.result c.beacon_host.type_inv c.from_bits.ensures ∙ c.beacon_host.ensures
