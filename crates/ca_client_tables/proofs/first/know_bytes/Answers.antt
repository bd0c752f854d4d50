use Rattle.std.proofs.Common.{◌<◌, get_or, rules}
use Rattle.ca_dbr.proofs.LongBytes.{are-bytes}
use Rattle.ca_client_tables.proofs.first.know_bytes.Goals as goal

pub returns : goal.returns
returns c = are-bytes c.args.bytes.now (λ i. (let fits : get_or c.args.bytes.now i 0 < 256 = search rules in fits))
