use Rattle.std.proofs.Common.{◌∙◌, sym, refl}
use Rattle.ca_dgram.specs.Messages.{beacon_message}
use Rattle.ca_dgram.proofs.Spellings.{spelling-header_only}
use Rattle.ca_dgram.proofs.fixed.beacon.Goals as goal

pub returns-clause-written : goal.returns-clause-written
returns-clause-written c small = c.header_bytes.ensures ∙ sym (spelling-header_only (beacon_message c.args.number c.args.port) refl small)
