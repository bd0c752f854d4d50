use Rattle.std.proofs.Common.{◌∙◌, sym, refl, arith}
use Rattle.ca_dgram.specs.Messages.{confirm_message}
use Rattle.ca_dgram.proofs.Spellings.{spelling-header_only}
use Rattle.ca_dgram.proofs.fixed.confirm.Goals as goal

pub returns : goal.returns
returns c = c.header_bytes.ensures ∙ sym (spelling-header_only confirm_message refl (omega arith))
