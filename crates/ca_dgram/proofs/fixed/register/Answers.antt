use Rattle.std.proofs.Common.{◌∙◌, sym, refl, ap, arith}
use Rattle.ca_wire.specs.Message.{spelling}
use Rattle.ca_dgram.specs.Messages.{register_message}
use Rattle.ca_dgram.proofs.Spellings.{spelling-header_only}
use Rattle.ca_dgram.proofs.fixed.register.Goals as goal

pub returns : goal.returns
returns c = c.header_bytes.ensures ∙ sym (spelling-header_only (register_message c.to_bits.result) refl (omega arith)) ∙ ap (λ n. spelling (register_message n)) c.to_bits.ensures
