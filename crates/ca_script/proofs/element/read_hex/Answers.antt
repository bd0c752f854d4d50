use Rattle.std.proofs.Common.{length, refl}
use Rattle.ca_script.proofs.ElementRefusals.{no-hex}
use Rattle.ca_script.proofs.element.read_hex.Goals as goal

pub returns-in-Err-clause-err : goal.returns-in-Err-clause-err
returns-in-Err-clause-err c =
    (refl, no-hex c.args.word.now (length c.args.bytes.now) c.decode_to_slice.new.out c.decode_to_slice.result c.in-Err.field-0 c.decode_to_slice.ensures.value c.in-Err.is)
