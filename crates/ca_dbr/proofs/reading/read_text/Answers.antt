use Rattle.std.proofs.Common.{refl}
use Rattle.ca_dbr.proofs.Readings.{text_filled}
use Rattle.ca_dbr.proofs.reading.read_text.Goals as goal

pub returns : goal.returns
returns c = text_filled c.args.bytes.now c.copy_from_slice.new.self _ c.min-size.result c.min-size.ensures c.copy_from_slice.ensures.after refl
