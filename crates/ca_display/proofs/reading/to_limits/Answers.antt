use Rattle.ca_display.proofs.Readings.{eight_filled}
use Rattle.ca_display.proofs.reading.to_limits.Goals as goal

pub returns : goal.returns
returns c = eight_filled c.args.doubles.now c.copy_from_slice.new.self c.requires c.copy_from_slice.ensures.after
