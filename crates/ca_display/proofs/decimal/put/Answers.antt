use Rattle.std.proofs.Common.{take, arith, rules}
use Rattle.ca_display.proofs.Decimals.{put_cut}
use Rattle.ca_display.proofs.decimal.put.Goals as goal

pub returns : goal.returns
returns c =
    put_cut c.args.text.now.items c.try_extend_from_slice.new.self.items c.args.bytes.now (take c.min-size.result c.args.bytes.now) c.remaining_capacity.result c.min-size.result (omega (arith, c.remaining_capacity.ensures)) (search rules) (search rules) c.in-Ok.ensures.ok
