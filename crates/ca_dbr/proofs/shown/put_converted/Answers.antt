use Rattle.std.proofs.Common.{rules}
use Rattle.ca_dbr.proofs.Gathering.{put_more}
use Rattle.ca_dbr.proofs.shown.put_converted.Goals as goal

pub loop-item-preserved : goal.loop-item-preserved
loop-item-preserved g c = record {
  put = put_more g.T.ImageElement.spelled g.T.ImageElement.fits g.C.Conversion.gives c.args.items.now c.loop-item.item-index c.args.out.now.items c.loop-item.out.items c.put.new.out.items c.item-item.result c.in-Ok.x c.loop-item.invariant.put (search rules) c.item-item.is (search rules) c.put.ensures.after c.put.ensures.fits;
  len = search rules;
  capacity = search rules;
}
