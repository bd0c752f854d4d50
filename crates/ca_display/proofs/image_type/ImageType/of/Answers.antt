use Rattle.ca_display.proofs.Images.{above_all}
use Rattle.ca_display.proofs.image_type.ImageType.of.Goals as goal

pub returns-in-None : goal.returns-in-None
returns-in-None c = above_all c.args.number c.in_default.ensures c.in-None.ensures
