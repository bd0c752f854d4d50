use Rattle.ca_dbr.specs.Elements.{elements}
use Rattle.ca_world.proofs.Judgements.{post-judged, post-unknown}
use Rattle.ca_world.proofs.judging.takes_post.Goals as goal

pub returns-in-Some : goal.returns-in-Some
returns-in-Some c =
    post-judged c.args.core.now.records c.args.name.now (elements c.args.value.now) c.held.result.now c.count.result c.in-Some.kept.now c.in-Some.ensures c.held.ensures.held c.count.ensures.count c.fits_in.result c.fits_in.ensures.fits c.fits_in.ensures.faults

pub returns-in-None : goal.returns-in-None
returns-in-None c = post-unknown c.args.core.now.records c.args.name.now (elements c.args.value.now) c.in-None.ensures
