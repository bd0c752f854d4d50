use Rattle.std.proofs.Common.{sym}
use Rattle.ca_client_tables.proofs.Quieted.{quiet-more}
use Rattle.ca_client_tables.proofs.searches.quiet_with.Goals as goal

pub returns : goal.returns
returns c =
    quiet-more c.quiet_at.result c.args.limit c.args.places.now.entries c.args.index (c.in-Some.field-0-0.now, c.in-Some.place.now) (sym c.in-Some.ensures.entry) c.quiet_at.ensures.within c.requires.before c.quiet_at.ensures.quiet
