use Rattle.ca_repeat.proofs.Firsts.{blank-left, other-left}
use Rattle.ca_repeat.proofs.first.is_used_up.Goals as goal

pub returns-in-BlankBeacon : goal.returns-in-BlankBeacon
returns-in-BlankBeacon c ip = blank-left c.args.first c.args.bytes.now ip c.in-BlankBeacon.is

pub returns-in-Other : goal.returns-in-Other
returns-in-Other c ip = other-left c.args.first c.args.bytes.now ip c.in-Other.is c.requires
