use Rattle.std.proofs.Common.{Err, Ok}
use Rattle.ca_text.specs.declared.refusal.Refusal.TheVariants.{NotBusy}
use Rattle.ca_records.proofs.CallSteps.{finishes-named}
use Rattle.ca_records.proofs.served_records.ServedRecords.finish.Goals as goal

pub finish_at-requires : goal.finish_at-requires
finish_at-requires c = (c.in-Some.ensures.r, c.in-Some.ensures.at)

pub returns-in-Some-finish_at : goal.returns-in-Some-finish_at
returns-in-Some-finish_at c =
    finishes-named c.args.self.now c.finish_at.new.self c.args.name.now c.in-Some.place (Ok c.in-Some-finish_at.finished) c.in-Some.ensures c.in-Some-finish_at.ensures

pub returns-in-None : goal.returns-in-None
returns-in-None c =
    finishes-named c.args.self.now c.finish_at.new.self c.args.name.now c.in-Some.place (Err NotBusy) c.in-Some.ensures c.in-None.ensures
