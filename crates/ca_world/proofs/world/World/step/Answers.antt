use Rattle.std.proofs.Common.{sym, subst}
use Rattle.ca_events.specs.Events.{event_of}
use Rattle.ca_model.specs.Events.{Event}
use Rattle.ca_world.specs.Stepping.{Steps}
use Rattle.ca_world.proofs.Ended.{moment-is}
use Rattle.ca_world.proofs.world.World.step.Goals as goal

pub returns-in-Some : goal.returns-in-Some
returns-in-Some c =
    subst (λ (e : Event). Steps c.args.self e c.tick.result) (sym (moment-is (event_of c.args.event.now) c.in-Some.moment (sym c.in-Some.ensures))) c.tick.ensures
