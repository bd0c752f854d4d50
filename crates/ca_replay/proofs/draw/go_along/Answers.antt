use Rattle.std.proofs.Common.{map}
use Rattle.ca_world_script.specs.Drawn.{numbers}
use Rattle.ca_events.specs.Events.{event_of}
use Rattle.ca_replay.proofs.Goings.{behind-one, ended-at, went-on}
use Rattle.ca_replay.proofs.draw.go_along.Goals as goal

pub returns-in_ok-last-in-Done-clause-ok : goal.returns-in_ok-last-in-Done-clause-ok
returns-in_ok-last-in-Done-clause-ok c =
    went-on c.args.here c.in-Some.world c.in-Done.next c.in_ok-last-in-Done.last (numbers c.args.drawing.now.generator) (numbers c.draw_some.new.drawing.generator) (map event_of c.args.all.now.items) (map event_of c.push-in-Done.new.self.items) (map event_of c.draw_some.new.all.items) (event_of c.args.event)
    c.in-Some.is c.in-Done.ensures (behind-one event_of c.args.all.now.items c.push-in-Done.new.self.items c.args.event c.in_ok-push-in-Done.ensures.items) c.in_ok-last-in-Done.ensures.ok

pub returns-in_ok-push-in-BadEvent-clause-ok : goal.returns-in_ok-push-in-BadEvent-clause-ok
returns-in_ok-push-in-BadEvent-clause-ok c =
    ended-at c.args.here c.in-Some.world c.in-Refused.field-0 (numbers c.args.drawing.now.generator) (map event_of c.args.all.now.items) (map event_of c.push-in-BadEvent.new.self.items) (event_of c.args.event) c.in-Refused.refusal
    c.in-Some.is c.in-Refused.ensures c.in-BadEvent.is (behind-one event_of c.args.all.now.items c.push-in-BadEvent.new.self.items c.args.event c.in_ok-push-in-BadEvent.ensures.items)
