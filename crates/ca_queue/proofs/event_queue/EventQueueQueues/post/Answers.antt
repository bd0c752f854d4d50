use Rattle.std.proofs.Common.{List, Bool, sym, ap, ◌∙◌, subst}
use Rattle.ca_queue.specs.declared.lasts.Last.{Last}
use Rattle.ca_queue.specs.Ring.{AreNoted, IsRing, ring_queue, waits}
use Rattle.ca_queue.proofs.Rounds.{appended-found, behind-is, has-place, has-ring, post-appends, post-replaces, replaced-one}
use Rattle.ca_queue.proofs.event_queue.EventQueueQueues.post.Goals as goal

pub replaced-requires-clause-made : goal.replaced-requires-clause-made
replaced-requires-clause-made g c =
    has-ring c.args.key c.self.inside.ring c.self.inside.lasts.0 c.self.inside.lasts.1 c.self.invariant.made (rw (← c.self.view_is) at c.requires)

pub replaced-requires-clause-within : goal.replaced-requires-clause-within
replaced-requires-clause-within g c = c.self.invariant.round.sound.fits

pub replaced-requires-clause-behind : goal.replaced-requires-clause-behind
replaced-requires-clause-behind g c =
    behind-is c.args.key c.find-number.result c.self.inside.puts c.last.result c.puts_since-behind.result c.find-number.new.self.0 (waits c.self.inside.ring)
    (subst (λ (ls : List Last × Bool). AreNoted c.self.inside.puts (waits c.self.inside.ring) ls.0) (sym c.find-number.ensures.same) c.self.invariant.round.noted)
    c.find-number.ensures.at c.last.ensures c.puts_since-behind.ensures

pub replace-requires : goal.replace-requires
replace-requires g c = (post-replaces c.args.key c.in-Some.index c.self.inside.events_on (waits c.self.inside.ring) c.in-Some.ensures).within

pub invariant_of-self : goal.invariant_of-self
invariant_of-self g c =
    let there = rw (← c.self.view_is) at c.requires in
    let goes = post-replaces c.args.key c.in-Some.index c.self.inside.events_on (waits c.self.inside.ring) c.in-Some.ensures in
    let are = replaced-one c.args.key c.args.entry c.in-Some.index c.self.inside.ring c.replace.new.ring c.self.inside.lasts.0 c.self.inside.lasts.1 c.self.inside.events_on c.self.inside.puts c.self.inside.extra c.self.invariant there goes c.replace.ensures in
    subst (λ (ls : List Last × Bool). IsRing c.replace.new.ring ls.0 ls.1 c.self.inside.events_on c.self.inside.puts c.self.inside.extra) (sym c.find-number.ensures.same) are.kept

pub returns-in-Some-clause-posts : goal.returns-in-Some-clause-posts
returns-in-Some-clause-posts g c =
    let there = rw (← c.self.view_is) at c.requires in
    let goes = post-replaces c.args.key c.in-Some.index c.self.inside.events_on (waits c.self.inside.ring) c.in-Some.ensures in
    let are = replaced-one c.args.key c.args.entry c.in-Some.index c.self.inside.ring c.replace.new.ring c.self.inside.lasts.0 c.self.inside.lasts.1 c.self.inside.events_on c.self.inside.puts c.self.inside.extra c.self.invariant there goes c.replace.ensures in
    rw (← c.self.view_is) (ap (λ (ls : List Last × Bool). ring_queue (waits c.replace.new.ring) ls.0 c.self.inside.events_on) c.find-number.ensures.same ∙ are.is)

pub returns-in-Some-clause-sound : goal.returns-in-Some-clause-sound
returns-in-Some-clause-sound g c = (invariant_of-self g c).round.sound

pub append-requires-clause-place : goal.append-requires-clause-place
append-requires-clause-place g c =
    let there = rw (← c.self.view_is) at c.requires in
    let goes = post-appends c.args.key c.self.inside.events_on (waits c.self.inside.ring) c.in_default.ensures in
    has-place c.args.key c.self.inside.ring c.self.inside.lasts.0 c.self.inside.lasts.1 c.self.inside.events_on c.self.inside.puts c.self.inside.extra c.self.invariant there goes

pub invariant_of-self-2 : goal.invariant_of-self-2
invariant_of-self-2 g c =
    let there = rw (← c.self.view_is) at c.requires in
    let goes = post-appends c.args.key c.self.inside.events_on (waits c.self.inside.ring) c.in_default.ensures in
    (appended-found c.args.key c.args.entry c.find-number.result c.self.inside.puts c.append.new.puts c.self.inside.extra c.self.inside.ring c.append.new.ring c.self.inside.lasts c.find-number.new.self c.append.new.lasts c.self.inside.events_on c.self.invariant there c.find-number.ensures.same c.find-number.ensures.at goes c.append.ensures.ring c.append.ensures.lasts c.append.ensures.puts).kept

pub returns-clause-posts : goal.returns-clause-posts
returns-clause-posts g c =
    let there = rw (← c.self.view_is) at c.requires in
    let goes = post-appends c.args.key c.self.inside.events_on (waits c.self.inside.ring) c.in_default.ensures in
    rw (← c.self.view_is)
    (appended-found c.args.key c.args.entry c.find-number.result c.self.inside.puts c.append.new.puts c.self.inside.extra c.self.inside.ring c.append.new.ring c.self.inside.lasts c.find-number.new.self c.append.new.lasts c.self.inside.events_on c.self.invariant there c.find-number.ensures.same c.find-number.ensures.at goes c.append.ensures.ring c.append.ensures.lasts c.append.ensures.puts).is

pub returns-clause-sound : goal.returns-clause-sound
returns-clause-sound g c = (invariant_of-self-2 g c).round.sound
