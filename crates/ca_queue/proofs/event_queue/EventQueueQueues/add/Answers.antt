use Rattle.std.proofs.Common.{◌<◌, ◌++◌, ◌∷◌, [], length, ap, ◌∙◌, arith}
use Rattle.std.proofs.lemmas.List.{length-map}
use Rattle.ca_queue.specs.Ring.{unplaced}
use Rattle.ca_text.specs.Limits.{queue_subscriptions}
use Rattle.ca_queue.proofs.Rounds.{added-one}
use Rattle.ca_queue.proofs.event_queue.EventQueueQueues.add.Goals as goal

pub invariant_of-self-2 : goal.invariant_of-self-2
invariant_of-self-2 g c =
    let few : length c.self.inside.lasts.0 < queue_subscriptions = omega (arith, c.self.invariant.round.sound.few, length-map c.self.inside.lasts.0 (λ l. l.key)) in
    let are = added-one c.args.key c.self.inside.ring c.self.inside.lasts.0 c.push.new.self.0 c.self.inside.lasts.1 c.push.new.self.1 c.self.inside.events_on c.self.inside.puts c.self.inside.extra c.self.invariant few (rw (← c.self.view_is) at c.requires) (ap (λ p. p.0) c.push.ensures ∙ ap (λ ls. ls ++ unplaced c.args.key ∷ []) c.in_ok-reserve.ensures.lasts) (ap (λ p. p.1) c.push.ensures) in
    rw c.in_ok-make.ensures.ok are.kept

pub returns-clause-sound : goal.returns-clause-sound
returns-clause-sound g c = (invariant_of-self-2 g c).round.sound
