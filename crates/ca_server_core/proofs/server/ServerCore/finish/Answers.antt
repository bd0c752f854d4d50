use Rattle.std.proofs.Common.{sym, subst}
use Rattle.ca_server_circuit.specs.declared.step.FollowUp.{FollowUp}
use Rattle.ca_records.specs.Store.{records_of}
use Rattle.ca_server_core.specs.Following.{CoversFor, LedFor}
use Rattle.ca_server_core.proofs.Led.{led-finished, led-thinned}
use Rattle.ca_server_core.proofs.Covered.{covers-thinned}
use Rattle.ca_server_core.proofs.Finished.{finished-sound, replied-sound}
use Rattle.ca_server_core.proofs.Listed.{listed-finished}
use Rattle.ca_server_core.proofs.Nexts.{finished-covers, viewed-finish}
use Rattle.ca_server_core.proofs.Thinned.{thins-replied}
use Rattle.ca_server_core.proofs.server.ServerCore.finish.Goals as goal

pub reply_on-requires : goal.reply_on-requires
reply_on-requires c =
    finished-sound c.self.inside.records c.finish.new.self c.self.inside.circuits c.args.name.now c.in_ok-finished.finished c.in_ok-finished.ensures c.self.invariant.sound

pub follow-requires-clause-sound : goal.follow-requires-clause-sound
follow-requires-clause-sound c =
    replied-sound c.finish.new.self c.reply_on.new.records c.self.inside.circuits c.reply_on.new.circuits c.in_ok-finished.finished.ended c.reply_on.ensures
    (finished-sound c.self.inside.records c.finish.new.self c.self.inside.circuits c.args.name.now c.in_ok-finished.finished c.in_ok-finished.ensures c.self.invariant.sound)

pub follow-requires-clause-covered : goal.follow-requires-clause-covered
follow-requires-clause-covered c =
    let i = c.self.inside in
    let f = c.in_ok-finished.finished in
    let kept = covers-thinned i.watchers i.circuits c.reply_on.new.circuits (thins-replied c.finish.new.self c.reply_on.new.records i.circuits c.reply_on.new.circuits f.ended c.reply_on.ensures) c.self.invariant.covered in
    subst (λ (d : FollowUp). CoversFor d f.ended.circuit c.reply_on.new.records i.watchers c.reply_on.new.circuits) (sym c.left_by-left.ensures)
    (finished-covers i.watchers i.records c.finish.new.self c.reply_on.new.records i.circuits c.reply_on.new.circuits c.args.name.now f c.in_ok-finished.ensures c.reply_on.ensures kept)

pub follow-requires-clause-listed : goal.follow-requires-clause-listed
follow-requires-clause-listed c =
    let i = c.self.inside in
    let f = c.in_ok-finished.finished in
    listed-finished i.records c.finish.new.self c.reply_on.new.records i.circuits c.reply_on.new.circuits c.args.name.now f i.watchers c.in_ok-finished.ensures c.reply_on.ensures c.self.invariant.listed

pub follow-requires-clause-led : goal.follow-requires-clause-led
follow-requires-clause-led c =
    let i = c.self.inside in
    let f = c.in_ok-finished.finished in
    let listed = listed-finished i.records c.finish.new.self c.reply_on.new.records i.circuits c.reply_on.new.circuits c.args.name.now f i.leading c.in_ok-finished.ensures c.reply_on.ensures c.self.invariant.led.listed in
    subst (λ (d : FollowUp). LedFor d f.ended.circuit c.reply_on.new.records i.leading c.reply_on.new.circuits) (sym c.left_by-left.ensures)
    (led-finished f c.reply_on.new.records i.leading c.reply_on.new.circuits
    (led-thinned (records_of i.records) (records_of c.reply_on.new.records) i.leading i.circuits c.reply_on.new.circuits (thins-replied c.finish.new.self c.reply_on.new.records i.circuits c.reply_on.new.circuits f.ended c.reply_on.ensures) listed c.self.invariant.led))

pub returns : goal.returns
returns c =
    let i = c.self.inside in
    viewed-finish c.args.self.now i.port i.moment i.applied c.more_applied-self-inside.result i.beacons i.records c.finish.new.self c.reply_on.new.records c.follow.new.records i.circuits c.reply_on.new.circuits c.follow.new.circuits c.args.name.now c.in_ok-finished.finished c.left_by-left.result c.is_write.result c.self.view_is c.left_by-left.ensures c.is_write.ensures c.more_applied-self-inside.ensures c.in_ok-finished.ensures c.reply_on.ensures c.follow.ensures.follows
