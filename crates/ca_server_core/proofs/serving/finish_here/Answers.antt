use Rattle.std.proofs.Common.{sym, subst}
use Rattle.ca_records.specs.Store.{Store, records_of}
use Rattle.ca_server_circuit.specs.declared.step.FollowUp.{FollowUp}
use Rattle.ca_server_core.specs.Covering.{AreLed, AreListed}
use Rattle.ca_server_core.specs.Following.{CoversFor, LedFor}
use Rattle.ca_server_core.proofs.Led.{led-finished, led-thinned}
use Rattle.ca_server_core.specs.Sound.{IsSound}
use Rattle.ca_server_core.proofs.Covered.{covers-thinned}
use Rattle.ca_server_core.proofs.Finished.{finished-sound, replied-sound}
use Rattle.ca_server_core.proofs.Listed.{listed-finished}
use Rattle.ca_server_core.proofs.Nexts.{finished-covers}
use Rattle.ca_server_core.proofs.Noted.{ended-at, stayed-at}
use Rattle.ca_server_core.proofs.Thinned.{thins-replied}
use Rattle.ca_server_core.proofs.serving.finish_here.Goals as goal

pub reply_on-requires : goal.reply_on-requires
reply_on-requires c = (let d = c.in-Some.ensures in finished-sound c.args.records.now c.finish_at.new.self c.args.circuits.now d.0 c.in-Some.finished d.2 c.requires.sound)

pub follow-requires-clause-sound : goal.follow-requires-clause-sound
follow-requires-clause-sound c =
    let d = c.in-Some.ensures in
    replied-sound c.finish_at.new.self c.reply_on.new.records c.args.circuits.now c.reply_on.new.circuits c.in-Some.finished.ended c.reply_on.ensures
    (finished-sound c.args.records.now c.finish_at.new.self c.args.circuits.now d.0 c.in-Some.finished d.2 c.requires.sound)

pub follow-requires-clause-covered : goal.follow-requires-clause-covered
follow-requires-clause-covered c =
    let d = c.in-Some.ensures in
    let f = c.in-Some.finished in
    let kept = covers-thinned c.args.watchers.now c.args.circuits.now c.reply_on.new.circuits (thins-replied c.finish_at.new.self c.reply_on.new.records c.args.circuits.now c.reply_on.new.circuits f.ended c.reply_on.ensures) c.requires.covered in
    subst (λ (e : FollowUp). CoversFor e f.ended.circuit c.reply_on.new.records c.args.watchers.now c.reply_on.new.circuits) (sym c.left_by-left.ensures)
    (finished-covers c.args.watchers.now c.args.records.now c.finish_at.new.self c.reply_on.new.records c.args.circuits.now c.reply_on.new.circuits d.0 f d.2 c.reply_on.ensures kept)

pub follow-requires-clause-listed : goal.follow-requires-clause-listed
follow-requires-clause-listed c =
    let d = c.in-Some.ensures in
    let f = c.in-Some.finished in
    listed-finished c.args.records.now c.finish_at.new.self c.reply_on.new.records c.args.circuits.now c.reply_on.new.circuits d.0 f c.args.watchers.now d.2 c.reply_on.ensures c.requires.listed

pub follow-requires-clause-led : goal.follow-requires-clause-led
follow-requires-clause-led c =
    let d = c.in-Some.ensures in
    let f = c.in-Some.finished in
    let listed = listed-finished c.args.records.now c.finish_at.new.self c.reply_on.new.records c.args.circuits.now c.reply_on.new.circuits d.0 f c.args.leading.now d.2 c.reply_on.ensures c.requires.led.listed in
    subst (λ (e : FollowUp). LedFor e f.ended.circuit c.reply_on.new.records c.args.leading.now c.reply_on.new.circuits) (sym c.left_by-left.ensures)
    (led-finished f c.reply_on.new.records c.args.leading.now c.reply_on.new.circuits
    (led-thinned (records_of c.args.records.now) (records_of c.reply_on.new.records) c.args.leading.now c.args.circuits.now c.reply_on.new.circuits (thins-replied c.finish_at.new.self c.reply_on.new.records c.args.circuits.now c.reply_on.new.circuits f.ended c.reply_on.ensures) listed c.requires.led))

pub returns-in_default-clause-led : goal.returns-in_default-clause-led
returns-in_default-clause-led c =
    subst (λ (s : Store). AreLed (records_of s) c.args.leading.now c.args.circuits.now) (sym c.in_default.ensures.2.1) c.requires.led

pub returns-in_default-clause-finishes : goal.returns-in_default-clause-finishes
returns-in_default-clause-finishes c =
    stayed-at c.args.place c.args.applied.now c.args.circuits.now c.args.records.now c.finish_at.new.self c.in_default.ensures

pub returns-in_default-clause-sound : goal.returns-in_default-clause-sound
returns-in_default-clause-sound c =
    subst (λ (s : Store). IsSound (records_of s) c.args.circuits.now) (sym c.in_default.ensures.2.1) c.requires.sound

pub returns-in_default-clause-listed : goal.returns-in_default-clause-listed
returns-in_default-clause-listed c =
    subst (λ (s : Store). AreListed (records_of s) c.args.watchers.now) (sym c.in_default.ensures.2.1) c.requires.listed

pub returns-clause-finishes : goal.returns-clause-finishes
returns-clause-finishes c =
    ended-at c.args.place c.args.applied.now c.more_applied.result c.args.circuits.now c.reply_on.new.circuits c.follow.new.circuits c.args.records.now c.finish_at.new.self c.reply_on.new.records c.follow.new.records c.in-Some.finished c.left_by-left.result c.is_write.result c.in-Some.ensures c.reply_on.ensures c.left_by-left.ensures c.is_write.ensures c.more_applied.ensures c.follow.ensures.follows
