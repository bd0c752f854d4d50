use Rattle.std.proofs.Common.{subst}
use Rattle.ca_server_circuit.specs.declared.step.FollowUp.{FollowUp}
use Rattle.ca_server_core.specs.Following.{CoversFor, LedFor}
use Rattle.ca_server_core.proofs.Led.{covers-begun, led-begun, led-reached, listed-begun}
use Rattle.ca_server_core.proofs.following.follow.Goals as goal

pub returns-in-Quiet-clause-led : goal.returns-in-Quiet-clause-led
returns-in-Quiet-clause-led c = subst (λ (e : FollowUp). LedFor e c.args.circuit c.args.records.now c.args.leading.now c.args.circuits.now) c.in-Quiet.is c.requires.led

pub returns-in-Wrote-clause-led : goal.returns-in-Wrote-clause-led
returns-in-Wrote-clause-led c =
    let led = subst (λ (e : FollowUp). LedFor e c.args.circuit c.args.records.now c.args.leading.now c.args.circuits.now) c.in-Wrote.is c.requires.led in
    led-reached c.in-Wrote.place _ c.args.circuits.now c.args.records.now c.post_to_all.new.circuits c.post_to_all.new.records c.args.leading.now c.post_to_all.ensures.reaches led

pub returns-in-Began-clause-led : goal.returns-in-Began-clause-led
returns-in-Began-clause-led c =
    let led = subst (λ (e : FollowUp). LedFor e c.args.circuit c.args.records.now c.args.leading.now c.args.circuits.now) c.in-Began.is c.requires.led in
    led-begun c.args.circuit c.args.circuits.now c.args.records.now c.watch.new.circuits c.watch.new.records c.args.leading.now c.watch.ensures.follows led

pub returns-in-Opened-clause-covered : goal.returns-in-Opened-clause-covered
returns-in-Opened-clause-covered c =
    let covered = subst (λ (e : FollowUp). CoversFor e c.args.circuit c.args.records.now c.args.watchers.now c.args.circuits.now) c.in-Opened.is c.requires.covered in
    covers-begun c.args.circuit c.args.circuits.now c.args.records.now c.lead.new.circuits c.lead.new.records c.args.watchers.now c.lead.ensures.follows covered

pub returns-in-Opened-clause-listed : goal.returns-in-Opened-clause-listed
returns-in-Opened-clause-listed c =
    listed-begun c.args.circuit c.args.circuits.now c.args.records.now c.lead.new.circuits c.lead.new.records c.args.watchers.now c.lead.ensures.follows c.requires.listed
