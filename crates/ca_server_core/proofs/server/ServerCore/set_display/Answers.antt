use Rattle.std.proofs.Common.{Bool, Result, sym, subst}
use Rattle.std.specs.Arc.{arc_value}
use Rattle.ca_arena.specs.declared.handle.Handle.{Handle}
use Rattle.ca_dbr.specs.Data.{data_of}
use Rattle.ca_text.specs.declared.refusal.Refusal.{Refusal}
use Rattle.ca_model.specs.ServerCalls.{SetsDisplay, property_mask}
use Rattle.ca_server_core.proofs.Led.{led-reached}
use Rattle.ca_server_core.proofs.Posted.{same-error}
use Rattle.ca_server_core.proofs.Servers.{server_of}
use Rattle.ca_server_core.proofs.Shown.{listed-shown, shown-sound, viewed-shown, viewed-unshown}
use Rattle.ca_server_core.proofs.server.ServerCore.set_display.Goals as goal

pub returns-in_err-place : goal.returns-in_err-place
returns-in_err-place c =
    let i = c.self.inside in
    let f = c.in_err-place.field-0.0 in
    let d = data_of (arc_value c.args.display) in
    subst (λ (r : Result (Unit {0}) Refusal). (gone : Handle → Bool) × SetsDisplay c.args.self.now c.args.name.now d gone r (server_of i.port c.set_display.new.self i.moment i.circuits i.beacons i.applied))
    (sym (same-error c.from_residual.result f c.from_residual.ensures.1))
    (viewed-unshown c.args.self.now i.port i.moment i.applied i.beacons i.records c.set_display.new.self i.circuits c.args.name.now d f c.self.view_is c.in_err-place.ensures)

pub post_to_all-requires-clause-sound : goal.post_to_all-requires-clause-sound
post_to_all-requires-clause-sound c =
    let i = c.self.inside in
    shown-sound i.records c.set_display.new.self i.circuits c.args.name.now (data_of (arc_value c.args.display)) c.in_ok-place.place c.in_ok-place.ensures c.self.invariant.sound

pub post_to_all-requires-clause-listed : goal.post_to_all-requires-clause-listed
post_to_all-requires-clause-listed c =
    let i = c.self.inside in
    listed-shown i.records c.set_display.new.self c.args.name.now (data_of (arc_value c.args.display)) c.in_ok-place.place i.watchers c.in_ok-place.ensures c.self.invariant.listed

pub returns : goal.returns
returns c =
    let i = c.self.inside in
    viewed-shown c.args.self.now i.port i.moment i.applied i.beacons i.records c.set_display.new.self c.post_to_all.new.records i.circuits c.post_to_all.new.circuits c.args.name.now (data_of (arc_value c.args.display)) c.in_ok-place.place c.self.view_is c.in_ok-place.ensures c.post_to_all.ensures.reaches

pub invariant_of-self-2 : goal.invariant_of-self-2
invariant_of-self-2 c =
    let i = c.self.inside in
    let listed = listed-shown i.records c.set_display.new.self c.args.name.now (data_of (arc_value c.args.display)) c.in_ok-place.place i.leading c.in_ok-place.ensures c.self.invariant.led.listed in
    record {
      sound = c.post_to_all.ensures.sound;
      covered = c.post_to_all.ensures.covered;
      listed = c.post_to_all.ensures.listed;
      led = led-reached c.in_ok-place.place property_mask i.circuits c.set_display.new.self c.post_to_all.new.circuits c.post_to_all.new.records i.leading c.post_to_all.ensures.reaches (record { leads = c.self.invariant.led.leads; listed = listed });
    }
