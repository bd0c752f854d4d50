use Rattle.std.proofs.Common.{◌≡◌, Ok, Result, ap, sym, subst}
use Rattle.ca_arena.specs.declared.handle.Handle.{Handle}
use Rattle.ca_dbr.specs.Elements.{Elements, elements}
use Rattle.ca_dbr.specs.Held.{displayed_by}
use Rattle.ca_records.specs.Store.{display_at, records_of}
use Rattle.ca_text.specs.declared.refusal.Refusal.{Refusal}
use Rattle.std.proofs.Common.{Bool}
use Rattle.ca_model.specs.Server.{Server}
use Rattle.ca_model.specs.ServerCalls.{Posts}
use Rattle.ca_server_core.proofs.Led.{led-reached}
use Rattle.ca_server_core.proofs.Listed.{listed-posted}
use Rattle.ca_server_core.proofs.Posted.{posted-sound, same-error, viewed-post, viewed-refused}
use Rattle.ca_server_core.proofs.Servers.{server_of}
use Rattle.ca_server_core.proofs.server.ServerCore.post.Goals as goal

pub returns-in_err-place : goal.returns-in_err-place
returns-in_err-place c =
    let i = c.self.inside in
    let f = c.in_err-place.field-0.0 in
    let v = elements c.args.value in
    let e = displayed_by (display_at (records_of i.records) c.args.name.now) v in
    let same : e ≡ displayed_by (display_at c.args.self.now.records c.args.name.now) v = ap (λ (y : Server). displayed_by (display_at y.records c.args.name.now) v) c.self.view_is in
    subst (λ (x : Elements). (gone : Handle → Bool) × Posts c.args.self.now c.args.name.now (record { value = x; meta = c.args.meta }) c.args.mask gone c.from_residual.result (server_of i.port c.post.new.self i.moment i.circuits i.beacons i.applied)) same (
    subst (λ (r : Result (Unit {0}) Refusal). (gone : Handle → Bool) × Posts c.args.self.now c.args.name.now (record { value = e; meta = c.args.meta }) c.args.mask gone r (server_of i.port c.post.new.self i.moment i.circuits i.beacons i.applied))
    (sym (same-error c.from_residual.result f c.from_residual.ensures.1))
    (viewed-refused c.args.self.now i.port i.moment i.applied c.args.mask i.beacons i.records c.post.new.self i.circuits c.args.name.now e c.args.meta f c.self.view_is c.in_err-place.ensures))

pub post_to_all-requires-clause-sound : goal.post_to_all-requires-clause-sound
post_to_all-requires-clause-sound c =
    let i = c.self.inside in
    posted-sound i.records c.post.new.self i.circuits c.args.name.now (displayed_by (display_at (records_of i.records) c.args.name.now) (elements c.args.value)) c.args.meta c.in_ok-place.place c.in_ok-place.ensures c.self.invariant.sound

pub post_to_all-requires-clause-listed : goal.post_to_all-requires-clause-listed
post_to_all-requires-clause-listed c =
    let i = c.self.inside in
    listed-posted i.records c.post.new.self c.args.name.now (displayed_by (display_at (records_of i.records) c.args.name.now) (elements c.args.value)) c.args.meta c.in_ok-place.place i.watchers c.in_ok-place.ensures c.self.invariant.listed

pub returns : goal.returns
returns c =
    let i = c.self.inside in
    let v = elements c.args.value in
    let e = displayed_by (display_at (records_of i.records) c.args.name.now) v in
    let same : e ≡ displayed_by (display_at c.args.self.now.records c.args.name.now) v = ap (λ (y : Server). displayed_by (display_at y.records c.args.name.now) v) c.self.view_is in
    subst (λ (x : Elements). (gone : Handle → Bool) × Posts c.args.self.now c.args.name.now (record { value = x; meta = c.args.meta }) c.args.mask gone (Ok tt) (server_of i.port c.post_to_all.new.records i.moment c.post_to_all.new.circuits i.beacons i.applied)) same (viewed-post c.args.self.now i.port i.moment i.applied c.args.mask i.beacons i.records c.post.new.self c.post_to_all.new.records i.circuits c.post_to_all.new.circuits c.args.name.now e c.args.meta c.in_ok-place.place c.self.view_is c.in_ok-place.ensures c.post_to_all.ensures.reaches)

pub invariant_of-self-2 : goal.invariant_of-self-2
invariant_of-self-2 c =
    let i = c.self.inside in
    let listed = listed-posted i.records c.post.new.self c.args.name.now (displayed_by (display_at (records_of i.records) c.args.name.now) (elements c.args.value)) c.args.meta c.in_ok-place.place i.leading c.in_ok-place.ensures c.self.invariant.led.listed in
    record {
      sound = c.post_to_all.ensures.sound;
      covered = c.post_to_all.ensures.covered;
      listed = c.post_to_all.ensures.listed;
      led = led-reached c.in_ok-place.place c.args.mask i.circuits c.post.new.self c.post_to_all.new.circuits c.post_to_all.new.records i.leading c.post_to_all.ensures.reaches (record { leads = c.self.invariant.led.leads; listed = listed });
    }
