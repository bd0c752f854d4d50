use Rattle.std.proofs.Common.{◌≡◌, ◌∙◌, ℕ, List, Some, None, length, map, sym, arith}
use Rattle.std.proofs.lemmas.List.{length-map}
use Rattle.ca_events.specs.declared.event.Event.{Event}
use Rattle.ca_events.specs.Events.{event_of}
use Rattle.ca_text.specs.declared.refusal.Refusal.TheVariants.{OutOfMemory}
use Rattle.ca_text.specs.Place.{At}
use Rattle.ca_text.proofs.Places.{At-map}
use Rattle.ca_model.specs.Events as model
use Rattle.ca_model.specs.World.{World}
use Rattle.ca_world_data.proofs.Worlds.{found}
use Rattle.ca_world.proofs.Ended.{ran-next, run-all, run-as, run-refused, run-stopped}
use Rattle.ca_world.proofs.running.run_telling.Goals as goal
use Rattle.ca_world.proofs.running.run_telling.Goals.{in-None+in-Ok, in-Some+in-Done}

pub returns-in-Err : goal.returns-in-Err
returns-in-Err g c =
    let e : Event = c.index-events-place.result in
    let es : List model.Event = map event_of c.args.events.now in
    let n : ℕ = c.loop-place.place in
    let at : At es n (event_of e) = At-map event_of c.args.events.now n e (found c.args.events.now n e e c.loop-place-test.true c.index-events-place.is) in
    let w : World = c.happen.new.self in
    run-as c.args.config es n c.ended.result.done (Some c.in-Err.refusal) c.ended.result.refusal w c.ended.result.world c.ended.ensures.done c.ended.ensures.refusal (c.ended.ensures.world ∙ c.stop.ensures)
    (λ both. run-refused c.args.config es n c.loop-place.world (event_of e) c.in-Err.refusal w at c.loop-place.invariant c.in-Err.ensures both)
    c.ended.ensures.safe c.ended.ensures.legal c.ended.ensures.bytes

pub returns-in-Refused : goal.returns-in-Refused
returns-in-Refused g c =
    let e : Event = c.index-events-place.result in
    let es : List model.Event = map event_of c.args.events.now in
    let n : ℕ = c.loop-place.place in
    let at : At es n (event_of e) = At-map event_of c.args.events.now n e (found c.args.events.now n e e c.loop-place-test.true c.index-events-place.is) in
    let r = c.ended-in-Refused in
    run-as c.args.config es n r.result.done (Some c.in-Refused.refusal) r.result.refusal c.in-Refused.last r.result.world r.ensures.done r.ensures.refusal (r.ensures.world ∙ c.stop-in-Refused.ensures)
    (λ both. run-refused c.args.config es n c.loop-place.world (event_of e) c.in-Refused.refusal c.in-Refused.last at c.loop-place.invariant c.in-Refused.ensures both)
    r.ensures.safe r.ensures.legal r.ensures.bytes

pub returns-in-Stopped : goal.returns-in-Stopped
returns-in-Stopped g c =
    let e : Event = c.index-events-place.result in
    let es : List model.Event = map event_of c.args.events.now in
    let n : ℕ = c.loop-place.place in
    let at : At es n (event_of e) = At-map event_of c.args.events.now n e (found c.args.events.now n e e c.loop-place-test.true c.index-events-place.is) in
    let r = c.ended-in-Stopped in
    run-as c.args.config es n r.result.done (Some OutOfMemory) r.result.refusal c.in-Stopped.last r.result.world r.ensures.done r.ensures.refusal r.ensures.world
    (λ both. run-stopped c.args.config es n c.loop-place.world (event_of e) c.in-Stopped.last at c.loop-place.invariant c.in-Stopped.ensures both)
    r.ensures.safe r.ensures.legal r.ensures.bytes

pub loop-place-preserved : goal.loop-place-preserved
loop-place-preserved g c =
    let e : Event = c.index-events-place.result in
    let es : List model.Event = map event_of c.args.events.now in
    let n : ℕ = c.loop-place.place in
    let at : At es n (event_of e) = At-map event_of c.args.events.now n e (found c.args.events.now n e e c.loop-place-test.true c.index-events-place.is) in
    elim c.match-moment.branch [
      | in-None+in-Ok w ↦ rw w.world-is (ran-next c.args.config es n c.loop-place.world w.happen.new.self (event_of e) at c.loop-place.invariant w.in-Ok.ensures)
      | in-Some+in-Done w ↦ rw w.world-is (ran-next c.args.config es n c.loop-place.world w.in-Done.next (event_of e) at c.loop-place.invariant w.in-Done.ensures)
    ]

pub returns : goal.returns
returns g c =
    let es : List model.Event = map event_of c.args.events.now in
    let n : ℕ = c.loop-place.place in
    let all : n ≡ length c.args.events.now = omega (arith, c.loop-place-test.false, c.loop-place.auto.place-end) in
    let same : length es ≡ length c.args.events.now = length-map c.args.events.now event_of in
    let r = c.ended-2 in
    run-as c.args.config es n r.result.done None r.result.refusal c.loop-place.world r.result.world (r.ensures.done ∙ sym all) r.ensures.refusal (r.ensures.world ∙ c.stop-2.ensures)
    (λ both. run-all c.args.config es n c.loop-place.world (all ∙ sym same) c.loop-place.invariant both)
    r.ensures.safe r.ensures.legal r.ensures.bytes
