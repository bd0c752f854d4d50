use Rattle.std.proofs.Common.{◌≡◌, ◌∷◌, ◌++◌, [], List, length, map, sym, ap, subst, refl, ◌∙◌}
use Rattle.std.specs.List.{FoldsTo}
use Rattle.std.specs.Vec.Iter.{into_iter_items}
use Rattle.std.proofs.lemmas.List.{append-nil, nil_from_length}
use Rattle.ca_events.specs.Events.{event_of}
use Rattle.ca_model.specs.Events as world
use Rattle.ca_replay.specs.Drawing.{GoesAlong, outset}
use Rattle.ca_replay.specs.Steps.{along}
use Rattle.ca_world_data.proofs.Ranges.{folds-more}
use Rattle.ca_replay.proofs.Goings.{parts-next}
use Rattle.ca_replay.proofs.draw.draw_events.Goals as goal

pub loop-event-preserved : goal.loop-event-preserved
loop-event-preserved c =
    let before : List world.Event = c.loop-event.invariant.before in
    record {
      before = before ++ event_of c.in-Some.event ∷ [];
      split = parts-next event_of before (into_iter_items c.loop-event.event-iterator) (into_iter_items c.next.new.self) c.in-Some.event (map event_of c.args.events.items) c.in-Some.ensures.steps.0 c.loop-event.invariant.split;
      goes = folds-more GoesAlong before (outset c.args.config c.args.seed) (along c.loop-event.here c.loop-event.drawing.generator c.loop-event.all.items) (along c.in_ok-here.here c.go_along.new.drawing.generator c.go_along.new.all.items) (event_of c.in-Some.event) c.loop-event.invariant.goes c.in_ok-here.ensures.ok;
    }

pub returns-clause-ok : goal.returns-clause-ok
returns-clause-ok c =
    let before : List world.Event = c.loop-event.invariant.before in
    let none : length (into_iter_items c.loop-event.event-iterator) ≡ 0 = sym c.loop-event.event-iterator.rest.ok.0 ∙ c.in-None.ensures.steps.0 in
    let empty : into_iter_items c.loop-event.event-iterator ≡ [] = nil_from_length (into_iter_items c.loop-event.event-iterator) none in
    let whole : before ≡ map event_of c.args.events.items = sym (append-nil before) ∙ ap (λ xs. before ++ map event_of xs) (sym empty) ∙ c.loop-event.invariant.split in
    let last = along c.loop-event.here c.loop-event.drawing.generator c.loop-event.all.items in
    (last, subst (λ (es : List world.Event). FoldsTo GoesAlong (outset c.args.config c.args.seed) es last) whole c.loop-event.invariant.goes, refl)
