use Rattle.std.proofs.Common.{ℕ, ◌<◌, List, length, map, arith}
use Rattle.std.proofs.lemmas.List.{length-map}
use Rattle.ca_text.specs.Place.{At}
use Rattle.ca_text.proofs.Places.{At-map, At-within}
use Rattle.ca_world_data.specs.declared.history.LogEntry.{LogEntry}
use Rattle.ca_world_data.specs.Seen.{entry_of, place_of}
use Rattle.ca_world_data.proofs.Worlds.{found}
use Rattle.ca_world.proofs.Finishings.{none-told, wait-found, wait-none}
use Rattle.ca_world.proofs.next_write.value_waiting.Goals as goal

pub returns-in-Some : goal.returns-in-Some
returns-in-Some c =
    let es : List LogEntry = c.args.log.now in
    let i : ℕ = c.loop-entry.entry-index in
    let within : i < length es = omega (arith, c.loop-entry-test.true) in
    let at : At es i c.entry-item.result = found es i c.entry-item.result c.entry-item.result within c.entry-item.is in
    (entry_of c.entry-item.result, (i, At-map entry_of es i c.entry-item.result at), wait-found (λ h. h.now) (entry_of c.entry-item.result) (place_of c.args.put) c.value_in.result c.in-Some.value c.in-Some.is c.value_in.ensures)

pub loop-entry-preserved : goal.loop-entry-preserved
loop-entry-preserved c =
    let es : List LogEntry = c.args.log.now in
    let i : ℕ = c.loop-entry.entry-index in
    let within : i < length es = omega (arith, c.loop-entry-test.true) in
    let at : At es i c.entry-item.result = found es i c.entry-item.result c.entry-item.result within c.entry-item.is in
    record {
      before = none-told (map entry_of es) (place_of c.args.put) i (entry_of c.entry-item.result) c.loop-entry.invariant.before (At-map entry_of es i c.entry-item.result at)
          (wait-none (λ h. h.now) (entry_of c.entry-item.result) (place_of c.args.put) c.value_in.result c.in_default.is c.value_in.ensures);
    }

pub returns : goal.returns
returns c = λ e there.
    let es : List LogEntry = c.args.log.now in
    let within : there.0 < length (map entry_of es) = At-within (map entry_of es) there.0 e there.1 in
    c.loop-entry.invariant.before there.0 (omega (arith, within, length-map es entry_of, c.loop-entry-test.false)) e there.1
