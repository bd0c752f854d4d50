use Rattle.std.proofs.Common.{◌≡◌, ◌∙◌, List, Some, sym, ap, subst}
use Rattle.std.specs.Prelude.{Vec, map, option_map}
use Rattle.std.specs.declared.alloc.Global.{Global}
use Rattle.ca_dbr.specs.Elements.{Elements}
use Rattle.ca_model.specs.ServerEvents.{first_of}
use Rattle.ca_model.specs.Speech.{In}
use Rattle.ca_model.specs.World as model
use Rattle.ca_world.specs.Finishing.{WaitsIn}
use Rattle.ca_world_data.specs.declared.history.LogEntry.{LogEntry}
use Rattle.ca_world_data.specs.Seen.{entry_of, place_of}
use Rattle.ca_world.proofs.Finishings.{next-log, waits-found}
use Rattle.ca_world.proofs.next_write.next_value.Goals as goal

pub unreachable-requires : goal.unreachable-requires
unreachable-requires c =
    let ps : List model.PutPlace = map place_of c.args.waiting.now in
    let p : model.PutPlace = place_of c.in-Some.put in
    let first : first_of ps ≡ Some p = sym c.first_put.ensures ∙ ap (option_map place_of) c.in-Some.is in
    let log : Vec LogEntry Global = c.index-logs-life.result in
    let there = next-log c.args.logs.now c.args.life ps p log log c.requires first c.index-logs-life.is in
    let same : c.deref.result.now ≡ log.items = c.deref.ensures.value in
    c.in_default-value_waiting.ensures there.1.0 (subst (λ (es : List LogEntry). In (map entry_of es) there.1.0) (sym same) there.1.2) there.1.1 there.1.3

pub returns : goal.returns
returns c =
    let ps : List model.PutPlace = map place_of c.args.waiting.now in
    let p : model.PutPlace = place_of c.in-Some.put in
    let first : first_of ps ≡ Some p = sym c.first_put.ensures ∙ ap (option_map place_of) c.in-Some.is in
    let log : Vec LogEntry Global = c.index-logs-life.result in
    let there = next-log c.args.logs.now c.args.life ps p log log c.requires first c.index-logs-life.is in
    let found = waits-found (λ h. h.now) (map entry_of c.deref.result.now) p c.value_waiting.result c.in-Some-value_waiting.value c.in-Some-value_waiting.is c.value_waiting.ensures in
    (map entry_of log.items, there.0, (p, first, subst (λ (z : List LogEntry × Elements). WaitsIn (map entry_of z.0) p (Some z.1)) (λ t. (c.deref.ensures.value t, sym c.in_ok-copy.ensures.ok t)) found))
