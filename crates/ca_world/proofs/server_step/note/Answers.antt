use Rattle.std.proofs.Common.{◌≡◌, ℕ, ◌<◌, List, length, ap, subst, ◌∙◌}
use Rattle.std.specs.Prelude.{map, slice_set}
use Rattle.ca_text.proofs.Places.{At-map}
use Rattle.ca_model.specs.History as history
use Rattle.ca_model.specs.ServerEvents.{ending, ends_by}
use Rattle.ca_model.specs.World as model
use Rattle.ca_model.specs.World.{log_length}
use Rattle.ca_world_data.specs.declared.joined.Joined.{Joined}
use Rattle.ca_world_data.specs.Opening.{entries_in}
use Rattle.ca_world_data.specs.Seen.{joined_of, step_of, told_of}
use Rattle.ca_world_data.proofs.Worlds.{found, set-map}
use Rattle.ca_world_servers.specs.Effects.{TellsMessage}
use Rattle.ca_world_servers.specs.Handling.{with_handled}
use Rattle.ca_world.specs.ServerStepping.{with_lists}
use Rattle.ca_world.proofs.StepNotes.{served-told, stays-message, within-after}
use Rattle.ca_world.proofs.server_step.note.Goals as goal

pub report_ends-requires-clause-served : goal.report_ends-requires-clause-served
report_ends-requires-clause-served c =
    let t = c.args.turn.now in
    let ks = map joined_of c.args.circuits.now.items in
    let ks' = map joined_of c.tell_effect.new.circuits.items in
    let s =
    stays-message t.server (record { circuit = t.circuit; place = c.len-place.result }) c.args.side.now c.tell_effect.new.side ks ks' (entries_in c.args.logs.now.items) (entries_in c.tell_effect.new.logs.items) c.args.effect c.args.ahead.write c.args.ahead.parting c.tell_effect.ensures.tells in
    served-told c.args.side.now c.tell_effect.new.side ks ks' t.server s c.requires.served

pub index_mut-requires : goal.index_mut-requires
index_mut-requires c =
    let t = c.args.turn.now in
    let s =
    stays-message t.server (record { circuit = t.circuit; place = c.len-place.result }) c.args.side.now c.tell_effect.new.side (map joined_of c.args.circuits.now.items) (map joined_of c.tell_effect.new.circuits.items) (entries_in c.args.logs.now.items) (entries_in c.tell_effect.new.logs.items) c.args.effect c.args.ahead.write c.args.ahead.parting c.tell_effect.ensures.tells in
    within-after s.f (ending (ends_by t.server c.tell_effect.new.side.core)) c.args.circuits.now c.tell_effect.new.circuits c.report_ends.new.circuits t.circuit s.circuits c.report_ends.ensures.circuits c.requires.within

pub returns-clause-notes : goal.returns-clause-notes
returns-clause-notes c =
    let t = c.args.turn.now in
    let y = c.args.side.now in
    let k : ℕ = t.circuit in
    let ks : List Joined = c.report_ends.new.circuits.items in
    let s =
    stays-message t.server (record { circuit = t.circuit; place = c.len-place.result }) y c.tell_effect.new.side (map joined_of c.args.circuits.now.items) (map joined_of c.tell_effect.new.circuits.items) (entries_in c.args.logs.now.items) (entries_in c.tell_effect.new.logs.items) c.args.effect c.args.ahead.write c.args.ahead.parting c.tell_effect.ensures.tells in
    let within : k < length ks =
    subst (λ (n : ℕ). k < n) c.report_ends.new.circuits.ok.0
    (within-after s.f (ending (ends_by t.server c.tell_effect.new.side.core)) c.args.circuits.now c.tell_effect.new.circuits c.report_ends.new.circuits k s.circuits c.report_ends.ensures.circuits c.requires.within) in
    let x : Joined = c.index_mut.result.now in
    let down : List history.Told = map told_of c.args.prepared.down.items in
    let handled : List history.Step = map step_of c.args.prepared.handled.items in
    let told : List history.Told = map told_of c.args.prepared.told.items in
    let life : c.report_ends.new.side.life ≡ y.life = ap (λ (z : model.ServerSide). z.life) c.report_ends.ensures.side ∙ s.life in
    let logged = c.logged_of-logged.ensures ∙ ap (λ (ls : List _). log_length y.life (entries_in ls)) c.deref.ensures.value in
    let last = c.logged_of-after.ensures ∙ (λ n. log_length (life n) (entries_in (c.deref-2.ensures.value n))) in
    let sent = c.len-sent.ensures ∙ c.args.prepared.down.ok.0 in
    let noted = c.note_on.ensures ∙ (λ n. with_handled (record { sent = sent n; logged = logged n; after = last n }) told (with_lists down handled (joined_of x))) in
    record {
      mid = c.tell_effect.new.side;
      circuits = map joined_of c.tell_effect.new.circuits.items;
      told = entries_in c.tell_effect.new.logs.items;
      done =
          subst
          (λ (n : ℕ). TellsMessage t.server (record { circuit = k; place = n }) c.args.effect c.args.ahead.write c.args.ahead.parting y (map joined_of c.args.circuits.now.items) (entries_in c.args.logs.now.items) c.tell_effect.new.side (map joined_of c.tell_effect.new.circuits.items) (entries_in c.tell_effect.new.logs.items))
          (c.len-place.ensures ∙ c.args.prepared.handled.ok.0) c.tell_effect.ensures.tells;
      over = map joined_of ks;
      reports = c.report_ends.ensures;
      x = joined_of x;
      at = At-map joined_of ks k x (found ks k x x within c.index_mut.ensures.value);
      noted = set-map joined_of ks k c.note_on.new.joined ∙ ap (slice_set (map joined_of ks) k) noted;
    }

pub returns-clause-numbers : goal.returns-clause-numbers
returns-clause-numbers c =
    let t = c.args.turn.now in
    let s =
    stays-message t.server (record { circuit = t.circuit; place = c.len-place.result }) c.args.side.now c.tell_effect.new.side (map joined_of c.args.circuits.now.items) (map joined_of c.tell_effect.new.circuits.items) (entries_in c.args.logs.now.items) (entries_in c.tell_effect.new.logs.items) c.args.effect c.args.ahead.write c.args.ahead.parting c.tell_effect.ensures.tells in
    c.report_ends.ensures.numbers ∙ s.numbers
