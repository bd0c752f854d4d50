use Rattle.std.proofs.Common.{◌≡◌, ◌∙◌, ◌+◌, ◌≤◌, ℕ, [], length, map, sym, ap, subst, arith}
use Rattle.std.specs.Prelude.{Vec, vec_capacity, vec_len}
use Rattle.std.specs.declared.alloc.Global.{Global}
use Rattle.std.proofs.lemmas.List.{length-map}
use Rattle.ca_model.specs.History as history
use Rattle.ca_model.specs.ServerEvents.{about, numbers_after}
use Rattle.ca_model.specs.World as model
use Rattle.ca_server_circuit.specs.declared.effect.Effect.{Effect}
use Rattle.ca_world.specs.ServerStepping.{with_lists}
use Rattle.ca_world_data.specs.declared.history.Step.{Step}
use Rattle.ca_world_data.specs.declared.history.Told.{Told}
use Rattle.ca_world_data.specs.Seen.{joined_of, step_of, told_of}
use Rattle.ca_world_servers.specs.Effects.{numbers_by}
use Rattle.ca_world.proofs.StepPrepared.{handled-behind, handled-new, handled-room, handled-within, numbers-aside}
use Rattle.ca_world.proofs.server_step.prepare.Goals as goal

pub replies_behind-told-requires-clause-spare : goal.replies_behind-told-requires-clause-spare
replies_behind-told-requires-clause-spare c = (let w = c.requires.was in let spare = w.7 in spare.spare)

pub replies_behind-told-requires-clause-behind : goal.replies_behind-told-requires-clause-behind
replies_behind-told-requires-clause-behind c =
    let w = c.requires.was in
    let j : model.Joined = joined_of c.args.joined.now in
    let spare = w.7 in (
      w.5.next.replies,
      handled-behind w.0 c.args.core.now j w.1 w.2 w.3 c.args.turn.now c.args.effect w.4 w.5,
      handled-within w.0 c.args.core.now j w.1 w.2 w.3 c.args.turn.now c.args.effect w.4 w.5 _ spare.many,
    )

pub begin-requires-clause-new : goal.begin-requires-clause-new
begin-requires-clause-new c =
    let w = c.requires.was in
    handled-new w.0 c.args.core.now (joined_of c.args.joined.now) w.1 w.2 w.3 c.args.turn.now c.args.effect w.4 w.5

pub begin-requires-clause-room : goal.begin-requires-clause-room
begin-requires-clause-room c =
    let w = c.requires.was in
    handled-room w.0 c.args.core.now (joined_of c.args.joined.now) w.1 w.2 w.3 c.args.turn.now c.args.effect w.4 w.5 c.args.joined.now w.6

pub returns-clause-prepared : goal.returns-clause-prepared
returns-clause-prepared c = λ before ks rs a m d spare.
    let j : model.Joined = joined_of c.args.joined.now in
    let behind = handled-behind before c.args.core.now j ks rs a c.args.turn.now c.args.effect m d in
    let within = handled-within before c.args.core.now j ks rs a c.args.turn.now c.args.effect m d (vec_capacity c.args.spare.payload) spare.many in
    let told : map told_of c.replies_behind-told.result.items ≡ about c.len-place.result history.Reply d.next.replies = c.replies_behind-told.ensures.all d.next.replies behind within in
    let here : c.len-place.result ≡ length j.lists.handled = c.len-place.ensures ∙ c.args.joined.now.lists.handled.ok.0 ∙ sym (length-map c.args.joined.now.lists.handled.items step_of) in
    record {
      told = ap (λ v. map told_of v.items) c.begin.ensures.told ∙ told ∙ ap (λ (n : ℕ). about n history.Reply d.next.replies) here;
      circuit =
          c.begin.ensures.circuit
          ∙ ap (λ (e : Effect). numbers_by e c.len-place.result (with_lists [] [] j)) d.tells
          ∙ numbers-aside d.next.m d.next.action c.len-place.result j
          ∙ ap (λ (n : ℕ). with_lists [] [] (numbers_after n d.next.action j)) here;
    }

pub returns-clause-aside : goal.returns-clause-aside
returns-clause-aside c =
    let w = c.requires.was in
    let room = w.6 in
    let told : length c.begin.result.told.items ≤ 2 = subst (λ (v : Vec Told Global). length v.items ≤ 2) (sym c.begin.ensures.told) c.replies_behind-told.ensures.two in
    let down = room.notes.down in
    record {
      down = ap (λ v. map told_of v.items) c.begin.ensures.down;
      handled = ap (λ v. map step_of v.items) c.begin.ensures.handled;
      room_down = subst (λ (v : Vec Told Global). vec_len v + length c.begin.result.told.items ≤ vec_capacity v) (sym c.begin.ensures.down) (omega (arith, told, down));
      room_handled = subst (λ (v : Vec Step Global). vec_len v + 1 ≤ vec_capacity v) (sym c.begin.ensures.handled) room.notes.handled;
    }
