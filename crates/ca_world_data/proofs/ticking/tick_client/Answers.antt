use Rattle.std.proofs.Common.{◌∙◌, ℕ, ◌+◌, ◌≤◌, Ok, List, length, map, sym, ap, subst, arith}
use Rattle.std.proofs.lemmas.List.{length-map}
use Rattle.ca_client_core.specs.ForHistories.{sending_of}
use Rattle.ca_client_core.specs.Ticked.{notices_of}
use Rattle.ca_model.specs.Answers.{Notice, Ticked}
use Rattle.ca_model.specs.Client.{Client}
use Rattle.ca_model.specs.ClientEnds.{ClientTicks}
use Rattle.ca_model.specs.History.{OfCircuit}
use Rattle.ca_model.specs.ClientEvents.{after_tick, lines_of}
use Rattle.ca_model.specs.World.{Joined, grown}
use Rattle.ca_world_data.specs.declared.client.ClientSide.{ClientSide}
use Rattle.ca_world_data.specs.Logs.{lines_in}
use Rattle.ca_world_data.specs.Seen.{client_of, joined_of, named_of}
use Rattle.ca_world_data.specs.Speaking.{sent_up}
use Rattle.ca_world_data.proofs.Momentary.{lacks-sent, numbered-sent, side-same, tick-done, tick-refused, told-few, told-none}
use Rattle.ca_world_data.proofs.Silences.{nothing-told, room-fewer, room-some}
use Rattle.ca_world_data.proofs.ticking.tick_client.Goals as goal

pub returns-in_err-reserve_sendings-clause-ticks : goal.returns-in_err-reserve_sendings-clause-ticks
returns-in_err-reserve_sendings-clause-ticks c =
    let x : ClientSide = c.args.side.now in
    tick-refused c.args.client c.args.moment (client_of x) _ (lines_in c.args.logs.now.items) (lines_in c.args.logs.now.items) (map joined_of c.args.circuits.now.items) (map joined_of c.reserve_sendings.new.circuits.items) c.from_residual-in_err-reserve_sendings.result c.from_residual-in_err-reserve_sendings.ensures.0
    (lacks-sent x.core c.args.moment c.in_ok-sent.field-0 c.in_ok-sent.ensures.ok (λ none. c.in_err-reserve_sendings.ensures.some (c.deref-2.ensures.value ∙ none)))
    (side-same (client_of x) c.foretell.new.core c.foretell.ensures.same)
    (λ t. lines_in c.args.logs.now.items)
    c.reserve_sendings.ensures.same

pub end_silents-requires-clause-numbered : goal.end_silents-requires-clause-numbered
end_silents-requires-clause-numbered c =
    let x : ClientSide = c.args.side.now in
    numbered-sent c.args.client (client_of x) _ x.circuits.items (map joined_of c.args.circuits.now.items) (map joined_of c.push_sendings.new.circuits.items) c.requires.numbered
    (c.push_sendings.ensures ∙ ap (map (sent_up c.args.client (client_of x).names (map sending_of c.in_ok-sent.field-0.sent.items))) c.reserve_sendings.ensures.same)

pub end_silents-requires-clause-room : goal.end_silents-requires-clause-room
end_silents-requires-clause-room c =
    let x : ClientSide = c.args.side.now in
    let n : ℕ = length x.names.requests.items + length x.names.channels.items in
    let told : ℕ = length (notices_of c.ticked.inside.closings.items) in
    let does = subst (λ (y : Client). ClientTicks y c.args.moment (Ok c.in-Ok.ticked) c.in-Ok.ensures.0 c.tick.new.self) c.foretell.ensures.same c.in-Ok.ensures.1 in
    let named = length-map x.names.requests.items named_of in
    let few = told-few x.core c.args.moment n c.in-Ok.ticked c.in-Ok.ensures.0 c.tick.new.self does (omega (arith, c.requires.few, named)) in
    room-some c.in_ok-sent.field-0.ends told x.life c.reserve_end_lines.new.logs.items
    (λ on. room-fewer n told x.life c.reserve_end_lines.new.logs.items (subst (λ (z : Ticked). length z.notices ≤ n) (sym c.ticked.view_is) few) (c.in_ok-reserve_end_lines.ensures.room on))
    (λ off.
    ap (λ (ns : List Notice). length ns)
    (nothing-told c.ticked.inside.closings.items (ap (λ (z : Ticked). z.closings) c.ticked.view_is ∙ told-none x.core c.args.moment c.in_ok-sent.field-0 c.in-Ok.ticked c.in-Ok.ensures.0 c.tick.new.self c.in_ok-sent.ensures.ok does off)))

pub returns-in-Ok-clause-ticks : goal.returns-in-Ok-clause-ticks
returns-in-Ok-clause-ticks c =
    let x : ClientSide = c.args.side.now in
    let a : Ticked = c.in-Ok.ticked in
    let ks : List Joined = map joined_of c.args.circuits.now.items in
    let mid : List Joined = map joined_of c.push_sendings.new.circuits.items in
    let does = subst (λ (y : Client). ClientTicks y c.args.moment (Ok a) c.in-Ok.ensures.0 c.tick.new.self) c.foretell.ensures.same c.in-Ok.ensures.1 in
    tick-done c.args.client c.args.moment (client_of x) (lines_in c.args.logs.now.items) (lines_in c.end_silents.new.logs.items) ks mid (map joined_of c.end_silents.new.circuits.items) a c.in_ok-sent.field-0 c.in-Ok.ensures.0 c.tick.new.self
    c.in_ok-sent.ensures.ok
    does
    (c.push_sendings.ensures ∙ ap (map (sent_up c.args.client (client_of x).names (map sending_of c.in_ok-sent.field-0.sent.items))) c.reserve_sendings.ensures.same)
    (c.end_silents.ensures.circuits ∙ ap (λ (z : Ticked). map (after_tick c.args.client z.closings) mid) c.ticked.view_is)
    (c.end_silents.ensures.logs
    ∙ ap (grown x.life (lines_of OfCircuit (client_of x).names (notices_of c.ticked.inside.closings.items))) c.reserve_end_lines.ensures.same
    ∙ ap (λ (z : Ticked). grown x.life (lines_of OfCircuit (client_of x).names z.notices) (lines_in c.args.logs.now.items)) c.ticked.view_is)
