use Rattle.std.proofs.Common.{ℕ, List, subst}
use Rattle.ca_client_core.specs.declared.for_histories.Sending.{Sending}
use Rattle.ca_text.specs.Place.{At}
use Rattle.ca_world_data.specs.declared.joined.Joined.{Joined}
use Rattle.ca_world_data.specs.Sends.{HasRoomForAll}
use Rattle.ca_world_data.proofs.Steppings.{ready-to-step}
use Rattle.ca_world_data.proofs.Worlds.{found}
use Rattle.ca_world_data.proofs.stepping.prepare_step.Goals as goal

pub returns-clause-ready : goal.returns-clause-ready
returns-clause-ready c =
    let i : ℕ = c.args.client in
    let k : ℕ = c.args.circuit in
    let ks : List Joined = c.args.circuits.now.items in
    let mid : List Joined = c.reserve_sendings.new.circuits.items in
    let j : Joined = c.index.result.now in
    let at : At ks k j = found ks k j j c.requires.there c.index.ensures in
    let sent : List Sending = c.in_ok-sent.sent.items in
    let messages : HasRoomForAll i sent mid = subst (λ (z : List Sending). HasRoomForAll i z mid) c.deref-2.ensures.value c.in_ok-reserve_sendings.ensures.room in
    ready-to-step i k c.args.lines c.args.side.now sent ks mid c.reserve_client_step.new.circuits.items c.reserve_lines.new.logs.items j at c.reserve_sendings.ensures.same c.reserve_client_step.ensures.same c.in_ok-sent.ensures.0
    c.in_ok-reserve_lines.ensures.room messages c.reserve_client_step.ensures.keeps c.in_ok-reserve_client_step.ensures.room
