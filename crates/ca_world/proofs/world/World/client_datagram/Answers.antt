use Rattle.std.proofs.Common.{ℕ, ◌<◌, length, List, arith, refl, subst}
use Rattle.std.specs.Prelude.{map, slice_set}
use Rattle.ca_text.specs.Place.{At}
use Rattle.ca_text.proofs.Places.{At-map}
use Rattle.ca_model.specs.Events.{ClientDatagram, Event}
use Rattle.ca_model.specs.World as model
use Rattle.ca_world_data.specs.declared.client.ClientSide.{ClientSide}
use Rattle.ca_world_data.specs.Does.{Does}
use Rattle.ca_world_data.specs.Logs.{lines_in}
use Rattle.ca_world_data.specs.Seen.{client_of, joined_of}
use Rattle.ca_world_data.proofs.Worlds.{found}
use Rattle.ca_world.specs.Whole.{seen}
use Rattle.ca_world.proofs.ClientHearings.{hears-does, hears-keep}
use Rattle.ca_world.proofs.Speeches.{numbered-here, speaks, speaks-stand}
use Rattle.ca_world.proofs.world.World.client_datagram.Goals as goal

pub hear_or_pass-requires : goal.hear_or_pass-requires
hear_or_pass-requires c =
    let w = c.self.inside in
    let cs : List ClientSide = w.clients.items in
    let i : ℕ = c.args.client in
    let x : ClientSide = c.index_mut.result.now in
    let within : i < length cs = omega (arith, c.if-client-len.false, c.len.ensures) in
    numbered-here w i x (found cs i x x within c.index_mut.ensures.value) c.self.invariant

pub returns : goal.returns
returns c =
    let w = c.self.inside in
    let cs : List ClientSide = w.clients.items in
    let i : ℕ = c.args.client in
    let x : ClientSide = c.index_mut.result.now in
    let x' : ClientSide = c.hear_or_pass.new.side in
    let within : i < length cs = omega (arith, c.if-client-len.false, c.len.ensures) in
    let at : At cs i x = found cs i x x within c.index_mut.ensures.value in
    let e : Event = ClientDatagram i c.args.from c.args.bytes.now in
    let logs = lines_in w.client_logs.items in
    let next = map joined_of c.hear_or_pass.new.circuits.items in
    let d = hears-does (seen w) i (client_of x) (client_of x') c.args.from c.args.bytes.now next c.hear_or_pass.result (At-map client_of cs i x at) c.hear_or_pass.ensures.hears c.hear_or_pass.ensures.lacks in
    subst (λ (z : model.World). Does z e c.hear_or_pass.result (record (seen w) { clients = map client_of (slice_set cs i x'); client_logs = logs; circuits = next })) c.self.view_is
    (speaks w i x at c.self.invariant e c.hear_or_pass.result x' logs next d)

pub invariant_of-self : goal.invariant_of-self
invariant_of-self c =
    let w = c.self.inside in
    let cs : List ClientSide = w.clients.items in
    let i : ℕ = c.args.client in
    let x : ClientSide = c.index_mut.result.now in
    let x' : ClientSide = c.hear_or_pass.new.side in
    let within : i < length cs = omega (arith, c.if-client-len.false, c.len.ensures) in
    let at : At cs i x = found cs i x x within c.index_mut.ensures.value in
    let e : Event = ClientDatagram i c.args.from c.args.bytes.now in
    let logs = lines_in w.client_logs.items in
    let next = map joined_of c.hear_or_pass.new.circuits.items in
    let d = hears-does (seen w) i (client_of x) (client_of x') c.args.from c.args.bytes.now next c.hear_or_pass.result (At-map client_of cs i x at) c.hear_or_pass.ensures.hears c.hear_or_pass.ensures.lacks in
    speaks-stand w i x at c.self.invariant e c.hear_or_pass.result x' logs next d tt _ refl c.hear_or_pass.ensures.kept refl refl
    (hears-keep i _ (client_of x) (client_of x') (map joined_of w.circuits.items) next c.hear_or_pass.result c.hear_or_pass.ensures.hears)
