use Rattle.std.proofs.Common.{List, length, arith, ap, subst, ◌∙◌}
use Rattle.std.specs.Prelude.{remove}
use Rattle.ca_arena.specs.declared.handle.Handle.{Handle}
use Rattle.ca_server_circuit.specs.ByName.{IsItsPlace}
use Rattle.ca_server_circuit.proofs.Lines.{goes-from-line, was-not-in-line}
use Rattle.ca_server_circuit.proofs.record_channels.RecordChannels.take_out.Goals as goal

pub returns-then-place-len : goal.returns-then-place-len
returns-then-place-len c =
    let r = c.place_of-place.result in
    let place = subst (λ (hs : List Handle). IsItsPlace c.args.channel.index hs r) (c.as_slice.ensures.value ∙ c.self.view_is) c.place_of-place.ensures.place in
    goes-from-line c.args.channel c.args.self.now c.remove.new.self.items r place (c.remove.ensures.items ∙ ap (λ (hs : List Handle). remove hs r) c.self.view_is)

pub returns-else-place-len : goal.returns-else-place-len
returns-else-place-len c =
    let r = c.place_of-place.result in
    let place = subst (λ (hs : List Handle). IsItsPlace c.args.channel.index hs r) (c.as_slice.ensures.value ∙ c.self.view_is) c.place_of-place.ensures.place in
    let same = ap (λ (hs : List Handle). length hs) c.self.view_is in
    let past = c.if-place-len.false in
    was-not-in-line c.args.channel c.args.self.now r place (omega (arith, same, c.len.ensures, past))
