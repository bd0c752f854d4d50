use Rattle.std.proofs.Common.{◌<◌, List, length, arith, subst, sym}
use Rattle.std.specs.Prelude.{map, slice_set}
use Rattle.ca_text.specs.Place.{At}
use Rattle.ca_world_data.specs.declared.joined.Joined.{Joined}
use Rattle.ca_world_data.specs.Seen.{joined_of}
use Rattle.ca_world_data.specs.Silencing.{EndsAt}
use Rattle.ca_world_data.proofs.Silences.{ends-at}
use Rattle.ca_world_data.proofs.Worlds.{found}
use Rattle.ca_world_data.proofs.silencing.end_at.Goals as goal

pub returns-then-number-len : goal.returns-then-number-len
returns-then-number-len c =
    let ks : List Joined = c.args.circuits.now.items in
    let j : Joined = c.index_mut.result.now in
    let within : c.in-Some.number < length ks = omega (arith, c.if-number-len.true, c.len.ensures) in
    let at : At ks c.in-Some.number j = found ks c.in-Some.number j j within c.index_mut.ensures.value in
    subst (λ o. EndsAt o c.args.left (map joined_of ks) (map joined_of (slice_set ks c.in-Some.number c.close_client.new.joined))) (sym c.in-Some.is)
    (ends-at ks c.in-Some.number j c.close_client.new.joined c.args.left at c.close_client.ensures)
