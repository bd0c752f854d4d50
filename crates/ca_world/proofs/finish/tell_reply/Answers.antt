use Rattle.std.proofs.Common.{◌∙◌, ◌++◌, ◌≤◌, ℕ, List, length, map, ap, sym, arith}
use Rattle.std.proofs.lemmas.List.{append-nil}
use Rattle.ca_ids.specs.Table.{under}
use Rattle.ca_wire.specs.Fields.{Fields}
use Rattle.ca_model.specs.History as history
use Rattle.ca_model.specs.ServerEvents.{about}
use Rattle.ca_server_core.specs.ForHistories.{bytes_under}
use Rattle.ca_world_data.specs.Seen.{told_of}
use Rattle.ca_world.proofs.Finishings.{none-behind}
use Rattle.ca_world.proofs.finish.tell_reply.Goals as goal

pub returns-then-bytes-waited : goal.returns-then-bytes-waited
returns-then-bytes-waited c ms behind =
    let bytes : List ℕ = bytes_under (under c.args.core.now.circuits c.args.at_server) in
    let down : List history.Told = map told_of c.args.down.now.items in
    let size = ap (λ (l : List ℕ). length l) c.bytes_of-bytes.ensures in
    let few : length bytes ≤ c.args.waited = omega (arith, c.if-bytes-waited.true, size) in
    sym (append-nil down) ∙ ap (λ (z : List Fields). down ++ about c.args.place history.Reply z) (sym (none-behind c.args.waited bytes ms behind few))
