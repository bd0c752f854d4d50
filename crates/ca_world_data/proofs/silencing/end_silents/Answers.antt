use Rattle.std.proofs.Common.{◌≡◌, ℕ, [], ◌∷◌, List, length, map, sym, ap, subst, ◌∙◌}
use Rattle.std.specs.Vec.Iter.{into_iter_items}
use Rattle.std.proofs.lemmas.List.{nil_from_length}
use Rattle.ca_client_core.specs.declared.ticking.Left.{Left}
use Rattle.ca_client_core.specs.Ticked.{left_of, lefts_of, notices_of}
use Rattle.ca_model.specs.History.{OfCircuit}
use Rattle.ca_model.specs.ClientEvents.{after_tick, lines_of}
use Rattle.ca_model.specs.World.{Joined, Names, grown}
use Rattle.ca_world_data.specs.Found.{AreNumbered}
use Rattle.ca_world_data.specs.Logs.{HasRoom, lines_in}
use Rattle.ca_world_data.specs.Seen.{joined_of, names_of}
use Rattle.ca_world_data.specs.Silencing.{silenced}
use Rattle.ca_world_data.proofs.Silences.{grown-nil, lines-twice, numbered-map, room-both, room-first, silenced-keeps, silent-next, silent-none}
use Rattle.ca_world_data.proofs.silencing.end_silents.Goals as goal

pub end_silent-requires-clause-room : goal.end_silent-requires-clause-room
end_silent-requires-clause-room c =
    let steps : into_iter_items c.loop-left.left-iterator ≡ c.in-Some.left ∷ into_iter_items c.next.new.self = c.in-Some.ensures.steps.0 in
    room-first c.in-Some.left.notices (notices_of (into_iter_items c.next.new.self)) c.args.side.now.life c.loop-left.logs.items
    (subst (λ (z : List Left). HasRoom (length (notices_of z)) c.args.side.now.life c.loop-left.logs.items) steps c.loop-left.invariant.room)

pub loop-left-preserved : goal.loop-left-preserved
loop-left-preserved c =
    let i : ℕ = c.args.client in
    let l : Left = c.in-Some.left in
    let rest : List Left = into_iter_items c.next.new.self in
    let ks : List Joined = map joined_of c.loop-left.circuits.items in
    let life : ℕ = c.args.side.now.life in
    let n : Names = names_of c.args.side.now.names in
    let steps : into_iter_items c.loop-left.left-iterator ≡ l ∷ rest = c.in-Some.ensures.steps.0 in
    record {
      numbered =
          subst (λ (z : List Joined). AreNumbered c.args.side.now.circuits.items z i) (sym c.end_silent.ensures.circuits)
          (numbered-map i c.args.side.now.circuits.items ks (silenced i (left_of l)) (silenced-keeps i (left_of l)) c.loop-left.invariant.numbered);
      room =
          c.end_silent.ensures.room (length (notices_of rest))
          (room-both l.notices (notices_of rest) life c.loop-left.logs.items
          (subst (λ (z : List Left). HasRoom (length (notices_of z)) life c.loop-left.logs.items) steps c.loop-left.invariant.room));
      circuits =
          ap (map (after_tick i (lefts_of rest))) c.end_silent.ensures.circuits
          ∙ silent-next i (left_of l) (lefts_of rest) ks
          ∙ ap (λ (z : List Left). map (after_tick i (lefts_of z)) ks) (sym steps)
          ∙ c.loop-left.invariant.circuits;
      logs =
          ap (grown life (lines_of OfCircuit n (notices_of rest))) c.end_silent.ensures.logs
          ∙ lines-twice OfCircuit n life l.notices (notices_of rest) (lines_in c.loop-left.logs.items)
          ∙ ap (λ (z : List Left). grown life (lines_of OfCircuit n (notices_of z)) (lines_in c.loop-left.logs.items)) (sym steps)
          ∙ c.loop-left.invariant.logs;
    }

pub returns-clause-circuits : goal.returns-clause-circuits
returns-clause-circuits c =
    let i : ℕ = c.args.client in
    let ks : List Joined = map joined_of c.loop-left.circuits.items in
    let none : length (into_iter_items c.loop-left.left-iterator) ≡ 0 = sym c.loop-left.left-iterator.rest.ok.0 ∙ c.in-None.ensures.steps.0 in
    let empty : into_iter_items c.loop-left.left-iterator ≡ [] = nil_from_length (into_iter_items c.loop-left.left-iterator) none in
    sym (silent-none i ks) ∙ ap (λ (z : List Left). map (after_tick i (lefts_of z)) ks) (sym empty) ∙ c.loop-left.invariant.circuits

pub returns-clause-logs : goal.returns-clause-logs
returns-clause-logs c =
    let life : ℕ = c.args.side.now.life in
    let n : Names = names_of c.args.side.now.names in
    let none : length (into_iter_items c.loop-left.left-iterator) ≡ 0 = sym c.loop-left.left-iterator.rest.ok.0 ∙ c.in-None.ensures.steps.0 in
    let empty : into_iter_items c.loop-left.left-iterator ≡ [] = nil_from_length (into_iter_items c.loop-left.left-iterator) none in
    sym (grown-nil life (lines_in c.loop-left.logs.items))
    ∙ ap (λ (z : List Left). grown life (lines_of OfCircuit n (notices_of z)) (lines_in c.loop-left.logs.items)) (sym empty)
    ∙ c.loop-left.invariant.logs
