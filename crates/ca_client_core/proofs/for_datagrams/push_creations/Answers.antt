use Rattle.std.proofs.Common.{◌≡◌, ◌∙◌, ◌+◌, ◌≤◌, ◌∷◌, ◌++◌, [], List, ap, append-nil, arith, length, map, refl, subst, sym, vec_len}
use Rattle.std.specs.Vec.{vec_capacity}
use Rattle.std.specs.Vec.Iter.{into_iter_items}
use Rattle.std.proofs.lemmas.List.{nil_from_length}
use Rattle.ca_model.specs.Answers as answer
use Rattle.ca_client_tables.specs.Noting.{as_sent}
use Rattle.ca_client_tables.specs.declared.foretelling.Creation.{Creation}
use Rattle.ca_client_core.specs.ForHistories.{sending_of}
use Rattle.ca_client_core.proofs.Sendings.{creations-more}
use Rattle.ca_client_core.proofs.for_datagrams.push_creations.Goals as goal

pub push_reserved-requires : goal.push_reserved-requires
push_reserved-requires c =
    let steps = c.in-Some.ensures.steps.0 in
    let rest : List Creation = into_iter_items c.next.new.self in
    let room : vec_len c.loop-creation.sent + length (c.in-Some.creation ∷ rest) ≤ vec_capacity c.loop-creation.sent = subst (λ (z : List Creation). vec_len c.loop-creation.sent + length z ≤ vec_capacity c.loop-creation.sent) steps c.loop-creation.invariant.room in
    omega (arith, room)

pub loop-creation-preserved : goal.loop-creation-preserved
loop-creation-preserved c =
    let steps = c.in-Some.ensures.steps.0 in
    let o : Creation = c.in-Some.creation in
    let rest : List Creation = into_iter_items c.next.new.self in
    let total : List answer.Sending = map sending_of c.args.sent.now.items ++ map as_sent c.args.creations.items in
    let room : vec_len c.loop-creation.sent + length (o ∷ rest) ≤ vec_capacity c.loop-creation.sent = subst (λ (z : List Creation). vec_len c.loop-creation.sent + length z ≤ vec_capacity c.loop-creation.sent) steps c.loop-creation.invariant.room in
    let all : map sending_of c.loop-creation.sent.items ++ map as_sent (o ∷ rest) ≡ total = subst (λ (z : List Creation). map sending_of c.loop-creation.sent.items ++ map as_sent z ≡ total) steps c.loop-creation.invariant.all in
    record {
      room = omega (arith, room, c.push_reserved.ensures.len, c.push_reserved.ensures.capacity);
      all = creations-more c.loop-creation.sent.items c.push_reserved.new.self.items _ o rest total c.push_reserved.ensures.items c.of_creation.ensures all;
    }

pub returns : goal.returns
returns c =
    let none : length (into_iter_items c.loop-creation.creation-iterator) ≡ 0 = sym c.loop-creation.creation-iterator.rest.ok.0 ∙ c.in-None.ensures.steps.0 in
    let empty : into_iter_items c.loop-creation.creation-iterator ≡ [] = nil_from_length (into_iter_items c.loop-creation.creation-iterator) none in
    sym (append-nil (map sending_of c.loop-creation.sent.items)) ∙ ap (λ (z : List Creation). map sending_of c.loop-creation.sent.items ++ map as_sent z) (sym empty) ∙ c.loop-creation.invariant.all
