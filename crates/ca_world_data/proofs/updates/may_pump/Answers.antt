use Rattle.std.proofs.Common.{◌≡◌, ℕ, List, Option, length, map, sym, ap, subst, ◌∙◌, arith}
use Rattle.std.proofs.lemmas.List.{length-map}
use Rattle.ca_queue.specs.Circuit.{RestBefore}
use Rattle.ca_queue.specs.declared.list_queue.ListQueue.{ListQueue}
use Rattle.ca_model.specs.Server.{ServerCircuit, ServerEnd}
use Rattle.ca_model.specs.ServerSteps.{HasEnd, output_of}
use Rattle.ca_world_data.specs.declared.history.Cause.{Cause}
use Rattle.ca_world_data.specs.Does.{GivesSome}
use Rattle.ca_world_data.proofs.UpdatesGiven.{full-rests, none-leaves, some-given}
use Rattle.ca_world_data.proofs.UpdateTellings.{seen, seen-bare}
use Rattle.ca_world_data.proofs.updates.may_pump.Goals as goal

pub returns-then-out_bytes-ge-OUTPUT_LIMIT-clause-rests : goal.returns-then-out_bytes-ge-OUTPUT_LIMIT-clause-rests
returns-then-out_bytes-ge-OUTPUT_LIMIT-clause-rests c = λ held e has.
    let out : length c.out_bytes.result.now ≡ length e.link.output = ap (λ (l : List ℕ). length l) c.out_bytes.ensures ∙ ap (λ (o : Option ServerCircuit). length (output_of o)) has in
    full-rests e (omega (arith, out, c.if-out_bytes-ge-OUTPUT_LIMIT.true))

pub returns-clause-pumps : goal.returns-clause-pumps
returns-clause-pumps c = λ held.
    let qs : List (ListQueue (ℕ × Cause)) = c.args.joined.now.queues.items in
    let e : ServerEnd = c.requires.serves.0 in
    let has : HasEnd c.args.core.now c.args.joined.now.at_server e = c.requires.serves.1 in
    let out : length c.out_bytes.result.now ≡ length e.link.output = ap (λ (l : List ℕ). length l) c.out_bytes.ensures ∙ ap (λ (o : Option ServerCircuit). length (output_of o)) has in
    let some : GivesSome (map seen qs) = subst (λ (l : List (ListQueue (ℕ × Cause))). GivesSome (map seen l)) c.deref.ensures.value (c.gives_some.ensures.gives held) in
    record {
      e = e;
      has = has;
      room = omega (arith, out, c.if-out_bytes-ge-OUTPUT_LIMIT.false);
      gives = some-given (map seen qs) e.queues (sym (c.requires.alike e has ∙ seen-bare qs)) some;
    }

pub returns-clause-rests : goal.returns-clause-rests
returns-clause-rests c = λ held e has.
    let qs : List (ListQueue (ℕ × Cause)) = c.args.joined.now.queues.items in
    let none : RestBefore (map seen qs) (length qs) = subst (λ (l : List (ListQueue (ℕ × Cause))). RestBefore (map seen l) (length l)) c.deref.ensures.value (c.gives_some.ensures.rests held) in
    none-leaves e (map seen qs) (c.requires.alike e has ∙ seen-bare qs) (subst (λ (n : ℕ). RestBefore (map seen qs) n) (sym (length-map qs seen)) none)
