use Rattle.std.proofs.Common.{◌≡◌, ◌<◌, ◌+◌, ◌++◌, ℕ, List, [], ◌∷◌, length, sym, ap, subst, ◌∙◌, arith}
use Rattle.std.specs.Prelude.{Vec}
use Rattle.std.specs.declared.alloc.Global.{Global}
use Rattle.std.proofs.lemmas.List.{length-append}
use Rattle.ca_queue.specs.declared.entry.SubKey.{SubKey}
use Rattle.ca_text.specs.Place.{At}
use Rattle.ca_text.proofs.Places.{At-within}
use Rattle.ca_model.specs.Speech.{Stored}
use Rattle.ca_world_data.specs.Updates.{IsRoomFor}
use Rattle.ca_world_data.proofs.UpdateRooms.{fits-room, more-at}
use Rattle.ca_world_data.proofs.updates.rooms_of.Goals as goal

pub loop-index-preserved : goal.loop-index-preserved
loop-index-preserved c =
    let was : List (Vec ℕ Global) = c.loop-index.own.items in
    let room : Vec ℕ Global = c.in_ok-with_capacity.field-0 in
    let now : c.push_back.new.self.items ≡ was ++ room ∷ [] = c.in_ok-push_back.ensures.items in
    record {
      many = ap (λ (l : List (Vec ℕ Global)). length l) now ∙ length-append was (room ∷ []) ∙ ap (λ (n : ℕ). n + 1) c.loop-index.invariant.many;
      each = λ e q has at i lt.
          subst (λ (l : List (Vec ℕ Global)). (r : Vec ℕ Global) × At l i r × ((w : SubKey × Stored) → At q.waiting i w → IsRoomFor e w r)) (sym now)
          (more-at (λ (k : ℕ) (r : Vec ℕ Global). (w : SubKey × Stored) → At q.waiting k w → IsRoomFor e w r) was room c.loop-index.index c.loop-index.invariant.many (c.loop-index.invariant.each e q has at)
          (λ w waits. fits-room c.args.core.now c.args.circuit e q c.args.place c.loop-index.index c.update_size.result w room has at waits c.update_size.ensures c.in_ok-with_capacity.ensures.items (omega (arith, c.unwrap_or-size.ensures, c.in_ok-with_capacity.ensures.capacity)))
          i lt);
    }

pub returns : goal.returns
returns c e q has at few i w waits =
    let within : i < length q.waiting = At-within q.waiting i w waits in
    let r = c.loop-index.invariant.each e q has at i (omega (arith, within, few)) in
    (r.0, r.1, r.2 w waits)
