use Rattle.std.proofs.Common.{◌≡◌, ◌++◌, ◌≤◌, ◌∙◌, ℕ, List, ap, arith, length, rules, subst, sym, vec_len}
use Rattle.ca_arena.specs.declared.handle.Handle.{Handle}
use Rattle.ca_lists.specs.Walks.{each_at}
use Rattle.ca_model.specs.Client.{is_live}
use Rattle.ca_client_tables.specs.Ending.{named_in}
use Rattle.ca_client_tables.specs.OnCircuits.{indices_of}
use Rattle.ca_client_tables.proofs.ByCircuit.{named-done, named-listed, named-put, named-room, named_among}
use Rattle.ca_client_tables.proofs.live_channels.list_live.Goals as goal

pub loop-place-init : goal.loop-place-init
loop-place-init c =
    let t = c.args.channels.now in
    let xs = indices_of c.on-on.result in
    record {
      items =
          ap (λ (hs : List Handle). hs ++ each_at (named_among is_live c.args.circuit) t xs) c.clear.ensures.items
          ∙ named-listed is_live c.args.circuit t xs c.on-on.ensures;
      room = search rules;
    }

pub push_live-requires : goal.push_live-requires
push_live-requires c =
    let l : vec_len c.loop-place.room ≡ length c.loop-place.room.items = search rules in
    named-room is_live c.args.circuit c.args.channels.now (indices_of c.on-on.result) c.loop-place.place c.at.result _ _ c.loop-place.room.items (omega arith) c.at.ensures l c.loop-place.invariant.items c.loop-place.invariant.room

pub loop-place-preserved : goal.loop-place-preserved
loop-place-preserved c =
    let t = c.args.channels.now in
    record {
      items =
          named-put is_live c.args.circuit t (indices_of c.on-on.result) c.loop-place.place c.at.result c.loop-place.room.items c.push_live.new.room.items (omega arith) c.at.ensures c.push_live.ensures.items c.loop-place.invariant.items;
      room = subst (λ (k : ℕ). length (named_in is_live c.args.circuit t) ≤ k) (sym c.push_live.ensures.capacity) c.loop-place.invariant.room;
    }

pub returns : goal.returns
returns c =
    named-done is_live c.args.circuit c.args.channels.now (indices_of c.on-on.result) c.loop-place.place c.loop-place.room.items (omega arith) c.loop-place.invariant.items
