use Rattle.std.proofs.Common.{length, sym, ap, subst, ◌∙◌}
use Rattle.ca_queue.specs.Keys.{AreApart}
use Rattle.ca_queue.specs.Ring.{keys_of_lasts}
use Rattle.ca_queue.proofs.Rounds.{apart-left, indexed-left, room-left}
use Rattle.ca_queue.proofs.lasts.Lasts.forget.Goals as goal

pub index_all-requires-clause-apart : goal.index_all-requires-clause-apart
index_all-requires-clause-apart c =
    subst (λ ls. AreApart (keys_of_lasts ls)) (sym (c.deref.ensures.value ∙ c.retain_others.ensures.items)) (apart-left c.args.key c.self.inside.lasts.items c.self.invariant.apart)

pub index_all-requires-clause-room : goal.index_all-requires-clause-room
index_all-requires-clause-room c =
    room-left c.args.key c.self.inside.lasts.items c.deref.result.now c.self.inside.index.keys _ _ _ _ c.self.invariant (c.deref.ensures.value ∙ c.retain_others.ensures.items) c.clear.ensures.capacity

pub invariant_of-self : goal.invariant_of-self
invariant_of-self c =
    indexed-left c.args.key c.self.inside.lasts.items c.retain_others.new.lasts.items c.self.inside.index.keys c.index_all.new.index.keys _ _ _ _ _ _ _ c.self.invariant c.retain_others.ensures.items c.retain_others.ensures.capacity c.clear.ensures.capacity (c.index_all.ensures.keys ∙ ap keys_of_lasts c.deref.ensures.value) (c.index_all.ensures.len ∙ ap length c.deref.ensures.value) c.index_all.ensures.room
