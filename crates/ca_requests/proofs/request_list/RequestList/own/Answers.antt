use Rattle.std.proofs.Common.{◌-◌, ◌∙◌, sym, vec_capacity, vec_len}
use Rattle.ca_requests.specs.Lines.{room_beside, with_last}
use Rattle.ca_requests.proofs.Lined.{readies-emptied}
use Rattle.ca_requests.proofs.request_list.RequestList.own.Goals as goal

pub returns-clause-readies : goal.returns-clause-readies
returns-clause-readies c = λ t may.
    let i = c.self.inside in
    let n = room_beside i.last (vec_capacity i.listed - vec_len i.listed) in
    let m = vec_capacity c.clear.new.self - vec_len c.clear.new.self in
    let none = (rw (← c.self.view_is) at may) (sym c.is_same.ensures ∙ c.if-is_same.false) in
    rw (← c.self.view_is)
    (readies-emptied t i.owner c.args.owner (with_last i.listed.items i.last) c.clear.new.self.items n m (c.clear.ensures.items ∙ sym none) c.clear.ensures.items)
