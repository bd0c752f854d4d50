use Rattle.std.proofs.Common.{◌≡◌, ◌-◌, ◌++◌, ◌∷◌, [], Option, sym, ap, ◌∙◌, subst, vec_capacity, vec_len}
use Rattle.ca_arena.specs.declared.handle.Handle.{Handle}
use Rattle.ca_requests.specs.Lines.{RequestList, Readies, room_beside, with_last}
use Rattle.ca_requests.proofs.Lined.{line, readies-shorter}
use Rattle.ca_requests.proofs.request_list.RequestList.settle.Goals as goal

pub returns-then-not-is_still_open-clause-readies : goal.returns-then-not-is_still_open-clause-readies
returns-then-not-is_still_open-clause-readies c =
    let i = c.self.inside in
    let t = c.args.table.now in
    let h = c.in-Some.last in
    let n = vec_capacity i.listed - vec_len i.listed in
    let was : line i.owner (i.listed.items ++ h ∷ []) 0 ≡ c.args.self.now =
    ap (λ (o : Option Handle). let l : RequestList = record { owner = i.owner; handles = with_last i.listed.items o; room = room_beside o n } in l) (sym c.in-Some.is) ∙ c.self.view_is in
    subst (λ (l : RequestList). Readies t l (line i.owner i.listed.items n)) was
    (readies-shorter t i.owner i.listed.items h 0 n (sym c.is_still_open.ensures ∙ c.if-not-is_still_open.true))
