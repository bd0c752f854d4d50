-- One step of an open end.
use Rattle.std.proofs.Common.{◌≡◌, ℕ, List, ap, ◌∙◌}
use Rattle.ca_link.specs.Link.{LinkState, with_rest}
use Rattle.ca_model.specs.Server.{ServerEnd}

-- the end that its first message was taken from
pub taken-first : (v e : ServerEnd) (l : LinkState) (rest : List ℕ) → v ≡ e → l ≡ with_rest rest v.link → (let new : ServerEnd = record v { link = l } in new) ≡ (let new : ServerEnd = record e { link = with_rest rest e.link } in new)
taken-first v e l rest is took =
    ap (λ (k : LinkState). let new : ServerEnd = record v { link = k } in new) took
    ∙ ap (λ (x : ServerEnd). let new : ServerEnd = record x { link = with_rest rest x.link } in new) is

-- the end is as it was
pub same-link : (v e : ServerEnd) (l : LinkState) → v ≡ e → l ≡ v.link → (let new : ServerEnd = record v { link = l } in new) ≡ e
same-link v e l is same = ap (λ (k : LinkState). let new : ServerEnd = record v { link = k } in new) same ∙ is
