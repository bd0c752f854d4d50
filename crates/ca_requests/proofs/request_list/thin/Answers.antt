use Rattle.std.proofs.Common.{ap, ◌∙◌, refl}
use Rattle.ca_requests.proofs.Lined.{line, readies-alike, readies-filtered, readies-same}
use Rattle.ca_requests.proofs.request_list.thin.Goals as goal
use Rattle.ca_requests.proofs.request_list.thin.Goals.{then-len-limit, else-len-limit}

pub returns-clause-readies : goal.returns-clause-readies
returns-clause-readies c = λ o m n.
    let t = c.args.table.now in
    let xs = c.args.listed.now.items in
    let ys = c.reserve.new.self.items in
    elim c.if-len-limit.branch [
      | then-len-limit w ↦
          readies-filtered t o xs ys m n (c.reserve.ensures.items ∙ (ap (λ v. v.items) w.listed-is ∙ w.forget.ensures))
      | else-len-limit w ↦
          readies-alike t (line o xs m) (line o xs m) (line o ys n) (readies-same t (line o xs m)) refl (c.reserve.ensures.items ∙ ap (λ v. v.items) w.listed-is)
    ]
