use Rattle.std.proofs.Common.{◌^◌, ◌<◌, All, List, ℕ, subst, rules}
use Rattle.ca_dbr.proofs.display.Display.know.Goals as goal

pub returns : goal.returns
returns c =
    let d = c.args.self.now in
    record {
      units = search rules;
      precision = search rules;
      limits = search rules;
      patterns = subst (λ (xs : List ℕ). All (λ n. n < 2 ^ 64) xs) c.in_order.ensures c.know_limits.ensures;
      states = d.few;
      names = search rules;
    }
