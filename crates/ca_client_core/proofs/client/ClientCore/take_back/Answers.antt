use Rattle.std.proofs.Common.{◌≡◌, ◌∙◌, ◌+◌, ◌-◌, ℕ, ap, arith, take}
use Rattle.ca_client_core.specs.Marks.{undone}
use Rattle.ca_client_core.proofs.Marked.{undone-less}
use Rattle.ca_client_core.proofs.client.ClientCore.take_back.Goals as goal

pub undoing-preserved : goal.undoing-preserved
undoing-preserved c =
    let ms = c.args.marks.now in
    let k = c.undoing.left - 1 in
    let one : k + 1 ≡ c.undoing.left = omega (arith, c.undoing-test.true) in (
      omega (arith, c.undoing.invariant.0),
      undone-less ms k _ c.undoing.self c.restore.new.self (omega (arith, c.undoing.invariant.0, c.undoing-test.true)) c.restore.ensures
          ∙ ap (λ (n : ℕ). undone (take n ms) c.undoing.self) one
          ∙ c.undoing.invariant.1,
    )
