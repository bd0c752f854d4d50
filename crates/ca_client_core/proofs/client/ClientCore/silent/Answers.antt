use Rattle.std.proofs.Common.{refl, sym}
use Rattle.ca_search.proofs.Entries.{on_err}
use Rattle.ca_client_core.specs.Moments.{is_silent, silent_of}
use Rattle.ca_client_tables.proofs.Sifting.{taken-not, taken-one, taken-some}
use Rattle.ca_client_core.proofs.client.ClientCore.silent.Goals.{then-is_silent+in_ok-push, else-is_silent}
use Rattle.ca_client_core.proofs.client.ClientCore.silent.Goals as goal

pub returns-in_err-push-clause-some : goal.returns-in_err-push-clause-some
returns-in_err-push-clause-some c =
    let x = c.args.self.now in
    on_err c.from_residual.result
    (taken-some (silent_of x) (is_silent x) (λ h. h) (λ h hs. refl) refl x.order c.loop-index.index c.listed_at-circuit.result c.loop-index.silent.items c.listed_at-circuit.ensures (sym c.if-is_silent.ensures) c.loop-index.invariant)

pub loop-index-preserved : goal.loop-index-preserved
loop-index-preserved c =
    let x = c.args.self.now in
    elim c.if-is_silent.branch [
      | then-is_silent+in_ok-push w ↦
          rw (w.silent-is, w.in_ok-push.ensures.items)
          (taken-one (silent_of x) (is_silent x) (λ h. h) (λ h hs. refl) refl x.order c.loop-index.index c.listed_at-circuit.result c.loop-index.silent.items c.listed_at-circuit.ensures (sym w.if-is_silent.ensures) c.loop-index.invariant)
      | else-is_silent w ↦
          rw (w.silent-is)
          (taken-not (silent_of x) (is_silent x) (λ h. h) (λ h hs. refl) refl x.order c.loop-index.index c.listed_at-circuit.result c.loop-index.silent.items c.listed_at-circuit.ensures (sym w.if-is_silent.ensures) c.loop-index.invariant)
    ]
