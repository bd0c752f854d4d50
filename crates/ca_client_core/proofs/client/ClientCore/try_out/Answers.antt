use Rattle.std.proofs.Common.{List, refl, subst}
use Rattle.ca_arena.specs.declared.handle.Handle.{Handle}
use Rattle.ca_client_core.specs.Foretold.{AreSome}
use Rattle.ca_client_core.proofs.Tried.{tried-so}
use Rattle.ca_client_core.proofs.client.ClientCore.try_out.Goals as goal

pub returns-clause-ok : goal.returns-clause-ok
returns-clause-ok c =
    tried-so c.args.self.now c.plan.new.self c.in_ok-plan.plan (record { sent = c.in_ok-plan.plan.sent; ends = c.are_some-ends.result }) refl
    (subst (λ (hs : List Handle). AreSome hs c.are_some-ends.result) c.deref.ensures.value c.are_some-ends.ensures)
    c.in_ok-plan.ensures.ok
