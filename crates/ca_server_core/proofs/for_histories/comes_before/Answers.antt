use Rattle.std.proofs.Common.{false, subst}
use Rattle.std.specs.Prelude.{nat_lt}
use Rattle.std.proofs.lemmas.Bool.{ltb-false, ltb-true}
use Rattle.ca_model.specs.Server.{Server}
use Rattle.ca_server_core.specs.ForHistories.{ComesBefore}
use Rattle.ca_server_core.proofs.Ordered.{less-before, most-before, named-some}
use Rattle.ca_server_core.proofs.for_histories.comes_before.Goals as goal

pub returns-in_default : goal.returns-in_default
returns-in_default c =
    subst (λ (y : Server). ComesBefore y.records c.args.name.now c.args.other.now false) c.core.view_is
    (λ apart i j r s at to is_r is_s. absurd (named-some _ _ i r at is_r c.in_default.ensures))

pub returns-in_default-find : goal.returns-in_default-find
returns-in_default-find c =
    subst (λ (y : Server). ComesBefore y.records c.args.name.now c.args.other.now false) c.core.view_is
    (λ apart i j r s at to is_r is_s. absurd (named-some _ _ j s to is_s c.in_default-find.ensures))

pub returns : goal.returns
returns c =
    subst (λ (y : Server). ComesBefore y.records c.args.name.now c.args.other.now (nat_lt c.in-Some.place c.in-Some-find.next)) c.core.view_is
    (λ apart i j r s at to is_r is_s. (
      λ less. less-before _ c.args.name.now c.args.other.now _ _ c.in-Some.ensures c.in-Some-find.ensures apart i j r s at to is_r is_s (ltb-true _ _ less),
      λ most. most-before _ c.args.name.now c.args.other.now _ _ c.in-Some.ensures c.in-Some-find.ensures apart i j r s at to is_r is_s (ltb-false _ _ most),
    ))
