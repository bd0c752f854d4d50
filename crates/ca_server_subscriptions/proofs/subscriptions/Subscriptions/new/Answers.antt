use Rattle.std.proofs.Common.{rules, [], refl}
use Rattle.ca_server_subscriptions.proofs.Receivers.{none-only_one}
use Rattle.ca_server_subscriptions.proofs.subscriptions.Subscriptions.new.Goals as goal

pub invariant_of-result : goal.invariant_of-result
invariant_of-result c =
    rw (c.new.ensures.empty, c.new-2.ensures, c.new-3.ensures, c.new-4.ensures) (search rules, (λ name. refl), none-only_one [], (λ i e at. absurd cc), refl)
