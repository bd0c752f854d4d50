use Rattle.std.proofs.Common.{sym, subst}
use Rattle.ca_client_tables.specs.Sound.{IsSound}
use Rattle.ca_client_core.proofs.Placing.{sound-mapped}
use Rattle.ca_client_core.proofs.client.ClientCore.take.Goals.{in-Some, in_default}
use Rattle.ca_client_core.proofs.client.ClientCore.take.Goals as goal

pub invariant_of-self : goal.invariant_of-self
invariant_of-self c = elim c.match-by_handle_mut.branch [
  | in-Some w ↦
      subst (λ i. IsSound i.channels i.searches.entries i.requests.table i.monitors i.circuits i.lives.items) (sym w.self-inside-is)
      (sound-mapped c.self.inside.channels c.self.inside.searches.entries c.self.inside.requests.table c.self.inside.monitors c.self.inside.circuits c.self.inside.lives.items c.self.invariant _ c.args.circuit w.in-Some.found.now w.drop_first.new.self (sym w.in-Some.ensures.value) w.drop_first.ensures)
  | in_default w ↦ subst (λ i. IsSound i.channels i.searches.entries i.requests.table i.monitors i.circuits i.lives.items) (sym w.self-inside-is) c.self.invariant
]
