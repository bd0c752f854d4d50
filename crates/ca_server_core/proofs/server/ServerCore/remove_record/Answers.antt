use Rattle.std.proofs.Common.{ℕ, Bool, List, Result, sym, subst}
use Rattle.ca_arena.specs.declared.handle.Handle.{Handle}
use Rattle.ca_records.specs.Puts.{Record}
use Rattle.ca_records.specs.Store.{records_of}
use Rattle.ca_text.specs.declared.refusal.Refusal.{Refusal}
use Rattle.ca_model.specs.ServerCalls.{Removes}
use Rattle.ca_server_watchers.specs.Watching.{Clears, Watched}
use Rattle.ca_server_core.specs.Removing.{MayAllLose}
use Rattle.ca_server_core.proofs.Posted.{same-error}
use Rattle.ca_server_core.proofs.Removed.{may-lose, removes-ok, removes-refused, server-removed}
use Rattle.ca_server_core.proofs.Servers.{server_of}
use Rattle.ca_server_core.proofs.server.ServerCore.remove_record.Goals as goal

pub returns-in_err-remove : goal.returns-in_err-remove
returns-in_err-remove c =
    let i = c.self.inside in
    let f = c.in_err-remove.field-0.0 in
    subst (λ (r : Result (Unit {0}) Refusal). (gone : Handle → Bool) × ((left : Handle → ℕ) × Removes c.args.self.now c.args.name.now gone left r (server_of i.port c.remove.new.self i.moment i.circuits i.beacons i.applied)))
    (sym (same-error c.from_residual.result f c.from_residual.ensures.1))
    (removes-refused c.args.self.now i.port i.moment i.applied i.beacons i.records c.remove.new.self i.circuits c.args.name.now f c.self.view_is c.in_err-remove.ensures)

pub lose_on_all-requires-clause-room : goal.lose_on_all-requires-clause-room
lose_on_all-requires-clause-room c h e at = (c.self.invariant.sound.ends h e at).room

pub lose_on_all-requires-clause-may : goal.lose_on_all-requires-clause-may
lose_on_all-requires-clause-may c =
    let i = c.self.inside in
    subst (λ (rs : List Record). MayAllLose rs i.circuits) (sym c.in_ok-remove.ensures.records) (may-lose c.args.name.now (records_of i.records) i.circuits c.self.invariant.sound)

pub invariant_of-self-2 : goal.invariant_of-self-2
invariant_of-self-2 c =
    let i = c.self.inside in
    server-removed c.args.name.now i.records c.remove.new.self c.lose_on_all.new.records i.watchers c.forget_all.new.self i.leading c.forget_all-2.new.self i.circuits c.lose_on_all.new.circuits c.self.invariant c.in_ok-remove.ensures.records c.lose_on_all.ensures.loses c.forget_all.ensures
    (subst (λ (l : Watched). Clears c.args.name.now l c.forget_all-2.new.self) c.lose_on_all.ensures.stays c.forget_all-2.ensures)

pub returns : goal.returns
returns c =
    let i = c.self.inside in
    removes-ok c.args.self.now i.port i.moment i.applied c.in_ok-remove.field-0 i.beacons i.records c.remove.new.self c.lose_on_all.new.records i.circuits c.lose_on_all.new.circuits c.args.name.now c.self.view_is c.in_ok-remove.ensures c.lose_on_all.ensures.loses
