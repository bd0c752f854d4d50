use Rattle.std.proofs.Common.{◌≡◌, List, Some, subst}
use Rattle.ca_model.specs.World.{RecordSide}
use Rattle.ca_world_servers.specs.declared.parting.Parting.{Parting}
use Rattle.ca_world_servers.specs.Effects.{IsParting, IsPartingOf}
use Rattle.ca_world_servers.proofs.ahead.look_at.Goals as goal

pub returns-clause-known : goal.returns-clause-known
returns-clause-known c = record {
  command = c.command.ensures;
  answers = c.reply_size.ensures;
  writes = c.in_ok-write.ensures.known;
  clears = λ e.
      subst (λ (rs : List RecordSide). (p : Parting) × (c.in_ok-parting.parting ≡ Some p) × IsParting c.args.core.now c.args.circuit c.args.message.now.p1 rs p)
      c.look_write.ensures.same (c.in_ok-parting.ensures.clears e);
  parted = subst (IsPartingOf c.in_ok-parting.parting) c.look_write.ensures.same c.in_ok-parting.ensures.parted;
}
