use Rattle.std.proofs.Common.{sym, subst}
use Rattle.ca_server_watchers.specs.Watching.{LeavesAt, Watched, lines_in}
use Rattle.ca_server_watchers.proofs.Lines.{leaves-it, leaves-none}
use Rattle.ca_server_watchers.proofs.watchers.Watchers.forget.Goals as goal
use Rattle.ca_server_watchers.proofs.watchers.Watchers.forget.Goals.{in-Some, in_default}

pub returns : goal.returns
returns c =
    let name = c.args.name.now in
    let old = c.self.inside.lines in
    elim c.match-get_mut.branch [
      | in-Some w ↦
          rw (w.self-inside-is)
          (subst (λ (v : Watched). LeavesAt name c.args.place v (lines_in (λ k. k.items) (c.get_mut.follows.lender w.take_out.new.self).entries)) c.self.view_is
          (leaves-it (λ k. k.items) old (c.get_mut.follows.lender w.take_out.new.self) name c.args.place w.in-Some.line.now w.take_out.new.self (sym w.in-Some.ensures.value) (c.get_mut.follows.holds w.take_out.new.self) w.take_out.ensures))
      | in_default w ↦
          rw (w.self-inside-is)
          (subst (λ (v : Watched). LeavesAt name c.args.place v (lines_in (λ k. k.items) c.get_mut.follows.lender-at-none.entries)) c.self.view_is
          (leaves-none (λ k. k.items) old c.get_mut.follows.lender-at-none name c.args.place c.get_mut.follows.holds-at-none (sym w.in_default.ensures.value)))
    ]
