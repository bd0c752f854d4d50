use Rattle.std.proofs.Common.{◌≡◌, length, List, arith, ap, map, ◌∙◌}
use Rattle.ca_model.specs.World.{log_begun}
use Rattle.ca_world_data.specs.declared.joined.Joined.{Joined}
use Rattle.ca_world_data.specs.Closing.{server_left, server_over, with_lefts}
use Rattle.ca_world_data.specs.Seen.{joined_of}
use Rattle.ca_world_data.proofs.Restarting.{entries-more}
use Rattle.ca_world.proofs.server_restart.restart_server.Goals as goal

pub returns : goal.returns
returns c =
    let ks : List Joined = c.args.circuits.now.items in
    let life : c.len-life.result ≡ length c.args.logs.now.items = omega (arith, c.len-life.ensures) in
    let left = λ (j : Joined). server_left c.args.server c.args.side.now.core (joined_of j) in (
      c.begin_again.ensures.side
          ∙ (λ t. record {
            setting = c.args.side.now.setting;
            core = c.in_ok-core.ensures.0 t;
            life = life t;
            records = c.in_ok-core.ensures.1 t;
            added = length c.args.side.now.setting.records;
          }),
      c.begin_again.ensures.circuits,
      entries-more c.args.logs.now.items _ c.push_reserved.new.self.items c.in_ok-core.log (log_begun c.args.side.now.setting) c.in_ok-reserve.ensures.items c.push_reserved.ensures.items c.in_ok-core.ensures.2,
      c.end_servers.ensures ∙ ap (with_lefts (server_over c.args.server) (map joined_of ks)) (c.in_ok-lefts.ensures ∙ ap (map left) c.deref.ensures.value),
    )
