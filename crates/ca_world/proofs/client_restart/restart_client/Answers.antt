use Rattle.std.proofs.Common.{◌≡◌, length, List, arith, ap, map, refl, subst, sym, ◌∙◌}
use Rattle.std.specs.Prelude.{Result}
use Rattle.ca_text.specs.declared.refusal.Refusal.{Refusal}
use Rattle.ca_model.specs.World.{no_names}
use Rattle.ca_world_data.specs.declared.client.ClientSide.{ClientSide}
use Rattle.ca_world_data.specs.declared.joined.Joined.{Joined}
use Rattle.ca_world_data.specs.Closing.{client_left, client_over, with_lefts}
use Rattle.ca_world_data.specs.Logs.{lines_in}
use Rattle.ca_world_data.specs.Restarts.{RestartsClient}
use Rattle.ca_world_data.specs.Seen.{joined_of}
use Rattle.ca_world_data.proofs.Restarting.{lines-more}
use Rattle.ca_world.proofs.StepCloses.{lacks-error}
use Rattle.ca_world.proofs.client_restart.restart_client.Goals as goal

pub returns : goal.returns
returns c =
    let ks : List Joined = c.args.circuits.now.items in
    let life : c.len-life.result ≡ length c.args.logs.now.items = omega (arith, c.len-life.ensures) in
    let left = λ (j : Joined). client_left c.args.client c.args.side.now.core (joined_of j) in (
      c.begin_again.ensures.side ∙ (λ t. record { setting = c.args.side.now.setting; core = c.in_ok-core.ensures t; life = life t; names = no_names }),
      c.begin_again.ensures.circuits,
      lines-more c.args.logs.now.items _ c.push_reserved.new.self.items c.new.result c.in_ok-reserve.ensures.items c.push_reserved.ensures.items c.new.ensures.items,
      c.end_clients.ensures ∙ ap (with_lefts (client_over c.args.client) (map joined_of ks)) (c.in_ok-lefts.ensures ∙ ap (map left) c.deref.ensures.value),
    )

pub returns-in_err-reserve : goal.returns-in_err-reserve
returns-in_err-reserve c =
    let x : ClientSide = c.args.side.now in
    let ks : List Joined = c.args.circuits.now.items in
    let logs = c.args.logs.now.items in
    subst (λ (r : Result (Unit {0}) Refusal). RestartsClient c.args.servers.now c.args.moment c.args.client x logs ks r x c.reserve.new.self.items ks)
    (sym (lacks-error c.from_residual-in_err-reserve.result c.from_residual-in_err-reserve.ensures.1)) (refl, ap lines_in c.reserve.ensures.items, refl)
