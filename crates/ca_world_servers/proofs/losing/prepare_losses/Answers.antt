use Rattle.std.proofs.Common.{◌∙◌, ◌<◌, length, List, slice_index_or, refl, arith}
use Rattle.ca_text.specs.Place.{At}
use Rattle.ca_world_data.specs.declared.joined.Joined.{Joined}
use Rattle.ca_world_data.proofs.Worlds.{found}
use Rattle.ca_world_servers.specs.Losing.{IsReady}
use Rattle.ca_world_servers.proofs.Losings.{ready-next, same-set}
use Rattle.ca_world_servers.proofs.losing.prepare_losses.Goals as goal

pub returns-in_err-prepare_loss-clause-same : goal.returns-in_err-prepare_loss-clause-same
returns-in_err-prepare_loss-clause-same c =
    let ks : List Joined = c.loop-joined.circuits in
    let i = c.loop-joined.joined-index in
    let j : Joined = slice_index_or ks i c.joined-item.result in
    let within : i < length ks = omega (arith, c.loop-joined-test.true) in
    let at : At ks i j = found ks i j c.joined-item.result within refl in
    same-set ks i j c.prepare_loss.new.joined at c.prepare_loss.ensures.same ∙ c.loop-joined.invariant.same

pub returns-in_err-push-clause-same : goal.returns-in_err-push-clause-same
returns-in_err-push-clause-same c =
    let ks : List Joined = c.loop-joined.circuits in
    let i = c.loop-joined.joined-index in
    let j : Joined = slice_index_or ks i c.joined-item.result in
    let within : i < length ks = omega (arith, c.loop-joined-test.true) in
    let at : At ks i j = found ks i j c.joined-item.result within refl in
    same-set ks i j c.prepare_loss.new.joined at c.prepare_loss.ensures.same ∙ c.loop-joined.invariant.same

pub loop-joined-preserved : goal.loop-joined-preserved
loop-joined-preserved c =
    let ks : List Joined = c.loop-joined.circuits in
    let i = c.loop-joined.joined-index in
    let j : Joined = slice_index_or ks i c.joined-item.result in
    let within : i < length ks = omega (arith, c.loop-joined-test.true) in
    let at : At ks i j = found ks i j c.joined-item.result within refl in
    record {
      same = same-set ks i j c.prepare_loss.new.joined at c.prepare_loss.ensures.same ∙ c.loop-joined.invariant.same;
      ready = ready-next (IsReady c.args.server c.args.core.now c.args.name.now) ks c.loop-joined.all.items c.push.new.self.items i c.prepare_loss.new.joined c.in_ok-prepare_loss.field-0
          c.loop-joined.invariant.ready c.loop-joined.invariant.long c.in_ok-push.ensures.items c.in_ok-prepare_loss.ensures.ready;
      long = omega (arith, c.in_ok-push.ensures.len, c.loop-joined.invariant.long);
    }
