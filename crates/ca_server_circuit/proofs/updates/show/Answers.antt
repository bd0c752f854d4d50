use Rattle.std.proofs.Common.{◌∙◌, sym}
use Rattle.ca_wire.specs.Messages.{scalar}
use Rattle.ca_server_circuit.specs.CircuitOutput.{addressed}
use Rattle.ca_server_circuit.specs.Pumping.{scalar_update}
use Rattle.ca_server_circuit.proofs.Leaving.{err-both, grows-by, grows-same, ok-both, sends-behind, shares-behind, shows-shared}
use Rattle.ca_server_circuit.proofs.Replying.{in-err, ok-then}
use Rattle.ca_server_circuit.proofs.updates.show.Goals as goal

pub returns-in-Some-clause-ok : goal.returns-in-Some-clause-ok
returns-in-Some-clause-ok c =
    let m = scalar (scalar_update c.args.wanted.now c.in-Some.payload) in
    ok-then c.send_scalar.result (λ sent. (m, c.in-Some.ensures, sends-behind m c.args.to.now c.args.link.now c.send_scalar.new.link sent)) c.send_scalar.ensures.ok

pub returns-in-Some-clause-some : goal.returns-in-Some-clause-some
returns-in-Some-clause-some c = in-err c.send_scalar.result (scalar (scalar_update c.args.wanted.now c.in-Some.payload), c.in-Some.ensures)

pub returns-in-Some-shared-clause-ok : goal.returns-in-Some-shared-clause-ok
returns-in-Some-shared-clause-ok c =
    let w = c.args.wanted.now in
    let u = c.in-Some-shared.ensures in
    let m = addressed w.id c.in-Some-shared.shared.now.value.update in
    let shows = shows-shared w c.args.shown.now c.in-Some-shared.shared.now.value.update u.shows u.data_type (u.count ∙ c.count_for-count.ensures.count) in
    ok-both c.share.result (λ taken handed. (m, shows, shares-behind m c.args.to.now c.share.new.self c.args.link.now c.share.new.link taken handed)) c.share.ensures.ok c.share.ensures.link

pub returns-in-Some-shared-clause-some : goal.returns-in-Some-shared-clause-some
returns-in-Some-shared-clause-some c =
    let w = c.args.wanted.now in
    let u = c.in-Some-shared.ensures in
    in-err c.share.result (addressed w.id c.in-Some-shared.shared.now.value.update, shows-shared w c.args.shown.now c.in-Some-shared.shared.now.value.update u.shows u.data_type (u.count ∙ c.count_for-count.ensures.count))

pub returns-in-Some-shared-clause-err : goal.returns-in-Some-shared-clause-err
returns-in-Some-shared-clause-err c = err-both c.share.result (λ same still. (still, same)) c.share.ensures.err c.share.ensures.still

pub returns-in-Some-shared-clause-grows : goal.returns-in-Some-shared-clause-grows
returns-in-Some-shared-clause-grows c = grows-by c.share.result c.args.to.now c.share.new.self _ c.in-Some-shared.ensures.shares c.share.ensures.ok c.share.ensures.err

pub returns-in-None-shared-clause-ok : goal.returns-in-None-shared-clause-ok
returns-in-None-shared-clause-ok c =
    ok-then c.show_image.result (λ did. (did.0, did.1, sends-behind did.0 c.args.to.now c.args.link.now c.show_image.new.link did.2)) c.show_image.ensures.ok
