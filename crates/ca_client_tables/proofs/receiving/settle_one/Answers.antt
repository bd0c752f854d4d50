use Rattle.std.proofs.Common.{◌≡◌, ◌∙◌, ap, rules, sym, true}
use Rattle.ca_client_tables.specs.Receiving.{boosted_if, settled_in}
use Rattle.ca_client_tables.specs.declared.receiving.Received.{Received}
use Rattle.ca_client_tables.proofs.Settling.{settled-after, settled-found}
use Rattle.ca_client_tables.proofs.receiving.settle_one.Goals as goal

pub returns-in-Found : goal.returns-in-Found
returns-in-Found c = λ moment.
    let es = c.args.searches.now.entries in
    ap (boosted_if c.args.anomaly moment) c.pause.ensures
    ∙ settled-found c.args.anomaly moment c.in-Found.found es
    ∙ ap (λ (d : Received). settled_in moment d (boosted_if c.args.anomaly moment es)) (sym c.in-Found.is)

pub returns-then-anomaly : goal.returns-then-anomaly
returns-then-anomaly c = λ moment.
    let es = c.args.searches.now.entries in
    let was : c.args.anomaly ≡ true = search rules in
    settled-after c.args.anomaly moment c.in-Beacon.beacon es was
    ∙ ap (λ (d : Received). settled_in moment d (boosted_if c.args.anomaly moment es)) (sym c.in-Beacon.is)
