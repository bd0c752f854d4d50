use Rattle.std.proofs.Common.{[], Err, List, None, Ok, Some, ap, refl, subst}
use Rattle.ca_arena.specs.declared.handle.Handle.{Handle}
use Rattle.ca_requests.specs.Meaning.{message_of}
use Rattle.ca_model.specs.Client.{ClientCircuit}
use Rattle.ca_client_tables.specs.Finding.{FindsOne, Halfway, Tables, channel_of}
use Rattle.ca_client_tables.proofs.Finds.{found-none, found-opened, found-refused}
use Rattle.ca_client_tables.proofs.finding.find.Goals as goal

pub returns-in_err-found : goal.returns-in_err-found
returns-in_err-found c =
    let old : Tables = record { channels = c.args.channels.now; circuits = c.args.circuits.now; order = c.args.order.now.items } in
    let mid : Halfway = record { channels = c.find_one.new.channels; circuits = c.find_one.new.circuits; opening = c.find_one.new.opening.items; order = c.find_one.new.order.items } in
    found-none old mid c.args.from (message_of c.args.reply.now []) c.in_err-found.field-0.0 c.from_residual.result
    (subst (λ (es : List (Handle × ClientCircuit)). FindsOne (record { channels = old.channels; circuits = old.circuits; opening = es; order = old.order }) c.args.from (message_of c.args.reply.now []) (Err c.in_err-found.field-0.0) mid) c.new-opening.ensures.items c.in_err-found.ensures.finds)
    c.from_residual.ensures.0

pub returns-in-Some : goal.returns-in-Some
returns-in-Some c =
    let old : Tables = record { channels = c.args.channels.now; circuits = c.args.circuits.now; order = c.args.order.now.items } in
    let mid : Halfway = record { channels = c.find_one.new.channels; circuits = c.find_one.new.circuits; opening = c.find_one.new.opening.items; order = c.find_one.new.order.items } in
    found-opened old mid c.args.from (message_of c.args.reply.now []) c.in_ok-found.found (Some c.in-Some.found.channel) c.find_one.new.opening c.open_all.new.self tt
    (subst (λ (es : List (Handle × ClientCircuit)). FindsOne (record { channels = old.channels; circuits = old.circuits; opening = es; order = old.order }) c.args.from (message_of c.args.reply.now []) (Ok c.in_ok-found.found) mid) c.new-opening.ensures.items c.in_ok-found.ensures.finds)
    (ap channel_of c.in-Some.is) refl c.in-Ok.ensures

pub returns-in-None : goal.returns-in-None
returns-in-None c =
    let old : Tables = record { channels = c.args.channels.now; circuits = c.args.circuits.now; order = c.args.order.now.items } in
    let mid : Halfway = record { channels = c.find_one.new.channels; circuits = c.find_one.new.circuits; opening = c.find_one.new.opening.items; order = c.find_one.new.order.items } in
    found-opened old mid c.args.from (message_of c.args.reply.now []) c.in_ok-found.found None c.find_one.new.opening c.open_all.new.self tt
    (subst (λ (es : List (Handle × ClientCircuit)). FindsOne (record { channels = old.channels; circuits = old.circuits; opening = es; order = old.order }) c.args.from (message_of c.args.reply.now []) (Ok c.in_ok-found.found) mid) c.new-opening.ensures.items c.in_ok-found.ensures.finds)
    (ap channel_of c.in-None.is) refl c.in-Ok.ensures

pub returns-in-Err : goal.returns-in-Err
returns-in-Err c =
    let old : Tables = record { channels = c.args.channels.now; circuits = c.args.circuits.now; order = c.args.order.now.items } in
    let new : Tables = record { channels = c.lose_found.new.channels; circuits = c.lose_found.new.circuits; order = c.lose_found.new.order.items } in
    let mid : Halfway = record { channels = c.find_one.new.channels; circuits = c.find_one.new.circuits; opening = c.find_one.new.opening.items; order = c.find_one.new.order.items } in
    found-refused old new mid c.args.from (message_of c.args.reply.now []) c.in_ok-found.found c.find_one.new.opening c.in-Err.opening c.open_all.new.self
    (subst (λ (es : List (Handle × ClientCircuit)). FindsOne (record { channels = old.channels; circuits = old.circuits; opening = es; order = old.order }) c.args.from (message_of c.args.reply.now []) (Ok c.in_ok-found.found) mid) c.new-opening.ensures.items c.in_ok-found.ensures.finds)
    refl c.in-Err.ensures c.lose_found.ensures
