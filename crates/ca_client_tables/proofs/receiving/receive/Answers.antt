use Rattle.std.proofs.Common.{[], None, Ok, Option, Some, rules, subst}
use Rattle.ca_requests.specs.Meaning.{message_of}
use Rattle.ca_client_tables.specs.Finding.{FindsOne, Halfway}
use Rattle.ca_client_tables.specs.Receiving.{HalfParts, tables_in}
use Rattle.ca_client_tables.specs.declared.finding.Found.{Found}
use Rattle.ca_client_tables.proofs.Finds.{found-header}
use Rattle.ca_client_tables.proofs.Arrivals.{beacon-received, reply-received, skipped}
use Rattle.ca_client_tables.proofs.receiving.receive.Goals as goal

pub returns-in-Ok-Some : goal.returns-in-Ok-Some
returns-in-Ok-Some c =
    let old : HalfParts = record { channels = c.args.channels.now; circuits = c.args.circuits.now; opening = c.args.opening.now.items; order = c.args.order.now.items; beacons = c.args.beacons.now } in
    let t : Halfway = record { channels = c.find_one.new.channels; circuits = c.find_one.new.circuits; opening = c.find_one.new.opening.items; order = c.find_one.new.order.items } in
    record {
      receives =
          reply-received old c.args.from c.args.message.now (Some c.in-Ok-Some.found) t (search rules)
          (found-header (tables_in old) t c.args.from c.args.message.now c.header-reply.result (Ok (Some c.in-Ok-Some.found)) c.header-reply.ensures.header
          (subst (λ (o : Option Found). FindsOne (tables_in old) c.args.from (message_of c.header-reply.result []) (Ok o) t) c.in-Ok-Some.field-0-is c.in-Ok-Some.ensures.finds));
      opening = c.in-Ok-Some.ensures.opening;
    }

pub returns-in-Ok-None : goal.returns-in-Ok-None
returns-in-Ok-None c =
    let old : HalfParts = record { channels = c.args.channels.now; circuits = c.args.circuits.now; opening = c.args.opening.now.items; order = c.args.order.now.items; beacons = c.args.beacons.now } in
    let t : Halfway = record { channels = c.find_one.new.channels; circuits = c.find_one.new.circuits; opening = c.find_one.new.opening.items; order = c.find_one.new.order.items } in
    record {
      receives =
          reply-received old c.args.from c.args.message.now None t (search rules)
          (found-header (tables_in old) t c.args.from c.args.message.now c.header-reply.result (Ok None) c.header-reply.ensures.header
          (subst (λ (o : Option Found). FindsOne (tables_in old) c.args.from (message_of c.header-reply.result []) (Ok o) t) c.in-Ok-None.field-0-is c.in-Ok-None.ensures.finds));
      opening = c.in-Ok-None.ensures.opening;
    }

pub returns-then-command-number-2 : goal.returns-then-command-number-2
returns-then-command-number-2 c =
    let old : HalfParts = record { channels = c.args.channels.now; circuits = c.args.circuits.now; opening = c.args.opening.now.items; order = c.args.order.now.items; beacons = c.args.beacons.now } in
    record {
      receives =
          beacon-received old c.args.from c.args.message.now c.receive_beacon.result c.receive_beacon.new.beacons (search rules) c.receive_beacon.ensures;
      opening = c.requires;
    }

pub returns : goal.returns
returns c =
    let old : HalfParts = record { channels = c.args.channels.now; circuits = c.args.circuits.now; opening = c.args.opening.now.items; order = c.args.order.now.items; beacons = c.args.beacons.now } in
    record {
      receives =
          skipped old c.args.from c.args.message.now (search rules) (λ is port. search rules);
      opening = c.requires;
    }
