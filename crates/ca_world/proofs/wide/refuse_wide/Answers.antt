use Rattle.std.proofs.Common.{is_none, refl}
use Rattle.std.specs.Prelude.{map}
use Rattle.ca_model.specs.ClientCalls.{Shape}
use Rattle.ca_model.specs.Images.{type_of}
use Rattle.ca_client_core.proofs.Adding.{subscribes-not}
use Rattle.ca_client_core.proofs.Requesting.{reads-not}
use Rattle.ca_world_data.specs.declared.client.ClientSide.{ClientSide}
use Rattle.ca_world_data.specs.Logs.{lines_in}
use Rattle.ca_world_data.specs.Seen.{client_of, joined_of}
use Rattle.ca_world.proofs.Askings.{reads-moved, reads-noted}
use Rattle.ca_world.proofs.Subscribing.{subscribes-moved, subscribes-noted}
use Rattle.ca_world.proofs.Widths.{not-wide}
use Rattle.ca_world.proofs.wide.refuse_wide.Goals as goal

pub returns-in-Some-clause-reads : goal.returns-in-Some-clause-reads
returns-in-Some-clause-reads c =
    let x : ClientSide = c.args.side.now in
    let y : ClientSide = c.prepare.new.side in
    let a : Shape = record { data_type = c.args.data_type; count = c.args.count } in
    let r = c.in_ok-handle.ensures.ready in
    let refused = reads-not (is_none (type_of a.data_type)) (client_of y).core c.in_ok-handle.handle a c.in-Some.refusal c.in-Some.ensures in
    reads-moved c.args.client c.args.channel a (client_of x) (client_of y) _ (lines_in c.args.logs.now.items) (lines_in c.prepare.new.logs.items) _ (map joined_of c.args.circuits.now.items) (map joined_of c.prepare.new.circuits.items) _ _
    c.prepare.ensures.side c.prepare.ensures.logs c.prepare.ensures.circuits
    (reads-noted c.args.client c.args.channel a (client_of y) _ (lines_in c.prepare.new.logs.items) _ (map joined_of c.prepare.new.circuits.items) c.in_ok-handle.handle c.in-Some.refusal refused.0 (client_of y).core c.note.result
    r.named refused.1 refl c.note.ensures)

pub returns-in-Some-clause-subscribes : goal.returns-in-Some-clause-subscribes
returns-in-Some-clause-subscribes c mask =
    let x : ClientSide = c.args.side.now in
    let y : ClientSide = c.prepare.new.side in
    let a : Shape = record { data_type = c.args.data_type; count = c.args.count } in
    let r = c.in_ok-handle.ensures.ready in
    let refused = subscribes-not (client_of y).core c.in_ok-handle.handle a mask c.in-Some.refusal c.in-Some.ensures in
    subscribes-moved c.args.client c.args.channel a mask (client_of x) (client_of y) _ (lines_in c.args.logs.now.items) (lines_in c.prepare.new.logs.items) _ (map joined_of c.args.circuits.now.items) (map joined_of c.prepare.new.circuits.items) _ _
    c.prepare.ensures.side c.prepare.ensures.logs c.prepare.ensures.circuits
    (subscribes-noted c.args.client c.args.channel a mask (client_of y) _ (lines_in c.prepare.new.logs.items) _ (map joined_of c.prepare.new.circuits.items) c.in_ok-handle.handle c.in-Some.refusal refused.0 (client_of y).core c.note.result
    r.named refused.1 refl c.note.ensures)

pub returns-in-None : goal.returns-in-None
returns-in-None c =
    let a : Shape = record { data_type = c.args.data_type; count = c.args.count } in
    absurd (not-wide a c.requires.wide c.in-None.ensures.1 c.in-None.ensures.2)
