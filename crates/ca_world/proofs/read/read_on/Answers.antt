use Rattle.std.proofs.Common.{◌≡◌, ℕ, List, [], ◌∷◌, ◌++◌, Ok, length, arith, refl, sym, ap, subst, ◌∙◌}
use Rattle.std.specs.Prelude.{map}
use Rattle.std.proofs.lemmas.List.{length-map, map-append}
use Rattle.ca_arena.specs.declared.handle.Handle.{Handle}
use Rattle.ca_ids.specs.Wire.{wire_of}
use Rattle.ca_wire.specs.Messages.{read_request}
use Rattle.ca_model.specs.ClientCalls.{Shape}
use Rattle.ca_model.specs.History.{Called, Line, On, Request}
use Rattle.ca_model.specs.History as history
use Rattle.ca_model.specs.World.{Joined, grown}
use Rattle.ca_model.specs.World as model
use Rattle.ca_laws_parts.specs.Circuit.{AreGiven}
use Rattle.ca_world_data.specs.declared.client.ClientSide.{ClientSide}
use Rattle.ca_world_data.specs.declared.way.ChannelRoute.{ChannelRoute}
use Rattle.ca_world_data.specs.Logs.{lines_in}
use Rattle.ca_world_data.specs.Seen.{client_of, joined_of, named_of}
use Rattle.ca_world_data.specs.Reads.{ReadsOn, read_names}
use Rattle.ca_world_data.specs.Speaking.{GoesUp}
use Rattle.ca_world.proofs.Askings.{reads-done, reads-moved, reads-noted}
use Rattle.ca_world.proofs.read.read_on.Goals as goal

pub returns-in-Ok-clause-reads : goal.returns-in-Ok-clause-reads
returns-in-Ok-clause-reads c =
    let i : ℕ = c.args.client in
    let ch : ℕ = c.args.channel in
    let x : ClientSide = c.args.side.now in
    let y : ClientSide = c.prepare.new.side in
    let q : Handle = c.in-Ok.request in
    let way : ChannelRoute = c.in_ok-handle.way in
    let a : Shape = record { data_type = c.in-Some.asked_type; count = c.in-Some.asked_count } in
    let whole : Shape = record { data_type = c.args.data_type; count = c.args.count } in
    let same : a ≡ whole = λ t. record { data_type = c.in-Some.ensures.0 t; count = c.in-Some.ensures.1 t } in
    let r = c.in_ok-handle.ensures.ready in
    let logs : List (List Line) = lines_in c.prepare.new.logs.items in
    let logs' : List (List Line) = lines_in c.push_line.new.logs.items in
    let ks : List Joined = map joined_of c.prepare.new.circuits.items in
    let ks' : List Joined = map joined_of c.push_sent.new.circuits.items in
    let given : AreGiven (client_of y).names.requests y.core.requests = subst (λ (z : model.ClientSide). AreGiven z.names.requests z.core.requests) (sym c.prepare.ensures.side) c.requires.given in
    let number : c.len-number.result ≡ length (client_of y).names.requests = omega (arith, c.len-number.ensures) ∙ sym (length-map y.names.requests.items named_of) in
    let named : map named_of c.push_reserved.new.self.items ≡ (read_names ch (client_of y) q).requests =
    ap (map named_of) c.push_reserved.ensures.items ∙ map-append named_of y.names.requests.items _ ∙ ap (λ (n : ℕ). (client_of y).names.requests ++ (q, On ch (Request history.Read n)) ∷ []) number in
    let x' : model.ClientSide = record (client_of y) { core = c.read.new.self; names = record (client_of y).names { requests = map named_of c.push_reserved.new.self.items } } in
    let wanted : c.read_request-message.result ≡ read_request (record { sid = way.sid; id = wire_of q; data_type = a.data_type; count = a.count }) = c.read_request-message.ensures ∙ ap read_request c.wanted_on-wanted.ensures in
    subst (λ (z : Shape). ReadsOn i ch z (client_of x) (lines_in c.args.logs.now.items) (map joined_of c.args.circuits.now.items) (Ok tt) x' logs' ks') same
    (reads-moved i ch a (client_of x) (client_of y) x' (lines_in c.args.logs.now.items) logs logs' (map joined_of c.args.circuits.now.items) ks ks' (Ok tt)
    c.prepare.ensures.side c.prepare.ensures.logs c.prepare.ensures.circuits
    (reads-done i ch a (client_of y) x' logs logs' ks ks' c.in_ok-handle.handle q way y.circuits.items c.in-Ok.ensures.0 tt
    r.named given r.way r.numbered c.in-Ok.ensures.1
    (λ t. record (client_of y) { core = c.read.new.self; names = record (client_of y).names { requests = named t } })
    (c.push_line.ensures ∙ ap (λ (n : ℕ). grown y.life (Called (On ch (Request history.Read n)) (history.ToRead a.data_type a.count) ∷ []) logs) number)
    (subst (λ (z : history.Sent). GoesUp way.circuit z ks ks') (λ t. record { message = wanted t; intent = On ch (Request history.Read (number t)) }) c.push_sent.ensures.goes)))

pub returns-in-Err-clause-reads : goal.returns-in-Err-clause-reads
returns-in-Err-clause-reads c =
    let x : ClientSide = c.args.side.now in
    let y : ClientSide = c.prepare.new.side in
    let a : Shape = record { data_type = c.in-Some.asked_type; count = c.in-Some.asked_count } in
    let whole : Shape = record { data_type = c.args.data_type; count = c.args.count } in
    let same : a ≡ whole = λ t. record { data_type = c.in-Some.ensures.0 t; count = c.in-Some.ensures.1 t } in
    let r = c.in_ok-handle.ensures.ready in
    subst (λ (z : Shape). ReadsOn c.args.client c.args.channel z (client_of x) (lines_in c.args.logs.now.items) (map joined_of c.args.circuits.now.items) c.note.result (record (client_of y) { core = c.read.new.self }) (lines_in c.note.new.logs.items) (map joined_of c.prepare.new.circuits.items)) same
    (reads-moved c.args.client c.args.channel a (client_of x) (client_of y) _ (lines_in c.args.logs.now.items) (lines_in c.prepare.new.logs.items) _ (map joined_of c.args.circuits.now.items) (map joined_of c.prepare.new.circuits.items) _ _
    c.prepare.ensures.side c.prepare.ensures.logs c.prepare.ensures.circuits
    (reads-noted c.args.client c.args.channel a (client_of y) _ (lines_in c.prepare.new.logs.items) _ (map joined_of c.prepare.new.circuits.items) c.in_ok-handle.handle c.in-Err.refusal c.in-Err.ensures.0 c.read.new.self c.note.result
    r.named c.in-Err.ensures.1 refl c.note.ensures))
