use Rattle.std.proofs.Common.{◌≡◌, ◌∙◌, ℕ, ap, subst, sym}
use Rattle.ca_ids.specs.Table.{MayGive, is_full}
use Rattle.ca_wire.specs.declared.requests.Wanted.{Wanted}
use Rattle.ca_wire.specs.Messages.{read_request}
use Rattle.ca_model.specs.Client.{Client}
use Rattle.ca_model.specs.ClientCalls.{Shape, read_sent}
use Rattle.ca_client_core.specs.Lives.{live_of}
use Rattle.ca_client_core.proofs.Requesting.{reads-done, reads-full, reads-out}
use Rattle.ca_model.proofs.Changes.{live-there}
use Rattle.ca_client_core.proofs.client.ClientCore.read_on.Goals as goal

pub returns-in_default : goal.returns-in_default
returns-in_default c =
    let x = c.args.self.now in
    let a : Shape = record { data_type = c.args.data_type; count = c.args.count } in
    reads-full x c.args.channel a (sym (ap (λ (y : Client). is_full y.requests) c.self.view_is) ∙ c.in_default.ensures)

pub returns-in-Ok : goal.returns-in-Ok
returns-in-Ok c =
    let x = c.args.self.now in
    let a : Shape = record { data_type = c.args.data_type; count = c.args.count } in
    let l = live_of c.args.live in
    let q = c.in-Some.request in
    let says : c.read_request-message.result ≡ (read_sent c.args.channel l a q).message =
    c.read_request-message.ensures
    ∙ ap (λ (i : ℕ). let w : Wanted = record { sid = i; id = c.new-2.result; data_type = c.args.data_type; count = c.args.count } in read_request w) c.new.ensures
    ∙ ap (λ (i : ℕ). let w : Wanted = record { sid = l.native.sid; id = i; data_type = c.args.data_type; count = c.args.count } in read_request w) (c.new-2.ensures ∙ c.number.ensures ∙ c.of.ensures) in
    reads-done x c.args.channel a l q c.read_request-message.result c.ask.new.self c.requires says c.in-Ok.ensures

pub returns : goal.returns
returns c =
    let x = c.args.self.now in
    let a : Shape = record { data_type = c.args.data_type; count = c.args.count } in
    let q = c.in-Some.request in
    reads-out x c.args.channel a q c.ask.new.self (subst (λ (y : Client). MayGive y.requests q) c.self.view_is c.in-Some.ensures) c.in-Err.ensures

pub ask-requires : goal.ask-requires
ask-requires c = live-there c.args.self.now c.args.channel (live_of c.args.live) c.requires
