use Rattle.std.proofs.Common.{◌∙◌, List, Result, ap, refl, subst, sym}
use Rattle.ca_text.specs.declared.refusal.Refusal.{Refusal}
use Rattle.ca_arena.specs.declared.handle.Handle.{Handle}
use Rattle.ca_ids.specs.Table.{MayGive, is_full}
use Rattle.ca_model.specs.Answers.{Sending}
use Rattle.ca_model.specs.Client.{Client}
use Rattle.ca_model.specs.ClientCalls.{ClientSubscribes, Shape, new_subscription}
use Rattle.ca_client_core.specs.Lives.{live_of}
use Rattle.ca_client_core.proofs.Adding.{subscribes-done, subscribes-full, subscribes-not, subscribes-out}
use Rattle.ca_client_core.proofs.Faults.{same-error}
use Rattle.ca_client_core.proofs.client.ClientCore.subscribe.Goals as goal

pub returns-in_err-live : goal.returns-in_err-live
returns-in_err-live c =
    let x = c.args.self.now in
    let a : Shape = record { data_type = c.args.data_type; count = c.args.count } in
    let e = c.in_err-live.field-0.0 in
    subst (λ (r : Result Handle Refusal). (sent : List Sending) × ClientSubscribes x c.args.channel a c.args.mask r sent x) (sym (same-error c.from_residual.result e c.from_residual.ensures.1))
    (subscribes-not x c.args.channel a c.args.mask e c.in_err-live.ensures)

pub returns-in_default : goal.returns-in_default
returns-in_default c =
    let x = c.args.self.now in
    let a : Shape = record { data_type = c.args.data_type; count = c.args.count } in
    subscribes-full x c.args.channel a c.args.mask (live_of c.in_ok-live.live) c.in_ok-live.ensures.0 c.in_ok-live.ensures.1
    (sym (ap (λ (y : Client). is_full y.subscriptions) c.self.view_is) ∙ c.in_default.ensures)

pub returns-in_default-add_message : goal.returns-in_default-add_message
returns-in_default-add_message c =
    let x = c.args.self.now in
    let a : Shape = record { data_type = c.args.data_type; count = c.args.count } in
    let s = c.in-Some.vacant in
    subscribes-out x c.args.channel a c.args.mask s x c.in_ok-live.ensures.1 (subst (λ (y : Client). MayGive y.subscriptions s) c.self.view_is c.in-Some.ensures) refl

pub returns-in-Ok-add : goal.returns-in-Ok-add
returns-in-Ok-add c =
    let x = c.args.self.now in
    let a : Shape = record { data_type = c.args.data_type; count = c.args.count } in
    let l = live_of c.in_ok-live.live in
    let s = c.in-Some.vacant in
    subscribes-done x c.args.channel a c.args.mask l s (new_subscription c.args.channel a c.args.mask) c.in-Ok.message c.add.new.self c.in_ok-live.ensures.0 c.in_ok-live.ensures.1 refl c.in-Ok.ensures c.in-Ok-add.ensures

pub returns : goal.returns
returns c =
    let x = c.args.self.now in
    let a : Shape = record { data_type = c.args.data_type; count = c.args.count } in
    let s = c.in-Some.vacant in
    subscribes-out x c.args.channel a c.args.mask s c.add.new.self c.in_ok-live.ensures.1 (subst (λ (y : Client). MayGive y.subscriptions s) c.self.view_is c.in-Some.ensures) c.in-Err.ensures
