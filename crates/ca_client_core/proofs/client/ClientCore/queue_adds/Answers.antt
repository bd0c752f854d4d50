use Rattle.std.proofs.Common.{◌∙◌, ◌∷◌, List, [], Result, Ok, Err, ap, arith, length, refl, take, take_all}
use Rattle.std.specs.Prelude.{OnErr}
use Rattle.ca_arena.specs.declared.handle.Handle.{Handle}
use Rattle.ca_monitor.specs.Subscriptions.{Subscription}
use Rattle.ca_wire.specs.Fields.{Fields}
use Rattle.ca_model.specs.Client.{out_bytes}
use Rattle.ca_client_core.specs.Again.{add_message, add_messages}
use Rattle.ca_client_tables.specs.Ends.{with_messages, cut_back, with_message}
use Rattle.ca_client_core.proofs.Queued.{adds-more}
use Rattle.ca_client_tables.proofs.Queued.{cut-messages, messages-twice}
use Rattle.ca_client_core.proofs.client.ClientCore.queue_adds.Goals as goal

on_err : {A E : Type 0} {P : Type 0} (r : Result A E) → P → OnErr r P
on_err (Ok a) p = tt
on_err (Err e) p = p

pub returns-in_err-queue_add-clause-err : goal.returns-in_err-queue_add-clause-err
returns-in_err-queue_add-clause-err c =
    let x = c.args.self.now in
    let h = c.args.circuit in
    let n = length (out_bytes x h) in
    on_err c.from_residual.result
    (ap (cut_back h n) (c.in_err-queue_add.ensures.err ∙ c.loop-index.invariant)
    ∙ cut-messages x h (add_messages c.args.sid (take c.loop-index.index c.args.standing.now)) n refl)

pub loop-index-preserved : goal.loop-index-preserved
loop-index-preserved c =
    let x = c.args.self.now in
    let h = c.args.circuit in
    let i = c.loop-index.index in
    let es = c.args.standing.now in
    let e : Handle × Subscription = c.index-standing-index.result in
    let before : List Fields = add_messages c.args.sid (take i es) in
    c.in_ok-queue_add.ensures.ok
    ∙ ap (with_message h (add_message c.args.sid e)) c.loop-index.invariant
    ∙ messages-twice x h before (add_message c.args.sid e ∷ [])
    ∙ ap (λ (ms : List Fields). with_messages h ms x) (adds-more c.args.sid es i e c.loop-index-test.true c.index-standing-index.is)

pub returns-clause-ok : goal.returns-clause-ok
returns-clause-ok c =
    c.loop-index.invariant
    ∙ ap (λ (es : List (Handle × Subscription)). with_messages c.args.circuit (add_messages c.args.sid es) c.args.self.now)
    (take_all c.loop-index.index c.args.standing.now (omega arith))
