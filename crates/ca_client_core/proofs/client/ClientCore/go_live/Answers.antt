use Rattle.std.proofs.Common.{◌≢◌, ◌∙◌, [], ap, inl, inr, length}
use Rattle.ca_monitor.specs.Subscriptions.{standing_to}
use Rattle.ca_model.specs.Client.{Live, On, with_standing}
use Rattle.ca_client_core.specs.Again.{add_messages, living}
use Rattle.ca_client_tables.specs.Ends.{cut_back}
use Rattle.ca_client_tables.specs.Forms.{native_of}
use Rattle.ca_client_tables.proofs.Queued.{cut-messages}
use Rattle.ca_client_core.proofs.Queued.{lived}
use Rattle.ca_client_core.proofs.client.ClientCore.go_live.Goals as goal

pub returns-in-Ok : goal.returns-in-Ok
returns-in-Ok c =
    let x = c.args.self.now in
    let n = native_of c.args.native in (
      c.one.ensures,
      c.in-Ok.ensures.ok
          ∙ ap (with_standing (On c.args.circuit (Live n c.args.rights)) c.args.channel) c.in_ok-subscribe_again.ensures.ok
          ∙ lived c.args.circuit n c.args.rights c.args.channel x,
    )

pub returns-in-Err : goal.returns-in-Err
returns-in-Err c =
    let x = c.args.self.now in
    let h = c.args.circuit in
    let n = length c.out_bytes-waiting.result.now in
    let tells : (living h (native_of c.args.native) c.args.rights c.args.channel x).notices ≢ [] = λ none. absurd cc in (
      inr (inl tells),
      c.cut_back.ensures
          ∙ ap (cut_back h n) (c.in-Err.ensures.err ∙ c.in_ok-subscribe_again.ensures.ok)
          ∙ cut-messages x h (add_messages c.args.native.sid (standing_to c.args.channel x.subscriptions)) n (ap length c.out_bytes-waiting.ensures),
    )
