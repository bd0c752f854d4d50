use Rattle.std.proofs.Common.{◌||◌, Bool, List, Option, Result, subst, sym}
use Rattle.std.specs.Prelude.{nat_lt}
use Rattle.ca_text.specs.declared.refusal.Refusal.{Refusal}
use Rattle.ca_arena.specs.declared.handle.Handle.{Handle}
use Rattle.ca_model.specs.Answers.{Sending}
use Rattle.ca_model.specs.ClientCalls.{ClientReadsDisplay, ReadsUnless, Shape}
use Rattle.ca_client_core.specs.Lives.{live_of}
use Rattle.ca_client_core.proofs.Faults.{same-error}
use Rattle.ca_client_core.proofs.Requesting.{may-unless, reads-not}
use Rattle.ca_client_core.proofs.client.ClientCore.read_display.Goals as goal

-- no type with display data
abbrev bad : Shape → Bool
bad a = nat_lt a.data_type 21 || nat_lt 34 a.data_type

pub returns-in_err-live : goal.returns-in_err-live
returns-in_err-live c =
    let x = c.args.self.now in
    let a : Shape = record { data_type = c.args.data_type; count = c.args.count } in
    let e = c.in_err-live.field-0.0 in
    subst (λ (r : Result Handle Refusal). (sent : List Sending) × ClientReadsDisplay x c.args.channel a r sent x) (sym (same-error c.from_residual.result e c.from_residual.ensures.1))
    (reads-not (bad a) x c.args.channel a e c.in_err-live.ensures)

pub returns : goal.returns
returns c =
    let x = c.args.self.now in
    let a : Shape = record { data_type = c.args.data_type; count = c.args.count } in
    subst (λ (f : Option Refusal). (sent : List Sending) × ReadsUnless f x c.args.channel a c.read_on.result sent c.read_on.new.self)
    (may-unless (bad a) x c.args.channel a (live_of c.in_ok-live.live) c.in_ok-live.ensures.0 c.in_ok-live.ensures.1)
    c.read_on.ensures
