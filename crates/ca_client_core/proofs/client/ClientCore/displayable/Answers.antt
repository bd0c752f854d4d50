use Rattle.std.proofs.Common.{ℕ, ◌||◌, ◌∙◌, Bool, ap, false, sym}
use Rattle.std.specs.Prelude.{nat_lt}
use Rattle.ca_text.specs.declared.refusal.Refusal.TheVariants as refusal
use Rattle.ca_model.specs.Client.{standing_at}
use Rattle.ca_model.specs.ClientCalls.{Shape}
use Rattle.ca_client_core.specs.Calls.{live_ask_fault}
use Rattle.ca_client_core.specs.Lives.{live_of}
use Rattle.ca_client_core.proofs.Faults.{and_then, fault-live, live-at}
use Rattle.ca_client_core.proofs.Requesting.{asks}
use Rattle.ca_client_core.proofs.client.ClientCore.displayable.Goals as goal

pub returns-in-Some : goal.returns-in-Some
returns-in-Some c =
    let x = c.args.self.now in
    let a : Shape = record { data_type = c.args.data_type; count = c.args.count } in
    let bad : Bool = nat_lt a.data_type 21 || nat_lt 34 a.data_type in
    let l = live_of c.in_ok-live.live in
    let s = standing_at x c.args.channel in
    fault-live (and_then (asks bad x a) false refusal.ArenaFull) s l (live-at s l (sym c.in_ok-live.ensures)) ∙ ap (λ (n : ℕ). live_ask_fault bad x false l.circuit l.native.count l.rights n) (sym c.from.ensures) ∙ sym c.ask_fault.ensures.fault ∙ c.in-Some.is
