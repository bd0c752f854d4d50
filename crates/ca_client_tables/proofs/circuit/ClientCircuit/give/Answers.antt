use Rattle.std.proofs.Common.{◌≡◌, ◌≢◌, ◌⊎◌, [], Err, None, Ok, Option, Result, Some, ap, refl, false, subst, sym, true}
use Rattle.std.specs.Prelude.{OnErr, OnOk, is_err}
use Rattle.ca_text.specs.declared.refusal.Refusal.TheVariants as refusal
use Rattle.ca_monitor.specs.ReadRun.{sent_by_read}
use Rattle.ca_model.specs.Client.{Connection}
use Rattle.ca_client_tables.specs.Ends.{GivesOn, read_given}
use Rattle.ca_client_tables.proofs.circuit.ClientCircuit.give.Goals as goal

-- what holds of an error
err_holds : {A E : Type 0} {P : Type 0} (r : Result A E) → true ≡ is_err r → OnErr r P → P
err_holds (Ok a) is p = absurd cc
err_holds (Err e) is p = p

-- what holds of a success
ok_holds : {A E : Type 0} {P : Type 0} (r : Result A E) → false ≡ is_err r → OnOk r P → P
ok_holds (Ok a) is p = p
ok_holds (Err e) is p = absurd cc

pub returns-then-is_err : goal.returns-then-is_err
returns-then-is_err c =
    let is = c.if-is_err.ensures.value in
    let same : c.give.new.self ≡ c.in-Some.connection = err_holds c.give.result is c.give.ensures.err in
    let why : (c.args.bytes.now ≢ []) ⊎ (sent_by_read c.args.more c.in-Some.connection.run ≢ None) = err_holds c.give.result is c.give.ensures.some in
    rw (← c.self.view_is)
    (Some c.give.new.self, subst (λ (o : Option Connection). GivesOn c.args.moment c.args.bytes.now c.args.more o (Err refusal.OutOfMemory) (Some c.give.new.self)) (sym c.in-Some.is) (why, ap Some same), refl)

pub returns : goal.returns
returns c =
    let same : c.give.new.self ≡ read_given c.args.moment c.args.bytes.now c.args.more c.in-Some.connection = ok_holds c.give.result c.if-is_err.ensures.value c.give.ensures.ok in
    rw (← c.self.view_is)
    (Some c.give.new.self, subst (λ (o : Option Connection). GivesOn c.args.moment c.args.bytes.now c.args.more o (Ok tt) (Some c.give.new.self)) (sym c.in-Some.is) (ap Some same), refl)
