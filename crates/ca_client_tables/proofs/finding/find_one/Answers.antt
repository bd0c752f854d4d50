use Rattle.std.proofs.Common.{◌≡◌, ◌∙◌, ℕ, Bool, List, [], Some, ap, false, rules, subst, sym, true}
use Rattle.ca_arena.specs.declared.handle.Handle.{Handle}
use Rattle.ca_ids.specs.Table.{with_all_held}
use Rattle.ca_requests.specs.Meaning.{message_of}
use Rattle.ca_model.specs.Client.{ClientCircuit}
use Rattle.ca_model.specs.Ends.{Address}
use Rattle.ca_model.specs.Hears.{found_at}
use Rattle.ca_client_tables.specs.Finding.{Halfway, WantsNew, circuit_in, opened}
use Rattle.ca_client_tables.proofs.Finds.{found-created, found-new, found-nothing, found-out, found-waiting, wants-opening}
use Rattle.ca_client_tables.proofs.finding.find_one.Goals as goal

pub returns-in_default : goal.returns-in_default
returns-in_default c =
    let old : Halfway = record { channels = c.args.channels.now; circuits = c.args.circuits.now; opening = c.args.opening.now.items; order = c.args.order.now.items } in
    record {
      finds = found-nothing old c.args.from (message_of c.args.reply.now []) (c.in_default.ensures);
      opening = c.requires;
    }

pub returns-then-not-connected : goal.returns-then-not-connected
returns-then-not-connected c =
    let old : Halfway = record { channels = c.args.channels.now; circuits = c.args.circuits.now; opening = c.args.opening.now.items; order = c.args.order.now.items } in
    let looks : (a : Address) (n : ℕ) → circuit_in a n (with_all_held c.deref.result.now old.circuits) ≡ circuit_in a n (opened old).circuits = λ a n. ap (λ (es : List (Handle × ClientCircuit)). circuit_in a n (with_all_held es old.circuits)) c.deref.ensures.value in
    let here = c.in-Some.found.now in
    let waits : c.in-Some-circuit_to.connected ≡ false = search rules in
    record {
      finds =
          found-waiting old c.args.from (message_of c.args.reply.now []) c.in-Some.channel here c.in-Some-circuit_to.circuit c.set_standing.new.channels
          (c.in-Some.ensures)
          (ap (λ (b : Bool). Some (c.in-Some-circuit_to.circuit, b)) (sym waits) ∙ c.in-Some-circuit_to.ensures ∙ looks c.found_at-address.result c.priority-priority.result
          ∙ ap (λ (a : Address). circuit_in a c.priority-priority.result (opened old).circuits) c.found_at-address.ensures
          ∙ ap (λ (n : ℕ). circuit_in (found_at c.args.from (message_of c.args.reply.now [])) n (opened old).circuits) c.priority-priority.ensures.is)
          c.set_standing.ensures;
      opening = c.requires;
    }

pub returns-in_err-create-in-Some-circuit_to : goal.returns-in_err-create-in-Some-circuit_to
returns-in_err-create-in-Some-circuit_to c =
    let old : Halfway = record { channels = c.args.channels.now; circuits = c.args.circuits.now; opening = c.args.opening.now.items; order = c.args.order.now.items } in
    let looks : (a : Address) (n : ℕ) → circuit_in a n (with_all_held c.deref.result.now old.circuits) ≡ circuit_in a n (opened old).circuits = λ a n. ap (λ (es : List (Handle × ClientCircuit)). circuit_in a n (with_all_held es old.circuits)) c.deref.ensures.value in
    let here = c.in-Some.found.now in
    let connected : c.in-Some-circuit_to.connected ≡ true = search rules in
    record {
      finds =
          found-out old c.args.from (message_of c.args.reply.now []) c.in-Some.channel here c.in-Some-circuit_to.circuit c.from_residual.result c.requires
          (c.in-Some.ensures)
          (ap (λ (b : Bool). Some (c.in-Some-circuit_to.circuit, b)) (sym connected) ∙ c.in-Some-circuit_to.ensures ∙ looks c.found_at-address.result c.priority-priority.result
          ∙ ap (λ (a : Address). circuit_in a c.priority-priority.result (opened old).circuits) c.found_at-address.ensures
          ∙ ap (λ (n : ℕ). circuit_in (found_at c.args.from (message_of c.args.reply.now [])) n (opened old).circuits) c.priority-priority.ensures.is)
          c.from_residual.ensures.0;
      opening = c.requires;
    }

pub returns-in-None : goal.returns-in-None
returns-in-None c =
    let old : Halfway = record { channels = c.args.channels.now; circuits = c.args.circuits.now; opening = c.args.opening.now.items; order = c.args.order.now.items } in
    let looks : (a : Address) (n : ℕ) → circuit_in a n (with_all_held c.deref.result.now old.circuits) ≡ circuit_in a n (opened old).circuits = λ a n. ap (λ (es : List (Handle × ClientCircuit)). circuit_in a n (with_all_held es old.circuits)) c.deref.ensures.value in
    let new : Halfway = record { channels = c.want_new.new.channels; circuits = c.args.circuits.now; opening = c.want_new.new.opening.items; order = c.want_new.new.order.items } in
    let m = (message_of c.args.reply.now []) in
    let a = found_at c.args.from m in
    let h = c.in-Some.channel in
    let here = c.in-Some.found.now in
    let did : WantsNew old a here.priority h c.want_new.result new =
    subst (λ (n : ℕ). WantsNew old a n h c.want_new.result new) c.priority-priority.ensures.is
    (subst (λ (b : Address). WantsNew old b c.priority-priority.result h c.want_new.result new) c.found_at-address.ensures c.want_new.ensures) in
    record {
      finds =
          found-new old new c.args.from m h here c.want_new.result
          (c.in-Some.ensures)
          (c.in-None.ensures ∙ looks c.found_at-address.result c.priority-priority.result
          ∙ ap (λ (b : Address). circuit_in b c.priority-priority.result (opened old).circuits) c.found_at-address.ensures
          ∙ ap (λ (n : ℕ). circuit_in a n (opened old).circuits) c.priority-priority.ensures.is)
          did;
      opening = wants-opening old new a here.priority h c.want_new.result c.requires did;
    }

pub returns-in_ok-create-in-Some-circuit_to : goal.returns-in_ok-create-in-Some-circuit_to
returns-in_ok-create-in-Some-circuit_to c =
    let old : Halfway = record { channels = c.args.channels.now; circuits = c.args.circuits.now; opening = c.args.opening.now.items; order = c.args.order.now.items } in
    let looks : (a : Address) (n : ℕ) → circuit_in a n (with_all_held c.deref.result.now old.circuits) ≡ circuit_in a n (opened old).circuits = λ a n. ap (λ (es : List (Handle × ClientCircuit)). circuit_in a n (with_all_held es old.circuits)) c.deref.ensures.value in
    let here = c.in-Some.found.now in
    let connected : c.in-Some-circuit_to.connected ≡ true = search rules in
    let both =
    found-created old c.args.from (message_of c.args.reply.now []) c.in-Some.channel here c.in-Some-circuit_to.circuit c.in_ok-create-in-Some-circuit_to.create c.create_on.result c.create_on.new.channels c.create_on.new.circuits c.requires
    (c.in-Some.ensures)
    (ap (λ (b : Bool). Some (c.in-Some-circuit_to.circuit, b)) (sym connected) ∙ c.in-Some-circuit_to.ensures ∙ looks c.found_at-address.result c.priority-priority.result
    ∙ ap (λ (a : Address). circuit_in a c.priority-priority.result (opened old).circuits) c.found_at-address.ensures
    ∙ ap (λ (n : ℕ). circuit_in (found_at c.args.from (message_of c.args.reply.now [])) n (opened old).circuits) c.priority-priority.ensures.is)
    c.in_ok-create-in-Some-circuit_to.ensures c.create_on.ensures in
    record { finds = both.0; opening = both.1 }
