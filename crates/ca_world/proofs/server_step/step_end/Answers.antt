use Rattle.std.proofs.Common.{ℕ, ◌<◌, Bool, false, true, List, [], Option, length, sym, ap, subst, ◌∙◌}
use Rattle.std.specs.Prelude.{map, slice_set}
use Rattle.ca_arena.specs.declared.handle.Handle.{Handle}
use Rattle.ca_text.specs.Place.{At}
use Rattle.ca_text.proofs.Places.{At-map}
use Rattle.ca_model.specs.History.{Entry}
use Rattle.ca_model.specs.Server.{Server}
use Rattle.ca_model.specs.ServerEvents.{numbers_after}
use Rattle.ca_model.specs.ServerSteps as steps
use Rattle.ca_model.specs.World as model
use Rattle.ca_server_circuit.specs.Stepping.{why_is}
use Rattle.ca_world.specs.ServerStepping.{with_lists}
use Rattle.ca_world.specs.StepParts.{ClosesWith}
use Rattle.ca_world_data.specs.declared.joined.Joined.{Joined}
use Rattle.ca_world_data.specs.declared.server.ServerSide.{ServerSide}
use Rattle.ca_world_data.specs.Numbering.{AllAlike}
use Rattle.ca_world_data.specs.Opening.{entries_in}
use Rattle.ca_world_data.specs.Reporting.{AreServed}
use Rattle.ca_world_data.specs.Seen.{joined_of, record_of, server_of, step_of}
use Rattle.ca_world_data.proofs.Worlds.{found, one-at, set-map}
use Rattle.ca_world_servers.specs.Effects.{TellsWrite}
use Rattle.ca_world.proofs.StepCloses.{place-of}
use Rattle.ca_world.proofs.StepClosed.{closed-alike, closed-at, handled-here, open-steps, rests-at}
use Rattle.ca_world.proofs.StepFacts.{alike-after, counts-set, handled-same, keeps-noted, served-set}
use Rattle.ca_world.proofs.StepHandled.{step-handled}
use Rattle.ca_world.proofs.StepNotes.{served-told, stays-write}
use Rattle.ca_world.proofs.server_step.step_end.Goals as goal

pub prepare-prepared-requires : goal.prepare-prepared-requires
prepare-prepared-requires c =
    let t = c.args.turn.now in
    let k : ℕ = t.circuit in
    let items : List Joined = c.args.circuits.now.items in
    let x : Joined = c.index_mut.result.now in
    let ks : List model.Joined = map joined_of items in
    let rs : List model.RecordSide = map record_of c.args.side.now.records.items in
    let before : Server = c.args.side.now.core in
    let core : Server = c.step.new.self in
    let within : k < length items = subst (λ (n : ℕ). k < n) c.args.circuits.now.ok.0 c.requires.within in
    let at : At items k x = found items k x x within c.index_mut.ensures.value in
    let there : At ks k (joined_of x) = At-map joined_of items k x at in
    let m = c.requires.may (joined_of x) there in
    let d = handled-here t before core (joined_of x) ks rs c.args.ahead c.in-Handled.effect m c.in-Handled.ensures.tells in
    record { was = (before, ks, rs, c.args.ahead, m, d, c.requires.notes x at, c.requires.spare) }

pub note-requires-clause-alike : goal.note-requires-clause-alike
note-requires-clause-alike c = λ busies wrote.
    let t = c.args.turn.now in
    let k : ℕ = t.circuit in
    let items : List Joined = c.args.circuits.now.items in
    let x : Joined = c.index_mut.result.now in
    let ks : List model.Joined = map joined_of items in
    let rs : List model.RecordSide = map record_of c.args.side.now.records.items in
    let before : Server = c.args.side.now.core in
    let core : Server = c.step.new.self in
    let within : k < length items = subst (λ (n : ℕ). k < n) c.args.circuits.now.ok.0 c.requires.within in
    let at : At items k x = found items k x x within c.index_mut.ensures.value in
    let there : At ks k (joined_of x) = At-map joined_of items k x at in
    let m = c.requires.may (joined_of x) there in
    let d = handled-here t before core (joined_of x) ks rs c.args.ahead c.in-Handled.effect m c.in-Handled.ensures.tells in
    let new : Joined = c.prepare-prepared.new.joined in
    let p = c.prepare-prepared.ensures.prepared before ks rs c.args.ahead m d c.requires.spare in
    subst (AllAlike t.server core) (sym (set-map joined_of items k new ∙ ap (slice_set ks k) p.circuit))
    (alike-after before core (joined_of x) ks rs c.args.ahead t c.in-Handled.effect m d busies wrote k _ there)

pub note-requires-clause-counts : goal.note-requires-clause-counts
note-requires-clause-counts c = λ busies value wrote is.
    let t = c.args.turn.now in
    let k : ℕ = t.circuit in
    let items : List Joined = c.args.circuits.now.items in
    let x : Joined = c.index_mut.result.now in
    let ks : List model.Joined = map joined_of items in
    let rs : List model.RecordSide = map record_of c.args.side.now.records.items in
    let before : Server = c.args.side.now.core in
    let core : Server = c.step.new.self in
    let within : k < length items = subst (λ (n : ℕ). k < n) c.args.circuits.now.ok.0 c.requires.within in
    let at : At items k x = found items k x x within c.index_mut.ensures.value in
    let there : At ks k (joined_of x) = At-map joined_of items k x at in
    let m = c.requires.may (joined_of x) there in
    let d = handled-here t before core (joined_of x) ks rs c.args.ahead c.in-Handled.effect m c.in-Handled.ensures.tells in
    let new : Joined = c.prepare-prepared.new.joined in
    let p = c.prepare-prepared.ensures.prepared before ks rs c.args.ahead m d c.requires.spare in
    counts-set items k x new at (ap (λ (z : model.Joined). z.standing) (p.circuit ∙ ap (with_lists [] []) (handled-same before core (joined_of x) ks rs c.args.ahead t c.in-Handled.effect m d busies wrote _))) (c.requires.counts value is)

pub note-requires-clause-apart : goal.note-requires-clause-apart
note-requires-clause-apart c =
    let t = c.args.turn.now in
    let k : ℕ = t.circuit in
    let items : List Joined = c.args.circuits.now.items in
    let x : Joined = c.index_mut.result.now in
    let ks : List model.Joined = map joined_of items in
    let within : k < length items = subst (λ (n : ℕ). k < n) c.args.circuits.now.ok.0 c.requires.within in
    let at : At items k x = found items k x x within c.index_mut.ensures.value in
    let there : At ks k (joined_of x) = At-map joined_of items k x at in
    let m = c.requires.may (joined_of x) there in
    m.apart

pub note-requires-clause-parted : goal.note-requires-clause-parted
note-requires-clause-parted c =
    let t = c.args.turn.now in
    let k : ℕ = t.circuit in
    let items : List Joined = c.args.circuits.now.items in
    let x : Joined = c.index_mut.result.now in
    let ks : List model.Joined = map joined_of items in
    let rs : List model.RecordSide = map record_of c.args.side.now.records.items in
    let before : Server = c.args.side.now.core in
    let core : Server = c.step.new.self in
    let within : k < length items = subst (λ (n : ℕ). k < n) c.args.circuits.now.ok.0 c.requires.within in
    let at : At items k x = found items k x x within c.index_mut.ensures.value in
    let there : At ks k (joined_of x) = At-map joined_of items k x at in
    let m = c.requires.may (joined_of x) there in
    let d = handled-here t before core (joined_of x) ks rs c.args.ahead c.in-Handled.effect m c.in-Handled.ensures.tells in
    let ahead = m.ahead d.next in
    ahead.parted

pub note-requires-clause-served : goal.note-requires-clause-served
note-requires-clause-served c =
    let t = c.args.turn.now in
    let k : ℕ = t.circuit in
    let items : List Joined = c.args.circuits.now.items in
    let x : Joined = c.index_mut.result.now in
    let ks : List model.Joined = map joined_of items in
    let rs : List model.RecordSide = map record_of c.args.side.now.records.items in
    let before : Server = c.args.side.now.core in
    let core : Server = c.step.new.self in
    let within : k < length items = subst (λ (n : ℕ). k < n) c.args.circuits.now.ok.0 c.requires.within in
    let at : At items k x = found items k x x within c.index_mut.ensures.value in
    let there : At ks k (joined_of x) = At-map joined_of items k x at in
    let m = c.requires.may (joined_of x) there in
    let d = handled-here t before core (joined_of x) ks rs c.args.ahead c.in-Handled.effect m c.in-Handled.ensures.tells in
    let new : Joined = c.prepare-prepared.new.joined in
    let p = c.prepare-prepared.ensures.prepared before ks rs c.args.ahead m d c.requires.spare in
    let place : ℕ = length (map step_of x.lists.handled.items) in
    let own : List ℕ = c.args.side.now.circuits.items in
    subst (λ (cs : List model.Joined). AreServed own cs t.server) (sym (set-map joined_of items k new ∙ ap (slice_set ks k) p.circuit))
    (served-set own ks t.server k (joined_of x) (with_lists [] [] (numbers_after place d.next.action (joined_of x))) there (keeps-noted place d.next.action (joined_of x)) c.requires.served)

pub tell_write-requires-clause-alike : goal.tell_write-requires-clause-alike
tell_write-requires-clause-alike c = λ busies is.
    let items : List Joined = c.args.circuits.now.items in
    let t = c.args.turn.now in
    let within : t.circuit < length items = subst (λ (n : ℕ). t.circuit < n) c.args.circuits.now.ok.0 c.requires.within in
    let one = one-at items t.circuit within in
    let j : model.Joined = joined_of one.0 in
    let core : Server = c.args.side.now.core in
    let m = c.requires.may j (At-map joined_of items t.circuit one.0 one.1) in
    let did =
    open-steps core j.at_server m.e (steps.Closed (why_is c.in-Closed.field-0) c.in-Closed.left) c.step.new.self m.has
    (subst (λ (h : Handle). steps.Steps core h (steps.Closed (why_is c.in-Closed.field-0) c.in-Closed.left) c.step.new.self) m.turn.here c.in-Closed.ensures.steps) in
    closed-alike core c.step.new.self j (map joined_of items) (map record_of c.args.side.now.records.items) c.args.ahead t m c.in-Closed.left (why_is c.in-Closed.field-0) did busies (sym c.wrote_of-wrote.ensures ∙ is)

pub tell_write-requires-clause-counts : goal.tell_write-requires-clause-counts
tell_write-requires-clause-counts c = λ busies w wrote is. c.requires.counts w is

pub report_ends_with-requires-clause-served : goal.report_ends_with-requires-clause-served
report_ends_with-requires-clause-served c =
    let t = c.args.turn.now in
    let y : ServerSide = record c.args.side.now { core = c.step.new.self } in
    let ks : List model.Joined = map joined_of c.args.circuits.now.items in
    let ks' : List model.Joined = map joined_of c.tell_write.new.circuits.items in
    let s =
    stays-write t.server (record { circuit = t.circuit; place = c.len-place.result }) y c.tell_write.new.side ks ks' (entries_in c.args.logs.now.items) (entries_in c.tell_write.new.logs.items) c.wrote_of-wrote.result c.args.ahead.write c.tell_write.ensures.tells in
    served-told y c.tell_write.new.side ks ks' t.server s c.requires.served

pub returns-in-Handled-clause-steps : goal.returns-in-Handled-clause-steps
returns-in-Handled-clause-steps c = λ j here.
    let t = c.args.turn.now in
    let k : ℕ = t.circuit in
    let items : List Joined = c.args.circuits.now.items in
    let x : Joined = c.index_mut.result.now in
    let ks : List model.Joined = map joined_of items in
    let rs : List model.RecordSide = map record_of c.args.side.now.records.items in
    let before : Server = c.args.side.now.core in
    let core : Server = c.step.new.self in
    let within : k < length items = subst (λ (n : ℕ). k < n) c.args.circuits.now.ok.0 c.requires.within in
    let at : At items k x = found items k x x within c.index_mut.ensures.value in
    let there : At ks k (joined_of x) = At-map joined_of items k x at in
    let m = c.requires.may j here in
    let y : ServerSide = record c.args.side.now { core = c.step.new.self } in
    let new : Joined = c.prepare-prepared.new.joined in
    step-handled t (joined_of x) before y c.note.new.side ks (map joined_of (slice_set items k new)) (map joined_of c.note.new.circuits.items) (entries_in c.args.logs.now.items) (entries_in c.note.new.logs.items) c.args.ahead c.in-Handled.effect c.prepare-prepared.result (joined_of new)
    there (λ may did. c.prepare-prepared.ensures.prepared before ks rs c.args.ahead may did c.requires.spare) c.prepare-prepared.ensures.aside (set-map joined_of items k new) c.note.ensures.notes
    j here m (handled-here t before core j ks rs c.args.ahead c.in-Handled.effect m c.in-Handled.ensures.tells)

pub returns-in-Closed-clause-steps : goal.returns-in-Closed-clause-steps
returns-in-Closed-clause-steps c = λ j here.
    let t = c.args.turn.now in
    let k : ℕ = t.circuit in
    let items : List Joined = c.args.circuits.now.items in
    let x : Joined = c.index.result.now in
    let ks : List model.Joined = map joined_of items in
    let logs : List (List Entry) = entries_in c.args.logs.now.items in
    let core : Server = c.args.side.now.core in
    let within : k < length items = subst (λ (n : ℕ). k < n) c.args.circuits.now.ok.0 c.requires.within in
    let there : At items k x = found items k x _ within c.index.ensures in
    let m = c.requires.may j here in
    let did =
    open-steps core j.at_server m.e (steps.Closed (why_is c.in-Closed.field-0) c.in-Closed.left) c.step.new.self m.has
    (subst (λ (h : Handle). steps.Steps core h (steps.Closed (why_is c.in-Closed.field-0) c.in-Closed.left) c.step.new.self) m.turn.here c.in-Closed.ensures.steps) in
    let y : ServerSide = record c.args.side.now { core = c.step.new.self } in
    let wrote : Option Bool = c.wrote_of-wrote.result in
    let mid : ServerSide = c.tell_write.new.side in
    let over : List model.Joined = map joined_of c.tell_write.new.circuits.items in
    let told : List (List Entry) = entries_in c.tell_write.new.logs.items in
    let y' : ServerSide = c.report_ends_with.new.side in
    let ks' : List model.Joined = map joined_of c.report_ends_with.new.circuits.items in
    let logs' : List (List Entry) = entries_in c.report_ends_with.new.logs.items in
    let closes : ClosesWith k t.server t.at (length j.lists.handled) wrote c.args.ahead.write c.in-Closed.left y ks logs y' ks' logs' =
    record {
      mid = mid;
      circuits = over;
      told = told;
      done =
          subst (λ (n : ℕ). TellsWrite t.server (record { circuit = k; place = n }) wrote c.args.ahead.write y ks logs mid over told) (c.len-place.ensures ∙ place-of items k x j there here)
          c.tell_write.ensures.tells;
      reports = c.report_ends_with.ensures;
    } in
    closed-at t core j y ks here c.args.ahead m wrote c.in-Closed.left logs y' ks' logs' closes (why_is c.in-Closed.field-0) did c.wrote_of-wrote.ensures

pub returns-in-Closed-clause-numbers : goal.returns-in-Closed-clause-numbers
returns-in-Closed-clause-numbers c =
    let t = c.args.turn.now in
    let y : ServerSide = record c.args.side.now { core = c.step.new.self } in
    let ks : List model.Joined = map joined_of c.args.circuits.now.items in
    let ks' : List model.Joined = map joined_of c.tell_write.new.circuits.items in
    let s =
    stays-write t.server (record { circuit = t.circuit; place = c.len-place.result }) y c.tell_write.new.side ks ks' (entries_in c.args.logs.now.items) (entries_in c.tell_write.new.logs.items) c.wrote_of-wrote.result c.args.ahead.write c.tell_write.ensures.tells in
    c.report_ends_with.ensures.numbers ∙ s.numbers

pub returns-in-NeedBytes-clause-steps : goal.returns-in-NeedBytes-clause-steps
returns-in-NeedBytes-clause-steps c = λ j here.
    let core : Server = c.args.side.now.core in
    let m = c.requires.may j here in
    let did = open-steps core j.at_server m.e steps.NeedBytes c.step.new.self m.has (subst (λ (h : Handle). steps.Steps core h steps.NeedBytes c.step.new.self) m.turn.here c.in-NeedBytes.ensures.steps) in
    let y : ServerSide = record c.args.side.now { core = c.step.new.self } in
    rests-at c.args.turn.now.circuit core j (server_of y) (map joined_of c.args.circuits.now.items) (entries_in c.args.logs.now.items) m.e m.has false did

pub returns-in-OutputFull-clause-steps : goal.returns-in-OutputFull-clause-steps
returns-in-OutputFull-clause-steps c = λ j here.
    let core : Server = c.args.side.now.core in
    let m = c.requires.may j here in
    let did = open-steps core j.at_server m.e steps.OutputFull c.step.new.self m.has (subst (λ (h : Handle). steps.Steps core h steps.OutputFull c.step.new.self) m.turn.here c.in-OutputFull.ensures.steps) in
    let y : ServerSide = record c.args.side.now { core = c.step.new.self } in
    rests-at c.args.turn.now.circuit core j (server_of y) (map joined_of c.args.circuits.now.items) (entries_in c.args.logs.now.items) m.e m.has true did
