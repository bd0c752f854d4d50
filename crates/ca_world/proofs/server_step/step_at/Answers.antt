use Rattle.std.proofs.Common.{◌≡◌, ℕ, ◌<◌, List, length, refl, sym, ap, subst, arith, ◌∙◌}
use Rattle.std.specs.Prelude.{map, slice_set}
use Rattle.ca_text.specs.Limits.{applied_limit}
use Rattle.ca_text.specs.Place.{At}
use Rattle.ca_text.proofs.Places.{At-map, At-one}
use Rattle.ca_model.specs.World as model
use Rattle.ca_world_data.specs.declared.joined.Joined.{Joined}
use Rattle.ca_world_data.specs.declared.server.ServerSide.{ServerSide}
use Rattle.ca_world_data.specs.Opening.{entries_in}
use Rattle.ca_world_data.specs.Reporting.{AreServed}
use Rattle.ca_world_data.specs.Seen.{joined_of, record_of, server_of}
use Rattle.ca_world_data.proofs.Indexes.{numbers-set}
use Rattle.ca_world_data.proofs.Worlds.{found}
use Rattle.ca_world.specs.StepParts.{HasRoomAhead, IsAheadOf}
use Rattle.ca_world.specs.declared.server_step.SteppingEnd.{SteppingEnd}
use Rattle.ca_world.proofs.Counted.{few-entries}
use Rattle.ca_world.proofs.Downward.{at-set}
use Rattle.ca_world.proofs.StepCloses.{lacks-kept, may-step, read-one, steps-whole}
use Rattle.ca_world.proofs.server_step.step_at.Goals as goal

pub returns-in_err-ahead : goal.returns-in_err-ahead
returns-in_err-ahead c =
    let y : ServerSide = c.args.side.now in
    let k : ℕ = c.args.circuit in
    let ks : List Joined = c.args.circuits.now.items in
    let z : ServerSide = record y { records = c.next_ahead.new.records } in
    let side : server_of z ≡ server_of y = ap (λ (rs : List model.RecordSide). record (server_of y) { records = rs }) c.next_ahead.ensures.same in
    let logs = entries_in c.args.logs.now.items in
    lacks-kept k y z (map joined_of ks) (map joined_of ks) logs logs c.from_residual.result c.from_residual.ensures.1 side refl refl refl

pub returns-in_err-reserve_step : goal.returns-in_err-reserve_step
returns-in_err-reserve_step c =
    let y : ServerSide = c.args.side.now in
    let k : ℕ = c.args.circuit in
    let ks : List Joined = c.args.circuits.now.items in
    let x : Joined = c.index_mut.result.now in
    let new : Joined = c.reserve_step.new.joined in
    let within : k < length ks = subst (λ (n : ℕ). k < n) c.args.circuits.now.ok.0 c.requires.within in
    let there : At ks k x = found ks k x x within c.index_mut.ensures.value in
    let joins : map joined_of (slice_set ks k new) ≡ map joined_of ks = numbers-set joined_of ks k x new there c.reserve_step.ensures.same in
    let z : ServerSide = record y { records = c.next_ahead.new.records } in
    let side : server_of z ≡ server_of y = ap (λ (rs : List model.RecordSide). record (server_of y) { records = rs }) c.next_ahead.ensures.same in
    let logs = entries_in c.args.logs.now.items in
    lacks-kept k y z (map joined_of ks) (map joined_of (slice_set ks k new)) logs logs c.from_residual-in_err-reserve_step.result c.from_residual-in_err-reserve_step.ensures.1 side refl joins refl

pub returns-in_err-spare : goal.returns-in_err-spare
returns-in_err-spare c =
    let y : ServerSide = c.args.side.now in
    let k : ℕ = c.args.circuit in
    let ks : List Joined = c.args.circuits.now.items in
    let x : Joined = c.index_mut.result.now in
    let new : Joined = c.reserve_step.new.joined in
    let within : k < length ks = subst (λ (n : ℕ). k < n) c.args.circuits.now.ok.0 c.requires.within in
    let there : At ks k x = found ks k x x within c.index_mut.ensures.value in
    let joins : map joined_of (slice_set ks k new) ≡ map joined_of ks = numbers-set joined_of ks k x new there c.reserve_step.ensures.same in
    let z : ServerSide = record y { records = c.next_ahead.new.records } in
    let side : server_of z ≡ server_of y = ap (λ (rs : List model.RecordSide). record (server_of y) { records = rs }) c.next_ahead.ensures.same in
    let logs = entries_in c.args.logs.now.items in
    lacks-kept k y z (map joined_of ks) (map joined_of (slice_set ks k new)) logs logs c.from_residual-in_err-spare.result c.from_residual-in_err-spare.ensures.1 side refl joins refl

pub returns-in_err-check_write : goal.returns-in_err-check_write
returns-in_err-check_write c =
    let y : ServerSide = c.args.side.now in
    let k : ℕ = c.args.circuit in
    let ks : List Joined = c.args.circuits.now.items in
    let x : Joined = c.index_mut.result.now in
    let new : Joined = c.reserve_step.new.joined in
    let within : k < length ks = subst (λ (n : ℕ). k < n) c.args.circuits.now.ok.0 c.requires.within in
    let there : At ks k x = found ks k x x within c.index_mut.ensures.value in
    let joins : map joined_of (slice_set ks k new) ≡ map joined_of ks = numbers-set joined_of ks k x new there c.reserve_step.ensures.same in
    let z : ServerSide = record y { records = c.next_ahead.new.records } in
    let side : server_of z ≡ server_of y = ap (λ (rs : List model.RecordSide). record (server_of y) { records = rs }) c.next_ahead.ensures.same in
    let logs = entries_in c.args.logs.now.items in
    lacks-kept k y z (map joined_of ks) (map joined_of (slice_set ks k new)) logs logs c.from_residual-in_err-check_write.result c.from_residual-in_err-check_write.ensures.1 side refl joins refl

pub returns-in_err-reserve_reports : goal.returns-in_err-reserve_reports
returns-in_err-reserve_reports c =
    let y : ServerSide = c.args.side.now in
    let k : ℕ = c.args.circuit in
    let ks : List Joined = c.args.circuits.now.items in
    let x : Joined = c.index_mut.result.now in
    let new : Joined = c.reserve_step.new.joined in
    let within : k < length ks = subst (λ (n : ℕ). k < n) c.args.circuits.now.ok.0 c.requires.within in
    let there : At ks k x = found ks k x x within c.index_mut.ensures.value in
    let joins : map joined_of (slice_set ks k new) ≡ map joined_of ks = numbers-set joined_of ks k x new there c.reserve_step.ensures.same in
    let z : ServerSide = record y { records = c.next_ahead.new.records } in
    let side : server_of z ≡ server_of y = ap (λ (rs : List model.RecordSide). record (server_of y) { records = rs }) c.next_ahead.ensures.same in
    let logs = entries_in c.args.logs.now.items in
    lacks-kept k y z (map joined_of ks) (map joined_of (slice_set ks k new)) logs (entries_in c.reserve_reports.new.logs.items) c.from_residual-in_err-reserve_reports.result c.from_residual-in_err-reserve_reports.ensures.1 side refl joins c.reserve_reports.ensures.same

pub step_end-requires-clause-may : goal.step_end-requires-clause-may
step_end-requires-clause-may c =
    let y : ServerSide = c.args.side.now in
    let k : ℕ = c.args.circuit in
    let ks : List Joined = c.args.circuits.now.items in
    let x : Joined = c.index_mut.result.now in
    let new : Joined = c.reserve_step.new.joined in
    let within : k < length ks = subst (λ (n : ℕ). k < n) c.args.circuits.now.ok.0 c.requires.within in
    let there : At ks k x = found ks k x x within c.index_mut.ensures.value in
    let joins : map joined_of (slice_set ks k new) ≡ map joined_of ks = numbers-set joined_of ks k x new there c.reserve_step.ensures.same in
    let before : c.index.result.now ≡ x = At-one ks k c.index.result.now x (found ks k c.index.result.now c.index.result.now within c.index.ensures) there in
    let first : joined_of c.index.result.now ≡ joined_of new = ap joined_of before ∙ sym c.reserve_step.ensures.same in
    let second : c.index-2.result.now ≡ new = read-one ks k x new c.index-2.result.now _ there c.index-2.ensures in
    let known = subst (λ (j : model.Joined). IsAheadOf y.core j (map record_of y.records.items) c.in_ok-ahead.ahead) first c.in_ok-ahead.ensures.known in
    let counted = (few-entries (server_of y) c.args.logs.now.items c.requires.counted).1 in
    let few : c.applied.result < applied_limit = omega (arith, c.applied.ensures, counted) in
    let turn : SteppingEnd = record { alloc = c.args.alloc; circuit = k; server = c.args.server; at = c.index-2.result.now.at_server; waited = length c.out_bytes.result.now; applied = c.applied.result } in
    may-step turn y.core (map joined_of ks) (map joined_of (slice_set ks k new)) (map record_of y.records.items) (map record_of c.next_ahead.new.records.items) (joined_of new) c.in_ok-ahead.ahead
    joins c.next_ahead.ensures.same (At-map joined_of (slice_set ks k new) k new (at-set ks k x new there)) c.requires.may known (ap (λ (j : Joined). j.at_server) second) (ap length c.out_bytes.ensures) c.applied.ensures few

pub step_end-requires-clause-served : goal.step_end-requires-clause-served
step_end-requires-clause-served c =
    let y : ServerSide = c.args.side.now in
    let k : ℕ = c.args.circuit in
    let ks : List Joined = c.args.circuits.now.items in
    let x : Joined = c.index_mut.result.now in
    let new : Joined = c.reserve_step.new.joined in
    let within : k < length ks = subst (λ (n : ℕ). k < n) c.args.circuits.now.ok.0 c.requires.within in
    let there : At ks k x = found ks k x x within c.index_mut.ensures.value in
    let joins : map joined_of (slice_set ks k new) ≡ map joined_of ks = numbers-set joined_of ks k x new there c.reserve_step.ensures.same in
    subst (λ (js : List model.Joined). AreServed y.circuits.items js c.args.server) (sym joins) c.requires.served

pub step_end-requires-clause-notes : goal.step_end-requires-clause-notes
step_end-requires-clause-notes c = λ j at.
    let k : ℕ = c.args.circuit in
    let ks : List Joined = c.args.circuits.now.items in
    let x : Joined = c.index_mut.result.now in
    let new : Joined = c.reserve_step.new.joined in
    let within : k < length ks = subst (λ (n : ℕ). k < n) c.args.circuits.now.ok.0 c.requires.within in
    let there : At ks k x = found ks k x x within c.index_mut.ensures.value in
    subst (λ (z : Joined). HasRoomAhead c.in_ok-ahead.ahead.command z) (At-one (slice_set ks k new) k new j (at-set ks k x new there) at) c.in_ok-reserve_step.ensures.room

pub step_end-requires-clause-spare : goal.step_end-requires-clause-spare
step_end-requires-clause-spare c = record { spare = c.in_ok-spare.ensures.spare; many = c.in_ok-spare.ensures.many }

pub returns : goal.returns
returns c =
    let y : ServerSide = c.args.side.now in
    let k : ℕ = c.args.circuit in
    let ks : List Joined = c.args.circuits.now.items in
    let x : Joined = c.index_mut.result.now in
    let new : Joined = c.reserve_step.new.joined in
    let within : k < length ks = subst (λ (n : ℕ). k < n) c.args.circuits.now.ok.0 c.requires.within in
    let there : At ks k x = found ks k x x within c.index_mut.ensures.value in
    let joins : map joined_of (slice_set ks k new) ≡ map joined_of ks = numbers-set joined_of ks k x new there c.reserve_step.ensures.same in
    let z : ServerSide = record y { records = c.next_ahead.new.records } in
    let side : server_of z ≡ server_of y = ap (λ (rs : List model.RecordSide). record (server_of y) { records = rs }) c.next_ahead.ensures.same in (
      c.step_end.ensures.numbers,
      steps-whole k (server_of y) (server_of z) (map joined_of ks) (map joined_of (slice_set ks k new)) (entries_in c.args.logs.now.items) (entries_in c.reserve_reports.new.logs.items)
          (server_of c.step_end.new.side) (map joined_of c.step_end.new.circuits.items) (entries_in c.step_end.new.logs.items) side joins c.reserve_reports.ensures.same c.step_end.ensures.steps,
    )
