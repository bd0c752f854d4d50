use Rattle.std.proofs.Common.{◌≡◌, ◌∙◌, ◌+◌, ℕ, ◌<◌, inl, inr, Bool, true, false, not, List, Option, Some, length, map, refl, sym, ap, subst, arith}
use Rattle.std.specs.Prelude.{Vec, is_some, option_map}
use Rattle.std.specs.Vec.{with_items}
use Rattle.std.specs.declared.alloc.Global.{Global}
use Rattle.std.proofs.lemmas.List.{with_items_is}
use Rattle.ca_dbr.specs.Elements.{Elements}
use Rattle.ca_records.specs.declared.puts.Put.{Put}
use Rattle.ca_model.specs.History as history
use Rattle.ca_model.specs.ServerEvents.{first_of, next_busy, with_record}
use Rattle.ca_model.specs.World as model
use Rattle.ca_world.specs.Finishing.{Finished, HasNext, IsBeside, IsBusy, IsBusyOn, IsNext, TellsFinish, numbered}
use Rattle.ca_world_data.specs.declared.history.LogEntry.{LogEntry}
use Rattle.ca_world_data.specs.declared.joined.Joined.{Joined}
use Rattle.ca_world_data.specs.declared.server.PutPlace.{PutPlace}
use Rattle.ca_world_data.specs.declared.server.RecordSide.{RecordSide}
use Rattle.ca_world_data.specs.declared.server.ServerSide.{ServerSide}
use Rattle.ca_world_data.specs.Opening.{entries_in}
use Rattle.ca_world_data.specs.Reporting.{AreServed, Reports, waits}
use Rattle.ca_world_data.specs.Seen.{joined_of, place_of, record_of, server_of}
use Rattle.ca_world_data.specs.ServerCuts.{HasRoomFor}
use Rattle.ca_world.proofs.Finishings.{busy-beside, busy-on, busy-there, entries-fewer, finish-lacking, found-beside, none-busy, on-within, refuses, served-numbered, served-replied, some-busy, some-mapped, told-ends, waits-after}
use Rattle.ca_world.proofs.finish.finish_at.Goals as goal

pub returns-then-is_none : goal.returns-then-is_none
returns-then-is_none c =
    let has : is_some c.busy_value.result ≡ false = c.is_none.ensures ∙ ap not c.if-is_none.true in
    let d = refuses c.args.side.now.core c.args.name.now (none-busy (λ v. v.now) c.busy_value.result c.args.side.now.core c.args.name.now c.busy_value.ensures has) in
    inr (d.0, d.1, refl, refl, refl)

pub unreachable-requires : goal.unreachable-requires
unreachable-requires c =
    let y : ServerSide = c.args.side.now in
    let name : List ℕ = c.args.name.now in
    let has : is_some c.busy_value.result ≡ true = c.is_none.ensures ∙ ap not c.if-is_none.false in
    let b : (z : Put) × IsBusy y.core name z = some-busy (λ v. v.now) c.busy_value.result y.core name c.busy_value.ensures has in
    busy-there y c.deref.result.now name (map joined_of c.args.circuits.now.items) (entries_in c.args.logs.now.items) b.0 b.1 c.requires.may c.deref.ensures.value c.in_default.ensures

pub unreachable-requires-in_default-busy : goal.unreachable-requires-in_default-busy
unreachable-requires-in_default-busy c =
    let y : ServerSide = c.args.side.now in
    let name : List ℕ = c.args.name.now in
    let r : RecordSide = c.in-Some.found.now in
    let has : is_some c.busy_value.result ≡ true = c.is_none.ensures ∙ ap not c.if-is_none.false in
    let b : (z : Put) × IsBusy y.core name z = some-busy (λ v. v.now) c.busy_value.result y.core name c.busy_value.ensures has in
    let beside : IsBeside y.core (map record_of y.records.items) name b.1.c (record_of r) = found-beside y c.deref.result.now name r b.0 b.1 c.deref.ensures.value c.in-Some.ensures in
    busy-beside y (map joined_of c.args.circuits.now.items) (entries_in c.args.logs.now.items) name r b.0 b.1 c.requires.may beside c.in_default-busy.is

pub reserve_finish-requires : goal.reserve_finish-requires
reserve_finish-requires c =
    let y : ServerSide = c.args.side.now in
    let name : List ℕ = c.args.name.now in
    let ks : List Joined = c.args.circuits.now.items in
    let r : RecordSide = c.in-Some.found.now in
    let p : PutPlace = c.in-Some-busy.put in
    let has : is_some c.busy_value.result ≡ true = c.is_none.ensures ∙ ap not c.if-is_none.false in
    let b : (z : Put) × IsBusy y.core name z = some-busy (λ v. v.now) c.busy_value.result y.core name c.busy_value.ensures has in
    let beside : IsBeside y.core (map record_of y.records.items) name b.1.c (record_of r) = found-beside y c.deref.result.now name r b.0 b.1 c.deref.ensures.value c.in-Some.ensures in
    let within : p.circuit < length ks = on-within y.core name p.circuit ks (busy-on y ks (entries_in c.args.logs.now.items) name r p b.0 b.1 c.requires.may beside c.in-Some-busy.is) in
    omega (arith, within)

pub next_value-requires : goal.next_value-requires
next_value-requires c =
    let y : ServerSide = c.args.side.now in
    let name : List ℕ = c.args.name.now in
    let r : RecordSide = c.in-Some.found.now in
    let has : is_some c.busy_value.result ≡ true = c.is_none.ensures ∙ ap not c.if-is_none.false in
    let b : (z : Put) × IsBusy y.core name z = some-busy (λ v. v.now) c.busy_value.result y.core name c.busy_value.ensures has in
    let beside : IsBeside y.core (map record_of y.records.items) name b.1.c (record_of r) = found-beside y c.deref.result.now name r b.0 b.1 c.deref.ensures.value c.in-Some.ensures in
    subst (λ (z : List (Vec LogEntry Global) × List PutPlace). HasNext (entries_in z.0) y.life (map place_of z.1)) (λ t. (sym c.deref-3.ensures.value t, sym c.deref-4.ensures.value t)) (c.requires.may.told b.1.c (record_of r) beside)

pub returns-in_err-value : goal.returns-in_err-value
returns-in_err-value c =
    let y : ServerSide = c.args.side.now in
    let name : List ℕ = c.args.name.now in
    let has : is_some c.busy_value.result ≡ true = c.is_none.ensures ∙ ap not c.if-is_none.false in
    let b : (z : Put) × IsBusy y.core name z = some-busy (λ v. v.now) c.busy_value.result y.core name c.busy_value.ensures has in
    finish-lacking c.args.server name y y (map joined_of c.args.circuits.now.items) (map joined_of c.args.circuits.now.items) (entries_in c.args.logs.now.items) (entries_in c.args.logs.now.items) c.from_residual.result c.from_residual.ensures.1 b refl refl refl

pub returns-in_err-reserve_finish : goal.returns-in_err-reserve_finish
returns-in_err-reserve_finish c =
    let y : ServerSide = c.args.side.now in
    let name : List ℕ = c.args.name.now in
    let has : is_some c.busy_value.result ≡ true = c.is_none.ensures ∙ ap not c.if-is_none.false in
    let b : (z : Put) × IsBusy y.core name z = some-busy (λ v. v.now) c.busy_value.result y.core name c.busy_value.ensures has in
    finish-lacking c.args.server name y y (map joined_of c.args.circuits.now.items) (map joined_of c.reserve_finish.new.circuits.items) (entries_in c.args.logs.now.items) (entries_in c.reserve_finish.new.logs.items) c.from_residual-in_err-reserve_finish.result c.from_residual-in_err-reserve_finish.ensures.1 b refl c.reserve_finish.ensures.same c.reserve_finish.ensures.logged

pub finish_on-requires-clause-busy : goal.finish_on-requires-clause-busy
finish_on-requires-clause-busy c =
    let y : ServerSide = c.args.side.now in
    let name : List ℕ = c.args.name.now in
    let ks : List Joined = c.args.circuits.now.items in
    let r : RecordSide = c.in-Some.found.now in
    let p : PutPlace = c.in-Some-busy.put in
    let has : is_some c.busy_value.result ≡ true = c.is_none.ensures ∙ ap not c.if-is_none.false in
    let b : (z : Put) × IsBusy y.core name z = some-busy (λ v. v.now) c.busy_value.result y.core name c.busy_value.ensures has in
    let beside : IsBeside y.core (map record_of y.records.items) name b.1.c (record_of r) = found-beside y c.deref.result.now name r b.0 b.1 c.deref.ensures.value c.in-Some.ensures in
    let on : IsBusyOn y.core name p.circuit (map joined_of c.reserve_finish.new.circuits.items) =
    subst (λ (js : List model.Joined). IsBusyOn y.core name p.circuit js) (sym c.reserve_finish.ensures.same)
    (busy-on y ks (entries_in c.args.logs.now.items) name r p b.0 b.1 c.requires.may beside c.in-Some-busy.is) in
    on

pub finish_on-requires-clause-within : goal.finish_on-requires-clause-within
finish_on-requires-clause-within c =
    let y : ServerSide = c.args.side.now in
    let name : List ℕ = c.args.name.now in
    let ks : List Joined = c.args.circuits.now.items in
    let r : RecordSide = c.in-Some.found.now in
    let p : PutPlace = c.in-Some-busy.put in
    let has : is_some c.busy_value.result ≡ true = c.is_none.ensures ∙ ap not c.if-is_none.false in
    let b : (z : Put) × IsBusy y.core name z = some-busy (λ v. v.now) c.busy_value.result y.core name c.busy_value.ensures has in
    let beside : IsBeside y.core (map record_of y.records.items) name b.1.c (record_of r) = found-beside y c.deref.result.now name r b.0 b.1 c.deref.ensures.value c.in-Some.ensures in
    let on : IsBusyOn y.core name p.circuit (map joined_of c.reserve_finish.new.circuits.items) =
    subst (λ (js : List model.Joined). IsBusyOn y.core name p.circuit js) (sym c.reserve_finish.ensures.same)
    (busy-on y ks (entries_in c.args.logs.now.items) name r p b.0 b.1 c.requires.may beside c.in-Some-busy.is) in
    let within : p.circuit < length c.reserve_finish.new.circuits.items = on-within y.core name p.circuit c.reserve_finish.new.circuits.items on in
    omega (arith, within)

pub tell_entries-requires : goal.tell_entries-requires
tell_entries-requires c =
    let y : ServerSide = c.args.side.now in
    let room : HasRoomFor (waits y.records.items + 2) y.life c.reserve_finish.new.logs.items =
    subst (λ (rs : List RecordSide). HasRoomFor (waits rs + 2) y.life c.reserve_finish.new.logs.items) c.deref-5.ensures.value c.in_ok-reserve_finish.ensures.room in
    λ log at. (let had = room log at in omega (arith, had))

pub report_ends-requires-clause-room : goal.report_ends-requires-clause-room
report_ends-requires-clause-room c =
    let y : ServerSide = c.args.side.now in
    let room : HasRoomFor (waits y.records.items + 2) y.life c.reserve_finish.new.logs.items =
    subst (λ (rs : List RecordSide). HasRoomFor (waits rs + 2) y.life c.reserve_finish.new.logs.items) c.deref-5.ensures.value c.in_ok-reserve_finish.ensures.room in
    let name : List ℕ = c.args.name.now in
    let new : List RecordSide = (with_items y.records c.next_records.new.records).items in
    let records : map record_of new ≡ with_record name next_busy (map record_of y.records.items) =
    ap (map record_of) (with_items_is y.records c.next_records.new.records (c.next_records.auto.records ∙ c.deref_mut.ensures.len)) ∙ c.next_records.ensures ∙ ap (λ (rs : List RecordSide). with_record name next_busy (map record_of rs)) c.deref_mut.ensures.value in
    entries-fewer (waits y.records.items) (waits new) y.life c.tell_entries.new.logs.items (waits-after name y.records.items new records) (c.tell_entries.ensures.room (waits y.records.items) room)

pub report_ends-requires-clause-served : goal.report_ends-requires-clause-served
report_ends-requires-clause-served c =
    let y : ServerSide = c.args.side.now in
    let i : ℕ = c.args.server in
    let name : List ℕ = c.args.name.now in
    let ks : List model.Joined = map joined_of c.reserve_finish.new.circuits.items in
    let own : List ℕ = y.circuits.items in
    let served : AreServed own ks i = subst (λ (js : List model.Joined). AreServed own js i) (sym c.reserve_finish.ensures.same) c.requires.served in
    subst (λ (js : List model.Joined). AreServed own js i) (sym c.finish_on.ensures.circuits)
    (served-replied (place_of c.in-Some-busy.put) c.finish_on.ensures.sent own i (numbered c.is_some.result i y.core name ks) (served-numbered c.is_some.result i y.core name own ks served))

pub returns : goal.returns
returns c =
    let y : ServerSide = c.args.side.now in
    let y' : ServerSide = c.report_ends.new.side in
    let i : ℕ = c.args.server in
    let name : List ℕ = c.args.name.now in
    let ks : List model.Joined = map joined_of c.args.circuits.now.items in
    let ks' : List model.Joined = map joined_of c.report_ends.new.circuits.items in
    let logs : List (List history.Entry) = entries_in c.args.logs.now.items in
    let logs' : List (List history.Entry) = entries_in c.report_ends.new.logs.items in
    let r : RecordSide = c.in-Some.found.now in
    let p : PutPlace = c.in-Some-busy.put in
    let next : Option model.PutPlace = option_map place_of c.first_put-next.result in
    let value : Option Elements = c.in_ok-value.value in
    let has : is_some c.busy_value.result ≡ true = c.is_none.ensures ∙ ap not c.if-is_none.false in
    let b : (z : Put) × IsBusy y.core name z = some-busy (λ v. v.now) c.busy_value.result y.core name c.busy_value.ensures has in
    let beside : IsBeside y.core (map record_of y.records.items) name b.1.c (record_of r) = found-beside y c.deref.result.now name r b.0 b.1 c.deref.ensures.value c.in-Some.ensures in
    let busy : option_map place_of r.busy ≡ Some (place_of p) = ap (option_map place_of) c.in-Some-busy.is in
    let next_is : next ≡ first_of (map place_of r.waiting.items) = c.first_put-next.ensures ∙ ap (λ (ps : List PutPlace). first_of (map place_of ps)) c.deref-2.ensures.value in
    let is : IsNext logs y.life (map place_of r.waiting.items) value =
    subst (λ (z : List (Vec LogEntry Global) × List PutPlace). IsNext (entries_in z.0) y.life (map place_of z.1) value) (λ t. (c.deref-3.ensures.value t, c.deref-4.ensures.value t)) c.in_ok-value.ensures in
    let had : List model.Joined = map joined_of c.reserve_finish.new.circuits.items in
    let after : List model.Joined = map joined_of c.finish_on.new.circuits.items in
    let mid : ServerSide = record y { core = c.finish_on.new.core; records = with_items y.records c.next_records.new.records } in
    let records : map record_of mid.records.items ≡ with_record name next_busy (map record_of y.records.items) =
    ap (map record_of) (with_items_is y.records c.next_records.new.records (c.next_records.auto.records ∙ c.deref_mut.ensures.len)) ∙ c.next_records.ensures ∙ ap (λ (rs : List RecordSide). with_record name next_busy (map record_of rs)) c.deref_mut.ensures.value in
    let waits_is : c.is_some.result ≡ is_some next = c.is_some.ensures ∙ sym (some-mapped place_of c.first_put-next.result) in
    let tells : TellsFinish i name (place_of p) r.number next value y had (entries_in c.reserve_finish.new.logs.items) y' ks' logs' =
    record {
      core = c.finish_on.new.core;
      after = after;
      did = subst (λ (w : Bool). Finished i name (place_of p) w y.core had c.finish_on.new.core after) waits_is c.finish_on.ensures;
      mid = mid;
      mid_is = (λ t. record (server_of y) { core = c.finish_on.new.core; records = records t });
      numbers = refl;
      reports = subst (λ (ls : List (List history.Entry)). Reports i mid after ls y' ks' logs') c.tell_entries.ensures.logged c.report_ends.ensures;
    } in
    let told : TellsFinish i name (place_of p) r.number next value y ks logs y' ks' logs' =
    subst (λ (z : List model.Joined × List (List history.Entry)). TellsFinish i name (place_of p) r.number next value y z.0 z.1 y' ks' logs') (λ t. (c.reserve_finish.ensures.same t, c.reserve_finish.ensures.logged t)) tells in
    inl (told-ends i name y y' ks ks' logs logs' b.1.c (record_of r) (place_of p) next value beside busy next_is is c.requires.may told)
