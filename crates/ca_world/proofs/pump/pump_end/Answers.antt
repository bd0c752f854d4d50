use Rattle.std.proofs.Common.{◌≤◌, ℕ, List, Some, length, map, sym, ap, subst, ◌∙◌}
use Rattle.std.specs.Prelude.{Vec}
use Rattle.std.specs.VecDeque.{deque_items}
use Rattle.std.specs.declared.alloc.Global.{Global}
use Rattle.ca_model.specs.Server.{Server, ServerEnd}
use Rattle.ca_model.specs.ServerSteps.{Update}
use Rattle.ca_server_core.specs.Serving.{stepped}
use Rattle.ca_world_data.specs.declared.joined.Joined.{Joined}
use Rattle.ca_world_data.specs.Seen.{joined_of}
use Rattle.ca_world_data.specs.Updates.{MayTell, TellsUpdates}
use Rattle.ca_world_data.proofs.UpdateTellings.{rest-is}
use Rattle.ca_world.specs.ServerPumps.{PumpsUntil}
use Rattle.ca_world.proofs.Pumping.{Ending, Resting, open-tells, open-told, open-within, over-tells, over-told, over-within, pumped-open, pumped-over}
use Rattle.ca_world.proofs.pump.pump_end.Goals as goal
use Rattle.ca_world.proofs.pump.pump_end.Goals.{After-bytes, After-out_bytes}

-- what waited is the first of what is read
open-from : (c : After-out_bytes) → length c.out_bytes-waited.result.now ≤ length c.out_bytes.result.now
open-from c =
    let old : Server = c.args.core.now in
    let mid : Server = c.pump.new.self in
    let j : Joined = c.args.joined.now in
    let us : List Update = c.pump.ensures.0 in
    let rooms : List (List (Vec ℕ Global)) = map deque_items c.args.rooms.items in
    let r : Resting old j.at_server us mid = pumped-open old mid j.at_server us c.requires.serves c.pump.ensures.1 (sym c.is_open.ensures ∙ c.if-is_open.true) in
    open-within old mid j us _ c.out_bytes.result.now (c.requires.fits us mid c.pump.ensures.1) c.requires.alike rooms c.requires.ready r (ap (λ (l : List ℕ). length l) c.out_bytes-waited.ensures) c.out_bytes.ensures

pub slice_bounds-tell_updates-count : goal.slice_bounds-tell_updates-count
slice_bounds-tell_updates-count c = open-from c

pub slice_bounds-tell_updates-start : goal.slice_bounds-tell_updates-start
slice_bounds-tell_updates-start c = open-from c

pub tell_updates-requires : goal.tell_updates-requires
tell_updates-requires c =
    let old : Server = c.args.core.now in
    let mid : Server = c.pump.new.self in
    let j : Joined = c.args.joined.now in
    let us : List Update = c.pump.ensures.0 in
    let rooms : List (List (Vec ℕ Global)) = map deque_items c.args.rooms.items in
    let bytes : List ℕ = c.out_bytes.result.now in
    let waited : ℕ = length c.out_bytes-waited.result.now in
    let r : Resting old j.at_server us mid = pumped-open old mid j.at_server us c.requires.serves c.pump.ensures.1 (sym c.is_open.ensures ∙ c.if-is_open.true) in
    subst (λ (b : List ℕ). (e : ServerEnd) × (vs : List Update) × MayTell e vs b j rooms) (sym (rest-is bytes waited))
    (open-tells old mid j us waited bytes (c.requires.fits us mid c.pump.ensures.1) c.requires.alike rooms c.requires.ready r (ap (λ (l : List ℕ). length l) c.out_bytes-waited.ensures) c.out_bytes.ensures)

pub returns-then-is_open : goal.returns-then-is_open
returns-then-is_open c =
    let old : Server = c.args.core.now in
    let mid : Server = c.pump.new.self in
    let j : Joined = c.args.joined.now in
    let us : List Update = c.pump.ensures.0 in
    let rooms : List (List (Vec ℕ Global)) = map deque_items c.args.rooms.items in
    let bytes : List ℕ = c.out_bytes.result.now in
    let waited : ℕ = length c.out_bytes-waited.result.now in
    let r : Resting old j.at_server us mid = pumped-open old mid j.at_server us c.requires.serves c.pump.ensures.1 (sym c.is_open.ensures ∙ c.if-is_open.true) in
    open-told old mid j us waited bytes (c.requires.fits us mid c.pump.ensures.1) c.requires.alike rooms c.requires.ready r (ap (λ (l : List ℕ). length l) c.out_bytes-waited.ensures) c.out_bytes.ensures
    (joined_of c.tell_updates.new.joined)
    (subst (λ (b : List ℕ). TellsUpdates b j rooms (joined_of c.tell_updates.new.joined)) (rest-is bytes waited) c.tell_updates.ensures)

over-from : (c : After-bytes) → length c.out_bytes-waited.result.now ≤ length c.bytes.result.now
over-from c =
    let old : Server = c.args.core.now in
    let mid : Server = c.pump.new.self in
    let j : Joined = c.args.joined.now in
    let us : List Update = c.pump.ensures.0 in
    let rooms : List (List (Vec ℕ Global)) = map deque_items c.args.rooms.items in
    let r : Ending old j.at_server us mid = pumped-over old mid j.at_server us c.requires.serves c.pump.ensures.1 (sym c.is_open.ensures ∙ c.if-is_open.false) in
    over-within old mid j us _ c.bytes.result.now (c.requires.fits us mid c.pump.ensures.1) c.requires.alike rooms c.requires.ready r (ap (λ (l : List ℕ). length l) c.out_bytes-waited.ensures)
    (stepped c.step-did.result) c.step-did.new.self c.step-did.ensures.steps (c.bytes.ensures ∙ c.left_by-left.ensures)

pub slice_bounds-tell_updates-count-2 : goal.slice_bounds-tell_updates-count-2
slice_bounds-tell_updates-count-2 c = over-from c

pub slice_bounds-tell_updates-start-2 : goal.slice_bounds-tell_updates-start-2
slice_bounds-tell_updates-start-2 c = over-from c

pub tell_updates-requires-2 : goal.tell_updates-requires-2
tell_updates-requires-2 c =
    let old : Server = c.args.core.now in
    let mid : Server = c.pump.new.self in
    let j : Joined = c.args.joined.now in
    let us : List Update = c.pump.ensures.0 in
    let rooms : List (List (Vec ℕ Global)) = map deque_items c.args.rooms.items in
    let bytes : List ℕ = c.bytes.result.now in
    let waited : ℕ = length c.out_bytes-waited.result.now in
    let r : Ending old j.at_server us mid = pumped-over old mid j.at_server us c.requires.serves c.pump.ensures.1 (sym c.is_open.ensures ∙ c.if-is_open.false) in
    subst (λ (b : List ℕ). (e : ServerEnd) × (vs : List Update) × MayTell e vs b j rooms) (sym (rest-is bytes waited))
    (over-tells old mid j us waited bytes (c.requires.fits us mid c.pump.ensures.1) c.requires.alike rooms c.requires.ready r (ap (λ (l : List ℕ). length l) c.out_bytes-waited.ensures)
    (stepped c.step-did.result) c.step-did.new.self c.step-did.ensures.steps (c.bytes.ensures ∙ c.left_by-left.ensures))

pub returns : goal.returns
returns c =
    let old : Server = c.args.core.now in
    let mid : Server = c.pump.new.self in
    let j : Joined = c.args.joined.now in
    let us : List Update = c.pump.ensures.0 in
    let rooms : List (List (Vec ℕ Global)) = map deque_items c.args.rooms.items in
    let bytes : List ℕ = c.bytes.result.now in
    let waited : ℕ = length c.out_bytes-waited.result.now in
    let r : Ending old j.at_server us mid = pumped-over old mid j.at_server us c.requires.serves c.pump.ensures.1 (sym c.is_open.ensures ∙ c.if-is_open.false) in
    subst (λ (l : List ℕ). PumpsUntil old (joined_of j) (Some l) c.step-did.new.self (joined_of c.tell_updates-2.new.joined)) c.bytes.ensures
    (over-told old mid j us waited bytes (c.requires.fits us mid c.pump.ensures.1) c.requires.alike rooms c.requires.ready r (ap (λ (l : List ℕ). length l) c.out_bytes-waited.ensures)
    (stepped c.step-did.result) c.step-did.new.self c.step-did.ensures.steps (c.bytes.ensures ∙ c.left_by-left.ensures)
    (joined_of c.tell_updates-2.new.joined)
    (subst (λ (b : List ℕ). TellsUpdates b j rooms (joined_of c.tell_updates-2.new.joined)) (rest-is bytes waited) c.tell_updates-2.ensures))
