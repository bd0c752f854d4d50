-- What a server's calls send are messages, and its core fits messages after them.
use Rattle.std.proofs.Common.{◌≡◌, ℕ, ◌+◌, ◌-◌, ◌%◌, zero, suc, ◌^◌, ◌<◌, ◌≤◌, inl, inr, Bool, true, false, ◌&&◌, ◌==◌, not, cond, List, [], ◌∷◌, ◌++◌, length, Option, Some, None, refl, sym, ap, subst, arith}
use Rattle.std.specs.List.{FoldsTo}
use Rattle.std.specs.Prelude.{Err, Ok, Result, drop, is_some, map, option_map, replicate, take}
use Rattle.std.specs.Str.{bytes_eq}
use Rattle.std.proofs.lemmas.List.{length-replicate}
use Rattle.ca_arena.specs.declared.handle.Handle.{Handle}
use Rattle.ca_dbr.specs.Elements.{Elements, count_of}
use Rattle.ca_dbr.specs.Held.{IsHeldValue}
use Rattle.ca_display.specs.declared.image_type.ImageType.{ImageType}
use Rattle.ca_display.specs.Image.{size_in}
use Rattle.ca_ids.specs.Table.{Table, held, under}
use Rattle.ca_link.specs.Link.{with_rest}
use Rattle.ca_queue.specs.declared.entry.SubKey.{SubKey}
use Rattle.ca_queue.specs.Queue.{Queue}
use Rattle.ca_queue.specs.Waiting.{front, may_take, taken}
use Rattle.ca_records.specs.declared.puts.Put.{Put}
use Rattle.ca_records.specs.Puts.{Record, WaitingPut, finished, new_record, record_named, removed, with_record, with_value}
use Rattle.ca_records.specs.Record.{IsRecord, RecordState, unset}
use Rattle.ca_records.specs.Rules.{Rule}
use Rattle.ca_text.specs.declared.command.Command.TheVariants as command
use Rattle.ca_text.specs.declared.refusal.Refusal.{Refusal}
use Rattle.ca_text.specs.Limits.{element_limit, payload_limit}
use Rattle.ca_text.specs.Place.{At}
use Rattle.ca_text.specs.Status.{get_fail, normal}
use Rattle.ca_text.proofs.Places.{At-mapped, some_is}
use Rattle.ca_wire.specs.declared.requests.Wanted.{Wanted}
use Rattle.ca_wire.specs.Fields.{Fields, padded}
use Rattle.ca_wire.specs.Message.{IsMessage, spelled}
use Rattle.ca_wire.specs.Messages.{disconnect, update}
use Rattle.ca_wire.proofs.Padding.{length-padded, message-of, padded-payload}
use Rattle.ca_model.specs.Due.{Action, Applies, KnownChannel, KnownRecord}
use Rattle.ca_model.specs.Due as action
use Rattle.ca_model.specs.Ends.{Why}
use Rattle.ca_model.specs.Ends as why
use Rattle.ca_model.specs.Images.{image_of, shown_in}
use Rattle.ca_model.specs.Server.{Ended, Open, OpenChannel, Server, ServerCircuit, ServerEnd, new_end, new_server, with_post}
use Rattle.ca_model.specs.ServerCalls.{AddsRecord, Finishes, Posts, Removes, Replies, after_next, channels_of, circuit_without, disconnects, end_without, finish_reply, lacking, with_finish}
use Rattle.ca_model.specs.ServerSteps.{Accepts, Cuts, Gives, HasEnd, LeftOf, Next, Pumps, Reaches, Sends, Update, after_post, closed, counted, ended, known_channel, known_record, knows, reached, stored_now, with_end, write_mask}
use Rattle.ca_model.specs.ServerSteps as steps
use Rattle.ca_model.specs.Speech.{Is, Stored}
use Rattle.ca_model.specs.Updates.{ShowsTo, update_count, update_in}
use Rattle.ca_model.specs.ServerEvents.{disconnected_at, left_by, reported}
use Rattle.ca_model.proofs.Showing.{size_in-small}
use Rattle.ca_model.proofs.Tables.{all-freed-back, changed-back, find-at, freed-back, held-back, held-under}
use Rattle.ca_laws_parts.proofs.ClientsKeep.{none-under}
use Rattle.ca_laws_parts.proofs.Cores.{records-stay}
use Rattle.ca_laws_parts.specs.ServerFits.{AllAt, EndFits, PutFits, QueueFits, RecordFits, ServerFits, ValueFits, WantedFits}
use Rattle.ca_laws_parts.specs.Streams.{AreMessages}
use Rattle.ca_laws_parts.proofs.DueFits.{ActionFits, KnowsFits, blank-some, due-fits, shown-payload, shown-some, some-of}
use Rattle.ca_laws_parts.proofs.Fits.{empty-payload}
use Rattle.ca_laws_parts.proofs.ServerEnds.{open-one}
use Rattle.ca_laws_parts.proofs.ServerFits.{acts-fits, append-at, cons-at, changed-fits, drop-at, each-changed, end-like, filter-at, finished-fits, new-end-fits, new-fits, post-fits, records-fits, removal-fits, set-at, take-at, taken-fits, value-fits, withdrawn-fits}

-- ---- tables of circuits

-- ends are those of another server
same-ends : (y new : Server) → new.circuits ≡ y.circuits → ServerFits y → (h : Handle) (e : ServerEnd) → HasEnd new h e → EndFits e
same-ends y new same f h e has = f.ends h e (subst (λ (t : Table ServerCircuit). under t h ≡ Some (Open e)) same has)

pub fits-same : (y new : Server) → new.port ≡ y.port → new.records ≡ y.records → new.circuits ≡ y.circuits → ServerFits y → ServerFits new
fits-same y new port records circuits f = record {
  port = subst (λ (n : ℕ). n < 2 ^ 16) (sym port) f.port;
  records = subst (λ (rs : List Record). AllAt RecordFits rs) (sym records) f.records;
  ends = same-ends y new circuits f;
}

pub with-end-fits : (h : Handle) (d : ServerEnd) (y : Server) → EndFits d → ServerFits y → ServerFits (with_end h d y)
with-end-fits h d y fit f = record {
  port = f.port;
  records = f.records;
  ends = λ g e has. elim (changed-back (λ (c : ServerCircuit). Open d) y.circuits g h (Open e) has) [
    | inl own ↦ subst EndFits (sym (open-one e d own.1.2)) fit
    | inr old ↦ f.ends g e old.1
  ];
}

open-ended : (e : ServerEnd) (w : Why) (left : List ℕ) → Open e ≡ Ended w left → ⊥
open-ended e w left is = cc

pub ended-fits : (h : Handle) (w : Why) (left : List ℕ) (y : Server) → ServerFits y → ServerFits (ended h w left y)
ended-fits h w left y f = record {
  port = f.port;
  records = withdrawn-fits _ y.records f.records;
  ends = λ g e has. elim (changed-back (λ (c : ServerCircuit). Ended w left) y.circuits g h (Open e) has) [
    | inl own ↦ absurd (open-ended e w left own.1.2)
    | inr old ↦ f.ends g e old.1
  ];
}

pub closed-fits : (h : Handle) (y : Server) → ServerFits y → ServerFits (closed h y)
closed-fits h y f = record { port = f.port; records = withdrawn-fits _ y.records f.records; ends = λ g e has. f.ends g e (freed-back y.circuits g h (Open e) has).1 }

pub reported-fits : (y : Server) → ServerFits y → ServerFits (reported y)
reported-fits y f = record { port = f.port; records = f.records; ends = λ g e has. f.ends g e (all-freed-back (λ (c : ServerCircuit). is_some (left_by (Some c))) y.circuits g (Open e) has).0 }

-- ---- posts

after-post-fits : (name : List ℕ) (mask : ℕ) (v : Stored) (gone : Handle → Bool) (y : Server) → ValueFits v.value → ServerFits y → ServerFits (after_post name mask v gone y)
after-post-fits name mask v gone y one f = record {
  port = f.port;
  records = withdrawn-fits _ y.records f.records;
  ends = λ h e has. (let u = each-changed (reached name mask v gone) y.circuits h (Open e) has in by h e u.0 u.1 u.2);
}
  where
    by : (h : Handle) (e : ServerEnd) (u : ServerCircuit) → under y.circuits h ≡ Some u → Open e ≡ reached name mask v gone h u → EndFits e
    by h e (Ended w left) there is = absurd (open-ended e w left is)
    by h e (Open d) there is = go (gone h) is
      where
        go : (b : Bool) → Open e ≡ cond b (Ended why.OutOfMemory d.link.output) (Open (with_post name mask v d)) → EndFits e
        go true is = absurd (open-ended e why.OutOfMemory d.link.output is)
        go false is = subst EndFits (sym (open-one e (with_post name mask v d) is)) (post-fits name mask v d one (f.ends h d there))

pub posts-fits : (y : Server) (name : List ℕ) (e : Elements) (mask : ℕ) (gone : Handle → Bool) (core : Server) → IsHeldValue e → Posts y name (record { value = e; meta = unset }) mask gone (Ok tt) core → ServerFits y → ServerFits core
posts-fits y name e mask gone core valued (post, may, is) f =
    let v : Stored = record { value = e; meta = unset } in
    let r : Record = post.0 in
    let at = find-at (λ (r : Record). bytes_eq r.state.name name) y.records r post.1 in
    let limit : r.state.count ≤ element_limit = (f.records at.0 r at.1).count in
    let few : count_of e ≤ r.state.count = post.4 in
    let one : ValueFits e = (valued, post.3, omega (arith, few, limit)) in
    let stored : Server = record y { records = with_record name (with_value e unset) y.records } in
    subst ServerFits (sym is) (after-post-fits name mask v gone stored one (record { port = f.port; records = changed-fits name (with_value e unset) y.records (λ r fit. value-fits e unset r one fit) f.records; ends = f.ends }))

-- ---- bytes come and go, and circuits

pub accepts-fits : (y : Server) (h : Handle) (new : Server) → Accepts y (Ok h) new → ServerFits y → ServerFits new
accepts-fits y h new (may, is) f = subst ServerFits (sym is) (record {
  port = f.port;
  records = f.records;
  ends = λ g e has. elim (held-back y.circuits g h (Open (new_end y.moment)) (Open e) has) [
    | inl own ↦ subst EndFits (sym (open-one e (new_end y.moment) own.1)) (new-end-fits y.moment)
    | inr old ↦ f.ends g e old
  ];
})

pub gives-fits : (y new : Server) (h : Handle) (bytes : List ℕ) → Gives y h bytes (Ok tt) new → ServerFits y → ServerFits new
gives-fits y new h bytes (e, has, is) f = subst ServerFits (sym is) (with-end-fits h _ y (end-like e _ refl refl refl (f.ends h e has)) f)

pub sends-fits : (y new : Server) (h : Handle) (n : ℕ) → Sends y h n new → ServerFits y → ServerFits new
sends-fits y new h n (inl (e, has, few, is)) f = subst ServerFits (sym is) (with-end-fits h _ y (end-like e _ refl refl refl (f.ends h e has)) f)
sends-fits y new h n (inr (none, zero_it, is)) f = subst ServerFits (sym is) f

pub cuts-fits : (y : Server) (h : Handle) (new : Server) → Cuts y h new → ServerFits y → ServerFits new
cuts-fits y h new (inl (e, has, is)) f = subst ServerFits (sym is) (ended-fits h why.Cut e.link.output y f)
cuts-fits y h new (inr (none, is)) f = subst ServerFits (sym is) f

-- ---- a message

knows-fits : (y : Server) (e : ServerEnd) → ServerFits y → EndFits e → KnowsFits (knows y e)
knows-fits y e f fit = record {
  port = f.port;
  records = λ name r is. known name r (record_named y.records name) refl is;
  cids = λ c at.
      let b = At-mapped known_channel (held e.channels) at.0 c at.1 in
      subst (λ (k : KnownChannel). k.cid < 2 ^ 32) (sym b.2) (fit.channels b.0.0 b.0.1 (held-under e.channels at.0 b.0 b.1));
}
  where
    known : (name : List ℕ) (r : KnownRecord) (o : Option Record) → record_named y.records name ≡ o → option_map known_record o ≡ Some r → (r.state.count ≤ element_limit) × ValueFits r.state.value
    known name r None found is = absurd cc
    known name r (Some c) found is =
        let at = find-at (λ (r : Record). bytes_eq r.state.name name) y.records c found in
        let fit = f.records at.0 c at.1 in
        subst (λ (k : KnownRecord). (k.state.count ≤ element_limit) × ValueFits k.state.value) (some_is (known_record c) r is) (fit.count, fit.value)

pub next-fits : (y : Server) (h : Handle) (e : ServerEnd) → HasEnd y h e → ServerFits y → (n : Next y h e) → AreMessages n.replies × ActionFits n.action × ServerFits n.after
next-fits y h e has f n =
    let d : ServerEnd = record e { link = with_rest n.rest e.link } in
    let fit : EndFits d = end-like e d refl refl refl (f.ends h e has) in
    let made = n.handles in
    let due = due-fits (knows y d) n.m n.replies n.action (knows-fits y d f fit) n.takes.1.good made.due in
    let recorded = records-fits y h d n.m n.action made.recorded n.takes.1.good due.1 made.records f.records in
    let acted : EndFits made.acted = acts-fits y d made.acted n.action f.records due.1 made.acts fit in
    let z : ServerFits made.recorded = record { port = subst (λ (p : ℕ). p < 2 ^ 16) (sym recorded.1) f.port; records = recorded.0; ends = same-ends y made.recorded (records-stay y h d n.m n.action made.recorded made.records) f } in
    (due.0, due.1, subst ServerFits (sym made.leaves) (with-end-fits h _ made.recorded (end-like made.acted _ refl refl refl acted) z))

pub reaches-fits : (did : Action) (gone : Handle → Bool) (y new : Server) → ActionFits did → Reaches did gone y new → ServerFits y → ServerFits new
reaches-fits (Applies name value busies) gone y new one (may, is) f = subst ServerFits (sym is) (after-post-fits name write_mask (stored_now y value) gone y one f)
reaches-fits (action.Waits name value) gone y new one r f = subst ServerFits (sym r.1) f
reaches-fits (action.Clears sid) gone y new one r f = subst ServerFits (sym r.1) f
reaches-fits action.Nothing gone y new one r f = subst ServerFits (sym r.1) f
reaches-fits action.Greets gone y new one r f = subst ServerFits (sym r.1) f
reaches-fits (action.Names x) gone y new one r f = subst ServerFits (sym r.1) f
reaches-fits (action.Opens x) gone y new one r f = subst ServerFits (sym r.1) f
reaches-fits (action.Adds x) gone y new one r f = subst ServerFits (sym r.1) f
reaches-fits (action.Drops x) gone y new one r f = subst ServerFits (sym r.1) f
reaches-fits (action.Switches x) gone y new one r f = subst ServerFits (sym r.1) f

pub left-fits : (y : Server) (h : Handle) (e : ServerEnd) → HasEnd y h e → ServerFits y → (n : Next y h e) (written : Option (Handle → Bool)) (new : Server) → LeftOf n written new → ServerFits new
left-fits y h e has f n None new is = subst ServerFits (sym is) f
left-fits y h e has f n (Some gone) new (writes, reaches) = (let r = next-fits y h e has f n in reaches-fits n.action gone n.after new r.1 reaches r.2)

-- ---- updates

shown-good : (w : Wanted) (v : Stored) (t : ImageType) (n : ℕ) (r : Result Elements Refusal) → WantedFits w → ValueFits v.value → n ≤ element_limit → update_count w v ≡ n → shown_in v.value n t ≡ r → IsMessage (update_in w v t r)
shown-good w v t n (Ok e) fit one few same is =
    let p = shown-payload v.value t n e v.meta one.0 few is in
    let count : update_count w v < 2 ^ 32 = omega (arith, same, few) in
    message-of (update w.data_type (update_count w v) normal w.id (image_of v.value t e v.meta)) (omega arith) fit.0 count (omega arith) fit.2 (padded-payload (image_of v.value t e v.meta) p.1)
shown-good w v t n (Err r) fit one few same is =
    let count : update_count w v < 2 ^ 32 = omega (arith, same, few) in
    let small : size_in t (update_count w v) ≤ payload_limit = subst (λ (k : ℕ). size_in t k ≤ payload_limit) (sym same) (size_in-small t n few) in
    message-of (update w.data_type (update_count w v) get_fail w.id (replicate (size_in t (update_count w v)) 0)) (omega arith) fit.0 count (omega arith) fit.2
    (padded-payload (replicate (size_in t (update_count w v)) 0) (subst (λ (k : ℕ). k ≤ payload_limit) (sym (length-replicate (size_in t (update_count w v)) 0)) small))

update-good : (w : Wanted) (v : Stored) (m : Fields) → WantedFits w → ValueFits v.value → ShowsTo w v m → IsMessage m
update-good w v m fit one (t, typed, is) = subst IsMessage (sym is) (shown-good w v t (update_count w v) (shown_in v.value (update_count w v) t) fit one (few (w.count == 0)) refl refl)
  where
    few : (b : Bool) → cond b (count_of v.value) w.count ≤ element_limit
    few true = one.2
    few false = fit.1

carried : (q : Queue Stored) (x : SubKey × Stored) → QueueFits q → taken q.events_on q.waiting ≡ Some x → ValueFits x.1.value
carried q x all is = go (may_take q.events_on q.waiting) q.waiting all is
  where
    go : (b : Bool) (ws : List (SubKey × Stored)) → AllAt (λ (x : SubKey × Stored). ValueFits x.1.value) ws → cond b (front ws) None ≡ Some x → ValueFits x.1.value
    go true [] all is = absurd cc
    go true (w ∷ ws) all is = all 0 x is
    go false ws all is = absurd cc

leaves-fits : (us : List Update) (e after : ServerEnd) → EndFits e → FoldsTo steps.Leaves e us after → AreMessages (map (λ (u : Update). u.message) us) × EndFits after
leaves-fits [] e after fit same = ((λ i m at. absurd cc), subst EndFits same fit)
leaves-fits (u ∷ us) e after fit (mid, one, rest) =
    let value : ValueFits u.carries.value = carried one.q _ (fit.queues u.queue one.q one.at) one.taken_is in
    let good : IsMessage u.message = update-good u.of.wanted u.carries u.message (fit.subscriptions one.stands.0 u.of one.stands.1) value one.shows in
    let next : EndFits mid = subst EndFits (sym one.leaves) (record { channels = fit.channels; subscriptions = fit.subscriptions; queues = set-at QueueFits e.queues u.queue _ fit.queues (taken-fits one.q (fit.queues u.queue one.q one.at)) }) in
    let r = leaves-fits us mid after next rest in
    (first good r.0, r.1)
  where
    first : IsMessage u.message → AreMessages (map (λ (u : Update). u.message) us) → AreMessages (map (λ (u : Update). u.message) (u ∷ us))
    first good rest zero m at = subst IsMessage (some_is u.message m at) good
    first good rest (suc i) m at = rest i m at

pub pumps-fits : (y : Server) (h : Handle) (us : List Update) (new : Server) → Pumps y h us new → ServerFits y → AreMessages (map (λ (u : Update). u.message) us) × ServerFits new
pumps-fits y h us new (inl (e, has, (after, folds, inl (rests, is)))) f =
    let r = leaves-fits us e after (f.ends h e has) folds in
    (r.0, subst ServerFits (sym is) (with-end-fits h after y r.1 f))
pumps-fits y h us new (inl (e, has, (after, folds, inr (more, is)))) f =
    let r = leaves-fits us e after (f.ends h e has) folds in
    (r.0, subst ServerFits (sym is) (ended-fits h why.OutOfMemory after.link.output y f))
pumps-fits y h us new (inr (none, nothing, is)) f = (subst (λ (l : List Update). AreMessages (map (λ (u : Update). u.message) l)) (sym nothing) (λ i m at. absurd cc), subst ServerFits (sym is) f)

-- an update is an EVENT_ADD with a payload
abbrev pub IsUpdating : Fields → Type 0
IsUpdating m = Is command.EventAdd m × (m.payload ≡ [] → ⊥)

padded-some : (bytes : List ℕ) → 0 < length bytes → padded bytes ≡ [] → ⊥
padded-some bytes some is =
    let none : length (padded bytes) ≡ 0 = ap (λ (l : List ℕ). length l) is in
    let len : length (padded bytes) ≡ length bytes + (8 - length bytes % 8) % 8 = length-padded bytes in
    omega (arith, none, len, some)

update-some : (w : Wanted) (v : Stored) (m : Fields) → ValueFits v.value → ShowsTo w v m → IsUpdating m
update-some w v m one (t, typed, is) = subst IsUpdating (sym is) (by (shown_in v.value (update_count w v) t) refl)
  where
    count : 0 < update_count w v
    count = go (w.count == 0) refl
      where
        go : (b : Bool) → (w.count == 0) ≡ b → 0 < cond b (count_of v.value) w.count
        go true e = one.1
        go false e = some-of w.count e

    by : (r : Result Elements Refusal) → shown_in v.value (update_count w v) t ≡ r → IsUpdating (update_in w v t r)
    by (Ok e) is = (refl, padded-some (image_of v.value t e v.meta) (shown-some v.value t (update_count w v) e v.meta one.0 count is))
    by (Err r) is = (refl, padded-some (replicate (size_in t (update_count w v)) 0) (blank-some t (update_count w v) count))

leaves-update : (us : List Update) (e after : ServerEnd) → EndFits e → FoldsTo steps.Leaves e us after → AllAt (λ (u : Update). IsUpdating u.message) us
leaves-update [] e after fit same = λ i u at. absurd cc
leaves-update (u ∷ us) e after fit (mid, one, rest) =
    let value : ValueFits u.carries.value = carried one.q _ (fit.queues u.queue one.q one.at) one.taken_is in
    let next : EndFits mid = subst EndFits (sym one.leaves) (record { channels = fit.channels; subscriptions = fit.subscriptions; queues = set-at QueueFits e.queues u.queue _ fit.queues (taken-fits one.q (fit.queues u.queue one.q one.at)) }) in
    cons-at (λ (u : Update). IsUpdating u.message) u us (update-some u.of.wanted u.carries u.message value one.shows) (leaves-update us mid after next rest)

pub pumps-update : (y : Server) (h : Handle) (us : List Update) (new : Server) → Pumps y h us new → ServerFits y → AllAt (λ (u : Update). IsUpdating u.message) us
pumps-update y h us new (inl (e, has, (after, folds, over))) f = leaves-update us e after (f.ends h e has) folds
pumps-update y h us new (inr (none, nothing, is)) f = subst (λ (l : List Update). AllAt (λ (u : Update). IsUpdating u.message) l) (sym nothing) (λ i u at. absurd cc)

-- ---- finishes

finish-good : (p : Put) → PutFits p → IsMessage (finish_reply p)
finish-good p fit = message-of (finish_reply p) (omega arith) fit.0 fit.1 (omega arith) fit.2 empty-payload

with-finish-fits : (name : List ℕ) (r : Record) (y : Server) → ServerFits y → ServerFits (with_finish name r y)
with-finish-fits name r y f = record { port = f.port; records = changed-fits name (λ (q : Record). finished y.stamp q q.waiting) y.records (λ q fit. finished-fits y.stamp q fit) f.records; ends = f.ends }

after-next-fits : (name : List ℕ) (ws : List WaitingPut) (gone : Handle → Bool) (y : Server) → AllAt (λ (w : WaitingPut). PutFits w.put × ValueFits w.value) ws → ServerFits y → ServerFits (after_next name ws gone y)
after-next-fits name [] gone y all f = record {
  port = f.port;
  records = withdrawn-fits _ y.records f.records;
  ends = λ h e has. (let u = each-changed (lacking gone) y.circuits h (Open e) has in by h e u.0 u.1 u.2);
}
  where
    by : (h : Handle) (e : ServerEnd) (u : ServerCircuit) → under y.circuits h ≡ Some u → Open e ≡ lacking gone h u → EndFits e
    by h e (Ended w left) there is = absurd (open-ended e w left is)
    by h e (Open d) there is = go (gone h) is
      where
        go : (b : Bool) → Open e ≡ cond b (Ended why.OutOfMemory d.link.output) (Open d) → EndFits e
        go true is = absurd (open-ended e why.OutOfMemory d.link.output is)
        go false is = subst EndFits (sym (open-one e d is)) (f.ends h d there)
after-next-fits name (w ∷ ws) gone y all f = after-post-fits name write_mask (stored_now y w.value) gone (counted y) (all 0 w refl).1 (fits-same y (counted y) refl refl refl f)

pub finishes-fits : (y : Server) (name : List ℕ) (sent : List (Handle × Fields)) (new : Server) → Finishes y name sent (Ok tt) new → ServerFits y → AreMessages (map (λ (s : Handle × Fields). s.1) sent) × ServerFits new
finishes-fits y name sent new (fin, mid, replies, is) f =
    let at = find-at (λ (r : Record). bytes_eq r.state.name name) y.records fin.r fin.named in
    let fit : RecordFits fin.r = f.records at.0 fin.r at.1 in
    let r = by replies (with-finish-fits name fin.r y f) (fit.busy fin.p fin.busy) in
    (r.0, subst ServerFits (sym is) (after-next-fits name fin.r.waiting fin.gone mid fit.waiting r.1))
  where
    by : Replies (with_finish name fin.r y) fin.p fin.gone sent mid → ServerFits (with_finish name fin.r y) → PutFits fin.p → AreMessages (map (λ (s : Handle × Fields). s.1) sent) × ServerFits mid
    by (inl (e, awaited, are, leaves)) z put = (
      subst (λ (l : List (Handle × Fields)). AreMessages (map (λ (s : Handle × Fields). s.1) l)) (sym are) only,
      subst ServerFits (sym leaves) (with-end-fits fin.p.circuit _ (with_finish name fin.r y) (end-like e _ refl refl refl (z.ends fin.p.circuit e awaited.0)) z),
    )
      where
        only : AreMessages (finish_reply fin.p ∷ [])
        only zero m at = subst IsMessage (some_is (finish_reply fin.p) m at) (finish-good fin.p put)
        only (suc i) m at = absurd cc
    by (inr (none, are, leaves)) z put = (
      subst (λ (l : List (Handle × Fields)). AreMessages (map (λ (s : Handle × Fields). s.1) l)) (sym are) (λ i m at. absurd cc),
      subst ServerFits (sym leaves) z,
    )

-- ---- records come and go

disconnect-good : (cid : ℕ) → cid < 2 ^ 32 → IsMessage (disconnect cid)
disconnect-good cid lt = message-of (disconnect cid) (omega arith) (omega arith) (omega arith) lt (omega arith) empty-payload

pub removed-good : (y : Server) (name : List ℕ) (gone : Handle → Bool) (left : Handle → ℕ) (h : Handle) → ServerFits y → AreMessages (map (λ (e : Handle × OpenChannel). disconnect e.1.cid) (disconnected_at name gone left h (under y.circuits h)))
removed-good y name gone left h f i m at =
    let b = At-mapped (λ (e : Handle × OpenChannel). disconnect e.1.cid) (disconnected_at name gone left h (under y.circuits h)) i m at in
    subst IsMessage (sym b.2) (disconnect-good b.0.1.cid (by (under y.circuits h) refl i b.0 b.1))
  where
    named-at : (e : ServerEnd) → HasEnd y h e → AllAt (λ (c : Handle × OpenChannel). c.1.cid < 2 ^ 32) (channels_of name e)
    named-at e has = filter-at (λ (c : Handle × OpenChannel). c.1.cid < 2 ^ 32) (λ (c : Handle × OpenChannel). bytes_eq c.1.name name && not c.1.retired) (held e.channels) (λ i c at. (f.ends h e has).channels c.0 c.1 (held-under e.channels i c at))

    by : (o : Option ServerCircuit) → under y.circuits h ≡ o → AllAt (λ (c : Handle × OpenChannel). c.1.cid < 2 ^ 32) (disconnected_at name gone left h o)
    by None there = λ i c at. absurd cc
    by (Some (Ended w l)) there = λ i c at. absurd cc
    by (Some (Open e)) there = go (gone h)
      where
        go : (b : Bool) → AllAt (λ (c : Handle × OpenChannel). c.1.cid < 2 ^ 32) (cond b (take (left h) (channels_of name e)) (channels_of name e))
        go true = take-at (λ (c : Handle × OpenChannel). c.1.cid < 2 ^ 32) (left h) (channels_of name e) (named-at e there)
        go false = named-at e there

pub removes-fits : (y : Server) (name : List ℕ) (gone : Handle → Bool) (left : Handle → ℕ) (new : Server) → Removes y name gone left (Ok tt) new → ServerFits y → ServerFits new
removes-fits y name gone left new (some, may, is) f = subst ServerFits (sym is) (record {
  port = f.port;
  records = withdrawn-fits _ (removed name y.records) (filter-at RecordFits (λ (r : Record). not (bytes_eq r.state.name name)) y.records f.records);
  ends = λ h e has. (let u = each-changed (circuit_without name gone left) y.circuits h (Open e) has in by h e u.0 u.1 u.2);
})
  where
    by : (h : Handle) (e : ServerEnd) (u : ServerCircuit) → under y.circuits h ≡ Some u → Open e ≡ circuit_without name gone left h u → EndFits e
    by h e (Ended w l) there is = absurd (open-ended e w l is)
    by h e (Open d) there is = go (gone h) is
      where
        go : (b : Bool) → Open e ≡ cond b (Ended why.OutOfMemory (d.link.output ++ spelled (take (left h) (disconnects name d)))) (Open (end_without name d)) → EndFits e
        go true is = absurd (open-ended e why.OutOfMemory _ is)
        go false is = subst EndFits (sym (open-one e (end_without name d) is)) (removal-fits name d (f.ends h d there))

pub adds-fits : (y : Server) (s : RecordState) (behind : ℕ) (new : Server) → IsHeldValue s.value → AddsRecord y s behind (Ok tt) new → ServerFits y → ServerFits new
adds-fits y s behind new valued (may, is) f =
    let within : count_of s.value ≤ s.count = may.2.within in
    let limit : s.count ≤ element_limit = may.2.limit in
    subst ServerFits (sym is) (record {
      port = f.port;
      records = append-at RecordFits (take behind y.records) (new_record s ∷ drop behind y.records) (take-at RecordFits behind y.records f.records) (more (new-fits s limit (valued, may.2.one, omega (arith, within, limit))) (drop-at RecordFits behind y.records f.records));
      ends = f.ends;
    })
  where
    more : RecordFits (new_record s) → AllAt RecordFits (drop behind y.records) → AllAt RecordFits (new_record s ∷ drop behind y.records)
    more one rest zero r at = subst RecordFits (some_is (new_record s) r at) one
    more one rest (suc i) r at = rest i r at

-- ---- a new server

pub begins-fits : (port now : ℕ) (rules : List Rule) (states : List RecordState) → port < 2 ^ 16 → ((i : ℕ) (r : RecordState) → At states i r → IsRecord r) → ServerFits (new_server port now rules states)
begins-fits port now rules states lt good = record {
  port = lt;
  records = λ i r at.
      let b = At-mapped new_record states i r at in
      let g = (good i b.0 b.1).value in
      let within : count_of b.0.value ≤ b.0.count = g.within in
      let limit : b.0.count ≤ element_limit = g.limit in
      subst RecordFits (sym b.2) (new-fits b.0 limit ((good i b.0 b.1).valued, g.one, omega (arith, within, limit)));
  ends = λ h e has. absurd (none-under h (Open e) has);
}
