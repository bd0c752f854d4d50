-- What a server's core is made of fits messages, whatever its calls do to its ends and records.
use Rattle.std.proofs.Common.{◌≡◌, ℕ, ◌+◌, zero, suc, ◌^◌, ◌<◌, ◌≤◌, inl, inr, Bool, true, false, ◌&&◌, ◌==◌, not, cond, List, [], ◌∷◌, ◌++◌, Option, Some, None, refl, sym, ap, ◌∙◌, subst, arith}
use Rattle.std.specs.List.{fold}
use Rattle.std.specs.Prelude.{drop, filter, map, option_map, replicate, slice_set, take, unwrap_or}
use Rattle.std.specs.Str.{bytes_eq}
use Rattle.ca_arena.specs.Arena.{Place}
use Rattle.ca_arena.specs.declared.handle.Handle.{Handle}
use Rattle.ca_dbr.specs.Elements.{Elements}
use Rattle.ca_ids.specs.Table.{Table, by_wire, under, with_each, with_each_from, with_freed}
use Rattle.ca_queue.specs.declared.entry.SubKey.{SubKey}
use Rattle.ca_queue.specs.Circuit.{queue_posted, queue_without, without_each}
use Rattle.ca_queue.specs.Keys.{is_among, same}
use Rattle.ca_queue.specs.Queue.{Queue, added, cancelled, no_queue, posted, switched, with_front_taken}
use Rattle.ca_queue.specs.Waiting.{has_entry, is_of, may_take, replaces, with_last}
use Rattle.ca_records.specs.declared.puts.Put.{Put}
use Rattle.ca_records.specs.declared.puts.Stamp.{Stamp}
use Rattle.ca_records.specs.Puts.{Record, WaitingPut, finished, new_record, with_record, with_value, with_waiting, withdrawn, without_puts, written_meta}
use Rattle.ca_records.specs.Record.{RecordState}
use Rattle.ca_dbr.specs.declared.value.Meta.{Meta}
use Rattle.ca_text.specs.Limits.{circuit_queues, element_limit}
use Rattle.ca_text.specs.Place.{At}
use Rattle.ca_text.proofs.Places.{At-mapped, At-parts, At-set, At-snoc, some_is}
use Rattle.ca_wire.specs.Fields.{Fields}
use Rattle.ca_wire.specs.Message.{IsMessage}
use Rattle.ca_model.specs.Due.{Action, Adds, Applies}
use Rattle.ca_model.specs.Due as action
use Rattle.ca_model.specs.Server.{OpenChannel, Server, ServerEnd, Subscription, concerns, key_of, new_end, with_post, without_subscriptions}
use Rattle.ca_model.specs.ServerCalls.{channels_of, end_without, is_on, retired}
use Rattle.ca_model.specs.ServerSteps.{Acts, IsPut, Records}
use Rattle.ca_model.specs.Speech.{Stored}
use Rattle.ca_model.proofs.Tables.{at-under, find-at, freed-back, place, under-at}
use Rattle.ca_laws_parts.proofs.ClientsKeep.{none-under}
use Rattle.ca_laws_parts.specs.ServerFits.{AllAt, EndFits, PutFits, QueueFits, RecordFits, ValueFits, WantedFits}
use Rattle.ca_laws_parts.specs.Speaks.{AllHeld}
use Rattle.ca_laws_parts.proofs.DueFits.{ActionFits}
use Rattle.ca_laws_parts.proofs.Fits.{holds-held}
use Rattle.ca_laws_parts.proofs.HearSpeaks.{filtered-at}

-- ---- lists

module _ {A : Type 0} (P : A → Type 0) where
  pub none-at : AllAt P []
  none-at i x at = absurd cc

  pub cons-at : (y : A) (xs : List A) → P y → AllAt P xs → AllAt P (y ∷ xs)
  cons-at y xs one all zero x at = subst P (some_is y x at) one
  cons-at y xs one all (suc i) x at = all i x at

  pub tail-at : (y : A) (xs : List A) → AllAt P (y ∷ xs) → AllAt P xs
  tail-at y xs all i x at = all (suc i) x at

  pub append-at : (xs ys : List A) → AllAt P xs → AllAt P ys → AllAt P (xs ++ ys)
  append-at xs ys front back i x at = elim (At-parts xs ys i x at) [ inl a ↦ front i x a | inr b ↦ back b.0 x b.2 ]

  pub last-at : (xs : List A) (y : A) → AllAt P xs → P y → AllAt P (xs ++ y ∷ [])
  last-at xs y all one i x at = elim (At-snoc xs y i x at) [ inl old ↦ all i x old | inr new ↦ subst P (sym new.1) one ]

  pub set-at : (xs : List A) (k : ℕ) (y : A) → AllAt P xs → P y → AllAt P (slice_set xs k y)
  set-at xs k y all one i x at = elim (At-set xs k y i x at) [ inl new ↦ subst P (sym new.1) one | inr old ↦ all i x old.0 ]

  pub filter-at : (test : A → Bool) (xs : List A) → AllAt P xs → AllAt P (filter test xs)
  filter-at test xs all i x at = (let k = filtered-at test xs i x at in all k.0 x k.1)

  pub take-at : (n : ℕ) (xs : List A) → AllAt P xs → AllAt P (take n xs)
  take-at zero xs all i x at = absurd cc
  take-at (suc n) [] all i x at = absurd cc
  take-at (suc n) (y ∷ xs) all zero x at = all 0 x at
  take-at (suc n) (y ∷ xs) all (suc i) x at = take-at n xs (tail-at y xs all) i x at

  pub drop-at : (n : ℕ) (xs : List A) → AllAt P xs → AllAt P (drop n xs)
  drop-at zero xs all = all
  drop-at (suc n) [] all = none-at
  drop-at (suc n) (y ∷ xs) all = drop-at n xs (tail-at y xs all)

pub map-at : {A B : Type 0} (P : A → Type 0) (Q : B → Type 0) (f : A → B) (xs : List A) → ((x : A) → P x → Q (f x)) → AllAt P xs → AllAt Q (map f xs)
map-at P Q f xs each all i y at = (let b = At-mapped f xs i y at in subst Q (sym b.2) (each b.0 (all i b.0 b.1)))

-- ---- queues

abbrev Waits : Type 0
Waits = SubKey × Stored

abbrev Good : Waits → Type 0
Good x = ValueFits x.1.value

last-fits : (key : SubKey) (v : Stored) (q : List Waits) → ValueFits v.value → AllAt Good q → AllAt Good (with_last key v q)
last-fits key v [] one all = all
last-fits key v (w ∷ q) one all = go (is_of key w && not (has_entry key q)) (last-fits key v q one (tail-at Good w q all))
  where
    go : (b : Bool) → AllAt Good (with_last key v q) → AllAt Good (cond b ((key, v) ∷ q) (w ∷ with_last key v q))
    go true rest = cons-at Good (key, v) q one (tail-at Good w q all)
    go false rest = cons-at Good w (with_last key v q) (all 0 w refl) rest

pub posted-fits : (key : SubKey) (v : Stored) (q : Queue Stored) → ValueFits v.value → QueueFits q → QueueFits (posted key v q)
posted-fits key v q one all = go (replaces q.events_on key q.waiting)
  where
    go : (b : Bool) → AllAt Good (cond b (with_last key v q.waiting) (q.waiting ++ (key, v) ∷ []))
    go true = last-fits key v q.waiting one all
    go false = last-at Good q.waiting (key, v) all one

queue-posted-fits : (key : SubKey) (v : Stored) (q : Queue Stored) → ValueFits v.value → QueueFits q → QueueFits (queue_posted key v q)
queue-posted-fits key v q one all = go (is_among key q.subscriptions)
  where
    go : (b : Bool) → QueueFits (cond b (posted key v q) q)
    go true = posted-fits key v q one all
    go false = all

pub taken-fits : (q : Queue Stored) → QueueFits q → QueueFits (with_front_taken q)
taken-fits q all = go (may_take q.events_on q.waiting)
  where
    go : (b : Bool) → AllAt Good (cond b (drop 1 q.waiting) q.waiting)
    go true = drop-at Good 1 q.waiting all
    go false = all

without-fits : (gone : SubKey → Bool) (ks : List SubKey) (q : Queue Stored) → QueueFits q → QueueFits (fold (λ (r : Queue Stored) (k : SubKey). cond (gone k) (cancelled k r) r) q ks)
without-fits gone [] q all = all
without-fits gone (k ∷ ks) q all = without-fits gone ks (cond (gone k) (cancelled k q) q) (go (gone k))
  where
    go : (b : Bool) → QueueFits (cond b (cancelled k q) q)
    go true = filter-at Good (λ (w : Waits). not (is_of k w)) q.waiting all
    go false = all

queues-without : (gone : SubKey → Bool) (qs : List (Queue Stored)) → AllAt QueueFits qs → AllAt QueueFits (without_each gone qs)
queues-without gone qs all = map-at QueueFits QueueFits (queue_without gone) qs (λ q fit. without-fits gone q.subscriptions q fit) all

-- ---- ends

-- the link plays no part
pub end-like : (e f : ServerEnd) → f.channels ≡ e.channels → f.subscriptions ≡ e.subscriptions → f.queues ≡ e.queues → EndFits e → EndFits f
end-like e f channels subscriptions queues fit = record {
  channels = subst (λ (t : Table OpenChannel). AllHeld (λ (c : OpenChannel). c.cid < 2 ^ 32) t) (sym channels) fit.channels;
  subscriptions = subst (λ (l : List Subscription). AllAt (λ (s : Subscription). WantedFits s.wanted) l) (sym subscriptions) fit.subscriptions;
  queues = subst (λ (l : List (Queue Stored)). AllAt QueueFits l) (sym queues) fit.queues;
}

pub new-end-fits : (now : ℕ) → EndFits (new_end now)
new-end-fits now = record {
  channels = λ h c is. absurd (none-under h c is);
  subscriptions = λ i s at. absurd cc;
  queues = blank circuit_queues;
}
  where
    blank : (n : ℕ) → AllAt QueueFits (replicate n no_queue)
    blank zero i q at = absurd cc
    blank (suc n) zero q at = subst QueueFits (some_is no_queue q at) (λ i x at. absurd cc)
    blank (suc n) (suc i) q at = blank n i q at

pub post-fits : (name : List ℕ) (mask : ℕ) (v : Stored) (e : ServerEnd) → ValueFits v.value → EndFits e → EndFits (with_post name mask v e)
post-fits name mask v e one fit = record { channels = fit.channels; subscriptions = fit.subscriptions; queues = all (filter (concerns name mask) e.subscriptions) e.queues fit.queues }
  where
    all : (ss : List Subscription) (qs : List (Queue Stored)) → AllAt QueueFits qs → AllAt QueueFits (fold (λ (qs : List (Queue Stored)) (s : Subscription). map (queue_posted (key_of s) v) qs) qs ss)
    all [] qs h = h
    all (s ∷ ss) qs h = all ss (map (queue_posted (key_of s) v) qs) (map-at QueueFits QueueFits (queue_posted (key_of s) v) qs (λ q f. queue-posted-fits (key_of s) v q one f) h)

pub end-without-fits : (gone : SubKey → Bool) (e : ServerEnd) → EndFits e → EndFits (without_subscriptions gone e)
end-without-fits gone e fit = record {
  channels = fit.channels;
  subscriptions = filter-at (λ (s : Subscription). WantedFits s.wanted) (λ (s : Subscription). not (gone (key_of s))) e.subscriptions fit.subscriptions;
  queues = queues-without gone e.queues fit.queues;
}

-- ---- each of a table changed, by its handle

module _ {T : Type 0} where
  each-back-from : (i : ℕ) (f : Handle → T → T) (t : Table T) (k : ℕ) (q : Place T) → At (with_each_from i f t) k q → (p : Place T) × At t k p × (q ≡ record p { value = option_map (f (record { index = i + k; generation = p.generation })) p.value })
  each-back-from i f [] k q at = absurd cc
  each-back-from i f (p ∷ t) zero q at = (
    p,
    refl,
    sym (some_is _ q at)
        ∙ (let n : i ≡ i + 0 = omega arith in ap (λ (m : ℕ). let z : Place T = record p { value = option_map (f (record { index = m; generation = p.generation })) p.value } in z) n),
  )
  each-back-from i f (p ∷ t) (suc k) q at =
      let r = each-back-from (i + 1) f t k q at in
      let n : i + 1 + k ≡ i + suc k = omega arith in
      (r.0, r.1, r.2 ∙ ap (λ (m : ℕ). let z : Place T = record r.0 { value = option_map (f (record { index = m; generation = r.0.generation })) r.0.value } in z) n)

  some-from : (f : T → T) (o : Option T) (v : T) → option_map f o ≡ Some v → (u : T) × (o ≡ Some u) × (v ≡ f u)
  some-from f None v is = absurd cc
  some-from f (Some u) v is = (u, refl, sym (some_is (f u) v is))

  -- what is under a handle in a table with each changed
  pub each-changed : (f : Handle → T → T) (t : Table T) (h : Handle) (v : T) → under (with_each f t) h ≡ Some v → (u : T) × (under t h ≡ Some u) × (v ≡ f h u)
  each-changed f t h v is =
      let r = each-back-from 0 f t h.index (place h v) (under-at (with_each f t) h v is) in
      let generation : h.generation ≡ r.0.generation = ap (λ (p : Place T). p.generation) r.2 in
      let handle : (let g : Handle = record { index = 0 + h.index; generation = r.0.generation } in g) ≡ h = (let zero_of : 0 + h.index ≡ h.index = omega arith in (λ i. let g : Handle = record { index = zero_of i; generation = sym generation i } in g)) in
      let value : option_map (f h) r.0.value ≡ Some v = ap (λ (g : Handle). option_map (f g) r.0.value) (sym handle) ∙ sym (ap (λ (p : Place T). p.value) r.2) in
      let u = some-from (f h) r.0.value v value in
      let there : r.0 ≡ place h u.0 = (λ i. let z : Place T = record { generation = sym generation i; value = u.1 i } in z) in
      (u.0, at-under t h u.0 (subst (λ (p : Place T). At t h.index p) there r.1), u.2)

pub removal-fits : (name : List ℕ) (e : ServerEnd) → EndFits e → EndFits (end_without name e)
removal-fits name e fit =
    end-without-fits (is_on (channels_of name e)) _ (record {
      channels = λ h c is. (let u = each-changed (retired name) e.channels h c is in subst (λ (x : OpenChannel). x.cid < 2 ^ 32) (sym u.2) (fit.channels h u.0 u.1));
      subscriptions = fit.subscriptions;
      queues = fit.queues;
    })

-- ---- what a message makes of an end

pub acts-fits : (y : Server) (e new : ServerEnd) (did : Action) → AllAt RecordFits y.records → ActionFits did → Acts y e did new → EndFits e → EndFits new
acts-fits y e new action.Nothing records one is fit = subst EndFits (sym is) fit
acts-fits y e new (Applies name value busies) records one is fit = subst EndFits (sym is) fit
acts-fits y e new (action.Waits name value) records one is fit = subst EndFits (sym is) fit
acts-fits y e new action.Greets records one is fit = subst EndFits (sym is) (end-like e _ refl refl refl fit)
acts-fits y e new (action.Names p) records one is fit = subst EndFits (sym is) (end-like e _ refl refl refl fit)
acts-fits y e new (action.Opens c) records one (h, may, wire, is) fit =
    subst EndFits (sym is) (record {
      channels = holds-held (λ (c : OpenChannel). c.cid < 2 ^ 32) e.channels h _ may fit.channels one;
      subscriptions = fit.subscriptions;
      queues = fit.queues;
    })
acts-fits y e new (action.Clears sid) records one is fit =
    subst EndFits (sym is) (end-without-fits (λ (k : SubKey). k.sid == sid) _ (record {
      channels = go (by_wire e.channels sid);
      subscriptions = fit.subscriptions;
      queues = fit.queues;
    }))
  where
    go : (o : Option (Handle × OpenChannel)) → AllHeld (λ (c : OpenChannel). c.cid < 2 ^ 32) (unwrap_or (option_map (λ (c : Handle × OpenChannel). with_freed c.0 e.channels) o) e.channels)
    go None = fit.channels
    go (Some c) = λ h d is. fit.channels h d (freed-back e.channels h c.0 d is).1
acts-fits y e new (Adds s) records one (r, named, takes) fit =
    let f = find-at (λ (r : Record). bytes_eq r.state.name s.name) y.records r named in
    let value : ValueFits r.state.value = (records f.0 r f.1).value in
    subst EndFits (sym takes.leaves) (record {
      channels = fit.channels;
      subscriptions = last-at (λ (s : Subscription). WantedFits s.wanted) e.subscriptions s fit.subscriptions one;
      queues = set-at QueueFits e.queues takes.place _ fit.queues (posted-fits (key_of s) _ (added (key_of s) takes.q) value (fit.queues takes.place takes.q takes.at));
    })
acts-fits y e new (action.Drops key) records one is fit = subst EndFits (sym is) (end-without-fits (same key) e fit)
acts-fits y e new (action.Switches on) records one is fit =
    subst EndFits (sym is) (record { channels = fit.channels; subscriptions = fit.subscriptions; queues = map-at QueueFits QueueFits (switched on) e.queues (λ q f. f) fit.queues })

-- ---- records

pub changed-fits : (name : List ℕ) (f : Record → Record) (rs : List Record) → ((r : Record) → RecordFits r → RecordFits (f r)) → AllAt RecordFits rs → AllAt RecordFits (with_record name f rs)
changed-fits name f rs one all = map-at RecordFits RecordFits (λ (r : Record). cond (bytes_eq r.state.name name) (f r) r) rs (λ r fit. go (bytes_eq r.state.name name) r fit) all
  where
    go : (b : Bool) (r : Record) → RecordFits r → RecordFits (cond b (f r) r)
    go true r fit = one r fit
    go false r fit = fit

pub value-fits : (v : Elements) (meta : Meta) (r : Record) → ValueFits v → RecordFits r → RecordFits (with_value v meta r)
value-fits v meta r one fit = record { count = fit.count; value = one; busy = fit.busy; waiting = fit.waiting }

busied-fits : (v : Elements) (meta : Meta) (p : Put) (r : Record) → ValueFits v → PutFits p → RecordFits r → RecordFits (record (with_value v meta r) { busy = Some p })
busied-fits v meta p r one put fit = record { count = fit.count; value = one; busy = λ q is. subst PutFits (some_is p q is) put; waiting = fit.waiting }

pub withdrawn-fits : (which : Put → Bool) (rs : List Record) → AllAt RecordFits rs → AllAt RecordFits (withdrawn which rs)
withdrawn-fits which rs all =
    map-at RecordFits RecordFits (without_puts which) rs (λ r fit. record {
      count = fit.count;
      value = fit.value;
      busy = fit.busy;
      waiting = filter-at (λ (w : WaitingPut). PutFits w.put × ValueFits w.value) (λ (p : WaitingPut). not (which p.put)) r.waiting fit.waiting;
    }) all

pub finished-fits : (s : Stamp) (r : Record) → RecordFits r → RecordFits (finished s r r.waiting)
finished-fits s r fit = go r.waiting fit.waiting
  where
    go : (ps : List WaitingPut) → AllAt (λ (w : WaitingPut). PutFits w.put × ValueFits w.value) ps → RecordFits (finished s r ps)
    go [] all = record { count = fit.count; value = fit.value; busy = λ p is. absurd cc; waiting = all }
    go (p ∷ ps) all = record {
      count = fit.count;
      value = (all 0 p refl).1;
      busy = λ q is. subst PutFits (some_is p.put q is) (all 0 p refl).0;
      waiting = tail-at (λ (w : WaitingPut). PutFits w.put × ValueFits w.value) p ps all;
    }

pub new-fits : (s : RecordState) → s.count ≤ element_limit → ValueFits s.value → RecordFits (new_record s)
new-fits s count value = record { count = count; value = value; busy = λ p is. absurd cc; waiting = λ i w at. absurd cc }

put-fits : (h : Handle) (e : ServerEnd) (m : Fields) (p : Put) → IsMessage m → IsPut h e m p → PutFits p
put-fits h e m p good (c, at, is) = subst PutFits (sym is) (good.header.data_type, good.header.count, good.header.p2)

pub records-fits : (y : Server) (h : Handle) (e : ServerEnd) (m : Fields) (did : Action) (new : Server) → IsMessage m → ActionFits did → Records y h e m did new → AllAt RecordFits y.records → AllAt RecordFits new.records × (new.port ≡ y.port)
records-fits y h e m (Applies name value false) new good one is all =
    subst (λ (z : Server). AllAt RecordFits z.records × (z.port ≡ y.port)) (sym is) (changed-fits name (with_value value (written_meta value y.stamp)) y.records (λ r fit. value-fits value (written_meta value y.stamp) r one fit) all, refl)
records-fits y h e m (Applies name value true) new good one (p, put, is) all =
    subst (λ (z : Server). AllAt RecordFits z.records × (z.port ≡ y.port)) (sym is)
    (changed-fits name (λ (r : Record). record (with_value value (written_meta value y.stamp) r) { busy = Some p }) y.records (λ r fit. busied-fits value (written_meta value y.stamp) p r one (put-fits h e m p good put) fit) all, refl)
records-fits y h e m (action.Waits name value) new good one (p, put, is) all =
    let w : WaitingPut = record { put = p; value = value } in
    subst (λ (z : Server). AllAt RecordFits z.records × (z.port ≡ y.port)) (sym is) (
      changed-fits name (with_waiting w) y.records (λ r fit. record {
        count = fit.count;
        value = fit.value;
        busy = fit.busy;
        waiting = last-at (λ (w : WaitingPut). PutFits w.put × ValueFits w.value) r.waiting w fit.waiting (put-fits h e m p good put, one);
      }) all,
      refl,
    )
records-fits y h e m (action.Clears sid) new good one is all = subst (λ (z : Server). AllAt RecordFits z.records × (z.port ≡ y.port)) (sym is) (withdrawn-fits _ y.records all, refl)
records-fits y h e m action.Nothing new good one is all = subst (λ (z : Server). AllAt RecordFits z.records × (z.port ≡ y.port)) (sym is) (all, refl)
records-fits y h e m action.Greets new good one is all = subst (λ (z : Server). AllAt RecordFits z.records × (z.port ≡ y.port)) (sym is) (all, refl)
records-fits y h e m (action.Names x) new good one is all = subst (λ (z : Server). AllAt RecordFits z.records × (z.port ≡ y.port)) (sym is) (all, refl)
records-fits y h e m (action.Opens x) new good one is all = subst (λ (z : Server). AllAt RecordFits z.records × (z.port ≡ y.port)) (sym is) (all, refl)
records-fits y h e m (Adds x) new good one is all = subst (λ (z : Server). AllAt RecordFits z.records × (z.port ≡ y.port)) (sym is) (all, refl)
records-fits y h e m (action.Drops x) new good one is all = subst (λ (z : Server). AllAt RecordFits z.records × (z.port ≡ y.port)) (sym is) (all, refl)
records-fits y h e m (action.Switches x) new good one is all = subst (λ (z : Server). AllAt RecordFits z.records × (z.port ≡ y.port)) (sym is) (all, refl)
