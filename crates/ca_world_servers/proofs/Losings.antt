-- Circuits lose a record that is removed, one after another.
use Rattle.std.proofs.Common.{◌≡◌, ℕ, ◌+◌, ◌*◌, ◌-◌, ◌/◌, zero, suc, ◌<◌, ◌≤◌, ◌==◌, ◌&&◌, ◌||◌, Bool, true, false, not, List, [], ◌∷◌, ◌++◌, length, drop, filter, map, refl, sym, ap, subst, ◌∙◌, arith, inl, inr}
use Rattle.std.specs.Prelude.{if◌then◌else◌, slice_set}
use Rattle.std.specs.Str.{bytes_eq}
use Rattle.std.proofs.lemmas.Bool.{eq-eqb, eqb-true}
use Rattle.std.proofs.Math.Nat.{mul-div_cancel}
use Rattle.ca_queue.specs.declared.entry.SubKey.{SubKey}
use Rattle.ca_queue.specs.Circuit.{queue_without, without_each}
use Rattle.ca_queue.specs.Keys.{is_among, same}
use Rattle.ca_queue.specs.Queue.{Queue, cancelled}
use Rattle.ca_queue.proofs.Images.{cancelled_images}
use Rattle.ca_queue.proofs.Keys.{same_itself}
use Rattle.ca_text.specs.Place.{At}
use Rattle.ca_text.proofs.Places.{At-map, At-set, At-snoc, At-within, some_is}
use Rattle.ca_model.specs.History as history
use Rattle.ca_model.specs.Speech.{In}
use Rattle.ca_model.specs.ServerEvents as event
use Rattle.ca_model.specs.World as model
use Rattle.ca_server_subscriptions.proofs.Sieves.{filter-on, steps-sieve, without-sieve}
use Rattle.ca_world_data.specs.declared.history.Cause.{Cause}
use Rattle.ca_world_data.specs.declared.joined.Joined.{Joined}
use Rattle.ca_world_data.specs.declared.joined.CreatedChannel.{CreatedChannel}
use Rattle.ca_world_data.specs.declared.joined.AddedSubscription.{AddedSubscription}
use Rattle.ca_world_data.specs.declared.server.PutPlace.{PutPlace}
use Rattle.ca_world_data.specs.declared.server.RecordSide.{RecordSide}
use Rattle.ca_world_data.specs.Numbering.{keys_on}
use Rattle.ca_world_data.specs.Seen.{cause_of, creation_of, joined_of, place_of, queue_of, record_of, standing_of, told_of}
use Rattle.ca_world_data.proofs.Counting.{queue_in}
use Rattle.ca_world_data.proofs.Gone.{from-here, map_from}
use Rattle.ca_world_data.proofs.Worlds.{set-map, set-same}
use Rattle.ca_world_servers.specs.declared.losing.Leading.{Leading}
use Rattle.ca_world_servers.specs.Handling.{without_sid}
use Rattle.ca_world_servers.specs.Losing.{AreSeated, dropped, is_lost, lost_told, removed_all, withdrawn_entries, without_lost}

-- ---- records

pub records-left : (name : List ℕ) (rs : List RecordSide) → map record_of (filter (λ (r : RecordSide). not (bytes_eq r.name.items name)) rs) ≡ filter (λ (r : model.RecordSide). not (bytes_eq r.name name)) (map record_of rs)
records-left name [] = refl
records-left name (r ∷ rs) = go (bytes_eq r.name.items name) (records-left name rs)
  where
    kept : List RecordSide
    kept = filter (λ (x : RecordSide). not (bytes_eq x.name.items name)) rs

    left : List model.RecordSide
    left = filter (λ (x : model.RecordSide). not (bytes_eq x.name name)) (map record_of rs)

    go : (b : Bool) → map record_of kept ≡ left → map record_of (if not b then r ∷ kept else kept) ≡ (if not b then record_of r ∷ left else left)
    go true same = same
    go false same = ap (λ (t : List model.RecordSide). record_of r ∷ t) same

-- ---- circuits

pub same-set : (ks : List Joined) (i : ℕ) (j new : Joined) → At ks i j → joined_of new ≡ joined_of j → map joined_of (slice_set ks i new) ≡ map joined_of ks
same-set ks i j new at is =
    set-map joined_of ks i new ∙ ap (slice_set (map joined_of ks) i) is ∙ set-same (map joined_of ks) i (joined_of j) (At-map joined_of ks i j at)

-- one more is ready
pub ready-next : (R : Joined → Leading → Type 0) (ks : List Joined) (ls more : List Leading) (i : ℕ) (new : Joined) (x : Leading)
    → ((k : ℕ) (j : Joined) (l : Leading) → At ks k j → At ls k l → R j l) → length ls ≡ i → more ≡ ls ++ x ∷ [] → R new x
    → (k : ℕ) (j : Joined) (l : Leading) → At (slice_set ks i new) k j → At more k l → R j l
ready-next R ks ls more i new x each long is one k j l there at = elim (At-set ks i new k j there) [
  | inl here ↦ elim (At-snoc ls x k l (subst (λ (z : List Leading). At z k l) is at)) [
    | inl old ↦ (let lt : k < length ls = At-within ls k l old in let e : k ≡ i = here.0 in absurd (omega (arith, lt, e, long)))
    | inr last ↦ subst (λ (z : Joined × Leading). R z.0 z.1) (λ t. (sym here.1 t, sym last.1 t)) one
  ]
  | inr other ↦ elim (At-snoc ls x k l (subst (λ (z : List Leading). At z k l) is at)) [
    | inl old ↦ each k j l other.0 old
    | inr last ↦ absurd (other.1 (last.0 ∙ long))
  ]
]

-- n messages of 16 bytes
pub sixteenths : (waited n all : ℕ) → waited + 16 * n ≡ all → (all - waited) / 16 ≡ n
sixteenths waited n all is =
    let left : all - waited ≡ n * 16 = omega (arith, is) in
    let some : 0 < 16 = omega arith in
    ap (λ (z : ℕ). z / 16) left ∙ mul-div_cancel n some

-- ---- queues

-- a subscription that is cancelled
pub cancels-next : (key : SubKey) (i : ℕ) (ws : List (Queue (ℕ × Cause) × Bool)) (w new : Queue (ℕ × Cause) × Bool) → At ws i w → new.0 ≡ cancelled key w.0
    → map_from (i + 1) (cancelled key) (map queue_in (slice_set ws i new)) ≡ map_from i (cancelled key) (map queue_in ws)
cancels-next key i ws w new at is =
    let one : queue_in new ≡ cancelled key (queue_in w) = ap queue_of is ∙ sym (cancelled_images (λ (item : ℕ × Cause). (item.0, cause_of item.1)) key w.0) in
    ap (map_from (i + 1) (cancelled key)) (set-map queue_in ws i new ∙ ap (slice_set (map queue_in ws) i) one)
    ∙ from-here i (cancelled key) (map queue_in ws) (queue_in w) (At-map queue_in ws i w at)

-- one more subscription of a row
pub drops-next : {E : Type 0} (gone : SubKey → Bool) (key : SubKey) (keys : List SubKey) (qs new : List (Queue E)) → new ≡ map (λ (q : Queue E). if gone key then cancelled key q else q) qs
    → map (dropped gone keys) new ≡ map (dropped gone (key ∷ keys)) qs
drops-next {E} gone key keys qs new is = ap (map (dropped gone keys)) is ∙ both qs
  where
    both : (qs : List (Queue E)) → map (dropped gone keys) (map (λ (q : Queue E). if gone key then cancelled key q else q) qs) ≡ map (dropped gone (key ∷ keys)) qs
    both [] = refl
    both (q ∷ qs) = ap (λ (t : List (Queue E)). dropped gone keys (if gone key then cancelled key q else q) ∷ t) (both qs)

pub drops-none : {E : Type 0} (gone : SubKey → Bool) (qs : List (Queue E)) → map (dropped gone []) qs ≡ qs
drops-none gone [] = refl
drops-none gone (q ∷ qs) = ap (λ (t : List (Queue _)). q ∷ t) (drops-none gone qs)

-- a row is passed: nothing is left of it
pub drops-all : {E : Type 0} (gone : SubKey → Bool) (i : ℕ) (ss : List AddedSubscription) (qs : List (Queue E)) → length ss ≤ i → map (dropped gone (map (λ (s : AddedSubscription). s.key) (drop i ss))) qs ≡ qs
drops-all {E} gone i ss qs over = ap (λ (rest : List AddedSubscription). map (dropped gone (map (λ (s : AddedSubscription). s.key) rest)) qs) (none i ss over) ∙ drops-none gone qs
  where
    none : (i : ℕ) (ss : List AddedSubscription) → length ss ≤ i → drop i ss ≡ []
    none zero [] le = refl
    none zero (s ∷ ss) le = absurd (omega (arith, le))
    none (suc i) [] le = refl
    none (suc i) (s ∷ ss) le = none i ss (omega (arith, le))

-- the one at a place of a row
pub drops-here : {E : Type 0} (gone : SubKey → Bool) (i : ℕ) (ss : List AddedSubscription) (s : AddedSubscription) (qs new : List (Queue E)) → At ss i s → new ≡ map (λ (q : Queue E). if gone s.key then cancelled s.key q else q) qs
    → map (dropped gone (map (λ (x : AddedSubscription). x.key) (drop (i + 1) ss))) new ≡ map (dropped gone (map (λ (x : AddedSubscription). x.key) (drop i ss))) qs
drops-here {E} gone i ss s qs new at is =
    drops-next gone s.key (map (λ (x : AddedSubscription). x.key) (drop (i + 1) ss)) qs new is
    ∙ ap (λ (rest : List AddedSubscription). map (dropped gone (map (λ (x : AddedSubscription). x.key) rest)) qs) (sym (here i ss at))
  where
    here : (i : ℕ) (ss : List AddedSubscription) → At ss i s → drop i ss ≡ s ∷ drop (i + 1) ss
    here i [] at = absurd cc
    here zero (x ∷ ss) at = ap (λ (z : AddedSubscription). z ∷ ss) (some_is x s at)
    here (suc i) (x ∷ ss) at = (let e : suc i + 1 ≡ suc (i + 1) = omega arith in here i ss at ∙ ap (λ (k : ℕ). s ∷ drop k (x ∷ ss)) (sym e))

pub cancels-it : {E : Type 0} (gone : SubKey → Bool) (key : SubKey) (qs new : List (Queue E)) → gone key ≡ true → new ≡ map (cancelled key) qs → new ≡ map (λ (q : Queue E). if gone key then cancelled key q else q) qs
cancels-it {E} gone key qs new is so = so ∙ ap (λ (b : Bool). map (λ (q : Queue E). if b then cancelled key q else q) qs) (sym is)

pub cancels-none : {E : Type 0} (gone : SubKey → Bool) (key : SubKey) (qs : List (Queue E)) → gone key ≡ false → qs ≡ map (λ (q : Queue E). if gone key then cancelled key q else q) qs
cancels-none {E} gone key qs is = sym (ap (λ (b : Bool). map (λ (q : Queue E). if b then cancelled key q else q) qs) is ∙ all qs)
  where
    all : (qs : List (Queue E)) → map (λ (q : Queue E). q) qs ≡ qs
    all [] = refl
    all (q ∷ qs) = ap (λ (t : List (Queue E)). q ∷ t) (all qs)

-- one of these keys is among them
pub among-at : (keys : List SubKey) (i : ℕ) (k : SubKey) → At keys i k → is_among k keys ≡ true
among-at [] i k at = absurd cc
among-at (x ∷ keys) zero k at = ap (λ (b : Bool). b || is_among k keys) (subst (λ (z : SubKey). same k z ≡ true) (sym (some_is x k at)) (same_itself k))
among-at (x ∷ keys) (suc i) k at = ap (λ (b : Bool). same k x || b) (among-at keys i k at) ∙ last (same k x)
  where
    last : (b : Bool) → (b || true) ≡ true
    last true = refl
    last false = refl

-- the subscriptions of a row, all of which a queue has that are in it, and no others wait there
pub drops-without : {E : Type 0} (gone : SubKey → Bool) (keys : List SubKey) (q : Queue E) → ((k : SubKey) → is_among k q.subscriptions ≡ true → is_among k keys ≡ true)
    → ((w : SubKey × E) → In q.waiting w → is_among w.0 q.subscriptions ≡ true) → dropped gone keys q ≡ queue_without gone q
drops-without {E} gone keys q stand known =
    steps-sieve gone keys q ∙ (λ t. record {
      waiting = filter-on (λ (w : SubKey × E). not (gone w.0 && is_among w.0 keys)) (λ (w : SubKey × E). not (gone w.0 && is_among w.0 q.subscriptions)) q.waiting (λ i w at. ap not (agree w.0 (known w (i, at)))) t;
      subscriptions = filter-on (λ (k : SubKey). not (gone k && is_among k keys)) (λ (k : SubKey). not (gone k && is_among k q.subscriptions)) q.subscriptions (λ i k at. ap not (agree k (among-at q.subscriptions i k at))) t;
      events_on = q.events_on;
    })
    ∙ sym (without-sieve gone q)
  where
    agree : (k : SubKey) → is_among k q.subscriptions ≡ true → (gone k && is_among k keys) ≡ (gone k && is_among k q.subscriptions)
    agree k has = ap (λ (b : Bool). gone k && b) (stand k has ∙ sym has)

pub each-dropped : {E : Type 0} (gone : SubKey → Bool) (keys : List SubKey) (qs : List (Queue E)) → ((n : ℕ) (q : Queue E) (k : SubKey) → At qs n q → is_among k q.subscriptions ≡ true → is_among k keys ≡ true)
    → ((n : ℕ) (q : Queue E) (w : SubKey × E) → At qs n q → In q.waiting w → is_among w.0 q.subscriptions ≡ true) → map (dropped gone keys) qs ≡ without_each gone qs
each-dropped gone keys [] stand known = refl
each-dropped gone keys (q ∷ qs) stand known =
    let here = drops-without gone keys q (λ k has. stand 0 q k refl has) (λ w waits. known 0 q w refl waits) in
    let rest = each-dropped gone keys qs (λ n r k at has. stand (suc n) r k at has) (λ n r w at waits. known (suc n) r w at waits) in
    λ t. here t ∷ rest t

-- one subscription is cancelled, and no others wait than those that the queue has
pub one-cancelled : {E : Type 0} (key : SubKey) (q : Queue E) → ((w : SubKey × E) → In q.waiting w → is_among w.0 q.subscriptions ≡ true) → cancelled key q ≡ queue_without (same key) q
one-cancelled {E} key q known =
    (λ t. record {
      waiting = filter-on (λ (w : SubKey × E). not (same key w.0)) (λ (w : SubKey × E). not (same key w.0 && is_among w.0 q.subscriptions)) q.waiting (λ i w at. ap not (agree w.0 (known w (i, at)))) t;
      subscriptions = filter-on (λ (k : SubKey). not (same key k)) (λ (k : SubKey). not (same key k && is_among k q.subscriptions)) q.subscriptions (λ i k at. ap not (agree k (among-at q.subscriptions i k at))) t;
      events_on = q.events_on;
    })
    ∙ sym (without-sieve (same key) q)
  where
    alone : (b : Bool) → b ≡ (b && true)
    alone true = refl
    alone false = refl

    agree : (k : SubKey) → is_among k q.subscriptions ≡ true → same key k ≡ (same key k && is_among k q.subscriptions)
    agree k has = alone (same key k) ∙ ap (λ (b : Bool). same key k && b) (sym has)

pub each-cancelled : {E : Type 0} (key : SubKey) (qs : List (Queue E)) → ((n : ℕ) (q : Queue E) (w : SubKey × E) → At qs n q → In q.waiting w → is_among w.0 q.subscriptions ≡ true)
    → map (cancelled key) qs ≡ without_each (same key) qs
each-cancelled key [] known = refl
each-cancelled key (q ∷ qs) known =
    let here = one-cancelled key q (λ w waits. known 0 q w refl waits) in
    let rest = each-cancelled key qs (λ n r w at waits. known (suc n) r w at waits) in
    λ t. here t ∷ rest t

-- ---- a circuit

pub standing-left : (gone : SubKey → Bool) (ss : List AddedSubscription) → map standing_of (filter (λ (s : AddedSubscription). not (gone s.key)) ss) ≡ filter (λ (s : model.Standing). not (gone s.key)) (map standing_of ss)
standing-left gone [] = refl
standing-left gone (s ∷ ss) = go (gone s.key) (standing-left gone ss)
  where
    kept : List AddedSubscription
    kept = filter (λ (x : AddedSubscription). not (gone x.key)) ss

    left : List model.Standing
    left = filter (λ (x : model.Standing). not (gone x.key)) (map standing_of ss)

    go : (b : Bool) → map standing_of kept ≡ left → map standing_of (if not b then s ∷ kept else kept) ≡ (if not b then standing_of s ∷ left else left)
    go true same = same
    go false same = ap (λ (t : List model.Standing). standing_of s ∷ t) same

keys-seen : (ss : List AddedSubscription) → map (λ (s : AddedSubscription). s.key) ss ≡ map (λ (s : model.Standing). s.key) (map standing_of ss)
keys-seen [] = refl
keys-seen (s ∷ ss) = ap (λ (t : List SubKey). s.key ∷ t) (keys-seen ss)

pub loses-so : (j new : Joined) (lost : List (ℕ × ℕ)) → AreSeated (joined_of j)
    → (down : map told_of new.lists.down.items ≡ map told_of j.lists.down.items ++ map (lost_told (map creation_of j.creations.items)) lost)
    → (standing : new.standing.items ≡ filter (λ (s : AddedSubscription). not (is_lost lost s.key)) j.standing.items)
    → (queues : map (λ (q : Queue (ℕ × Cause) × Bool). queue_of q.0) new.queues.items ≡ map (dropped (is_lost lost) (map (λ (s : AddedSubscription). s.key) j.standing.items)) (map (λ (q : Queue (ℕ × Cause) × Bool). queue_of q.0) j.queues.items))
    → joined_of (record j { lists = record j.lists { down = new.lists.down }; standing = new.standing; queues = new.queues }) ≡ without_lost lost (joined_of j)
loses-so j new lost seated down standing queues =
    let gone : SubKey → Bool = is_lost lost in
    let stands = ap (map standing_of) standing ∙ standing-left gone j.standing.items in
    let rows = queues ∙ ap (λ (ks : List SubKey). map (dropped gone ks) (joined_of j).queues) (keys-seen j.standing.items) ∙ each-dropped gone (keys_on (joined_of j)) (joined_of j).queues seated.stand seated.known in
    λ t. record (joined_of j) { lists = record (joined_of j).lists { down = down t }; standing = stands t; queues = rows t }

-- a circuit without the subscriptions that a test names
pub stands-no-more : (gone : SubKey → Bool) (j new : Joined) → map standing_of new.standing.items ≡ filter (λ (s : model.Standing). not (gone s.key)) (map standing_of j.standing.items)
    → map (λ (q : Queue (ℕ × Cause) × Bool). queue_of q.0) new.queues.items ≡ without_each gone (map (λ (q : Queue (ℕ × Cause) × Bool). queue_of q.0) j.queues.items)
    → joined_of (record j { standing = new.standing; queues = new.queues }) ≡ event.without_standing gone (joined_of j)
stands-no-more gone j new stands rows = λ t. record (joined_of j) { standing = stands t; queues = rows t }

pub creations-left : (sid : ℕ) (cs : List CreatedChannel) → map creation_of (filter (λ (c : CreatedChannel). not (c.sid == sid)) cs) ≡ filter (λ (c : model.Creation). not (c.sid == sid)) (map creation_of cs)
creations-left sid [] = refl
creations-left sid (c ∷ cs) = go (c.sid == sid) (creations-left sid cs)
  where
    kept : List CreatedChannel
    kept = filter (λ (x : CreatedChannel). not (x.sid == sid)) cs

    left : List model.Creation
    left = filter (λ (x : model.Creation). not (x.sid == sid)) (map creation_of cs)

    go : (b : Bool) → map creation_of kept ≡ left → map creation_of (if not b then c ∷ kept else kept) ≡ (if not b then creation_of c ∷ left else left)
    go true same = same
    go false same = ap (λ (t : List model.Creation). creation_of c ∷ t) same

-- a circuit without the channel of a SID, and its subscriptions
pub ends-channel : (sid cid : ℕ) (j new : Joined) → AreSeated (joined_of j)
    → (standing : new.standing.items ≡ filter (λ (s : AddedSubscription). not (is_lost ((sid, cid) ∷ []) s.key)) j.standing.items)
    → (queues : map (λ (q : Queue (ℕ × Cause) × Bool). queue_of q.0) new.queues.items ≡ map (dropped (is_lost ((sid, cid) ∷ [])) (map (λ (s : AddedSubscription). s.key) j.standing.items)) (map (λ (q : Queue (ℕ × Cause) × Bool). queue_of q.0) j.queues.items))
    → (creations : new.creations.items ≡ filter (λ (c : CreatedChannel). not (c.sid == sid)) j.creations.items)
    → joined_of (record j { creations = new.creations; standing = new.standing; queues = new.queues }) ≡ without_sid sid (joined_of j)
ends-channel sid cid j new seated standing queues creations =
    let lost : SubKey → Bool = is_lost ((sid, cid) ∷ []) in
    let gone : SubKey → Bool = λ (k : SubKey). k.sid == sid in
    let stands = ap (map standing_of) standing ∙ standing-left lost j.standing.items ∙ (λ t. filter (λ (s : model.Standing). not (one s.key t)) (map standing_of j.standing.items)) in
    let rows = queues ∙ ap (λ (ks : List SubKey). map (dropped lost ks) (joined_of j).queues) (keys-seen j.standing.items)
    ∙ each-dropped lost (keys_on (joined_of j)) (joined_of j).queues seated.stand seated.known ∙ (λ t. without_each (λ (k : SubKey). one k t) (joined_of j).queues) in
    let made = ap (map creation_of) creations ∙ creations-left sid j.creations.items in
    λ t. record (joined_of j) { creations = made t; standing = stands t; queues = rows t }
  where
    alone : (b : Bool) → (b || false) ≡ b
    alone true = refl
    alone false = refl

    both : (a b : Bool) → (a ≡ true → b ≡ true) → (b ≡ true → a ≡ true) → a ≡ b
    both true b to from = sym (to refl)
    both false true to from = from refl
    both false false to from = refl

    turned : (a b : ℕ) → (a == b) ≡ (b == a)
    turned a b = both (a == b) (b == a) (λ is. eq-eqb b a (sym (eqb-true a b is))) (λ is. eq-eqb a b (sym (eqb-true b a is)))

    one : (k : SubKey) → is_lost ((sid, cid) ∷ []) k ≡ (k.sid == sid)
    one k = alone (sid == k.sid) ∙ turned sid k.sid

-- ---- logs

pub removed-told : (name : List ℕ) (rs : List RecordSide) → event.removal_entries name (map record_of rs) ≡ removed_all name rs
removed-told name [] = refl
removed-told name (r ∷ rs) = go (bytes_eq r.name.items name) (removed-told name rs)
  where
    one : model.RecordSide → List history.Entry
    one x = history.Removed x.number ∷ map (λ (p : model.PutPlace). history.Withdrawn p.circuit p.place) x.waiting

    named : List model.RecordSide
    named = filter (λ (x : model.RecordSide). bytes_eq x.name name) (map record_of rs)

    waits : (ps : List PutPlace) → map (λ (p : model.PutPlace). history.Withdrawn p.circuit p.place) (map place_of ps) ≡ withdrawn_entries ps
    waits [] = refl
    waits (p ∷ ps) = ap (λ (t : List history.Entry). history.Withdrawn p.circuit p.place ∷ t) (waits ps)

    go : (b : Bool) → Rattle.std.specs.List.flat_map one named ≡ removed_all name rs
        → Rattle.std.specs.List.flat_map one (if b then record_of r ∷ named else named) ≡ (if b then history.Removed r.number ∷ withdrawn_entries r.waiting.items ++ removed_all name rs else removed_all name rs)
    go true same = (λ t. history.Removed r.number ∷ waits r.waiting.items t ++ same t)
    go false same = same
