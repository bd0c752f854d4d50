-- An end loses a record: the SERVER_DISCONNs of its channels, and then the channels with their
-- subscriptions, one after another.
use Rattle.std.proofs.Common.{◌≡◌, ◌≢◌, ℕ, zero, suc, ◌+◌, ◌<◌, ◌≤◌, ◌==◌, ◌&&◌, ◌||◌, Bool, true, false, not, cond, List, [], ◌∷◌, ◌++◌, length, filter, get_or, map, take, Option, Some, None, is_some, slice_set, refl, sym, ap, ◌∙◌, subst, arith, append_assoc, length-append}
use Rattle.std.proofs.Math.Numerals.{add-one}
use Rattle.std.specs.Prelude.{IsSome, option_map}
use Rattle.std.specs.List.{list_any}
use Rattle.std.specs.Str.{bytes_eq}
use Rattle.std.proofs.lemmas.Bool.{eq-eqb, eqb-true}
use Rattle.std.proofs.lemmas.Grind.{flat_map-append}
use Rattle.std.proofs.lemmas.List.{append-nil, length-map, map-append, take_all}
use Rattle.ca_text.specs.Place.{At}
use Rattle.ca_text.proofs.Places.{some_is, At-last, At-map, At-mapped, At-within}
use Rattle.ca_arena.specs.declared.handle.Handle.{Handle}
use Rattle.ca_arena.specs.Arena.{Place}
use Rattle.ca_ids.specs.Table.{Table, held, under, with_changed, with_each_from, with_freed}
use Rattle.ca_ids.specs.Wire.{wire_of}
use Rattle.ca_link.specs.Link.{LinkState, with_sent}
use Rattle.ca_queue.specs.declared.entry.SubKey.{SubKey}
use Rattle.ca_queue.specs.Circuit.{without_each}
use Rattle.ca_wire.specs.Fields.{Fields}
use Rattle.ca_wire.specs.Message.{spelled, spelling}
use Rattle.ca_wire.specs.Messages.{disconnect}
use Rattle.ca_model.specs.Server.{OpenChannel, ServerEnd, Subscription, key_of, without_subscriptions}
use Rattle.ca_model.specs.ServerCalls.{disconnects, end_without, is_on, retired}
use Rattle.ca_server_subscriptions.proofs.Sieves.{each-both, each-false, filter-all, filter-both}
use Rattle.ca_server_subscriptions.specs.Subscribed.{is_of_sid}
use Rattle.ca_server_circuit.specs.ByName.{AreBelow, AreFrom, RetiresLast, channels_to}
use Rattle.ca_server_circuit.specs.Concerned.{ids_of}
use Rattle.ca_server_circuit.specs.Handling.{replied}
use Rattle.ca_server_circuit.specs.Removing.{SendsSome, leads_to, notices, retired_at, without_channel, without_channels, without_record}
use Rattle.ca_server_circuit.proofs.ByName.{changed-is, changed-one, handle, own, own-is, parts-to, retired-are, spot, those, those-more}
use Rattle.ca_server_circuit.proofs.Tables.{listed-under, place, under-at}

abbrev Channels : Type 0
Channels = Table OpenChannel

abbrev Listed : Type 0
Listed = List (Handle × OpenChannel)

-- ---- the channels to a record, with their handles

abbrev pub leading : List ℕ → Channels → Listed
leading name t = filter (leads_to name) (held t)

filtered-at : {X : Type 0} (test : X → Bool) (xs : List X) (i : ℕ) (x : X) → At (filter test xs) i x → (test x ≡ true) × ((j : ℕ) × At xs j x)
filtered-at test [] i x is = absurd cc
filtered-at {X} test (y ∷ xs) i x is = go (test y) refl i is (λ k h. filtered-at test xs k x h)
  where
    go : (b : Bool) → test y ≡ b → (i : ℕ) → At (cond b (y ∷ filter test xs) (filter test xs)) i x → ((k : ℕ) → At (filter test xs) k x → (test x ≡ true) × ((j : ℕ) × At xs j x)) → (test x ≡ true) × ((j : ℕ) × At (y ∷ xs) j x)
    go true hit zero h rest = (let same : y ≡ x = some_is y x h in (ap test (sym same) ∙ hit, (0, h)))
    go true hit (suc k) h rest = (let r = rest k h in (r.0, (suc r.1.0, r.1.1)))
    go false miss k h rest = (let r = rest k h in (r.0, (suc r.1.0, r.1.1)))

at-get : {X : Type 0} (xs : List X) (i : ℕ) (d : X) → i < length xs → At xs i (get_or xs i d)
at-get [] i d lt = absurd (omega (arith, lt))
at-get (x ∷ xs) zero d lt = refl
at-get (x ∷ xs) (suc i) d lt = at-get xs i d (omega (arith, lt))

-- what is at a place in the line is a channel that leads there
pub leads-at : (name : List ℕ) (t : Channels) (i : ℕ) (h : Handle) → At (channels_to name t) i h → (c : OpenChannel) × At (leading name t) i (h, c) × (leads_to name (h, c) ≡ true) × (under t h ≡ Some c)
leads-at name t i h at =
    let m = At-mapped (λ (x : Handle × OpenChannel). x.0) (leading name t) i h at in
    let e : Handle × OpenChannel = (h, m.0.1) in
    let same : m.0 ≡ e = λ j. (sym m.2 j, m.0.1) in
    let there = subst (λ (x : Handle × OpenChannel). At (leading name t) i x) same m.1 in
    let f = filtered-at (leads_to name) (held t) i e there in
    (m.0.1, there, f.0, listed-under t f.1.0 h m.0.1 f.1.1)

pub leads-within : (name : List ℕ) (t : Channels) (i : ℕ) (d : Handle) (all : List Handle) → all ≡ channels_to name t → i < length all → (c : OpenChannel) × At (leading name t) i (get_or all i d, c) × (leads_to name (get_or all i d, c) ≡ true) × (under t (get_or all i d) ≡ Some c)
leads-within name t i d all is lt =
    leads-at name t i (get_or all i d) (subst (λ (hs : List Handle). At hs i (get_or all i d)) is (at-get all i d lt))

pub is-open : (t : Channels) (h : Handle) (c : OpenChannel) → under t h ≡ Some c → IsSome (under t h)
is-open t h c is = ap is_some is

pub cid-is : (t : Channels) (h : Handle) (c : OpenChannel) (cid : ℕ) → under t h ≡ Some c → option_map (λ (x : OpenChannel). x.cid) (under t h) ≡ Some cid → cid ≡ c.cid
cid-is t h c cid is told = sym (some_is c.cid cid (sym (ap (λ (o : Option OpenChannel). option_map (λ (x : OpenChannel). x.cid) o) is) ∙ told))

take-one-more : {X : Type 0} (xs : List X) (i : ℕ) (x : X) → At xs i x → take (i + 1) xs ≡ take i xs ++ x ∷ []
take-one-more {X} xs i x at = ap (λ (n : ℕ). take n xs) (add-one i) ∙ by xs i at
  where
    by : (xs : List X) (i : ℕ) → At xs i x → take (suc i) xs ≡ take i xs ++ x ∷ []
    by [] i at = absurd cc
    by (y ∷ []) zero at = ap (λ (z : X). z ∷ []) (some_is y x at)
    by (y ∷ z ∷ xs) zero at = ap (λ (w : X). w ∷ []) (some_is y x at)
    by (y ∷ xs) (suc i) at = ap (λ (zs : List X). y ∷ zs) (by xs i at)

-- ---- their ids

-- the first n of them are listed
abbrev pub Listed-to : List ℕ → ℕ → Channels → List (ℕ × ℕ) → Type 0
Listed-to name n t all = all ≡ map ids_of (take n (leading name t))

pub listed-more : (name : List ℕ) (n : ℕ) (t : Channels) (h : Handle) (c : OpenChannel) (all next : List (ℕ × ℕ)) (sid cid : ℕ) → At (leading name t) n (h, c) → sid ≡ wire_of h → cid ≡ c.cid → Listed-to name n t all → next ≡ all ++ (sid, cid) ∷ [] → Listed-to name (n + 1) t next
listed-more name n t h c all next sid cid at is named so step =
    step
    ∙ ap (λ (xs : List (ℕ × ℕ)). xs ++ (sid, cid) ∷ []) so
    ∙ (λ i. map ids_of (take n (leading name t)) ++ (is i, named i) ∷ [])
    ∙ sym (map-append ids_of (take n (leading name t)) ((h, c) ∷ []))
    ∙ ap (λ (cs : Listed). map ids_of cs) (sym (take-one-more (leading name t) n (h, c) at))

pub long-enough : (name : List ℕ) (n : ℕ) (t : Channels) (all : List Handle) → all ≡ channels_to name t → length all ≤ n → length (leading name t) ≤ n
long-enough name n t all is past =
    let same = ap (λ (hs : List Handle). length hs) is ∙ length-map (leading name t) (λ (x : Handle × OpenChannel). x.0) in
    omega (arith, same, past)

pub listed-all : (name : List ℕ) (n : ℕ) (t : Channels) (all : List (ℕ × ℕ)) → length (leading name t) ≤ n → Listed-to name n t all → all ≡ map ids_of (leading name t)
listed-all name n t all past so = so ∙ ap (λ (cs : Listed). map ids_of cs) (take_all n (leading name t) past)

pub some-listed : (name : List ℕ) (n : ℕ) (t : Channels) (e : Handle × OpenChannel) → At (leading name t) n e → map ids_of (leading name t) ≢ []
some-listed name n t e at none = by (leading name t) n at none
  where
    by : (cs : Listed) (n : ℕ) → At cs n e → map ids_of cs ≡ [] → ⊥
    by [] n at none = cc
    by (c ∷ cs) n at none = cc

-- ---- what is sent

sent-both : (ms ns : List Fields) (l : LinkState) → with_sent ns (with_sent ms l) ≡ with_sent (ms ++ ns) l
sent-both ms ns l =
    ap (λ (o : List ℕ). let new : LinkState = record l { output = o } in new)
    (append_assoc l.output (spelled ms) (spelled ns) ∙ ap (λ (xs : List ℕ). l.output ++ xs) (sym (flat_map-append spelling ms ns)))

pub sent-none : (l : LinkState) → with_sent [] l ≡ l
sent-none l = ap (λ (o : List ℕ). let new : LinkState = record l { output = o } in new) (append-nil l.output)

-- the first n of them had their SERVER_DISCONNs
abbrev pub Told : List ℕ → ℕ → Channels → LinkState → LinkState → Type 0
Told name n t l now = now ≡ with_sent (take n (notices (leading name t))) l

pub told-more : (name : List ℕ) (n : ℕ) (t : Channels) (l now next : LinkState) (h : Handle) (c : OpenChannel) (notice : Fields) (cid : ℕ) → At (leading name t) n (h, c) → cid ≡ c.cid → notice ≡ disconnect cid → Told name n t l now → next ≡ with_sent (notice ∷ []) now → Told name (n + 1) t l next
told-more name n t l now next h c notice cid at named is told step =
    step
    ∙ ap (λ (x : LinkState). with_sent (notice ∷ []) x) told
    ∙ sent-both (take n (notices (leading name t))) (notice ∷ []) l
    ∙ ap (λ (m : Fields). with_sent (take n (notices (leading name t)) ++ m ∷ []) l) (is ∙ ap (λ (x : ℕ). disconnect x) named)
    ∙ ap (λ (ms : List Fields). with_sent ms l) (sym (take-one-more (notices (leading name t)) n (disconnect c.cid) (At-map (λ (x : Handle × OpenChannel). disconnect x.1.cid) (leading name t) n (h, c) at)))

pub told-all : (name : List ℕ) (n : ℕ) (t : Channels) (l now : LinkState) → length (leading name t) ≤ n → Told name n t l now → now ≡ with_sent (notices (leading name t)) l
told-all name n t l now past told =
    let long = length-map (leading name t) (λ (x : Handle × OpenChannel). disconnect x.1.cid) in
    told ∙ ap (λ (ms : List Fields). with_sent ms l) (take_all n (notices (leading name t)) (omega (arith, long, past)))

pub told-some : (name : List ℕ) (n : ℕ) (t : Channels) (l now : LinkState) (e : Handle × OpenChannel) → At (leading name t) n e → Told name n t l now → SendsSome (notices (leading name t)) l now
told-some name n t l now e at told =
    (n, At-within (notices (leading name t)) n (disconnect e.1.cid) (At-map (λ (x : Handle × OpenChannel). disconnect x.1.cid) (leading name t) n e at), told)

-- ---- subscriptions

pub without-both : (f g : SubKey → Bool) (e : ServerEnd) → without_subscriptions g (without_subscriptions f e) ≡ without_subscriptions (λ (k : SubKey). f k || g k) e
without-both f g e =
    let subs = filter-both (λ (x : Subscription). f (key_of x)) (λ (x : Subscription). g (key_of x)) e.subscriptions in
    let queues = each-both f g e.queues in
    λ i. (let new : ServerEnd = record e { subscriptions = subs i; queues = queues i } in new)

without-none : (e : ServerEnd) → without_subscriptions (λ (k : SubKey). false) e ≡ e
without-none e =
    let subs : filter (λ (x : Subscription). not false) e.subscriptions ≡ e.subscriptions = filter-all (λ (x : Subscription). not false) e.subscriptions (λ i x at. refl) in
    let queues : without_each (λ (k : SubKey). false) e.queues ≡ e.queues = each-false (λ (k : SubKey). false) e.queues (λ i q k at some. refl) in
    λ i. (let new : ServerEnd = record e { subscriptions = subs i; queues = queues i } in new)

-- ---- channels

all-retired : (name : List ℕ) (i : ℕ) (t : Channels) → with_each_from i (retired name) t ≡ map (retired_at name) t
all-retired name i [] = refl
all-retired name i (p ∷ t) = ap (λ (u : Channels). retired_at name p ∷ u) (all-retired name (i + 1) t)

map-set-same : (f : Place OpenChannel → Place OpenChannel) (t : Channels) (i : ℕ) (p q : Place OpenChannel) → At t i p → f q ≡ f p → map f (slice_set t i q) ≡ map f t
map-set-same f [] i p q at same = absurd cc
map-set-same f (r ∷ t) zero p q at same = ap (λ (x : Place OpenChannel). x ∷ map f t) (same ∙ ap f (sym (some_is r p at)))
map-set-same f (r ∷ t) (suc i) p q at same = ap (λ (u : Channels). f r ∷ u) (map-set-same f t i p q at same)

-- a subscription is on one of these
abbrev on_any : List Handle → SubKey → Bool
on_any hs k = list_any (λ (h : Handle). wire_of h == k.sid) hs

on-handles : (cs : Listed) (k : SubKey) → is_on cs k ≡ on_any (map (λ (c : Handle × OpenChannel). c.0) cs) k
on-handles [] k = refl
on-handles (c ∷ cs) k = ap (λ (b : Bool). (wire_of c.0 == k.sid) || b) (on-handles cs k)

any-both : (gs hs : List Handle) (k : SubKey) → on_any (gs ++ hs) k ≡ (on_any gs k || on_any hs k)
any-both [] hs k = refl
any-both (g ∷ gs) hs k = ap (λ (b : Bool). (wire_of g == k.sid) || b) (any-both gs hs k) ∙ by (wire_of g == k.sid)
  where
    by : (b : Bool) → (b || (on_any gs k || on_any hs k)) ≡ ((b || on_any gs k) || on_any hs k)
    by true = refl
    by false = refl

its-sid : (h : Handle) (k : SubKey) → is_of_sid (wire_of h) k ≡ (wire_of h == k.sid)
its-sid h k =
    bools (k.sid == wire_of h) (wire_of h == k.sid)
    (λ e. eq-eqb (wire_of h) k.sid (sym (eqb-true k.sid (wire_of h) e)))
    (λ e. eq-eqb k.sid (wire_of h) (sym (eqb-true (wire_of h) k.sid e)))
  where
    bools : (a b : Bool) → (a ≡ true → b ≡ true) → (b ≡ true → a ≡ true) → a ≡ b
    bools true b f g = sym (f refl)
    bools false true f g = absurd (let e = g refl in cc)
    bools false false f g = refl

-- one that leads to the record is retired, and loses its subscriptions
pub retired-once : (name : List ℕ) (e new : ServerEnd) (h : Handle) (others : List Handle) → channels_to name e.channels ≡ others ++ h ∷ [] → new ≡ without_channel h e → RetiresLast name e true new
retired-once name e new h others last once = (
  ap (λ (x : ServerEnd). without_channels name x) once
      ∙ ap (λ (u : Channels). let x : ServerEnd = record e { channels = u } in without_subscriptions (is_on (leading name changed)) (without_subscriptions (is_of_sid (wire_of h)) x)) (all-retired name 0 changed ∙ unchanged ∙ sym (all-retired name 0 e.channels))
      ∙ without-both (is_of_sid (wire_of h)) (is_on (leading name changed)) all
      ∙ ap (λ (f : SubKey → Bool). without_subscriptions f all) (λ i k. gone k i),
  less,
)
  where
    changed : Channels
    changed = with_changed without_record h e.channels

    all : ServerEnd
    all = record e { channels = with_each_from 0 (retired name) e.channels }

    here : (c : OpenChannel) × At (leading name e.channels) (length others) (h, c) × (leads_to name (h, c) ≡ true) × (under e.channels h ≡ Some c)
    here = leads-at name e.channels (length others) h (subst (λ (hs : List Handle). At hs (length others) h) (sym last) (At-last others h))

    c : OpenChannel
    c = here.0

    there : under e.channels h ≡ Some c
    there = here.3

    changed-to : changed ≡ with_changed (λ (x : OpenChannel). without_record c) h e.channels
    changed-to = changed-one without_record e.channels h c there

    unchanged : map (retired_at name) changed ≡ map (retired_at name) e.channels
    unchanged =
        ap (λ (u : Channels). map (retired_at name) u) (changed-to ∙ changed-is e.channels h c there (without_record c))
        ∙ map-set-same (retired_at name) e.channels h.index (place h c) (place h (without_record c)) (under-at e.channels h c there)
        (ap (λ (b : Bool). let x : OpenChannel = record c { retired = b } in place h x) (by c.retired (bytes_eq c.name name) here.2))
      where
        by : (r b : Bool) → (b && not r) ≡ true → true ≡ (r || b)
        by true b is = refl
        by false true is = refl
        by false false is = absurd cc

    parts : (below from : List Handle) × AreBelow h.index below × AreFrom h.index from × (channels_to name e.channels ≡ below ++ h ∷ from) × (channels_to name (with_freed h e.channels) ≡ below ++ from)
    parts = parts-to e.channels h c there name here.2

    left : channels_to name changed ≡ parts.0 ++ parts.1
    left =
        ap (λ (u : Channels). channels_to name u) changed-to
        ∙ sym (retired-are e.channels h c there (without_record c) name refl)
        ∙ parts.5

    less : length (channels_to name new.channels) < length (channels_to name e.channels)
    less =
        let a = ap (λ (hs : List Handle). length hs) (ap (λ (x : ServerEnd). channels_to name x.channels) once ∙ left) ∙ length-append parts.0 parts.1 in
        let b = ap (λ (hs : List Handle). length hs) parts.4 ∙ length-append parts.0 (h ∷ parts.1) in
        omega (arith, a, b)

    gone : (k : SubKey) → (is_of_sid (wire_of h) k || is_on (leading name changed) k) ≡ is_on (leading name e.channels) k
    gone k =
        (λ i. its-sid h k i || (on-handles (leading name changed) k ∙ ap (λ (hs : List Handle). on_any hs k) left ∙ any-both parts.0 parts.1 k) i)
        ∙ first (wire_of h == k.sid) (on_any parts.0 k) (on_any parts.1 k)
        ∙ sym (on-handles (leading name e.channels) k ∙ ap (λ (hs : List Handle). on_any hs k) parts.4 ∙ any-both parts.0 (h ∷ parts.1) k)
      where
        first : (a b d : Bool) → (a || (b || d)) ≡ (b || (a || d))
        first true true d = refl
        first true false d = refl
        first false b d = refl

-- fewer are left, and the same is to be done
pub last-less : (name : List ℕ) (now new : ServerEnd) (more result : Bool) → more ≡ true → RetiresLast name now result new → length (channels_to name new.channels) + cond result 1 0 < length (channels_to name now.channels) + cond more 1 0
last-less name now new false result is r = absurd cc
last-less name now new true true is r = (let less = r.1 in omega (arith, less))
last-less name now new true false is r = (let same = ap (λ (x : ServerEnd). length (channels_to name x.channels)) r.1 in omega (arith, same))

pub last-same : (name : List ℕ) (e now new : ServerEnd) (result : Bool) → without_channels name now ≡ without_channels name e → RetiresLast name now result new → without_channels name new ≡ without_channels name e
last-same name e now new true so r = r.0 ∙ so
last-same name e now new false so r = ap (λ (x : ServerEnd). without_channels name x) r.1 ∙ so

pub last-none : (name : List ℕ) (now new : ServerEnd) (result : Bool) → RetiresLast name now result new → result ≡ false → channels_to name new.channels ≡ []
last-none name now new true r is = absurd cc
last-none name now new false r is = ap (λ (x : ServerEnd). channels_to name x.channels) r.1 ∙ r.0

-- ---- none is left

no-first : {X : Type 0} (xs ys : List X) → xs ++ ys ≡ [] → xs ≡ []
no-first [] ys none = refl
no-first (x ∷ xs) ys none = absurd cc

no-second : {X : Type 0} (xs ys : List X) → xs ++ ys ≡ [] → ys ≡ []
no-second [] ys none = none
no-second (x ∷ xs) ys none = absurd cc

still-place : (name : List ℕ) (i g : ℕ) (o : Option OpenChannel) → own name i (spot g o) ≡ [] → retired_at name (spot g o) ≡ spot g o
still-place name i g None none = refl
still-place name i g (Some c) none =
    ap (λ (b : Bool). let x : OpenChannel = record c { retired = b } in spot g (Some x))
    (by c.retired (bytes_eq c.name name) (empty (leads_to name (handle i g, c)) (sym (own-is name i g c (leads_to name (handle i g, c)) refl) ∙ none)))
  where
    empty : (b : Bool) → cond b (handle i g ∷ []) [] ≡ [] → b ≡ false
    empty true e = absurd cc
    empty false e = refl

    by : (r b : Bool) → (b && not r) ≡ false → (r || b) ≡ r
    by true b e = refl
    by false true e = absurd cc
    by false false e = refl

still-all : (name : List ℕ) (i : ℕ) (t : Channels) → those name i t ≡ [] → map (retired_at name) t ≡ t
still-all name i [] none = refl
still-all name i (p ∷ t) none =
    let parts = sym (those-more name i p t) ∙ none in
    let here = still-place name i p.generation p.value (no-first (own name i p) (those name (i + 1) t) parts) in
    let rest = still-all name (i + 1) t (no-second (own name i p) (those name (i + 1) t) parts) in
    λ j. here j ∷ rest j

pub retired-all : (name : List ℕ) (e : ServerEnd) → channels_to name e.channels ≡ [] → e ≡ without_channels name e
retired-all name e none =
    sym (
    ap (λ (gone : SubKey → Bool). let x : ServerEnd = record e { channels = with_each_from 0 (retired name) e.channels } in without_subscriptions gone x) (λ i k. on_none k i)
    ∙ without-none (let x : ServerEnd = record e { channels = with_each_from 0 (retired name) e.channels } in x)
    ∙ ap (λ (u : Channels). let x : ServerEnd = record e { channels = u } in x) (all-retired name 0 e.channels ∙ still-all name 0 e.channels none))
  where
    on_none : (k : SubKey) → is_on (leading name e.channels) k ≡ false
    on_none k = on-handles (leading name e.channels) k ∙ ap (λ (hs : List Handle). on_any hs k) none

-- both together
pub loses : (name : List ℕ) (e mid new : ServerEnd) → mid ≡ replied (disconnects name e) e → new ≡ without_channels name mid → new ≡ end_without name e
loses name e mid new told so = so ∙ ap (λ (x : ServerEnd). without_channels name x) told
