-- A record is removed, and one circuit after another loses it.
use Rattle.std.proofs.Common.{◌≡◌, ℕ, zero, suc, ◌+◌, ◌<◌, ◌≤◌, ◌==◌, ◌&&◌, ◌||◌, ◌⊎◌, inl, inr, Bool, true, false, not, cond, nat_lt, List, [], ◌∷◌, ◌++◌, length, filter, take, Option, Some, None, is_some, Ok, Err, refl, sym, ap, ◌∙◌, subst, arith}
use Rattle.std.specs.Str.{bytes_eq}
use Rattle.std.specs.Prelude.{map, option_map, slice_get}
use Rattle.std.proofs.lemmas.Bool.{eq-eqb, ltb-false, ltb-true}
use Rattle.std.proofs.lemmas.Slice.Eq.{bytes_eq-Decides}
use Rattle.ca_arena.specs.declared.handle.Handle.{Handle}
use Rattle.ca_arena.specs.Arena.{Place}
use Rattle.ca_beacon.specs.Clock.{Clock}
use Rattle.ca_ids.specs.Table.{Table, held, same_handle, under, with_changed, with_each, with_each_from}
use Rattle.ca_ids.specs.Wire.{wire_of}
use Rattle.ca_records.specs.declared.puts.Put.{Put}
use Rattle.ca_records.specs.Puts.{Record, WaitingPut, record_named, removed, withdrawn, without_puts}
use Rattle.ca_records.specs.Store.{Store, records_of}
use Rattle.ca_records.specs.Writes as writes
use Rattle.ca_text.specs.declared.refusal.Refusal.{Refusal}
use Rattle.ca_text.specs.declared.refusal.Refusal.TheVariants as refusal
use Rattle.ca_text.specs.Place.{At}
use Rattle.ca_text.proofs.Places.{At-within, some_is}
use Rattle.ca_link.specs.Link.{with_sent}
use Rattle.ca_queue.specs.declared.entry.SubKey.{SubKey}
use Rattle.ca_queue.specs.Circuit.{without_each}
use Rattle.ca_server_watchers.specs.Watching.{AreApart, Clears, IsAmong, Watched, line_of}
use Rattle.ca_wire.specs.Messages.{disconnect}
use Rattle.ca_wire.specs.Message.{spelled}
use Rattle.ca_model.specs.Ends.{Why}
use Rattle.ca_model.specs.Ends as why
use Rattle.ca_model.specs.Server.{Ended, Open, OpenChannel, Server, ServerCircuit, ServerEnd, Subscription, key_of, without_subscriptions}
use Rattle.ca_model.specs.ServerCalls.{Removes, channels_of, circuit_without, disconnects, end_without, is_on, retired}
use Rattle.ca_model.specs.Speech.{In}
use Rattle.ca_server_circuit.specs.Clearing.{ArePuts}
use Rattle.ca_server_core.specs.Covering.{AreListed, Covers, HasTo, IsServer, Leads}
use Rattle.ca_server_circuit.specs.Ending.{WithdrawsAll}
use Rattle.ca_server_core.specs.Removing.{HaveRoom, LosesAll, LosesIn, MayAllLose, MayLoseIn}
use Rattle.ca_server_circuit.specs.Removing.{LosesAt, MayLose, leads_to}
use Rattle.ca_server_circuit.specs.Sound.{EndIsSound}
use Rattle.ca_server_core.specs.Sound.{IsSound}
use Rattle.ca_server_circuit.specs.Subscribing.{AreOnChannels, events_of}
use Rattle.ca_server_subscriptions.specs.Subscribed.{HasRoom}
use Rattle.ca_server_circuit.proofs.Cleared.{is-same, same-is}
use Rattle.ca_server_core.proofs.Covered.{same-watch}
use Rattle.ca_server_core.proofs.Each.{each-back, each-ext, each-length, each-one-more, under-each, withdrawn-both}
use Rattle.ca_server_core.proofs.Listed.{found-withdrawn, listed-kept, none-found}
use Rattle.ca_server_core.proofs.Servers.{became, same-parts, server_of, stayed}
use Rattle.ca_server_circuit.proofs.Stays.{at-filtered, named-still, withdrawn-keeps}
use Rattle.ca_server_core.proofs.Stepped.{each-same, none-gone}
use Rattle.ca_server_circuit.proofs.Taken.{replied-none}
use Rattle.ca_server_circuit.proofs.Tables.{at-under, changed-back, listed-under, none-some, under-listed}
use Rattle.ca_server_subscriptions.proofs.Sieves.{each-false, filter-all}

abbrev Circuits : Type 0
Circuits = Table ServerCircuit

both : {A : Type 0} (b : Bool) → b ≡ true → b ≡ false → A
both true p q = absurd cc
both false p q = absurd cc

open-is : (a b : ServerEnd) → Open a ≡ Open b → a ≡ b
open-is a b e = cc

not-true : (b : Bool) → not b ≡ true → b ≡ false
not-true true e = absurd cc
not-true false e = refl

or-true : (a b : Bool) → (a || b) ≡ true → (a ≡ true) ⊎ (b ≡ true)
or-true true b is = inl refl
or-true false b is = inr is

or-false : (a b : Bool) → (a || b) ≡ false → (a ≡ false) × (b ≡ false)
or-false true b is = absurd cc
or-false false b is = (refl, is)

or-right : (a b : Bool) → b ≡ true → (a || b) ≡ true
or-right true b is = refl
or-right false b is = is

or-none : (a b : Bool) → b ≡ false → (a || b) ≡ a
or-none true b is = refl
or-none false b is = is

-- ---- the records that are left

-- a record of another name is found still
named-left : (name n : List ℕ) (rs : List Record) (r : Record) → bytes_eq n name ≡ false → record_named rs n ≡ Some r → record_named (removed name rs) n ≡ Some r
named-left name n [] r other is = is
named-left name n (x ∷ rs) r other is = by (bytes_eq x.state.name name) (bytes_eq x.state.name n) refl refl (λ h. named-left name n rs r other h)
  where
    by : (a b : Bool) → bytes_eq x.state.name name ≡ a → bytes_eq x.state.name n ≡ b → (record_named rs n ≡ Some r → record_named (removed name rs) n ≡ Some r) → record_named (removed name (x ∷ rs)) n ≡ Some r
    by true true p q rest =
        let mine : x.state.name ≡ name = (bytes_eq-Decides x.state.name name).0 p in
        let its : x.state.name ≡ n = (bytes_eq-Decides x.state.name n).0 q in
        both (bytes_eq n name) ((bytes_eq-Decides n name).1 (sym its ∙ mine)) other
    by true false p q rest =
        ap (λ (b : Bool). record_named (cond (not b) (x ∷ removed name rs) (removed name rs)) n) p
        ∙ rest (sym (ap (λ (b : Bool). cond b (Some x) (record_named rs n)) q) ∙ is)
    by false true p q rest =
        ap (λ (b : Bool). record_named (cond (not b) (x ∷ removed name rs) (removed name rs)) n) p
        ∙ ap (λ (b : Bool). cond b (Some x) (record_named (removed name rs) n)) q
        ∙ sym (ap (λ (b : Bool). cond b (Some x) (record_named rs n)) q) ∙ is
    by false false p q rest =
        ap (λ (b : Bool). record_named (cond (not b) (x ∷ removed name rs) (removed name rs)) n) p
        ∙ ap (λ (b : Bool). cond b (Some x) (record_named (removed name rs) n)) q
        ∙ rest (sym (ap (λ (b : Bool). cond b (Some x) (record_named rs n)) q) ∙ is)

-- what a removal needs of the circuits
pub may-lose : (name : List ℕ) (rs : List Record) (t : Circuits) → IsSound rs t → MayAllLose (removed name rs) t
may-lose name rs t i h (Ended w left) at = tt
may-lose name rs t i h (Open e) at =
    let o = i.ends h e at in (
      o.live,
      (λ j r k w there waits hit.
          let f = at-filtered (λ (x : Record). not (bytes_eq x.state.name name)) rs j r there in
          o.puts f.0 r k w f.1 waits hit),
    )

-- puts that are taken out are none that wait
puts-left : (test : Put → Bool) (h : Handle) (rs : List Record) (t : Table OpenChannel) → ArePuts h rs t → ArePuts h (withdrawn test rs) t
puts-left test h rs t puts i q k w at at' hit =
    let keeps = withdrawn-keeps test (λ (q : Record) (w : WaitingPut). ⊥) rs in
    elim (keeps.1 i q k w at at') [
      | inl old ↦ (let o = old.0 in let p = puts o.0 o.1 o.2 w o.3 o.4 hit in (p.0, p.1, p.2 ∙ o.5, p.3))
      | inr n ↦ absurd n
    ]

still-may : (test : Put → Bool) (rs : List Record) (h : Handle) (c : ServerCircuit) → MayLose rs h c → MayLose (withdrawn test rs) h c
still-may test rs h (Open e) may = (may.0, puts-left test h rs e.channels may.1)
still-may test rs h (Ended w left) may = tt

-- ---- an end with no channel to the record

-- all is kept that no test takes out
none-kept : {A : Type 0} (test : A → Bool) (xs : List A) → ((i : ℕ) (x : A) → At xs i x → test x ≡ false) → filter test xs ≡ []
none-kept test [] fails = refl
none-kept test (x ∷ xs) fails =
    ap (λ (b : Bool). cond b (x ∷ filter test xs) (filter test xs)) (fails 0 x refl) ∙ none-kept test xs (λ i y at. fails (suc i) y at)

each-stays : (f : Handle → OpenChannel → OpenChannel) (n : ℕ) (t : Table OpenChannel) → ((i : ℕ) (p : Place OpenChannel) (c : OpenChannel) → At t i p → p.value ≡ Some c → (h : Handle) → f h c ≡ c) → with_each_from n f t ≡ t
each-stays f n [] same = refl
each-stays f n (p ∷ t) same =
    ap (λ (o : Option OpenChannel). let q : Place OpenChannel = record { generation = p.generation; value = o } in q ∷ with_each_from (n + 1) f t) (by p.value (λ c is. same 0 p c refl is (record { index = n; generation = p.generation })))
    ∙ ap (λ (u : Table OpenChannel). p ∷ u) (each-stays f (n + 1) t (λ i q c at is h. same (suc i) q c at is h))
  where
    by : (o : Option OpenChannel) → ((c : OpenChannel) → o ≡ Some c → f (record { index = n; generation = p.generation }) c ≡ c) → option_map (f (record { index = n; generation = p.generation })) o ≡ o
    by None h = refl
    by (Some c) h = ap (λ (x : OpenChannel). Some x) (h c refl)

without-none : (e : ServerEnd) → without_subscriptions (λ (k : SubKey). false) e ≡ e
without-none e =
    let subs : filter (λ (x : Subscription). not false) e.subscriptions ≡ e.subscriptions = filter-all (λ (x : Subscription). not false) e.subscriptions (λ i x at. refl) in
    let queues : without_each (λ (k : SubKey). false) e.queues ≡ e.queues = each-false (λ (k : SubKey). false) e.queues (λ i q k at some. refl) in
    λ i. (let new : ServerEnd = record e { subscriptions = subs i; queues = queues i } in new)

module _ (name : List ℕ) (e : ServerEnd) (none : HasTo e name → ⊥) where
  -- a channel leads elsewhere, or was retired before
  elsewhere : (k : Handle) (c : OpenChannel) → under e.channels k ≡ Some c → leads_to name (k, c) ≡ false
  elsewhere k c at = by (bytes_eq c.name name) c.retired refl refl
    where
      by : (a b : Bool) → bytes_eq c.name name ≡ a → c.retired ≡ b → leads_to name (k, c) ≡ false
      by true false p q = absurd (none (k, c, at, q, (bytes_eq-Decides c.name name).0 p))
      by true true p q = ap (λ (x : Bool). x && not c.retired) p ∙ ap (λ (x : Bool). not x) q
      by false b p q = ap (λ (x : Bool). x && not c.retired) p

  no-channels : channels_of name e ≡ []
  no-channels = none-kept (leads_to name) (held e.channels) (λ i x at. elsewhere x.0 x.1 (listed-under e.channels i x.0 x.1 at))

  still-retired : with_each (retired name) e.channels ≡ e.channels
  still-retired =
      each-stays (retired name) 0 e.channels
      (λ i p c at is h.
      let k : Handle = record { index = i; generation = p.generation } in
      let there : under e.channels k ≡ Some c = at-under e.channels k c (at ∙ ap (λ (o : Option OpenChannel). let q : Place OpenChannel = record { generation = p.generation; value = o } in Some q) is) in
      ap (λ (b : Bool). let x : OpenChannel = record c { retired = b } in x) (or-same c.retired (bytes_eq c.name name) (elsewhere k c there)))
    where
      or-same : (r b : Bool) → (b && not r) ≡ false → (r || b) ≡ r
      or-same true b is = refl
      or-same false true is = absurd cc
      or-same false false is = refl

  -- it is as it was
  without-unled : end_without name e ≡ e
  without-unled =
      ap (λ (cs : List (Handle × OpenChannel)). let x : ServerEnd = record e { link = with_sent (map (λ (c : Handle × OpenChannel). disconnect c.1.cid) cs) e.link; channels = with_each (retired name) e.channels } in without_subscriptions (is_on cs) x) no-channels
      ∙ without-none (let x : ServerEnd = record e { link = with_sent [] e.link; channels = with_each (retired name) e.channels } in x)
      ∙ ap (λ (t : Table OpenChannel). let x : ServerEnd = record e { link = with_sent [] e.link; channels = t } in x) still-retired
      ∙ replied-none e

-- ---- the circuits at the first places of a list

module _ (name : List ℕ) (hs : List Handle) where
  abbrev passed : (Handle → Bool) → (Handle → Bool) → (Handle → ℕ) → Handle → ServerCircuit → ServerCircuit
  passed done gone left h c = cond (done h) (circuit_without name gone left h c) c

  -- The circuits at the first n places of the list have lost the record, but for those that ended.
  -- It is said of each which circuit that is.
  pub record Losing (n : ℕ) (t : Circuits) (s : Store) (after : Circuits) (u : Store) : Type 0 where
    pub done : Handle → Bool
    pub gone : Handle → Bool
    pub left : Handle → ℕ
    pub may : (h : Handle) → gone h ≡ true → (e : ServerEnd) × (under t h ≡ Some (Open e)) × (left h < length (channels_of name e))
    pub only : (h : Handle) → gone h ≡ true → done h ≡ true
    pub among : (h : Handle) → done h ≡ true → (i : ℕ) × (i < n) × At hs i h
    pub all : (i : ℕ) (h : Handle) (e : ServerEnd) → i < n → At hs i h → under t h ≡ Some (Open e) → done h ≡ true
    pub circuits : after ≡ with_each (passed done gone left) t
    pub records : records_of u ≡ withdrawn (λ (p : Put). gone p.circuit) (records_of s)
    pub rules : u.rules ≡ s.rules
    pub stamp : u.stamp ≡ s.stamp
    pub rooms : HaveRoom after

  no-true : {A : Type 0} → false ≡ true → A
  no-true e = absurd cc

  not-ended : {A : Type 0} (y : ServerEnd) (w : Why) (o : List ℕ) → Open y ≡ Ended w o → A
  not-ended y w o z = absurd cc

  split : (i n : ℕ) → i < n + 1 → (i < n) ⊎ (i ≡ n)
  split i n lt = by (nat_lt i n) refl
    where
      by : (b : Bool) → nat_lt i n ≡ b → (i < n) ⊎ (i ≡ n)
      by true is = inl (ltb-true i n is)
      by false is = (let le = ltb-false i n is in inr (omega (arith, le, lt)))

  pub losing-none : (t : Circuits) (s : Store) → HaveRoom t → Losing 0 t s t s
  losing-none t s room = record {
    done = λ h. false;
    gone = λ h. false;
    left = λ h. 0;
    may = λ h e. no-true e;
    only = λ h e. no-true e;
    among = λ h e. no-true e;
    all = λ i h e lt at there. absurd (omega (arith, lt));
    circuits = sym (each-same (passed (λ (h : Handle). false) (λ (h : Handle). false) (λ (h : Handle). 0)) 0 t (λ i p c at is h. refl));
    records = sym (none-gone (records_of s));
    rules = refl;
    stamp = refl;
    rooms = room;
  }

  module _ (n : ℕ) (t : Circuits) (s : Store) (after : Circuits) (u : Store) (l : Losing n t s after u) where
    -- no circuit that is open is at the next place
    losing-past : (last : Circuits) (x : Store) → last ≡ after → x ≡ u → ((h : Handle) (e : ServerEnd) → At hs n h → under t h ≡ Some (Open e) → ⊥) → Losing (n + 1) t s last x
    losing-past last x same is shut =
        subst (λ (y : Circuits). Losing (n + 1) t s y x) (sym same) (subst (λ (y : Store). Losing (n + 1) t s after y) (sym is) (record {
          done = l.done;
          gone = l.gone;
          left = l.left;
          may = l.may;
          only = l.only;
          among = λ h e. (let a = l.among h e in let lt = a.1 in (a.0, omega (arith, lt), a.2));
          all = λ i h e lt at there. elim (split i n lt) [
            | inl sooner ↦ l.all i h e sooner at there
            | inr now ↦ absurd (shut h e (subst (λ (j : ℕ). At hs j h) now at) there)
          ];
          circuits = l.circuits;
          records = l.records;
          rules = l.rules;
          stamp = l.stamp;
          rooms = l.rooms;
        }))

    module _ (apart : AreApart hs) (g : Handle) (here : At hs n g) where
      -- the circuit at the next place has not lost it yet
      undone : l.done g ≡ false
      undone = by (l.done g) refl
        where
          by : (b : Bool) → l.done g ≡ b → l.done g ≡ false
          by false is = is
          by true is =
              let a = l.among g is in
              let same : a.0 ≡ n = apart a.0 n g g a.2 here refl in
              let lt = a.1 in
              absurd (omega (arith, same, lt))

      stays : l.gone g ≡ false
      stays = by (l.gone g) refl
        where
          by : (b : Bool) → l.gone g ≡ b → l.gone g ≡ false
          by false is = is
          by true is = both (l.done g) (l.only g is) undone

      fresh : (c : ServerCircuit) → under after g ≡ Some c → under t g ≡ Some c
      fresh c at =
          let b = each-back (passed l.done l.gone l.left) t g c (sym (ap (λ (x : Circuits). under x g) l.circuits) ∙ at) in
          let same : c ≡ b.0 = b.2 ∙ ap (λ (x : Bool). cond x (circuit_without name l.gone l.left g b.0) b.0) undone in
          b.1 ∙ ap (λ (x : ServerCircuit). Some x) (sym same)

      pub losing-may : MayAllLose (records_of s) t → MayLoseIn (records_of u) g after
      losing-may may c at =
          subst (λ (rs : List Record). MayLose rs g c) (sym l.records)
          (still-may (λ (p : Put). l.gone p.circuit) (records_of s) g c (may g c (fresh c at)))

      -- with it, one more has lost it
      abbrev to_now : Handle → Bool
      to_now h = l.done h || same_handle h g

      own-now : to_now g ≡ true
      own-now = or-right (l.done g) (same_handle g g) (is-same g g refl)

      not-it : (h : Handle) → (h ≡ g → ⊥) → same_handle h g ≡ false
      not-it h other = by (same_handle h g) refl
        where
          by : (b : Bool) → same_handle h g ≡ b → same_handle h g ≡ false
          by true hit = absurd (other (same-is h g hit))
          by false miss = miss

      other-now : (h : Handle) → (h ≡ g → ⊥) → to_now h ≡ l.done h
      other-now h other = or-none (l.done h) (same_handle h g) (not-it h other)

      or-left : (a b : Bool) → a ≡ true → (a || b) ≡ true
      or-left true b is = refl
      or-left false b is = absurd cc

      among-now : (h : Handle) → to_now h ≡ true → (i : ℕ) × (i < n + 1) × At hs i h
      among-now h is = elim (or-true (l.done h) (same_handle h g) is) [
        | inl old ↦ (let a = l.among h old in let lt = a.1 in (a.0, omega (arith, lt), a.2))
        | inr own ↦ (n, omega arith, subst (λ (k : Handle). At hs n k) (sym (same-is h g own)) here)
      ]

      all-now : (i : ℕ) (h : Handle) (e : ServerEnd) → i < n + 1 → At hs i h → under t h ≡ Some (Open e) → to_now h ≡ true
      all-now i h e lt at there = elim (split i n lt) [
        | inl sooner ↦ or-left (l.done h) (same_handle h g) (l.all i h e sooner at there)
        | inr now ↦ or-right (l.done h) (same_handle h g) (is-same h g (some_is h g (sym (subst (λ (j : ℕ). At hs j h) now at) ∙ here)))
      ]

      -- it lost the record
      losing-on : (last : Circuits) (x : Store) (e : ServerEnd) → under after g ≡ Some (Open e) → last ≡ with_changed (λ (c : ServerCircuit). Open (end_without name e)) g after → HasRoom (events_of (end_without name e)) → x ≡ u → Losing (n + 1) t s last x
      losing-on last x e there changed full same =
          subst (λ (y : Store). Losing (n + 1) t s last y) (sym same) (record {
            done = to_now;
            gone = l.gone;
            left = l.left;
            may = l.may;
            only = λ h z. or-left (l.done h) (same_handle h g) (l.only h z);
            among = among-now;
            all = all-now;
            circuits =
                changed
                ∙ ap (λ (y : Circuits). with_changed (λ (c : ServerCircuit). Open (end_without name e)) g y) l.circuits
                ∙ each-one-more (passed l.done l.gone l.left) (passed to_now l.gone l.left) t g (Open e) (Open (end_without name e)) (fresh (Open e) there) own others;
            records = l.records;
            rules = l.rules;
            stamp = l.stamp;
            rooms = λ h y at. room h y (subst (λ (z : Circuits). under z h ≡ Some (Open y)) changed at);
          })
        where
          own : passed to_now l.gone l.left g (Open e) ≡ Open (end_without name e)
          own =
              ap (λ (b : Bool). cond b (circuit_without name l.gone l.left g (Open e)) (Open e)) own-now
              ∙ ap (λ (b : Bool). cond b (Ended why.OutOfMemory (e.link.output ++ spelled (take (l.left g) (disconnects name e)))) (Open (end_without name e))) stays

          others : (k : Handle) (c : ServerCircuit) → under t k ≡ Some c → (k ≡ g → ⊥) → passed l.done l.gone l.left k c ≡ passed to_now l.gone l.left k c
          others k c at other = ap (λ (b : Bool). cond b (circuit_without name l.gone l.left k c) c) (sym (other-now k other))

          room : (h : Handle) (y : ServerEnd) → under (with_changed (λ (c : ServerCircuit). Open (end_without name e)) g after) h ≡ Some (Open y) → HasRoom (events_of y)
          room h y at = elim (changed-back (λ (c : ServerCircuit). Open (end_without name e)) after h g (Open y) at) [
            | inl own_one ↦ subst (λ (z : ServerEnd). HasRoom (events_of z)) (sym (open-is y (end_without name e) own_one.1.2)) full
            | inr old ↦ l.rooms h y old.1
          ]

      -- it ended out of memory
      losing-out : (last : Circuits) (x : Store) (e : ServerEnd) (k : ℕ) → under after g ≡ Some (Open e) → k < length (channels_of name e) → last ≡ with_changed (λ (c : ServerCircuit). Ended why.OutOfMemory (e.link.output ++ spelled (take k (disconnects name e)))) g after → WithdrawsAll g u x → Losing (n + 1) t s last x
      losing-out last x e k there few changed taken = record {
        done = to_now;
        gone = to;
        left = long;
        may = λ h z. elim (or-true (l.gone h) (same_handle h g) z) [
          | inl old ↦ may-old h old
          | inr own ↦ may-own h own
        ];
        only = λ h z. elim (or-true (l.gone h) (same_handle h g) z) [
          | inl old ↦ or-left (l.done h) (same_handle h g) (l.only h old)
          | inr own ↦ or-right (l.done h) (same_handle h g) own
        ];
        among = among-now;
        all = all-now;
        circuits =
            changed
            ∙ ap (λ (y : Circuits). with_changed (λ (c : ServerCircuit). Ended why.OutOfMemory (e.link.output ++ spelled (take k (disconnects name e)))) g y) l.circuits
            ∙ each-one-more (passed l.done l.gone l.left) (passed to_now to long) t g (Open e) (Ended why.OutOfMemory (e.link.output ++ spelled (take k (disconnects name e)))) first mine others;
        records = taken.records ∙ ap (λ (rs : List Record). withdrawn (λ (p : Put). same_handle p.circuit g) rs) l.records ∙ withdrawn-both (λ (p : Put). same_handle p.circuit g) (λ (p : Put). l.gone p.circuit) (records_of s);
        rules = taken.rules ∙ l.rules;
        stamp = taken.stamp ∙ l.stamp;
        rooms = λ h y at. room h y (subst (λ (z : Circuits). under z h ≡ Some (Open y)) changed at);
      }
        where
          to : Handle → Bool
          to h = l.gone h || same_handle h g

          long : Handle → ℕ
          long h = cond (same_handle h g) k (l.left h)

          first : under t g ≡ Some (Open e)
          first = fresh (Open e) there

          own-long : (h : Handle) → same_handle h g ≡ true → long h ≡ k
          own-long h hit = ap (λ (b : Bool). cond b k (l.left h)) hit

          other-long : (h : Handle) → same_handle h g ≡ false → long h ≡ l.left h
          other-long h miss = ap (λ (b : Bool). cond b k (l.left h)) miss

          may-own : (h : Handle) → same_handle h g ≡ true → (y : ServerEnd) × (under t h ≡ Some (Open y)) × (long h < length (channels_of name y))
          may-own h own = (
            e,
            subst (λ (y : Handle). under t y ≡ Some (Open e)) (sym (same-is h g own)) first,
            subst (λ (m : ℕ). m < length (channels_of name e)) (sym (own-long h own)) few,
          )

          may-old : (h : Handle) → l.gone h ≡ true → (y : ServerEnd) × (under t h ≡ Some (Open y)) × (long h < length (channels_of name y))
          may-old h old =
              let m = l.may h old in
              let miss : same_handle h g ≡ false = not-it h (λ same. both (l.gone g) (subst (λ (y : Handle). l.gone y ≡ true) same old) stays) in
              (m.0, m.1, subst (λ (j : ℕ). j < length (channels_of name m.0)) (sym (other-long h miss)) m.2)

          without-ext : (h : Handle) (c : ServerCircuit) → to h ≡ l.gone h → long h ≡ l.left h → circuit_without name l.gone l.left h c ≡ circuit_without name to long h c
          without-ext h (Open z) p q =
              ap (λ (b : Bool). cond b (Ended why.OutOfMemory (z.link.output ++ spelled (take (l.left h) (disconnects name z)))) (Open (end_without name z))) (sym p)
              ∙ ap (λ (j : ℕ). cond (to h) (Ended why.OutOfMemory (z.link.output ++ spelled (take j (disconnects name z)))) (Open (end_without name z))) (sym q)
          without-ext h (Ended y left) p q = refl

          others : (h : Handle) (c : ServerCircuit) → under t h ≡ Some c → (h ≡ g → ⊥) → passed l.done l.gone l.left h c ≡ passed to_now to long h c
          others h c at other =
              let miss = not-it h other in
              ap (λ (b : Bool). cond b (circuit_without name l.gone l.left h c) c) (sym (other-now h other))
              ∙ ap (λ (z : ServerCircuit). cond (to_now h) z c) (without-ext h c (or-none (l.gone h) (same_handle h g) miss) (other-long h miss))

          mine : passed to_now to long g (Open e) ≡ Ended why.OutOfMemory (e.link.output ++ spelled (take k (disconnects name e)))
          mine =
              ap (λ (b : Bool). cond b (circuit_without name to long g (Open e)) (Open e)) own-now
              ∙ ap (λ (b : Bool). cond b (Ended why.OutOfMemory (e.link.output ++ spelled (take (long g) (disconnects name e)))) (Open (end_without name e))) (or-right (l.gone g) (same_handle g g) (is-same g g refl))
              ∙ ap (λ (j : ℕ). Ended why.OutOfMemory (e.link.output ++ spelled (take j (disconnects name e)))) (own-long g (is-same g g refl))

          room : (h : Handle) (y : ServerEnd) → under (with_changed (λ (c : ServerCircuit). Ended why.OutOfMemory (e.link.output ++ spelled (take k (disconnects name e)))) g after) h ≡ Some (Open y) → HasRoom (events_of y)
          room h y at = elim (changed-back (λ (c : ServerCircuit). Ended why.OutOfMemory (e.link.output ++ spelled (take k (disconnects name e)))) after h g (Open y) at) [
            | inl own ↦ not-ended y why.OutOfMemory (e.link.output ++ spelled (take k (disconnects name e))) own.1.2
            | inr old ↦ l.rooms h y old.1
          ]

      losing-one : (last : Circuits) (x : Store) → LosesIn after g name u last x → Losing (n + 1) t s last x
      losing-one last x (inr none) = losing-past last x none.1 none.2 (λ h e at there. nobody h e (some_is h g (sym at ∙ here)) there)
        where
          nobody : (h : Handle) (e : ServerEnd) → h ≡ g → under t h ≡ Some (Open e) → ⊥
          nobody h e same there =
              let was : under t g ≡ Some (Open e) = subst (λ (k : Handle). under t k ≡ Some (Open e)) same there in
              let now = ap (λ (z : Circuits). under z g) l.circuits ∙ under-each (passed l.done l.gone l.left) t g (Open e) was in
              none-some (passed l.done l.gone l.left g (Open e)) (sym none.0 ∙ now)
      losing-one last x (inl o) = by o.0 o.1 o.2 o.3 o.4
        where
          by : (c new : ServerCircuit) → under after g ≡ Some c → LosesAt g name c u new x → last ≡ with_changed (λ (y : ServerCircuit). new) g after → Losing (n + 1) t s last x
          by (Open e) new there (inl p) changed = losing-on last x e there (became after last g new (Open (end_without name e)) changed p.0) p.1 p.2
          by (Open e) new there (inr p) changed =
              losing-out last x e p.0 there p.1 (became after last g new (Ended why.OutOfMemory (e.link.output ++ spelled (take p.0 (disconnects name e)))) changed p.2) p.3
          by (Ended w left) new there p changed =
              losing-past last x (stayed after last g new (Ended w left) there changed p.0) p.1
              (λ h e at open_there.
              let same : h ≡ g = some_is h g (sym at ∙ here) in
              not-ended e w left (some_is (Open e) (Ended w left) (sym open_there ∙ ap (λ (k : Handle). under t k) same ∙ fresh (Ended w left) there)))

    pub losing-next : AreApart hs → (last : Circuits) (x : Store) → ((h : Handle) × At hs n h × LosesIn after h name u last x) ⊎ ((slice_get hs n ≡ None) × (last ≡ after) × (x ≡ u)) → Losing (n + 1) t s last x
    losing-next apart last x (inl o) = losing-one apart o.0 o.1 last x o.2
    losing-next apart last x (inr none) = losing-past last x none.1 none.2 (λ h e at there. none-some h (sym none.0 ∙ at))

    -- all have lost it that lead there, and no other has a channel to it
    pub losing-all : length hs ≤ n → ((h : Handle) (e : ServerEnd) → under t h ≡ Some (Open e) → HasTo e name → IsAmong hs h) → LosesAll name t s after u
    losing-all past leads = (
      l.gone,
      (
        l.left,
        record {
          may = l.may;
          circuits = l.circuits ∙ each-ext (passed l.done l.gone l.left) (circuit_without name l.gone l.left) t (λ h c at. by h c at (l.done h) refl);
          records = l.records;
          rules = l.rules;
          stamp = l.stamp;
          rooms = l.rooms;
        },
      ),
    )
      where
        unled : (h : Handle) (e : ServerEnd) → under t h ≡ Some (Open e) → l.done h ≡ false → HasTo e name → ⊥
        unled h e at miss to =
            let a = leads h e at to in
            let lt = At-within hs a.0 h a.1 in
            both (l.done h) (l.all a.0 h e (omega (arith, lt, past)) a.1 at) miss

        open-gone : (h : Handle) → l.done h ≡ false → l.gone h ≡ false
        open-gone h miss = go (l.gone h) refl
          where
            go : (b : Bool) → l.gone h ≡ b → l.gone h ≡ false
            go false is = is
            go true is = both (l.done h) (l.only h is) miss

        still : (h : Handle) (c : ServerCircuit) → under t h ≡ Some c → l.done h ≡ false → circuit_without name l.gone l.left h c ≡ c
        still h (Ended w left) at miss = refl
        still h (Open e) at miss =
            ap (λ (b : Bool). cond b (Ended why.OutOfMemory (e.link.output ++ spelled (take (l.left h) (disconnects name e)))) (Open (end_without name e))) (open-gone h miss)
            ∙ ap (λ (x : ServerEnd). Open x) (without-unled name e (unled h e at miss))

        by : (h : Handle) (c : ServerCircuit) → under t h ≡ Some c → (b : Bool) → l.done h ≡ b → passed l.done l.gone l.left h c ≡ circuit_without name l.gone l.left h c
        by h c at true is = ap (λ (b : Bool). cond b (circuit_without name l.gone l.left h c) c) is
        by h c at false is = ap (λ (b : Bool). cond b (circuit_without name l.gone l.left h c) c) is ∙ sym (still h c at is)

-- ---- what holds of a server then

-- a channel that no subscription lost is of another record
pub unlisted : (name : List ℕ) (t : Table OpenChannel) (g : Handle) (c : OpenChannel) (s : Subscription) → under t g ≡ Some c → wire_of g ≡ s.wanted.sid → c.retired ≡ false → is_on (filter (leads_to name) (held t)) (key_of s) ≡ false → bytes_eq c.name name ≡ false
unlisted name t g c s at id live none = by (bytes_eq c.name name) refl
  where
    any-at : (xs : List (Handle × OpenChannel)) (i : ℕ) → At xs i (g, c) → leads_to name (g, c) ≡ true → is_on (filter (leads_to name) xs) (key_of s) ≡ true
    any-at [] i there hit = absurd cc
    any-at (x ∷ xs) zero there hit =
        let one : x ≡ (g, c) = some_is x (g, c) there in
        ap (λ (b : Bool). is_on (cond b (x ∷ filter (leads_to name) xs) (filter (leads_to name) xs)) (key_of s)) (ap (λ (y : Handle × OpenChannel). leads_to name y) one ∙ hit)
        ∙ ap (λ (b : Bool). b || is_on (filter (leads_to name) xs) (key_of s)) (eq-eqb (wire_of x.0) s.wanted.sid (ap (λ (y : Handle × OpenChannel). wire_of y.0) one ∙ id))
    any-at (x ∷ xs) (suc i) there hit = go (leads_to name x) (any-at xs i there hit)
      where
        go : (b : Bool) → is_on (filter (leads_to name) xs) (key_of s) ≡ true → is_on (cond b (x ∷ filter (leads_to name) xs) (filter (leads_to name) xs)) (key_of s) ≡ true
        go true rest = or-right (wire_of x.0 == s.wanted.sid) (is_on (filter (leads_to name) xs) (key_of s)) rest
        go false rest = rest

    by : (b : Bool) → bytes_eq c.name name ≡ b → bytes_eq c.name name ≡ false
    by false is = is
    by true is =
        let l = under-listed t g c at in
        let hit : leads_to name (g, c) ≡ true = ap (λ (b : Bool). b && not c.retired) is ∙ ap (λ (b : Bool). not b) live in
        both (is_on (filter (leads_to name) (held t)) (key_of s)) (any-at (held t) l.0 l.1 hit) none

module _ (name : List ℕ) (gone : Handle → Bool) (left : Handle → ℕ) (rs : List Record) (t : Circuits) where
  abbrev qs : List Record
  qs = withdrawn (λ (p : Put). gone p.circuit) (removed name rs)

  abbrev done : Circuits
  done = with_each (circuit_without name gone left) t

  -- what is open then was open, and lost the record
  pub was-open : (h : Handle) (x : ServerEnd) → under done h ≡ Some (Open x) → (e : ServerEnd) × (under t h ≡ Some (Open e)) × (x ≡ end_without name e)
  was-open h x at = (let b = each-back (circuit_without name gone left) t h (Open x) at in by b.0 b.1 b.2)
    where
      by : (c : ServerCircuit) → under t h ≡ Some c → Open x ≡ circuit_without name gone left h c → (e : ServerEnd) × (under t h ≡ Some (Open e)) × (x ≡ end_without name e)
      by (Ended w l) there is = absurd (wrong is)
        where
          wrong : Open x ≡ Ended w l → ⊥
          wrong z = cc
      by (Open e) there is = go (gone h) is
        where
          wrong : (o : List ℕ) → Open x ≡ Ended why.OutOfMemory o → ⊥
          wrong o z = cc

          go : (b : Bool) → Open x ≡ cond b (Ended why.OutOfMemory (e.link.output ++ spelled (take (left h) (disconnects name e)))) (Open (end_without name e)) → (e : ServerEnd) × (under t h ≡ Some (Open e)) × (x ≡ end_without name e)
          go true z = absurd (wrong (e.link.output ++ spelled (take (left h) (disconnects name e))) z)
          go false z = (e, there, open-is x (end_without name e) z)

  stays-open : (h : Handle) (e : ServerEnd) → under t h ≡ Some (Open e) → gone h ≡ false → under done h ≡ Some (Open (end_without name e))
  stays-open h e at stay =
      under-each (circuit_without name gone left) t h (Open e) at
      ∙ ap (λ (b : Bool). Some (cond b (Ended why.OutOfMemory (e.link.output ++ spelled (take (left h) (disconnects name e)))) (Open (end_without name e)))) stay

  -- what waits then waited, for another record
  waited : (j : ℕ) (q : Record) (k : ℕ) (w : WaitingPut) → At qs j q → At q.waiting k w → (a : ℕ) × (r : Record) × (b : ℕ) × At rs a r × At r.waiting b w × (r.state.name ≡ q.state.name) × (bytes_eq r.state.name name ≡ false) × (gone w.put.circuit ≡ false)
  waited j q k w at at' =
      let keeps = withdrawn-keeps (λ (p : Put). gone p.circuit) (λ (q : Record) (w : WaitingPut). ⊥) (removed name rs) in
      elim (keeps.1 j q k w at at') [
        | inl old ↦
            let o = old.0 in
            let f = at-filtered (λ (x : Record). not (bytes_eq x.state.name name)) rs o.0 o.1 o.3 in
            (f.0, o.1, o.2, f.1, o.4, o.5, not-true (bytes_eq o.1.state.name name) f.2, old.1)
        | inr n ↦ absurd n
      ]

  pub sound-removed : IsSound rs t → ((h : Handle) (e : ServerEnd) → under done h ≡ Some (Open e) → HasRoom (events_of e)) → IsSound qs done
  sound-removed i rooms = record {
    ends = λ h x at. (let b = was-open h x at in subst (λ (y : ServerEnd). EndIsSound qs h y) (sym b.2) (sound h b.0 b.1 (subst (λ (y : ServerEnd). HasRoom (events_of y)) b.2 (rooms h x at))));
    waits = λ j q k w at at'.
        let o = waited j q k w at at' in
        let u = i.waits o.0 o.1 o.2 w o.3 o.4 in
        (end_without name u.0, stays-open w.put.circuit u.0 u.1 o.7);
  }
    where
      sound : (h : Handle) (e : ServerEnd) → under t h ≡ Some (Open e) → HasRoom (events_of (end_without name e)) → EndIsSound qs h (end_without name e)
      sound h e at room =
          let o = i.ends h e at in record {
            live = o.live;
            room = room;
            served = λ g c there live. served g c there live;
            puts = λ j q k w there waits hit. puts j q k w there waits hit;
            on = λ z i. on z i;
            few = (let same : length (with_each (retired name) e.channels) ≡ length e.channels = each-length (retired name) e.channels in let few = o.few in omega (arith, same, few));
          }
        where
          served : (g : Handle) (c : OpenChannel) → under (with_each (retired name) e.channels) g ≡ Some c → c.retired ≡ false → (r : Record) × (record_named qs c.name ≡ Some r)
          served g c there live =
              let b = each-back (retired name) e.channels g c there in
              let parts = or-false b.0.retired (bytes_eq b.0.name name) (sym (ap (λ (x : OpenChannel). x.retired) b.2) ∙ live) in
              let r = (i.ends h e at).served g b.0 b.1 parts.0 in
              let found = named-still (without_puts (λ (p : Put). gone p.circuit)) (λ x. refl) (removed name rs) b.0.name r.0 (named-left name b.0.name rs r.0 parts.1 r.1) in
              subst (λ (n : List ℕ). (r : Record) × (record_named qs n ≡ Some r)) (sym (ap (λ (x : OpenChannel). x.name) b.2)) found

          on : AreOnChannels (with_each (retired name) e.channels) (end_without name e).subscriptions
          on z among =
              let f = at-filtered (λ (y : Subscription). not (is_on (channels_of name e) (key_of y))) e.subscriptions among.0 z among.1 in
              let c = (i.ends h e at).on z (f.0, f.1) in
              let other : bytes_eq c.1.name name ≡ false = unlisted name e.channels c.0 c.1 z c.2 c.3 c.5 (not-true (is_on (channels_of name e) (key_of z)) f.2) in (
                c.0,
                retired name c.0 c.1,
                under-each (retired name) e.channels c.0 c.1 c.2,
                c.3,
                c.4,
                ap (λ (b : Bool). b || bytes_eq c.1.name name) c.5 ∙ other,
              )

          puts : ArePuts h qs (with_each (retired name) e.channels)
          puts j q k w there waits hit =
              let o = waited j q k w there waits in
              let p = (i.ends h e at).puts o.0 o.1 o.2 w o.3 o.4 hit in
              let other : bytes_eq p.0.name name ≡ false = ap (λ (n : List ℕ). bytes_eq n name) p.2 ∙ o.6 in (
                retired name w.put.channel p.0,
                under-each (retired name) e.channels w.put.channel p.0 p.1,
                p.2 ∙ o.5,
                ap (λ (b : Bool). b || bytes_eq p.0.name name) p.3 ∙ other,
              )

-- nobody watches the record: who did has lost it
pub covers-removed : (w v : Watched) (name : List ℕ) (gone : Handle → Bool) (left : Handle → ℕ) (rs : List Record) (t : Circuits) → IsSound rs t → Clears name w v → Covers w t → Covers v (done name gone left rs t)
covers-removed w v name gone left rs t sound clears covers h x s at i =
    let b = was-open name gone left rs t h x at in
    let j = subst (λ (y : ServerEnd). In y.subscriptions s) b.2 i in
    let f = at-filtered (λ (y : Subscription). not (is_on (channels_of name b.0) (key_of y))) b.0.subscriptions j.0 s j.1 in
    let c = (sound.ends h b.0 b.1).on s (f.0, f.1) in
    let other : bytes_eq s.name name ≡ false =
    ap (λ (n : List ℕ). bytes_eq n name) (sym c.4) ∙ unlisted name b.0.channels c.0 c.1 s c.2 c.3 c.5 (not-true (is_on (channels_of name b.0) (key_of s)) f.2) in
    subst (λ (hs : List Handle). IsAmong hs h) (sym (same-watch w v s.name (clears.stay s.name other))) (covers h b.0 s b.1 (f.0, f.1))

-- nobody leads to the record: whose channels did so has retired them
leads-removed : (l v : Watched) (name : List ℕ) (gone : Handle → Bool) (left : Handle → ℕ) (rs : List Record) (t : Circuits) → Clears name l v → Leads l t → Leads v (done name gone left rs t)
leads-removed l v name gone left rs t clears leads h x n at to =
    let b = was-open name gone left rs t h x at in
    let has = subst (λ (y : ServerEnd). HasTo y n) b.2 to in
    let was = each-back (retired name) b.0.channels has.0 has.1 has.2 in
    let parts = or-false was.0.retired (bytes_eq was.0.name name) (sym (ap (λ (y : OpenChannel). y.retired) was.2) ∙ has.3) in
    let named : was.0.name ≡ n = ap (λ (y : OpenChannel). y.name) (sym was.2) ∙ has.4 in
    let other : bytes_eq n name ≡ false = ap (λ (m : List ℕ). bytes_eq m name) (sym named) ∙ parts.1 in
    subst (λ (hs : List Handle). IsAmong hs h) (sym (same-watch l v n (clears.stay n other))) (leads h b.0 n b.1 (has.0, was.0, was.1, parts.0, named))

-- a record goes, and its line
listed-removed : (name : List ℕ) (test : Put → Bool) (rs qs : List Record) (w v : Watched) → qs ≡ withdrawn test (removed name rs) → Clears name w v → AreListed rs w → AreListed qs v
listed-removed name test rs qs w v are clears listed = listed-kept (removed name rs) qs v (found-withdrawn test (removed name rs) qs are) (λ other none. by other none (bytes_eq other name) refl)
  where
    by : (other : List ℕ) → record_named (removed name rs) other ≡ None → (b : Bool) → bytes_eq other name ≡ b → line_of v other ≡ None
    by other none true hit = ap (λ (n : List ℕ). line_of v n) ((bytes_eq-Decides other name).0 hit) ∙ clears.gone
    by other none false miss = clears.stay other miss ∙ was (record_named rs other) refl
      where
        was : (o : Option Record) → record_named rs other ≡ o → line_of w other ≡ None
        was None is = listed other is
        was (Some r) is = none-found (record_named (removed name rs) other) r none (named-left name other rs r miss is)

-- all of it
pub server-removed : (name : List ℕ) (s u x : Store) (w v l m : Watched) (t last : Circuits) → IsServer (records_of s) w l t → records_of u ≡ removed name (records_of s) → LosesAll name t u last x → Clears name w v → Clears name l m → IsServer (records_of x) v m last
server-removed name s u x w v l m t last i left lost clears clears_led =
    let f = lost.1.1 in
    let gone = lost.0 in
    let long = lost.1.0 in
    let are : records_of x ≡ qs name gone long (records_of s) t = f.records ∙ ap (λ (rs : List Record). withdrawn (λ (p : Put). gone p.circuit) rs) left in
    record {
      sound = subst (λ (rs : List Record). IsSound rs last) (sym are)
          (subst (λ (y : Circuits). IsSound (qs name gone long (records_of s) t) y) (sym f.circuits)
          (sound-removed name gone long (records_of s) t i.sound (subst (λ (y : Circuits). (h : Handle) (e : ServerEnd) → under y h ≡ Some (Open e) → HasRoom (events_of e)) f.circuits f.rooms)));
      covered = subst (λ (y : Circuits). Covers v y) (sym f.circuits) (covers-removed w v name gone long (records_of s) t i.sound clears i.covered);
      listed = listed-removed name (λ (p : Put). gone p.circuit) (records_of s) (records_of x) w v are clears i.listed;
      led = record {
        leads = subst (λ (y : Circuits). Leads m y) (sym f.circuits) (leads-removed l m name gone long (records_of s) t clears_led i.led.leads);
        listed = listed-removed name (λ (p : Put). gone p.circuit) (records_of s) (records_of x) l m are clears_led i.led.listed;
      };
    }

-- ---- the call

pub removes-ok : (y : Server) (port now n place : ℕ) (b : Clock) (s u x : Store) (t last : Circuits) (name : List ℕ) → server_of port s now t b n ≡ y → writes.Removes s name (Ok place) u → LosesAll name t u last x
    → (gone : Handle → Bool) × ((left : Handle → ℕ) × Removes y name gone left (Ok tt) (server_of port x now last b n))
removes-ok y port now n place b s u x t last name is took lost =
    let l = lost.1.1 in
    let rules : x.rules ≡ s.rules = l.rules ∙ ap (λ (z : Store). z.rules) took.leaves in
    let stamp : x.stamp ≡ s.stamp = l.stamp ∙ ap (λ (z : Store). z.stamp) took.leaves in
    let records = l.records ∙ ap (λ (rs : List Record). withdrawn (λ (p : Put). lost.0 p.circuit) rs) took.records in
    subst (λ (z : Server). (gone : Handle → Bool) × ((left : Handle → ℕ) × Removes z name gone left (Ok tt) (server_of port x now last b n))) is
    (lost.0, (lost.1.0, (ap (λ (o : Option Record). is_some o) took.found, l.may, same-parts port now b x.rules s.rules (records_of x) _ x.stamp s.stamp last _ n n rules records stamp l.circuits refl)))

pub removes-refused : (y : Server) (port now n : ℕ) (b : Clock) (s u : Store) (t : Circuits) (name : List ℕ) (f : Refusal) → server_of port s now t b n ≡ y → writes.Removes s name (Err f) u
    → (gone : Handle → Bool) × ((left : Handle → ℕ) × Removes y name gone left (Err f) (server_of port u now t b n))
removes-refused y port now n b s u t name f is did = ((λ (h : Handle). false), ((λ (h : Handle). 0), by f did))
  where
    by : (f : Refusal) → writes.Removes s name (Err f) u → Removes y name (λ (h : Handle). false) (λ (h : Handle). 0) (Err f) (server_of port u now t b n)
    by refusal.UnknownRecord fault =
        (subst (λ (rs : List Record). let none : Option Record = None in record_named rs name ≡ none) (ap (λ (z : Server). z.records) is) fault.0, ap (λ (z : Store). server_of port z now t b n) fault.1 ∙ is)
    by _ fault = absurd fault
