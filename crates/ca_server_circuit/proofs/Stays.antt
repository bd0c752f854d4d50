-- What waits for the records of a server, and which channels are open, after an
-- end handled a message.
use Rattle.std.proofs.Common.{◌≡◌, ℕ, zero, suc, ◌⊎◌, inl, inr, ◌==◌, ◌&&◌, Bool, true, false, not, List, [], ◌∷◌, cond, filter, map, Option, Some, None, refl, sym, ap, ◌∙◌, subst}
use Rattle.std.specs.Prelude.{option_map, unwrap_or}
use Rattle.std.specs.Str.{bytes_eq}
use Rattle.std.proofs.lemmas.Bool.{eq-eqb}
use Rattle.std.proofs.lemmas.Slice.Eq.{bytes_eq-Decides}
use Rattle.ca_arena.specs.declared.handle.Handle.{Handle}
use Rattle.ca_ids.specs.Table.{Table, by_wire, same_handle, under, with_freed}
use Rattle.ca_ids.specs.Wire.{wire_of}
use Rattle.ca_records.specs.declared.puts.Put.{Put}
use Rattle.ca_records.specs.declared.puts.Stamp.{Stamp}
use Rattle.ca_records.specs.Puts.{Record, WaitingPut, record_named, with_value, with_waiting, without_puts, written_meta}
use Rattle.ca_text.specs.Place.{At}
use Rattle.ca_text.proofs.Places.{At-mapped, At-snoc, some_is}
use Rattle.ca_wire.specs.Fields.{Fields}
use Rattle.ca_model.specs.Due.{Action, Adds, Applies, Clears, Drops, Greets, Names, Nothing, Opens, Switches, Waits}
use Rattle.ca_model.specs.Server.{OpenChannel, Server, ServerEnd}
use Rattle.ca_model.specs.ServerSteps.{Acts, IsPut}
use Rattle.ca_server_circuit.specs.Handling.{Fits, Recorded}
use Rattle.ca_server_circuit.proofs.Tables.{freed-back, freed-other, held-back, held-other, none-some, wire-under}

-- ---- lists

-- what is left by a test was there, and passed it
pub at-filtered : {A : Type 0} (test : A → Bool) (xs : List A) (k : ℕ) (x : A) → At (filter test xs) k x → (j : ℕ) × At xs j x × (test x ≡ true)
at-filtered test [] k x at = absurd cc
at-filtered {A} test (y ∷ xs) k x at = go (test y) refl k at (λ l h. at-filtered test xs l x h)
  where
    go : (b : Bool) → test y ≡ b → (k : ℕ) → At (cond b (y ∷ filter test xs) (filter test xs)) k x → ((l : ℕ) → At (filter test xs) l x → (j : ℕ) × At xs j x × (test x ≡ true)) → (j : ℕ) × At (y ∷ xs) j x × (test x ≡ true)
    go true e zero h rest = (0, h, ap test (sym (some_is y x h)) ∙ e)
    go true e (suc l) h rest = (let r = rest l h in (suc r.0, r.1, r.2))
    go false e l h rest = (let r = rest l h in (suc r.0, r.1, r.2))

not-true : (b : Bool) → not b ≡ true → b ≡ false
not-true true e = absurd cc
not-true false e = refl

both-bools : (b : Bool) → b ≡ true → b ≡ false → ⊥
both-bools b t f = cc

-- ---- records

-- a record is found still if each kept its name
pub named-still : (g : Record → Record) → ((r : Record) → (g r).state.name ≡ r.state.name) → (rs : List Record) (n : List ℕ) (r : Record) → record_named rs n ≡ Some r → (q : Record) × (record_named (map g rs) n ≡ Some q)
named-still g keeps [] n r is = absurd (none-some r is)
named-still g keeps (x ∷ rs) n r is = go (bytes_eq x.state.name n) refl is (λ h. named-still g keeps rs n r h)
  where
    same : (b : Bool) → bytes_eq x.state.name n ≡ b → bytes_eq (g x).state.name n ≡ b
    same b e = ap (λ (m : List ℕ). bytes_eq m n) (keeps x) ∙ e

    go : (b : Bool) → bytes_eq x.state.name n ≡ b → cond b (Some x) (record_named rs n) ≡ Some r → (record_named rs n ≡ Some r → (q : Record) × (record_named (map g rs) n ≡ Some q)) → (q : Record) × (record_named (map g (x ∷ rs)) n ≡ Some q)
    go true e h rest = (g x, ap (λ (b : Bool). cond b (Some (g x)) (record_named (map g rs) n)) (same true e))
    go false e h rest = (let q = rest h in (q.0, ap (λ (b : Bool). cond b (Some (g x)) (record_named (map g rs) n)) (same false e) ∙ q.1))

-- a put waits on a record of this one's name
abbrev pub Waited : List Record → Record → WaitingPut → Type 0
Waited rs q w = (i : ℕ) × (r : Record) × (k : ℕ) × At rs i r × At r.waiting k w × (r.state.name ≡ q.state.name)

-- What a change of the records keeps: each record is found; and what waits then waited before, and
-- may stay, or is new.
abbrev pub Keeps : List Record → List Record → (WaitingPut → Type 0) → (Record → WaitingPut → Type 0) → Type 0
Keeps rs qs Stays New =
    ((n : List ℕ) (r : Record) → record_named rs n ≡ Some r → (q : Record) × (record_named qs n ≡ Some q))
    × ((i : ℕ) (q : Record) (k : ℕ) (w : WaitingPut) → At qs i q → At q.waiting k w → (Waited rs q w × Stays w) ⊎ New q w)

same-keeps : (rs : List Record) (New : Record → WaitingPut → Type 0) → Keeps rs rs (λ (w : WaitingPut). Unit {0}) New
same-keeps rs New = ((λ n r is. (r, is)), (λ i q k w at at'. inl ((i, q, k, at, at', refl), tt)))

map-keeps : (g : Record → Record) (Stays : WaitingPut → Type 0) (New : Record → WaitingPut → Type 0) → ((r : Record) → (g r).state.name ≡ r.state.name)
    → ((r : Record) (k : ℕ) (w : WaitingPut) → At (g r).waiting k w → (((j : ℕ) × At r.waiting j w) × Stays w) ⊎ New (g r) w) → (rs : List Record) → Keeps rs (map g rs) Stays New
map-keeps g Stays New names each rs = ((λ n r is. named-still g names rs n r is), waits)
  where
    waits : (i : ℕ) (q : Record) (k : ℕ) (w : WaitingPut) → At (map g rs) i q → At q.waiting k w → (Waited rs q w × Stays w) ⊎ New q w
    waits i q k w at at' =
        let m = At-mapped g rs i q at in
        let here : At (g m.0).waiting k w = subst (λ (x : Record). At x.waiting k w) m.2 at' in
        elim (each m.0 k w here) [
          | inl old ↦ inl ((i, m.0, old.0.0, m.1, old.0.1, sym (names m.0) ∙ ap (λ (x : Record). x.state.name) (sym m.2)), old.1)
          | inr new ↦ inr (subst (λ (x : Record). New x w) (sym m.2) new)
        ]

-- one record is changed
pub record-keeps : (name : List ℕ) (f : Record → Record) (New : Record → WaitingPut → Type 0) → ((r : Record) → (f r).state.name ≡ r.state.name)
    → ((r : Record) (k : ℕ) (w : WaitingPut) → bytes_eq r.state.name name ≡ true → At (f r).waiting k w → (((j : ℕ) × At r.waiting j w) × Unit {0}) ⊎ New (f r) w)
    → (rs : List Record) → Keeps rs (map (λ (r : Record). cond (bytes_eq r.state.name name) (f r) r) rs) (λ (w : WaitingPut). Unit {0}) New
record-keeps name f New names each rs =
    map-keeps (λ (r : Record). cond (bytes_eq r.state.name name) (f r) r) (λ (w : WaitingPut). Unit {0}) New
    (λ r. named (bytes_eq r.state.name name) r) (λ r k w at. by (bytes_eq r.state.name name) r k w refl at) rs
  where
    named : (b : Bool) (r : Record) → (cond b (f r) r).state.name ≡ r.state.name
    named true r = names r
    named false r = refl

    by : (b : Bool) (r : Record) (k : ℕ) (w : WaitingPut) → bytes_eq r.state.name name ≡ b → At (cond b (f r) r).waiting k w → (((j : ℕ) × At r.waiting j w) × Unit {0}) ⊎ New (cond b (f r) r) w
    by true r k w e at = each r k w e at
    by false r k w e at = inl ((k, at), tt)

-- the puts that a test names are taken out
pub withdrawn-keeps : (test : Put → Bool) (New : Record → WaitingPut → Type 0) (rs : List Record) → Keeps rs (map (without_puts test) rs) (λ (w : WaitingPut). test w.put ≡ false) New
withdrawn-keeps test New rs =
    map-keeps (without_puts test) (λ (w : WaitingPut). test w.put ≡ false) New (λ r. refl)
    (λ r k w at. (let f = at-filtered (λ (x : WaitingPut). not (test x.put)) r.waiting k w at in inl ((f.0, f.1), not-true (test w.put) f.2))) rs

-- ---- what a message does to them

-- what waits may stay
abbrev pub Stays : Handle → Action → WaitingPut → Type 0
Stays h (Clears sid) w = (same_handle w.put.circuit h && wire_of w.put.channel == sid) ≡ false
Stays h action w = Unit {0}

-- the put of the message waits now
abbrev pub IsNew : Handle → ServerEnd → Fields → Action → Record → WaitingPut → Type 0
IsNew h e m (Waits name value) q w = IsPut h e m w.put × (bytes_eq q.state.name name ≡ true)
IsNew h e m action q w = ⊥

pub recorded-keeps : (rs qs : List Record) (s : Stamp) (h : Handle) (e : ServerEnd) (m : Fields) (a : Action) → Recorded rs s h e m a qs → Keeps rs qs (Stays h a) (IsNew h e m a)
recorded-keeps rs qs s h e m (Applies name value false) is =
    subst (λ (x : List Record). Keeps rs x (λ (w : WaitingPut). Unit {0}) (λ (q : Record) (w : WaitingPut). ⊥)) (sym is)
    (record-keeps name (with_value value (written_meta value s)) (λ (q : Record) (w : WaitingPut). ⊥) (λ r. refl) (λ r k w e at. inl ((k, at), tt)) rs)
recorded-keeps rs qs s h e m (Applies name value true) is =
    subst (λ (x : List Record). Keeps rs x (λ (w : WaitingPut). Unit {0}) (λ (q : Record) (w : WaitingPut). ⊥)) (sym is.2)
    (record-keeps name (λ (r : Record). record (with_value value (written_meta value s) r) { busy = Some is.0 }) (λ (q : Record) (w : WaitingPut). ⊥) (λ r. refl) (λ r k w e at. inl ((k, at), tt)) rs)
recorded-keeps rs qs s h e m (Waits name value) is =
    subst (λ (x : List Record). Keeps rs x (λ (w : WaitingPut). Unit {0}) (IsNew h e m (Waits name value))) (sym is.2)
    (record-keeps name (with_waiting (record { put = is.0; value = value })) (IsNew h e m (Waits name value)) (λ r. refl) by rs)
  where
    by : (r : Record) (k : ℕ) (w : WaitingPut) → bytes_eq r.state.name name ≡ true → At (with_waiting (record { put = is.0; value = value }) r).waiting k w → (((j : ℕ) × At r.waiting j w) × Unit {0}) ⊎ IsNew h e m (Waits name value) (with_waiting (record { put = is.0; value = value }) r) w
    by r k w same at = elim (At-snoc r.waiting (record { put = is.0; value = value }) k w at) [
      | inl old ↦ inl ((k, old), tt)
      | inr new ↦ inr (subst (λ (x : WaitingPut). IsPut h e m x.put) (sym new.1) is.1, same)
    ]
recorded-keeps rs qs s h e m (Clears sid) is =
    subst (λ (x : List Record). Keeps rs x (Stays h (Clears sid)) (λ (q : Record) (w : WaitingPut). ⊥)) (sym is)
    (withdrawn-keeps (λ (p : Put). same_handle p.circuit h && wire_of p.channel == sid) (λ (q : Record) (w : WaitingPut). ⊥) rs)
recorded-keeps rs qs s h e m Nothing is = subst (λ (x : List Record). Keeps rs x (λ (w : WaitingPut). Unit {0}) (λ (q : Record) (w : WaitingPut). ⊥)) (sym is) (same-keeps rs (λ (q : Record) (w : WaitingPut). ⊥))
recorded-keeps rs qs s h e m Greets is = subst (λ (x : List Record). Keeps rs x (λ (w : WaitingPut). Unit {0}) (λ (q : Record) (w : WaitingPut). ⊥)) (sym is) (same-keeps rs (λ (q : Record) (w : WaitingPut). ⊥))
recorded-keeps rs qs s h e m (Names p) is = subst (λ (x : List Record). Keeps rs x (λ (w : WaitingPut). Unit {0}) (λ (q : Record) (w : WaitingPut). ⊥)) (sym is) (same-keeps rs (λ (q : Record) (w : WaitingPut). ⊥))
recorded-keeps rs qs s h e m (Opens c) is = subst (λ (x : List Record). Keeps rs x (λ (w : WaitingPut). Unit {0}) (λ (q : Record) (w : WaitingPut). ⊥)) (sym is) (same-keeps rs (λ (q : Record) (w : WaitingPut). ⊥))
recorded-keeps rs qs s h e m (Adds x) is = subst (λ (x : List Record). Keeps rs x (λ (w : WaitingPut). Unit {0}) (λ (q : Record) (w : WaitingPut). ⊥)) (sym is) (same-keeps rs (λ (q : Record) (w : WaitingPut). ⊥))
recorded-keeps rs qs s h e m (Drops k) is = subst (λ (x : List Record). Keeps rs x (λ (w : WaitingPut). Unit {0}) (λ (q : Record) (w : WaitingPut). ⊥)) (sym is) (same-keeps rs (λ (q : Record) (w : WaitingPut). ⊥))
recorded-keeps rs qs s h e m (Switches on) is = subst (λ (x : List Record). Keeps rs x (λ (w : WaitingPut). Unit {0}) (λ (q : Record) (w : WaitingPut). ⊥)) (sym is) (same-keeps rs (λ (q : Record) (w : WaitingPut). ⊥))

-- the new put is of this circuit
pub new-circuit : (h : Handle) (e : ServerEnd) (m : Fields) (a : Action) (q : Record) (w : WaitingPut) → IsNew h e m a q w → w.put.circuit ≡ h
new-circuit h e m (Waits name value) q w is = ap (λ (p : Put). p.circuit) is.0.2
new-circuit h e m Nothing q w is = absurd is
new-circuit h e m Greets q w is = absurd is
new-circuit h e m (Names p) q w is = absurd is
new-circuit h e m (Opens c) q w is = absurd is
new-circuit h e m (Clears s) q w is = absurd is
new-circuit h e m (Applies n v b) q w is = absurd is
new-circuit h e m (Adds s) q w is = absurd is
new-circuit h e m (Drops k) q w is = absurd is
new-circuit h e m (Switches on) q w is = absurd is

-- ---- channels

-- the link is as it was
pub link-kept : (y : Server) (e : ServerEnd) (a : Action) (new : ServerEnd) → Acts y e a new → new.link ≡ e.link
link-kept y e Nothing new is = ap (λ (x : ServerEnd). x.link) is
link-kept y e Greets new is = ap (λ (x : ServerEnd). x.link) is
link-kept y e (Names p) new is = ap (λ (x : ServerEnd). x.link) is
link-kept y e (Opens c) new is = ap (λ (x : ServerEnd). x.link) is.3
link-kept y e (Clears s) new is = ap (λ (x : ServerEnd). x.link) is
link-kept y e (Applies n v b) new is = ap (λ (x : ServerEnd). x.link) is
link-kept y e (Waits n v) new is = ap (λ (x : ServerEnd). x.link) is
link-kept y e (Adds s) new is = ap (λ (x : ServerEnd). x.link) is.2.leaves
link-kept y e (Drops k) new is = ap (λ (x : ServerEnd). x.link) is
link-kept y e (Switches on) new is = ap (λ (x : ServerEnd). x.link) is

-- a message that neither opens nor clears one leaves the channels
abbrev Same : ServerEnd → ServerEnd → Type 0
Same e new = new.channels ≡ e.channels

-- what is open under a handle where the channels are the same
there : (e new : ServerEnd) (g : Handle) (c : OpenChannel) → Same e new → under e.channels g ≡ Some c → under new.channels g ≡ Some c
there e new g c same is = subst (λ (t : Table OpenChannel). under t g ≡ Some c) (sym same) is

back : (e new : ServerEnd) (g : Handle) (c : OpenChannel) → Same e new → under new.channels g ≡ Some c → under e.channels g ≡ Some c
back e new g c same is = subst (λ (t : Table OpenChannel). under t g ≡ Some c) same is

and-true : (a b : Bool) → a ≡ true → (a && b) ≡ false → b ≡ false
and-true true b e is = is
and-true false b e is = absurd cc

-- the channel of a put that may stay is open still
pub stay-channel : (y : Server) (h : Handle) (e : ServerEnd) (a : Action) (new : ServerEnd) (w : WaitingPut) (c : OpenChannel) → Acts y e a new → same_handle w.put.circuit h ≡ true → Stays h a w → under e.channels w.put.channel ≡ Some c → under new.channels w.put.channel ≡ Some c
stay-channel y h e Nothing new w c is hit stay at = there e new w.put.channel c (ap (λ (x : ServerEnd). x.channels) is) at
stay-channel y h e Greets new w c is hit stay at = there e new w.put.channel c (ap (λ (x : ServerEnd). x.channels) is) at
stay-channel y h e (Names p) new w c is hit stay at = there e new w.put.channel c (ap (λ (x : ServerEnd). x.channels) is) at
stay-channel y h e (Opens k) new w c is hit stay at =
    let after = ap (λ (x : ServerEnd). x.channels) is.3 in
    subst (λ (t : Table OpenChannel). under t w.put.channel ≡ Some c) (sym after) (held-other e.channels w.put.channel is.0 (record { cid = k.cid; name = k.name; retired = false }) c is.1 at)
stay-channel y h e (Clears sid) new w c is hit stay at =
    let after = ap (λ (x : ServerEnd). x.channels) is in
    subst (λ (t : Table OpenChannel). under t w.put.channel ≡ Some c) (sym after) (by (by_wire e.channels sid) refl)
  where
    by : (found : Option (Handle × OpenChannel)) → by_wire e.channels sid ≡ found → under (unwrap_or (option_map (λ (c : Handle × OpenChannel). with_freed c.0 e.channels) found) e.channels) w.put.channel ≡ Some c
    by None none = at
    by (Some f) some =
        freed-other e.channels w.put.channel f.0 c at
        (λ one. both-bools (wire_of w.put.channel == sid) (eq-eqb (wire_of w.put.channel) sid (ap wire_of one ∙ (wire-under e.channels sid f some).1)) (and-true (same_handle w.put.circuit h) (wire_of w.put.channel == sid) hit stay))
stay-channel y h e (Applies n v b) new w c is hit stay at = there e new w.put.channel c (ap (λ (x : ServerEnd). x.channels) is) at
stay-channel y h e (Waits n v) new w c is hit stay at = there e new w.put.channel c (ap (λ (x : ServerEnd). x.channels) is) at
stay-channel y h e (Adds s) new w c is hit stay at = there e new w.put.channel c (ap (λ (x : ServerEnd). x.channels) is.2.leaves) at
stay-channel y h e (Drops k) new w c is hit stay at = there e new w.put.channel c (ap (λ (x : ServerEnd). x.channels) is) at
stay-channel y h e (Switches on) new w c is hit stay at = there e new w.put.channel c (ap (λ (x : ServerEnd). x.channels) is) at

-- a channel that is open after was open before, or its record is there
pub back-channel : (y : Server) (rs : List Record) (e : ServerEnd) (m : Fields) (a : Action) (new : ServerEnd) (g : Handle) (c : OpenChannel) → Acts y e a new → Fits rs e m a → under new.channels g ≡ Some c → (under e.channels g ≡ Some c) ⊎ ((r : Record) × (record_named rs c.name ≡ Some r))
back-channel y rs e m Nothing new g c is fits at = inl (back e new g c (ap (λ (x : ServerEnd). x.channels) is) at)
back-channel y rs e m Greets new g c is fits at = inl (back e new g c (ap (λ (x : ServerEnd). x.channels) is) at)
back-channel y rs e m (Names p) new g c is fits at = inl (back e new g c (ap (λ (x : ServerEnd). x.channels) is) at)
back-channel y rs e m (Opens k) new g c is fits at =
    let after = ap (λ (x : ServerEnd). x.channels) is.3 in
    let made : OpenChannel = record { cid = k.cid; name = k.name; retired = false } in
    elim (held-back e.channels g is.0 made c (subst (λ (t : Table OpenChannel). under t g ≡ Some c) after at)) [
      | inl own ↦ inr (fits.0, subst (λ (n : List ℕ). record_named rs n ≡ Some fits.0) (ap (λ (x : OpenChannel). x.name) (sym own.1)) fits.1)
      | inr old ↦ inl old
    ]
back-channel y rs e m (Clears sid) new g c is fits at =
    let after = ap (λ (x : ServerEnd). x.channels) is in
    inl (by (by_wire e.channels sid) (subst (λ (t : Table OpenChannel). under t g ≡ Some c) after at))
  where
    by : (found : Option (Handle × OpenChannel)) → under (unwrap_or (option_map (λ (c : Handle × OpenChannel). with_freed c.0 e.channels) found) e.channels) g ≡ Some c → under e.channels g ≡ Some c
    by None h = h
    by (Some f) h = (freed-back e.channels g f.0 c h).1
back-channel y rs e m (Applies n v b) new g c is fits at = inl (back e new g c (ap (λ (x : ServerEnd). x.channels) is) at)
back-channel y rs e m (Waits n v) new g c is fits at = inl (back e new g c (ap (λ (x : ServerEnd). x.channels) is) at)
back-channel y rs e m (Adds s) new g c is fits at = inl (back e new g c (ap (λ (x : ServerEnd). x.channels) is.2.leaves) at)
back-channel y rs e m (Drops k) new g c is fits at = inl (back e new g c (ap (λ (x : ServerEnd). x.channels) is) at)
back-channel y rs e m (Switches on) new g c is fits at = inl (back e new g c (ap (λ (x : ServerEnd). x.channels) is) at)

-- the new put is on an open channel to its record
pub new-channel : (y : Server) (rs : List Record) (h : Handle) (e : ServerEnd) (m : Fields) (a : Action) (new : ServerEnd) (q : Record) (w : WaitingPut) → Acts y e a new → Fits rs e m a → IsNew h e m a q w → (c : OpenChannel) × (under new.channels w.put.channel ≡ Some c) × (c.name ≡ q.state.name) × (c.retired ≡ false)
new-channel y rs h e m (Waits name value) new q w is fits put =
    let f = fits.0 in
    let p = put.0.0 in
    let one : p ≡ f = some_is p f (sym put.0.1 ∙ fits.1) in
    let open_there : under e.channels f.0 ≡ Some f.1 = (wire-under e.channels m.p1 f fits.1).0 in
    let channel : w.put.channel ≡ f.0 = ap (λ (x : Put). x.channel) put.0.2 ∙ ap (λ (x : Handle × OpenChannel). x.0) one in
    let here : under e.channels w.put.channel ≡ Some f.1 = subst (λ (g : Handle). under e.channels g ≡ Some f.1) (sym channel) open_there in (
      f.1,
      there e new w.put.channel f.1 (ap (λ (x : ServerEnd). x.channels) is) here,
      fits.2 ∙ sym ((bytes_eq-Decides q.state.name name).0 put.1),
      fits.3,
    )
new-channel y rs h e m Nothing new q w is fits put = absurd put
new-channel y rs h e m Greets new q w is fits put = absurd put
new-channel y rs h e m (Names p) new q w is fits put = absurd put
new-channel y rs h e m (Opens c) new q w is fits put = absurd put
new-channel y rs h e m (Clears s) new q w is fits put = absurd put
new-channel y rs h e m (Applies n v b) new q w is fits put = absurd put
new-channel y rs h e m (Adds s) new q w is fits put = absurd put
new-channel y rs h e m (Drops k) new q w is fits put = absurd put
new-channel y rs h e m (Switches on) new q w is fits put = absurd put
